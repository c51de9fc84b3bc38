-- Laws: from written tokens to the facts about printing.
use Rattle.std.proofs.Common.{ap, subst, sym, ◌∙◌, ◌≡◌, ℕ, Bool, true, false, List, []}
use Rattle.wat_print.specs.Prelude.{IsCut, visible_tokens, Token, Placed, tokens_of, Production, TextSpells, Writes, is_given, WellFormed, each, may_break, NoneSpells, Page, put, printed_text, blank_page}
use Rattle.wat_print.specs.declared.output.Layout.{Layout}
use Rattle.wat_print.specs.declared.output.Layout.TheVariants.{Line}
use Rattle.wat_print.specs.Laws.Given.{text_given, part_given}
use Rattle.wat_print.specs.Laws.Nesting.{well_formed_cut, well_formed_visible}
use Rattle.wat_print.specs.Laws.Written.{put_puts}

-- the one-line text of tokens that were written on a new page
pub on_one_line : (layout : Layout) (ts : List Token) (p q : Page) (x : List ℕ) → layout ≡ Line
    → p ≡ blank_page (may_break layout) → Writes ts p q → x ≡ q.bytes → x ≡ printed_text ts
on_one_line layout ts p q x l e w b =
    let start : p ≡ blank_page false = e ∙ ap (λ (k : Layout). blank_page (may_break k)) l in
    let whole : p.lines ≡ false = ap (λ (k : Page). k.lines) start in
    b ∙ ap (λ (k : Page). k.bytes) (put_puts ts p q whole w)
    ∙ ap (λ (k : Page). (put k ts).bytes) start

-- the text is cut into these tokens
pub cut_back : (ts : List Token) (lines : Bool) (p q : Page) (x : List ℕ) → WellFormed ts
    → p ≡ blank_page lines → Writes ts p q → x ≡ q.bytes
    → (ps : List Placed) × IsCut x ps × (tokens_of ps ≡ ts)
cut_back ts lines p q x n e w b =
    subst (λ (y : List ℕ). (ps : List Placed) × IsCut y ps × (tokens_of ps ≡ ts)) (sym b)
    (well_formed_cut ts lines q n (subst (λ (k : Page). Writes ts k q) e w))

module _ {A : Type 0} (g : Production A) (v : A) where
  pub reads_back : (ts : List Token) (lines : Bool) (p q : Page) (x : List ℕ) → WellFormed ts
      → g.spells v ts [] → p ≡ blank_page lines → Writes ts p q → x ≡ q.bytes
      → TextSpells true g x v
  reads_back ts lines p q x n s e w b =
      let c = cut_back ts lines p q x n e w b in
      let seen : visible_tokens true _ ≡ ts =
      ap (λ (l : List Token). visible_tokens true l) c.2 ∙ well_formed_visible ts n in
      (c.0, c.1, subst (λ (l : List Token). g.spells v l []) (sym seen) s)

  -- if every value that a text spells is printable, no text spells a value that isn't printable
  pub unspelled : (printable : Bool) → printable ≡ false
      → ((c r : List Token) → each is_given c ≡ true → g.spells v c r → printable ≡ true)
      → NoneSpells g v
  unspelled printable e only x ps known b c r u k s h =
      let a = text_given x ps known u k in
      let f = only c r (part_given b c r (subst (λ (l : List Token). each is_given l ≡ true) s a)) h
      in
      absurd cc
