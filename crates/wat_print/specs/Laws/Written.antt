-- Laws: tokens that are written one after the other.
use Rattle.std.proofs.Common.{ap, subst, sym, ◌∙◌, append_assoc, append-nil, arith, ◌≡◌, ℕ, zero, suc, ◌+◌, ◌*◌, ◌-◌, ◌<◌, Bool, true, not, ◌&&◌, List, [], ◌∷◌, ◌++◌, length, map, flat_map, take, false, ◌==◌, refl, get_or}
use Rattle.wat_types.specs.Prelude.{take_more, and_parts, and_right, cond_both}
use Rattle.wat_print.specs.Prelude.{Token, LParen, RParen, Keyword, LayoutPart, line, blanks, broken, lay, tokens_in, Writes, Page, put, in_parens, Group, param, result, ParamModel, Label, ValTypeModel, param_label, params_form, func_group_form, param_groups, result_groups, none_labelled, by_itself, in_groups, each, WroteLines, grouped}
use Rattle.wat_print.specs.Layout.{one}
use Rattle.wat_print.specs.Text.{put_one}
use Rattle.wat_print.specs.Parts.{Wrote}

-- ---- pages

lay_put : (ts : List Token) (p : Page) → put p ts ≡ lay p (map one ts)
lay_put [] p = refl
lay_put (t ∷ ts) p = lay_put ts (put_one p t)

tokens_one : (ts : List Token) → tokens_in (map one ts) ≡ ts
tokens_one [] = refl
tokens_one (t ∷ ts) = ap (λ (l : List Token). t ∷ l) (tokens_one ts)

-- on one line
pub puts_put : (ts : List Token) (a b : Page) → b ≡ put a ts → Writes ts a b
puts_put ts a b e =
    record { pieces = map one ts; tokens = tokens_one ts; page = e ∙ lay_put ts a }

pub unbroken : (n : ℕ) (p : Page) → p.lines ≡ false → broken n p ≡ p
unbroken n p h =
    cond_both (p.lines && not p.tight) _ p (λ (q : Page). q ≡ p)
    (λ e. (let a = (and_parts p.lines (not p.tight) e).0 in absurd cc)) (λ e. refl)

-- if lines can't be broken, a layout is the tokens on one line
line_whole : (ps : List LayoutPart) (p : Page) → p.lines ≡ false → lay p ps ≡ put p (tokens_in ps)
line_whole [] p h = refl
line_whole (one t ∷ ps) p h = line_whole ps (put_one p t) h
line_whole (line n ∷ ps) p h =
    ap (λ (q : Page). lay q ps) (unbroken n p h) ∙ line_whole ps p h

pub put_puts : (ts : List Token) (a b : Page) → a.lines ≡ false → Writes ts a b → b ≡ put a ts
put_puts ts a b h w = w.page ∙ line_whole w.pieces a h ∙ ap (λ (l : List Token). put a l) w.tokens

-- a line break, or nothing
pub puts_line : (n : ℕ) (a b : Page) → b ≡ broken n a → Writes [] a b
puts_line n a b e = record { pieces = line n ∷ []; tokens = refl; page = e }

lay_both : (ps qs : List LayoutPart) (p : Page) → lay p (ps ++ qs) ≡ lay (lay p ps) qs
lay_both [] qs p = refl
lay_both (one t ∷ ps) qs p = lay_both ps qs (put_one p t)
lay_both (line n ∷ ps) qs p = lay_both ps qs (broken n p)

tokens_both : (ps qs : List LayoutPart) → tokens_in (ps ++ qs) ≡ tokens_in ps ++ tokens_in qs
tokens_both [] qs = refl
tokens_both (one t ∷ ps) qs = ap (λ (l : List Token). t ∷ l) (tokens_both ps qs)
tokens_both (line n ∷ ps) qs = tokens_both ps qs

-- two writes in sequence
pub puts_both : (ts us : List Token) (a b c : Page) → Writes ts a b → Writes us b c
    → Writes (ts ++ us) a c
puts_both ts us a b c v w =
    record {
      pieces = v.pieces ++ w.pieces;
      tokens = tokens_both v.pieces w.pieces
          ∙ ap (λ (l : List Token). l ++ tokens_in w.pieces) v.tokens
          ∙ ap (λ (l : List Token). ts ++ l) w.tokens;
      page = w.page ∙ ap (λ (p : Page). lay p w.pieces) v.page
          ∙ sym (lay_both v.pieces w.pieces a);
    }

-- ---- tokens on one line

pub put_both : (a b : List Token) (p : Page) → put p (a ++ b) ≡ put (put p a) b
put_both [] b p = refl
put_both (t ∷ a) b p = put_both a b (put_one p t)

module _ {X A : Type 0} (view : X → A) (spell : A → List Token) (printable : A → Bool) where
  spell_last : (xs : List X) (x : X) → flat_map spell (map view (xs ++ x ∷ []))
      ≡ flat_map spell (map view xs) ++ spell (view x)
  spell_last [] x = append-nil (spell (view x))
  spell_last (y ∷ xs) x =
      ap (λ (l : List Token). spell (view y) ++ l) (spell_last xs x)
      ∙ sym (append_assoc (spell (view y)) (flat_map spell (map view xs)) (spell (view x)))

  printable_last : (xs : List X) (x : X) → each printable (map view xs) ≡ true
      → printable (view x) ≡ true
      → each printable (map view (xs ++ x ∷ [])) ≡ true
  printable_last [] x e f = rw f refl
  printable_last (y ∷ xs) x e f =
      let p = and_parts (printable (view y)) (each printable (map view xs)) e in
      rw (p.0) (printable_last xs x p.1 f)

  -- one more value
  pub wrote_more : (xs : List X) (i : ℕ) (d : X) (a b c : Page) → i < length xs
      → Wrote view spell printable (take i xs) a b → c ≡ put b (spell (view (get_or xs i d)))
      → printable (view (get_or xs i d)) ≡ true
      → Wrote view spell printable (take (i + 1) xs) a c
  wrote_more xs i d a b c lt w e f =
      let x = get_or xs i d in
      subst (λ (l : List X). Wrote view spell printable l a c) (sym (take_more xs i d lt)) (record {
        written = e ∙ ap (λ (q : Page). put q (spell (view x))) w.written
            ∙ sym (put_both (flat_map spell (map view (take i xs))) (spell (view x)) a)
            ∙ ap (λ (l : List Token). put a l) (sym (spell_last (take i xs) x));
        fits = printable_last (take i xs) x w.fits f;
      })

  -- the same for the value at this index
  pub wrote_item : (xs : List X) (i : ℕ) (x : X) (a b c : Page) → i < length xs
      → x ≡ get_or xs i x → Wrote view spell printable (take i xs) a b
      → c ≡ put b (spell (view x)) → printable (view x) ≡ true
      → Wrote view spell printable (take (i + 1) xs) a c
  wrote_item xs i x a b c lt s w e f =
      wrote_more xs i x a b c lt w (subst (λ (y : X). c ≡ put b (spell (view y))) s e)
      (subst (λ (y : X). printable (view y) ≡ true) s f)

  -- one more value, with line breaks
  pub lines_more : (xs : List X) (i : ℕ) (x : X) (a b c : Page) → i < length xs
      → x ≡ get_or xs i x → WroteLines view spell printable (take i xs) a b
      → Writes (spell (view x)) b c
      → printable (view x) ≡ true → WroteLines view spell printable (take (i + 1) xs) a c
  lines_more xs i x a b c lt s w e f =
      let ys = take i xs in
      let same : take (i + 1) xs ≡ ys ++ x ∷ [] =
      take_more xs i x lt ∙ ap (λ (y : X). ys ++ y ∷ []) (sym s) in
      subst (λ (l : List X). WroteLines view spell printable l a c) (sym same) (record {
        written = subst (λ (l : List Token). Writes l a c) (sym (spell_last ys x))
            (puts_both (flat_map spell (map view ys)) (spell (view x)) a b c w.written e);
        fits = printable_last ys x w.fits f;
      })

-- a word and tokens in parentheses
pub put_grouped : (w : List ℕ) (ts : List Token) (p : Page)
    → put p (grouped w ts) ≡ put (put (put p (LParen ∷ Keyword w ∷ [])) ts) (RParen ∷ [])
put_grouped w ts p = put_both ts (RParen ∷ []) (put p (LParen ∷ Keyword w ∷ []))

-- `(`, the word, tokens, and `)`
pub enclosed : (w : List ℕ) (ts : List Token) (a b c d e : Page) → b ≡ put a (LParen ∷ [])
    → c ≡ put b (Keyword w ∷ []) → d ≡ put c ts → e ≡ put d (RParen ∷ [])
    → e ≡ put a (grouped w ts)
enclosed w ts a b c d e f g h i =
    i ∙ ap (λ (q : Page). put q (RParen ∷ []))
    (h ∙ ap (λ (q : Page). put q ts) (g ∙ ap (λ (q : Page). put q (Keyword w ∷ [])) f))
    ∙ sym (put_grouped w ts a)

-- two writes in sequence
pub put_then : (ts us : List Token) (a b c : Page) → b ≡ put a ts → c ≡ put b us
    → c ≡ put a (ts ++ us)
put_then ts us a b c e f = f ∙ ap (λ (q : Page). put q us) e ∙ sym (put_both ts us a)

-- if one value can't be written, not all values can be written
module _ {X A : Type 0} (view : X → A) (printable : A → Bool) where
  pub not_each : (xs : List X) (i : ℕ) (d : X) → i < length xs
      → printable (view (get_or xs i d)) ≡ false
      → each printable (map view xs) ≡ false
  not_each [] i d lt f = absurd (omega arith)
  not_each (x ∷ xs) zero d lt f = rw f refl
  not_each (x ∷ xs) (suc i) d lt f =
      and_right (printable (view x)) (each printable (map view xs)) (not_each xs i d (omega arith) f)

-- each turn of the loop appends two blanks
blanks_step : (times i : ℕ) → i < times
    → blanks (2 * (times - i)) ≡ 32 ∷ 32 ∷ blanks (2 * (times - (i + 1)))
blanks_step times i lt =
    let e : 2 * (times - i) ≡ suc (suc (2 * (times - (i + 1)))) = omega arith in rw e refl

pub blanks_turn : (x y z : List ℕ) (times i : ℕ) → i < times → y ≡ x ++ (32 ∷ 32 ∷ [])
    → x ++ blanks (2 * (times - i)) ≡ z → y ++ blanks (2 * (times - (i + 1))) ≡ z
blanks_turn x y z times i lt e h =
    let r = blanks (2 * (times - (i + 1))) in
    ap (λ (l : List ℕ). l ++ r) e ∙ append_assoc x (32 ∷ 32 ∷ []) r
    ∙ ap (λ (l : List ℕ). x ++ l) (sym (blanks_step times i lt)) ∙ h

broken_to : (n : ℕ) (p q : Page) → p.lines ≡ true → p.tight ≡ false
    → q ≡ record { bytes = p.bytes ++ (10 ∷ blanks n); tight = true; lines = p.lines }
    → q ≡ broken n p
broken_to n p q l t e =
    cond_both (p.lines && not p.tight) _ p (λ (k : Page). q ≡ k) (λ f. e)
    (λ f. (let a : p.lines && not p.tight ≡ true = rw (l, t) refl in absurd cc))

-- a line break, then the blanks
pub line_broken : (n : ℕ) (x y z : List ℕ) (lines tight : Bool) (p : Page)
    → record { bytes = x; tight = tight; lines = lines } ≡ p → lines ≡ true → tight ≡ false
    → y ≡ x ++ (10 ∷ []) → z ≡ y ++ blanks n
    → record { bytes = z; tight = true; lines = lines } ≡ broken n p
line_broken n x y z lines tight p v l t e f =
    subst (λ (k : Page). record { bytes = z; tight = true; lines = lines } ≡ broken n k) v
    (broken_to n (record { bytes = x; tight = tight; lines = lines })
    (record { bytes = z; tight = true; lines = lines }) l t
    (ap (λ (b : List ℕ). record { bytes = b; tight = true; lines = lines })
    (f ∙ ap (λ (b : List ℕ). b ++ blanks n) e ∙ append_assoc x (10 ∷ []) (blanks n))))

-- tokens in parentheses
pub put_parens : (ts : List Token) (a b c d : Page) → b ≡ put a (LParen ∷ []) → c ≡ put b ts
    → d ≡ put c (RParen ∷ []) → d ≡ put a (in_parens ts)
put_parens ts a b c d e f g =
    g ∙ ap (λ (q : Page). put q (RParen ∷ [])) (f ∙ ap (λ (q : Page). put q ts) e)
    ∙ sym (put_both ts (RParen ∷ []) (put a (LParen ∷ [])))

-- a line break, then tokens
pub puts_behind : (n : ℕ) (ts : List Token) (a b c : Page) → b ≡ broken n a → c ≡ put b ts
    → Writes ts a c
puts_behind n ts a b c e f = puts_both [] ts a b c (puts_line n a b e) (puts_put ts b c f)

-- if the value at an index can't be written, not all values can be written
pub not_each_item : {X A : Type 0} (view : X → A) (printable : A → Bool) (xs : List X) (i : ℕ)
    (x : X) → i < length xs → x ≡ get_or xs i x → printable (view x) ≡ false
    → each printable (map view xs) ≡ false
not_each_item {X = X} view printable xs i x lt s f =
    not_each view printable xs i x lt (subst (λ (y : X). printable (view y) ≡ false) s f)

-- ---- the groups of views of lists

spell_alone : {P : Type 0} (spell : List P → List Token) (ps : List P)
    → flat_map spell (map by_itself ps) ≡ flat_map (λ p. spell (by_itself p)) ps
spell_alone spell [] = refl
spell_alone spell (p ∷ ps) = ap (λ (l : List Token). spell (by_itself p) ++ l) (spell_alone spell
    ps)

module _ {X P : Type 0} (spell : List P → List Token) (label : P → Label) (view : X → P) where
  pub groups_together : (xs : List X) → (length xs == 0) ≡ false
      → none_labelled label (map view xs) ≡ true
      → flat_map spell (in_groups label (map view xs)) ≡ spell (map view xs)
  groups_together [] e u = absurd cc
  groups_together (x ∷ xs) e u = rw u (append-nil (spell (map view (x ∷ xs))))

  pub groups_alone : (xs : List X) → (length xs == 0) ≡ false
      → none_labelled label (map view xs) ≡ false
      → flat_map spell (in_groups label (map view xs))
      ≡ flat_map (λ p. spell (by_itself p)) (map view xs)
  groups_alone [] e u = absurd cc
  groups_alone (x ∷ xs) e u = rw u (spell_alone spell (map view (x ∷ xs)))

pub ruleset groups = (groups_together, groups_alone)

module _ {X : Type 0} (view : X → ValTypeModel) where
  pub results_together : (xs : List X) → (length xs == 0) ≡ false
      → result_groups (map view xs) ≡ result (map view xs) ∷ []
  results_together [] e = absurd cc
  results_together (x ∷ xs) e = refl

-- the groups of a function type: the groups of parameters, then the group of results
params_split : (gs : List (List ParamModel)) (hs : List Group)
    → flat_map func_group_form.spell (map param gs ++ hs)
    ≡ flat_map params_form.spell gs ++ flat_map func_group_form.spell hs
params_split [] hs = refl
params_split (g ∷ gs) hs =
    ap (λ (l : List Token). params_form.spell g ++ l) (params_split gs hs)
    ∙ sym (append_assoc (params_form.spell g) (flat_map params_form.spell gs)
    (flat_map func_group_form.spell hs))

pub function_split : (ps : List ParamModel) (ts : List ValTypeModel)
    → flat_map func_group_form.spell (param_groups ps ++ result_groups ts)
    ≡ flat_map params_form.spell (in_groups param_label ps)
    ++ flat_map func_group_form.spell (result_groups ts)
function_split ps ts = params_split (in_groups param_label ps) (result_groups ts)
