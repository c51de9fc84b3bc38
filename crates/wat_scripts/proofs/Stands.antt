-- The offsets of a text's tokens: in order, and each parenthesis at a separate byte.
use Rattle.std.proofs.Common.{◌≡◌, ℕ, ◌+◌, ◌-◌, ◌<◌, ◌≤◌, List, [], ◌∷◌, ◌++◌, length, drop, codes, get_or, refl, ap, sym, ◌∙◌, arith, length-append, append_assoc, inl, inr, Bool, true, false, Option, Some, None}
use Rattle.std.proofs.Math.Seq.{get_or-append_seam}
use Rattle.std.proofs.lemmas.List.Elements.{All-append, All-cons, All-nil}
use Rattle.std.proofs.lemmas.Str.{IsCharBoundary-after_ascii, IsCharBoundary-before_ascii}
use Rattle.std.specs.List.{All}
use Rattle.std.specs.Str.{IsUtf8}
use Rattle.wat_lexer.specs.Cut.{Cuts, done, blank, token, IsToken}
use Rattle.wat_lexer.specs.Laws.Prelude.{cases_Bool}
use Rattle.wat_lexer.specs.Prelude.{IsCut, Token, Placed, LParen, RParen, tokens_of, begins_hidden_group, shuts, deeper}
use Rattle.wat_lexer.specs.View.{is_paren}
use Rattle.wat_tokens.specs.Tests.{begins_word}
use Rattle.wat_scripts.specs.Scripts.{close_at, is_module, module_of, group_module, PartModules, CommandModules, CommandsModules, IsPart}
use Rattle.wat_scripts.specs.Visible.{visible_at, visible_placed}
use Rattle.wat_scripts.specs.declared.modules.ScriptModule.{ScriptModule}

abbrev pub IsAsciiAt : List ℕ → ℕ → Type 0
IsAsciiAt text i = (i < length text) × (get_or text i 0 < 128)

-- no token has an offset before the place, and none before the preceding token
abbrev pub Stands : List ℕ → ℕ → List Placed → Type 0
Stands text low [] = Unit {0}
Stands text low (p ∷ ts) = (low ≤ p.offset) × (is_paren p.token ≡ true → IsAsciiAt text p.offset) × Stands text p.offset ts

stands_less : (text : List ℕ) (low high : ℕ) (ts : List Placed) → low ≤ high → Stands text high ts → Stands text low ts
stands_less text low high [] le s = tt
stands_less text low high (p ∷ ts) le (a, b, c) = (omega arith, b, c)

-- ---- of a cut

paren_byte : (behind : Bool) (x rest : List ℕ) (t : Token) → IsToken behind x rest t → is_paren t ≡ true → (b : ℕ) × (y : List ℕ) × (x ≡ b ∷ y) × (b < 128)
paren_byte behind x rest LParen (e, h) p = (40, [], e, omega arith)
paren_byte behind x rest RParen e p = (41, [], e, omega arith)
paren_byte behind x rest _ e p = absurd cc

byte_at : (text before x rest : List ℕ) (b : ℕ) (y : List ℕ) → text ≡ before ++ (x ++ rest) → x ≡ b ∷ y → b < 128 → IsAsciiAt text (length before)
byte_at text before x rest b y e f lt =
    let whole : text ≡ before ++ b ∷ (y ++ rest) = e ∙ ap (λ l. before ++ (l ++ rest)) f in
    rw whole (omega (arith, length-append before (b ∷ (y ++ rest))), rw (get_or-append_seam before b (y ++ rest) 0) lt)

stands_cuts : (n : ℕ) (behind : Bool) (end : List ℕ) (ts : List Placed) → Cuts n behind end ts → (text before : List ℕ) → text ≡ before ++ end → n ≡ length text → Stands text (length before) ts
stands_cuts n behind end ts (done m b) text before e size = tt
stands_cuts n behind end ts (blank m b whole x rest us is h c) text before e size =
    let next : text ≡ (before ++ x) ++ rest = e ∙ ap (λ l. before ++ l) is ∙ sym (append_assoc before x rest) in
    stands_less text (length before) (length (before ++ x)) us (omega (arith, length-append before x)) (stands_cuts n false rest us c text (before ++ x) next size)
stands_cuts n behind end ts (token m b whole x rest t us is h c) text before e size =
    let next : text ≡ (before ++ x) ++ rest = e ∙ ap (λ l. before ++ l) is ∙ sym (append_assoc before x rest) in
    let here : n - length whole ≡ length before = omega (arith, ap length e, length-append before whole) in
    rw here (
      omega arith,
      (λ p. let (byte, y, f, lt) = paren_byte b x rest t h p in byte_at text before x rest byte y (e ∙ ap (λ l. before ++ l) is) f lt),
      stands_less text (length before) (length (before ++ x)) us (omega (arith, length-append before x)) (stands_cuts n _ rest us c text (before ++ x) next size),
    )

pub cut_stands : (text : List ℕ) (ts : List Placed) → IsCut text ts → Stands text 0 ts
cut_stands text ts cut = stands_cuts (length text) false text ts cut.0 text [] refl refl

-- ---- of parts of the tokens

stands_after : (text : List ℕ) (low : ℕ) (ts us : List Placed) → Stands text low (ts ++ us) → Stands text low us
stands_after text low [] us s = s
stands_after text low (p ∷ ts) us (a, b, c) = stands_less text low p.offset us a (stands_after text p.offset ts us c)

stands_before : (text : List ℕ) (low : ℕ) (ts us : List Placed) → Stands text low (ts ++ us) → Stands text low ts
stands_before text low [] us s = tt
stands_before text low (p ∷ ts) us (a, b, c) = (a, b, stands_before text p.offset ts us c)

stands_visible : (text : List ℕ) (low : ℕ) (place : Option ℕ) (ts : List Placed) → Stands text low ts → Stands text low (visible_at false place ts)
unfolding visible_at
stands_visible text low None [] s = tt
stands_visible text low (Some d) [] s = tt
stands_visible text low None (p ∷ ts) (a, b, c) = elim (cases_Bool (begins_hidden_group false (tokens_of (p ∷ ts)))) [
  | inl h ↦ rw h (stands_less text low p.offset (visible_at false (Some 0) ts) a (stands_visible text p.offset (Some 0) ts c))
  | inr h ↦ rw h (a, b, stands_visible text p.offset None ts c)
]
stands_visible text low (Some d) (p ∷ ts) (a, b, c) = elim (cases_Bool (shuts p.token d)) [
  | inl h ↦ rw h (stands_less text low p.offset (visible_at false None ts) a (stands_visible text p.offset None ts c))
  | inr h ↦ rw h (stands_less text low p.offset (visible_at false (Some (deeper p.token d)) ts) a (stands_visible text p.offset (Some (deeper p.token d)) ts c))
]

-- ---- modules as parts of the text

module_part : (text : List ℕ) (from to : ℕ) (definition : Option ℕ) → IsUtf8 text → IsAsciiAt text from → from ≤ to → IsAsciiAt text to → IsPart text (record { start = from; end = to + 1; definition = definition })
module_part text from to definition u (lt, ascii) le (in_text, byte) = record {
  order = omega arith;
  begin = IsCharBoundary-before_ascii text from lt ascii;
  finish = IsCharBoundary-after_ascii text to u in_text byte;
}

module_parts : (text : List ℕ) (from to : ℕ) (ts : List Placed) → IsUtf8 text → IsAsciiAt text from → from ≤ to → IsAsciiAt text to → All (IsPart text) (module_of from to ts)
module_parts text from to ts u a le b = elim (cases_Bool (is_module (tokens_of ts))) [
  | inl h ↦ rw h (All-cons (IsPart text) _ [] (module_part text from to _ u a le b) (All-nil (IsPart text)))
  | inr h ↦ rw h (All-nil (IsPart text))
]

group_parts : (text : List ℕ) (from to : ℕ) (inner : List Placed) → IsUtf8 text → IsAsciiAt text from → from ≤ to → IsAsciiAt text to → All (IsPart text) (group_module from to inner)
group_parts text from to inner u a le b = elim (cases_Bool (begins_word (codes "module") (tokens_of inner))) [
  | inl h ↦ rw h (module_parts text from to (drop 1 inner) u a le b)
  | inr h ↦ rw h (All-nil (IsPart text))
]

parts_in : (text : List ℕ) (ts : List Placed) (ms : List ScriptModule) → PartModules ts ms → IsUtf8 text → (low : ℕ) → Stands text low ts → All (IsPart text) ms
parts_in text ts ms PartModules.none u low s = All-nil (IsPart text)
parts_in text ts ms (PartModules.token p us ns plain m) u low (a, b, c) = parts_in text us ns m u p.offset c
parts_in text ts ms (PartModules.group from to inner us ns closed m) u low (a, b, c) =
    let (le, at, rest) = stands_after text from inner (close_at to ∷ us) c in
    All-append (IsPart text) (group_module from to inner) ns (group_parts text from to inner u (b refl) le (at refl)) (parts_in text us ns m u to rest)

command_in : (text : List ℕ) (from to : ℕ) (inner : List Placed) (ms : List ScriptModule) → CommandModules from to inner ms → IsUtf8 text → IsAsciiAt text from → from ≤ to → IsAsciiAt text to → (low : ℕ) → Stands text low inner → All (IsPart text) ms
command_in text from to inner ms (CommandModules.a_module f t at ts closed) u a le b low s = module_parts text f t ts u a le b
command_in text from to inner ms (CommandModules.other f t at w ts ns is other m) u a le b low (_, _, c) = parts_in text ts ns m u at c

commands_in : (text : List ℕ) (ts : List Placed) (ms : List ScriptModule) → CommandsModules ts ms → IsUtf8 text → (low : ℕ) → Stands text low ts → All (IsPart text) ms
commands_in text ts ms CommandsModules.none u low s = All-nil (IsPart text)
commands_in text ts ms (CommandsModules.command from to inner us ks ns k m) u low (a, b, c) =
    let (le, at, rest) = stands_after text from inner (close_at to ∷ us) c in
    All-append (IsPart text) ks ns (command_in text from to inner ks k u (b refl) le (at refl) from (stands_before text from inner (close_at to ∷ us) c)) (commands_in text us ns m u to rest)

-- the modules of a script are parts of the text
pub script_parts : (text : List ℕ) (ts : List Placed) (ms : List ScriptModule) → IsUtf8 text → IsCut text ts → CommandsModules (visible_placed ts) ms → All (IsPart text) ms
unfolding visible_placed
script_parts text ts ms u cut m = commands_in text (visible_placed ts) ms m u 0 (stands_visible text 0 None ts (cut_stands text ts cut))
