-- Laws: if the next tokens begin no inline import, no inline import is read.
use Rattle.std.specs.Prelude.{◌≡◌, ℕ, true, false, List, ◌∷◌, codes, Option, Some, None, refl}
use Rattle.wat_links.specs.Prelude.{bytes_eq, Token, LParen, RParen, Keyword, String, word_only, text_in, by_test, by_read, inline_import, begins_inline_import}

abbrev no_unit : Option (Unit {0})
no_unit = None

abbrev a_unit : Unit {0} → Option (Unit {0})
a_unit u = Some u

names_first : (a b c : Token) (u : Unit {0}) (m n : List ℕ) (r : List Token)
    → word_only (codes "import") a ≡ Some u → text_in b ≡ Some m → text_in c ≡ Some n
    → begins_inline_import (LParen ∷ a ∷ b ∷ c ∷ RParen ∷ r) ≡ true
names_first (Keyword k) (String s) (String s2) u m n r e f g =
    by_test (bytes_eq k (codes "import")) (λ b. rw b refl)
    (λ b. absurd (let h : no_unit ≡ a_unit u = rw b at e in cc))
names_first (Keyword k) (String s) _ u m n r e f g = absurd cc
names_first (Keyword k) _ c u m n r e f g = absurd cc
names_first _ b c u m n r e f g = absurd cc

pub no_import : (t : List Token) → begins_inline_import t ≡ false → inline_import.reads t ≡ None
unfolding inline_import
no_import t e =
    by_read (inline_import.reads t)
    (λ x f.
    (let y = inline_import.sound t x f in
    let p = y.2 in
    let s = p.2.1 in
    let q = s.4 in
    let k : begins_inline_import t ≡ true =
    rw (y.1, p.1, s.2, s.3.1, q.2, q.3.1, q.4.1)
    (names_first s.3.0 q.3.0 q.4.0 _ _ _ x.1 s.3.2 q.3.2 q.4.2) in
    absurd cc))
    (λ f. f)
