-- Laws: the groups that aren't inline exports and imports.
use Rattle.std.specs.Prelude.{◌≡◌, ℕ, Bool, false, List, ◌∷◌, codes, refl}
use Rattle.wat_core.specs.Prelude.{bytes_eq, Token, LParen, Keyword, begins_inline_export, begins_inline_import}

-- the test fails for a group of the word
abbrev pub OnGroup : (List Token → Bool) → List ℕ → Type 0
OnGroup test w = (y : List Token) → test (LParen ∷ Keyword w ∷ y) ≡ false

pub no_export : (k : List ℕ) → bytes_eq k (codes "export") ≡ false → OnGroup begins_inline_export k
no_export k e y = rw e refl

pub no_import_word : (k : List ℕ) → bytes_eq k (codes "import") ≡ false
    → OnGroup begins_inline_import k
no_import_word k e y = rw e refl
