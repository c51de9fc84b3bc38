-- The results of lookups.
use Rattle.std.specs.Prelude.{◌≡◌, ◌∷◌, [], List, drop, Option, Some, None}
use Rattle.wat_lexer.specs.Prelude.{Token, visible_tokens, view, entry_tokens}
use Rattle.wat_tokens.specs.PartSpells.{one_reads}
use Rattle.wat_tokens.specs.declared.cursor.Cursor.{Cursor}
use Rattle.wat_lexer.specs.declared.token.Token as code

-- the tokens that a lookup sees
abbrev pub in_front : Cursor → List Token
in_front c = visible_tokens c.known (entry_tokens (drop c.at c.tokens.now))

-- the next token, or None if no token is left
abbrev pub FirstIs : Option code.Token → List Token → Type 0
FirstIs (Some x) t = t ≡ view x ∷ drop 1 t
FirstIs None t = t ≡ []

-- the next token and the position after it, or None if no token is left
abbrev pub NextIs : Option (code.Token × Cursor) → List Token → Type 0
NextIs (Some x) t = t ≡ view x.0 ∷ in_front x.1
NextIs None t = t ≡ []

-- a lookup returns the position after the next token if that token passes the test, else None
abbrev pub GivesRest : (Token → Option (Unit {0})) → List Token → Option Cursor → Type 0
GivesRest is t (Some c) = one_reads is t ≡ Some (tt, in_front c)
GivesRest is t None = one_reads is t ≡ None

-- the same, with the token's content, under the view content
abbrev pub GivesContent : {X A : Type 0} → (X → A) → (Token → Option A) → List Token
    → Option (X × Cursor) → Type 0
GivesContent content is t (Some x) = one_reads is t ≡ Some (content x.0, in_front x.1)
GivesContent content is t None = one_reads is t ≡ None
