-- How tokens are laid out on lines.
use Rattle.std.specs.Prelude.{◌≡◌, ℕ, zero, suc, true, not, ◌&&◌, if◌then◌else◌, List, [], ◌∷◌, ◌++◌}
use Rattle.wat_lexer.specs.Token.{Token}
use Rattle.wat_print.specs.Text.{Page, put_one}

abbrev pub blanks : ℕ → List ℕ
blanks zero = []
blanks (suc n) = 32 ∷ blanks n

-- a token, or a line break followed by n blanks
pub data LayoutPart : Type 0 where
  one : Token → LayoutPart
  line : ℕ → LayoutPart

-- appends a line break and n blanks; nothing if the page is tight or its lines can't be broken
abbrev pub broken : ℕ → Page → Page
broken n p =
    if p.lines && not p.tight then record {
      bytes = p.bytes ++ (10 ∷ blanks n);
      tight = true;
      lines = p.lines;
    } else p

abbrev pub lay : Page → List LayoutPart → Page
lay p [] = p
lay p (one t ∷ ps) = lay (put_one p t) ps
lay p (line n ∷ ps) = lay (broken n p) ps

abbrev pub tokens_in : List LayoutPart → List Token
tokens_in [] = []
tokens_in (one t ∷ ps) = t ∷ tokens_in ps
tokens_in (line n ∷ ps) = tokens_in ps

-- The page was a, and is b after the tokens are written. Lines may be broken between the tokens, if
-- the page allows line breaks.
pub record Writes (ts : List Token) (a b : Page) : Type 0 where
  pub pieces : List LayoutPart
  pub tokens : tokens_in pieces ≡ ts
  pub page : b ≡ lay a pieces
