-- Tokens that are written on lines, in order and in groups.
use Rattle.std.specs.Prelude.{◌≡◌, ℕ, List, [], ◌∷◌, ◌++◌}
use Rattle.wat_print_instr.specs.Laws.Prelude.{drop_more, Token, LParen, RParen, Keyword, in_parens, Writes, Page, put, puts_put, puts_both, puts_line, put_both}
use Rattle.wat_print.specs.Layout.{broken}
use Rattle.wat_print.specs.Parts.{grouped}

-- the tokens ts on one line, and then the tokens us
pub puts_first : (ts us : List Token) (a b c : Page) → b ≡ put a ts → Writes us b c
    → Writes (ts ++ us) a c
puts_first ts us a b c e w = puts_both ts us a b c (puts_put ts a b e) w

-- the tokens ts, and then the tokens us on one line
pub puts_last : (ts us : List Token) (a b c : Page) → Writes ts a b → c ≡ put b us
    → Writes (ts ++ us) a c
puts_last ts us a b c w e = puts_both ts us a b c w (puts_put us b c e)

-- tokens in parentheses
pub puts_parens : (ts : List Token) (a b c d : Page) → b ≡ put a (LParen ∷ []) → Writes ts b c
    → d ≡ put c (RParen ∷ []) → Writes (in_parens ts) a d
puts_parens ts a b c d e w f =
    puts_first (LParen ∷ []) (ts ++ RParen ∷ []) a b d e
    (puts_last ts (RParen ∷ []) b c d w f)

-- a word and tokens in parentheses
pub puts_grouped : (w : List ℕ) (ts : List Token) (a b c d e : Page) → b ≡ put a (LParen ∷ [])
    → c ≡ put b (Keyword w ∷ []) → Writes ts c d → e ≡ put d (RParen ∷ [])
    → Writes (grouped w ts) a e
puts_grouped w ts a b c d e f g k h =
    puts_parens (Keyword w ∷ ts) a b d e f (puts_first (Keyword w ∷ []) ts b c d g k) h

-- tokens after a line break
pub puts_broken : (n : ℕ) (ts : List Token) (a b c : Page) → b ≡ broken n a → Writes ts b c
    → Writes ts a c
puts_broken n ts a b c e w = puts_both [] ts a b c (puts_line n a b e) w

-- a line break, and tokens in parentheses
pub puts_line_parens : (ts : List Token) (z a b c d : Page) → (n : ℕ) × (a ≡ broken n z)
    → b ≡ put a (LParen ∷ []) → Writes ts b c → d ≡ put c (RParen ∷ [])
    → Writes (in_parens ts) z d
puts_line_parens ts z a b c d l e w f =
    puts_broken l.0 (in_parens ts) z a d l.1 (puts_parens ts a b c d e w f)

-- a line break, a word and tokens in parentheses
pub puts_line_grouped : (w : List ℕ) (ts : List Token) (z a b c d e : Page)
    → (n : ℕ) × (a ≡ broken n z) → b ≡ put a (LParen ∷ []) → c ≡ put b (Keyword w ∷ [])
    → Writes ts c d → e ≡ put d (RParen ∷ []) → Writes (grouped w ts) z e
puts_line_grouped w ts z a b c d e l f g k h =
    puts_line_parens (Keyword w ∷ ts) z a b d e l f (puts_first (Keyword w ∷ []) ts b c d g k) h

-- a token, and then the tokens us
pub puts_word : (t : Token) (us : List Token) (a b c : Page) → b ≡ put a (t ∷ []) → Writes us b c
    → Writes (t ∷ us) a c
puts_word t us a b c e w = puts_first (t ∷ []) us a b c e w

-- tokens that begin with a word, in parentheses
pub puts_worded : (w : List ℕ) (ts : List Token) (a b c d : Page) → b ≡ put a (LParen ∷ [])
    → Writes (Keyword w ∷ ts) b c → d ≡ put c (RParen ∷ []) → Writes (grouped w ts) a d
puts_worded w ts a b c d e k f = puts_parens (Keyword w ∷ ts) a b c d e k f

-- what the turns of a loop write on one line
pub ruleset in_a_loop = (drop_more, put_both)

-- what calls write on one line, as tokens on lines
pub ruleset on_one_line = (puts_put, put_both)

-- tokens on one line, and further tokens after them
pub ruleset in_order = (puts_put, puts_first)

-- what calls write, one after the other and in groups
pub ruleset on_lines = (
  puts_put,
  puts_word,
  puts_first,
  puts_last,
  puts_both,
  puts_parens,
  puts_worded,
  puts_grouped,
  puts_line_grouped,
)
