-- The code's tokens as contracts see them.
use Rattle.std.specs.Prelude.{◌≡◌, ◌≢◌, ℕ, ◌≤◌, ◌<◌, ◌+◌, ◌-◌, ◌*◌, List, [], ◌∷◌, ◌++◌, length, drop, map, Bool, true, false, ◌||◌, Result, Ok, Err, MatchOption, slice_range}
use Rattle.std.specs.List.{AllByRecursion}
use Rattle.std.specs.Str.{IsUtf8}
use Rattle.std.proofs.Math.ListN.{get_or}
use Rattle.wat_lexer.specs.Token.{Token, Placed, Entry, LParen, RParen, Keyword, Id, Annotation, Integer, String, Reserved, is_open, is_close, is_annotation, has_annotation}
use Rattle.wat_lexer.specs.Cut.{Fails}
use Rattle.wat_lexer.specs.Integer.{text_of}
use Rattle.wat_lexer.specs.Offset.{offset_of}
use Rattle.wat_lexer.specs.Scan.{Beginning, BlankTo, TokenTo, Wrong, all_idchars}
use Rattle.wat_lexer.specs.Sight.{begins_hidden_group, hidden_count, visible_tokens}
use Rattle.wat_lexer.specs.declared.lexeme.Kind.{Kind}
use Rattle.wat_lexer.specs.declared.lexeme.Skips.{Skips}
use Rattle.wat_lexer.specs.declared.lexeme.Lexeme.{Lexeme}
use Rattle.wat_lexer.specs.declared.cut.Piece.{Piece}
use Rattle.wat_lexer.specs.declared.fault.Error.{Error}
use Rattle.wat_lexer.specs.declared.fault.Fault.TheVariants.{Memory}
use Rattle.wat_lexer.specs.declared.token.Token as code
use Rattle.wat_lexer.specs.declared.token.Token.TheVariants as of
use Rattle.wat_lexer.specs.declared.lexeme.Kind.TheVariants as kinds

abbrev pub view : code.Token → Token
view of.LParen = LParen
view of.RParen = RParen
view (of.Keyword s) = Keyword s.now
view (of.Id s) = Id s.now
view (of.Annotation s) = Annotation s.now
view (of.Integer i) = Integer (text_of i)
view (of.String s) = String s.now
view (of.Reserved s) = Reserved s.now

-- The token between two offsets of a text, by its kind. `other` is the token in the side table.
abbrev pub tok_at : Kind → List ℕ → ℕ → ℕ → Token → Token
tok_at kinds.LParen text from end other = LParen
tok_at kinds.RParen text from end other = RParen
tok_at kinds.Keyword text from end other = Keyword (slice_range text from end)
tok_at kinds.Id text from end other = Id (slice_range text (from + 1) end)
tok_at kinds.Annotation text from end other = other
tok_at kinds.Integer text from end other = Integer (slice_range text from end)
tok_at kinds.String text from end other = String (slice_range text (from + 1) (end - 1))
tok_at kinds.Reserved text from end other = Reserved (slice_range text from end)
tok_at kinds.InSideTable text from end other = other

-- the token of a kind, by its content, its name or its text
abbrev pub tok_of : Kind → List ℕ → Token
tok_of kinds.LParen content = LParen
tok_of kinds.RParen content = RParen
tok_of kinds.Keyword content = Keyword content
tok_of kinds.Id content = Id content
tok_of kinds.Annotation content = Annotation content
tok_of kinds.Integer content = Integer content
tok_of kinds.String content = String content
tok_of kinds.Reserved content = Reserved content
tok_of kinds.InSideTable content = Reserved content

-- the content of any token except a string is text
abbrev pub IsContent : Kind → List ℕ → Type 0
IsContent kinds.String content = Unit {0}
IsContent _ content = IsUtf8 content

-- the text between the offsets is a run of idchars, and longer than the prefix that is left out
abbrev pub Word : ℕ → List ℕ → ℕ → ℕ → Type 0
Word front text from end =
    (from + front < end) × (end ≤ length text) × (all_idchars (slice_range text from end) ≡ true)

-- A token of the kind can be read from the text there, or is in the side table. `other` is the
-- token in the side table. The kind decides whether it must be an annotation.
abbrev pub Readable : Kind → List ℕ → ℕ → ℕ → Type 0 → Token → Type 0
Readable kinds.LParen text from end stored other = Unit {0}
Readable kinds.RParen text from end stored other = Unit {0}
Readable kinds.Keyword text from end stored other = Word 0 text from end
Readable kinds.Id text from end stored other = Word 1 text from end
Readable kinds.Annotation text from end stored other = stored × (is_annotation other ≡ true)
Readable kinds.Integer text from end stored other = Word 0 text from end
Readable kinds.String text from end stored other = (from + 1 < end) × (end ≤ length text)
Readable kinds.Reserved text from end stored other = Word 0 text from end
Readable kinds.InSideTable text from end stored other = stored × (is_annotation other ≡ false)

abbrev pub is_paren : Token → Bool
is_paren t = is_open t || is_close t

-- no tokens are skipped
abbrev pub no_skips : Skips
no_skips = record { all = 0; unknown = 0 }

-- the item after the end of the side table
abbrev pub no_side_entry : Placed
no_side_entry = record { token = LParen; offset = 0 }

-- the token at an index of the side table
abbrev pub lies : List Placed → ℕ → Token
lies side_table i = (get_or side_table i no_side_entry).token

-- the offset in the text of the token at an index of the side table
abbrev pub lies_from : List Placed → ℕ → ℕ
lies_from side_table i = (get_or side_table i no_side_entry).offset

-- the skips at an index of the side table, or no skips after the end of the list
abbrev pub lying_skips : List Skips → ℕ → Skips
lying_skips skips i = get_or skips i no_skips

-- the tokens in the side table
abbrev pub lying : List Placed → List Token
lying side_table = map (λ x. x.token) side_table

-- the last token in the side table
abbrev pub last_in_side_table : List Placed → Token
last_in_side_table side_table = lies side_table (length side_table - 1)

-- The token found between two offsets of the text, by its kind. A token that isn't read from the
-- text is the last in the side table.
abbrev pub found_tok : List ℕ → List Placed → ℕ → ℕ → Kind → Token
found_tok text side_table at end kind = tok_at kind text at end (last_in_side_table side_table)

-- the token can be read from the text there, or is the last in the side table
abbrev pub FoundFits : List ℕ → List Placed → ℕ → ℕ → Kind → Type 0
FoundFits text side_table at end kind =
    Readable kind text at end ((0 < length side_table)
    × (is_paren (last_in_side_table side_table) ≡ false)
    × (lies_from side_table (length side_table - 1) ≡ at)) (last_in_side_table side_table)

-- for a kind in the side table, one token was appended to the side table; otherwise the table stays
abbrev pub PutInSideTable : Kind → List Placed → List Placed → Type 0
PutInSideTable kinds.Annotation old new = (t : Placed) × (new ≡ old ++ t ∷ [])
PutInSideTable kinds.InSideTable old new = (t : Placed) × (new ≡ old ++ t ∷ [])
PutInSideTable _ old new = new ≡ old

-- tokens of the kind are annotations
abbrev pub is_annotation_kind : Kind → Bool
is_annotation_kind kinds.Annotation = true
is_annotation_kind _ = false

-- tokens of the kind are read from the text and aren't parens
abbrev pub is_word : Kind → Bool
is_word kinds.LParen = false
is_word kinds.RParen = false
is_word kinds.Annotation = false
is_word kinds.InSideTable = false
is_word _ = true

-- a word of this many bytes or more is put into the side table: 2^16
abbrev pub word_limit : ℕ
word_limit = 65536

-- numbers below this fit in 32 bits: 2^32
abbrev pub near_limit : ℕ
near_limit = 4294967296

-- a text of this many bytes or more is refused: 2^48
abbrev pub text_limit : ℕ
text_limit = 281474976710656

-- the greatest number of items in a list: 2^63 - 1
abbrev pub most_items : ℕ
most_items = 9223372036854775807

-- the word between two offsets fits in a stored token: 32 bits for the offset, 16 bits for the
-- length in bytes
abbrev pub HasRoom : ℕ → ℕ → Type 0
HasRoom at end = (at < near_limit) × (end < at + word_limit)

-- a number by its lower 32 bits and the bits above
abbrev pub wide : ℕ → ℕ → ℕ
wide low above = low + near_limit * above

-- the number of a token by its kind and two fields: the first field alone for a word, whose second
-- field is its length; both fields for any other token
abbrev pub number_of : Kind → ℕ → ℕ → ℕ
number_of kinds.LParen low size = wide low size
number_of kinds.RParen low size = wide low size
number_of kinds.Annotation low size = wide low size
number_of kinds.InSideTable low size = wide low size
number_of _ low size = low

-- the offset of a token in bytes, or the index of a token in the side table
abbrev pub own_number : Lexeme → ℕ
own_number x = number_of x.kind x.low x.size

-- the offset of a token of the kind, by its own number and the offset in the side table
abbrev pub stands_at : Kind → ℕ → ℕ → ℕ
stands_at kinds.Annotation own other = other
stands_at kinds.InSideTable own other = other
stands_at _ own other = own

-- if an annotation is in the side table, there is room for skips at each index
abbrev pub HasSkips : List Placed → List Skips → Type 0
HasSkips side_table skips =
    has_annotation (lying side_table) ≡ true → length side_table ≤ length skips

-- only annotations have skips
abbrev pub skips_of : Kind → Skips → Skips
skips_of kinds.Annotation other = other
skips_of _ other = no_skips

-- the entry of a stored token
abbrev pub entry_of : List ℕ → List Placed → List Skips → Lexeme → Entry
entry_of text side_table skips x = record {
  token =
      tok_at x.kind text (own_number x) (own_number x + x.size) (lies side_table (own_number x));
  offset = stands_at x.kind (own_number x) (lies_from side_table (own_number x));
  skips = skips_of x.kind (lying_skips skips (own_number x));
}

abbrev pub entries_of : List ℕ → List Placed → List Skips → List Lexeme → List Entry
entries_of text side_table skips ls = map (entry_of text side_table skips) ls

-- the stored token can be read
abbrev pub CanBeRead : List ℕ → List Placed → Lexeme → Type 0
CanBeRead text side_table x =
    Readable x.kind text (own_number x) (own_number x + x.size)
    ((own_number x < length side_table) × (is_paren (lies side_table (own_number x)) ≡ false))
    (lies side_table (own_number x))

abbrev pub AllCanBeRead : List ℕ → List Placed → List Lexeme → Type 0
AllCanBeRead text side_table ls = AllByRecursion (CanBeRead text side_table) ls

-- the two tokens aren't annotations at one index of the side table
abbrev pub Apart : Lexeme → Lexeme → Type 0
Apart x y =
    is_annotation_kind x.kind ≡ true → is_annotation_kind y.kind ≡ true
    → own_number x ≢ own_number y

-- no two annotations are at one index of the side table
abbrev pub AllApart : List Lexeme → Type 0
AllApart [] = Unit {0}
AllApart (x ∷ ls) = AllByRecursion (Apart x) ls × AllApart ls

-- the token that was found is stored
pub record WasKept (text : List ℕ) (side_table : List Placed) (at end : ℕ) (kind : Kind)
    (x : Lexeme)
    : Type 0 where
  pub entry : entry_of text side_table [] x ≡ record {
    token = found_tok text side_table at end kind;
    offset = at;
    skips = no_skips;
  }
  pub fits : CanBeRead text side_table x
  pub last : is_annotation_kind x.kind ≡ true
      → (is_annotation_kind kind ≡ true) × (own_number x + 1 ≡ length side_table)

abbrev pub entry_tok : Entry → Token
entry_tok x = x.token

-- the tokens without their offsets
abbrev pub entry_tokens : List Entry → List Token
entry_tokens ls = map entry_tok ls

abbrev pub placed_of : Entry → Placed
placed_of x = record { token = x.token; offset = x.offset }

-- the tokens with their offsets
abbrev pub placed : List Entry → List Placed
placed ls = map placed_of ls

-- the entry after the last token
abbrev pub no_entry : Entry
no_entry = record { token = LParen; offset = 0; skips = no_skips }

-- the entry at the index, with other skips
abbrev pub skipping : List Entry → ℕ → Skips → Entry
skipping ls i skips = record (get_or ls i no_entry) { skips = skips }

-- the number of tokens that lookups skip, by whether the five standard names are known
abbrev pub skip : Bool → Skips → ℕ
skip false skips = skips.all
skip true skips = skips.unknown

-- the skip of the annotation group in front: it is stored with the second token, the annotation
abbrev pub skip_in_front : Bool → List Entry → ℕ
skip_in_front known [] = 0
skip_in_front known (x ∷ []) = 0
skip_in_front known (x ∷ y ∷ ls) = skip known y.skips

-- the skip of each hidden group is the number of hidden tokens from the group on
abbrev pub AreSkips : List Entry → Type 0
AreSkips ls =
    (known : Bool) (i : ℕ) → begins_hidden_group known (entry_tokens (drop i ls)) ≡ true
    → skip_in_front known (drop i ls) ≡ hidden_count known (entry_tokens (drop i ls))

-- the visible tokens begin with the first token of the list
abbrev pub VisibleFrom : Bool → List Entry → List Token → Type 0
VisibleFrom known [] t = t ≡ []
VisibleFrom known (x ∷ ls) t = t ≡ entry_tok x ∷ visible_tokens known (entry_tokens ls)

-- `place` is the index of the first visible token from index `at` on, or the number of tokens if no
-- visible token follows. The same tokens are visible from `place` on as from `at` on.
pub record IsNextVisible (known : Bool) (at : ℕ) (ls : List Entry) (place : ℕ) : Type 0 where
  pub value : place ≡ at + hidden_count known (entry_tokens (drop at ls))
  pub within : place ≤ length ls
  pub first : VisibleFrom known (drop place ls) (visible_tokens known (entry_tokens (drop at ls)))
  pub same : visible_tokens known (entry_tokens (drop place ls)) ≡ visible_tokens known (entry_tokens (drop at ls))
  pub stops : hidden_count known (entry_tokens (drop place ls)) ≡ 0

-- p holds for any error except Memory
abbrev pub IfFault : Error → Type 0 → Type 0
IfFault e p = e.fault ≢ Memory → p

-- the token was put into the side table; it begins at the offset, in any text and with any end
abbrev pub IsPut : List Placed → List Placed → ℕ → Token → Kind → Type 0
IsPut old new at t k =
    (text : List ℕ) (end : ℕ) → (t ≡ found_tok text new at end k) × FoundFits text new at end k
    × PutInSideTable k old new

-- the piece that was found is at the offset; its token was put into the side table if its
-- kind is a kind in the side table
abbrev pub PieceIs : List ℕ → List Placed → List Placed → ℕ → Piece → Beginning → Type 0
PieceIs text old new at p f =
    MatchOption p.kind ((f ≡ BlankTo (drop p.end text)) × (new ≡ old))
    (λ k. (f ≡ TokenTo (found_tok text new at p.end k) (drop p.end text))
    × FoundFits text new at p.end k × PutInSideTable k old new)

-- no blank and no token is in front, and the fault and its offset are those of the error
abbrev pub WrongIs : List ℕ → Error → Beginning → Type 0
WrongIs text e f =
    (f ≡ Wrong e.fault (drop (offset_of e.span) text)) × (offset_of e.span ≤ length text)

-- the piece is right, or the error is right; for an error nothing is claimed about the side table
abbrev pub FrontGives
    : List ℕ → List Placed → List Placed → ℕ → Result Piece Error → Beginning → Type 0
FrontGives text old new at (Ok p) f = PieceIs text old new at p f
FrontGives text old new at (Err e) f = IfFault e (WrongIs text e f)

-- the text fails at the error's offset
abbrev pub FailsAt : List ℕ → Error → Type 0
FailsAt text e =
    (at : List ℕ) × Fails false text e.fault at × (offset_of e.span ≡ length text - length at)
