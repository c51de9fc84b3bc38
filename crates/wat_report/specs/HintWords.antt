-- The words of a hint.
use Rattle.std.specs.Prelude.{ℕ, List, [], ◌∷◌, ◌++◌, codes, decimal, flat_map, Option, Some, None}
use Rattle.wat_mnemonics.specs.Ops.{op_word}
use Rattle.wat_mnemonics.specs.declared.table.TheConstants.{OPS}
use Rattle.wat_report.specs.Nearest.{nearest_among}
use Rattle.wat_report.specs.Meant.{keyword_text}
use Rattle.wat_report.specs.declared.front.Groups.{Groups}
use Rattle.wat_report.specs.declared.hint.Hint.{Hint}
use Rattle.wat_report.specs.declared.hint.Hint.TheVariants.{ByteOrderMark, SeqCst, ModuleGroup, Nearest, OldWord, Semicolon, SlashComment, Unclosed, OpenString, Escapes, BehindModule, NoModule, OtherQuote, Fraction, NearField, NearType, WithoutDollar, WrongEscape}
use Rattle.wat_report.specs.declared.meant.TheConstants.{FIELD_WORDS, TYPE_WORDS}
use Rattle.wat_report.specs.Escapes.{escapes_end}
use Rattle.wat_report.specs.Found.{word_at}
use Rattle.wat_report.specs.Positions.{position_of_offset}
use Rattle.wat_report.specs.Hints.{new_word}

-- the mark and the word of a value, between backquotes
unfoldable pub in_backquotes : {A : Type 0} → List ℕ → (A → List ℕ) → A → List ℕ
in_backquotes mark spelling a = codes "`" ++ (mark ++ (spelling a ++ codes "`"))

-- the same after a comma
abbrev pub next_quoted : {A : Type 0} → List ℕ → (A → List ℕ) → A → List ℕ
next_quoted mark spelling a = codes ", " ++ in_backquotes mark spelling a

-- the question whether one of the words was meant
unfoldable pub question_words : {A : Type 0} → List ℕ → (A → List ℕ) → A → List A → List ℕ
question_words mark spelling a others =
    codes "did you mean " ++ (in_backquotes mark spelling a
    ++ (flat_map (next_quoted mark spelling) others ++ codes "?"))

-- the question for a list of words, nothing for an empty list; a mark is before each word
unfoldable pub nearest_words : {A : Type 0} → List ℕ → (A → List ℕ) → List A → List ℕ
nearest_words mark spelling [] = []
nearest_words mark spelling (a ∷ others) = question_words mark spelling a others

-- the word that replaced an old word
abbrev pub today_words : Option (List ℕ) → List ℕ
today_words None = []
today_words (Some new) = codes "use `" ++ (new ++ codes "` instead")

-- the number of groups that begin and end
unfoldable pub groups_words : Groups → List ℕ
groups_words g =
    codes "a `)` may be missing: the text has " ++ (decimal g.begun
    ++ (codes " `(` and " ++ (decimal g.ended ++ codes " `)`")))

abbrev pub unclosed_words : Option Groups → List ℕ
unclosed_words None = []
unclosed_words (Some g) = groups_words g

-- the word with a `$` before it
unfoldable pub without_dollar_words : List ℕ → List ℕ
without_dollar_words word = codes "an identifier begins with `$`: `$" ++ (word ++ codes "`")

-- the column of an invalid escape
unfoldable pub wrong_escape_words : ℕ → List ℕ
wrong_escape_words column =
    codes "the escape in column " ++ (decimal column
    ++ codes " is invalid: a backslash is written `\\\\`, and a byte as `\\` and two hexadecimal digits")

-- the words of a hint that are the same for every text, nothing for another hint
abbrev pub same_words : Hint → List ℕ
same_words ByteOrderMark =
    codes "the text begins with a byte order mark, which isn't allowed"
same_words SeqCst = codes "this ordering is written `seqcst`"
same_words ModuleGroup = codes "the fields of a module go inside `(module ..)`"
same_words SlashComment =
    codes "a comment is written `;; ..` to the end of the line, or `(; .. ;)`"
same_words Semicolon = codes "`;;` begins a comment, and instructions don't end with `;`"
same_words OpenString =
    codes "no `\"` closes the string in this line, and a string can't contain a line break"
same_words Escapes =
    codes "a backslash is written `\\\\`, and a byte as `\\` and two hexadecimal digits"
same_words BehindModule = codes "a text has one module, and this comes after it"
same_words NoModule = codes "the text has no module; a module is written `(module ..)`"
same_words OtherQuote = codes "a string is written between `\"`, not between `'`"
same_words Fraction =
    codes "a number here must be an integer, without a `.` or an exponent"
same_words _ = []

-- the words of a hint for the token at the offset, nothing if there is no hint
abbrev pub hint_words : List ℕ → Option Groups → ℕ → Option Hint → List ℕ
hint_words text groups at None = []
hint_words text groups at (Some OldWord) = today_words (new_word (word_at text at))
hint_words text groups at (Some Unclosed) = unclosed_words groups
hint_words text groups at (Some Nearest) =
    nearest_words [] op_word (nearest_among op_word (word_at text at) OPS)
hint_words text groups at (Some NearField) =
    nearest_words [] keyword_text (nearest_among keyword_text (word_at text at) FIELD_WORDS)
hint_words text groups at (Some NearType) =
    nearest_words [] keyword_text (nearest_among keyword_text (word_at text at) TYPE_WORDS)
hint_words text groups at (Some WithoutDollar) = without_dollar_words (word_at text at)
hint_words text groups at (Some WrongEscape) =
    wrong_escape_words (position_of_offset text (escapes_end text at)).column
hint_words text groups at (Some hint) = same_words hint
