-- The words of the hint for a fault of blocks, labels or imports.
use Rattle.std.specs.Prelude.{ℕ, List, [], ◌∷◌, ◌++◌, codes, decimal, flat_map, option_to_list, Option, None, Some}
use Rattle.wat_mnemonics.specs.Prelude.{offset_of}
use Rattle.wat_lexer.specs.declared.span.Span.{Span}
use Rattle.wat_tokens.specs.Index.{span_of}
use Rattle.wat_tokens.specs.declared.index.Id.{Id}
use Rattle.wat_scopes.specs.declared.fault.Note.{Note}
use Rattle.wat_scopes.specs.declared.fault.Note.TheVariants.{Nothing, First, Block, Labels}
use Rattle.wat_report.specs.Found.{marked_text}
use Rattle.wat_report.specs.Positions.{char_start, position_of_offset}

-- ---- positions

-- the words and the number of the line of a position
unfoldable pub line_words : List ℕ → List ℕ → Span → List ℕ
line_words text words s = words ++ decimal (position_of_offset text (offset_of s)).line

-- the identifier at a position, between backquotes
abbrev pub id_words : List ℕ → Span → List ℕ
id_words text s = marked_text text (char_start text (offset_of s))

-- ---- labels and blocks

-- a further label after a comma
abbrev pub next_label : List ℕ → Id → List ℕ
next_label text i = codes ", " ++ id_words text (span_of i)

-- the words before the labels of the enclosing blocks: one, and these further labels
unfoldable pub labels_begin : List Id → List ℕ
labels_begin [] = codes "the enclosing label is "
labels_begin (i ∷ ls) = codes "the enclosing labels are "

-- the labels, the first of which is at a position
unfoldable pub some_labels : List ℕ → Span → List Id → List ℕ
some_labels text first ls =
    labels_begin ls ++ (id_words text first ++ flat_map (next_label text) ls)

unfoldable pub label_words : List ℕ → List Id → List ℕ
label_words text [] = codes "no enclosing block has a label"
label_words text (i ∷ ls) = some_labels text (span_of i) ls

abbrev pub labels_hint : List ℕ → Note → List ℕ
labels_hint text Nothing = []
labels_hint text (First s) = []
labels_hint text (Block i s) = []
labels_hint text (Labels i j k) =
    label_words text (option_to_list i ++ (option_to_list j ++ option_to_list k))

-- a block by the position of its label, and its line
unfoldable pub labelled_block : List ℕ → Span → Span → List ℕ
labelled_block text label s =
    codes "the block is " ++ (id_words text label
    ++ line_words text (codes ", and begins in line ") s)

abbrev pub block_words : List ℕ → Option Id → Span → List ℕ
block_words text None s = line_words text (codes "the block has no label, and begins in line ") s
block_words text (Some i) s = labelled_block text (span_of i) s

abbrev pub block_hint : List ℕ → Note → List ℕ
block_hint text Nothing = []
block_hint text (First s) = []
block_hint text (Block i s) = block_words text i s
block_hint text (Labels i j k) = []

-- the block that is open
abbrev pub innermost_hint : List ℕ → Note → List ℕ
innermost_hint text Nothing = codes "no block is open here"
innermost_hint text (First s) = []
innermost_hint text (Block i s) =
    line_words text (codes "the innermost open block begins in line ") s
innermost_hint text (Labels i j k) = []

-- ---- imports

abbrev pub import_hint : List ℕ → Note → List ℕ
import_hint text Nothing = []
import_hint text (First s) = line_words text (codes "the first definition is in line ") s
import_hint text (Block i s) = []
import_hint text (Labels i j k) = []
