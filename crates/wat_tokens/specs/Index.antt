-- Identifiers and indices.
use Rattle.std.specs.Prelude.{ℕ, List, Bool, false, ◌==◌, ◌++◌, Option, None, Some, option_map, refl}
use Rattle.std.specs.Hash.{HashWrites}
use Rattle.wat_lexer.specs.Prelude.{bytes_eq, unsigned_value, Token, Id, Integer}
use Rattle.wat_lexer.specs.declared.span.Span.{Span}
use Rattle.wat_tokens.specs.Tests.{as_id}
use Rattle.wat_tokens.specs.Test.{behind, Test, run, test_of, either_test, at_id, at_integer}
use Rattle.wat_tokens.specs.Production.{Production}
use Rattle.wat_tokens.specs.Parts.{one}
use Rattle.wat_tokens.specs.declared.index.Index.{Index}
use Rattle.std.specs.Hash as fed
use Rattle.wat_tokens.specs.declared.index.Id as code_id
use Rattle.wat_tokens.specs.declared.index.Index.TheVariants as code

-- ---- identifiers

-- the name, without its `$`
abbrev pub name_of : code_id.Id → List ℕ
name_of i = i.name.now

-- the position
abbrev pub span_of : code_id.Id → Span
span_of i = i.span

-- id
abbrev pub identifier : Production (List ℕ)
identifier = one as_id (refl, refl)

-- ---- indices

-- an index, without its position
pub data IndexModel : Type 0 where
  number : ℕ → IndexModel
  name : List ℕ → IndexModel

abbrev pub index_view : Index → IndexModel
index_view (code.Num n span) = number n
index_view (code.Id i) = name (name_of i)

-- the index that the token spells
abbrev pub index_of : Token → Option IndexModel
index_of (Integer text) = option_map number (unsigned_value 32 text)
index_of (Id n) = Some (name n)
index_of _ = None

-- u32 | id
abbrev pub index : Production IndexModel
index = one index_of (refl, refl)

abbrev pub at_index : Test
at_index = either_test at_id at_integer

abbrev pub begins_index : List Token → Bool
begins_index t = run at_index t

-- the second token is an index, for any first token
abbrev pub at_second_index : Test
at_second_index = test_of (behind at_index.asks) refl

-- ---- equality

-- the same number, or the same name
abbrev pub same_index : IndexModel → IndexModel → Bool
same_index (number m) (number n) = m == n
same_index (name x) (name y) = bytes_eq x y
same_index _ _ = false

-- ---- hashes

-- the input of a hasher for an index: 0 and the number, or 1 and the name
abbrev pub index_writes : IndexModel → HashWrites
index_writes (number n) = fed.u8 0 ++ fed.u32 n
index_writes (name x) = fed.u8 1 ++ fed.str x
