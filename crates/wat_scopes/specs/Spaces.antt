-- Index spaces, and identifiers in them (Core Specification, Text Format, "Contexts").
use Rattle.std.specs.Prelude.{ℕ, Bool, ◌&&◌, ◌==◌, ◌++◌, List, []}
use Rattle.std.specs.Hash.{HashWrites}
use Rattle.wat_tokens.specs.Prelude.{bytes_eq, name_of}
use Rattle.wat_scopes.specs.declared.space.Space.{Space}
use Rattle.wat_scopes.specs.declared.space.Name.{Name}
use Rattle.std.specs.Hash as fed
use Rattle.wat_scopes.specs.declared.space.Space.TheVariants as code

-- the index spaces in which identifiers are distinct
pub data SpaceModel : Type 0 where
  types : SpaceModel
  funcs : SpaceModel
  tables : SpaceModel
  memories : SpaceModel
  globals : SpaceModel
  tags : SpaceModel
  elems : SpaceModel
  datas : SpaceModel
  -- the parameters and the locals of the module's field with this index
  locals : ℕ → SpaceModel
  -- the fields of the structure type with this index, used by its number
  fields_at : ℕ → SpaceModel
  -- the fields of the structure type with this identifier
  fields_of : List ℕ → SpaceModel

abbrev pub space_view : Space → SpaceModel
space_view code.«Type» = types
space_view code.Func = funcs
space_view code.Table = tables
space_view code.Memory = memories
space_view code.Global = globals
space_view code.Tag = tags
space_view code.Elem = elems
space_view code.Data = datas
space_view (code.Local n) = locals n
space_view (code.FieldAt n) = fields_at n
space_view (code.FieldOf i) = fields_of (name_of i)

-- an identifier in a space
pub record NameModel : Type 0 where
  pub space : SpaceModel
  pub id : List ℕ

abbrev pub name_in : SpaceModel → List ℕ → NameModel
name_in s n = record { space = s; id = n }

abbrev pub name_view : Name → NameModel
name_view n = name_in (space_view n.space) (name_of n.id)

-- ---- equality

-- the number of the constructor
abbrev pub kind_of : SpaceModel → ℕ
kind_of types = 0
kind_of funcs = 1
kind_of tables = 2
kind_of memories = 3
kind_of globals = 4
kind_of tags = 5
kind_of elems = 6
kind_of datas = 7
kind_of (locals n) = 8
kind_of (fields_at n) = 9
kind_of (fields_of x) = 10

-- the number in the space, or 0
abbrev pub number_of : SpaceModel → ℕ
number_of (locals n) = n
number_of (fields_at n) = n
number_of _ = 0

-- the name in the space, or the empty name
abbrev pub owner_of : SpaceModel → List ℕ
owner_of (fields_of x) = x
owner_of _ = []

abbrev pub same_space : SpaceModel → SpaceModel → Bool
same_space s t =
    (kind_of s == kind_of t && number_of s == number_of t) && bytes_eq (owner_of s) (owner_of t)

abbrev pub same_name : NameModel → NameModel → Bool
same_name m n = same_space m.space n.space && bytes_eq m.id n.id

-- ---- hashes

-- the input of a hasher
abbrev pub space_writes : SpaceModel → HashWrites
space_writes s = (fed.u8 (kind_of s) ++ fed.usize (number_of s)) ++ fed.str (owner_of s)

abbrev pub name_writes : NameModel → HashWrites
name_writes n = space_writes n.space ++ fed.str n.id
