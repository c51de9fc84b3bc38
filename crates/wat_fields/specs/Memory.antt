-- Memories.
use Rattle.std.specs.Prelude.{ℕ, Bool, true, ◌&&◌, List, codes, Option, refl}
use Rattle.wat_links.specs.Prelude.{Token, Production, seq, made, where_else, after_word, group, no_items, Test, run, either_test, test_of, at_lparen, label_view, is_64, pagesize_or_none, memory_type, MemoryType, inline_export_view, FieldHeadModel, field_head, heapless_head, head, inline_import_view, inline_import, at_inline_import}
use Rattle.wat_tokens.specs.Test.{after, either, starts}
use Rattle.wat_tokens.specs.Kind.{a_word}
use Rattle.wat_fields.specs.DataVal.{DataValModel, data_vals_view}
use Rattle.wat_fields.specs.DataVals.{data_vals}
use Rattle.wat_fields.specs.declared.memory.Memory.{Memory}
use Rattle.wat_fields.specs.declared.memory.MemoryKind.{MemoryKind}
use Rattle.wat_fields.specs.declared.memory.MemoryKind.TheVariants as code

-- ---- views

-- an import and a type; a type; or inline data: whether addresses have 64 bits, the page size, and
-- the data
pub data MemoryKindModel : Type 0 where
  imported : List ℕ × List ℕ → MemoryType → MemoryKindModel
  normal : MemoryType → MemoryKindModel
  inline : Bool → Option ℕ → List DataValModel → MemoryKindModel

pub record MemoryModel : Type 0 where
  pub head : FieldHeadModel
  pub kind : MemoryKindModel

abbrev pub memory_of : FieldHeadModel → MemoryKindModel → MemoryModel
memory_of h k = record { head = h; kind = k }

abbrev pub memory_kind_view : MemoryKind → MemoryKindModel
memory_kind_view (code.Import i t) = imported (inline_import_view i) t
memory_kind_view (code.Normal t) = normal t
memory_kind_view (code.Inline b d p) = inline b p (data_vals_view d.items)

abbrev pub memory_view : Memory → MemoryModel
memory_view m =
    memory_of (field_head (label_view m.id m.name) (inline_export_view m.exports))
    (memory_kind_view m.kind)

-- no data in line
abbrev pub heapless_memory_kind : MemoryKindModel → Bool
heapless_memory_kind (imported i t) = true
heapless_memory_kind (normal t) = true
heapless_memory_kind (inline b p d) = no_items d

-- no export and no data in line
abbrev pub heapless_memory : MemoryModel → Bool
heapless_memory m = heapless_head m.head && heapless_memory_kind m.kind

-- ---- the grammar

-- ( i32 | i64 )? pagesize? ( data DataVal* )
unfoldable pub inline_memory : Production MemoryKindModel
inline_memory =
    made (λ v. inline v.0 v.1.0 v.1.1)
    (seq is_64 (seq pagesize_or_none (group (codes "data") data_vals)))

-- `(`, or `i32` or `i64` and then `(`
abbrev pub at_inline_data : Test
at_inline_data =
    either_test at_lparen
    (test_of (after (either (starts (a_word (codes "i32"))) (starts (a_word (codes "i64"))))
    at_lparen.asks) refl)

abbrev pub begins_inline_data : List Token → Bool
begins_inline_data t = run at_inline_data t

-- InlineImport MemoryType if an inline import is next; inline data if inline data is next;
-- otherwise MemoryType
unfoldable pub memory_kind : Production MemoryKindModel
memory_kind =
    where_else at_inline_import (made (λ v. imported v.0 v.1) (seq inline_import memory_type))
    (where_else at_inline_data inline_memory (made normal memory_type))

-- `memory` head, and a kind
unfoldable pub memory : Production MemoryModel
memory = after_word (codes "memory") (made (λ v. memory_of v.0 v.1) (seq head memory_kind))
