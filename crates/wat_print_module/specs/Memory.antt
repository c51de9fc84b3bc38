-- How memories are written.
use Rattle.std.specs.Prelude.{ℕ, Bool, List, codes, Option, ◌⊎◌}
use Rattle.std.proofs.Common.{inl, inr}
use Rattle.wat_core.specs.Prelude.{FieldHeadModel, begins_inline_import, DataValModel}
use Rattle.wat_print_instr.specs.Prelude.{begins_lparen, MemoryType, Form, seq_form, behind_form, by, else_form, after_form, group_form, width_form, memory_form}
use Rattle.wat_fields.specs.Memory.{MemoryKindModel, normal, MemoryModel, imported, inline, begins_inline_data}
use Rattle.wat_print.specs.Limits.{page_form}
use Rattle.wat_print_module.specs.DataVal.{data_vals_form}
use Rattle.wat_print_module.specs.FieldHead.{inline_import_form, head_form}

-- i64? pagesize? ( data DataVal* )
abbrev pub inline_memory_form : Form (Bool × (Option ℕ × List DataValModel))
inline_memory_form =
    behind_form begins_lparen width_form
    (seq_form page_form (group_form (codes "data") data_vals_form))

abbrev pub MemoryTree : Type 0
MemoryTree =
    (List ℕ × List ℕ) × MemoryType ⊎ (Bool × (Option ℕ × List DataValModel) ⊎ MemoryType)

abbrev pub memory_kind_parts : MemoryKindModel → MemoryTree
memory_kind_parts (imported i t) = inl (i, t)
memory_kind_parts (inline b p d) = inr (inl (b, (p, d)))
memory_kind_parts (normal t) = inr (inr t)

-- InlineImport MemoryType | i64? pagesize? ( data DataVal* ) | MemoryType
abbrev pub memory_kind_form : Form MemoryKindModel
memory_kind_form =
    by memory_kind_parts (else_form begins_inline_import (seq_form inline_import_form memory_form)
    (else_form begins_inline_data inline_memory_form memory_form))

abbrev pub memory_field_parts : MemoryModel → FieldHeadModel × MemoryKindModel
memory_field_parts m = (m.head, m.kind)

-- memory head kind
abbrev pub memory_field_form : Form MemoryModel
memory_field_form =
    by memory_field_parts (after_form (codes "memory") (seq_form head_form memory_kind_form))
