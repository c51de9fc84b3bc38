-- Handler tables.
use Rattle.std.specs.Prelude.{Bool, List, codes, map}
use Rattle.wat_types.specs.Prelude.{Token, at_group, Test, run, Production, seq, made, many, IndexModel, index_view, index, no_items, Index}
use Rattle.wat_operands.specs.declared.handlers.HandleOf.{HandleOf}
use Rattle.wat_operands.specs.declared.handlers.ResumeOf.{ResumeOf}
use Rattle.wat_operands.specs.declared.handlers.ResumeTableOf.{ResumeTableOf}
use Rattle.wat_operands.specs.declared.handlers.ResumeThrowOf.{ResumeThrowOf}
use Rattle.wat_operands.specs.declared.handlers.ResumeThrowRefOf.{ResumeThrowRefOf}
use Rattle.wat_operands.specs.Handler.{HandleModel, on_label, on_switch, handler}
use Rattle.wat_operands.specs.Laws.Handlers.{handler_consumes}
use Rattle.wat_operands.specs.declared.handlers.HandleOf.TheVariants as code

-- ---- handlers

abbrev pub handle_view : HandleOf Index → HandleModel
handle_view (code.OnLabel tag label) = on_label (index_view tag) (index_view label)
handle_view (code.OnSwitch tag) = on_switch (index_view tag)

-- a group that begins with `on`
abbrev pub at_handler : Test
at_handler = at_group (codes "on")

abbrev pub begins_handler : List Token → Bool
begins_handler t = run at_handler t

-- ---- handler tables

abbrev pub resume_table_view : ResumeTableOf Index → List HandleModel
resume_table_view t = map handle_view t.handlers.items

-- handlers as long as a group begins with `on`
unfoldable pub resume_table : Production (List HandleModel)
resume_table = many at_handler handler handler_consumes

-- ---- operands with a handler table

-- a type and a handler table, without positions
pub record ResumeModel : Type 0 where
  pub type_index : IndexModel
  pub table : List HandleModel

abbrev pub resume_of : IndexModel → List HandleModel → ResumeModel
resume_of i t = record { type_index = i; table = t }

abbrev pub resume_view : ResumeOf Index → ResumeModel
resume_view r = resume_of (index_view r.type_index) (resume_table_view r.table)

abbrev pub resume_throw_ref_view : ResumeThrowRefOf Index → ResumeModel
resume_throw_ref_view r = resume_of (index_view r.type_index) (resume_table_view r.table)

-- has no handler
abbrev pub heapless_resume : ResumeModel → Bool
heapless_resume r = no_items r.table

-- idx ResumeTable
unfoldable pub resume : Production ResumeModel
resume = made (λ v. resume_of v.0 v.1) (seq index resume_table)

-- a type, a tag and a handler table, without positions
pub record ResumeThrowModel : Type 0 where
  pub type_index : IndexModel
  pub tag_index : IndexModel
  pub table : List HandleModel

abbrev pub throw_of : IndexModel → IndexModel → List HandleModel → ResumeThrowModel
throw_of i j t = record { type_index = i; tag_index = j; table = t }

abbrev pub resume_throw_view : ResumeThrowOf Index → ResumeThrowModel
resume_throw_view r =
    throw_of (index_view r.type_index) (index_view r.tag_index) (resume_table_view r.table)

-- has no handler
abbrev pub heapless_throw : ResumeThrowModel → Bool
heapless_throw r = no_items r.table

-- idx idx ResumeTable
unfoldable pub resume_throw : Production ResumeThrowModel
resume_throw = made (λ v. throw_of v.0 v.1.0 v.1.1) (seq index (seq index resume_table))
