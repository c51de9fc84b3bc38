-- How blocks, calls, the types of a `select`, casts, catch clauses and handlers are written.
use Rattle.std.specs.Prelude.{ℕ, false, List, codes, Option, Some, None, ◌⊎◌}
use Rattle.std.proofs.Common.{inl, inr}
use Rattle.wat_expr.specs.Prelude.{BlockTypeModel, CallIndirectModel, CastBranchModel, CatchModel, TryTableModel, begins_catch, HandleModel, begins_handler, ResumeModel, ResumeThrowModel, result_follows, Catch, CatchRef, CatchAll, CatchAllRef}
use Rattle.wat_print.specs.Prelude.{IndexModel, begins_word, begins_id, Label, RefTypeModel, FunctionTypeModel, TypeUseModel, ValTypeModel, Form, word_form, seq_form, by, by_where, else_form, option_form, many_form, paren_form, after_form, group_form, vals_form, index_form, id_form, label_form, by_itself, ref_form, unnamed_use_form}
use Rattle.wat_operands.specs.Handler.{on_label, on_switch}
use Rattle.wat_operands.specs.declared.catches.CatchKind.{CatchKind}
use Rattle.wat_print_instr.specs.Indices.{index_or_0_form}

-- ---- blocks and calls

abbrev pub block_parts : BlockTypeModel → Label × TypeUseModel FunctionTypeModel
block_parts b = (b.label, b.ty)

-- id? name? TypeUse
abbrev pub block_form : Form BlockTypeModel
block_form = by block_parts (seq_form label_form unnamed_use_form)

abbrev pub call_parts : CallIndirectModel → IndexModel × TypeUseModel FunctionTypeModel
call_parts c = (c.table, c.ty)

-- the table unless the table is 0, and the type
abbrev pub call_form : Form CallIndirectModel
call_form = by call_parts (seq_form index_or_0_form unnamed_use_form)

-- the label of an `else` or `end`
abbrev pub end_label_form : Form (Option (List ℕ))
end_label_form = option_form begins_id id_form

-- ---- the types of a select

-- ( result ValType* )
abbrev pub result_form : Form (List ValTypeModel)
result_form = group_form (codes "result") vals_form

-- one group
abbrev pub results_form : Form (List ValTypeModel)
results_form =
    record (by_where vals_form.printable by_itself (many_form result_follows result_form)) {
      spell = result_form.spell;
      empty = false;
    }

abbrev pub select_form : Form (Option (List ValTypeModel))
select_form = option_form result_follows results_form

-- ---- casts

abbrev pub branch_parts : CastBranchModel → IndexModel × (RefTypeModel × RefTypeModel)
branch_parts b = (b.label, (b.from_type, b.to_type))

-- the label, the type to cast from, and the type to cast to
abbrev pub branch_form : Form CastBranchModel
branch_form = by branch_parts (seq_form index_form (seq_form ref_form ref_form))

-- ---- the catch clauses of a try_table

abbrev pub catch_kind_parts : CatchKind IndexModel
    → IndexModel ⊎ (IndexModel ⊎ (Unit {0} ⊎ Unit {0}))
catch_kind_parts (Catch i) = inl i
catch_kind_parts (CatchRef i) = inr (inl i)
catch_kind_parts CatchAll = inr (inr (inl tt))
catch_kind_parts CatchAllRef = inr (inr (inr tt))

abbrev pub catch_kind_form : Form (CatchKind IndexModel)
catch_kind_form =
    by catch_kind_parts (else_form (begins_word (codes "catch"))
    (after_form (codes "catch") index_form)
    (else_form (begins_word (codes "catch_ref")) (after_form (codes "catch_ref") index_form)
    (else_form (begins_word (codes "catch_all")) (word_form (codes "catch_all"))
    (word_form (codes "catch_all_ref")))))

abbrev pub catch_parts : CatchModel → CatchKind IndexModel × IndexModel
catch_parts c = (c.kind, c.label)

-- ( word tag? label )
abbrev pub catch_form : Form CatchModel
catch_form = paren_form (by catch_parts (seq_form catch_kind_form index_form))

abbrev pub try_parts : TryTableModel → BlockTypeModel × List CatchModel
try_parts t = (t.block, t.catches)

abbrev pub try_form : Form TryTableModel
try_form = by try_parts (seq_form block_form (many_form begins_catch catch_form))

-- ---- handlers

-- `switch`, or a label
abbrev pub aim_parts : Option IndexModel → Unit {0} ⊎ IndexModel
aim_parts None = inl tt
aim_parts (Some l) = inr l

abbrev pub aim_form : Form (Option IndexModel)
aim_form =
    by aim_parts (else_form (begins_word (codes "switch")) (word_form (codes "switch")) index_form)

abbrev pub handler_parts : HandleModel → IndexModel × Option IndexModel
handler_parts (on_label t l) = (t, Some l)
handler_parts (on_switch t) = (t, None)

-- ( on tag label ), or ( on tag switch )
abbrev pub handler_form : Form HandleModel
handler_form = group_form (codes "on") (by handler_parts (seq_form index_form aim_form))

abbrev pub resume_table_form : Form (List HandleModel)
resume_table_form = many_form begins_handler handler_form

abbrev pub resume_parts : ResumeModel → IndexModel × List HandleModel
resume_parts r = (r.type_index, r.table)

abbrev pub resume_form : Form ResumeModel
resume_form = by resume_parts (seq_form index_form resume_table_form)

abbrev pub throw_parts : ResumeThrowModel → IndexModel × (IndexModel × List HandleModel)
throw_parts r = (r.type_index, (r.tag_index, r.table))

abbrev pub throw_form : Form ResumeThrowModel
throw_form = by throw_parts (seq_form index_form (seq_form index_form resume_table_form))
