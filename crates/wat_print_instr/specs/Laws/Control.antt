-- Laws: blocks, calls, the types of a `select`, casts, catch clauses and handlers are read again.
use Rattle.std.proofs.Common.{◌≡◌, false, List, codes, Some, None, rules, refl, arith, append-nil}
use Rattle.wat_expr.specs.Prelude.{block_type, call_indirect, cast_branch, catch_clause, try_table, handler, resume_table, resume, resume_throw, select_types, Catch, CatchRef, CatchAll, CatchAllRef}
use Rattle.wat_print.specs.Laws.Prelude.{Token, identifier, all_of, joined, opt, begins_id, at_id, at_more, at_word, val_types, val_type_consumes, any, by_itself, vals_form, Prints, word_prints, seq_prints, made_prints, whole_prints, whole_where, respelled, else_prints, option_prints, many_prints, paren_prints, after_prints, group_prints, label_prints, and_also, each_all, index_prints, ref_prints, val_prints, val_form}
use Rattle.wat_operands.specs.Block.{block_of}
use Rattle.wat_operands.specs.Call.{call_of}
use Rattle.wat_operands.specs.Casts.{branch_of}
use Rattle.wat_operands.specs.CatchClause.{catch_of, catch_kind}
use Rattle.wat_operands.specs.Catches.{try_of, at_catch}
use Rattle.wat_operands.specs.Handler.{aim, handler_to}
use Rattle.wat_operands.specs.Handlers.{resume_of, throw_of, at_handler}
use Rattle.wat_operands.specs.Select.{at_result}
use Rattle.wat_print.specs.Laws.Label.{id_prints}
use Rattle.wat_tokens.specs.NameAnnotation.{begins_name}
use Rattle.wat_operands.specs.Laws.Catches.{catch_clause_consumes}
use Rattle.wat_operands.specs.Laws.Handlers.{handler_consumes}
use Rattle.wat_operands.specs.Laws.Select.{result_group_consumes}
use Rattle.wat_operands.specs.ResultGroup.{result_group}
use Rattle.wat_print.specs.Laws.Use.{EndsUse, unnamed_use_prints}
use Rattle.wat_print_instr.specs.Control.{block_parts, block_form, call_parts, call_form, end_label_form, result_form, results_form, select_form, branch_parts, branch_form, catch_kind_parts, catch_kind_form, catch_parts, catch_form, try_parts, try_form, aim_parts, aim_form, handler_parts, handler_form, resume_table_form, resume_parts, resume_form, throw_parts, throw_form}
use Rattle.wat_print_instr.specs.Laws.Indices.{index_or_0_prints}

-- ---- blocks and calls

-- the tokens r may follow a block, and aren't read as a part of the block
abbrev pub EndsBlock : List Token → Type 0
EndsBlock r = EndsUse r × (begins_id r ≡ false) × (begins_name r ≡ false)

pub block_prints : Prints block_form block_type
unfolding block_type
block_prints =
    whole_prints (made_prints (seq_prints label_prints unnamed_use_prints (search rules))
    (λ v. block_of v.0 v.1)) block_parts (λ b h. refl) (λ b h. h) (λ v h. h)

pub call_prints : Prints call_form call_indirect
unfolding call_indirect
call_prints =
    whole_prints (made_prints (seq_prints index_or_0_prints unnamed_use_prints (search rules))
    (λ v. call_of v.0 v.1)) call_parts (λ c h. refl) (λ c h. h) (λ v h. h)

pub end_label_prints : Prints end_label_form (opt at_id identifier)
end_label_prints = option_prints at_id id_prints (search rules)

-- ---- the types of a select

result_prints : Prints result_form result_group
unfolding val_types
result_prints =
    group_prints (many_prints at_more val_prints val_type_consumes (search rules) (search rules))
    (codes "result") refl refl

results_prints : Prints results_form
    (joined at_result result_group result_group_consumes)
results_prints =
    let p = respelled (whole_where (made_prints (many_prints at_result result_prints
    result_group_consumes (search rules) (search rules)) (λ gs. all_of gs)) by_itself
    vals_form.printable (λ ts h. append-nil ts) (λ ts h. and_also (vals_form.printable ts) h)
    (λ gs h. each_all val_form.printable gs h)) result_form.spell
    (λ ts h. append-nil (result_form.spell ts)) in
    record {
      nests = p.nests;
      front = λ rest test f ts r h i e. result_prints.front any test f ts r h refl tt;
      here = p.here;
      only = p.only;
    }

pub select_prints : Prints select_form select_types
unfolding select_types
select_prints = option_prints at_result results_prints (search rules)

-- ---- casts

pub branch_prints : Prints branch_form cast_branch
unfolding cast_branch
branch_prints =
    whole_prints (made_prints (seq_prints index_prints (seq_prints ref_prints ref_prints
    (search rules)) (search rules)) (λ v. branch_of v.0 v.1.0 v.1.1)) branch_parts (λ b h. refl)
    (λ b h. h) (λ v h. h)

-- ---- the catch clauses of a try_table

catch_kind_prints : Prints catch_kind_form catch_kind
unfolding catch_kind
catch_kind_prints =
    whole_prints (else_prints (at_word (codes "catch"))
    (made_prints (after_prints index_prints (codes "catch") refl refl) Catch)
    (else_prints (at_word (codes "catch_ref"))
    (made_prints (after_prints index_prints (codes "catch_ref") refl refl) CatchRef)
    (else_prints (at_word (codes "catch_all"))
    (made_prints (word_prints (codes "catch_all") refl refl) (λ _. CatchAll))
    (made_prints (word_prints (codes "catch_all_ref") refl refl) (λ _. CatchAllRef))
    (search rules) (search rules)) (search rules) (search rules)) (search rules) (search rules))
    catch_kind_parts (λ k h. grind arith) (λ k h. h) (λ v h. grind arith)

pub catch_prints : Prints catch_form catch_clause
unfolding catch_clause
catch_prints =
    paren_prints (whole_prints (made_prints (seq_prints catch_kind_prints index_prints
    (search rules)) (λ v. catch_of v.0 v.1)) catch_parts (λ c h. refl) (λ c h. h) (λ v h. h))

pub try_prints : Prints try_form try_table
unfolding try_table
try_prints =
    whole_prints (made_prints (seq_prints block_prints (many_prints at_catch catch_prints
    catch_clause_consumes (search rules) (search rules)) (search rules)) (λ v. try_of v.0 v.1))
    try_parts (λ t h. refl) (λ t h. h) (λ v h. h)

-- ---- handlers

aim_prints : Prints aim_form aim
unfolding aim
aim_prints =
    whole_prints (else_prints (at_word (codes "switch"))
    (made_prints (word_prints (codes "switch") refl refl) (λ _. None))
    (made_prints index_prints Some) (search rules) (search rules)) aim_parts (λ o h. grind arith)
    (λ o h. h) (λ v h. grind arith)

pub handler_prints : Prints handler_form handler
unfolding handler
handler_prints =
    group_prints (whole_prints (made_prints (seq_prints index_prints aim_prints (search rules))
    (λ v. handler_to v.0 v.1)) handler_parts (λ h k. grind arith) (λ h k. k)
    (λ v k. grind arith)) (codes "on") refl refl

pub resume_table_prints : Prints resume_table_form resume_table
unfolding resume_table
resume_table_prints =
    many_prints at_handler handler_prints handler_consumes (search rules) (search rules)

pub resume_prints : Prints resume_form resume
unfolding resume
resume_prints =
    whole_prints (made_prints (seq_prints index_prints resume_table_prints (search rules))
    (λ v. resume_of v.0 v.1)) resume_parts (λ v h. refl) (λ v h. h) (λ v h. h)

pub throw_prints : Prints throw_form resume_throw
unfolding resume_throw
throw_prints =
    whole_prints (made_prints (seq_prints index_prints (seq_prints index_prints
    resume_table_prints (search rules)) (search rules)) (λ v. throw_of v.0 v.1.0 v.1.1))
    throw_parts (λ v h. refl) (λ v h. h) (λ v h. h)
