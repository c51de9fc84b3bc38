-- The table in the code.
use Rattle.std.proofs.Common.{◌≡◌, ◌<◌, ℕ, List, [], get_or, map, refl, subst, sym, ap, ◌∙◌, IsTrue}
use Rattle.wat_mnemonics.specs.Prelude.{op_word, rises, words, first, words_rise, all_ops, op_count}
use Rattle.wat_mnemonics.specs.Laws.TableIndex.{entry_at}
use Rattle.wat_mnemonics.specs.declared.op.Op.{Op}
use Rattle.wat_mnemonics.specs.declared.table.TheConstants.{OPS}

pub ops_are : OPS ≡ all_ops
ops_are = refl

pub ops_in_order : IsTrue (rises (map op_word OPS))
ops_in_order = subst (λ (l : List Op). IsTrue (rises (map op_word l))) (sym ops_are) words_rise

-- the word of the instruction at a place
pub entry_word : (k : ℕ) (op : Op) → k < op_count → op ≡ get_or all_ops k first → op_word op ≡ get_or words k []
entry_word k op l e = ap op_word e ∙ sym (entry_at k l)
