use Rattle.std.proofs.Common.{rules}
use Rattle.wat_instr.proofs.copy.Instruction.clone.Goals.{in-Scalar, in-Table+in-Ok, in-Memory+in-Ok-clone-2, in-Struct+in-Ok-clone-3, in-ArrayInit+in-Ok-clone-4, in-OrderedIndex+in-Ok-clone-7, in-OrderedTable+in-Ok-clone-8, in-OrderedStruct+in-Ok-clone-9, in-Lane+in-Ok-clone-11, in-Vector, in-memory_init+in-Ok-clone-12, in-memory_copy+in-Ok-clone-13, in-table_init+in-Ok-clone-14, in-table_copy+in-Ok-clone-15, in-ref_null, in-array_new_fixed+in-Ok-clone-16, in-array_new_data+in-Ok-clone-17, in-array_new_elem+in-Ok-clone-18, in-array_fill+in-Ok-clone-19, in-array_copy+in-Ok-clone-20, in-ref_test+in-Ok-clone-21, in-ref_cast+in-Ok-clone-22, in-i32_const, in-i64_const, in-f32_const, in-f64_const, in-atomic_fence, in-cont_bind+in-Ok-clone-25, in-switch+in-Ok-clone-26, in-ref_cast_desc_eq+in-Ok-clone-27}
use Rattle.wat_instr.proofs.copy.Instruction.clone.Goals as goal

pub returns : goal.returns
returns c = record {
  copies = elim c.match-self.branch [
    | in-Scalar w ↦ search rules
    | in-Table+in-Ok w ↦ search (rules, w.in-Ok.ensures.cases)
    | in-Memory+in-Ok-clone-2 w ↦ search (rules, w.in-Ok-clone-2.ensures.cases)
    | in-Struct+in-Ok-clone-3 w ↦ search (rules, w.in-Ok-clone-3.ensures.cases)
    | in-ArrayInit+in-Ok-clone-4 w ↦ search (rules, w.in-Ok-clone-4.ensures.cases)
    | in-OrderedIndex+in-Ok-clone-7 w ↦ search (rules, w.in-Ok-clone-7.ensures.cases)
    | in-OrderedTable+in-Ok-clone-8 w ↦ search (rules, w.in-Ok-clone-8.ensures.cases)
    | in-OrderedStruct+in-Ok-clone-9 w ↦ search (rules, w.in-Ok-clone-9.ensures.cases)
    | in-Lane+in-Ok-clone-11 w ↦ search (rules, w.in-Ok-clone-11.ensures.cases)
    | in-Vector w ↦ search rules
    | in-memory_init+in-Ok-clone-12 w ↦ search (rules, w.in-Ok-clone-12.ensures.cases)
    | in-memory_copy+in-Ok-clone-13 w ↦ search (rules, w.in-Ok-clone-13.ensures.cases)
    | in-table_init+in-Ok-clone-14 w ↦ search (rules, w.in-Ok-clone-14.ensures.cases)
    | in-table_copy+in-Ok-clone-15 w ↦ search (rules, w.in-Ok-clone-15.ensures.cases)
    | in-ref_null w ↦ search rules
    | in-array_new_fixed+in-Ok-clone-16 w ↦ search (rules, w.in-Ok-clone-16.ensures.cases)
    | in-array_new_data+in-Ok-clone-17 w ↦ search (rules, w.in-Ok-clone-17.ensures.cases)
    | in-array_new_elem+in-Ok-clone-18 w ↦ search (rules, w.in-Ok-clone-18.ensures.cases)
    | in-array_fill+in-Ok-clone-19 w ↦ search (rules, w.in-Ok-clone-19.ensures.cases)
    | in-array_copy+in-Ok-clone-20 w ↦ search (rules, w.in-Ok-clone-20.ensures.cases)
    | in-ref_test+in-Ok-clone-21 w ↦ search (rules, w.in-Ok-clone-21.ensures.cases)
    | in-ref_cast+in-Ok-clone-22 w ↦ search (rules, w.in-Ok-clone-22.ensures.cases)
    | in-i32_const w ↦ search rules
    | in-i64_const w ↦ search rules
    | in-f32_const w ↦ search rules
    | in-f64_const w ↦ search rules
    | in-atomic_fence w ↦ search rules
    | in-cont_bind+in-Ok-clone-25 w ↦ search (rules, w.in-Ok-clone-25.ensures.cases)
    | in-switch+in-Ok-clone-26 w ↦ search (rules, w.in-Ok-clone-26.ensures.cases)
    | in-ref_cast_desc_eq+in-Ok-clone-27 w ↦ search (rules, w.in-Ok-clone-27.ensures.cases)
  ];
}
