-- Casts of references, and branches on them.
use Rattle.wat_types.specs.Prelude.{Production, seq, made, IndexModel, index_view, index, Index, RefTypeModel, ref_view, ref_type}
use Rattle.wat_types.specs.declared.reference.RefType.{RefType}
use Rattle.wat_operands.specs.declared.casts.BrOnCast.{BrOnCast}
use Rattle.wat_operands.specs.declared.casts.BrOnCastDescEq.{BrOnCastDescEq}
use Rattle.wat_operands.specs.declared.casts.BrOnCastDescEqFail.{BrOnCastDescEqFail}
use Rattle.wat_operands.specs.declared.casts.BrOnCastFail.{BrOnCastFail}
use Rattle.wat_operands.specs.declared.casts.RefCast.{RefCast}
use Rattle.wat_operands.specs.declared.casts.RefCastDescEq.{RefCastDescEq}
use Rattle.wat_operands.specs.declared.casts.RefTest.{RefTest}

-- ---- tests and casts: only the type

abbrev pub test_view : RefTest → RefTypeModel
test_view c = ref_view c.type_

abbrev pub cast_view : RefCast → RefTypeModel
cast_view c = ref_view c.type_

abbrev pub cast_desc_eq_view : RefCastDescEq → RefTypeModel
cast_desc_eq_view c = ref_view c.type_

-- ---- branches

-- the label of a branch, and the types that it casts from and to
pub record CastBranchModel : Type 0 where
  pub label : IndexModel
  pub from_type : RefTypeModel
  pub to_type : RefTypeModel

abbrev pub branch_of : IndexModel → RefTypeModel → RefTypeModel → CastBranchModel
branch_of l s t = record { label = l; from_type = s; to_type = t }

-- the branch to a label, from one type to another type
abbrev pub branch_between : Index → RefType → RefType → CastBranchModel
branch_between l s t = branch_of (index_view l) (ref_view s) (ref_view t)

abbrev pub branch_view : BrOnCast → CastBranchModel
branch_view b = branch_between b.label b.from_type b.to_type

abbrev pub branch_fail_view : BrOnCastFail → CastBranchModel
branch_fail_view b = branch_between b.label b.from_type b.to_type

abbrev pub branch_desc_eq_view : BrOnCastDescEq → CastBranchModel
branch_desc_eq_view b = branch_between b.label b.from_type b.to_type

abbrev pub branch_desc_eq_fail_view : BrOnCastDescEqFail → CastBranchModel
branch_desc_eq_fail_view b = branch_between b.label b.from_type b.to_type

-- idx RefType RefType: label, from, to
unfoldable pub cast_branch : Production CastBranchModel
cast_branch = made (λ v. branch_of v.0 v.1.0 v.1.1) (seq index (seq ref_type ref_type))
