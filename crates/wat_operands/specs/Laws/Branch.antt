-- Laws: the split of the indices of a `br_table`.
use Rattle.std.proofs.Common.{◌≡◌, List, [], ◌∷◌, ◌++◌, refl, ap, ◌∙◌, subst}
use Rattle.wat_types.specs.Prelude.{Token, IndexModel}
use Rattle.wat_operands.specs.Branch.{split, BrTableModel, br_table_of, BrTableSpells, br_table_split}

pub split_whole : (i : IndexModel) (is : List IndexModel)
    → i ∷ is ≡ (split i is).labels ++ (split i is).default ∷ []
split_whole i [] = refl
split_whole i (j ∷ js) = ap (λ (u : List IndexModel). i ∷ u) (split_whole j js)

no_list : {P : Type 0} (ls : List IndexModel) (d : IndexModel) → [] ≡ ls ++ d ∷ [] → P
no_list [] d e = absurd cc
no_list (l ∷ ls) d e = absurd cc

pub split_is : (ls : List IndexModel) (d i : IndexModel) (is : List IndexModel)
    → i ∷ is ≡ ls ++ d ∷ []
    → split i is ≡ br_table_of ls d
split_is [] d i [] e = ap (br_table_of []) (cc)
split_is [] d i (j ∷ js) e = absurd cc
split_is (l ∷ ls) d i [] e = no_list ls d (cc)
split_is (l ∷ ls) d i (j ∷ js) e =
    let first : i ≡ l = cc in
    let rest : j ∷ js ≡ ls ++ d ∷ [] = cc in
    ap (λ (u : BrTableModel). br_table_of (i ∷ u.labels) u.default) (split_is ls d j js rest)
    ∙ ap (λ (u : IndexModel). br_table_of (u ∷ ls) d) first

pub br_table_to : (b : BrTableModel) (c r : List Token) → br_table_split.spells b c r
    → BrTableSpells b c r
br_table_to b c r s = (
  s.0.0,
  s.0.1,
  s.1,
  subst (λ (u : BrTableModel). s.0.0 ∷ s.0.1 ≡ u.labels ++ u.default ∷ []) s.3
      (split_whole s.0.0 s.0.1),
)

pub br_table_from : (b : BrTableModel) (c r : List Token) → BrTableSpells b c r
    → br_table_split.spells b c r
br_table_from b c r s = ((s.0, s.1), s.2, refl, split_is b.labels b.default s.0 s.1 s.3)
