-- The open groups have the same numbers as their stored lists.
use Rattle.std.proofs.Common.{reverse, ◌≡◌, ◌<◌, suc, List, [], ◌∷◌, length, Some, refl, ap, ◌∙◌, arith, map}
use Rattle.std.proofs.lemmas.List.{length-reverse}
use Rattle.wat_expr.specs.Prelude.{length-map, InstructionModel, Instruction, instruction_view, OpenGroup, heads_in, open_groups}
use Rattle.wat_expr.specs.OpenGroups.{EachHolds, TopIs}
use Rattle.wat_expr.specs.declared.open_groups.Kind.{Kind}
use Rattle.wat_expr.specs.declared.open_groups.Mark.{Mark}
use Rattle.wat_expr.specs.declared.open_groups.Kind.TheVariants as kind

kept_as : (ks : List Kind) (is : List InstructionModel) (ms : List Mark) → EachHolds ks is ms → (length (open_groups ks is ms) ≡ length ks) × (heads_in (open_groups ks is ms) ≡ length is)
kept_as [] is ms e = (refl, e.0)
kept_as (kind.Folded ∷ ks) (i ∷ is) (m ∷ ms) e = let a = kept_as ks is ms (omega (arith, e.0), omega (arith, e.1)) in (ap suc a.0, ap suc a.1)
kept_as (kind.Folded ∷ ks) [] ms e = absurd (omega (arith, e.0))
kept_as (kind.Folded ∷ ks) (i ∷ is) [] e = absurd (omega (arith, e.1))
kept_as (kind.If ∷ ks) (i ∷ is) (m ∷ ms) e = let a = kept_as ks is ms (omega (arith, e.0), omega (arith, e.1)) in (ap suc a.0, ap suc a.1)
kept_as (kind.If ∷ ks) [] ms e = absurd (omega (arith, e.0))
kept_as (kind.If ∷ ks) (i ∷ is) [] e = absurd (omega (arith, e.1))
kept_as (kind.Block ∷ ks) is ms e = let a = kept_as ks is ms e in (ap suc a.0, a.1)
kept_as (kind.AfterThen ∷ ks) is ms e = let a = kept_as ks is ms e in (ap suc a.0, a.1)
kept_as (kind.AfterElse ∷ ks) is ms e = let a = kept_as ks is ms e in (ap suc a.0, a.1)
kept_as (kind.Arm ∷ ks) is ms e = let a = kept_as ks is ms e in (ap suc a.0, a.1)

-- the instructions as contracts see them
abbrev pub seen : List Instruction → List InstructionModel
seen hs = map instruction_view hs

pub height_is : (ks : List Kind) (hs : List Instruction) (ms : List Mark) → EachHolds (reverse ks) (reverse (seen hs)) (reverse ms) → length (open_groups (reverse ks) (reverse (seen hs)) (reverse ms)) ≡ length ks
height_is ks hs ms e = (kept_as (reverse ks) (reverse (seen hs)) (reverse ms) e).0 ∙ length-reverse ks

pub held_is : (ks : List Kind) (hs : List Instruction) (ms : List Mark) → EachHolds (reverse ks) (reverse (seen hs)) (reverse ms) → heads_in (open_groups (reverse ks) (reverse (seen hs)) (reverse ms)) ≡ length hs
held_is ks hs ms e = (kept_as (reverse ks) (reverse (seen hs)) (reverse ms) e).1 ∙ length-reverse (seen hs) ∙ length-map hs instruction_view

-- if there is an innermost kind, a group is open
pub top_some : (k : Kind) (s : List OpenGroup) → TopIs (Some k) s → s ≡ [] → ⊥
top_some kind.Folded s t e = let f = t.3 in cc
top_some kind.If s t e = let f = t.3 in cc
top_some k s t e = let f = t.1 in cc

-- if a group is open, there is a kind
pub some_kind : (ks : List Kind) (hs : List Instruction) (ms : List Mark) → (open_groups (reverse ks) (reverse (seen hs)) (reverse ms) ≡ [] → ⊥) → 0 < length ks
some_kind [] hs ms some = absurd (some refl)
some_kind (k ∷ ks) hs ms some = omega arith
