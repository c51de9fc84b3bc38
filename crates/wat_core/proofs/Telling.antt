-- One more group.
use Rattle.std.proofs.Common.{◌≡◌, ℕ, ◌+◌, ◌<◌, ◌≤◌, List, [], ◌∷◌, ◌++◌, length, length-append, take, arith, zero, suc, append_assoc, append-nil, ◌∙◌, true, false}
use Rattle.wat_core.specs.Prelude.{Error, begins_lparen, Placed, seen, GroupsTo, IsNext}
use Rattle.wat_core.specs.WrongFields.{Tells, AreWrong, none, good, wrong, IsFaultOf, AreFaultsOf}
use Rattle.wat_core.specs.ModuleGroups.{bytes_of, next}
use Rattle.wat_core.specs.declared.wrong_fields.FieldFaults.{FieldFaults}
use Rattle.wat_core.specs.declared.module_group.Group.{Group}
use Rattle.wat_core.specs.ModuleGroups as of_groups

pub good_behind : {Good : List ℕ → Type 0} {text : List ℕ} (gs ws : List Group) (g : Group) → AreWrong Good text gs ws → Good (bytes_of text g) → AreWrong Good text (gs ++ g ∷ []) ws
good_behind gs ws g none is = good g [] [] is none
good_behind gs ws g (good h hs vs a more) is = good h (hs ++ g ∷ []) vs a (good_behind hs vs g more is)
good_behind gs ws g (wrong h hs vs a more) is = wrong h (hs ++ g ∷ []) vs a (good_behind hs vs g more is)

pub wrong_behind : {Good : List ℕ → Type 0} {text : List ℕ} (gs ws : List Group) (g : Group) → AreWrong Good text gs ws → (Good (bytes_of text g) → ⊥) → AreWrong Good text (gs ++ g ∷ []) (ws ++ g ∷ [])
wrong_behind gs ws g none is = wrong g [] [] is none
wrong_behind gs ws g (good h hs vs a more) is = good h (hs ++ g ∷ []) (vs ++ g ∷ []) a (wrong_behind hs vs g more is)
wrong_behind gs ws g (wrong h hs vs a more) is = wrong h (hs ++ g ∷ []) (vs ++ g ∷ []) a (wrong_behind hs vs g more is)

none_taken : (most : ℕ) → AreFaultsOf (take most []) []
none_taken zero = tt
none_taken (suc most) = tt

-- a fault that is kept
pub kept_behind : (most : ℕ) (ws : List Group) (es : List Error) (g : Group) (e : Error) → AreFaultsOf (take most ws) es → length es < most → IsFaultOf g e → AreFaultsOf (take most (ws ++ g ∷ [])) (es ++ e ∷ [])
kept_behind zero ws es g e h lt f = absurd (omega arith)
kept_behind (suc most) [] [] g e h lt f = (f, none_taken most)
kept_behind (suc most) [] (d ∷ es) g e h lt f = absurd h
kept_behind (suc most) (w ∷ ws) [] g e h lt f = absurd h
kept_behind (suc most) (w ∷ ws) (d ∷ es) g e h lt f = (h.0, kept_behind most ws es g e h.1 (omega arith) f)

-- a fault that isn't kept
pub dropped_behind : (most : ℕ) (ws : List Group) (es : List Error) (g : Group) → AreFaultsOf (take most ws) es → most ≤ length es → AreFaultsOf (take most (ws ++ g ∷ [])) es
dropped_behind zero ws es g h le = h
dropped_behind (suc most) [] [] g h le = absurd (omega arith)
dropped_behind (suc most) [] (d ∷ es) g h le = absurd h
dropped_behind (suc most) (w ∷ ws) [] g h le = absurd h
dropped_behind (suc most) (w ∷ ws) (d ∷ es) g h le = (h.0, dropped_behind most ws es g h.1 (omega arith))

-- ---- the results for the groups

pub tells_none : {Good : List ℕ → Type 0} {text : List ℕ} (most : ℕ) (f : FieldFaults) → f.groups ≡ 0 → f.count ≡ 0 → f.faults.items ≡ [] → Tells Good text most [] f
tells_none most f groups count items = record {
  wrong = [];
  are_wrong = none;
  groups = groups;
  count = count;
  faults = rw items (none_taken most);
}

-- a good group after the others
pub tells_good : {Good : List ℕ → Type 0} {text : List ℕ} {most : ℕ} {gs : List Group} {f : FieldFaults} (g : Group) (new : FieldFaults) → Tells Good text most gs f → Good (bytes_of text g) → new.groups ≡ f.groups + 1 → new.count ≡ f.count → new.faults.items ≡ f.faults.items → Tells Good text most (gs ++ g ∷ []) new
tells_good {gs = gs} g new told is groups count items = record {
  wrong = told.wrong;
  are_wrong = good_behind gs told.wrong g told.are_wrong is;
  groups = omega (arith, told.groups, groups, length-append gs (g ∷ []));
  count = count ∙ told.count;
  faults = rw items told.faults;
}

-- a wrong group after the others
pub tells_wrong : {Good : List ℕ → Type 0} {text : List ℕ} {most : ℕ} {gs : List Group} {f : FieldFaults} (g : Group) (new : FieldFaults) → Tells Good text most gs f → (Good (bytes_of text g) → ⊥) → new.groups ≡ f.groups + 1 → new.count ≡ f.count + 1
    → ((ws : List Group) → AreFaultsOf (take most ws) f.faults.items → AreFaultsOf (take most (ws ++ g ∷ [])) new.faults.items) → Tells Good text most (gs ++ g ∷ []) new
tells_wrong {gs = gs} g new told is groups count faults = record {
  wrong = told.wrong ++ g ∷ [];
  are_wrong = wrong_behind gs told.wrong g told.are_wrong is;
  groups = omega (arith, told.groups, groups, length-append gs (g ∷ []));
  count = omega (arith, told.count, count, length-append told.wrong (g ∷ []));
  faults = faults told.wrong told.faults;
}

-- the groups before a place, with the groups after it
pub record Before (size : ℕ) (ts us : List Placed) (gs : List Group) : Type 0 where
  pub more : (hs : List Group) (left : List Placed) → GroupsTo size us hs left → GroupsTo size ts (gs ++ hs) left

pub before_none : (size : ℕ) (ts : List Placed) → Before size ts ts []
before_none size ts = record { more = λ hs left h. h }

pub before_more : {size : ℕ} {ts us : List Placed} {gs : List Group} (g : Group) (rest : List Placed) → Before size ts us gs → IsNext size us g rest → Before size ts rest (gs ++ g ∷ [])
before_more {size} {ts} {us} {gs} g rest before is = record {
  more = λ hs left h. rw append_assoc (before.more (g ∷ hs) left (next size us rest left g hs is h));
}

pub before_ends : {size : ℕ} {ts us : List Placed} {gs : List Group} → Before size ts us gs → begins_lparen (seen true us) ≡ false → GroupsTo size ts gs us
before_ends {size} {ts} {us} {gs} before is = rw append-nil at (before.more [] us (of_groups.none size us is))
