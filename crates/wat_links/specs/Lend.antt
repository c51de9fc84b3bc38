-- References to signatures, lent by imports.
use Rattle.std.specs.contracts.vec.Vec.{the_row as vec-row}
use Rattle.std.specs.contracts.alloc.Global.{the_row as global}
use Rattle.std.specs.Prelude.{ℕ, zero, suc, Option, Some, None, List, slice_get}
use Rattle.std.specs.contracts.impls.GlobalAllocator.TheImpl.{ghosts}
use Rattle.std.specs.declared.vec.Vec.{Vec}
use Rattle.std.specs.Vec.{with_item}
use Rattle.wat_types.specs.Prelude.{option_map, LendsIf, MutBor, Fml, RattleType}
use Rattle.wat_links.specs.declared.import.ImportGroup1ItemOf.{ImportGroup1ItemOf}
use Rattle.wat_links.specs.declared.import.ImportItemsOf.{ImportItemsOf}
use Rattle.wat_links.specs.declared.import.ImportItemsOf.TheVariants.{Single, Group1, Group2}
use Rattle.wat_links.specs.declared.import.ImportsOf.{ImportsOf}
use Rattle.wat_links.specs.contracts.import.ImportGroup1ItemOf as item
use Rattle.wat_links.specs.contracts.import.ImportItemsOf as items
use Rattle.wat_links.specs.contracts.import.ImportsOf as imports

abbrev pub only_first : {S : Type 0} → ℕ → S → Option S
only_first zero s = Some s
only_first (suc i) s = None

abbrev pub typed_sig_at : {N S : Type 0} → ℕ → List (ImportGroup1ItemOf N S) → Option S
typed_sig_at i xs = option_map (λ x. x.sig) (slice_get xs i)

-- signature number i
abbrev pub sig_at : {N S : Type 0} → ℕ → ImportItemsOf N S → Option S
sig_at i (Single m n s) = only_first i s
sig_at i (Group1 m xs) = typed_sig_at i xs.items
sig_at i (Group2 m s xs) = only_first i s

-- the items, with w as the signature of item i
abbrev pub with_item_sig : {N S Z : Type 0} → Vec (ImportGroup1ItemOf N S) Z → ℕ → S
    → Option (ImportGroup1ItemOf N S) → Vec (ImportGroup1ItemOf N S) Z
with_item_sig v i w None = v
with_item_sig v i w (Some x) = with_item v i (record x { sig = w })

-- the items with w as signature number i, if such a signature exists
abbrev pub with_sig : {N S : Type 0} → ℕ → ImportItemsOf N S → S → ImportItemsOf N S
with_sig i (Single m n s) w = Single m n w
with_sig i (Group1 m xs) w = Group1 m (with_item_sig xs i w (slice_get xs.items i))
with_sig i (Group2 m s xs) w = Group2 m w xs

-- If r is Some, it is lent from s: a write through r changes the signature of item number i, and
-- nothing else.
abbrev pub LendsTyped : (N S : RattleType) → ℕ
    → MutBor (Vec (ImportGroup1ItemOf N.Denot S.Denot) global.Denot) → Option (MutBor S.Denot) → Fml
LendsTyped N S i s r =
    LendsIf (vec-row (item.the_row N S) global ghosts) S s r
    (λ w. with_item_sig s.now i w (slice_get s.now.items i)) s.now

abbrev pub LendsItems : (N S : RattleType) → ℕ → MutBor (ImportItemsOf N.Denot S.Denot)
    → Option (MutBor S.Denot) → Fml
LendsItems N S i s r = LendsIf (items.the_row N S) S s r (with_sig i s.now) s.now

abbrev pub LendsImports : (N S : RattleType) → ℕ → MutBor (ImportsOf N.Denot S.Denot)
    → Option (MutBor S.Denot) → Fml
LendsImports N S i s r =
    LendsIf (imports.the_row N S) S s r (λ w. record s.now { items = with_sig i s.now.items w })
    s.now
