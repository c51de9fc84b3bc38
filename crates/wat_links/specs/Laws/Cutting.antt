-- Laws: the subsections of a `dylink.0` section are its entries, cut.
--
-- A `dylink.0` section is a list of groups. `subsections` reads it as subsections: a run of
-- `export-info` groups is one subsection, and so is a run of `import-info` groups; any other group
-- is one alone. `entries` reads it as entries, one for each group. The laws `cut_to` and `cut_from`
-- say that both read the same tokens, if the subsections are cut: none is empty, and no two of one
-- kind follow each other. A sketch of the proof:
--
--     groups       export-info a   export-info b   needed c   import-info d
--     entries      of_export a     of_export b     other c    of_import d
--     subsections  export_info [a, b]              other c    import_info [d]
--
-- 1. The next tokens: a group begins with one word, so no group begins a run of both kinds.
-- 2. A run, for either kind (the module with the parameters f, test and g): `run_is_many` and
--    `many_is_run` say that a run is a list of entries of its kind as long as the test holds.
--    `run_entries` puts such a list before other entries; `entries_run` takes it off again.
-- 3. The first subsection decides the next tokens (`starts_..`). So a run ends where the test
--    doesn't hold, and the subsection after it is of another kind (`apart_..`); and if it is of
--    another kind, then the test doesn't hold there (`stops_..`).
-- 4. Both ways by recursion on the subsections: `first_cut` for one subsection before others that
--    are cut (`to_cut`); `from_cut` takes the entries of the first subsection off.
use Rattle.std.proofs.Common.{◌≡◌, ◌≤◌, ℕ, true, false, List, [], ◌∷◌, ◌++◌, codes, map, flat_map, refl, ap, subst, sym, ◌∙◌, append_assoc, inl, inr}
use Rattle.std.specs.Prelude.{⊤}
use Rattle.wat_types.specs.Prelude.{bytes_decides, bytes_eq, Token, LParen, Keyword, begins_group, more, Production, many_spells, by_test, Test, run, many_ends}
use Rattle.wat_links.specs.Dylink.{Dylink0SubsectionModel, export_info, import_info, begins_export, begins_import, lone_entry, mem_info_entry, entry_run, subsection, at_export, at_import}
use Rattle.wat_links.specs.Entries.{Dylink0Entry, of_export, of_import, other, entry, entries_in, IsFilled, IsApart, AreCut}
use Rattle.wat_links.specs.DylinkEntries.{export_entry, import_entry}
use Rattle.wat_links.specs.Laws.DylinkEntries.{export_entry_consumes, import_entry_consumes}
use Rattle.wat_links.specs.Subsections.{subsections}
use Rattle.wat_links.specs.CutForm.{entries, CutSpells}

-- ---- the next tokens

group_more : (w : List ℕ) (t : List Token) → begins_group w t ≡ true → more t ≡ true
group_more w [] e = absurd cc
group_more w (LParen ∷ t) e = refl
group_more w (_ ∷ t) e = absurd cc

-- a group begins with one word
no_other_group : (w v : List ℕ) → bytes_eq w v ≡ false → (t : List Token) → begins_group w t ≡ true
    → begins_group v t ≡ false
no_other_group w v n (LParen ∷ Keyword k ∷ t) e =
    let q : k ≡ w = (bytes_decides k w).0 e in rw q n
no_other_group w v n [] e = absurd cc
no_other_group w v n (_ ∷ t) e = absurd cc

import_no_export : (t : List Token) → begins_import t ≡ true → begins_export t ≡ false
import_no_export = no_other_group (codes "import-info") (codes "export-info") refl

-- d, then e, then r
regroup : (d e r : List Token) → (d ++ e) ++ r ≡ d ++ (e ++ r)
regroup d e r = append_assoc d e r

-- ---- a run, and the entries in it

module _ {A : Type 0} (f : A → Dylink0Entry) (test : Test) (g : Production A)
    (consumes : 1 ≤ g.least)
    (as_entry : (x : A) (d t : List Token) → run test (d ++ t) ≡ true → g.spells x d t
    → entry.spells (f x) d t)
    (of_entry : (x : A) (d t : List Token) → entry.spells (f x) d t
    → (run test (d ++ t) ≡ true) × g.spells x d t)
    (goes_on : (t : List Token) → run test t ≡ true → more t ≡ true) where
  run_is_many : (vs : List A) (d t : List Token) → run test (d ++ t) ≡ true
      → (entry_run test g consumes).spells vs d t → many_spells (λ u. run test u) g vs d t
  run_is_many vs d t b s =
      subst (λ (u : List A). many_spells (λ u. run test u) g u d t) s.3 (s.1.0, s.1.1, s.1.2, b, s.1.3, s.1.4)

  many_is_run : (x : A) (xs : List A) (d t : List Token)
      → many_spells (λ u. run test u) g (x ∷ xs) d t
      → (entry_run test g consumes).spells (x ∷ xs) d t
  many_is_run x xs d t s = ((x, xs), (s.0, s.1, s.2, s.4, s.5), refl, refl)

  run_entries : (xs : List A) (d e r : List Token) (es : List Dylink0Entry)
      → many_spells (λ u. run test u) g xs d (e ++ r) → many_spells more entry es e r
      → many_spells more entry (map f xs ++ es) (d ++ e) r
  run_entries [] d e r es s p = rw (s.0) p
  run_entries (x ∷ xs) d e r es s p =
      let b : run test (s.0 ++ ((s.1 ++ e) ++ r)) ≡ true =
      rw (regroup s.1 e r, ← regroup s.0 s.1 (e ++ r), ← s.2) (s.3) in
      let m : more ((d ++ e) ++ r) ≡ true = rw (regroup d e r) (goes_on (d ++ (e ++ r)) s.3) in
      let w : g.spells x s.0 ((s.1 ++ e) ++ r) = rw (regroup s.1 e r) (s.4) in (
        s.0,
        s.1 ++ e,
        rw (s.2) (regroup s.0 s.1 e),
        m,
        as_entry x s.0 ((s.1 ++ e) ++ r) b w,
        run_entries xs s.1 e r es s.5 p,
      )

  entries_run : (xs : List A) (c r : List Token) (es : List Dylink0Entry)
      → many_spells more entry (map f xs ++ es) c r
      → (d : List Token) × (e : List Token) × (c ≡ d ++ e)
      × (run test (e ++ r) ≡ false → many_spells (λ u. run test u) g xs d (e ++ r))
      × many_spells more entry es e r
  entries_run [] c r es s = ([], c, refl, (λ k. (refl, k)), s)
  entries_run (x ∷ xs) c r es s =
      let q = of_entry x s.0 (s.1 ++ r) s.4 in
      let p = entries_run xs s.1 r es s.5 in
      let e : s.1 ++ r ≡ p.0 ++ (p.1 ++ r) =
      ap (λ (u : List Token). u ++ r) p.2 ∙ regroup p.0 p.1 r in
      let whole : c ≡ (s.0 ++ p.0) ++ p.1 =
      s.2 ∙ ap (λ (u : List Token). s.0 ++ u) p.2 ∙ sym (regroup s.0 p.0 p.1) in
      let b = subst (λ (u : List Token). run test u ≡ true)
      (ap (λ (u : List Token). s.0 ++ u) e ∙ sym (regroup s.0 p.0 (p.1 ++ r))) q.0 in
      let w = subst (λ (u : List Token). g.spells x s.0 u) e q.1 in
      (s.0 ++ p.0, p.1, whole, (λ k. (s.0, p.0, refl, b, w, p.3 k)), p.4)

  -- a run before other entries, with no entry of the same kind directly after it
  run_in_front : (vs : List A) (d e r : List Token) (es : List Dylink0Entry)
      → run test (d ++ (e ++ r)) ≡ true → (entry_run test g consumes).spells vs d (e ++ r)
      → many_spells more entry es e r
      → many_spells more entry (map f vs ++ es) (d ++ e) r × (run test (e ++ r) ≡ false)
  run_in_front vs d e r es b s p =
      let all = run_is_many vs d (e ++ r) b s in
      (run_entries vs d e r es all p, many_ends (λ u. run test u) g vs d (e ++ r) all)

  -- all entries of one kind, before other entries, are a run
  front_is_run : (x : A) (xs : List A) (c d e r : List Token) → c ≡ d ++ e
      → many_spells (λ u. run test u) g (x ∷ xs) d (e ++ r)
      → (more (c ++ r) ≡ true) × (run test (d ++ (e ++ r)) ≡ true)
      × (entry_run test g consumes).spells (x ∷ xs) d (e ++ r)
  front_is_run x xs c d e r p s =
      let m : more (c ++ r) ≡ true = rw (p, regroup d e r) (goes_on (d ++ (e ++ r)) s.3) in
      (m, s.3, many_is_run x xs d (e ++ r) s)

-- ---- entries of the two kinds

export_as : (x : List ℕ × ℕ) (d t : List Token) → begins_export (d ++ t) ≡ true
    → export_entry.spells x d t → entry.spells (of_export x) d t
unfolding entry
export_as x d t b s = inl (b, (x, s, refl, refl))

export_is : (x : List ℕ × ℕ) (d t : List Token) → entry.spells (of_export x) d t
    → (begins_export (d ++ t) ≡ true) × export_entry.spells x d t
unfolding entry
export_is x d t (inl s) =
    let e : s.1.0 ≡ x =
    (let h = s.1.3 in cc) in (s.0, subst (λ (u : List ℕ × ℕ). export_entry.spells u d t) e s.1.1)
export_is x d t (inr (b, inl s)) = absurd (let h = s.1.3 in cc)
export_is x d t (inr (b, inr s)) = absurd (let h = s.1.3 in cc)

import_as : (x : List ℕ × List ℕ × ℕ) (d t : List Token) → begins_import (d ++ t) ≡ true
    → import_entry.spells x d t → entry.spells (of_import x) d t
unfolding entry
import_as x d t b s = inr (import_no_export (d ++ t) b, inl (b, (x, s, refl, refl)))

import_is : (x : List ℕ × List ℕ × ℕ) (d t : List Token) → entry.spells (of_import x) d t
    → (begins_import (d ++ t) ≡ true) × import_entry.spells x d t
unfolding entry
import_is x d t (inl s) = absurd (let h = s.1.3 in cc)
import_is x d t (inr (b, inl s)) =
    let e : s.1.0 ≡ x =
    (let h = s.1.3 in cc) in (
      s.0,
      subst (λ (u : List ℕ × List ℕ × ℕ). import_entry.spells u d t) e
          s.1.1,
    )
import_is x d t (inr (b, inr s)) = absurd (let h = s.1.3 in cc)

-- ---- what the first subsection implies for the next tokens

export_no_import : (t : List Token) → begins_export t ≡ true → begins_import t ≡ false
export_no_import = no_other_group (codes "export-info") (codes "import-info") refl

abbrev IsLone : Dylink0SubsectionModel → Type 0
IsLone (export_info xs) = ⊥
IsLone (import_info xs) = ⊥
IsLone _ = ⊤

abbrev NotExport : Dylink0SubsectionModel → Type 0
NotExport (export_info xs) = ⊥
NotExport _ = ⊤

abbrev NotImport : Dylink0SubsectionModel → Type 0
NotImport (import_info xs) = ⊥
NotImport _ = ⊤

lone_is : (s : Dylink0SubsectionModel) (d t : List Token) → lone_entry.spells s d t → IsLone s
unfolding lone_entry mem_info_entry
lone_is s d t (inl p) = subst (λ (u : Dylink0SubsectionModel). IsLone u) (p.1.2.1.4.3 ∙ p.1.2.3) tt
lone_is s d t (inr (b, inl p)) = subst (λ (u : Dylink0SubsectionModel). IsLone u) p.1.3 tt
lone_is s d t (inr (b, inr (k, inl p))) = subst (λ (u : Dylink0SubsectionModel). IsLone u) p.1.3 tt
lone_is s d t (inr (b, inr (k, inr p))) = subst (λ (u : Dylink0SubsectionModel). IsLone u) p.1.3 tt

lone_entries : (s : Dylink0SubsectionModel) → IsLone s
    → (entries_in s ≡ other s ∷ []) × IsFilled s × ((ss : List Dylink0SubsectionModel)
    → IsApart s ss)
lone_entries (export_info xs) n = absurd n
lone_entries (import_info xs) n = absurd n
lone_entries _ n = (refl, tt, (λ ss. tt))

starts_export : (xs : List (List ℕ × ℕ)) (d t : List Token) → subsection.spells (export_info xs) d t
    → begins_export (d ++ t) ≡ true
unfolding subsection
starts_export xs d t (inl s) = s.0
starts_export xs d t (inr (b, inl s)) = absurd (let h = s.1.3 in cc)
starts_export xs d t (inr (b, inr s)) = absurd (lone_is (export_info xs) d t s.1)

starts_import : (xs : List (List ℕ × List ℕ × ℕ)) (d t : List Token)
    → subsection.spells (import_info xs) d t → begins_import (d ++ t) ≡ true
unfolding subsection
starts_import xs d t (inl s) = absurd (let h = s.1.3 in cc)
starts_import xs d t (inr (b, inl s)) = s.0
starts_import xs d t (inr (b, inr s)) = absurd (lone_is (import_info xs) d t s.1)

starts_no_export : (s : Dylink0SubsectionModel) (d t : List Token) → NotExport s
    → subsection.spells s d t
    → begins_export (d ++ t) ≡ false
unfolding subsection
starts_no_export s d t n (inl p) = absurd (subst (λ (u : Dylink0SubsectionModel). NotExport u) (sym
    p.1.3) n)
starts_no_export s d t n (inr p) = p.0

starts_no_import : (s : Dylink0SubsectionModel) (d t : List Token) → NotImport s
    → subsection.spells s d t
    → begins_import (d ++ t) ≡ false
unfolding subsection
starts_no_import s d t n (inl p) = export_no_import (d ++ t) p.0
starts_no_import s d t n (inr (b, inl p)) =
    absurd (subst (λ (u : Dylink0SubsectionModel). NotImport u) (sym p.1.3) n)
starts_no_import s d t n (inr (b, inr p)) = p.0

-- no entry begins at the end of the group
ends_no_group : (w : List ℕ) (t : List Token) → more t ≡ false → begins_group w t ≡ false
ends_no_group w t e =
    by_test (begins_group w t) (λ k. absurd (let m = group_more w t k in cc)) (λ k. k)

module _ (ss : List Dylink0SubsectionModel) (s : Dylink0SubsectionModel) (c r : List Token)
    (p : many_spells more subsection (s ∷ ss) c r) where
  whole : c ++ r ≡ p.0 ++ (p.1 ++ r)
  whole = rw (p.2) (regroup p.0 p.1 r)

apart_export : (xs : List (List ℕ × ℕ)) (ss : List Dylink0SubsectionModel) (c r : List Token)
    → begins_export (c ++ r) ≡ false → many_spells more subsection ss c r
    → IsApart (export_info xs) ss
apart_export xs [] c r k p = tt
apart_export xs (export_info ys ∷ ss) c r k p =
    absurd (let h : begins_export (c ++ r)
    ≡ true = rw (whole ss (export_info ys) c r p) (starts_export ys p.0 (p.1 ++ r) p.4) in cc)
apart_export xs (_ ∷ ss) c r k p = tt

apart_import : (xs : List (List ℕ × List ℕ
    × ℕ)) (ss : List Dylink0SubsectionModel) (c r : List Token)
    → begins_import (c ++ r) ≡ false → many_spells more subsection ss c r
    → IsApart (import_info xs) ss
apart_import xs [] c r k p = tt
apart_import xs (import_info ys ∷ ss) c r k p =
    absurd (let h : begins_import (c ++ r)
    ≡ true = rw (whole ss (import_info ys) c r p) (starts_import ys p.0 (p.1 ++ r) p.4) in cc)
apart_import xs (_ ∷ ss) c r k p = tt

stops_export : (xs : List (List ℕ × ℕ)) (ss : List Dylink0SubsectionModel) (c r : List Token)
    → IsApart (export_info xs) ss → many_spells more subsection ss c r
    → begins_export (c ++ r) ≡ false
stops_export xs [] c r a p = rw (p.0) (ends_no_group (codes "export-info") r p.1)
stops_export xs (export_info ys ∷ ss) c r a p = absurd a
stops_export xs (s ∷ ss) c r a p = rw (whole ss s c r p) (starts_no_export s p.0 (p.1 ++ r) tt p.4)

stops_import : (xs : List (List ℕ × List ℕ
    × ℕ)) (ss : List Dylink0SubsectionModel) (c r : List Token)
    → IsApart (import_info xs) ss → many_spells more subsection ss c r
    → begins_import (c ++ r) ≡ false
stops_import xs [] c r a p = rw (p.0) (ends_no_group (codes "import-info") r p.1)
stops_import xs (import_info ys ∷ ss) c r a p = absurd a
stops_import xs (s ∷ ss) c r a p = rw (whole ss s c r p) (starts_no_import s p.0 (p.1 ++ r) tt p.4)

-- ---- both ways

abbrev all_entries : List Dylink0SubsectionModel → List Dylink0Entry
all_entries ss = flat_map entries_in ss

-- a subsection before other subsections that are cut
abbrev IsFirst : List Dylink0SubsectionModel → List Token → List Token → Dylink0SubsectionModel
    → Type 0
IsFirst ss c r s =
    many_spells more entry (entries_in s ++ all_entries ss) c r × IsFilled s × IsApart s ss

first_cut : (s : Dylink0SubsectionModel) (ss : List Dylink0SubsectionModel) (d e r : List Token)
    → more ((d ++ e) ++ r) ≡ true → subsection.spells s d (e ++ r)
    → many_spells more subsection ss e r → many_spells more entry (all_entries ss) e r
    → IsFirst ss (d ++ e) r s
unfolding subsection entry
first_cut s ss d e r m (inl p) rest es =
    let q = run_in_front of_export at_export export_entry export_entry_consumes export_as
    export_is
    (group_more (codes "export-info")) p.1.0 d e r (all_entries ss) p.0 p.1.1 es in
    let filled = subst (λ (u : List (List ℕ × ℕ)). IsFilled (export_info u)) p.1.1.3 tt in
    subst (λ (u : Dylink0SubsectionModel). IsFirst ss (d ++ e) r u) p.1.3
    (q.0, filled, apart_export p.1.0 ss e r q.1 rest)
first_cut s ss d e r m (inr (b, inl p)) rest es =
    let q = run_in_front of_import at_import import_entry import_entry_consumes import_as
    import_is
    (group_more (codes "import-info")) p.1.0 d e r (all_entries ss) p.0 p.1.1 es in
    let filled = subst (λ (u : List (List ℕ × List ℕ × ℕ)). IsFilled (import_info u)) p.1.1.3 tt in
    subst (λ (u : Dylink0SubsectionModel). IsFirst ss (d ++ e) r u) p.1.3
    (q.0, filled, apart_import p.1.0 ss e r q.1 rest)
first_cut s ss d e r m (inr (b, inr p)) rest es =
    let q = lone_entries s (lone_is s d (e ++ r) p.1) in
    let here : many_spells more entry (other s ∷ all_entries ss) (d ++ e) r =
    (d, e, refl, m, inr (b, inr (p.0, (s, p.1, refl, refl))), es) in (
      subst (λ (u : List Dylink0Entry). many_spells more entry (u ++ all_entries ss) (d ++ e) r)
          (sym q.0) here,
      q.1,
      q.2 ss,
    )

to_cut : (ss : List Dylink0SubsectionModel) (c r : List Token) → many_spells more subsection ss c r
    → many_spells more entry (all_entries ss) c r × AreCut ss
to_cut [] c r p = (p, tt)
to_cut (s ∷ ss) c r p =
    let rest = to_cut ss p.1 r p.5 in
    let m : more ((p.0 ++ p.1) ++ r) ≡ true = rw (← p.2) (p.3) in
    let q = first_cut s ss p.0 p.1 r m p.4 p.5 rest.0 in
    (rw (p.2) (q.0), (q.1, q.2, rest.1))

lone_alone : (s : Dylink0SubsectionModel) (d t : List Token) → entry.spells (other s) d t
    → subsection.spells s d t
unfolding subsection entry
lone_alone s d t (inl p) = absurd (let h = p.1.3 in cc)
lone_alone s d t (inr (b, inl p)) = absurd (let h = p.1.3 in cc)
lone_alone s d t (inr (b, inr p)) =
    let e : p.1.0 ≡ s =
    (let h = p.1.3 in cc) in inr (
      b,
      inr
          (p.0, subst (λ (u : Dylink0SubsectionModel). lone_entry.spells u d t) e p.1.1),
    )

from_cut : (ss : List Dylink0SubsectionModel) (c r : List Token)
    → many_spells more entry (all_entries ss) c r
    → AreCut ss → many_spells more subsection ss c r
unfolding subsection
from_cut [] c r s a = s
from_cut (export_info [] ∷ ss) c r s a = absurd a.0
from_cut (import_info [] ∷ ss) c r s a = absurd a.0
from_cut (export_info (x ∷ xs) ∷ ss) c r s a =
    let p = entries_run of_export at_export export_entry export_entry_consumes export_as
    export_is
    (group_more (codes "export-info")) (x ∷ xs) c r (all_entries ss) s in
    let rest = from_cut ss p.1 r p.4 a.2 in
    let q = front_is_run of_export at_export export_entry export_entry_consumes export_as
    export_is
    (group_more (codes "export-info")) x xs c p.0 p.1 r p.2
    (p.3 (stops_export (x ∷ xs) ss p.1 r a.1 rest)) in
    (p.0, p.1, p.2, q.0, inl (q.1, (x ∷ xs, q.2, refl, refl)), rest)
from_cut (import_info (x ∷ xs) ∷ ss) c r s a =
    let p = entries_run of_import at_import import_entry import_entry_consumes import_as
    import_is
    (group_more (codes "import-info")) (x ∷ xs) c r (all_entries ss) s in
    let rest = from_cut ss p.1 r p.4 a.2 in
    let q = front_is_run of_import at_import import_entry import_entry_consumes import_as
    import_is
    (group_more (codes "import-info")) x xs c p.0 p.1 r p.2
    (p.3 (stops_import (x ∷ xs) ss p.1 r a.1 rest)) in
    let no = import_no_export (p.0 ++ (p.1 ++ r)) q.1 in
    (p.0, p.1, p.2, q.0, inr (no, inl (q.1, (x ∷ xs, q.2, refl, refl))), rest)
from_cut (s ∷ ss) c r q a =
    (q.0, q.1, q.2, q.3, lone_alone s q.0 (q.1 ++ r) q.4, from_cut ss q.1 r q.5 a.2)

pub cut_to : (ss : List Dylink0SubsectionModel) (c r : List Token) → subsections.spells ss c r
    → CutSpells ss c r
unfolding subsections entries
cut_to ss c r s = to_cut ss c r s

pub cut_from : (ss : List Dylink0SubsectionModel) (c r : List Token) → CutSpells ss c r
    → subsections.spells ss c r
unfolding subsections entries
cut_from ss c r s = from_cut ss c r s.0 s.1
