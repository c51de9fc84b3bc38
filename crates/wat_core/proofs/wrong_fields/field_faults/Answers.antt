use Rattle.std.proofs.Common.{◌≡◌, ◌∙◌, sym, ap, refl, [], subst, length, List, None, true, false}
use Rattle.wat_core.specs.Prelude.{Placed, State, GroupsTo, wrong_end}
use Rattle.wat_core.specs.ModuleGroups.{headless, headed}
use Rattle.wat_core.specs.ModuleHead.{behind_head, has_head}
use Rattle.wat_core.proofs.Groups.{head_ends}
use Rattle.wat_core.proofs.Telling.{tells_none}
use Rattle.wat_core.proofs.wrong_fields.field_faults.Goals as goal

pub returns-then-not-pass_head-clause-found : goal.returns-then-not-pass_head-clause-found
returns-then-not-pass_head-clause-found g c =
    let (ts, cut, is) = c.in-Ok.ensures.fresh in
    let none : has_head ts ≡ false = ap (λ (p : State). has_head p.rest) (sym is) ∙ sym c.pass_head.ensures.value ∙ (cc) in
    (ts, [], None, cut, headless (length c.args.text.now) ts none, tells_none c.args.most c.none.result c.none.ensures.groups c.none.ensures.count c.none.ensures.faults, rw c.none.ensures.beside refl)

pub check_all-requires : goal.check_all-requires
check_all-requires g c κs =
    let (ts, cut, is) = c.in-Ok.ensures.fresh in
    let behind = c.pass_head.ensures.behind (cc) in
    let (n, e) = head_ends ts in (
      (refl, tt),
      (
        record {
          known = behind.0;
          left = behind.1;
          last = (ts, n, cut, behind.2 ∙ ap (λ (p : State). behind_head p.rest) is ∙ e);
        },
        behind.3,
      ),
    )

pub returns-clause-found : goal.returns-clause-found
returns-clause-found g c =
    let (ts, cut, is) = c.in-Ok.ensures.fresh in
    let size = length c.args.text.now in
    let left = c.check_all.new.parser.rest in
    let behind = c.pass_head.ensures.behind (cc) in
    let has : has_head ts ≡ true = ap (λ (p : State). has_head p.rest) (sym is) ∙ sym c.pass_head.ensures.value ∙ (cc) in
    let here = behind.2 ∙ ap (λ (p : State). behind_head p.rest) is in
    let (gs, to, told) = c.in-Ok-check_all.ensures.found in (
      ts,
      gs,
      wrong_end size left,
      cut,
      headed size ts left gs has (subst (λ (l : List Placed). GroupsTo size l gs left) here to),
      record {
        wrong = told.wrong;
        are_wrong = told.are_wrong;
        groups = told.groups;
        count = told.count;
        faults = told.faults;
      },
      c.wrong_end-found.ensures,
    )
