use Rattle.std.proofs.Common.{[], ◌∷◌, codes, map, sym, subst}
use Rattle.std.proofs.lemmas.Result.{on_ok_weaker, IfErr-weaker}
use Rattle.wat_print_module.specs.Prelude.{more, subsection_view, runtime_path, target_arch, other, entries_in, Printed, entry_form, entries_form}
use Rattle.wat_lexer.specs.Token.{String}
use Rattle.wat_links.specs.declared.dylink.Dylink0Subsection.{Dylink0Subsection}
use Rattle.wat_print.specs.Laws.Written.{enclosed}
use Rattle.wat_print_module.proofs.Single.{printed_one}
use Rattle.wat_print_module.proofs.dylink.write_subsection.Goals as goal

pub returns-in-RuntimePath : goal.returns-in-RuntimePath
returns-in-RuntimePath c =
    let e = c.write_names-in-RuntimePath.ensures in
    let d = c.deref-in-RuntimePath.ensures.value in
    let r = c.write_names-in-RuntimePath.result in
    let a = c.args.out.now in
    let b = c.write_names-in-RuntimePath.new.out in
    let s = other (runtime_path (map (λ x. x.now) c.in-RuntimePath.paths.items)) in
    subst (λ (v : Dylink0Subsection). Printed entries_form (entries_in (subsection_view v)) r a b)
    (sym c.in-RuntimePath.is) (printed_one more entry_form s r a b (record {
      written = rw d at e.written;
      printable = rw d at e.printable;
      refused = rw d at e.refused;
    }))

pub returns-in_ok-text-in-TargetArch : goal.returns-in_ok-text-in-TargetArch
returns-in_ok-text-in-TargetArch c =
    let e = c.close-in-TargetArch.ensures in
    let r = c.close-in-TargetArch.result in
    let a = c.args.out.now in
    let b = c.close-in-TargetArch.new.self in
    let n = c.in-TargetArch.name.now in
    subst (λ (v : Dylink0Subsection). Printed entries_form (entries_in (subsection_view v)) r a b)
    (sym c.in-TargetArch.is) (printed_one more entry_form (other (target_arch n)) r a b (record {
      written = on_ok_weaker r (λ done. enclosed (codes "target-arch") (String n ∷ []) _ _ _ _ _
          c.in_ok-open-in-TargetArch.ensures.written c.in_ok-word-in-TargetArch.ensures.written
          c.in_ok-text-in-TargetArch.ensures.written done) e.written;
      printable = on_ok_weaker r (λ done. c.in_ok-text-in-TargetArch.ensures.printable) e.written;
      refused = IfErr-weaker r _ _ (λ f g h. absurd (h g)) e.refused;
    }))
