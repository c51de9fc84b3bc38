use Rattle.std.proofs.Common.{ℕ, ◌≡◌, ◌++◌, ◌∙◌, ap, arith, length, codes, map}
use Rattle.wat_show.specs.Prelude.{length-map, counted}
use Rattle.wat_fields.specs.Local.{local_view}
use Rattle.wat_show.proofs.Added.{added_both}
use Rattle.wat_show.proofs.fields.add_func.Goals as goal

pub returns-in_ok-add_counted-in-Inline : goal.returns-in_ok-add_counted-in-Inline
returns-in_ok-add_counted-in-Inline c =
    let count : c.len.result ≡ length (map local_view c.in-Inline.locals.items) = omega (arith, c.len.ensures, length-map c.in-Inline.locals.items local_view) in
    rw c.in-Inline.is (added_both c.add_below.result _ _ _ _ _ (c.in_ok-add_counted-in-Inline.ensures ∙ ap (λ (n : ℕ). c.args.out.now.items ++ counted (codes "func inline ") n) count) c.add_below.ensures)
