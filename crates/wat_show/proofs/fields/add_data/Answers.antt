use Rattle.std.proofs.Common.{◌≡◌, ◌++◌, ◌∙◌, ℕ, ap, sym, subst, OnOk, codes}
use Rattle.std.proofs.lemmas.Simd.{map-map}
use Rattle.wat_fields.specs.DataVal.{bytes_in, data_val_view, data_vals_view}
use Rattle.wat_show.specs.Fields.{byte_count, vals_count}
use Rattle.wat_show.proofs.Added.{added_both}
use Rattle.wat_show.specs.Words.{counted}
use Rattle.wat_show.proofs.fields.add_data.Goals as goal

pub returns-in-Passive : goal.returns-in-Passive
returns-in-Passive c =
    let total : c.total.result ≡ vals_count (data_vals_view c.args.values.now) = c.total.ensures ∙ ap byte_count (sym (map-map bytes_in data_val_view c.args.values.now)) in
    rw c.in-Passive.is (subst (λ (n : ℕ). OnOk c.add_counted.result (c.add_counted.new.out.items ≡ c.args.out.now.items ++ counted (codes "data passive ") n)) total c.add_counted.ensures)

pub returns-in_ok-add_counted-in-Active : goal.returns-in_ok-add_counted-in-Active
returns-in_ok-add_counted-in-Active c =
    let total : c.total-in-Active.result ≡ vals_count (data_vals_view c.args.values.now) = c.total-in-Active.ensures ∙ ap byte_count (sym (map-map bytes_in data_val_view c.args.values.now)) in
    rw c.in-Active.is (added_both c.add_below.result _ _ _ _ _ (c.in_ok-add_counted-in-Active.ensures ∙ ap (λ (n : ℕ). c.args.out.now.items ++ counted (codes "data active ") n) total) c.add_below.ensures)
