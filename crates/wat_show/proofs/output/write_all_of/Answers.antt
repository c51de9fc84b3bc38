use Rattle.std.proofs.Common.{rules, ◌≡◌, ◌↔◌, IsTrue, ℕ, ◌-◌, List, ◌++◌, length, take, drop, sym, ap, ◌∙◌, append_assoc, take-append-drop}
use Rattle.std.proofs.lemmas.List.{take_rest}
use Rattle.std.proofs.KnownBytes.{Appends-trans}
use Rattle.wat_show.proofs.output.write_all_of.Goals as goal

-- the bytes written so far grow by a prefix of the rest
moves_front : (all front rest : List ℕ) (n : ℕ) → all ≡ front ++ rest → all ≡ (front ++ take n rest) ++ take (length rest - n) (drop n rest)
moves_front all front rest n e =
    e ∙ ap (λ l. front ++ l) (sym (take-append-drop n rest)) ∙ sym (append_assoc front (take n rest) (drop n rest)) ∙ ap (λ l. (front ++ take n rest) ++ l) (sym (take_rest rest n))

pub loop-rest-preserved : goal.loop-rest-preserved
loop-rest-preserved g c =
    let (front, whole, taken) = c.loop-rest.invariant.0 in
    let rest = c.loop-rest.rest.now in
    let count = c.in-Ok.count in
    let not_failed : IsTrue c.write.new.self.failed ↔ IsTrue c.args.writer.now.failed = search rules in
    ((front ++ take count rest, moves_front _ front rest count whole, Appends-trans _ _ _ _ _ taken c.in-Ok.ensures.bytes), not_failed)
