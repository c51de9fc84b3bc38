use Rattle.std.specs.Prelude.{◌≡◌, ◌++◌, take, flat_map}
use Rattle.wat_report.specs.Json.{json_escape}
use Rattle.wat_report.proofs.json.add_characters.Given as goal

abbrev pub invariant-loop-byte : goal.invariant-loop-byte
invariant-loop-byte l = l.out.items ≡ l.initial.out.items ++ flat_map json_escape (take l.byte-index l.text)
