use Rattle.std.specs.Prelude.{◌≡◌, ◌++◌, drop, false}
use Rattle.wat_print.specs.Text.{quoted_as}
use Rattle.wat_print.proofs.output.Output.push_bytes.Given as goal

-- the page with the bytes left to write is the final page
abbrev pub invariant-loop-b : goal.invariant-loop-b
invariant-loop-b l =
    record l.self { bytes = l.self.bytes ++ quoted_as false (drop l.b-index l.bytes) }
    ≡ record l.fn.self { bytes = l.fn.self.bytes ++ quoted_as false l.bytes }
