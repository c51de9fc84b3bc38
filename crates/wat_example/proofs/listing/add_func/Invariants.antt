use Rattle.std.specs.Prelude.{◌≡◌, ◌++◌, take, flat_map, map}
use Rattle.wat_core.specs.Prelude.{string_bytes, func_use_view}
use Rattle.wat_example.specs.Listing.{use_line}
use Rattle.wat_example.proofs.listing.add_func.Given as goal

abbrev pub invariant-loop-name : goal.invariant-loop-name
invariant-loop-name l = string_bytes l.out ≡ string_bytes l.fn.out ++ flat_map (use_line (func_use_view l.func.ty)) (map (λ n. n.now) (take l.name-index l.func.exports.names.items))
