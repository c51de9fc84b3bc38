use Rattle.std.specs.Prelude.{◌≡◌, ◌++◌, map, take}
use Rattle.wat.specs.Prelude.{filter, string_bytes, is_file}
use Rattle.wat.proofs.command.add_files.Given as goal

-- the files among the words so far were added
abbrev pub invariant-loop-word : goal.invariant-loop-word
invariant-loop-word l = map string_bytes l.files.items ≡ map string_bytes l.initial.files.items ++ filter is_file (map string_bytes (take l.word-index l.words))
