-- Laws: each command is what its word names.
use Rattle.std.specs.Prelude.{◌≡◌, Some, refl}
use Rattle.wat_tokens.specs.Tests.{look_up}
use Rattle.wat_scripts.specs.Commands.{command_word, command_words}
use Rattle.wat_scripts.specs.declared.command.Command.{Command}
use Rattle.wat_scripts.specs.declared.command.Command.TheVariants as command

pub command_is_named : (c : Command) → look_up command_words (command_word c) ≡ Some c
command_is_named command.Module = refl
command_is_named _ = refl
