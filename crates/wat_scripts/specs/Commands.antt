-- The words with which commands begin.
use Rattle.std.specs.Prelude.{ℕ, Bool, List, [], ◌∷◌, codes, is_some}
use Rattle.wat_tokens.specs.Prelude.{look_up}
use Rattle.wat_scripts.specs.declared.command.Command.{Command}
use Rattle.wat_scripts.specs.declared.command.Command.TheVariants as command

-- the word of a command
abbrev pub command_word : Command → List ℕ
command_word command.Module = codes "module"
command_word command.Register = codes "register"
command_word command.Invoke = codes "invoke"
command_word command.Get = codes "get"
command_word command.AssertReturn = codes "assert_return"
command_word command.AssertTrap = codes "assert_trap"
command_word command.AssertException = codes "assert_exception"
command_word command.AssertSuspension = codes "assert_suspension"
command_word command.AssertExhaustion = codes "assert_exhaustion"
command_word command.AssertMalformed = codes "assert_malformed"
command_word command.AssertMalformedCustom = codes "assert_malformed_custom"
command_word command.AssertInvalid = codes "assert_invalid"
command_word command.AssertInvalidCustom = codes "assert_invalid_custom"
command_word command.AssertUnlinkable = codes "assert_unlinkable"
command_word command.AssertReturnCanonicalNan = codes "assert_return_canonical_nan"
command_word command.AssertReturnArithmeticNan = codes "assert_return_arithmetic_nan"
command_word command.Script = codes "script"
command_word command.Input = codes "input"
command_word command.Output = codes "output"
command_word command.Thread = codes "thread"
command_word command.Wait = codes "wait"
command_word command.Component = codes "component"

-- each word with the command that it begins
abbrev pub command_words : List (List ℕ × Command)
command_words =
    (codes "module", command.Module)
    ∷ (codes "register", command.Register)
    ∷ (codes "invoke", command.Invoke)
    ∷ (codes "get", command.Get)
    ∷ (codes "assert_return", command.AssertReturn)
    ∷ (codes "assert_trap", command.AssertTrap)
    ∷ (codes "assert_exception", command.AssertException)
    ∷ (codes "assert_suspension", command.AssertSuspension)
    ∷ (codes "assert_exhaustion", command.AssertExhaustion)
    ∷ (codes "assert_malformed", command.AssertMalformed)
    ∷ (codes "assert_malformed_custom", command.AssertMalformedCustom)
    ∷ (codes "assert_invalid", command.AssertInvalid)
    ∷ (codes "assert_invalid_custom", command.AssertInvalidCustom)
    ∷ (codes "assert_unlinkable", command.AssertUnlinkable)
    ∷ (codes "assert_return_canonical_nan", command.AssertReturnCanonicalNan)
    ∷ (codes "assert_return_arithmetic_nan", command.AssertReturnArithmeticNan)
    ∷ (codes "script", command.Script)
    ∷ (codes "input", command.Input)
    ∷ (codes "output", command.Output)
    ∷ (codes "thread", command.Thread)
    ∷ (codes "wait", command.Wait)
    ∷ (codes "component", command.Component)
    ∷ []

-- a command begins with the word
abbrev pub is_command : List ℕ → Bool
is_command w = is_some (look_up command_words w)
