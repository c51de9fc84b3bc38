-- What the arguments of the program ask for. A word is an argument, as its bytes.
use Rattle.std.specs.Prelude.{ℕ, ◌==◌, ◌&&◌, ◌||◌, Bool, false, not, List, [], ◌∷◌, ◌++◌, length, drop, codes, slice_index, Option, Some, None, Result, Ok, Err, if◌then◌else◌, nat_eq, nat_lt, filter, position}
use Rattle.std.specs.List.{starts_with}
use Prim.Native.Char.{code}
use Rattle.wat_answers.specs.Prelude.{list_any, before_first, after_first, bytes_eq, Line, Indented}
use Rattle.wat.specs.declared.command.CheckOptions.{CheckOptions}
use Rattle.wat.specs.declared.command.Color.{Color}
use Rattle.wat.specs.declared.command.Color.TheVariants.{Always, Never, Auto}
use Rattle.wat.specs.declared.command.Command.{Command}
use Rattle.wat.specs.declared.command.Command.TheVariants.{Checks, Lists, Prints, Formats}
use Rattle.wat.specs.declared.command.CommandName.{CommandName}
use Rattle.wat.specs.declared.command.CommandName.TheVariants.{Check, Listing, Print, Format}
use Rattle.wat.specs.declared.command.FormatMode.{FormatMode}
use Rattle.wat.specs.declared.command.FormatMode.TheVariants.{Rewrite, ListChanged, Diff}
use Rattle.wat.specs.declared.command.Message.{Message}
use Rattle.wat.specs.declared.command.Message.TheVariants.{Help, Version, NoCommand, UnknownCommand, UnknownOption}

-- A word is an option if it begins with `-` and is longer. `-` alone is standard input.
abbrev pub is_option : List ℕ → Bool
is_option word = nat_lt 1 (length word) && (slice_index word 0 == code "-")

-- `--` ends the options
abbrev pub is_end : List ℕ → Bool
is_end word = bytes_eq word (codes "--")

-- the files among the words after a command: before `--` those that aren't options, after it all
abbrev pub is_file : List ℕ → Bool
is_file word = not (is_option word)

abbrev pub files_of : List (List ℕ) → List (List ℕ)
files_of words = filter is_file (before_first is_end words) ++ after_first is_end words

-- the inputs: the files, or standard input if there are none
abbrev pub inputs_of : List (List ℕ) → List (List ℕ)
inputs_of words = if length (files_of words) == 0 then codes "-" ∷ [] else files_of words

-- the options that take a value
abbrev pub takes_value : List ℕ → Bool
takes_value word = bytes_eq word (codes "--color") || bytes_eq word (codes "--stdin-filepath")

-- An option that takes a value and the word after it are one word, with `=` between them. The words
-- from `--` on stay.
abbrev pub joined : List (List ℕ) → List (List ℕ)
joined [] = []
joined (word ∷ []) = word ∷ []
joined (word ∷ value ∷ words) =
    if is_end word then word ∷ value ∷ words
    else if takes_value word then (word ++ codes "=" ++ value) ∷ joined words
    else word ∷ joined (value ∷ words)

-- the same for a word other than `--` and the words after it
abbrev pub joined_first : List ℕ → List (List ℕ) → List (List ℕ)
joined_first word [] = word ∷ []
joined_first word (value ∷ words) =
    if takes_value word then (word ++ codes "=" ++ value) ∷ joined words
    else word ∷ joined (value ∷ words)

abbrev pub has_word : List ℕ → List (List ℕ) → Bool
has_word wanted words = list_any (λ word. bytes_eq word wanted) words

-- the options of each command: `--stdin-filepath=` and a name, and its own
abbrev pub names_input : List ℕ → Bool
names_input word = starts_with nat_eq word (codes "--stdin-filepath=")

abbrev pub is_color : List ℕ → Bool
is_color word =
    bytes_eq word (codes "--color=always") || bytes_eq word (codes "--color=never")
    || bytes_eq word (codes "--color=auto")

abbrev pub own_option : CommandName → List ℕ → Bool
own_option Check word =
    bytes_eq word (codes "--json") || bytes_eq word (codes "--syntax") || is_color word
own_option Listing word = false
own_option Print word = bytes_eq word (codes "--line")
own_option Format word = bytes_eq word (codes "--check") || bytes_eq word (codes "--diff")

abbrev pub takes : CommandName → List ℕ → Bool
takes name word = names_input word || own_option name word

-- where the first option is that a command doesn't have
abbrev pub is_unknown : CommandName → List ℕ → Bool
is_unknown name word = is_option word && not (takes name word)

abbrev pub unknown_option : CommandName → List (List ℕ) → Option ℕ
unknown_option name options = position (is_unknown name) options

-- the color that the last option `--color` names: an option replaces the color that was named before
abbrev pub color_after : Color → List ℕ → Color
color_after color word =
    if bytes_eq word (codes "--color=always") then Always
    else if bytes_eq word (codes "--color=never") then Never
    else if bytes_eq word (codes "--color=auto") then Auto
    else color

abbrev pub color_of : Color → List (List ℕ) → Color
color_of color [] = color
color_of color (word ∷ words) = color_of (color_after color word) words

-- the name of standard input, in the same way: the value of the last option `--stdin-filepath`
abbrev pub name_after : List ℕ → List ℕ → List ℕ
name_after name word = if names_input word then drop (length (codes "--stdin-filepath=")) word else name

abbrev pub stdin_name : List ℕ → List (List ℕ) → List ℕ
stdin_name name [] = name
stdin_name name (word ∷ words) = stdin_name (name_after name word) words

-- `--diff` comes before `--check`
abbrev pub format_mode : Bool → Bool → FormatMode
format_mode check diff = if diff then Diff else if check then ListChanged else Rewrite

-- a command with its options, which come in any order
abbrev pub with_options : CommandName → List (List ℕ) → Command
with_options Check options =
    Checks (record {
      json = has_word (codes "--json") options;
      syntax = has_word (codes "--syntax") options;
      color = color_of Auto options;
    })
with_options Listing options = Lists
with_options Print options = Prints (if has_word (codes "--line") options then Line else Indented)
with_options Format options =
    Formats (format_mode (has_word (codes "--check") options) (has_word (codes "--diff") options))

abbrev pub asks_for_help : List (List ℕ) → Bool
asks_for_help words = has_word (codes "-h") words || has_word (codes "--help") words

abbrev pub unless_unknown : Option ℕ → Command → Result Command Message
unless_unknown None command = Ok command
unless_unknown (Some at) command = Err (UnknownOption at)

-- What a command and the words after it ask for. The options are before `--`. If they ask for help,
-- that is the message; otherwise the first option that the command doesn't have.
abbrev pub command_named : CommandName → List (List ℕ) → Result Command Message
command_named name words =
    let options = before_first is_end words in
    if asks_for_help options then Err (Help (Some name))
    else unless_unknown (unknown_option name options) (with_options name options)

-- the command that a word names
abbrev pub name_of : List ℕ → Option CommandName
name_of word =
    if bytes_eq word (codes "check") then Some Check
    else if bytes_eq word (codes "list") then Some Listing
    else if bytes_eq word (codes "print") then Some Print
    else if bytes_eq word (codes "fmt") then Some Format
    else None

-- help is about the command that the next word names, or about the program
abbrev pub help_topic : List (List ℕ) → Option CommandName
help_topic [] = None
help_topic (word ∷ words) = name_of word

-- what a first word asks for that isn't a command
abbrev pub message_for : List ℕ → List (List ℕ) → Message
message_for first words =
    if bytes_eq first (codes "help") then Help (help_topic words)
    else if bytes_eq first (codes "-h") then Help (help_topic words)
    else if bytes_eq first (codes "--help") then Help (help_topic words)
    else if bytes_eq first (codes "-V") then Version
    else if bytes_eq first (codes "--version") then Version
    else UnknownCommand

abbrev pub unless_named : Option CommandName → List ℕ → List (List ℕ) → Result Command Message
unless_named (Some name) first words = command_named name words
unless_named None first words = Err (message_for first words)

-- The first word names the command, or asks for help or the version, whatever comes after it.
abbrev pub command_of : List (List ℕ) → Result Command Message
command_of [] = Err NoCommand
command_of (first ∷ words) = unless_named (name_of first) first words
