-- The diagnostic of a fault: the parts of its report.
use Rattle.std.specs.Prelude.{◌≡◌, ℕ, List, [], ◌++◌, Option, if◌then◌else◌}
use Rattle.wat_lexer.specs.declared.fault.Fault.{Fault}
use Rattle.wat_report.specs.Found.{found_text, is_word_at, marked_len}
use Rattle.wat_report.specs.Front.{HasGroups}
use Rattle.wat_report.specs.HintWords.{hint_words}
use Rattle.wat_report.specs.Hints.{hint_of}
use Rattle.wat_report.specs.Positions.{char_start, position_of_char}
use Rattle.wat_report.specs.Rules.{names_token, rule_text}
use Rattle.wat_report.specs.Shown.{shown_line}
use Rattle.wat_report.specs.declared.diagnostic.Diagnostic.{Diagnostic}
use Rattle.wat_report.specs.declared.front.Groups.{Groups}
use Rattle.wat_report.specs.declared.kind.Kind.{Kind}
use Rattle.wat_report.specs.declared.kind.Kind.TheVariants.{Parse}

-- the message, with the token that was found if the fault names it
abbrev pub message_text : List ℕ → ℕ → Fault → List ℕ
message_text text at f =
    rule_text (is_word_at text at) f ++ (if names_token f then found_text text at else [])

-- The diagnostic at an offset where a character begins, with the kind k, the message m and the hint h.
-- No clause here is about `expected`.
pub record IsPlaced (text : List ℕ) (at : ℕ) (k : Kind) (m h : List ℕ) (d : Diagnostic)
    : Type 0 where
  pub offset : d.offset ≡ at
  pub marked : d.length ≡ marked_len text at
  pub place : d.place ≡ position_of_char text at
  pub kind : d.kind ≡ k
  pub message : d.message.items ≡ m
  pub shown : d.shown.items ≡ shown_line text at
  pub hint : d.hint.items ≡ h

-- the diagnostic of a fault at an offset where a character begins; `groups` counts the groups before
-- the offset
abbrev pub IsFaultAt : List ℕ → Option Groups → ℕ → Fault → Diagnostic → Type 0
IsFaultAt text groups at f d =
    IsPlaced text at (Parse f) (message_text text at f)
    (hint_words text groups at (hint_of text groups at f)) d

-- the diagnostic of a fault at an offset: that of the character that contains the offset
abbrev pub IsDiagnostic : List ℕ → ℕ → Fault → Diagnostic → Type 0
IsDiagnostic text offset f d =
    (groups : Option Groups) × HasGroups text (char_start text offset) groups
    × IsFaultAt text groups (char_start text offset) f d
