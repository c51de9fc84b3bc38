-- The answers for a text.
use Rattle.std.specs.Prelude.{◌≡◌, ◌≢◌, ◌⊎◌, ◌++◌, ℕ, List, [], codes, flat_map}
use Rattle.wat_print_module.specs.Prelude.{IsUtf8, Fault, Memory, ModuleModel, SpellsModule, printed_text, Line, spell_module_group}
use Rattle.wat_answers.specs.declared.notice.Notice.{Notice}
use Rattle.wat_answers.specs.declared.task.Extent.{Extent}
use Rattle.wat_answers.specs.declared.task.Task.{Task}
use Rattle.wat_answers.specs.declared.task.Task.TheVariants.{Check, Json, Listing, Print}
use Rattle.wat_report.specs.Report.{IsReport}
use Rattle.wat_show.specs.Modules.{module_text}
use Rattle.wat_answers.specs.Checked.{ChecksBytes}
use Rattle.wat_answers.specs.Formatted.{ReportsWrongByte}
use Rattle.wat_answers.specs.Notices.{notice_json, notice_report}

-- The answer for a module: no output; the listing of `watshow module`; or a text that spells the module,
-- and a line break. In the layout Line, the text is the text of the tokens of the module.
unfoldable pub IsAnswer : Task → ModuleModel → List ℕ → Type 0
IsAnswer (Check extent) m output = output ≡ []
IsAnswer (Json extent) m output = output ≡ []
IsAnswer Listing m output = output ≡ module_text m
IsAnswer (Print layout) m output =
    (text : List ℕ) × SpellsModule text m
    × (layout ≡ Line → text ≡ printed_text (spell_module_group m)) × (output ≡ text ++ codes "\n")

-- a text spells the module
abbrev pub WasRead : ModuleModel → Type 0
WasRead m = (text : List ℕ) × IsUtf8 text × SpellsModule text m

-- the text spells a module: the answer is the answer for the module, with status 0
abbrev pub AnswersModule : Task → List ℕ → List ℕ → ℕ → Type 0
AnswersModule task text output status =
    (m : ModuleModel) × SpellsModule text m × IsAnswer task m output × (status ≡ 0)

-- the text spells no module: the answer is the report of a fault other than Memory, with status 1
abbrev pub AnswersFault : List ℕ → List ℕ → List ℕ → ℕ → Type 0
AnswersFault name text output status =
    ((m : ModuleModel) → SpellsModule text m → ⊥)
    × ((f : Fault) × (offset : ℕ) × (f ≢ Memory) × IsReport name text offset f output)
    × (status ≡ 1)

-- the answer for a text that is read as a module
unfoldable pub AnswersText : Task → List ℕ → List ℕ → List ℕ → ℕ → Type 0
AnswersText task name text output status =
    AnswersModule task text output status ⊎ AnswersFault name text output status

-- the answer for bytes: the answer for their text if the bytes are UTF-8, otherwise the report of the first
-- wrong byte, with status 1
unfoldable pub AnswersReadBytes : Task → List ℕ → List ℕ → List ℕ → ℕ → Type 0
AnswersReadBytes task name bytes output status =
    (IsUtf8 bytes × AnswersText task name bytes output status)
    ⊎ (ReportsWrongByte name bytes output × (status ≡ 1))

-- the answer of a check: its notices, written one after the other
abbrev pub AnswersFound : (Notice → List ℕ) → Extent → List ℕ → List ℕ → ℕ → Type 0
AnswersFound written extent bytes output status =
    (ns : List Notice) × ChecksBytes extent bytes ns status × (output ≡ flat_map written ns)

-- The tasks Check and Json check the text and return its notices. The other tasks read the text itself, not
-- its masked text, and list or print the module.
unfoldable pub AnswersBytes : Task → List ℕ → List ℕ → List ℕ → ℕ → Type 0
AnswersBytes (Check extent) name bytes output status =
    AnswersFound (notice_report name) extent bytes output status
AnswersBytes (Json extent) name bytes output status =
    AnswersFound (notice_json name) extent bytes output status
AnswersBytes Listing name bytes output status = AnswersReadBytes Listing name bytes output status
AnswersBytes (Print layout) name bytes output status =
    AnswersReadBytes (Print layout) name bytes output status
