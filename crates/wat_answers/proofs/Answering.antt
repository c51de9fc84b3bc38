-- Refusals, and printed modules.
use Rattle.std.proofs.Common.{◌≡◌, ℕ, List, [], ◌∷◌, ◌++◌, ◌∙◌, codes, Ok, Err, inr, true, ◌≢◌, Result, IfOk, IfErr, MatchResult}
use Rattle.wat_report.specs.Prelude.{tokens_of, IsReport}
use Rattle.wat_print_module.specs.Prelude.{Fault, Memory, paren, ModuleModel, module_, SpellsModule, NoneSpells, printed_text, Layout, Line, spell_module_group}
use Rattle.wat_answers.specs.Outcomes.{IsAnswer, AnswersText, WasRead}
use Rattle.wat_answers.specs.declared.task.Task.{Task}
use Rattle.wat_answers.specs.declared.task.Task.TheVariants.{Print}
use Rattle.wat_core.specs.Laws.Text.{group_stands}

-- If a value is spelled, reading can fail only with the error in Q. Any other error shows that no value is spelled.
pub none_spells : {T E V : Type 0} (S : V → Type 0) (P : V → T → Type 0) (Q : E → Type 0) (r : Result T E) → ((v : V) → S v → MatchResult r (P v) Q) → IfErr r (λ e. (Q e → ⊥) → (v : V) → S v → ⊥)
none_spells S P Q (Ok x) only = tt
none_spells S P Q (Err e) only = λ other v s. other (only v s)

pub answers_fault : {T E : Type 0} (task : Task) (name text : List ℕ) (f : Fault) (offset : ℕ) (output : T → List ℕ) (status : T → ℕ) (r : Result T E)
    → (f ≢ Memory → (m : ModuleModel) → SpellsModule text m → ⊥) → IfOk r (λ x. f ≢ Memory) → IfOk r (λ x. IsReport name text offset f (output x)) → IfOk r (λ x. status x ≡ 1)
    → IfOk r (λ x. AnswersText task name text (output x) (status x))
unfolding AnswersText
answers_fault task name text f offset output status (Ok x) none other is one = inr (none other, (f, offset, other, is), one)
answers_fault task name text f offset output status (Err e) none other is one = tt

pub answers_print : (layout : Layout) (m : ModuleModel) (text new output : List ℕ) → SpellsModule text m → (layout ≡ Line → text ≡ printed_text (spell_module_group m)) → new ≡ text ++ codes "\n" → output ≡ new → IsAnswer (Print layout) m output
unfolding IsAnswer
answers_print layout m text new output spells line added is = (text, spells, line, is ∙ added)

-- a module that was read is spelled by tokens of a text
pub some_spells : (m : ModuleModel) → WasRead m → NoneSpells (paren module_) m → ⊥
some_spells m (text, u, (ts, cut, s)) none =
    let (b, c, r, e, spells) = group_stands m (tokens_of ts) s in
    none text ts true b c r u cut e spells
