use Rattle.std.proofs.Common.{◌≡◌, [], ◌∷◌, rules}
use Rattle.wat_fields.specs.Prelude.{placed}
use Rattle.wat_core.specs.Prelude.{ModuleModel, module_view, SpellsModule, Memory, RParen}
use Rattle.wat_core.proofs.InTheGroup.{opened, module_found, module_stands, module_closes, passed_on, passed_only}
use Rattle.wat_core.proofs.module_text.read_module_of.Goals as goal

pub returns-in_err-module-clause-only : goal.returns-in_err-module-clause-only
returns-in_err-module-clause-only c =
    let text = c.args.text.now in
    let q = c.open.new.self in
    let e = c.parse.new.parser in
    let o = opened text c.parser_of-parser.result q _ (placed c.args.tokens, c.args.spans, c.requires.cut, c.parser_of-parser.ensures) c.in_ok-open.ensures.reads.exact c.in_ok-open.ensures.position c.in_ok-open.ensures.reads.settings.0 in
    let only : (m : ModuleModel) → SpellsModule text m → c.in_err-module.field-0.0.fault ≡ Memory = λ m s. module_stands text q e o m c.one_cut.ensures s (λ d l d_is spells. (c.in_err-module.ensures.reads.accepts m d l d_is spells).0) in
    search (rules, only)

pub returns-clause-found : goal.returns-clause-found
returns-clause-found c =
    let text = c.args.text.now in
    let q = c.open.new.self in
    let e = c.parse.new.parser in
    let o = opened text c.parser_of-parser.result q _ (placed c.args.tokens, c.args.spans, c.requires.cut, c.parser_of-parser.ensures) c.in_ok-open.ensures.reads.exact c.in_ok-open.ensures.position c.in_ok-open.ensures.reads.settings.0 in
    let f = c.in_ok-module.ensures in
    passed_on c.closed.result c.in_ok-module.module (λ m. SpellsModule text (module_view m)) (e.left ≡ RParen ∷ []) c.closed.ensures.value c.closed.ensures.stands
    (module_found text q e o (module_view c.in_ok-module.module) f.reads.sound f.ends f.takes.position f.settings.0 f.visible)

pub returns-clause-only : goal.returns-clause-only
returns-clause-only c =
    let text = c.args.text.now in
    let q = c.open.new.self in
    let e = c.parse.new.parser in
    let o = opened text c.parser_of-parser.result q _ (placed c.args.tokens, c.args.spans, c.requires.cut, c.parser_of-parser.ensures) c.in_ok-open.ensures.reads.exact c.in_ok-open.ensures.position c.in_ok-open.ensures.reads.settings.0 in
    let f = c.in_ok-module.ensures in
    λ m s. passed_only c.closed.result c.in_ok-module.module (λ n. module_view n ≡ m) (λ r. r.fault ≡ Memory) (e.left ≡ RParen ∷ []) c.closed.ensures.value c.closed.ensures.refused
    (module_closes text q e o m c.one_cut.ensures s (λ d l d_is spells. (f.reads.accepts m d l d_is spells).1) f.takes.position f.settings.0 f.visible)
    (module_stands text q e o m c.one_cut.ensures s (λ d l d_is spells. (f.reads.accepts m d l d_is spells).0))
