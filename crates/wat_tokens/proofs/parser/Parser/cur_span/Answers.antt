use Rattle.std.proofs.Common.{◌∙◌, arith}
use Rattle.wat_tokens.proofs.Steps.{place_here, place_none}
use Rattle.wat_tokens.proofs.parser.Parser.cur_span.Goals as goal

pub returns-then-self-len : goal.returns-then-self-len
returns-then-self-len c =
    let p = c.self.inside in
    rw (← c.self.view_is) (place_here p.known p.tokens p.at p.front c.from_offset.result.offset c.self.invariant.2.value (omega arith) (c.from_offset.ensures ∙ c.offset.ensures))

pub returns-else-self-len : goal.returns-else-self-len
returns-else-self-len c =
    let p = c.self.inside in
    rw (← c.self.view_is) (place_none p.known p.tokens p.at p.front c.from_offset-else-self-len.result.offset c.self.invariant.2.value (omega arith))
