use Rattle.std.proofs.Common.{rules}
use Rattle.wat_core.proofs.Fields.{refused_field}
use Rattle.wat_core.proofs.field_of.read_field_as.Goals as goal

pub returns-in-Err : goal.returns-in-Err
returns-in-Err g c = record {
  reads = refused_field ((g.met.T.FieldOf c.lifetimes (search rules)).is_field) c.args.parser.now c.parse.new.parser c.in-Err.refused c.in-Err.ensures.reads;
}
