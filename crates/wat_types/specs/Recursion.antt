-- Recursion groups.
use Rattle.std.specs.Prelude.{List, codes}
use Rattle.wat_tokens.specs.Prelude.{Production, after_word, many, second_word}
use Rattle.wat_types.specs.declared.define.Rec.{Rec}
use Rattle.wat_types.specs.Define.{TypeModel, grouped_type, types_view}
use Rattle.wat_types.specs.Laws.Define.{grouped_type_consumes}

-- ( Type )*, as long as the second token is `type`
unfoldable pub types : Production (List TypeModel)
types = many (second_word (codes "type")) grouped_type grouped_type_consumes

abbrev pub rec_view : Rec → List TypeModel
rec_view r = types_view r.types.items

-- `rec ( Type )*`
unfoldable pub rec : Production (List TypeModel)
rec = after_word (codes "rec") types
