-- The words of fields and types, for hints.
use Rattle.std.specs.Prelude.{ℕ, List, codes}
use Rattle.wat_types.specs.Reference.{short_word}
use Rattle.wat_report.specs.declared.meant.Keyword.{Keyword}
use Rattle.wat_report.specs.declared.meant.Keyword.TheVariants.{TypeField, Rec, Import, Func, Table, Memory, Global, Export, Start, Elem, Data, Tag, I32, I64, F32, F64, V128, Short}

-- the word
abbrev pub keyword_text : Keyword → List ℕ
keyword_text TypeField = codes "type"
keyword_text Rec = codes "rec"
keyword_text Import = codes "import"
keyword_text Func = codes "func"
keyword_text Table = codes "table"
keyword_text Memory = codes "memory"
keyword_text Global = codes "global"
keyword_text Export = codes "export"
keyword_text Start = codes "start"
keyword_text Elem = codes "elem"
keyword_text Data = codes "data"
keyword_text Tag = codes "tag"
keyword_text I32 = codes "i32"
keyword_text I64 = codes "i64"
keyword_text F32 = codes "f32"
keyword_text F64 = codes "f64"
keyword_text V128 = codes "v128"
keyword_text (Short heap) = short_word heap
