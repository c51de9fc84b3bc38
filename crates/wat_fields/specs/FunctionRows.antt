-- Texts as tokens, and the functions, globals and tags that they spell.
use Rattle.std.specs.Prelude.{List, [], ◌∷◌, ◌++◌, codes, Some, None}
use Rattle.wat_expr.specs.Prelude.{Id, Spelled, plain_global, nop}
use Rattle.wat_fields.specs.Prelude.{Token, Keyword, String, in_parens, label_of, no_label, use_of, i32, i64, f32, no_head, field_head, alone, inline, func_of, func, global_of, global, local_of, tag_of, tag}
use Rattle.wat_types.specs.Group.{plain_param, function_of}
use Rattle.wat_fields.specs.Global as globals

-- `(local i32 i64) (local $x f32) nop`
abbrev pub locals_and_body : List Token
locals_and_body =
    in_parens (Keyword (codes "local") ∷ Keyword (codes "i32") ∷ Keyword (codes "i64") ∷ [])
    ++ (in_parens (Keyword (codes "local") ∷ Id (codes "x") ∷ Keyword (codes "f32") ∷ [])
    ++ Keyword (codes "nop") ∷ [])

-- `func (local i32 i64) (local $x f32) nop`: three locals, the last of them $x, and an instruction
abbrev pub Locals : Type 0
Locals =
    Spelled func (Keyword (codes "func") ∷ locals_and_body)
    (func_of no_head (
      use_of None None,
      inline
          (local_of no_label i32 ∷ local_of no_label i64
          ∷ local_of (label_of (Some (codes "x")) None) f32 ∷ []) (alone nop),
    ))

-- `global $g (import "a" "b") i32`
abbrev pub ImportedGlobal : Type 0
ImportedGlobal =
    Spelled global
    (Keyword (codes "global") ∷ Id (codes "g")
    ∷ (in_parens (Keyword (codes "import") ∷ String (codes "a") ∷ String (codes "b") ∷ [])
    ++ Keyword (codes "i32") ∷ []))
    (global_of (field_head (label_of (Some (codes "g")) None) [])
    (plain_global i32, globals.imported (codes "a", codes "b")))

-- `tag (param i32)`
abbrev pub PlainTag : Type 0
PlainTag =
    Spelled tag (Keyword (codes "tag")
    ∷ in_parens (Keyword (codes "param") ∷ Keyword (codes "i32") ∷ []))
    (tag_of no_head None (use_of None (Some (function_of (plain_param i32 ∷ []) []))))
