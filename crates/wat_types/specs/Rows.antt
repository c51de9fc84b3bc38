-- Sample texts as tokens, and the types that they spell.
use Rattle.std.specs.Prelude.{true, false, List, [], ◌∷◌, ◌++◌, codes, Some, None}
use Rattle.wat_types.specs.Prelude.{Token, Keyword, Id, Integer, number, name, in_parens, Spelled, func, struct_, array, cont, type_def, type_, function_type, function_of, empty_function, label_of, no_label, limits_type, pagesize_or_none, short, val, global_type, field_of, struct_type, use_of, type_use, ref, i32, i64, at_func}
use Rattle.wat_types.specs.Group.{plain_param}
use Rattle.wat_types.specs.Struct.{member_of}
use Rattle.wat_types.specs.Storage as storage
use Rattle.wat_types.specs.declared.heap.AbstractHeapType.TheVariants as word

abbrev shared_funcref : List Token
shared_funcref = in_parens (Keyword (codes "shared") ∷ Keyword (codes "funcref") ∷ [])

-- `(pagesize 1)`, `(pagesize 65536)`, and no tokens
abbrev pub PageSizes : Type 0
PageSizes =
    Spelled pagesize_or_none (in_parens (Keyword (codes "pagesize") ∷ Integer (codes "1") ∷ []))
    (Some 0) × Spelled pagesize_or_none (in_parens
    (Keyword (codes "pagesize") ∷ Integer (codes "65536") ∷ [])) (Some 16)
    × Spelled pagesize_or_none [] None

-- `(shared funcref)` is funcref, shared and not mutable; `(mut (shared funcref))` is a shared
-- reference to functions, mutable and not shared
abbrev pub Globals : Type 0
Globals =
    Spelled global_type shared_funcref
    (record { ty = ref (short false word.Func); mutable = false; shared = true })
    × Spelled global_type (in_parens (Keyword (codes "mut") ∷ shared_funcref))
    (record { ty = ref (short true word.Func); mutable = true; shared = false })

-- `i64 1 0xffff_ffff_ffff_ffff`
abbrev pub LongLimits : Type 0
LongLimits =
    Spelled limits_type (Keyword (codes "i64") ∷ Integer (codes "1")
    ∷ Integer (codes "0xffff_ffff_ffff_ffff") ∷ [])
    (record { is64 = true; min = 1; max = Some 18446744073709551615 })

-- `sub final $a 1 (shared (func))`: parents $a and 1, final, shared
abbrev pub FinalSub : Type 0
FinalSub =
    Spelled type_def
    (Keyword (codes "sub") ∷ Keyword (codes "final") ∷ Id (codes "a") ∷ Integer (codes "1")
    ∷ in_parens (Keyword (codes "shared") ∷ in_parens (Keyword (codes "func") ∷ [])))
    (record {
      kind = func empty_function;
      shared = true;
      parents = name (codes "a") ∷ number 1 ∷ [];
      descriptor = None;
      describes = None;
      final_type = Some true;
    })

-- `sub (cont 2)`: not final; `array (mut i8)`: no `sub`, so `final_type` is None
abbrev pub OpenSub : Type 0
OpenSub =
    Spelled type_def (Keyword (codes "sub")
    ∷ in_parens (Keyword (codes "cont") ∷ Integer (codes "2") ∷ []))
    (record {
      kind = cont (number 2);
      shared = false;
      parents = [];
      descriptor = None;
      describes =
          None;
      final_type = Some false;
    }) × Spelled type_def (Keyword (codes "array")
    ∷ in_parens (Keyword (codes "mut") ∷ Keyword (codes "i8") ∷ []))
    (record {
      kind = array (field_of true storage.i8);
      shared = false;
      parents = [];
      descriptor =
          None;
      describes = None;
      final_type = None;
    })

-- `(field $x (mut i16)) (field) (field i8 i64)`: three fields
abbrev pub Structure : Type 0
Structure =
    Spelled struct_type
    (in_parens (Keyword (codes "field") ∷ Id (codes "x")
    ∷ in_parens (Keyword (codes "mut") ∷ Keyword (codes "i16") ∷ []))
    ++ (in_parens (Keyword (codes "field") ∷ [])
    ++ in_parens (Keyword (codes "field") ∷ Keyword (codes "i8") ∷ Keyword (codes "i64") ∷ [])))
    (member_of (label_of (Some (codes "x")) None) (field_of true storage.i16)
    ∷ member_of no_label (field_of false storage.i8)
    ∷ member_of no_label (field_of false (val i64)) ∷ [])

-- `type (describes 0) (descriptor 1) (struct)`
abbrev pub Described : Type 0
Described =
    Spelled type_
    (Keyword (codes "type") ∷ (in_parens (Keyword (codes "describes") ∷ Integer (codes "0") ∷ [])
    ++ (in_parens (Keyword (codes "descriptor") ∷ Integer (codes "1") ∷ [])
    ++ in_parens (Keyword (codes "struct") ∷ []))))
    (record {
      label = no_label;
      def = record {
        kind = struct_ [];
        shared = false;
        parents = [];
        descriptor = Some (number 1);
        describes =
            Some (number 0);
        final_type = None;
      };
    })

abbrev type_3 : List Token
type_3 = in_parens (Keyword (codes "type") ∷ Integer (codes "3") ∷ [])

-- `(type 3) (param i32)`, `(type 3)`, and no tokens
abbrev pub Uses : Type 0
Uses =
    Spelled (type_use at_func function_type)
    (type_3 ++ in_parens (Keyword (codes "param") ∷ Keyword (codes "i32") ∷ []))
    (use_of (Some (number 3)) (Some (function_of (plain_param i32 ∷ []) [])))
    × Spelled (type_use at_func function_type) type_3 (use_of (Some (number 3)) None)
    × Spelled (type_use at_func function_type) [] (use_of None None)
