-- Texts as tokens, and the modules that they spell.
use Rattle.std.specs.Prelude.{ℕ, pos, false, List, [], ◌∷◌, ◌++◌, codes, Some, None}
use Rattle.wat_fields.specs.Prelude.{Token, Keyword, Integer, String, Annotation, number, in_parens, TypeModel, label_of, no_label, use_of, i32, raw, raw_of, AfterLast, export_of, no_head, imports_of, single, InstructionModel, instr_of, group_text, data_of, written, elem_of, func_of, global_of, memory_of, indices, table_of, tag_of}
use Rattle.wat_core.specs.Prelude.{ModuleFieldModel, a_type, a_rec, an_import, a_func, a_table, a_memory, a_global, an_export, a_start, an_elem, a_data, a_tag, a_custom, text, binary, module_}
use Rattle.wat_tokens.specs.Spelled.{Spelled}
use Rattle.wat_core.specs.Module.{module_with}
use Rattle.wat_tokens.specs.Token.{Id}
use Rattle.wat_types.specs.Group.{empty_function}
use Rattle.wat_types.specs.Reference.{short}
use Rattle.wat_types.specs.Storage.{plain_global}
use Rattle.wat_types.specs.Define as define
use Rattle.wat_types.specs.declared.heap.AbstractHeapType.TheVariants as heap_word
use Rattle.wat_links.specs.Item as item
use Rattle.wat_links.specs.declared.export.ExportKind.TheVariants as kind
use Rattle.wat_mnemonics.specs.declared.op.Op.TheVariants as word
use Rattle.wat_instr.specs.Operand as operands
use Rattle.wat_fields.specs.Data as segments
use Rattle.wat_fields.specs.Elem as elements
use Rattle.wat_fields.specs.Func as functions
use Rattle.wat_fields.specs.Global as globals
use Rattle.wat_fields.specs.Memory as memories
use Rattle.wat_fields.specs.Table as tables

-- ---- modules

-- `module`, and then the tokens
abbrev pub module_and : List Token → List Token
module_and ts = Keyword (codes "module") ∷ ts

-- `module`, and one group of the word and the tokens, spell a module with this single field and
-- without identifier and name
abbrev pub OneField : List ℕ → List Token → ModuleFieldModel → Type 0
OneField w ts f =
    Spelled module_ (module_and (group_text w ts)) (module_with no_label (text (f ∷ [])))

-- ---- the identifier and the name of a module, and the number of its fields

-- `module` has no field; `module $m (@name "n")` has an identifier and a name
abbrev pub NamedModule : Type 0
NamedModule =
    Spelled module_ (module_and []) (module_with no_label (text []))
    × Spelled module_ (module_and (Id (codes "m")
    ∷ in_parens (Annotation (codes "name") ∷ String (codes "n") ∷ [])))
    (module_with (label_of (Some (codes "m")) (Some (codes "n"))) (text []))

-- `module (start 0) (start 1)`: each field, in the order of the text
abbrev pub TwoFields : Type 0
TwoFields =
    Spelled module_ (module_and (group_text (codes "start") (Integer (codes "0") ∷ [])
    ++ group_text (codes "start") (Integer (codes "1") ∷ [])))
    (module_with no_label (text (a_start (number 0) ∷ a_start (number 1) ∷ [])))

-- `module binary "a" "b"`
abbrev pub Binary : Type 0
Binary =
    Spelled module_ (module_and (Keyword (codes "binary") ∷ String (codes "a")
    ∷ String (codes "b") ∷ []))
    (module_with no_label (binary (codes "a" ∷ codes "b" ∷ [])))

-- ---- fields

-- `(func)`
abbrev pub lone_func_text : List Token
lone_func_text = group_text (codes "func") []

-- the type of a function without parameters and results, with nothing else written
abbrev pub plain_type : TypeModel
plain_type =
    record {
      label = no_label;
      def = record {
        kind = define.func empty_function;
        shared = false;
        parents = [];
        descriptor = None;
        describes = None;
        final_type = None;
      };
    }

-- `(type (func))`, `(rec (type (func)) (type (func)))` and `(rec)`
abbrev pub Types : Type 0
Types =
    OneField (codes "type") lone_func_text (a_type plain_type)
    × OneField (codes "rec")
    (group_text (codes "type") lone_func_text ++ group_text (codes "type") lone_func_text)
    (a_rec (plain_type ∷ plain_type ∷ [])) × OneField (codes "rec") [] (a_rec [])

-- `(import "m" "n" (func))`, `(export "e" (func 0))` and `(start 0)`
abbrev pub Links : Type 0
Links =
    OneField (codes "import") (String (codes "m") ∷ String (codes "n") ∷ lone_func_text)
    (an_import (imports_of (codes "m") (single (codes "n")
    (item.sig_of no_label (item.func (use_of None None))))))
    × OneField (codes "export") (String (codes "e")
    ∷ group_text (codes "func") (Integer (codes "0") ∷ []))
    (an_export (export_of (codes "e") kind.Func (number 0)))
    × OneField (codes "start") (Integer (codes "0") ∷ []) (a_start (number 0))

-- `(func)` has no type, no local and no instruction; `(tag)` has no type
abbrev pub Functions : Type 0
Functions =
    OneField (codes "func") []
    (a_func (func_of no_head (
      use_of None None,
      functions.inline [] (record { instrs = []; hints = [] }),
    )))
    × OneField (codes "tag") [] (a_tag (tag_of no_head None (use_of None None)))

-- `(table 1 funcref)` and `(memory 1)`
abbrev pub Stores : Type 0
Stores =
    OneField (codes "table") (Integer (codes "1") ∷ Keyword (codes "funcref") ∷ [])
    (a_table (table_of no_head (tables.normal (record {
      limits = record { is64 = false; min = 1; max = None };
      elem = short false heap_word.Func;
      shared = false;
    }) None)))
    × OneField (codes "memory") (Integer (codes "1") ∷ [])
    (a_memory (memory_of no_head (memories.normal (record {
      limits = record { is64 = false; min = 1; max = None };
      shared = false;
      page_size_log2 = None;
    }))))

-- `i32.const 0`
abbrev pub zero : InstructionModel
zero = instr_of word.i32_const (operands.integer (pos 0))

-- `i32 (i32.const 0)`
abbrev pub value_text : List Token
value_text =
    Keyword (codes "i32") ∷ group_text (codes "i32.const") (Integer (codes "0") ∷ [])

abbrev pub zero_global : ModuleFieldModel
zero_global =
    a_global (global_of no_head (
      plain_global i32,
      globals.inline (record { instrs = zero ∷ []; hints = [] }),
    ))

-- `(global i32 (i32.const 0))`
abbrev pub ZeroGlobal : Type 0
ZeroGlobal = OneField (codes "global") value_text zero_global

-- `(elem func 0)` and `(data "a")` are passive
abbrev pub Segments : Type 0
Segments =
    OneField (codes "elem") (Keyword (codes "func") ∷ Integer (codes "0") ∷ [])
    (an_elem (elem_of no_label (elements.passive, indices (number 0 ∷ []))))
    × OneField (codes "data") (String (codes "a") ∷ [])
    (a_data (data_of no_label segments.passive (written (codes "a") ∷ [])))

-- `(@custom "c" "a")` is after the last section
abbrev pub Customs : Type 0
Customs =
    Spelled module_ (module_and (in_parens (Annotation (codes "custom") ∷ String (codes "c")
    ∷ String (codes "a") ∷ [])))
    (module_with no_label (text (a_custom (raw (raw_of (codes "c") AfterLast (codes "a" ∷ [])))
    ∷ [])))
