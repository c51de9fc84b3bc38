-- Texts as tokens, and the element segments and tables that they spell.
use Rattle.std.specs.Prelude.{pos, false, List, [], ◌∷◌, ◌++◌, codes, Some, None}
use Rattle.wat_links.specs.Prelude.{Spelled, short}
use Rattle.wat_fields.specs.Prelude.{Token, Keyword, Integer, number, in_parens, no_label, abstract_, no_head, InstructionModel, instr_of, alone, ExpressionModel, ElemModel, declared, elem_of, elem, indices, exprs, ref_func_of, TableModel, table_of, table}
use Rattle.wat_fields.specs.Elem.{passive, active}
use Rattle.wat_fields.specs.Table.{normal, inline}
use Rattle.wat_types.specs.declared.heap.AbstractHeapType.TheVariants as heap_word
use Rattle.wat_mnemonics.specs.declared.op.Op.TheVariants as word
use Rattle.wat_instr.specs.Operand as operands

-- `elem declare func 0`
abbrev pub Declared : Type 0
Declared =
    Spelled elem (Keyword (codes "elem") ∷ Keyword (codes "declare") ∷ Keyword (codes "func")
    ∷ Integer (codes "0") ∷ [])
    (elem_of no_label (declared, indices (number 0 ∷ [])))

-- `table externref (elem 0)`: the index is an expression, since the type isn't `funcref`
abbrev pub OfExternref : Type 0
OfExternref =
    Spelled table (Keyword (codes "table") ∷ Keyword (codes "externref")
    ∷ in_parens (Keyword (codes "elem") ∷ Integer (codes "0") ∷ []))
    (table_of no_head (inline (short false heap_word.Extern) false false
    (exprs (short false heap_word.Extern) (ref_func_of (number 0) ∷ []))))

abbrev pub zero_const : InstructionModel
zero_const = instr_of word.i32_const (operands.integer (pos 0))

abbrev pub zero_alone : ExpressionModel
zero_alone = alone zero_const

abbrev pub null_func : InstructionModel
null_func = instr_of word.ref_null (operands.heap (abstract_ false heap_word.Func))

-- `ref.null func`
abbrev pub null_text : List Token
null_text = Keyword (codes "ref.null") ∷ Keyword (codes "func") ∷ []

-- `table 1 funcref (ref.null func)`
abbrev pub nulls_text : List Token
nulls_text =
    Keyword (codes "table") ∷ Integer (codes "1") ∷ Keyword (codes "funcref") ∷ in_parens null_text

-- at least one element, and the initial value `ref.null func` for each element
abbrev pub nulls : TableModel
nulls =
    table_of no_head
    (normal (record {
      limits = record { is64 = false; min = 1; max = None };
      elem = short false
          heap_word.Func;
      shared = false;
    }) (Some (alone null_func)))

-- `table 1 funcref (ref.null func)`
abbrev pub OfNulls : Type 0
OfNulls = Spelled table nulls_text nulls

-- `elem funcref (item ref.func 0) (ref.null func)`
abbrev pub items_text : List Token
items_text =
    Keyword (codes "elem") ∷ Keyword (codes "funcref")
    ∷ (in_parens (Keyword (codes "item") ∷ Keyword (codes "ref.func") ∷ Integer (codes "0") ∷ [])
    ++ in_parens null_text)

abbrev pub two_items : ElemModel
two_items =
    elem_of no_label (
      passive,
      exprs (short false heap_word.Func)
          (ref_func_of (number 0) ∷ alone null_func ∷ []),
    )

-- `elem funcref (item ref.func 0) (ref.null func)`: a written item and a folded item, passive
abbrev pub OfItems : Type 0
OfItems = Spelled elem items_text two_items

-- `elem 0 (i32.const 0) 1 2`
abbrev pub active_text : List Token
active_text =
    Keyword (codes "elem") ∷ Integer (codes "0")
    ∷ (in_parens (Keyword (codes "i32.const") ∷ Integer (codes "0") ∷ []) ++ Integer (codes "1")
    ∷ Integer (codes "2") ∷ [])

abbrev pub active_elem : ElemModel
active_elem =
    elem_of no_label (active (Some (number 0)) zero_alone, indices (number 1 ∷ number 2 ∷ []))

-- `elem 0 (i32.const 0) 1 2`: the functions 1 and 2, into table 0 at 0
abbrev pub Active : Type 0
Active = Spelled elem active_text active_elem
