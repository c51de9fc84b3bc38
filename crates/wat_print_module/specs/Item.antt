-- How the signatures of imported and exported items are written.
use Rattle.std.specs.Prelude.{ℕ, Bool, true, false, ◌&&◌, List, ◌∷◌, ◌++◌, codes, ◌⊎◌}
use Rattle.std.proofs.Common.{inl, inr}
use Rattle.wat_print_instr.specs.Prelude.{Token, Keyword, begins_word, second, FunctionTypeModel, Label, TableTypeModel, GlobalTypeModel, TypeUseModel, MemoryType, any, Form, seq_form, by, by_where, else_form, after_form, group_form, label_form, memory_form, table_form, global_form, use_form}
use Rattle.wat_links.specs.Item.{ItemKindModel, func, table, memory, global, tag, exact_func, ItemSigModel}

-- ---- the types of items

abbrev pub exact_parts : TypeUseModel FunctionTypeModel × Bool
    → TypeUseModel FunctionTypeModel ⊎ TypeUseModel FunctionTypeModel
exact_parts (u, true) = inl u
exact_parts (u, false) = inr u

-- ( exact TypeUse ) | TypeUse
abbrev pub exact_form : Form (TypeUseModel FunctionTypeModel × Bool)
exact_form =
    by exact_parts (else_form (second (begins_word (codes "exact")))
    (group_form (codes "exact") use_form) use_form)

abbrev pub KindTree : Type 0
KindTree = TypeUseModel FunctionTypeModel
    × Bool ⊎ (TableTypeModel ⊎ (MemoryType ⊎ (GlobalTypeModel ⊎ TypeUseModel FunctionTypeModel)))

abbrev pub kind_parts : ItemKindModel → KindTree
kind_parts (func u) = inl (u, false)
kind_parts (exact_func u) = inl (u, true)
kind_parts (table t) = inr (inl t)
kind_parts (memory m) = inr (inr (inl m))
kind_parts (global g) = inr (inr (inr (inl g)))
kind_parts (tag u) = inr (inr (inr (inr u)))

-- the type of an item; the word of its kind distinguishes the parts
abbrev pub item_form : Form ItemKindModel
item_form =
    by kind_parts (else_form any exact_form (else_form any table_form
    (else_form any memory_form (else_form any global_form use_form))))

-- ---- signatures

abbrev pub item_word : ItemKindModel → List ℕ
item_word (func u) = codes "func"
item_word (table t) = codes "table"
item_word (memory m) = codes "memory"
item_word (global g) = codes "global"
item_word (tag u) = codes "tag"
item_word (exact_func u) = codes "func"

-- the word, id? name? and the type
abbrev pub item_of_form : {A : Type 0} → List ℕ → Form A → Form (Label × A)
item_of_form w p = after_form w (seq_form label_form p)

abbrev pub SigTree : Type 0
SigTree =
    Label × (TypeUseModel FunctionTypeModel × Bool) ⊎ (Label × TableTypeModel ⊎ (Label × MemoryType
    ⊎ (Label × GlobalTypeModel ⊎ Label × TypeUseModel FunctionTypeModel)))

abbrev pub sig_side : Label → KindTree → SigTree
sig_side l (inl u) = inl (l, u)
sig_side l (inr (inl t)) = inr (inl (l, t))
sig_side l (inr (inr (inl m))) = inr (inr (inl (l, m)))
sig_side l (inr (inr (inr (inl g)))) = inr (inr (inr (inl (l, g))))
sig_side l (inr (inr (inr (inr u)))) = inr (inr (inr (inr (l, u))))

abbrev pub sig_parts : ItemSigModel → SigTree
sig_parts s = sig_side s.label (kind_parts s.kind)

abbrev pub spell_sig : ItemSigModel → List Token
spell_sig s = Keyword (item_word s.kind) ∷ (label_form.spell s.label ++ item_form.spell s.kind)

abbrev pub printable_sig : ItemSigModel → Bool
printable_sig s = label_form.printable s.label && item_form.printable s.kind

abbrev pub sig_form : Form ItemSigModel
sig_form = record (by_where printable_sig sig_parts (
    else_form (begins_word (codes "func")) (item_of_form (codes "func") exact_form)
    (else_form (begins_word (codes "table")) (item_of_form (codes "table") table_form)
    (else_form (begins_word (codes "memory")) (item_of_form (codes "memory") memory_form)
    (else_form (begins_word (codes "global")) (item_of_form (codes "global") global_form)
    (item_of_form (codes "tag") use_form)))))) {
      spell = spell_sig;
    }
