-- Laws: modules are read again.
use Rattle.std.proofs.Common.{◌≡◌, ℕ, zero, suc, Bool, true, false, List, [], ◌∷◌, codes, Option, Some, None, slice_get, refl, rules, arith, subst, sym}
use Rattle.std.proofs.lemmas.Bool.{and_right}
use Rattle.wat_core.specs.Prelude.{label, field_group_consumes, ModuleKindModel, text, binary, fields, pieces, module_kind, IsModule}
use Rattle.wat_print_module.specs.Prelude.{Token, paren, at_more, at_word, ModuleFieldModel, field_group, ModuleModel, module_, SpellsModule, any, label_form, Writes, each, NoneSpells, Prints, Page, seq_prints, made_prints, whole_prints, else_prints, many_prints, paren_prints, after_prints, prints_only, label_prints, field_form, spell_module_group, UnprintableField}
use Rattle.wat_core.specs.Module.{module_with}
use Rattle.wat_print.specs.Text.{blank_page}
use Rattle.wat_print_module.specs.Module.{fields_form, kind_parts, module_kind_form, module_parts, module_form, module_group_form, fields_of_kind, UnprintablePart, NonePart}
use Rattle.wat_core.specs.Laws.Text.{is_module}
use Rattle.wat_print.specs.Laws.Nesting.{well_formed_visible}
use Rattle.wat_print.specs.Laws.Printed.{cut_back, unspelled}
use Rattle.wat_print_module.specs.Laws.Custom.{pieces_prints}
use Rattle.wat_print_module.specs.Laws.Field.{field_prints}

-- ---- modules

-- another field may follow a field
field_behind : field_form.Fronts any field_form.follows
field_behind =
    let f : (y : List Token) → any y ≡ true → true ≡ true = λ y e. refl in
    let g : (y : List Token) → true ≡ true = λ y. refl in
    (f, (f, (f, (f, (f, (f, (f, (f, (f, (f, (f, (f, (g, (g, g))))))))))))))

fields_prints : Prints fields_form fields
unfolding fields
fields_prints = many_prints at_more field_prints field_group_consumes (search rules) field_behind

kind_prints : Prints module_kind_form module_kind
unfolding module_kind pieces
kind_prints =
    whole_prints (else_prints (at_word (codes "binary"))
    (made_prints (after_prints pieces_prints (codes "binary") refl refl) binary)
    (made_prints fields_prints text) (search rules) (search rules)) kind_parts
    (λ k h. grind arith) (λ k h. h) (λ v h. grind arith)

pub module_prints : Prints module_form module_
unfolding module_
module_prints =
    whole_prints (after_prints (made_prints (seq_prints label_prints kind_prints (search rules))
    (λ v. module_with v.0 v.1)) (codes "module") refl refl) module_parts (λ m h. refl) (λ m h. h)
    (λ v h. h)

pub module_group_prints : Prints module_group_form (paren module_)
module_group_prints = paren_prints module_prints

-- the text that was written on a new page spells the module
pub module_reads_back : (m : ModuleModel) (lines : Bool) (p q : Page) (x : List ℕ)
    → module_form.printable m ≡ true → p ≡ blank_page lines → Writes (spell_module_group m) p q
    → x ≡ q.bytes → SpellsModule x m
module_reads_back m lines p q x f e w b =
    let ts = spell_module_group m in
    let n = module_group_prints.nests m f in
    let c = cut_back ts lines p q x n e w b in
    let s = is_module m ts refl (well_formed_visible ts n) (module_group_prints.here m [] f refl) in
    (c.0, c.1, subst (λ (t : List Token). IsModule t m) (sym c.2) s)

-- ---- modules that are refused

get_unprintable : (fs : List ModuleFieldModel) (i : ℕ) (f : ModuleFieldModel)
    → slice_get fs i ≡ Some f
    → field_form.printable f ≡ false → each field_form.printable fs ≡ false
get_unprintable [] i f e h = absurd cc
get_unprintable (g ∷ fs) zero f e h =
    let same : g ≡ f = cc in
    let k : field_form.printable g ≡ false =
    subst (λ (v : ModuleFieldModel). field_form.printable v ≡ false) (sym same) h in rw k refl
get_unprintable (g ∷ fs) (suc i) f e h =
    and_right (field_form.printable g) (each field_form.printable fs) (get_unprintable fs i f e h)

kind_unprintable : (k : ModuleKindModel) (i : ℕ) → UnprintableField (fields_of_kind k) (Some i)
    → module_kind_form.printable k ≡ false
kind_unprintable (text fs) i u = get_unprintable fs i u.0 u.1 u.2
kind_unprintable (binary ss) i u = absurd cc

-- if a part can't be written, the module can't be written
pub part_unprintable : (m : ModuleModel) (o : Option ℕ) → UnprintablePart m o
    → module_form.printable m ≡ false
part_unprintable m (Some i) u =
    and_right (label_form.printable m.label) (module_kind_form.printable m.kind)
    (kind_unprintable m.kind i u)
part_unprintable m None u = rw u refl

-- no text spells the module then
pub module_none : (m : ModuleModel) (o : Option ℕ) → UnprintablePart m o
    → NoneSpells (paren module_) m
module_none m o u =
    unspelled (paren module_) m (module_form.printable m) (part_unprintable m o u)
    ((prints_only module_group_prints).holds m)

-- no text spells the part then
pub part_none : (m : ModuleModel) (o : Option ℕ) → UnprintablePart m o → NonePart m o
part_none m (Some i) u = (
  u.0,
  u.1,
  unspelled field_group u.0 (field_form.printable u.0) u.2 ((prints_only field_prints).holds u.0),
)
part_none m None u =
    unspelled label m.label (label_form.printable m.label) u
    ((prints_only label_prints).holds m.label)
