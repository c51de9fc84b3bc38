-- Laws: element segments and their elements are read again.
use Rattle.std.proofs.Common.{◌≡◌, ℕ, true, List, ◌∷◌, codes, Some, is_none, rules, arith, refl, append_assoc, lit≤}
use Rattle.std.proofs.Math.Bool.{and_assoc}
use Rattle.wat_print_module.specs.Prelude.{bytes_eq, Token, Keyword, number, made, at_group, at_integer, at_more, at_word, second_word, begins_ref, at_shorthand, AbstractHeapType, indices, exprs, item_list, Unparses, Prints, is_keyword, seq_prints, made_prints, whole_prints, whole_where, respelled, only_where_prints, else_prints, many_prints, after_prints, group_prints, option_seen, label_prints, index_prints, ref_prints, no_short, unsigned_prints, offset_form, elem_item_form, elem_items_form, expression_form, expression_prints, first_prints, short_word}
use Rattle.wat_types.specs.Reference.{at_ref}
use Rattle.wat_fields.specs.Payload.{index_list, typed_elems, payload, payload_or_indices}
use Rattle.wat_print_module.specs.Elem.{elem_indices_form, typed_elems_form, payload_parts, payload_form, indices_only_form, any_payload_parts, any_payload_form, mode_form, segment_parts, segment_form, elem_parts, elem_form}
use Rattle.wat_fields.specs.Elem.{passive, declared, elem_of, elem_offset, active_of, in_table, table_number, in_some_table, declared_segment, passive_segment, active_segment, segment, elem, at_active}
use Rattle.wat_fields.specs.Item.{written_or_folded, item}
use Rattle.wat_fields.specs.Laws.Payload.{item_consumes}
use Rattle.wat_print.specs.Form.{group_form}
use Rattle.wat_print_instr.specs.Laws.OperandFront.{short_apart}
use Rattle.wat_print_module.specs.Laws.Folded.{folded_only}
use Rattle.wat_types.specs.declared.heap.AbstractHeapType.TheVariants as word

-- ---- the words of shorthands of reference types

no_type : (t : AbstractHeapType) (y : List Token)
    → offset_form.follows (Keyword (short_word t) ∷ y) ≡ true
no_type t y =
    rw (
      short_apart (codes "type") refl t,
      short_apart (codes "param") refl t,
      short_apart (codes "result") refl t,
    ) refl

pub short_begins : (t : AbstractHeapType) (y : List Token)
    → begins_ref (Keyword (short_word t) ∷ y) ≡ true
unfolding at_shorthand
short_begins word.Func y = refl
short_begins _ y = refl

-- ---- elements

-- a folded instruction is only read
written_prints : (w : List ℕ) → is_keyword w ≡ true → bytes_eq w w ≡ true
    → Prints (group_form w expression_form) (written_or_folded w)
unfolding written_or_folded
written_prints w k e =
    first_prints (second_word w) (group_prints expression_prints w k e) (λ v r. e)
    folded_only

pub elem_item_prints : Prints elem_item_form item
unfolding item
elem_item_prints = written_prints (codes "item") refl refl

pub elem_items_prints : Prints elem_items_form item_list
unfolding item_list
elem_items_prints = many_prints at_more elem_item_prints item_consumes (search rules) (search rules)

pub elem_indices_prints : Prints elem_indices_form index_list
unfolding index_list
elem_indices_prints = many_prints at_more index_prints (lit≤ tt) (search rules) (search rules)

typed_prints : Unparses typed_elems_form (λ v. exprs v.0 v.1) typed_elems
unfolding typed_elems
typed_prints =
    made_prints (seq_prints ref_prints elem_items_prints (search rules)) (λ v. exprs v.0 v.1)

pub payload_prints : Prints payload_form payload
unfolding payload
payload_prints =
    whole_prints (else_prints (at_word (codes "func"))
    (made_prints (after_prints elem_indices_prints (codes "func") refl refl) indices) typed_prints
    (search rules) (search (rules, no_short (codes "func") refl))) payload_parts (λ p h. grind arith) (λ p h. h)
    (λ v h. grind arith)

indices_only_prints : Unparses indices_only_form indices (made indices index_list)
indices_only_prints =
    record {
      nests = λ is h. absurd cc;
      front = λ rest test f is r h i e. absurd cc;
      here = λ is r h e. absurd cc;
      only = (made_prints elem_indices_prints indices).only;
    }

any_payload_prints : Prints any_payload_form payload_or_indices
unfolding payload_or_indices at_shorthand
any_payload_prints =
    whole_prints (else_prints (at_word (codes "func"))
    (made_prints (after_prints elem_indices_prints (codes "func") refl refl) indices)
    (else_prints at_ref typed_prints indices_only_prints (search (rules, short_begins)) tt)
    (search rules) (search (rules, no_short (codes "func") refl))) any_payload_parts (λ p h. grind arith)
    (λ p h. grind arith) (λ v h. grind arith)

-- ---- segments

elem_offset_prints : Prints offset_form elem_offset
unfolding elem_offset
elem_offset_prints = written_prints (codes "offset") refl refl

segment_prints : Prints segment_form segment
unfolding segment declared_segment active_segment in_table in_some_table table_number
    passive_segment at_shorthand
segment_prints =
    respelled (whole_where (else_prints (at_word (codes "declare"))
    (made_prints (after_prints payload_prints (codes "declare") refl refl) (λ p. (declared, p)))
    (else_prints at_active (else_prints (at_group (codes "table"))
    (made_prints (seq_prints (made_prints (group_prints index_prints (codes "table") refl refl)
    (λ i. Some i)) (seq_prints elem_offset_prints payload_prints (search (rules, no_type)))
    (search rules)) active_of)
    (made_prints (seq_prints (only_where_prints (option_seen at_integer
    (made_prints (unsigned_prints 32 (lit≤ tt) (lit≤ tt)) number) (search rules))
    (λ n. is_none n))
    (seq_prints elem_offset_prints any_payload_prints (search (rules, no_type)))
    (search rules)) active_of) (search rules) (search rules))
    (made_prints payload_prints (λ p. (passive, p))) (search rules) (search rules))
    (search rules) (search (rules, no_short (codes "declare") refl))) segment_parts mode_form.printable
    (λ s h. grind arith) (λ s h. grind (arith, and_assoc)) (λ v h. grind (arith, and_assoc)))
    mode_form.spell (λ s h. grind (arith, append_assoc))

pub elem_prints : Prints elem_form elem
unfolding elem
elem_prints =
    whole_prints (after_prints (made_prints (seq_prints label_prints segment_prints (search rules))
    (λ v. elem_of v.0 v.1)) (codes "elem") refl refl) elem_parts (λ e h. refl) (λ e h. h)
    (λ v h. h)
