-- Laws: the `dylink.0` section is read again.
use Rattle.std.proofs.Common.{fold, ◌≡◌, ℕ, ◌^◌, true, ◌&&◌, List, [], ◌∷◌, ◌++◌, codes, flat_map, Some, unwrap_or, refl, rules, arith, lit≤}
use Rattle.std.specs.Int.Bits.{bit_or, or_zero_l}
use Rattle.std.proofs.lemmas.Nat.{or_lt}
use Rattle.wat_print_instr.specs.Laws.Prelude.{lt-ltb, unsigned, filled_prints, is_unsigned, unsigned_form, each_append}
use Rattle.wat_print_module.specs.Prelude.{Decides, bytes_eq, and_parts, ltb-true, Decides-and, Decides-like, flat_map-append, paren, at_group, at_integer, at_more, second_word, runtime_path, target_arch, of_export, of_import, other, entries_in, paren_form, each, Prints, Inside, is_keyword, seq_prints, made_prints, whole_where, whole_prints, else_prints, many_prints, group_prints, prints_only, grouped_prints, plain_prints, entry_form, entries_form, are_cut, text_prints, unsigned_prints, annotated, first_prints}
use Rattle.wat_links.specs.Dylink.{Dylink0SubsectionModel, mem_info, needed, export_info, import_info, no_size, sizes, mem_info_entry, names_entry, lone_entry, at_export, at_import}
use Rattle.wat_links.specs.Entries.{Dylink0Entry, entry, IsFilled, IsApart, AreCut}
use Rattle.wat_print_module.specs.Dylink.{one_number, flags_form, export_form, import_parts, import_form, sizes_form, names_form, lone_parts, printable_lone, is_lone, lone_form, entry_parts, is_filled, is_apart, subsections_form, dylink_form}
use Rattle.wat_links.specs.CutForm.{entries}
use Rattle.wat_links.specs.Cutting.{cut_subsections, dylink}
use Rattle.wat_links.specs.DylinkEntries.{export_entry, import_of, import_entry}
use Rattle.wat_links.specs.FlagBits.{flag_words, flag_bits}
use Rattle.wat_links.specs.Flags.{flag_list, symbol_flags}
use Rattle.wat_links.specs.Laws.Entries.{entry_consumes}
use Rattle.wat_links.specs.Laws.Flags.{flag_bits_consumes}
use Rattle.wat_print.specs.Laws.Only.{only_word_in}

-- ---- flags

number_prints : Prints (unsigned_form 32) (unsigned 32)
number_prints = unsigned_prints 32 (lit≤ tt) (lit≤ tt)

flag_prints : Prints (unsigned_form 32) flag_bits
unfolding flag_bits
flag_prints =
    first_prints at_integer number_prints (λ n r. refl)
    (only_word_in flag_words (is_unsigned 32) refl)

-- the bitwise or of numbers of 32 bits has 32 bits
joined_printable : (ns : List ℕ) (n : ℕ) → is_unsigned 32 n ≡ true
    → each (is_unsigned 32) ns ≡ true → is_unsigned 32 (fold bit_or n ns) ≡ true
joined_printable [] n f g = f
joined_printable (m ∷ ns) n f g =
    let a = and_parts (is_unsigned 32 m) (each (is_unsigned 32) ns) g in
    let lt = or_lt 32 n m (ltb-true n (2 ^ 32) f) (ltb-true m (2 ^ 32) a.0) in
    joined_printable ns (bit_or n m) (lt-ltb (bit_or n m) (2 ^ 32) lt) a.1

flags_prints : Prints flags_form symbol_flags
unfolding symbol_flags flag_list
flags_prints =
    whole_where (made_prints (many_prints at_more flag_prints flag_bits_consumes (search rules)
    (search rules)) (λ ns. fold bit_or 0 ns)) one_number (is_unsigned 32) (λ n h. or_zero_l n)
    (λ n h. rw h refl) (λ ns h. joined_printable ns 0 refl h)

-- ---- entries

export_prints : Prints export_form export_entry
unfolding export_entry
export_prints =
    group_prints (seq_prints text_prints flags_prints (search rules)) (codes "export-info") refl
    refl

import_prints : Prints import_form import_entry
unfolding import_entry
import_prints =
    group_prints (whole_prints (made_prints (seq_prints text_prints
    (seq_prints text_prints flags_prints (search rules)) (search rules)) import_of) import_parts
    (λ e h. refl) (λ e h. h) (λ v h. h)) (codes "import-info") refl refl

sizes_prints : (w : List ℕ) → is_keyword w ≡ true → bytes_eq w w ≡ true
    → Prints (sizes_form w) (sizes w)
unfolding sizes
sizes_prints w k e =
    whole_prints (made_prints (filled_prints (second_word w)
    (group_prints (seq_prints number_prints number_prints (search rules)) w k e) (λ y h. e))
    (λ o. unwrap_or o no_size)) Some (λ v h. refl) (λ v h. h) (λ o h. grind arith)

names_prints : (w : List ℕ) → is_keyword w ≡ true → bytes_eq w w ≡ true
    → Prints (names_form w) (names_entry w)
unfolding names_entry
names_prints w k e =
    group_prints (many_prints at_more text_prints (lit≤ tt) (search rules) (search rules)) w k e

lone_prints : Prints lone_form lone_entry
unfolding lone_entry mem_info_entry
lone_prints =
    whole_where (else_prints (at_group (codes "mem-info"))
    (group_prints (made_prints (seq_prints (sizes_prints (codes "memory") refl refl)
    (sizes_prints (codes "table") refl refl) (search rules))
    (λ v. mem_info v.0.0 v.0.1 v.1.0 v.1.1)) (codes "mem-info") refl refl)
    (else_prints (at_group (codes "needed"))
    (made_prints (names_prints (codes "needed") refl refl) needed)
    (else_prints (at_group (codes "runtime-path"))
    (made_prints (names_prints (codes "runtime-path") refl refl) runtime_path)
    (made_prints (group_prints text_prints (codes "target-arch") refl refl) target_arch)
    (search rules) (search rules)) (search rules) (search rules)) (search rules) (search rules))
    lone_parts printable_lone (λ s h. grind arith) (λ s h. (and_parts (is_lone s) _ h).1)
    (λ v h. grind arith)

entry_prints : Prints entry_form entry
unfolding entry
entry_prints =
    whole_prints (else_prints at_export (made_prints export_prints of_export)
    (else_prints at_import (made_prints import_prints of_import)
    (made_prints lone_prints other) (search rules) (search rules)) (search rules) (search rules))
    entry_parts (λ e h. grind arith) (λ e h. h) (λ v h. grind arith)

entries_prints : Prints entries_form entries
unfolding entries
entries_prints = many_prints at_more entry_prints entry_consumes (search rules) (search rules)

-- ---- the entries of two lists

pub entries_spelled : (es fs : List Dylink0Entry)
    → entries_form.spell (es ++ fs) ≡ entries_form.spell es ++ entries_form.spell fs
entries_spelled es fs = flat_map-append entry_form.spell es fs

pub entries_printable : (es fs : List Dylink0Entry)
    → entries_form.printable (es ++ fs) ≡ (entries_form.printable es && entries_form.printable fs)
entries_printable es fs = each_append entry_form.printable es fs

pub ruleset more_entries = (entries_spelled, entries_printable)

-- ---- how entries are cut into subsections

filled_decides : (s : Dylink0SubsectionModel) → Decides (is_filled s) (IsFilled s)
filled_decides (export_info []) = (λ h. absurd cc, λ h. absurd h)
filled_decides (import_info []) = (λ h. absurd cc, λ h. absurd h)
filled_decides (export_info (e ∷ es)) = (λ h. tt, λ h. refl)
filled_decides (import_info (e ∷ es)) = (λ h. tt, λ h. refl)
filled_decides _ = (λ h. tt, λ h. refl)

apart_decides : (s : Dylink0SubsectionModel) (ss : List Dylink0SubsectionModel)
    → Decides (is_apart s ss) (IsApart s ss)
apart_decides (export_info es) (export_info fs ∷ ss) = (λ h. absurd cc, λ h. absurd h)
apart_decides (import_info es) (import_info fs ∷ ss) = (λ h. absurd cc, λ h. absurd h)
apart_decides (export_info es) [] = (λ h. tt, λ h. refl)
apart_decides (import_info es) [] = (λ h. tt, λ h. refl)
apart_decides (export_info es) (_ ∷ ss) = (λ h. tt, λ h. refl)
apart_decides (import_info es) (_ ∷ ss) = (λ h. tt, λ h. refl)
apart_decides _ ss = (λ h. tt, λ h. refl)

cut_decides : (ss : List Dylink0SubsectionModel) → Decides (are_cut ss) (AreCut ss)
cut_decides [] = (λ h. tt, λ h. refl)
cut_decides (s ∷ ss) =
    Decides-like (are_cut (s ∷ ss)) (λ h. (h.0, h.1.0, h.1.1)) (λ h. (h.0, (h.1, h.2)))
    (Decides-and (is_filled s) (is_apart s ss && are_cut ss) (filled_decides s)
    (Decides-and (is_apart s ss) (are_cut ss) (apart_decides s ss) (cut_decides ss)))

-- ---- the section

cut_prints : Prints subsections_form cut_subsections
unfolding cut_subsections
cut_prints =
    let p = entries_prints in
    plain_prints (λ ss. entries_form.spell (flat_map entries_in ss))
    (λ ss h. p.nests (flat_map entries_in ss) (and_parts _ (are_cut ss) h).0)
    (λ ss r h e. (
    let a = and_parts (entries_form.printable (flat_map entries_in ss)) (are_cut ss) h in
    (p.here (flat_map entries_in ss) r a.0 e, (cut_decides ss).0 a.1)))
    (record {
      holds = λ ss c r a s. rw ((prints_only p).holds (flat_map entries_in ss) c r a s.0)
          ((cut_decides ss).1 s.1);
    })

pub dylink_inside : Inside dylink_form (λ v. v) dylink
unfolding dylink
dylink_inside = annotated cut_prints refl (codes "dylink.0") refl refl refl

pub dylink_prints : Prints (paren_form dylink_form) (paren dylink)
dylink_prints = grouped_prints dylink_inside
