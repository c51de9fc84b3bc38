use Rattle.std.proofs.Common.{nat_cmp, ◌≡◌, ℕ, List, [], length, get_or, sym, ◌∙◌, ap, arith}
use Rattle.wat_mnemonics.specs.Prelude.{nat_cmp_is, Equal, cmp, words}
use Rattle.wat_mnemonics.proofs.KeyOrder.{last_key, key_same, key_same_last}
use Rattle.wat_mnemonics.proofs.TableOrder.{entry_word}
use Rattle.wat_mnemonics.proofs.WordOrder.{same_so_far}
use Rattle.wat_mnemonics.proofs.same_key.compared_whole.Goals as goal

pub returns-then-text-le8 : goal.returns-then-text-le8
returns-then-text-le8 c =
    let word = c.word-word.ensures ∙ entry_word c.args.index _ c.requires.index c.op_at.ensures in
    let t : List ℕ = c.args.text.now in
    let long : length (get_or words c.args.index []) ≡ length t = sym (ap (λ (w : List ℕ). length w) word) ∙ c.if-word-text.true in
    nat_cmp_is (length (get_or words c.args.index [])) (length t) Equal long
    ∙ sym (same_so_far 8 (get_or words c.args.index []) t c.if-text-le8.true (key_same c.args.index c.requires.index t (λ i. omega (arith, c.type_inv.text i)) c.requires.same))

pub returns-then-last_eight : goal.returns-then-last_eight
returns-then-last_eight c =
    let word = c.word-word.ensures ∙ entry_word c.args.index _ c.requires.index c.op_at.ensures in
    let t : List ℕ = c.args.text.now in
    let long : length (get_or words c.args.index []) ≡ length t = sym (ap (λ (w : List ℕ). length w) word) ∙ c.if-word-text.true in
    let ends : last_key (get_or words c.args.index []) ≡ last_key t =
    sym (c.last_eight.ensures ∙ ap last_key word) ∙ c.if-last_eight.true ∙ c.last_eight-then-text-le16.ensures
    in
    nat_cmp_is (last_key (get_or words c.args.index [])) (last_key t) Equal ends
    ∙ sym (key_same_last c.args.index c.requires.index t (λ i. omega (arith, c.type_inv.text i)) c.requires.same long (omega (arith, c.if-text-le8.false)) c.if-text-le16.true)

pub returns-then-text-le8-2 : goal.returns-then-text-le8-2
returns-then-text-le8-2 c =
    let word = c.word-word.ensures ∙ entry_word c.args.index _ c.requires.index c.op_at.ensures in
    let t : List ℕ = c.args.text.now in
    c.cmp.ensures ∙ ap (λ (w : List ℕ). nat_cmp (length w) (length t)) word
    ∙ sym (same_so_far 8 (get_or words c.args.index []) t c.if-text-le8-2.true (key_same c.args.index c.requires.index t (λ i. omega (arith, c.type_inv.text i)) c.requires.same))

pub returns : goal.returns
returns c =
    let word = c.word-word.ensures ∙ entry_word c.args.index _ c.requires.index c.op_at.ensures in
    c.cmp-2.ensures ∙ ap (λ (w : List ℕ). cmp w c.args.text.now) word
