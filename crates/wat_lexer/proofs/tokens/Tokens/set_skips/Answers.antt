use Rattle.std.proofs.Common.{arith, length, ap, sym, ◌∙◌, ◌≡◌, ◌<◌, ℕ}
use Rattle.wat_lexer.specs.Laws.Prelude.{length-map, set, entry_of, entries_of, skipping, own_number}
use Rattle.wat_lexer.proofs.Entries.{skips_told, annotation_there, annotation_room, annotation_number}
use Rattle.wat_lexer.proofs.tokens.Tokens.set_skips.Goals as goal

pub index_mut-requires : goal.index_mut-requires
index_mut-requires c =
    let text = c.self.inside.text.now in
    let side_table = c.self.inside.side_table.items in
    let told = c.self.inside.skips.items in
    let ls = c.self.inside.lexemes.items in
    let x = c.index.result.now in
    let place : c.args.at < length ls = omega (arith, ap length c.self.view_is, length-map ls (entry_of text side_table told), c.requires.place) in
    let kind = annotation_there text side_table told ls c.args.at x x place (sym c.index.ensures) c.self.invariant.0 (rw c.self.view_is c.requires.annotates) in
    let room : c.number-number.result < length told = rw (c.number-number.ensures, annotation_number x kind) (annotation_room text side_table told ls c.args.at x x place (sym c.index.ensures) c.self.invariant.0 c.self.invariant.2 kind) in
    omega (arith, c.self.inside.skips.ok.0, room)

pub returns : goal.returns
returns c =
    let text = c.self.inside.text.now in
    let side_table = c.self.inside.side_table.items in
    let told = c.self.inside.skips.items in
    let ls = c.self.inside.lexemes.items in
    let x = c.index.result.now in
    let skips = c.args.skips in
    let place : c.args.at < length ls = omega (arith, ap length c.self.view_is, length-map ls (entry_of text side_table told), c.requires.place) in
    let kind = annotation_there text side_table told ls c.args.at x x place (sym c.index.ensures) c.self.invariant.0 (rw c.self.view_is c.requires.annotates) in
    let room = annotation_room text side_table told ls c.args.at x x place (sym c.index.ensures) c.self.invariant.0 c.self.invariant.2 kind in
    let number : c.number-number.result ≡ own_number x = c.number-number.ensures ∙ annotation_number x kind in
    ap (λ (k : ℕ). entries_of text side_table (set told k skips) ls) number
    ∙ skips_told text side_table told ls c.args.at skips x x place (sym c.index.ensures) c.self.invariant.1 kind room
    ∙ ap (λ l. set l c.args.at (skipping l c.args.at skips)) c.self.view_is
