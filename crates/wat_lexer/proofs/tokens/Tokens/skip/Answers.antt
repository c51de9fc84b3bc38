use Rattle.std.proofs.Common.{arith, length, ap, sym, ◌∙◌, ◌≡◌, ◌<◌, true}
use Rattle.wat_lexer.specs.Laws.Prelude.{get_or, length-map, entry_of, is_annotation_kind, no_entry, skip}
use Rattle.wat_lexer.proofs.Entries.{annotation_room, annotation_number, annotation_told}
use Rattle.wat_lexer.proofs.tokens.Tokens.skip.Goals as goal

pub index-requires : goal.index-requires
index-requires c =
    let text = c.self.inside.text.now in
    let side_table = c.self.inside.side_table.items in
    let told = c.self.inside.skips.items in
    let ls = c.self.inside.lexemes.items in
    let x = c.index-lexeme.result.now in
    let place : c.args.at < length ls = omega (arith, ap length c.self.view_is, length-map ls (entry_of text side_table told), c.requires) in
    let is : is_annotation_kind x.kind ≡ true = ap is_annotation_kind c.in-Annotation.is in
    let room : c.number.result < length told = rw (c.number.ensures, annotation_number x is) (annotation_room text side_table told ls c.args.at x x place (sym c.index-lexeme.ensures) c.self.invariant.0 c.self.invariant.2 is) in
    omega (arith, c.self.inside.skips.ok.0, room)

pub returns-in-Annotation : goal.returns-in-Annotation
returns-in-Annotation c =
    let text = c.self.inside.text.now in
    let side_table = c.self.inside.side_table.items in
    let told = c.self.inside.skips.items in
    let ls = c.self.inside.lexemes.items in
    let x = c.index-lexeme.result.now in
    let place : c.args.at < length ls = omega (arith, ap length c.self.view_is, length-map ls (entry_of text side_table told), c.requires) in
    let is : is_annotation_kind x.kind ≡ true = ap is_annotation_kind c.in-Annotation.is in
    let room : c.number.result < length told = rw (c.number.ensures, annotation_number x is) (annotation_room text side_table told ls c.args.at x x place (sym c.index-lexeme.ensures) c.self.invariant.0 c.self.invariant.2 is) in
    let here = annotation_told text side_table told ls c.args.at c.number.result c.index.result.now x x place (sym c.index-lexeme.ensures) is (c.number.ensures ∙ annotation_number x is) room c.index.ensures in
    c.told.ensures ∙ ap (skip c.args.known) (here ∙ ap (λ l. (get_or l c.args.at no_entry).skips) c.self.view_is)
