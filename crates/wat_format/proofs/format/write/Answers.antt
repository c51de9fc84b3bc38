use Rattle.std.proofs.Common.{◌≡◌, ◌∙◌, [], drop, refl, arith, sym}
use Rattle.wat_lexer.specs.Laws.Prelude.{drop_of_length-le, IsCharBoundary-start}
use Rattle.wat_format.proofs.Blanks.{blanks_found, blanks_boundary, no_space_at, own_blanks}
use Rattle.wat_format.proofs.Found.{edge_boundary}
use Rattle.wat_format.proofs.Gaps.{block_followed}
use Rattle.wat_format.proofs.SoFar.{at_start, over_blanks, piece_written, at_end, with_line, closed_end, wrong_here}
use Rattle.wat_format.proofs.format.write.Goals.{then-end-gt0+in_ok-push_str-2, else-end-gt0}
use Rattle.wat_format.proofs.format.write.Goals as goal

pub pieces-init : goal.pieces-init
pieces-init c = record {
  so = rw (c.new-out.ensures.bytes, c.new-layout.ensures) (at_start c.args.text.now);
  within = omega arith;
  edge = IsCharBoundary-start c.args.text.now c.utf8.text;
  follows = block_followed c.args.text.now;
}

pub piece_at-requires-clause-no_space : goal.piece_at-requires-clause-no_space
piece_at-requires-clause-no_space c =
    let bytes = c.as_bytes-bytes.ensures.value in
    let spaces = rw bytes at c.spaces_end-at.ensures in
    let found = blanks_found c.args.text.now c.pieces.end c.spaces_end-at.result spaces.within.0 spaces.within.1 spaces.value in
    rw bytes (no_space_at c.args.text.now c.spaces_end-at.result (rw bytes at c.if-at-bytes.false) found.1)

pub returns-in-Err-clause-fails : goal.returns-in-Err-clause-fails
returns-in-Err-clause-fails c =
    let bytes = c.as_bytes-bytes.ensures.value in
    let spaces = rw bytes at c.spaces_end-at.ensures in
    let at = c.spaces_end-at.result in
    let found = blanks_found c.args.text.now c.pieces.end at spaces.within.0 spaces.within.1 spaces.value in
    λ _. wrong_here at c.in-Err.e (over_blanks c.pieces.end at spaces.within.0 found.0 c.pieces.invariant.so) (rw bytes at c.in-Err.ensures.wrong)

pub range-blanks-requires-clause-end_boundary : goal.range-blanks-requires-clause-end_boundary
range-blanks-requires-clause-end_boundary c =
    let spaces = rw c.as_bytes-bytes.ensures.value at c.spaces_end-at.ensures in
    blanks_boundary c.args.text.now c.pieces.end c.spaces_end-at.result c.utf8.text c.pieces.invariant.edge spaces.within.0 spaces.within.1 spaces.value

pub put_blanks-requires : goal.put_blanks-requires
put_blanks-requires c =
    let bytes = c.as_bytes-bytes.ensures.value in
    let spaces = rw bytes at c.spaces_end-at.ensures in
    let text = c.args.text.now in
    let end = c.pieces.end in
    let at = c.spaces_end-at.result in
    let found = blanks_found text end at spaces.within.0 spaces.within.1 spaces.value in
    rw (bytes, c.range-blanks.ensures.value) (own_blanks text end at c.pieces.last spaces.within.0 (rw bytes at c.if-at-bytes.false) found.0 c.pieces.invariant.follows)

pub range-requires-clause-start_boundary : goal.range-requires-clause-start_boundary
range-requires-clause-start_boundary c =
    let spaces = rw c.as_bytes-bytes.ensures.value at c.spaces_end-at.ensures in
    λ _. blanks_boundary c.args.text.now c.pieces.end c.spaces_end-at.result c.utf8.text c.pieces.invariant.edge spaces.within.0 spaces.within.1 spaces.value

pub range-requires-clause-end_boundary : goal.range-requires-clause-end_boundary
range-requires-clause-end_boundary c =
    let bytes = c.as_bytes-bytes.ensures.value in
    let within = rw bytes at c.in-Ok.ensures.within in
    edge_boundary c.args.text.now c.spaces_end-at.result c.in-Ok.piece.end c.utf8.text within.0 within.1 (rw bytes at c.in-Ok.ensures.edge)

pub pieces-preserved : goal.pieces-preserved
pieces-preserved c =
    let bytes = c.as_bytes-bytes.ensures.value in
    let spaces = rw bytes at c.spaces_end-at.ensures in
    let text = c.args.text.now in
    let end = c.pieces.end in
    let at = c.spaces_end-at.result in
    let piece = c.in-Ok.piece in
    let within = rw bytes at c.in-Ok.ensures.within in
    let follows = rw bytes at c.in-Ok.ensures.follows in
    let found = blanks_found text end at spaces.within.0 spaces.within.1 spaces.value in
    let (x, separates, written) = rw (bytes, c.range-blanks.ensures.value) at c.in_ok-put_blanks.ensures in
    record {
      so = rw (c.in_ok-pass.ensures, c.gap-gap.ensures) (piece_written at piece.end piece.shape _ x within.0 within.1 (rw bytes at c.in-Ok.ensures.stands) follows separates (rw (c.in_ok-push_str.ensures.bytes, written, c.range.ensures.value) refl) (over_blanks end at spaces.within.0 found.0 c.pieces.invariant.so));
      within = within.1;
      edge = edge_boundary text at piece.end c.utf8.text within.0 within.1 (rw bytes at c.in-Ok.ensures.edge);
      follows = follows;
    }

pub returns-clause-same : goal.returns-clause-same
returns-clause-same c =
    let bytes = c.as_bytes-bytes.ensures.value in
    let spaces = rw bytes at c.spaces_end-at.ensures in
    let text = c.args.text.now in
    let end = c.pieces.end in
    let at = c.spaces_end-at.result in
    let found = blanks_found text end at spaces.within.0 spaces.within.1 spaces.value in
    let so = over_blanks end at spaces.within.0 found.0 c.pieces.invariant.so in
    let rest : drop at text ≡ [] = drop_of_length-le text (rw bytes at c.if-at-bytes.true) in
    elim c.if-end-gt0.branch [
      | then-end-gt0+in_ok-push_str-2 w ↦ rw (w.out-is, w.in_ok-push_str-2.ensures.bytes) (with_line so rest)
      | else-end-gt0 w ↦ rw w.out-is (at_end so rest)
    ]

pub returns-clause-closed : goal.returns-clause-closed
returns-clause-closed c =
    let bytes = c.as_bytes-bytes.ensures.value in
    let spaces = rw bytes at c.spaces_end-at.ensures in
    let text = c.args.text.now in
    let end = c.pieces.end in
    let at = c.spaces_end-at.result in
    let found = blanks_found text end at spaces.within.0 spaces.within.1 spaces.value in
    let so = over_blanks end at spaces.within.0 found.0 c.pieces.invariant.so in
    let rest : drop at text ≡ [] = drop_of_length-le text (rw bytes at c.if-at-bytes.true) in
    λ none_open. closed_end so rest (sym c.groups.ensures ∙ none_open)
