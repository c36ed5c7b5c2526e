use Rattle.std.proofs.Common.{◌∙◌, refl, sym}
use Rattle.stream_stages.specs.PieceFrames.{with_piece}
use Rattle.stream_stages.proofs.FramesSent.{piece_on, piece_ends}
use Rattle.stream_stages.proofs.sending.fill_piece.Goals as goal

pub returns-then-not-is_last-clause-pieces : goal.returns-then-not-is_last-clause-pieces
returns-then-not-is_last-clause-pieces c = λ loads lists copied sends.
    let a = c.args in
    piece_on a.lens.now a.piece.now.limit a.copy.now a.walk.now c.fill_counted.new.walk loads lists a.frame a.piece.now c.fill_counted.new.piece
    refl c.fill_counted.ensures (sym c.is_last.ensures ∙ c.if-not-is_last.true) sends

pub returns-clause-pieces : goal.returns-clause-pieces
returns-clause-pieces c = λ loads lists copied sends.
    let a = c.args in
    let p = c.fill_counted.new.piece in
    c.begin_channel.ensures.pieces a.piece.now.limit a.copy.now loads (with_piece lists p)
    (piece_ends a.lens.now a.piece.now.limit a.copy.now a.walk.now c.fill_counted.new.walk loads lists a.frame _ a.piece.now p refl
    c.fill_counted.ensures (sym c.is_last.ensures ∙ c.if-not-is_last.false) refl copied sends)
