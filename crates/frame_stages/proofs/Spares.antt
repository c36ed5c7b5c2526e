-- The loads in hand in a pipe that fits.
use Rattle.std.proofs.Common.{◌≡◌, ◌+◌, ◌≤◌, List, [], length, ap, arith}
use Rattle.pf_model.specs.declared.lines.BaseLine.{BaseLine}
use Rattle.pf_history.specs.Logs.{state_of}
use Rattle.stage_parts.specs.States.{Setup, Seats, PipeState}
use Rattle.stage_parts.specs.Pipes.{PipeFits}
use Rattle.stage_parts.proofs.Counting.{counting_law}
use Rattle.stage_parts.proofs.Sent.{no_end_taken, many_loads}

-- where none is in hand, as many frames as may be in flight are begun behind the retired ones
pub none_in_hand : (g : Setup) (dbase : List BaseLine) (seats : Seats) (s : PipeState) → PipeFits g dbase seats s → s.app.spare ≡ [] →
    (state_of g.channels s.log).retired + g.ahead ≤ (state_of g.channels s.log).frames
none_in_hand g dbase seats s fits none =
    let back = many_loads s.c.taken (no_end_taken s.c.sent s.c.taken s.draw.held fits.link_c fits.draw.ends) in
    let empty : length s.app.spare ≡ 0 = ap length none in
    let state = (counting_law g dbase seats s fits).state in
    let all = fits.loads.all in
    let came = fits.stream.all in
    let retired = fits.stream.retired in
    omega (arith, back, empty, all, came, retired, state.frames, state.retired)
