use Rattle.std.proofs.Common.{arith}
use Rattle.live_run.proofs.live.is_untold.Goals as goal

pub returns-in-None-clause-numbers : goal.returns-in-None-clause-numbers
returns-in-None-clause-numbers g c = λ is.
    let same = c.in-None.ensures.tells.0 in
    let all = c.in-None.ensures.tells.1 in
    omega (arith, same, all, c.frames_back.ensures, c.if-frames_back-gt0.false)
