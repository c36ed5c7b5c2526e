use Rattle.std.proofs.Common.{◌≡◌}
use Rattle.mode_hosts.specs.Lives.{numbers_told}
use Rattle.live_run.specs.Telling.{Tells, StaysLive}
use Rattle.live_run.proofs.telling.tell_frames.Given as goal

-- what was told so far has its lines, and is counted
abbrev pub invariant-loop : goal.invariant-loop
invariant-loop g l =
    record {
      count : l.frames ≡ numbers_told l.pipe;
      stays : StaysLive l.fn.pipe l.pipe;
      told : Tells l.fn.frames l.frames l.fn.pipe l.pipe l.fn.text.items l.text.items;
    }
