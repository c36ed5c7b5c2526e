use Rattle.std.proofs.Common.{◌≡◌, ℕ}
use Rattle.mode_hosts.specs.Lives.{numbers_told}
use Rattle.live_run.specs.Telling.{Tells, StaysLive}
use Rattle.live_run.proofs.telling.tell_entries.Given as goal

-- what was told so far has its lines
abbrev pub invariant-loop : goal.invariant-loop
invariant-loop g l =
    record {
      stays : StaysLive l.fn.pipe l.pipe;
      numbers : numbers_told l.pipe ≡ numbers_told l.fn.pipe;
      told : (n : ℕ) → Tells n n l.fn.pipe l.pipe l.fn.text.items l.text.items;
    }
