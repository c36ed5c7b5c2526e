-- What a play on hosts leaves at its end.
use Rattle.std.specs.Prelude.{◌≡◌, ℕ, List, [], Option, IfSome, IfNone}
use Rattle.pf_io.specs.Causes.{Calm, Rose}
use Rattle.nearest_hit.specs.declared.found.Near.{Near}
use Rattle.nearest_hit.specs.declared.segment.Segment.{Segment}
use Rattle.isect_stage.specs.Asking.{nearest_hits}
use Rattle.pf_history.specs.Logs.{Log}
use Rattle.pipe_plays.specs.declared.played.PlayEnd.{PlayEnd}
use Rattle.pipe_plays.specs.declared.played.PlayEnd.TheVariants as ends

-- What a play leaves of its probe that came to this end: where all was played and a segment was asked for, its nearest hit in
-- each Frame of the history, in turn; else nothing.
pub record IsProbed (channels : ℕ) (probe : Option Segment) (end : PlayEnd) (log : Log) (probes : List (Option Near)) : Type 0 where
  pub all : end ≡ ends.Done → IfSome probe (λ segment. probes ≡ nearest_hits channels segment log)
  pub none : IfNone probe (probes ≡ [])
  pub early : (end ≡ ends.Done → ⊥) → probes ≡ []

-- What the end says of the frame sink: it is a fault only where the count of faults rose, and then nothing was written after
-- it; at every other end the count is as before.
pub record EndBlames (end : PlayEnd) (before now : ℕ) (at_fault bytes : Option (List ℕ)) : Type 0 where
  pub fault : end ≡ ends.FrameFault → Rose before now
  pub last : end ≡ ends.FrameFault → at_fault ≡ bytes
  pub calm : (end ≡ ends.FrameFault → ⊥) → Calm before now
