-- What is left of a play, in the words of the headline.
use Rattle.std.specs.Prelude.{◌≡◌, ◌≢◌, ℕ, List, Option}
use Rattle.draw_list.specs.declared.stats.Stats.{Stats}
use Rattle.play_format.specs.Plays.{Script}
use Rattle.play_check.specs.Stuck.{IsStuck}
use Rattle.pf_history.specs.Logs.{Log}
use Rattle.stage_parts.specs.States.{Seats}
use Rattle.pipe_plays.specs.declared.played.PlayEnd.{PlayEnd}
use Rattle.pipe_plays.specs.declared.played.PlayEnd.TheVariants as end
use Rattle.pipe_plays.specs.Plays.{CanRun}
use Rattle.pipe_plays.specs.Played.{LeavesPipe}
use Rattle.pipe_plays.specs.Laws.{IsLeft}
use Rattle.program_ends.specs.Played.{IsPart, IsPlayed}

-- What is left is a part of the play, at the end that it came to, and, where that was no fault of the sink, at any other end
-- that is told in its place. Where the play came to its end, and is not stuck, it was played.
pub record IsPartOf (ahead : ℕ) (play : Script) (ended : PlayEnd) (log : Log) (frames frames' : Option (List ℕ)) : Type 0 where
  pub part : IsPart ahead play ended log frames frames'
  pub elsewhere : ended ≢ end.FrameFault → (other : PlayEnd) → IsPart ahead play other log frames frames'
  pub played : ended ≡ end.Done → ¬ IsStuck play.app play.dbase → IsPlayed ahead play log frames frames'

abbrev pub LeftLaw : Type 0
LeftLaw =
    (play : Script) (ahead : ℕ) (ended : PlayEnd) (log : Log) (stats : List Stats) (frames frames' : Option (List ℕ)) →
    IsLeft play ahead ended log stats frames frames' → IsPartOf ahead play ended log frames frames'

abbrev pub PipeLeftLaw : Type 0
PipeLeftLaw =
    (play : Script) (ahead : ℕ) (seats : Seats) (ended : PlayEnd) (log : Log) (stats : List Stats) (frames frames' : Option (List ℕ)) →
    CanRun play ahead → LeavesPipe play ahead seats ended log stats frames frames' → IsPartOf ahead play ended log frames frames'
