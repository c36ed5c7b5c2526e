-- What a run of a play leaves beside its history and its stream.
use Rattle.std.specs.Prelude.{◌≡◌, ◌≢◌, ℕ, List, Option}
use Rattle.pf_io.specs.Causes.{Calm, Rose}
use Rattle.draw_list.specs.declared.stats.Stats.{Stats}
use Rattle.nearest_hit.specs.declared.found.Near.{Near}
use Rattle.play_format.specs.Plays.{Script}
use Rattle.pf_history.specs.Logs.{Log}
use Rattle.stage_parts.specs.Pictures.{frame_numbers}
use Rattle.pipe_plays.specs.declared.played.PlayEnd.{PlayEnd}
use Rattle.pipe_plays.specs.declared.played.PlayEnd.TheVariants as end
use Rattle.program_words.specs.declared.words.Words.{Words}
use Rattle.perfly_top.specs.Program.{answers}

-- the numbers are those of the frames of a history
abbrev pub HasNumbers : Script → List Stats → Log → Type 0
HasNumbers play stats log = stats ≡ frame_numbers play.channels play.lens log

-- the answers are those to the probe in a history
abbrev pub HasAnswers : Words → Script → List (Option Near) → Log → Type 0
HasAnswers words play probes log = probes ≡ answers words play log

-- it ended by a fault of the sink exactly where the count of its faults rose, after which nothing was written
pub record EndsByFault (ended : PlayEnd) (before now : ℕ) (at_fault written : Option (List ℕ)) : Type 0 where
  pub fault : ended ≡ end.FrameFault → Rose before now
  pub last : ended ≡ end.FrameFault → at_fault ≡ written
  pub calm : ended ≢ end.FrameFault → Calm before now
