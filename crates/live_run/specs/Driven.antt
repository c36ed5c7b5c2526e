-- A driven pipe, and what it keeps of the play of all that it was given.
use Rattle.std.specs.Prelude.{◌≡◌, ◌⊎◌, ℕ, ◌+◌, ◌≤◌, List, [], ◌∷◌, take, length, Option}
use Rattle.fx_math.specs.declared.lenses.Lens.{Lens}
use Rattle.draw_list.specs.declared.stats.Stats.{Stats}
use Rattle.nearest_hit.specs.declared.segment.Segment.{Segment}
use Rattle.pf_model.specs.declared.lines.BaseLine.{BaseLine}
use Rattle.pf_history.specs.Logs.{Log}
use Rattle.play_format.specs.Plays.{Script}
use Rattle.live_text.specs.LiveCommands.{wait_at, first_number}
use Rattle.pipe_plays.specs.Plays.{most_steps, CanRun}
use Rattle.mode_hosts.specs.declared.live.LivePipe.{LivePipe}
use Rattle.mode_hosts.specs.Lives.{with_app, with_dbase, seen_of, stats_of, numbers_told, IsLive, LiveKeeps, LiveRests}

-- What contracts see of a driven pipe: the pipe, the steps of both sections that it was given, how many blocks it was given,
-- and how many frames were told.
pub record Driven (R G : Type 0) : Type 0 where
  pub pipe : LivePipe R G
  pub steps : ℕ
  pub blocks : ℕ
  pub frames : ℕ

-- the play of these that has no steps
abbrev pub bare_play : Lens → List ℕ → ℕ → Script
bare_play lens back channels = record { lens = lens; back = back; channels = channels; app = []; dbase = [] }

-- the play with the k-th block, and behind it the line at which the application waits for its merge
abbrev pub with_block : Script → List BaseLine → ℕ → Script
with_block play block k = with_app (with_dbase play block) (wait_at (first_number block) k ∷ [])

module _ {R G : Type 0} where
  -- the entries that a pipe told, and the numbers of frames
  abbrev pub told_log : LivePipe R G → Log
  told_log p = take p.told (seen_of p)

  abbrev pub told_stats : LivePipe R G → List Stats
  told_stats p = take (numbers_told p) (stats_of p)

  -- What the type of a driven pipe keeps: its seats belong together, each block has a step, the steps can be counted, and the
  -- frames told are those that the pipe told.
  pub record IsSound (d : Driven R G) : Type 0 where
    pub live : IsLive d.pipe
    pub few_blocks : d.blocks ≤ d.steps
    pub few_steps : d.steps ≤ most_steps
    pub frames : d.frames ≡ numbers_told d.pipe

  -- What a driven pipe keeps of the play of all that it was given, with the bytes of the frame sink before it was opened and
  -- now.
  pub record IsDriven (play : Script) (ahead : ℕ) (asked : Option Segment) (bytes bytes' : Option (List ℕ)) (d : Driven R G) :
      Type 0 where
    pub keeps : LiveKeeps play ahead asked bytes bytes' d.pipe
    pub can_run : CanRun play ahead
    pub steps : d.steps ≡ length play.app + length play.dbase
    pub told : d.frames ≡ numbers_told d.pipe

  -- The pipe was given a block when nothing was left to do of the play before it, and its history is still the same.
  pub record IsGivenSettled (play : Script) (ahead : ℕ) (asked : Option Segment) (bytes bytes' : Option (List ℕ)) (d : Driven R G) :
      Type 0 where
    pub before : Driven R G
    pub driven : IsDriven play ahead asked bytes bytes' before
    pub rests : LiveRests before.pipe
    pub seen : seen_of d.pipe ≡ seen_of before.pipe
    pub stats : stats_of d.pipe ≡ stats_of before.pipe

  -- What is kept where a block, or its wait, was not given: of the play as it was, or of the play with the block.
  abbrev pub IsDrivenSome : Script → List BaseLine → ℕ → Option Segment → (bytes bytes' : Option (List ℕ)) → Driven R G → Type 0
  IsDrivenSome play block ahead asked bytes bytes' d =
      IsDriven play ahead asked bytes bytes' d ⊎ IsDriven (with_dbase play block) ahead asked bytes bytes' d
