-- What a pipe is given of a play.
use Rattle.std.specs.Prelude.{◌≡◌, ℕ, ◌+◌, ◌≤◌, true, false, length, Some}
use Rattle.std.specs.List.{list_all}
use Rattle.pf_history.specs.Asks.{asked_dbase}
use Rattle.play_format.specs.Plays.{Script, app_fits, base_fits, open_after}
use Rattle.pf_scene.specs.Scenes.{IsSmall}
use Rattle.stage_parts.specs.States.{Setup, Seats, PipeState}
use Rattle.stage_parts.specs.Pipes.{PipeFits}

-- what the application's stage is given of a play, where so many frames may be in flight
abbrev pub setup_of : Script → ℕ → Setup
setup_of play ahead =
    record {
      lines = play.app;
      merges = length (asked_dbase play.dbase);
      lens = play.lens;
      back = play.back;
      ahead = ahead;
      channels = play.channels;
    }

-- the steps that the sections of a play may have while it grows: 2 ^ 29
abbrev pub most_steps : ℕ
most_steps = 536870912

-- A play that may grow while it is played: it keeps what a play keeps, and its sections have together at most 2 ^ 29 steps.
pub record IsLivePlay (play : Script) : Type 0 where
  pub steps : length play.app + length play.dbase ≤ most_steps
  pub some_channel : 1 ≤ play.channels
  pub most_channels : play.channels ≤ 4
  pub app_steps : list_all (λ l. app_fits play.channels l.step) play.app ≡ true
  pub base_steps : list_all (λ l. base_fits l.step) play.dbase ≡ true
  pub buffers : open_after false play.dbase ≡ Some false

-- A play can be run, with so many frames in flight.
pub record CanRun (play : Script) (ahead : ℕ) : Type 0 where
  pub is_play : IsLivePlay play
  pub few_ahead : IsSmall ahead

-- a pipe fits its play
abbrev pub FitsItsPlay : Script → ℕ → Seats → PipeState → Type 0
FitsItsPlay play ahead seats s = PipeFits (setup_of play ahead) play.dbase seats s

-- APP has sent its End, and DBASE's list is done.
pub record AreDone (play : Script) (s : PipeState) : Type 0 where
  pub app : s.app.ended ≡ true
  pub dbase : length play.dbase ≤ s.dbase.at
