-- The headline: what a call leaves of its play, with so many frames in flight.
use Rattle.std.specs.Prelude.{◌≡◌, ℕ, ◌+◌, ◌≤◌, true, List, Option, Some, slice_get}
use Rattle.std.specs.List.{concat}
use Rattle.std.specs.Io.KnownBytes.{append_known}
use Rattle.play_format.specs.Plays.{Script}
use Rattle.play_check.specs.Stuck.{IsStuck}
use Rattle.pf_history.specs.Objects.{FrameState}
use Rattle.pf_history.specs.Logs.{Log, IsLegal}
use Rattle.pf_history.specs.Fits.{FitsPlay, FitsWholly}
use Rattle.pf_history.specs.Cuts.{found_by_frames}
use Rattle.pf_history.specs.CutLaws.{has_serial, is_among, sync_entry}
use Rattle.stage_parts.specs.Pictures.{pictures}
use Rattle.pipe_plays.specs.Played.{AddsFront}
use Rattle.pipe_plays.specs.declared.played.PlayEnd.{PlayEnd}
use Rattle.pipe_plays.specs.declared.played.PlayEnd.TheVariants as end

-- the pictures of a play's history, one after the other
abbrev pub stream_of : Script → Log → List ℕ
stream_of play log = concat (pictures play.channels play.lens play.back log)

-- A node is freed only when no undelivered frame names it: where a Sync of r replies a serial, only the first r frames
-- have a node of it.
abbrev pub FreesLate : ℕ → Log → Type 0
FreesLate channels log =
    (j seat r x : ℕ) (serials : List ℕ) → slice_get log j ≡ Some (seat, sync_entry r serials) → is_among x serials ≡ true →
    (k : ℕ) (s : FrameState) → slice_get (found_by_frames channels log) k ≡ Some s → has_serial x s.graph.nodes ≡ true → k + 1 ≤ r

-- What holds however the play ends. The history is a legal one-thread history, with calls of the application and merges of
-- the play, each once, in each caller's order. The stream is whole pictures of it, and a prefix of the next one only where a
-- fault of the sink ended the play. All frames that a Sync retired were wholly written.
pub record IsPart (ahead : ℕ) (play : Script) (ended : PlayEnd) (log : Log) (frames frames' : Option (List ℕ)) : Type 0 where
  pub legal : IsLegal play.channels log
  pub fits : FitsPlay play.channels ahead play.app play.dbase log
  pub front : AddsFront play ended log frames frames'
  pub freed : FreesLate play.channels log

-- What holds of a play that came to its end. The history is one legal one-thread history that holds the application's
-- calls and the merges, each once, in each caller's order. The stream is what one thread draws, frame by frame, without
-- culling. A node is freed only when no undelivered frame names it.
pub record IsPlayed (ahead : ℕ) (play : Script) (log : Log) (frames frames' : Option (List ℕ)) : Type 0 where
  pub can_end : ¬ IsStuck play.app play.dbase
  pub legal : IsLegal play.channels log
  pub fits : FitsWholly play.channels ahead play.app play.dbase log
  pub stream : frames' ≡ append_known frames (stream_of play log)
  pub retired : AddsFront play end.Done log frames frames'
  pub freed : FreesLate play.channels log
