-- The numbers of a log's entries.
use Rattle.std.specs.Prelude.{◌≡◌, ℕ, ◌<◌, ◌≤◌, true, false, [], ◌++◌}
use Rattle.std.specs.List.{AllByRecursion}
use Rattle.seat_lock.specs.Log.{of}
use Rattle.pf_history.specs.declared.commands.Caller.{Caller}
use Rattle.pf_history.specs.declared.commands.Caller.TheVariants.{App}
use Rattle.pf_history.specs.Logs.{Log, IsLegal, is_by}
use Rattle.pf_history.specs.Asks.{is_at}
use Rattle.pf_history.specs.Fits.{turns_at}
use Rattle.stage_parts.specs.Loads.{Each}
use Rattle.stage_parts.specs.Frames.{frames_of, AreOwnFrames}

-- A log without an entry of a number: none of its entries is made at that desk, so it gives no turns and no Frames of it.
pub record HasNone (channels seat : ℕ) (caller : Caller) (log : Log) : Type 0 where
  pub others : AllByRecursion (λ e. is_at seat caller e ≡ false) log
  pub turns : turns_at channels seat caller log ≡ []
  pub frames : frames_of channels seat log ≡ []

-- What the numbers of a log's entries tell.
pub record NumbersTell (channels seat : ℕ) (log : Log) : Type 0 where
  -- no entries of a number give no turns of its caller
  pub none : (caller : Caller) → of seat log ≡ [] → HasNone channels seat caller log
  -- where all Frames are the seat's, they are in each front
  pub front : (xs ys : Log) → log ≡ xs ++ ys → AreOwnFrames seat log → AreOwnFrames seat xs
  -- in a legal log whose entries of the application have the seat's number all Frames are the seat's
  pub own_frames : IsLegal channels log → Each (λ e. is_by App e ≡ true → e.0 ≡ seat) log → AreOwnFrames seat log
  -- where no number from this one on has entries, each entry is of a number below it
  pub below : ((k : ℕ) → seat ≤ k → of k log ≡ []) → Each (λ e. e.0 < seat) log

abbrev pub NumbersLaw : Type 0
NumbersLaw = (channels seat : ℕ) (log : Log) → NumbersTell channels seat log
