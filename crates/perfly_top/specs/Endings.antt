-- How a call of the program ends.
use Rattle.std.specs.Prelude.{◌≡◌, ◌⊎◌, ℕ, List, Option, None, Some}
use Rattle.std.specs.Io.KnownBytes.{append_known}
use Rattle.pf_io.specs.Causes.{counted}
use Rattle.pf_io.specs.Streams.{TakesFront}
use Rattle.play_format.specs.declared.refusal.Refusal.{Refusal}
use Rattle.play_format.specs.Plays.{Script}
use Rattle.play_format.specs.Reads.{Reads, HasReading}
use Rattle.pipe_plays.specs.declared.played.PlayEnd.{PlayEnd}
use Rattle.play_check.specs.Stuck.{IsStuck}
use Rattle.pf_history.specs.Logs.{Log}
use Rattle.program_words.specs.declared.words.Words.{Words}
use Rattle.program_ends.specs.declared.stop.Stop.{Stop}
use Rattle.program_ends.specs.declared.stop.Stop.TheVariants as stop
use Rattle.program_ends.specs.Messages.{message_of}
use Rattle.program_ends.specs.Statuses.{status_of, refusal_of, stuck_of}
use Rattle.program_ends.specs.Told.{Bytes, IsTold, AddsSome}
use Rattle.program_ends.specs.Played.{IsPart, IsPlayed}
use Rattle.perfly_top.specs.Calls.{given_text, IsGiven, IsRefused, IsBarred}
use Rattle.perfly_top.specs.Readings.{EndsOnce, EndsOrFills}
use Rattle.perfly_top.specs.Program.{told, IsSummed}

-- why a call stops before it plays, and what it has read of its source by then
abbrev pub IsWhy : Option Words → (left left' : Bytes) → Stop → Type 0
IsWhy meant left left' stop.Words = (meant ≡ None) × (left' ≡ left)
IsWhy meant left left' (stop.Refused r) = IsRefused meant left left' r
IsWhy meant left left' (stop.Stuck app dbase) = IsBarred meant left left' app dbase
IsWhy meant left left' stop.ReadFault =
    (words : Words) × (meant ≡ Some words) × (words.make ≡ None) × TakesFront left left'
IsWhy meant left left' stop.FrameFault = ⊥
IsWhy meant left left' stop.NoMemory = TakesFront left left'

-- The call stopped for a reason that its status tells, and said so.
pub record IsStopped (status : ℕ) (refusal : Option Refusal) (stuck : Option (ℕ × ℕ)) (report report' : Bytes) (old new : ℕ) : Type 0 where
  pub why : Stop
  pub at_status : status ≡ status_of why
  pub with_refusal : refusal ≡ refusal_of why
  pub with_stuck : stuck ≡ stuck_of why
  pub message : IsTold report report' old new (message_of why)

-- The play that was given was begun, and ended so.
pub record IsBegun (meant : Option Words) (left left' : Bytes) (ended : PlayEnd) (log : Log) (frames frames' : Bytes) : Type 0 where
  pub words : Words
  pub play : Script
  pub given : IsGiven meant left left' words play
  pub can_end : ¬ IsStuck play.app play.dbase
  pub part : IsPart words.ahead play ended log frames frames'

-- The play that was given was played to its end, and told: the headline.
pub record IsDone (meant : Option Words) (left left' : Bytes) (log : Log) (frames frames' report report' : Bytes) : Type 0 where
  pub words : Words
  pub play : Script
  pub given : IsGiven meant left left' words play
  pub played : IsPlayed words.ahead play log frames frames'
  pub sum : ℕ
  pub summed : IsSummed words play log frames sum
  pub told : report' ≡ append_known report (told words play log sum)

-- The play that was given was played to its end, and some of what is to be told of it was told.
pub record IsDoneUntold (meant : Option Words) (left left' : Bytes) (log : Log) (frames frames' report report' : Bytes) : Type 0 where
  pub words : Words
  pub play : Script
  pub given : IsGiven meant left left' words play
  pub played : IsPlayed words.ahead play log frames frames'
  pub sum : ℕ
  pub summed : IsSummed words play log frames sum
  pub told : AddsSome report report' (told words play log sum)

-- The statuses that a call may end with, by what it is given: but for faults and want of memory there is one.
pub record IsDue (meant : Option Words) (left : Bytes) (status : ℕ) : Type 0 where
  pub wrong_words : meant ≡ None → (status ≡ 1) ⊎ (status ≡ 7)
  pub no_play : (words : Words) (text : List ℕ) → meant ≡ Some words → given_text words.make left ≡ Some text →
      ¬ HasReading text → (status ≡ 2) ⊎ (status ≡ 4) ⊎ (status ≡ 7)
  pub stuck : (words : Words) (text : List ℕ) (play : Script) → meant ≡ Some words →
      given_text words.make left ≡ Some text → Reads text play → IsStuck play.app play.dbase →
      (status ≡ 3) ⊎ (status ≡ 4) ⊎ (status ≡ 7)
  pub played : (words : Words) (text : List ℕ) (play : Script) → meant ≡ Some words →
      given_text words.make left ≡ Some text → Reads text play → ¬ IsStuck play.app play.dbase →
      (status ≡ 0) ⊎ (status ≡ 4) ⊎ (status ≡ 5) ⊎ (status ≡ 6) ⊎ (status ≡ 7)

-- Which of the reads of a call find the end of its source: one at most, so that none comes behind it. It is one where the source
-- was read to its end. None does where the words are wrong or give a number to make, since nothing is read then, and none where
-- a read reports a fault.
pub record FindsEnd (meant : Option Words) (left left' : Bytes) (ends ends' status : ℕ) : Type 0 where
  pub once : EndsOnce ends ends'
  pub wrong_words : status ≡ 1 → ends' ≡ ends
  pub refused : status ≡ 2 → EndsOrFills left left' ends ends'
  pub fault : status ≡ 4 → ends' ≡ ends
  pub made : (words : Words) (n : ℕ) → meant ≡ Some words → words.make ≡ Some n → ends' ≡ ends
  pub read : (words : Words) → meant ≡ Some words → words.make ≡ None →
      (status ≡ 0) ⊎ (status ≡ 3) ⊎ (status ≡ 5) ⊎ (status ≡ 6) → ends' ≡ counted ends

-- a call with a number to make plays what it made, so that it ends at its end, by a fault of a sink, or for want of memory
abbrev pub IsDueMade : Option Words → ℕ → Type 0
IsDueMade meant status =
    (words : Words) (n : ℕ) → meant ≡ Some words → words.make ≡ Some n → (status ≡ 0) ⊎ (status ≡ 5) ⊎ (status ≡ 6) ⊎ (status ≡ 7)
