-- What was read of a source, and why it may give no play.
use Rattle.std.specs.Prelude.{◌≡◌, ◌<◌, ◌⊎◌, ℕ, List, length, Option, Some, None, IfSome}
use Rattle.std.specs.Io.KnownBytes.{prepend_known, IsAtEnd}
use Rattle.pf_io.specs.Causes.{counted}
use Rattle.pf_io.specs.Streams.{TakesFront}
use Rattle.play_format.specs.Reads.{HasReading, first_refusal}
use Rattle.program_ends.specs.declared.stop.Stop.{Stop}
use Rattle.program_ends.specs.declared.stop.Stop.TheVariants as stop
use Rattle.program_ends.specs.Told.{Bytes}
use Rattle.perfly_top.specs.Calls.{given_text, IsReadOut}

-- The source gave these bytes, all that it had or as many as are read at most.
pub record Gave (left left' : Bytes) (bytes : List ℕ) : Type 0 where
  pub taken : left ≡ prepend_known bytes left'
  pub whole : (length bytes ≡ 16777217) ⊎ ((length bytes < 16777217) × IsAtEnd left')

-- why there is no play, and what was read by then
abbrev pub HasNoPlay : Option ℕ → (left left' : Bytes) → Stop → Type 0
HasNoPlay make left left' (stop.Refused r) =
    (make ≡ None) × IfSome (given_text make left) (λ text. (first_refusal text ≡ Some r) × ¬ HasReading text) × IsReadOut left left'
HasNoPlay make left left' stop.ReadFault = (make ≡ None) × TakesFront left left'
HasNoPlay make left left' stop.NoMemory = TakesFront left left'
HasNoPlay make left left' _ = ⊥

-- Which of the reads of a source found its end, where a play was found: with a number to make none, as the source is not read,
-- and else one. After it nothing is read.
abbrev pub ends_for : Option ℕ → ℕ → ℕ
ends_for (Some n) ends = ends
ends_for None ends = counted ends

-- one read found the end, or none did and so many bytes were taken as are read at most
abbrev pub EndsOrFills : (left left' : Bytes) (ends ends' : ℕ) → Type 0
EndsOrFills left left' ends ends' =
    (ends' ≡ counted ends) ⊎ ((ends' ≡ ends) × (taken : List ℕ) × (length taken ≡ 16777217) × (left ≡ prepend_known taken left'))

-- at most one read found the end
abbrev pub EndsOnce : (ends ends' : ℕ) → Type 0
EndsOnce ends ends' = (ends' ≡ ends) ⊎ (ends' ≡ counted ends)

-- Which of the reads of a source found its end, by why there is no play.
abbrev pub EndsFor : (left left' : Bytes) (ends ends' : ℕ) → Stop → Type 0
EndsFor left left' ends ends' stop.Words = ends' ≡ ends
EndsFor left left' ends ends' (stop.Refused r) = EndsOrFills left left' ends ends'
EndsFor left left' ends ends' (stop.Stuck app dbase) = ends' ≡ counted ends
EndsFor left left' ends ends' stop.ReadFault = ends' ≡ ends
EndsFor left left' ends ends' stop.FrameFault = ⊥
EndsFor left left' ends ends' stop.NoMemory = EndsOnce ends ends'
