-- What a call of the program is given, and what it may leave of its source and its frame sink.
use Rattle.std.specs.Prelude.{◌≡◌, ℕ, ◌⊎◌, List, [], length, Option, Some, None, IfSome}
use Rattle.std.specs.Io.KnownBytes.{prepend_known, IsAtEnd}
use Rattle.pf_io.specs.Streams.{TakesFront}
use Rattle.play_format.specs.declared.refusal.Refusal.{Refusal}
use Rattle.play_format.specs.Plays.{Script}
use Rattle.play_format.specs.Reads.{Reads, HasReading, first_refusal}
use Rattle.play_check.specs.Stuck.{IsStuck, AreStuckLines}
use Rattle.play_gen.specs.Lines.{generated_text}
use Rattle.pf_history.specs.Logs.{Log}
use Rattle.program_words.specs.declared.words.Words.{Words}
use Rattle.program_ends.specs.Told.{Bytes}

-- The text that is to be played: with a number to make, the generated one, and else what the source has left, where it
-- tells that.
abbrev pub given_text : Option ℕ → Bytes → Bytes
given_text (Some n) left = Some (generated_text n)
given_text None left = left

-- what is read of the source where there is a play: with a number to make nothing, and else all
abbrev pub IsReadFor : Option ℕ → Bytes → Bytes → Type 0
IsReadFor (Some n) left left' = left' ≡ left
IsReadFor None left left' = TakesFront left left' × IsAtEnd left'

-- the source is read to its end, or 16,777,217 bytes of it, which is one more than a play may have
abbrev pub IsReadOut : Bytes → Bytes → Type 0
IsReadOut left left' = (taken : List ℕ) × (left ≡ prepend_known taken left') × ((length taken ≡ 16777217) ⊎ IsAtEnd left')

-- The words mean this, and the text that is to be played spells this play.
pub record IsGiven (meant : Option Words) (left left' : Bytes) (words : Words) (play : Script) : Type 0 where
  pub meaning : meant ≡ Some words
  pub spelled : IfSome (given_text words.make left) (λ text. Reads text play)
  pub read : IsReadFor words.make left left'

-- The words are right and give no number to make, and the text has no reading: this is its first wrong line, with the
-- first cause against it.
pub record IsRefused (meant : Option Words) (left left' : Bytes) (refusal : Refusal) : Type 0 where
  pub words : Words
  pub meaning : meant ≡ Some words
  pub unmade : words.make ≡ None
  pub no_play : IfSome (given_text words.make left) (λ text. (first_refusal text ≡ Some refusal) × ¬ HasReading text)
  pub read : IsReadOut left left'

-- The play is stuck, and these are its lines. The words give no number to make.
pub record IsBarred (meant : Option Words) (left left' : Bytes) (app dbase : ℕ) : Type 0 where
  pub words : Words
  pub play : Script
  pub given : IsGiven meant left left' words play
  pub unmade : words.make ≡ None
  pub stuck : IsStuck play.app play.dbase
  pub lines : AreStuckLines play.app play.dbase app dbase

-- no entry was made, and nothing was drawn
abbrev pub IsUntouched : Log → (frames frames' : Bytes) → Type 0
IsUntouched log frames frames' = (log ≡ []) × (frames' ≡ frames)
