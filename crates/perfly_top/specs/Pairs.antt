-- Two runs of the program over one play.
use Rattle.std.specs.Prelude.{◌≡◌, ℕ, List, Option, Some}
use Rattle.std.specs.Io.KnownBytes.{append_known}
use Rattle.play_format.specs.Plays.{Script}
use Rattle.play_format.specs.Reads.{Reads}
use Rattle.pf_history.specs.Logs.{Log}
use Rattle.play_fences.specs.Fences.{IsFenced}
use Rattle.play_fences.specs.Laws.{ShowsSame}
use Rattle.program_words.specs.declared.words.Words.{Words}
use Rattle.program_ends.specs.Told.{Bytes}
use Rattle.perfly_top.specs.Calls.{given_text}
use Rattle.perfly_top.specs.Endings.{IsDone}

-- A run of the program: what its words mean, its history, and what its source, its frame sink and its report sink have
-- before it and after it.
pub record Run : Type 0 where
  pub meant : Option Words
  pub log : Log
  pub left : Bytes
  pub left' : Bytes
  pub frames : Bytes
  pub frames' : Bytes
  pub report : Bytes
  pub report' : Bytes

-- it played its play to the end, and told of it
abbrev pub EndsDone : Run → Type 0
EndsDone r = IsDone r.meant r.left r.left' r.log r.frames r.frames' r.report r.report'

-- this is the text that it is to play
abbrev pub IsGivenText : Run → List ℕ → Type 0
IsGivenText r text = (words : Words) × (r.meant ≡ Some words) × (given_text words.make r.left ≡ Some text)

-- Two runs of a play show the same: they add one stream to their frame sinks, and their histories show the same.
pub record RunsShowSame (play : Script) (run other : Run) : Type 0 where
  pub stream : List ℕ
  pub adds : run.frames' ≡ append_known run.frames stream
  pub other_adds : other.frames' ≡ append_known other.frames stream
  pub same : ShowsSame play.channels play.lens play.back run.log other.log

-- Two runs over one text that spells a fenced play show the same, where both come to their ends.
abbrev pub FencedRunsLaw : Type 0
FencedRunsLaw =
    (run other : Run) (text : List ℕ) (play : Script) → Reads text play → IsFenced play.app play.dbase →
    IsGivenText run text → IsGivenText other text → EndsDone run → EndsDone other → RunsShowSame play run other
