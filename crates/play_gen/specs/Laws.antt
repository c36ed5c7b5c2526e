-- Laws of generated plays.
use Rattle.std.specs.Prelude.{ℕ, ◌≤◌}
use Rattle.play_format.specs.Plays.{Script}
use Rattle.play_format.specs.Reads.{Reads, HasReading}
use Rattle.play_check.specs.Stuck.{IsStuck}
use Rattle.play_gen.specs.Lines.{generated_text}

-- The text of each generated play is one of a play.
abbrev pub ReadingLaw : Type 0
ReadingLaw = (n : ℕ) → n ≤ 256 → HasReading (generated_text n)

-- The play that such a text spells can end: each of its waits and awaits can be passed.
abbrev pub EndLaw : Type 0
EndLaw = (n : ℕ) → n ≤ 256 → (p : Script) → Reads (generated_text n) p → ¬ IsStuck p.app p.dbase
