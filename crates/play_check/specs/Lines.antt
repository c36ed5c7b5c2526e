-- The lines of a section, by what each gives the other caller and what it waits for.
use Rattle.std.specs.Prelude.{◌≡◌, ⊤, ℕ, ◌+◌, nat_le, List, [], ◌∷◌, map, if◌then◌else◌, Option, Some, None}
use Rattle.pf_model.specs.declared.lines.AppStep.{AppStep}
use Rattle.pf_model.specs.declared.lines.AppStep.TheVariants as app_step
use Rattle.pf_model.specs.declared.lines.AppLine.{AppLine}
use Rattle.pf_model.specs.declared.lines.BaseStep.{BaseStep}
use Rattle.pf_model.specs.declared.lines.BaseStep.TheVariants as base_step
use Rattle.pf_model.specs.declared.lines.BaseLine.{BaseLine}

-- A line gives the other caller so many Frames, or Merges, or waits for so many of the other's.
pub data Given : Type 0 where
  Gives : ℕ → Given
  Waits : ℕ → Given

abbrev pub app_given : AppStep → Given
app_given app_step.Frame = Gives 1
app_given (app_step.Wait n) = Waits n
app_given _ = Gives 0

abbrev pub base_given : BaseStep → Given
base_given base_step.Merge = Gives 1
base_given (base_step.Await k) = Waits k
base_given _ = Gives 0

-- A line's number, and what it gives or waits for.
pub record Mark : Type 0 where
  pub line : ℕ
  pub given : Given

abbrev pub app_marks : List AppLine → List Mark
app_marks lines = map (λ l. record { line = l.line; given = app_given l.step }) lines

abbrev pub base_marks : List BaseLine → List Mark
base_marks lines = map (λ l. record { line = l.line; given = base_given l.step }) lines

-- all that lines give
abbrev pub given_by : Given → ℕ
given_by (Gives n) = n
given_by (Waits n) = 0

abbrev pub total : List Mark → ℕ
total [] = 0
total (m ∷ ms) = given_by m.given + total ms

-- what a line gives where the other caller has come to so many; none where it waits for more
abbrev pub passed : ℕ → Given → Option ℕ
passed count (Gives n) = Some n
passed count (Waits n) = if nat_le n count then Some 0 else None

-- the next line gives so many, and leaves these lines
abbrev pub GoesOn : ℕ → List Mark → ℕ → List Mark → Type 0
GoesOn count [] n rest = ⊥
GoesOn count (m ∷ ms) n rest = (passed count m.given ≡ Some n) × (ms ≡ rest)

-- the section is over, or its next line waits for more than the other caller has come to
abbrev pub Stands : ℕ → List Mark → Type 0
Stands count [] = ⊤
Stands count (m ∷ ms) = passed count m.given ≡ None

-- the number of the next line, and 0 at the end of a section
abbrev pub line_at : List Mark → ℕ
line_at [] = 0
line_at (m ∷ ms) = m.line
