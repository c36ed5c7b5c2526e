-- Plays, and what their type keeps.
use Rattle.std.specs.Prelude.{◌≡◌, ℕ, ◌+◌, ◌≤◌, Bool, true, false, nat_lt, List, [], ◌∷◌, length, Option, Some, None}
use Rattle.std.specs.List.{list_all}
use Rattle.std.specs.Option.{option_and_then}
use Rattle.fx_math.specs.declared.lenses.Lens.{Lens}
use Rattle.pf_model.specs.Fits.{fits}
use Rattle.pf_model.specs.declared.edits.Edit.{Edit}
use Rattle.pf_model.specs.declared.edits.Edit.TheVariants as edit
use Rattle.pf_model.specs.declared.lines.AppStep.{AppStep}
use Rattle.pf_model.specs.declared.lines.AppStep.TheVariants as app_step
use Rattle.pf_model.specs.declared.lines.AppLine.{AppLine}
use Rattle.pf_model.specs.declared.lines.BaseStep.{BaseStep}
use Rattle.pf_model.specs.declared.lines.BaseStep.TheVariants as base_step
use Rattle.pf_model.specs.declared.lines.BaseLine.{BaseLine}

-- What a play asks for: its lens, its background, its number of channels, and the steps of the application and of the
-- database process with the numbers of their lines.
pub record Script : Type 0 where
  pub lens : Lens
  pub back : List ℕ
  pub channels : ℕ
  pub app : List AppLine
  pub dbase : List BaseLine

-- an edit is in its ranges, and a view's channel is there
abbrev pub app_fits : ℕ → AppStep → Bool
app_fits channels (app_step.Edit e) = fits e
app_fits channels (app_step.View c v) = nat_lt c channels
app_fits channels _ = true

-- what may be asked for is an Add or a Remove
abbrev pub is_link : Edit → Bool
is_link (edit.Add p c) = true
is_link (edit.Remove p c) = true
is_link _ = false

abbrev pub base_fits : BaseStep → Bool
base_fits (base_step.Edit e) = fits e
base_fits (base_step.Ask e) = is_link e
base_fits _ = true

-- Whether a buffer is open after a step, from whether one is open before it; None where the step may not stand there.
-- Outside a buffer only Await and Buffer stand, inside one Edit, Ask, and the Merge that closes it.
abbrev pub opened : Bool → BaseStep → Option Bool
opened false (base_step.Await n) = Some false
opened false base_step.Buffer = Some true
opened true (base_step.Edit e) = Some true
opened true (base_step.Ask e) = Some true
opened true base_step.Merge = Some false
opened _ _ = None

-- the same after a list of steps
abbrev pub open_after : Bool → List BaseLine → Option Bool
open_after open_before [] = Some open_before
open_after open_before (l ∷ ls) = option_and_then (λ b. open_after b ls) (opened open_before l.step)

-- what the type of a play keeps
pub record IsPlay (s : Script) : Type 0 where
  pub steps : length s.app + length s.dbase ≤ 262144
  pub some_channel : 1 ≤ s.channels
  pub most_channels : s.channels ≤ 4
  pub app_steps : list_all (λ l. app_fits s.channels l.step) s.app ≡ true
  pub base_steps : list_all (λ l. base_fits l.step) s.dbase ≡ true
  pub buffers : open_after false s.dbase ≡ Some false
