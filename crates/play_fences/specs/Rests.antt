-- Where the application's section was gone through to.
use Rattle.std.specs.Prelude.{◌≡◌, ⊤, ℕ, max, Bool, true, false, List, [], ◌∷◌, map}
use Rattle.std.specs.List.{filter}
use Rattle.pf_model.specs.declared.lines.AppStep.{AppStep}
use Rattle.pf_model.specs.declared.lines.AppStep.TheVariants as app
use Rattle.pf_model.specs.declared.lines.AppLine.{AppLine}
use Rattle.pf_history.specs.Asks.{Ask, asked_from}
use Rattle.play_fences.specs.Fences.{is_own}

-- the own commands that lines ask for, where the waits before them ask for so many merges
abbrev pub own_left : ℕ → List AppLine → List Ask
own_left waited lines = filter (λ a. is_own a.wanted) (asked_from waited false (map (λ l. l.step) lines))

-- whether a step asks for an edit, a view or a Frame
abbrev pub is_own_step : AppStep → Bool
is_own_step (app.Edit e) = true
is_own_step (app.View channel v) = true
is_own_step app.Frame = true
is_own_step app.Sync = false
is_own_step (app.Wait merges) = false

abbrev pub is_frame_step : AppStep → Bool
is_frame_step app.Frame = true
is_frame_step _ = false

-- for how many merges the waits up to a step ask, with it
abbrev pub waited_with : ℕ → AppStep → ℕ
waited_with waited (app.Wait merges) = max waited merges
waited_with waited _ = waited

-- the lines are over, or begin with an edit, a view or a Frame
abbrev pub StandsAtOwn : List AppLine → Type 0
StandsAtOwn [] = ⊤
StandsAtOwn (l ∷ lines) = is_own_step l.step ≡ true
