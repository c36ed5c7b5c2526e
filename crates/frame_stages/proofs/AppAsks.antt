-- What the application's section still asks.
use Rattle.std.proofs.Common.{◌≡◌, ◌+◌, false, cond, List, [], ◌∷◌, map, drop, Some, None, refl, sym, ap, ◌∙◌, arith}
use Rattle.std.proofs.lemmas.List.{drop-map}
use Rattle.std.proofs.lemmas.Option.{same_Some}
use Rattle.pf_model.specs.declared.lines.AppStep.{AppStep}
use Rattle.pf_model.specs.declared.lines.AppLine.{AppLine}
use Rattle.pf_history.specs.Asks.{asked_from}
use Rattle.stage_parts.specs.States.{Setup, still_asked}
use Rattle.stage_parts.specs.Grows.{synced_by}
use Rattle.frame_stages.specs.Scripts.{next_step}
use Rattle.frame_stages.specs.AppWorks.{AppWork, IsGiven}
use Rattle.frame_stages.proofs.ScriptLines.{drop_one, line_there}

abbrev pub steps : List AppLine → List AppStep
steps lines = map (λ (l : AppLine). l.step) lines

-- what is still asked is what the lines ask that are left
pub asked_at : (g : Setup) (w : AppWork) → IsGiven g w → w.state.closed ≡ false →
    still_asked g w.state ≡ asked_from w.state.need w.state.synced (steps w.rest)
asked_at g w given going =
    ap (λ t. cond t [] (asked_from w.state.need w.state.synced (drop w.state.at (steps g.lines)))) going
    ∙ ap (asked_from w.state.need w.state.synced)
    (drop-map (λ (l : AppLine). l.step) w.state.at g.lines ∙ ap steps (sym given.rest))

-- the first of the steps that are left
pub next_is : (rest : List AppLine) (step : AppStep) → next_step rest ≡ Some step → steps rest ≡ step ∷ steps (drop 1 rest)
next_is [] step at = absurd (cc)
next_is (l ∷ lines) step at = ap (λ s. s ∷ steps lines) (same_Some l.step step at)

pub none_is : (rest : List AppLine) → next_step rest ≡ None → rest ≡ []
none_is [] at = refl
none_is (l ∷ lines) at = absurd (cc)

pub asked_next : (g : Setup) (w : AppWork) (step : AppStep) → IsGiven g w → w.state.closed ≡ false → next_step w.rest ≡ Some step →
    still_asked g w.state ≡ asked_from w.state.need w.state.synced (step ∷ steps (drop 1 w.rest))
asked_next g w step given going next =
    asked_at g w given going ∙ ap (asked_from w.state.need w.state.synced) (next_is w.rest step next)

-- what was given stays as a line is passed, where a Sync stands behind it as the line says
pub given_passed : (g : Setup) (w w' : AppWork) (step : AppStep) → IsGiven g w → next_step w.rest ≡ Some step →
    w' ≡ record w { rest = drop 1 w.rest; state = w'.state; home = w'.home } → w'.state.at ≡ w.state.at + 1 →
    synced_by w'.state.synced (steps (drop 1 w.rest)) ≡ synced_by w.state.synced (step ∷ steps (drop 1 w.rest)) → IsGiven g w'
given_passed g w w' step given next is at on =
    record {
      within = let here = line_there w.state.at g.lines step (ap next_step (sym given.rest) ∙ next) in omega (arith, here, at);
      rest = ap (λ (v : AppWork). v.rest) is ∙ ap (drop 1) given.rest ∙ drop_one w.state.at g.lines ∙ ap (λ n. drop n g.lines) (sym at);
      merges = ap (λ (v : AppWork). v.merges) is ∙ given.merges;
      lens = ap (λ (v : AppWork). v.lens) is ∙ given.lens;
      back = ap (λ (v : AppWork). v.back) is ∙ given.back;
      ahead = ap (λ (v : AppWork). v.ahead) is ∙ given.ahead;
      channels = ap (λ (v : AppWork). v.channels) is ∙ given.channels;
      stands =
          ap (λ (v : AppWork). synced_by w'.state.synced (steps v.rest)) is ∙ on
          ∙ ap (synced_by w.state.synced) (sym (next_is w.rest step next)) ∙ given.stands;
    }
