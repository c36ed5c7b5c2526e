-- What a look at the scene tells the application.
use Rattle.std.proofs.Common.{◌≡◌, ℕ, Bool, true, false, ◌||◌, Option, None, Some, refl, sym, ap, ◌∙◌}
use Rattle.std.specs.Prelude.{is_some}
use Rattle.pf_history.specs.Logs.{Log}
use Rattle.pf_scene.specs.declared.outcomes.Sight.{Sight}
use Rattle.pf_scene.specs.Scenes.{SceneState}
use Rattle.frame_stages.specs.Looks.{Saw, SawMark}
use Rattle.frame_stages.specs.AppWorks.{merges_in}
use Rattle.frame_stages.proofs.AppLogs.{merges_are}

-- the mark that was seen
pub mark_seen : (k : ℕ) (seen seen' : Log) (told : Option SceneState) (sight : Sight) (over : Bool) → Saw k seen told sight seen' →
    over ≡ sight.stopped → SawMark k seen told over seen'
mark_seen k seen seen' told sight over (found, goes_on, shows, is, tells) same = (found, goes_on, same ∙ shows.stopped, is, tells)

-- the merges that were seen are those of the log
pub merges_seen : (k : ℕ) (seen seen' : Log) (told : Option SceneState) (sight : Sight) → Saw k seen told sight seen' → sight.merges ≡ merges_in seen'
merges_seen k seen seen' told sight (found, goes_on, shows, is, tells) =
    shows.merges ∙ merges_are found.shared.channels found.shared.log ∙ ap merges_in (sym is)

-- it is not done
pub not_done : (ended : Bool) (fault : Option ℕ) → (ended || is_some fault) ≡ false → (ended ≡ false) × (fault ≡ None)
not_done true fault is = absurd (cc)
not_done false None is = (refl, refl)
not_done false (Some n) is = absurd (cc)
