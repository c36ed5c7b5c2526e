-- No more frames are retired than were begun.
use Rattle.std.proofs.Common.{◌≤◌, sym, subst}
use Rattle.pf_history.specs.Objects.{FrameState}
use Rattle.pf_scene.specs.Scenes.{SceneState, state_in}
use Rattle.pf_scene.proofs.Kept.{knows}
use Rattle.pf_scene.proofs.scene.Scene.retired.Goals as goal

pub returns-clause-begun : goal.returns-clause-begun
returns-clause-begun c =
    let i = c.self.inside in
    subst (λ (v : SceneState). i.retired ≤ (state_in v.shared).frames) c.self.view_is
    (subst (λ (t : FrameState). i.retired ≤ t.frames) (sym c.self.invariant.scene.kept.after) (knows _ _ _ _ _ _ _ c.self.invariant.scene).retired)
