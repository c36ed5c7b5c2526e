-- The stop mark at a desk.
use Rattle.std.proofs.Common.{◌≡◌, ◌∙◌, Bool, true, false, Option, Some, None, Ok, MatchOption, option_map, refl, sym, ap}
use Rattle.pf_scene.specs.Scenes.{SceneState}
use Rattle.stage_parts.specs.Answers.{is_over, did_of}
use Rattle.isect_stage.specs.Marks.{marked}

-- the act that sets it, where the desk tells the scene or not
pub told_marked : (told told' : Option SceneState) (found left : SceneState) → left ≡ marked found →
    MatchOption told (told' ≡ None) (λ value. (value ≡ found) × (told' ≡ Some left)) → told' ≡ option_map marked told
told_marked None told' found left is tells = tells
told_marked (Some scene) told' found left is (same, now) = now ∙ ap Some (is ∙ ap marked (sym same))

-- a stage that tried to go on was not over
pub not_over : (moved : Bool) → is_over (Ok (did_of moved)) ≡ false
not_over true = refl
not_over false = refl
