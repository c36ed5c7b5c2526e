-- What an edit makes of a graph.
use Rattle.std.proofs.Common.{refl}
use Rattle.pf_model.specs.declared.edits.Edit.{Edit}
use Rattle.pf_model.specs.declared.edits.Edit.TheVariants as edit
use Rattle.pf_model.specs.Graphs.{SceneGraph}
use Rattle.pf_model.specs.Edits.{effect}
use Rattle.pf_model.specs.Laws.{IsEdited, Makes, Deletes, Changes}

pub effect_edited : (g : SceneGraph) (e : Edit) → IsEdited g e (effect g e)
effect_edited g (edit.Make id kind) = Makes kind refl
effect_edited g (edit.Add parent child) = Changes (λ n. (refl, refl))
effect_edited g (edit.Insert parent place child) = Changes (λ n. (refl, refl))
effect_edited g (edit.Replace parent child by) = Changes (λ n. (refl, refl))
effect_edited g (edit.Remove parent child) = Changes (λ n. (refl, refl))
effect_edited g (edit.Delete id) = Deletes refl
effect_edited g (edit.Pick id pick) = Changes (λ n. (refl, refl))
effect_edited g (edit.Mat id mat) = Changes (λ n. (refl, refl))
effect_edited g (edit.Trans id t) = Changes (λ n. (refl, refl))
effect_edited g (edit.Rot id h p r) = Changes (λ n. (refl, refl))
effect_edited g (edit.Scale id s) = Changes (λ n. (refl, refl))
effect_edited g (edit.Range id place value) = Changes (λ n. (refl, refl))
effect_edited g (edit.Centre id at) = Changes (λ n. (refl, refl))
effect_edited g (edit.Times id place frames) = Changes (λ n. (refl, refl))
effect_edited g (edit.Run id) = Changes (λ n. (refl, refl))
effect_edited g (edit.Stop id) = Changes (λ n. (refl, refl))
effect_edited g (edit.Verts id geom) = Changes (λ n. (refl, refl))
