use Rattle.std.proofs.Common.{refl, ◌∙◌, ap, ℕ, List}
use Rattle.fx_math.specs.declared.vectors.Vec3.{Vec3}
use Rattle.pf_model.specs.declared.nodes.Kind.TheVariants as kind
use Rattle.fx_math.specs.Constants.{origin_vector}
use Rattle.play_format.proofs.SameLemmas.{same_point}
use Rattle.play_format.proofs.edits.new_lod.Goals as goal

pub returns : goal.returns
returns c = ap (λ (t : Vec3). kind.Lod t c.new.result) (same_point _ origin_vector refl refl refl) ∙ ap (λ (rs : List ℕ). kind.Lod origin_vector rs) c.new.ensures
