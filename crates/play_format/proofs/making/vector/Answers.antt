use Rattle.std.proofs.Common.{refl, ◌∙◌, ap}
use Rattle.std.specs.Int.{w32}
use Rattle.std.proofs.lemmas.Int.{to_z-of_z}
use Rattle.fx_math.specs.Plain.{Point}
use Rattle.play_format.proofs.SameLemmas.{same_point, vector_is, vector_none}
use Rattle.fx_math.specs.Constants.{origin_vector}
use Rattle.play_format.proofs.making.vector.Goals as goal

pub returns-in_default : goal.returns-in_default
returns-in_default c =
    same_point _ origin_vector refl refl refl
    ∙ vector_none c.args.x c.args.y c.args.z (λ h.
    let k = c.in_default.ensures.in_range.1 (rw (to_z-of_z w32 c.args.x c.ranges.x, to_z-of_z w32 c.args.y c.ranges.y, to_z-of_z w32 c.args.z c.ranges.z) h) in absurd cc)

pub returns : goal.returns
returns c = vector_is c.in-Some.v c.args.x c.args.y c.args.z
    (ap (λ (p : Point). p.x) c.in-Some.ensures.value ∙ to_z-of_z w32 c.args.x c.ranges.x)
    (ap (λ (p : Point). p.y) c.in-Some.ensures.value ∙ to_z-of_z w32 c.args.y c.ranges.y)
    (ap (λ (p : Point). p.z) c.in-Some.ensures.value ∙ to_z-of_z w32 c.args.z c.ranges.z)
