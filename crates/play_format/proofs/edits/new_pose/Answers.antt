use Rattle.std.proofs.Common.{refl, ap, pos}
use Rattle.fx_math.specs.declared.vectors.Vec3.{Vec3}
use Rattle.pf_model.specs.declared.poses.Pose.TheVariants as pose
use Rattle.play_format.proofs.SameLemmas.{same_point}
use Rattle.fx_math.specs.Constants.{origin_vector}
use Rattle.play_format.proofs.edits.new_pose.Goals as goal

pub returns : goal.returns
returns c = ap (λ (t : Vec3). pose.Euler (record { scale = pos 65536; h = pos 0; p = pos 0; r = pos 0; t = t })) (same_point _ origin_vector refl refl refl)
