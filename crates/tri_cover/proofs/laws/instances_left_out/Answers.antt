use Rattle.tri_cover.proofs.Unseen.{same_pixel, missed_by_all}
use Rattle.tri_cover.proofs.laws.instances_left_out.Goals as goal

pub returns : goal.returns
returns c = record { pixel = same_pixel; missed = missed_by_all }
