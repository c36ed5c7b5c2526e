use Rattle.tri_cover.proofs.Rising.{culled, culled_alike}
use Rattle.tri_cover.proofs.laws.culled_in_any_order.Goals as goal

pub returns : goal.returns
returns c = record { numbered = culled; alike = culled_alike }
