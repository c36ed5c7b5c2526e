use Rattle.tri_cover.proofs.AnyOrder.{nearest_is_drawn, only_drawn, least_drawn}
use Rattle.tri_cover.proofs.Ranked.{first_hit_drawn, none_drawn}
use Rattle.tri_cover.proofs.laws.opaque_fragment_drawn.Goals as goal

pub returns : goal.returns
returns c = record { first = nearest_is_drawn; only = only_drawn; least = least_drawn; by_triangle = first_hit_drawn; none = none_drawn }
