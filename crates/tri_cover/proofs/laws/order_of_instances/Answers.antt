use Rattle.tri_cover.proofs.AnyOrder.{keys_differ, drawn_alike}
use Rattle.tri_cover.proofs.Rising.{rise_differ}
use Rattle.tri_cover.proofs.laws.order_of_instances.Goals as goal

pub returns : goal.returns
returns c = record { keys = keys_differ; order = drawn_alike; differ = rise_differ }
