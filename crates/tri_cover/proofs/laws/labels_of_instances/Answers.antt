use Rattle.tri_cover.proofs.Alike.{one_colour, one_picture}
use Rattle.tri_cover.proofs.Rising.{risen_picture}
use Rattle.tri_cover.proofs.laws.labels_of_instances.Goals as goal

pub returns : goal.returns
returns c = record { seen = one_colour; agree = one_picture; rise = risen_picture }
