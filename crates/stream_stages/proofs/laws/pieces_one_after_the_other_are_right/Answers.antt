use Rattle.std.proofs.Common.{refl}
use Rattle.stream_stages.proofs.SendingOrder.{one_after_the_other, all_sent}
use Rattle.stream_stages.proofs.laws.pieces_one_after_the_other_are_right.Goals as goal

pub returns : goal.returns
returns c = record { first = λ all. refl; next = one_after_the_other; right = all_sent }
