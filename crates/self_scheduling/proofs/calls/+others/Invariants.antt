use Rattle.std.proofs.Common.{◌-◌, ◌*◌}
use Rattle.self_scheduling.proofs.calls.+others.Given as goal

abbrev pub decreases-crew : goal.decreases-crew
decreases-crew g l = 2 * l.others

abbrev pub decreases-ours : goal.decreases-ours
decreases-ours g l = 2 * l.others - 1

abbrev pub decreases-theirs : goal.decreases-theirs
decreases-theirs g l = 1
