use Rattle.std.proofs.Common.{◌+◌, ◌*◌}
use Rattle.depth_raster.proofs.pieces.+preparing.Given as goal

abbrev pub decreases-prepare : goal.decreases-prepare
decreases-prepare g l = 4 * l.levels

abbrev pub decreases-prepare_both : goal.decreases-prepare_both
decreases-prepare_both g l = 4 * l.levels + 2

abbrev pub decreases-prepare_both-one : goal.decreases-prepare_both-one
decreases-prepare_both-one g l = 4 * l.levels + 1

abbrev pub decreases-prepare_both-all : goal.decreases-prepare_both-all
decreases-prepare_both-all g l = 4 * l.levels + 1
