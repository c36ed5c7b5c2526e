use Rattle.std.proofs.Common.{◌-◌, take}
use Rattle.pf_edits.specs.Extents.{look_of, extent_at}
use Rattle.pf_edits.proofs.Climbs.{HasClimbed}
use Rattle.pf_edits.proofs.climb.+climb.Given as goal

abbrev pub decreases-climb : goal.decreases-climb
decreases-climb l = 33 - (extent_at l.records.now.slots l.id).height

abbrev pub invariant-loop-parent : goal.invariant-loop-parent
invariant-loop-parent l = HasClimbed (look_of l.records.slots) l.initial.way l.id (take l.parent-index l.parent-items) l.way
