-- The cycles stay.
use Rattle.std.proofs.Common.{◌+◌}
use Rattle.cycle_buffer.specs.Cycles.{written_at}
use Rattle.pf_scene.proofs.Opened.{stocked_at}
use Rattle.pf_scene.proofs.world.World.next_frame.Goals as goal

pub invariant_of-self : goal.invariant_of-self
invariant_of-self c =
    let i = c.self.inside in
    stocked_at (written_at i.cycles) i.graph c.next_frame.new.self (i.graph.time + 1) c.next_frame.ensures c.self.invariant
