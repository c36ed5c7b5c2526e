use Rattle.stage_parts.specs.Loads.{AreImages}
use Rattle.stage_parts.proofs.loads.new_images.Given as goal

abbrev pub invariant-loop-channel : goal.invariant-loop-channel
invariant-loop-channel l = AreImages l.lens l.channel l.images.items
