use Rattle.std.proofs.Common.{◌≡◌, ◌<◌, length, drop}
use Rattle.stream_stages.specs.Sending.{laid}
use Rattle.stream_stages.proofs.joints.lay.Given as goal

abbrev pub invariant-loop-id : goal.invariant-loop-id
invariant-loop-id g l =
    (l.joint < length l.out.joints.lists)
    × (laid (g.V.NodeView.look l.scene) l.fn.ids 0 l.fn.out ≡ laid (g.V.NodeView.look l.scene) (drop l.id-index l.ids) l.joint l.out)
