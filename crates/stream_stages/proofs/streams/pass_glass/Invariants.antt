use Rattle.std.proofs.Common.{◌-◌, length}
use Rattle.stream_stages.proofs.PassLaws.{IsGlazing}
use Rattle.stream_stages.proofs.streams.pass_glass.Given as goal

abbrev pub invariant-loop-route : goal.invariant-loop-route
invariant-loop-route g l = IsGlazing (g.V.NodeView.look l.scene) l.fn.most l.fn.from l.fn.route l.route l.fn.list l.list l.sent

abbrev pub decreases-loop-route : goal.decreases-loop-route
decreases-loop-route g l = length l.route.glass.items - l.sent
