use Rattle.std.proofs.Common.{◌∙◌, ◌≡◌, refl, arith}
use Rattle.fx_math.specs.Views.{bounds_of}
use Rattle.cull_walk.specs.Working.{Scene, At, counted}
use Rattle.stream_stages.specs.Routes.{Walking}
use Rattle.stream_stages.specs.Going.{entered_in}
use Rattle.stream_stages.specs.Underway.{walking_of, sight_of}
use Rattle.stream_stages.proofs.RouteLaws.{entered_at}
use Rattle.stream_stages.proofs.routes.visit.Goals as goal

pub returns-in-None-clause-walk : goal.returns-in-None-clause-walk
returns-in-None-clause-walk g c =
    let s : Scene = sight_of (g.V.NodeView.look c.args.scene.now) (g.V.SceneView.boxes c.args.scene.now) c.args.sight.now in
    let w : Walking = walking_of c.args.sight.now c.args.route.now in
    let a : At = record { id = c.args.spot.id; joint = c.args.spot.joint; shift = c.args.spot.shift } in
    let number : c.saturating_add-route.result ≡ counted w.visited = omega (arith, c.saturating_add-route.ensures) in
    c.enter.ensures.walk s refl
    ∙ (λ i. entered_in s (record w { visited = number i }) a c.in-Some-node.node.now)
    ∙ entered_at s w a (bounds_of c.in-Some.around) c.in-Some-node.node.now c.in-Some.ensures c.in-Some-node.ensures c.in-None.ensures
