use Rattle.pf_model.specs.Graphs.{Look}
use Rattle.pf_model.specs.Walks.{steps_of_view}
use Rattle.fx_math.specs.Plain.{Bounds}
use Rattle.std.proofs.Common.{◌≡◌, ℕ, Option, subst, arith}
use Rattle.cull_walk.specs.Working.{Scene, emptied}
use Rattle.cull_walk.proofs.Rooms.{emptied_is}
use Rattle.stream_stages.specs.declared.routes.Route.{Route}
use Rattle.stream_stages.specs.declared.routes.Sight.{Sight}
use Rattle.stream_stages.specs.Underway.{sight_of, walking_of}
use Rattle.stream_stages.specs.Routes.{Walking, scene_of}
use Rattle.stream_stages.specs.Fills.{Fills, filling_anew}
use Rattle.stream_stages.specs.Cuts.{Cut}
use Rattle.stream_stages.specs.Filled.{HasSameRoom, CountsTests}
use Rattle.stream_stages.proofs.FillTurns.{fills_seen}
use Rattle.stream_stages.proofs.PassLaws.{routine_of, room_both, glass_counted}
use Rattle.stream_stages.proofs.FillLaws.{IsEmptied, emptied_room, can_fill, numbers_over, seen_numbers, seen_stats}
use Rattle.stream_stages.proofs.streams.StreamWalk.fill.Goals as goal

pub returns-clause-numbers : goal.returns-clause-numbers
returns-clause-numbers g c =
    let look : Look = g.V.NodeView.look c.args.scene.now in
    let boxes : ℕ → Option Bounds = g.V.SceneView.boxes c.args.scene.now in
    let a : Sight = c.self.inside.sight in
    let r : Route = c.self.inside.route in
    let emptied : IsEmptied (steps_of_view a.view) c.out.inside.list c.clear.new.self = record {
      joints = c.clear.ensures.joints;
      items = c.clear.ensures.items;
      spans = c.clear.ensures.spans;
      places = c.clear.ensures.places;
      tris = c.clear.ensures.tris;
      joint_room = c.clear.ensures.joint_room;
      item_room = c.clear.ensures.item_room;
      tri_room = c.clear.ensures.tri_room;
    } in
    seen_numbers look boxes a r c.pass-last.new.route c.args.self.now c.self.view_is
    (λ under. (c.pass-last.ensures.passes (can_fill (sight_of look boxes a) c.out.inside.limit (walking_of a r) c.out.inside.list c.clear.new.self under c.out.invariant emptied)).numbers)

pub returns-clause-stats : goal.returns-clause-stats
returns-clause-stats g c =
    let look : Look = g.V.NodeView.look c.args.scene.now in
    let boxes : ℕ → Option Bounds = g.V.SceneView.boxes c.args.scene.now in
    let a : Sight = c.self.inside.sight in
    let r : Route = c.self.inside.route in
    let s : Scene = sight_of look boxes a in
    let emptied : IsEmptied (steps_of_view a.view) c.out.inside.list c.clear.new.self = record {
      joints = c.clear.ensures.joints;
      items = c.clear.ensures.items;
      spans = c.clear.ensures.spans;
      places = c.clear.ensures.places;
      tris = c.clear.ensures.tris;
      joint_room = c.clear.ensures.joint_room;
      item_room = c.clear.ensures.item_room;
      tri_room = c.clear.ensures.tri_room;
    } in
    seen_stats look boxes a r c.args.self.now c.numbers-stats.result c.pass-last.result c.self.view_is
    (λ under last.
    numbers_over s (walking_of a r) (walking_of a c.pass-last.new.route) c.numbers-stats.result
    (c.pass-last.ensures.passes (can_fill s c.out.inside.limit (walking_of a r) c.out.inside.list c.clear.new.self under c.out.invariant emptied)).numbers
    (c.pass-last.ensures.over (can_fill s c.out.inside.limit (walking_of a r) c.out.inside.list c.clear.new.self under c.out.invariant emptied) last).1
    c.numbers-stats.ensures.shown c.numbers-stats.ensures.states c.numbers-stats.ensures.visited)

pub returns-clause-room : goal.returns-clause-room
returns-clause-room g c =
    let a : Sight = c.self.inside.sight in
    let emptied : IsEmptied (steps_of_view a.view) c.out.inside.list c.clear.new.self = record {
      joints = c.clear.ensures.joints;
      items = c.clear.ensures.items;
      spans = c.clear.ensures.spans;
      places = c.clear.ensures.places;
      tris = c.clear.ensures.tris;
      joint_room = c.clear.ensures.joint_room;
      item_room = c.clear.ensures.item_room;
      tri_room = c.clear.ensures.tri_room;
    } in
    let both : HasSameRoom c.out.inside.list c.pass-last.new.list =
    room_both c.out.inside.list c.clear.new.self c.pass-last.new.list (emptied_room (steps_of_view a.view) c.out.inside.list c.clear.new.self emptied) c.pass-last.ensures.room in
    subst (λ (p : Cut). HasSameRoom p.list c.pass-last.new.list) c.out.view_is both

pub returns-clause-visits : goal.returns-clause-visits
returns-clause-visits g c =
    subst (λ (w : Walking). CountsTests w (walking_of c.self.inside.sight c.pass-last.new.route) c.args.steps.now c.pass-last.new.steps) c.self.view_is
    c.pass-last.ensures.visits

pub returns-clause-levels : goal.returns-clause-levels
returns-clause-levels g c = (routine_of c.self.inside.sight c.pass-last.new.route c.pass-last.ensures.sound).deep

pub returns-clause-glass : goal.returns-clause-glass
returns-clause-glass g c =
    let few = c.pass-last.ensures.sound.few in
    let many = glass_counted c.pass-last.new.route in
    omega (arith, few, many)

pub returns-clause-walk : goal.returns-clause-walk
returns-clause-walk g c =
    let look : Look = g.V.NodeView.look c.args.scene.now in
    let boxes : ℕ → Option Bounds = g.V.SceneView.boxes c.args.scene.now in
    let a : Sight = c.self.inside.sight in
    let r : Route = c.self.inside.route in
    let anew : c.clear.new.self ≡ emptied a.view c.out.inside.list =
    emptied_is a.view c.out.inside.list c.clear.new.self c.clear.ensures.joints c.clear.ensures.items c.clear.ensures.tris c.clear.ensures.spans c.clear.ensures.span_count
    c.clear.ensures.joint_room c.clear.ensures.item_room c.clear.ensures.tri_room in
    let w : Walking = walking_of a c.pass-last.new.route in
    subst (λ (p : Cut). Fills (scene_of look boxes c.args.self.now) p.limit (filling_anew c.args.self.now p.list c.args.steps.now) c.pass-last.result (record { walk = w; list = c.pass-last.new.list; tests = c.pass-last.new.steps })) c.out.view_is
    (fills_seen look boxes c.out.inside.limit a r c.pass-last.new.route c.args.self.now c.out.inside.list c.clear.new.self c.pass-last.new.list c.args.steps.now c.pass-last.new.steps c.pass-last.result c.self.view_is anew c.pass-last.ensures.fills)

pub returns-clause-so_far : goal.returns-clause-so_far
returns-clause-so_far g c = λ i. record { shown = c.numbers-stats.ensures.shown i; states = c.numbers-stats.ensures.states i; visited = c.numbers-stats.ensures.visited i }
