use Rattle.std.proofs.Common.{◌≡◌, ◌∙◌, ℕ, ◌+◌, ◌++◌, ◌∷◌, [], length, List, Some, None, true, false, ap, sym, refl, subst, arith}
use Rattle.cull_walk.specs.Working.{Scene, At}
use Rattle.stream_stages.specs.declared.levels.Level.{Level}
use Rattle.stream_stages.specs.Routes.{Walking}
use Rattle.stream_stages.specs.Going.{visited_in}
use Rattle.stream_stages.specs.Underway.{HaveLevels, walking_of, sight_of}
use Rattle.stream_stages.proofs.Stepping.{levels_front, last_joint}
use Rattle.stream_stages.proofs.RouteLaws.{step_is}
use Rattle.stream_stages.proofs.routes.step.Goals as goal

pub returns-in_default-next_child-clause-walk : goal.returns-in_default-next_child-clause-walk
returns-in_default-next_child-clause-walk g c =
    let s : Scene = sight_of (g.V.NodeView.look c.args.scene.now) (g.V.SceneView.boxes c.args.scene.now) c.args.sight.now in
    let w : Walking = walking_of c.args.sight.now c.args.route.now in
    step_is s w c.args.steps.now c.pop.new.self.items c.in-Some.level None (sym c.if-route.false) c.in-Some.ensures.items c.in_default-next_child.ensures.child

pub visit-requires-2-clause-joint : goal.visit-requires-2-clause-joint
visit-requires-2-clause-joint g c =
    last_joint (length c.args.route.now.seen.joints.lists) c.pop.new.self.items c.in-Some.level
    (subst (HaveLevels (length c.args.route.now.seen.joints.lists)) c.in-Some.ensures.items c.requires.sound.levels)

pub visit-requires-2-clause-sound : goal.visit-requires-2-clause-sound
visit-requires-2-clause-sound g c =
    let n : ℕ = length c.args.route.now.seen.joints.lists in
    let l : Level = c.in-Some.level in
    let k : Level = record l { from = l.from + 1 } in
    record {
      levels = subst (HaveLevels n) (sym c.push_reserved.ensures.items) (levels_front n c.pop.new.self.items l k refl (subst (HaveLevels n) c.in-Some.ensures.items c.requires.sound.levels));
      zero = c.requires.sound.zero;
      deep = omega (arith, c.requires.sound.deep, c.push_reserved.ensures.len, c.in-Some.ensures.len);
      way = omega (arith, c.requires.sound.way, c.push_reserved.ensures.capacity, c.pop.ensures.capacity);
      items = c.requires.sound.items;
      joints = c.requires.sound.joints;
      few = c.requires.sound.few;
      glass = c.requires.sound.glass;
      fresh = λ f. absurd (let no : true ≡ false = sym f ∙ c.if-route.false in cc);
      sent = c.requires.sound.sent;
    }

pub returns-clause-walk : goal.returns-clause-walk
returns-clause-walk g c =
    let s : Scene = sight_of (g.V.NodeView.look c.args.scene.now) (g.V.SceneView.boxes c.args.scene.now) c.args.sight.now in
    let w : Walking = walking_of c.args.sight.now c.args.route.now in
    let l : Level = c.in-Some.level in
    let k : Level = record l { from = l.from + 1 } in
    let a : At = record { id = c.in-Some-next_child.id; joint = l.joint; shift = c.in-Some-next_child.shift } in
    let walk : walking_of c.args.sight.now c.visit-2.new.route ≡ visited_in s (record w { way = c.pop.new.self.items ++ k ∷ [] }) a =
    c.visit-2.ensures.walk ∙ ap (λ (ls : List Level). visited_in s (record w { way = ls }) a) c.push_reserved.ensures.items in
    (λ i. record { going = true; walk = walk i; tests = c.visit-2.ensures.tests i })
    ∙ step_is s w c.args.steps.now c.pop.new.self.items l (Some (c.in-Some-next_child.id, c.in-Some-next_child.shift)) (sym c.if-route.false) c.in-Some.ensures.items c.in-Some-next_child.ensures.child
