use Rattle.std.proofs.Common.{◌≡◌, ◌∙◌, ◌<◌, length, true, false, ap, sym, subst, arith}
use Rattle.draw_list.specs.Items.{ItemList}
use Rattle.draw_list.specs.Lists.{Drawables}
use Rattle.cull_walk.specs.Working.{own_pose}
use Rattle.stream_stages.specs.Underway.{HaveLevels}
use Rattle.stream_stages.proofs.Lowering.{HasMoreJoints, below_is}
use Rattle.stream_stages.proofs.Outcomes.{levels_more, levels_pushed}
use Rattle.stream_stages.proofs.routes.enter.Goals as goal

pub returns-clause-sound : goal.returns-clause-sound
returns-clause-sound c =
    let d : Drawables = c.args.route.now.seen in
    let e : Drawables = c.lower.new.out in
    let more : HasMoreJoints d e = subst (HasMoreJoints d) (sym c.lower.ensures.list) (below_is d c.args.spot.joint (own_pose c.args.node.now.kind) c.requires.joint).more in
    let there : c.in-Some.joint < length e.joints.lists =
    subst (λ (f : Drawables). c.in-Some.joint < length f.joints.lists) (sym c.lower.ensures.list)
    ((below_is d c.args.spot.joint (own_pose c.args.node.now.kind) c.requires.joint).there c.in-Some.joint c.in-Some.ensures.joint) in
    record {
      levels = subst (HaveLevels (length e.joints.lists)) (sym c.push_reserved.ensures.items)
          (levels_pushed (length e.joints.lists) c.args.route.now.way.items _ (levels_more (length d.joints.lists) (length e.joints.lists) c.args.route.now.way.items more.longer c.requires.sound.levels) there);
      zero = omega (arith, c.requires.sound.zero, more.longer);
      deep = omega (arith, c.push_reserved.ensures.len, c.len.ensures, c.if-len-ge-DEEPEST.false);
      way = omega (arith, c.requires.sound.way, c.push_reserved.ensures.capacity);
      items = omega (arith, c.requires.sound.items, ap (λ (i : ItemList). i.spare) more.items, ap (λ (i : ItemList). length i.items) more.items);
      joints = omega (arith, c.requires.sound.joints, more.room);
      few = c.requires.sound.few;
      glass = c.requires.sound.glass;
      fresh = λ f. absurd (let no : true ≡ false = sym f ∙ c.requires.begun in cc);
      sent = c.requires.sound.sent;
    }
