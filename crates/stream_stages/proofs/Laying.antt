-- The joints that are laid for an instance.
use Rattle.std.proofs.Common.{◌≡◌, ◌∙◌, ℕ, suc, ◌+◌, ◌≤◌, ◌<◌, List, [], ◌∷◌, ◌++◌, length, true, false, Option, Some, None, ap, sym, refl, subst, arith}
use Rattle.std.specs.Prelude.{is_some}
use Rattle.std.specs.Option.{option_map_or}
use Rattle.fx_math.specs.Plain.{Matrix}
use Rattle.pf_model.specs.declared.nodes.Node.{Node}
use Rattle.pf_model.specs.Graphs.{Look}
use Rattle.pf_model.specs.Kinds.{own_steps}
use Rattle.draw_list.specs.Joints.{steps_at}
use Rattle.draw_list.specs.Lists.{Drawables}
use Rattle.cull_walk.specs.Working.{own_pose, joint_below, with_below}
use Rattle.stream_stages.specs.Routes.{steps_along, AreNodes}
use Rattle.stream_stages.specs.Sending.{Laid, laid}
use Rattle.stream_stages.proofs.Lowering.{HasMoreJoints, more_itself, more_both, IsLower, lowered}

pub record IsLaid (d : Drawables) (l : Laid) (steps : List Matrix) (n : ℕ) : Type 0 where
  pub joint : ℕ
  pub answers : l.joint ≡ Some joint
  pub there : joint < length l.list.joints.lists
  pub steps_are : steps_at l.list.joints.lists joint ≡ steps
  pub more : HasMoreJoints d l.list
  pub spent : d.joints.spare ≤ l.list.joints.spare + n

abbrev laid_below : Look → List ℕ → ℕ → Drawables → Node → Laid
laid_below look ids joint d n =
    option_map_or (λ below. laid look ids below (with_below joint d (own_pose n.kind)))
    (joint_below joint d (own_pose n.kind)) (record { joint = None; list = with_below joint d (own_pose n.kind) })

abbrev LaysAll : Look → List ℕ → Type 0
LaysAll look ids = (d : Drawables) (joint : ℕ) (above : List Matrix) → joint < length d.joints.lists → steps_at d.joints.lists joint ≡ above → AreNodes look ids → length ids ≤ d.joints.spare →
    IsLaid d (laid look ids joint d) (steps_along look above ids) (length ids)

lays_node : (look : Look) (ids : List ℕ) → LaysAll look ids → (d : Drawables) (joint : ℕ) (above : List Matrix) (n : Node) → joint < length d.joints.lists → steps_at d.joints.lists joint ≡ above → AreNodes look ids → suc (length ids) ≤ d.joints.spare →
    IsLaid d (laid_below look ids joint d n) (steps_along look (own_steps n.kind ++ above) ids) (suc (length ids))
lays_node look ids all d joint above n there steps nodes room =
    let low : IsLower d (with_below joint d (own_pose n.kind)) (joint_below joint d (own_pose n.kind)) (own_steps n.kind ++ steps_at d.joints.lists joint) =
    lowered d joint n.kind there (omega (arith, room)) in
    let rest : IsLaid (with_below joint d (own_pose n.kind)) (laid look ids low.joint (with_below joint d (own_pose n.kind))) (steps_along look (own_steps n.kind ++ above) ids) (length ids) =
    all (with_below joint d (own_pose n.kind)) low.joint (own_steps n.kind ++ above) low.there
    (low.steps_are ∙ ap (λ (ms : List Matrix). own_steps n.kind ++ ms) steps) nodes (omega (arith, room, low.spent)) in
    subst (λ (o : Option ℕ). IsLaid d (option_map_or (λ below. laid look ids below (with_below joint d (own_pose n.kind))) o (record { joint = None; list = with_below joint d (own_pose n.kind) })) (steps_along look (own_steps n.kind ++ above) ids) (suc (length ids)))
    (sym low.answers) (record {
      joint = rest.joint;
      answers = rest.answers;
      there = rest.there;
      steps_are = rest.steps_are;
      more = more_both d (with_below joint d (own_pose n.kind)) (laid look ids low.joint (with_below joint d (own_pose n.kind))).list low.more rest.more;
      spent = omega (arith, low.spent, rest.spent);
    })

lays_next : (look : Look) (id : ℕ) (ids : List ℕ) → LaysAll look ids → LaysAll look (id ∷ ids)
lays_next look id ids all d joint above there steps nodes room = by (look id) refl
  where
    by : (m : Option Node) → look id ≡ m → IsLaid d (laid look (id ∷ ids) joint d) (steps_along look above (id ∷ ids)) (suc (length ids))
    by None e = absurd (let no : false ≡ true = sym (ap is_some e) ∙ nodes.0 in cc)
    by (Some n) e =
        subst (λ (m : Option Node). IsLaid d (option_map_or (laid_below look ids joint d) m (record { joint = None; list = d })) (steps_along look (option_map_or (λ n. own_steps n.kind) m [] ++ above) ids) (suc (length ids)))
        (sym e) (lays_node look ids all d joint above n there steps nodes.1 room)

pub laid_is : (look : Look) (ids : List ℕ) → LaysAll look ids
laid_is look [] d joint above there steps nodes room = record {
  joint = joint;
  answers = refl;
  there = there;
  steps_are = steps;
  more = more_itself d;
  spent = omega arith;
}
laid_is look (id ∷ ids) d joint above there steps nodes room = lays_next look id ids (laid_is look ids) d joint above there steps nodes room
