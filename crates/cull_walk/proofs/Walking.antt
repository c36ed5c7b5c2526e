-- What the code has done at each exit is what the cull does.
use Rattle.std.proofs.Common.{◌≡◌, ◌∙◌, ℕ, zero, suc, ◌+◌, ◌-◌, ◌≤◌, ◌<◌, List, [], ◌∷◌, ◌++◌, length, Option, Some, None, Bool, true, false, cond, ap, sym, refl, arith, length-append}
use Rattle.std.specs.Prelude.{slice_index, ◌==◌}
use Rattle.std.specs.Option.{option_map_or}
use Rattle.std.proofs.lemmas.List.FromFn.{map-range_with_len_more}
use Rattle.fx_math.specs.Plain.{Bounds}
use Rattle.pf_model.specs.declared.nodes.Chosen.{Chosen}
use Rattle.pf_model.specs.declared.nodes.Node.{Node}
use Rattle.pf_model.specs.declared.poses.Pose.{Pose}
use Rattle.pf_model.specs.Kinds.{Surface, surface_of, pose_steps}
use Rattle.pf_model.specs.Walks.{shown_children, chosen_in}
use Rattle.pf_model.specs.ShownPlaces.{places, ArePlaces}
use Rattle.draw_list.specs.declared.items.Span.{Span}
use Rattle.draw_list.specs.Joints.{JointList, steps_at, joint_above}
use Rattle.draw_list.specs.Kept.{kept_span}
use Rattle.draw_list.specs.Lists.{Drawables}
use Rattle.cull_walk.specs.Working.{Scene, Work, At, tested, box_in_sight, own_pose, joint_below, with_surface, with_drawn, with_below, child_at, over, below, entered, met, culled}

-- the list with what a node draws and the joint of its children
abbrev pub lower_list : Work → At → Bounds → Node → Drawables
lower_list w a around n = with_below a.joint (with_drawn a around w.list (surface_of n.kind)) (own_pose n.kind)

abbrev pub lower_work : Work → At → Bounds → Node → Work
lower_work w a around n = record (tested w) { list = lower_list w a around n }

abbrev pub lower_joint : Work → At → Bounds → Node → Option ℕ
lower_joint w a around n = joint_below a.joint (with_drawn a around w.list (surface_of n.kind)) (own_pose n.kind)

pub no_levels_left : (levels : ℕ) (s : Scene) (w : Work) (a : At) → levels ≡ 0 → w ≡ culled levels s w a
unfolding culled
no_levels_left zero s w a e = refl
no_levels_left (suc n) s w a e = absurd (omega (arith, e))

opened : (levels : ℕ) (s : Scene) (w : Work) (a : At) → 0 < levels → culled levels s w a ≡ met (culled (levels - 1) s) s (tested w) a (box_in_sight s w.list a)
unfolding culled
opened zero s w a h = absurd (omega (arith, h))
opened (suc n) s w a h = ap (λ (k : ℕ). met (culled k s) s (tested w) a (box_in_sight s w.list a)) (one_less n)
  where
    one_less : (n : ℕ) → n ≡ suc n - 1
    one_less n = omega arith

pub out_of_frustum : (levels : ℕ) (s : Scene) (w : Work) (a : At) → 0 < levels → None ≡ box_in_sight s w.list a → tested w ≡ culled levels s w a
out_of_frustum levels s w a h e = ap (met (culled (levels - 1) s) s (tested w) a) e ∙ sym (opened levels s w a h)

in_frustum_then : (levels : ℕ) (s : Scene) (w : Work) (a : At) (around : Bounds) → 0 < levels → Some around ≡ box_in_sight s w.list a →
    option_map_or (entered (culled (levels - 1) s) s (tested w) a around) (s.look a.id) (tested w) ≡ culled levels s w a
in_frustum_then levels s w a around h e = ap (met (culled (levels - 1) s) s (tested w) a) e ∙ sym (opened levels s w a h)

pub no_node : (levels : ℕ) (s : Scene) (w : Work) (a : At) (around : Bounds) → 0 < levels → Some around ≡ box_in_sight s w.list a → None ≡ s.look a.id → tested w ≡ culled levels s w a
no_node levels s w a around h e absent =
    ap (λ (l : Option Node). option_map_or (entered (culled (levels - 1) s) s (tested w) a around) l (tested w)) absent ∙ in_frustum_then levels s w a around h e

node_then : (levels : ℕ) (s : Scene) (w : Work) (a : At) (around : Bounds) (n : Node) → 0 < levels → Some around ≡ box_in_sight s w.list a → Some n ≡ s.look a.id →
    below (culled (levels - 1) s) (lower_work w a around n) a n (shown_children (chosen_in s.time n (steps_at w.list.joints.lists a.joint)) n.children) (lower_joint w a around n) ≡ culled levels s w a
node_then levels s w a around n h e found =
    ap (λ (l : Option Node). option_map_or (entered (culled (levels - 1) s) s (tested w) a around) l (tested w)) found ∙ in_frustum_then levels s w a around h e

pub no_joint : (levels : ℕ) (s : Scene) (w : Work) (a : At) (around : Bounds) (n : Node) → 0 < levels → Some around ≡ box_in_sight s w.list a → Some n ≡ s.look a.id →
    None ≡ lower_joint w a around n → lower_work w a around n ≡ culled levels s w a
no_joint levels s w a around n h e found none =
    ap (below (culled (levels - 1) s) (lower_work w a around n) a n (shown_children (chosen_in s.time n (steps_at w.list.joints.lists a.joint)) n.children)) none
    ∙ node_then levels s w a around n h e found

pub all_done : (levels : ℕ) (s : Scene) (w v : Work) (a : At) (around : Bounds) (n : Node) (joint : ℕ) (chosen : Chosen) (cs : List ℕ) (from to place : ℕ) → 0 < levels → Some around ≡ box_in_sight s w.list a → Some n ≡ s.look a.id →
    Some joint ≡ lower_joint w a around n → chosen ≡ chosen_in s.time n (steps_at w.list.joints.lists a.joint) → cs ≡ n.children → ArePlaces chosen (length cs) from to → place ≡ to →
    v ≡ over (culled (levels - 1) s) (lower_work w a around n) a n joint (places cs from (place - from)) → v ≡ culled levels s w a
all_done levels s w v a around n joint chosen cs from to place h e found there picked children are last loop =
    loop
    ∙ ap (over (culled (levels - 1) s) (lower_work w a around n) a n joint) range
    ∙ ap (below (culled (levels - 1) s) (lower_work w a around n) a n (shown_children (chosen_in s.time n (steps_at w.list.joints.lists a.joint)) n.children)) there
    ∙ node_then levels s w a around n h e found
  where
    range : places cs from (place - from) ≡ shown_children (chosen_in s.time n (steps_at w.list.joints.lists a.joint)) n.children
    range =
        ap (λ (k : ℕ). places cs from (k - from)) last
        ∙ sym (are.are cs refl)
        ∙ ap (λ (o : Chosen). shown_children o cs) picked
        ∙ ap (shown_children (chosen_in s.time n (steps_at w.list.joints.lists a.joint))) children

abbrev pair : ℕ → ℕ → ℕ × ℕ
pair a b = (a, b)

over_more : (visit : Work → At → Work) (w : Work) (a : At) (n : Node) (joint : ℕ) (cs : List (ℕ × ℕ)) (c : ℕ × ℕ) → over visit w a n joint (cs ++ c ∷ []) ≡ visit (over visit w a n joint cs) (child_at a n joint c)
over_more visit w a n joint [] c = refl
over_more visit w a n joint (d ∷ cs) c = over_more visit (visit w (child_at a n joint d)) a n joint cs c

pub one_more : (visit : Work → At → Work) (start current next : Work) (a : At) (n : Node) (joint : ℕ) (cs : List ℕ) (from place : ℕ) → from ≤ place →
    current ≡ over visit start a n joint (places cs from (place - from)) → next ≡ visit current (child_at a n joint (pair place (slice_index cs place))) →
    next ≡ over visit start a n joint (places cs from (place + 1 - from))
one_more visit start current next a n joint cs from place le so_far adds =
    adds
    ∙ ap (λ (v : Work). visit v (child_at a n joint last)) so_far
    ∙ sym (over_more visit start a n joint (places cs from (place - from)) last)
    ∙ ap (over visit start a n joint) (sym more)
  where
    last : ℕ × ℕ
    last = pair place (slice_index cs place)

    len : place + 1 - from ≡ (place - from) + 1
    len = omega (arith, le)

    more : places cs from (place + 1 - from) ≡ places cs from (place - from) ++ pair place (slice_index cs place) ∷ []
    more = ap (places cs from) len ∙ map-range_with_len_more (λ (k : ℕ). pair k (slice_index cs k)) from (place - from) place (omega (arith, le))

-- ---- the joint of the children is there
drawn_joints : (a : At) (around : Bounds) (d : Drawables) (s : Option Surface) → (with_drawn a around d s).joints ≡ d.joints
drawn_joints a around d None = refl
drawn_joints a around d (Some s) = by (kept_span a.id s.tris d.kept)
  where
    by : (o : Option Span) → (with_surface a around s d o).joints ≡ d.joints
    by None = refl
    by (Some span) = refl

pub record IsLowered (d : Drawables) (joint : ℕ) (e : Drawables) : Type 0 where
  pub there : joint < length e.joints.lists
  pub longer : length d.joints.lists ≤ length e.joints.lists

lowered_pose : (joint below : ℕ) (d : Drawables) (p : Option Pose) → joint < length d.joints.lists → Some below ≡ joint_below joint d p → IsLowered d below (with_below joint d p)
lowered_pose joint below d None h e =
    let same : below ≡ joint = ap (λ (o : Option ℕ). option_map_or (λ (n : ℕ). n) o 0) e in
    record { there = omega (arith, h, same); longer = omega arith }
lowered_pose joint below d (Some p) h e = by (d.joints.spare == 0) e
  where
    by : (t : Bool) → Some below ≡ cond t None (Some (length d.joints.lists)) →
        IsLowered d below (record { joints = cond t d.joints (record { lists = joint_above d.joints.lists joint (pose_steps p); spare = d.joints.spare - 1 }); items = d.items; kept = d.kept })
    by true e = absurd (cc)
    by false e =
        let same : below ≡ length d.joints.lists = ap (λ (o : Option ℕ). option_map_or (λ (n : ℕ). n) o 0) e in
        let long : length (joint_above d.joints.lists joint (pose_steps p)) ≡ length d.joints.lists + 1 = length-append d.joints.lists ((pose_steps p ++ steps_at d.joints.lists joint) ∷ []) in
        record { there = omega (arith, same, long); longer = omega (arith, long) }

pub lowered : (a : At) (around : Bounds) (d e f : Drawables) (s : Option Surface) (p : Option Pose) (below : ℕ) → a.joint < length d.joints.lists → e ≡ with_drawn a around d s → f ≡ with_below a.joint e p → Some below ≡ joint_below a.joint e p → IsLowered d below f
lowered a around d e f s p below h first second there =
    let same : length e.joints.lists ≡ length d.joints.lists = ap (λ (g : Drawables). length g.joints.lists) first ∙ ap (λ (j : JointList). length j.lists) (drawn_joints a around d s) in
    let low : IsLowered e below (with_below a.joint e p) = lowered_pose a.joint below e p (omega (arith, h, same)) there in
    let long : length f.joints.lists ≡ length (with_below a.joint e p).joints.lists = ap (λ (g : Drawables). length g.joints.lists) second in
    record { there = omega (arith, low.there, long); longer = omega (arith, low.longer, same, long) }
