-- What the cull leaves on every scene: all room is either free or taken, and each joint keeps its steps.
use Rattle.std.proofs.Common.{◌≡◌, ◌∙◌, ℕ, zero, suc, ◌+◌, ◌-◌, ◌≤◌, ◌<◌, List, [], ◌∷◌, ◌++◌, length, Bool, true, false, cond, ◌||◌, Option, Some, None, sym, refl, subst, arith, get_or, set, length-append}
use Rattle.std.specs.Prelude.{is_some, ◌==◌, nat_lt, replicate}
use Rattle.std.specs.Option.{option_map_or}
use Rattle.std.proofs.lemmas.Bool.Decides.{nat_tests}
use Rattle.std.proofs.Math.ListN.{get_or-append}
use Rattle.fx_math.specs.Plain.{Bounds}
use Rattle.pf_model.specs.declared.geometry.Tri.{Tri}
use Rattle.pf_model.specs.declared.nodes.Node.{Node}
use Rattle.pf_model.specs.declared.poses.Pose.{Pose}
use Rattle.pf_model.specs.Angles.{Viewpoint}
use Rattle.pf_model.specs.Kinds.{Surface, surface_of, pose_steps}
use Rattle.pf_model.specs.Walks.{shown_children, chosen_in, steps_of_view}
use Rattle.draw_list.specs.declared.items.Span.{Span}
use Rattle.draw_list.specs.declared.items.Item.{Item}
use Rattle.draw_list.specs.Joints.{JointList, steps_at, joint_above}
use Rattle.draw_list.specs.Items.{ItemList, with_item}
use Rattle.draw_list.specs.Kept.{KeptTris, span_at, next_span, kept_span, with_kept}
use Rattle.draw_list.specs.Lists.{Drawables}
use Rattle.cull_walk.specs.Working.{Scene, Work, At, tested, box_in_sight, own_pose, joint_below, item_at, with_surface, with_drawn, with_below, child_at, over, below, entered, met, culled, emptied}

-- ---- a cleared list
all_none : (spans : List (Option Span)) (n : ℕ) → length spans ≡ n → ((k : ℕ) → get_or spans k None ≡ None) → spans ≡ replicate n None
all_none [] zero e h = refl
all_none [] (suc n) e h = absurd (omega (arith, e))
all_none (s ∷ ss) zero e h = absurd (omega (arith, e))
all_none (s ∷ ss) (suc n) e h = λ i. h 0 i ∷ all_none ss n (omega (arith, e)) (λ k. h (suc k)) i

pub emptied_is : (view : Viewpoint) (old d : Drawables) → d.joints.lists ≡ steps_of_view view ∷ [] → d.items.items ≡ [] → d.kept.tris ≡ [] → ((id : ℕ) → span_at d.kept id ≡ None) → length d.kept.spans ≡ length old.kept.spans →
    d.joints.spare + 1 ≡ old.joints.spare + length old.joints.lists → d.items.spare ≡ old.items.spare + length old.items.items → d.kept.spare ≡ old.kept.spare + length old.kept.tris → d ≡ emptied view old
emptied_is view old d lists items tris none spans joint_room item_room tri_room =
    let joint_spare : d.joints.spare ≡ old.joints.spare + length old.joints.lists - 1 = omega (arith, joint_room) in
    let no_spans = all_none d.kept.spans (length old.kept.spans) spans none in
    λ i. record {
      joints = record { lists = lists i; spare = joint_spare i };
      items = record { items = items i; spare = item_room i };
      kept = record { tris = tris i; spans = no_spans i; spare = tri_room i };
    }

-- ---- what stays while a list is filled
pub record KeepsRoom (d e : Drawables) : Type 0 where
  pub items : e.items.spare + length e.items.items ≡ d.items.spare + length d.items.items
  pub joints : e.joints.spare + length e.joints.lists ≡ d.joints.spare + length d.joints.lists
  pub tris : e.kept.spare + length e.kept.tris ≡ d.kept.spare + length d.kept.tris
  pub longer : length d.joints.lists ≤ length e.joints.lists
  pub steps : (j : ℕ) → j < length d.joints.lists → steps_at e.joints.lists j ≡ steps_at d.joints.lists j

keeps_itself : (d : Drawables) → KeepsRoom d d
keeps_itself d = record { items = refl; joints = refl; tris = refl; longer = omega arith; steps = λ j l. refl }

keeps_both : (d e f : Drawables) → KeepsRoom d e → KeepsRoom e f → KeepsRoom d f
keeps_both d e f h k = record {
  items = k.items ∙ h.items;
  joints = k.joints ∙ h.joints;
  tris = k.tris ∙ h.tris;
  longer = omega (arith, h.longer, k.longer);
  steps = λ j l. k.steps j (omega (arith, l, h.longer)) ∙ h.steps j l;
}

some_left : (n : ℕ) → (n == 0) ≡ false → 0 < n
some_left n e = grind (arith, nat_tests)

fits : (m n : ℕ) → nat_lt m n ≡ false → n ≤ m
fits m n e = grind (arith, nat_tests)

item_room : (i : Item) (d : ItemList) → (with_item i d).spare + length (with_item i d).items ≡ d.spare + length d.items
item_room i d = by (d.spare == 0) refl
  where
    by : (b : Bool) → (d.spare == 0) ≡ b →
        (cond b d (record { items = d.items ++ i ∷ []; spare = d.spare - 1 })).spare + length (cond b d (record { items = d.items ++ i ∷ []; spare = d.spare - 1 })).items ≡ d.spare + length d.items
    by true e = refl
    by false e = let some : 0 < d.spare = some_left d.spare e in omega (arith, some, length-append d.items (i ∷ []))

kept_room : (id : ℕ) (ts : List Tri) (d : KeptTris) → (with_kept id ts d).spare + length (with_kept id ts d).tris ≡ d.spare + length d.tris
kept_room id ts d = by (is_some (span_at d id)) (length ts == 0) (nat_lt d.spare (length ts)) refl
  where
    more : KeptTris
    more = record { tris = d.tris ++ ts; spans = set d.spans id (Some (next_span ts d)); spare = d.spare - length ts }

    by : (a b c : Bool) → nat_lt d.spare (length ts) ≡ c → (cond (a || b || c) d more).spare + length (cond (a || b || c) d more).tris ≡ d.spare + length d.tris
    by true b c e = refl
    by false true c e = refl
    by false false true e = refl
    by false false false e = let room : length ts ≤ d.spare = fits d.spare (length ts) e in omega (arith, room, length-append d.tris ts)

drawn_room : (a : At) (around : Bounds) (d : Drawables) (s : Option Surface) → KeepsRoom d (with_drawn a around d s)
drawn_room a around d None = keeps_itself d
drawn_room a around d (Some s) = by (kept_span a.id s.tris d.kept)
  where
    by : (o : Option Span) → KeepsRoom d (with_surface a around s d o)
    by None = keeps_itself d
    by (Some span) = record {
      items = item_room (item_at a around (length d.items.items) s span) d.items;
      joints = refl;
      tris = kept_room a.id s.tris d.kept;
      longer = omega arith;
      steps = λ j l. refl;
    }

below_room : (joint : ℕ) (d : Drawables) (p : Option Pose) → KeepsRoom d (with_below joint d p)
below_room joint d None = keeps_itself d
below_room joint d (Some p) = by (d.joints.spare == 0) refl
  where
    more : JointList
    more = record { lists = joint_above d.joints.lists joint (pose_steps p); spare = d.joints.spare - 1 }

    long : length (joint_above d.joints.lists joint (pose_steps p)) ≡ length d.joints.lists + 1
    long = length-append d.joints.lists ((pose_steps p ++ steps_at d.joints.lists joint) ∷ [])

    by : (b : Bool) → (d.joints.spare == 0) ≡ b → KeepsRoom d (record { joints = cond b d.joints more; items = d.items; kept = d.kept })
    by true e = keeps_itself d
    by false e = record {
      items = refl;
      joints = let some : 0 < d.joints.spare = some_left d.joints.spare e in omega (arith, some, long);
      tris = refl;
      longer = omega (arith, long);
      steps = λ j l. get_or-append d.joints.lists ((pose_steps p ++ steps_at d.joints.lists joint) ∷ []) [] j l;
    }

-- ---- the cull
over_room : (visit : Work → At → Work) → ((w : Work) (a : At) → KeepsRoom w.list (visit w a).list) → (w : Work) (a : At) (n : Node) (joint : ℕ) (cs : List (ℕ × ℕ)) → KeepsRoom w.list (over visit w a n joint cs).list
over_room visit keeps w a n joint [] = keeps_itself w.list
over_room visit keeps w a n joint (c ∷ cs) =
    keeps_both w.list (visit w (child_at a n joint c)).list (over visit (visit w (child_at a n joint c)) a n joint cs).list
    (keeps w (child_at a n joint c)) (over_room visit keeps (visit w (child_at a n joint c)) a n joint cs)

below_keeps : (visit : Work → At → Work) → ((w : Work) (a : At) → KeepsRoom w.list (visit w a).list) → (w : Work) (a : At) (n : Node) (cs : List (ℕ × ℕ)) (joint : Option ℕ) → KeepsRoom w.list (below visit w a n cs joint).list
below_keeps visit keeps w a n cs None = keeps_itself w.list
below_keeps visit keeps w a n cs (Some joint) = over_room visit keeps w a n joint cs

entered_room : (visit : Work → At → Work) → ((w : Work) (a : At) → KeepsRoom w.list (visit w a).list) → (s : Scene) (w : Work) (a : At) (around : Bounds) (n : Node) → KeepsRoom w.list (entered visit s w a around n).list
entered_room visit keeps s w a around n =
    keeps_both w.list drawn (entered visit s w a around n).list (drawn_room a around w.list (surface_of n.kind))
    (keeps_both drawn (with_below a.joint drawn (own_pose n.kind)) (entered visit s w a around n).list (below_room a.joint drawn (own_pose n.kind))
    (below_keeps visit keeps (record w { list = with_below a.joint drawn (own_pose n.kind) }) a n
    (shown_children (chosen_in s.time n (steps_at w.list.joints.lists a.joint)) n.children) (joint_below a.joint drawn (own_pose n.kind))))
  where
    drawn : Drawables
    drawn = with_drawn a around w.list (surface_of n.kind)

met_room : (visit : Work → At → Work) → ((w : Work) (a : At) → KeepsRoom w.list (visit w a).list) → (s : Scene) (w : Work) (a : At) (box : Option Bounds) → KeepsRoom w.list (met visit s (tested w) a box).list
met_room visit keeps s w a None = keeps_itself w.list
met_room visit keeps s w a (Some around) = by (s.look a.id)
  where
    by : (l : Option Node) → KeepsRoom w.list (option_map_or (entered visit s (tested w) a around) l (tested w)).list
    by None = keeps_itself w.list
    by (Some n) = entered_room visit keeps s (tested w) a around n

pub culled_room : (n : ℕ) (s : Scene) (w : Work) (a : At) → KeepsRoom w.list (culled n s w a).list
unfolding culled
culled_room zero s w a = keeps_itself w.list
culled_room (suc n) s w a = met_room (culled n s) (λ v b. culled_room n s v b) s w a (box_in_sight s w.list a)

pub walked_room : (s : Scene) (d : Drawables) (tests visited : ℕ) (a : At) (u : Work) → u ≡ culled 32 s (record { list = d; tests = tests; visited = visited }) a → KeepsRoom d u.list
walked_room s d tests visited a u e = subst (λ (v : Work). KeepsRoom d v.list) (sym e) (culled_room 32 s (record { list = d; tests = tests; visited = visited }) a)
