-- The cull of a whole scene, from a cleared list.
use Rattle.std.proofs.Common.{◌≡◌, ◌∙◌, ℕ, zero, suc, ◌+◌, ◌≤◌, ◌<◌, List, [], ◌∷◌, ◌++◌, length, Bool, true, false, cond, ◌||◌, Option, Some, None, ap, sym, refl, subst, arith}
use Rattle.std.specs.Prelude.{map, filter, count_by, flat_map, filter_map}
use Rattle.std.specs.List.{enumerate_from, list_any}
use Rattle.std.specs.Option.{option_map_or}
use Rattle.std.proofs.lemmas.List.Sums.{sum_by-append, sum_by-cons}
use Rattle.fx_math.specs.Plain.{Matrix, Bounds}
use Rattle.pf_model.specs.Angles.{Viewpoint}
use Rattle.pf_model.specs.declared.nodes.Node.{Node}
use Rattle.pf_model.specs.Graphs.{Look, size_in, size_of}
use Rattle.pf_model.specs.Kinds.{Surface}
use Rattle.pf_model.specs.Boxes.{box_of}
use Rattle.pf_model.specs.Limits.{KeepsLimits}
use Rattle.pf_model.specs.Totals.{triangle_count}
use Rattle.pf_model.specs.Walks.{Occurrence, Instance, instance_of, surface_in, shown_children, chosen_in, child_of, children_in, under, walk_in, walk, scene_at, steps_of_view}
use Rattle.pf_model.proofs.Levels.{size_at_limit}
use Rattle.pf_model.proofs.Solutions.{boxes_meet}
use Rattle.pf_model.proofs.Nesting.{box_is_box}
use Rattle.draw_list.specs.Order.{state_count, is_of_state, all_states}
use Rattle.draw_list.specs.Joints.{steps_at}
use Rattle.draw_list.specs.Kept.{span_at}
use Rattle.draw_list.specs.Lists.{Drawables, instances_in}
use Rattle.draw_list.specs.Shown.{is_in_sight, is_visited, shown, visited}
use Rattle.draw_list.specs.declared.items.Item.{Item}
use Rattle.draw_list.specs.declared.items.Span.{Span}
use Rattle.cull_walk.specs.Working.{Scene, Work, At, culled}
use Rattle.cull_walk.specs.Premises.{CanBeExact, unnamed}
use Rattle.cull_walk.proofs.Unkept.{all_unkept}
use Rattle.cull_walk.proofs.Adding.{IsSound, AreThere, drawn_in, numbered}
use Rattle.cull_walk.proofs.Own.{IsAt}
use Rattle.cull_walk.proofs.Exact.{IsFit, Does, drawn, unlabelled, exact, sizes, sizes_shown, size_more, visits_next}

-- ---- instances without ids
numbered_are : (n : ℕ) (es : List (Occurrence × Surface)) → numbered n (map unlabelled es) ≡ map unnamed (map (λ e. instance_of e.1.0 e.1.1 e.0) (enumerate_from n es))
numbered_are n [] = refl
numbered_are n (e ∷ es) = ap (λ (xs : List Instance). unnamed (instance_of e.0 e.1 n) ∷ xs) (numbered_are (n + 1) es)

any_unnamed : (state : ℕ) (xs : List Instance) → list_any (is_of_state state) (map unnamed xs) ≡ list_any (is_of_state state) xs
any_unnamed state [] = refl
any_unnamed state (x ∷ xs) = ap (λ (b : Bool). is_of_state state x || b) (any_unnamed state xs)

states_unnamed : (xs : List Instance) → state_count (map unnamed xs) ≡ state_count xs
states_unnamed xs = ap (λ (p : ℕ → Bool). count_by p all_states) (λ i state. any_unnamed state xs i)

length_unnamed : (xs : List Instance) → length (map unnamed xs) ≡ length xs
length_unnamed [] = refl
length_unnamed (x ∷ xs) = ap (λ (k : ℕ). suc k) (length_unnamed xs)

-- ---- no more nodes are visited than the size
at_most_one : (t : Bool) → cond t 1 0 ≤ 1
at_most_one true = omega arith
at_most_one false = omega arith

visits_below : (n : ℕ) (look : Look) (q : Occurrence → Bool) (f : Occurrence → List Occurrence) → ((p : Occurrence) → count_by q (f p) ≤ size_in n look p.id) → (m : Node) (o : Occurrence) (cs : List (ℕ × ℕ)) →
    count_by q (flat_map f (map (child_of m o) cs)) ≤ sizes n look cs
visits_below n look q f each m o [] = omega arith
visits_below n look q f each m o (c ∷ cs) =
    omega (
      arith,
      sum_by-append (λ p. cond (q p) 1 0) (f (child_of m o c)) (flat_map f (map (child_of m o) cs)),
      each (child_of m o c),
      visits_below n look q f each m o cs,
      sum_by-cons (λ (k : ℕ). k) (size_in n look c.1) (map (λ d. size_in n look d.1) cs),
    )

size_zero : (q : Occurrence → Bool) (look : Look) (time : ℕ) (o : Occurrence) → count_by q (walk_in 0 look time o) ≤ size_in 0 look o.id
unfolding walk_in size_in
size_zero q look time o = omega arith

size_none : (n : ℕ) (look : Look) (id : ℕ) → 1 ≤ size_in (suc n) look id
unfolding size_in
size_none n look id = omega arith

pub visits_within : (n : ℕ) (q : Occurrence → Bool) (look : Look) (time : ℕ) (o : Occurrence) → count_by q (walk_in n look time o) ≤ size_in n look o.id
visits_within zero q look time o = size_zero q look time o
visits_within (suc n) q look time o = by (look o.id) refl (λ p. visits_within n q look time p)
  where
    by : (l : Option Node) → look o.id ≡ l → ((p : Occurrence) → count_by q (walk_in n look time p) ≤ size_in n look p.id) → count_by q (walk_in (suc n) look time o) ≤ size_in (suc n) look o.id
    by None e each =
        let none : count_by q (flat_map (walk_in n look time) (under look time o)) ≡ 0 = ap (λ (l : Option Node). count_by q (flat_map (walk_in n look time) (option_map_or (children_in time o) l []))) e in
        omega (arith, visits_next q n look time o, none, at_most_one (q o), size_none n look o.id)
    by (Some m) e each =
        let some : count_by q (flat_map (walk_in n look time) (under look time o)) ≡ count_by q (flat_map (walk_in n look time) (children_in time o m)) =
        ap (λ (l : Option Node). count_by q (flat_map (walk_in n look time) (option_map_or (children_in time o) l []))) e in
        omega (
          arith,
          visits_next q n look time o,
          some,
          at_most_one (q o),
          size_more n look o.id m e,
          visits_below n look q (walk_in n look time) each m o (shown_children (chosen_in time m o.steps) m.children),
          sizes_shown n look (chosen_in time m o.steps) m.children,
        )

-- ---- a list that was cleared
pub record IsCleared (d : Drawables) (view : List Matrix) : Type 0 where
  pub joints : d.joints.lists ≡ view ∷ []
  pub items : d.items.items ≡ []
  pub spans : (id : ℕ) → span_at d.kept id ≡ None
  pub wide : 0 < d.kept.spare → length d.kept.spans ≡ 65536

cleared_sound : (look : Look) (d : Drawables) (view : List Matrix) → IsCleared d view → triangle_count look ≤ d.kept.spare → IsSound look d
cleared_sound look d view c room = record {
  kept = λ id n s span is shows at. absurd (none (span_at d.kept id) span (c.spans id) at);
  items = subst (AreThere d) (sym c.items) tt;
  wide = c.wide;
  room = omega (arith, all_unkept look d.kept c.spans, room);
}
  where
    none : (o : Option Span) (span : Span) → o ≡ None → o ≡ Some span → ⊥
    none o span e f = let g : None ≡ Some span = sym e ∙ f in cc

-- what the cull leaves
pub record IsCulled (s : Scene) (v : Viewpoint) (w u : Work) : Type 0 where
  pub list : instances_in u.list ≡ map unnamed (shown s.look s.time v s.lens)
  pub count : length u.list.items.items ≡ length (shown s.look s.time v s.lens)
  pub states : state_count (instances_in u.list) ≡ state_count (shown s.look s.time v s.lens)
  pub tests : u.tests ≡ w.tests + visited s.look s.time v s.lens
  pub visits : u.visited ≡ visited s.look s.time v s.lens

abbrev pub start_at : At
start_at = record { id = 0; joint = 0; shift = 0 }

abbrev scratch : Scene → Scene
scratch s = record { look = s.look; boxes = box_of s.look; lens = s.lens; time = s.time }

whole_scratch : (s : Scene) (v : Viewpoint) (w : Work) → ((id : ℕ) → size_of s.look id ≤ 131072) → IsFit (scratch s) → size_in 32 s.look 0 ≡ size_of s.look 0 → IsCleared w.list (steps_of_view v) → w.visited ≡ 0 →
    size_of s.look 0 ≤ w.list.items.spare → size_of s.look 0 ≤ w.list.joints.spare → triangle_count s.look ≤ w.list.kept.spare →
    IsCulled s v w (culled 32 (scratch s) w start_at)
whole_scratch s v w small fit size cleared fresh items joints tris = record {
  list = list_is;
  count = sym (counted_map (u.list.items.items)) ∙ ap length list_is ∙ length_unnamed (shown s.look s.time v s.lens);
  states = ap state_count list_is ∙ states_unnamed (shown s.look s.time v s.lens);
  tests = does.tests;
  visits = omega (arith, fresh, does.visited (omega (arith, fresh, within, size, small 0)));
}
  where
    o : Occurrence
    o = scene_at (steps_of_view v)

    u : Work
    u = culled 32 (scratch s) w start_at

    at : IsAt w.list start_at (scene_at (steps_of_view v))
    at = record {
      id = refl;
      there = omega (arith, ap length cleared.joints);
      steps = ap (λ (ls : List (List Matrix)). steps_at ls 0) cleared.joints;
      shift = refl;
    }

    does : Does s.look w (culled 32 (scratch s) w start_at) (filter (is_in_sight s.lens (box_of s.look)) (walk s.look s.time v)) (count_by (is_visited s.lens (box_of s.look)) (walk s.look s.time v)) (size_in 32 s.look 0)
    does = exact 32 (scratch s) fit w start_at (scene_at (steps_of_view v)) at (cleared_sound s.look w.list (steps_of_view v) cleared tris) (omega (arith, size, items)) (omega (arith, size, joints)) refl

    within : count_by (is_visited s.lens (box_of s.look)) (walk s.look s.time v) ≤ size_in 32 s.look 0
    within = visits_within 32 (is_visited s.lens (box_of s.look)) s.look s.time (scene_at (steps_of_view v))

    counted_map : (is : List Item) → length (drawn_in (culled 32 (scratch s) w start_at).list is) ≡ length is
    counted_map [] = refl
    counted_map (i ∷ is) = ap (λ (k : ℕ). suc k) (counted_map is)

    list_is : instances_in (culled 32 (scratch s) w start_at).list ≡ map unnamed (shown s.look s.time v s.lens)
    list_is =
        ap (drawn_in (culled 32 (scratch s) w start_at).list) (does.adds.items_are ∙ ap (λ (is : List Item). is ++ does.adds.more) cleared.items)
        ∙ does.adds.drawn
        ∙ ap (λ (is : List Item). numbered (length is) (drawn s.look (filter (is_in_sight s.lens (box_of s.look)) (walk s.look s.time v)))) cleared.items
        ∙ numbered_are 0 (filter_map (surface_in s.look) (filter (is_in_sight s.lens (box_of s.look)) (walk s.look s.time v)))

pub whole : (s : Scene) (v : Viewpoint) (old : Drawables) (w : Work) → CanBeExact s.look s.boxes s.time old → IsCleared w.list (steps_of_view v) → w.visited ≡ 0 →
    w.list.items.spare ≡ old.items.spare + length old.items.items → w.list.joints.spare + 1 ≡ old.joints.spare + length old.joints.lists → w.list.kept.spare ≡ old.kept.spare + length old.kept.tris →
    IsCulled s v w (culled 32 s w start_at)
whole s v old w can cleared fresh items joints tris =
    let same : s.boxes ≡ box_of s.look = λ i id. can.boxes_are id i in
    subst (λ (boxes : ℕ → Option Bounds). IsCulled s v w (culled 32 (record { look = s.look; boxes = boxes; lens = s.lens; time = s.time }) w start_at)) (sym same)
    (whole_scratch s v w limits.small
    (record { right = record { step = (boxes_meet s.look limits.low).step; are_boxes = λ id. box_is_box 32 s.look id }; narrow = limits.narrow })
    (sym (size_at_limit s.look 0 (limits.low 0))) cleared fresh
    (omega (arith, items, can.room.items)) (omega (arith, joints, can.room.joints)) (omega (arith, tris, can.room.tris)))
  where
    limits : KeepsLimits s.look
    limits = can.limits.limits

pub from_cleared : (s : Scene) (v : Viewpoint) (old d : Drawables) (tests : ℕ) (u : Work) → CanBeExact s.look s.boxes s.time old → IsCleared d (steps_of_view v) →
    d.items.spare ≡ old.items.spare + length old.items.items → d.joints.spare + 1 ≡ old.joints.spare + length old.joints.lists → d.kept.spare ≡ old.kept.spare + length old.kept.tris →
    u ≡ culled 32 s (record { list = d; tests = tests; visited = 0 }) start_at → IsCulled s v (record { list = d; tests = tests; visited = 0 }) u
from_cleared s v old d tests u can cleared items joints tris is =
    subst (λ (x : Work). IsCulled s v (record { list = d; tests = tests; visited = 0 }) x) (sym is)
    (whole s v old (record { list = d; tests = tests; visited = 0 }) can cleared refl items joints tris)
