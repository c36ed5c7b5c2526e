-- What is to come once a walk has begun.
use Rattle.std.proofs.Common.{◌≡◌, ◌∙◌, ℕ, ◌+◌, ◌≤◌, List, [], ◌∷◌, ◌++◌, length, Bool, true, false, cond, not, ◌||◌, Option, None, ap, sym, refl, subst, arith}
use Rattle.std.specs.Prelude.{map, filter, count_by, drop, is_some, IfSome}
use Rattle.std.specs.List.{AllByRecursion, list_any}
use Rattle.std.specs.Option.{option_map_or, option_to_list}
use Rattle.std.proofs.lemmas.List.{append-nil}
use Rattle.fx_math.specs.Plain.{Matrix, Bounds}
use Rattle.fx_math.specs.declared.lenses.Lens.{Lens}
use Rattle.pf_model.specs.Angles.{Viewpoint}
use Rattle.pf_model.specs.Graphs.{Look}
use Rattle.pf_model.specs.Boxes.{box_of}
use Rattle.pf_model.specs.Limits.{KeepsLimits, IsRising}
use Rattle.pf_model.specs.Walks.{Instance, steps_of_view}
use Rattle.draw_list.specs.Joints.{steps_at}
use Rattle.draw_list.specs.Items.{instance_of_item}
use Rattle.draw_list.specs.Lists.{instances_in}
use Rattle.draw_list.specs.Order.{is_opaque, is_of_state, all_states, in_draw_order, state_count}
use Rattle.draw_list.specs.Shown.{shown, visited, stats_of}
use Rattle.cull_walk.specs.Premises.{unnamed}
use Rattle.cull_walk.specs.Working.{Scene}
use Rattle.stream_stages.specs.Pieces.{in_sending_order}
use Rattle.stream_stages.specs.declared.sightings.Sighting.{Sighting}
use Rattle.stream_stages.specs.Stops.{stops_in, scene_stop, all_stops, found_from}
use Rattle.stream_stages.specs.Routes.{Walking, stops_of, stops_ahead, found_ahead, waiting, to_come}
use Rattle.stream_stages.specs.declared.routes.Route.{Route}
use Rattle.stream_stages.specs.declared.routes.Sight.{Sight}
use Rattle.stream_stages.specs.Underway.{walking_of, HasBegun, IsLight, WayFits, IsGlassSighted, IsSighted, IsUnderway, numbers_of}
use Rattle.stream_stages.proofs.Unnaming.{length_unnamed}
use Rattle.stream_stages.proofs.Geodes.{drawn_geom}
use Rattle.stream_stages.proofs.Starting.{scene_with, all_found, all_counted, few_visited, sending_unnamed}

-- a walk that was begun for a view
pub record Starts (v : Viewpoint) (w : Walking) : Type 0 where
  pub view : w.view ≡ v
  pub fresh : w.fresh ≡ true
  pub way : w.way ≡ []
  pub joints : w.seen.joints.lists ≡ steps_of_view v ∷ []
  pub items : w.seen.items.items ≡ []
  pub visited : w.visited ≡ 0
  pub held : w.held ≡ None
  pub glass : w.glass ≡ []
  pub sent : w.sent ≡ None
  pub item_room : 131072 ≤ w.seen.items.spare
  pub joint_room : 131072 ≤ w.seen.joints.spare

pub has_started : (a : Sight) (r : Route) → HasBegun a.view r → Starts a.view (walking_of a r)
has_started a r h = record {
  view = refl;
  fresh = h.fresh;
  way = h.way;
  joints = h.joints;
  items = h.items;
  visited = h.visited;
  held = h.held;
  glass = h.glass;
  sent = h.sent;
  item_room = h.item_room;
  joint_room = h.joint_room;
}

pub ahead_is : (s : Scene) (v : Viewpoint) (w : Walking) → Starts v w → stops_ahead s w ≡ all_stops s (steps_of_view v)
ahead_is s v w h =
    (λ i. cond (h.fresh i) (stops_in 32 s (scene_stop (steps_of_view (h.view i)))) [] ++ stops_of 31 s w.seen.joints.lists (h.way i))
    ∙ append-nil (all_stops s (steps_of_view v))

found_is : (s : Scene) (v : Viewpoint) (w : Walking) → Starts v w → found_ahead s w ≡ found_from 0 s (all_stops s (steps_of_view v))
found_is s v w h = λ i. found_from (length (h.items i)) s (ahead_is s v w h i)

abbrev sending : List Instance → List Instance
sending xs = filter is_opaque xs ++ in_draw_order (filter (λ x. not (is_opaque x)) xs)

come_is : (s : Scene) (v : Viewpoint) (w : Walking) → Starts v w → to_come s w ≡ sending (found_from 0 s (all_stops s (steps_of_view v)))
come_is s v w h = λ i.
    option_map_or (λ k. waiting s.look w (drop k w.glass)) (h.sent i)
    (waiting s.look w (option_to_list (h.held i)) ++ filter is_opaque (found_is s v w h i)
    ++ in_draw_order (waiting s.look w (h.glass i) ++ filter (λ x. not (is_opaque x)) (found_is s v w h i)))

pub come_whole : (look : Look) (boxes : ℕ → Option Bounds) (lens : Lens) (time : ℕ) (v : Viewpoint) (w : Walking) → Starts v w → KeepsLimits look → ((id : ℕ) → boxes id ≡ box_of look id) →
    to_come (scene_with look boxes lens time) w ≡ map unnamed (in_sending_order (shown look time v lens))
come_whole look boxes lens time v w h limits are =
    come_is (scene_with look boxes lens time) v w h
    ∙ ap sending (all_found look boxes lens time v limits are)
    ∙ sending_unnamed (shown look time v lens)

pub come_counted : (look : Look) (boxes : ℕ → Option Bounds) (lens : Lens) (time : ℕ) (v : Viewpoint) (w : Walking) → Starts v w → KeepsLimits look → ((id : ℕ) → boxes id ≡ box_of look id) →
    length (stops_ahead (scene_with look boxes lens time) w) ≡ visited look time v lens
come_counted look boxes lens time v w h limits are =
    ap length (ahead_is (scene_with look boxes lens time) v w h) ∙ all_counted look boxes lens time v limits are

-- ---- numbers
any_unnamed : (state : ℕ) (xs : List Instance) → list_any (is_of_state state) (map unnamed xs) ≡ list_any (is_of_state state) xs
any_unnamed state [] = refl
any_unnamed state (x ∷ xs) = ap (λ (b : Bool). is_of_state state x || b) (any_unnamed state xs)

states_unnamed : (xs : List Instance) → state_count (map unnamed xs) ≡ state_count xs
states_unnamed xs = ap (λ (p : ℕ → Bool). count_by p all_states) (λ i state. any_unnamed state xs i)

pub come_numbers : (look : Look) (boxes : ℕ → Option Bounds) (lens : Lens) (time : ℕ) (v : Viewpoint) (w : Walking) → Starts v w → KeepsLimits look → ((id : ℕ) → boxes id ≡ box_of look id) →
    numbers_of (scene_with look boxes lens time) w ≡ stats_of look time v lens
come_numbers look boxes lens time v w h limits are = λ i. record {
  shown = counted i;
  states = stated i;
  visited = passed i;
}
  where
    s : Scene
    s = scene_with look boxes lens time

    found : found_ahead s w ≡ map unnamed (shown look time v lens)
    found = found_is s v w h ∙ all_found look boxes lens time v limits are

    counted : length w.seen.items.items + length (found_ahead s w) ≡ length (shown look time v lens)
    counted = omega (arith, ap length h.items, ap length found, length_unnamed (shown look time v lens))

    stated : state_count (instances_in w.seen ++ found_ahead s w) ≡ state_count (shown look time v lens)
    stated =
        (λ i. state_count (map (instance_of_item w.seen.joints.lists w.seen.kept.tris) (h.items i) ++ found i))
        ∙ states_unnamed (shown look time v lens)

    passed : w.visited + length (stops_ahead s w) ≡ visited look time v lens
    passed = omega (arith, h.visited, come_counted look boxes lens time v w h limits are)

-- ---- the walk goes on from there
light_is : (look : Look) → KeepsLimits look → IsLight look
light_is look limits = record {
  narrow = limits.narrow;
  light = λ id n surface found drawn. omega (arith, limits.light id n surface.tris found (drawn_geom n.kind surface drawn));
}

pub come_underway : (look : Look) (boxes : ℕ → Option Bounds) (w : Walking) (v : Viewpoint) → Starts v w → KeepsLimits look → ((id : ℕ) → boxes id ≡ box_of look id) →
    IsUnderway (scene_with look boxes w.lens w.time) w
come_underway look boxes w v h limits are = record {
  scene = light_is look limits;
  time = refl;
  lens = refl;
  zero = ap (λ (ls : List (List Matrix)). steps_at ls 0) h.joints ∙ ap steps_of_view (sym h.view);
  way = subst (WayFits look w.seen.joints.lists (steps_of_view w.view)) (sym h.way) tt;
  items = omega (arith, few, h.item_room);
  joints = omega (arith, few, h.joint_room);
  room = omega (arith, few, none);
  held = subst (λ (o : Option Sighting). IfSome o (λ x. IsSighted look x × (is_some x.tint ≡ false))) (sym h.held) tt;
  glass = subst (AllByRecursion (IsGlassSighted look (length w.seen.items.items))) (sym h.glass) tt;
  rising = λ sent. subst (λ (xs : List Sighting). IsRising (map (λ x. x.place) xs)) (sym h.glass) tt;
  passed = omega (arith, few, h.visited);
  over = λ sent. absurd (let no : false ≡ true = sym (ap is_some h.sent) ∙ sent in cc);
}
  where
    few : length (stops_ahead (scene_with look boxes w.lens w.time) w) ≤ 131072
    few = omega (arith, come_counted look boxes w.lens w.time v w h limits are, few_visited look w.lens w.time v limits)

    none : length w.glass ≡ 0
    none = ap length h.glass
