-- What a visit finds is taken from what is to come.
use Rattle.std.proofs.Common.{◌≡◌, ◌∙◌, ℕ, ◌+◌, ◌-◌, ◌<◌, List, [], ◌∷◌, ◌++◌, length, take, Bool, true, false, cond, not, Option, Some, None, ap, sym, refl, arith, length-append, append_assoc}
use Rattle.std.specs.Prelude.{map, filter, nat_lt, ◌==◌, is_some, is_none, replicate}
use Rattle.std.specs.Option.{option_map, option_map_or, option_and_then, option_to_list}
use Rattle.std.proofs.lemmas.Bool.Decides.{nat_tests}
use Rattle.std.proofs.lemmas.List.{map-append, length-map}
use Rattle.std.proofs.Math.Seq.{take-append_seam}
use Rattle.fx_math.specs.Plain.{Bounds}
use Rattle.pf_model.specs.declared.geometry.Tri.{Tri}
use Rattle.pf_model.specs.declared.nodes.Node.{Node}
use Rattle.pf_model.specs.Boxes.{squared_distance}
use Rattle.pf_model.specs.Kinds.{Surface, surface_of}
use Rattle.pf_model.specs.declared.poses.Pose.{Pose}
use Rattle.pf_model.specs.Walks.{Instance, steps_of_view, chosen_in}
use Rattle.draw_list.specs.declared.items.Item.{Item}
use Rattle.draw_list.specs.Joints.{steps_at}
use Rattle.draw_list.specs.Items.{ItemList, with_item}
use Rattle.draw_list.specs.Kept.{empty_span}
use Rattle.draw_list.specs.Order.{is_opaque, in_draw_order}
use Rattle.tri_cover.specs.Labels.{placed}
use Rattle.draw_list.specs.Lists.{Drawables}
use Rattle.cull_walk.specs.Working.{Scene, At, counted, tint_at, item_at, own_pose, joint_below, with_below}
use Rattle.stream_stages.specs.declared.levels.Level.{Level}
use Rattle.stream_stages.specs.declared.sightings.Sighting.{Sighting}
use Rattle.stream_stages.specs.Stops.{Stop, box_at, surface_at, instance_at, found_at, found_from}
use Rattle.stream_stages.specs.Routes.{Walking, steps_along, padded, sighted, waiting}
use Rattle.stream_stages.specs.Going.{spotted, with_glass, with_waiting, with_seen, found_in, with_level, lowered_in, entered_in, shown_in, seen_in, visited_in}
use Rattle.stream_stages.proofs.Found.{found_none, found_one}
use Rattle.stream_stages.proofs.Geodes.{drawn_geom, geom_in}
use Rattle.stream_stages.proofs.Visiting.{stop_of}

abbrev pub ids_of : List Level → List ℕ
ids_of ls = map (λ l. l.id) ls

-- what is to be sent where these stops are still to come
abbrev pub coming : Scene → Walking → List Stop → List Instance
coming s w os =
    waiting s.look w (option_to_list w.held)
    ++ filter is_opaque (found_from (length w.seen.items.items) s os)
    ++ in_draw_order (waiting s.look w w.glass ++ filter (λ x. not (is_opaque x)) (found_from (length w.seen.items.items) s os))

-- a spot whose instance has room to wait, under the steps of the way
pub record CanFind (s : Scene) (w : Walking) (a : At) : Type 0 where
  pub along : steps_along s.look (steps_of_view w.view) (ids_of w.way) ≡ steps_at w.seen.joints.lists a.joint
  pub items : 0 < w.seen.items.spare
  pub glass : length w.glass < 131072
  pub held : w.held ≡ None

-- ---- the instance
pub nodes_above_are : (ids : List ℕ) (n : ℕ) → n ≡ length ids → take n (padded ids) ≡ ids
nodes_above_are ids n e = ap (λ (k : ℕ). take k (padded ids)) e ∙ take-append_seam ids (replicate (32 - length ids) 0)

pub tint_is : (around : Bounds) (t : Option ℕ) → option_map (λ u. u.alpha) (option_map (tint_at around) t) ≡ t
tint_is around None = refl
tint_is around (Some alpha) = refl

far_is : (around : Bounds) (t : Option ℕ) → option_map_or (λ u. u.far) (option_map (tint_at around) t) 0 ≡ option_map_or (λ _. squared_distance around) t 0
far_is around None = refl
far_is around (Some alpha) = refl

sighted_is : (s : Scene) (w : Walking) (a : At) (around : Bounds) (n : Node) (t : Surface) → CanFind s w a → s.look a.id ≡ Some n → surface_of n.kind ≡ Some t →
    sighted s.look (steps_of_view w.view) (spotted w a around t) ≡ placed (length w.seen.items.items, instance_at (stop_of w a) around t)
sighted_is s w a around n t can found drawn = λ i. record {
  place = length w.seen.items.items;
  id = 0;
  state = t.state;
  tint = tint_is around t.tint i;
  shift = a.shift;
  steps = steps i;
  tris = tris i;
  far = far_is around t.tint i;
}
  where
    steps : steps_along s.look (steps_of_view w.view) (take (length w.way) (padded (ids_of w.way))) ≡ steps_at w.seen.joints.lists a.joint
    steps = ap (steps_along s.look (steps_of_view w.view)) (nodes_above_are (ids_of w.way) (length w.way) (sym (length-map w.way (λ l. l.id)))) ∙ can.along

    tris : geom_in (s.look a.id) ≡ t.tris
    tris = ap geom_in found ∙ ap (λ (o : Option (List Tri)). option_map_or (λ ts. ts) o []) (drawn_geom n.kind t drawn)

-- ---- what is to come
pub one_item : (i : Item) (d : ItemList) → 0 < d.spare → (with_item i d).items ≡ d.items ++ i ∷ []
one_item i d h = ap (λ (t : Bool). (cond t d (record { items = d.items ++ i ∷ []; spare = d.spare - 1 })).items) (not_zero d.spare h)
  where
    not_zero : (n : ℕ) → 0 < n → (n == 0) ≡ false
    not_zero n l = grind (arith, nat_tests)

room_left : (n : ℕ) → n < 131072 → nat_lt n 131072 ≡ true
room_left n l = grind (arith, nat_tests)

some_spare : (n : ℕ) → 0 < n → (n == 0) ≡ false
some_spare n l = grind (arith, nat_tests)

abbrev opaque_of : List Instance → List Instance
opaque_of xs = filter is_opaque xs

abbrev glass_of : List Instance → List Instance
glass_of xs = filter (λ x. not (is_opaque x)) xs

-- the parts of what is to be sent: what waits, the number of what is found next, and the glass
abbrev parts : Scene → List Instance → ℕ → List Instance → List Stop → List Instance
parts s held n glass os = held ++ opaque_of (found_from n s os) ++ in_draw_order (glass ++ glass_of (found_from n s os))

opaque_comes : (s : Scene) (n : ℕ) (glass : List Instance) (o : Stop) (os : List Stop) (x : Instance) → found_at s o ≡ Some x → is_opaque x ≡ true →
    parts s [] n glass (o ∷ os) ≡ parts s (placed (n, x) ∷ []) (n + 1) glass os
opaque_comes s n glass o os x e opaque =
    ap (λ (xs : List Instance). opaque_of xs ++ in_draw_order (glass ++ glass_of xs)) (found_one n s o os x e)
    ∙ ap (λ (t : Bool). cond t (placed (n, x) ∷ opaque_of later) (opaque_of later) ++ in_draw_order (glass ++ cond (not t) (placed (n, x) ∷ glass_of later) (glass_of later))) opaque
  where
    later : List Instance
    later = found_from (n + 1) s os

glass_comes : (s : Scene) (n : ℕ) (glass : List Instance) (o : Stop) (os : List Stop) (x : Instance) → found_at s o ≡ Some x → is_opaque x ≡ false →
    parts s [] n glass (o ∷ os) ≡ parts s [] (n + 1) (glass ++ placed (n, x) ∷ []) os
glass_comes s n glass o os x e opaque =
    ap (λ (xs : List Instance). opaque_of xs ++ in_draw_order (glass ++ glass_of xs)) (found_one n s o os x e)
    ∙ ap (λ (t : Bool). cond t (placed (n, x) ∷ opaque_of later) (opaque_of later) ++ in_draw_order (glass ++ cond (not t) (placed (n, x) ∷ glass_of later) (glass_of later))) opaque
    ∙ ap (λ (xs : List Instance). opaque_of later ++ in_draw_order xs) (sym (append_assoc glass (placed (n, x) ∷ []) (glass_of later)))
  where
    later : List Instance
    later = found_from (n + 1) s os

nothing_comes : (s : Scene) (held : List Instance) (n : ℕ) (glass : List Instance) (o : Stop) (os : List Stop) → found_at s o ≡ None →
    parts s held n glass (o ∷ os) ≡ parts s held n glass os
nothing_comes s held n glass o os e = ap (λ (xs : List Instance). held ++ opaque_of xs ++ in_draw_order (glass ++ glass_of xs)) (found_none n s o os e)

-- ---- where nothing is found
pub record StaysFound (w v : Walking) : Type 0 where
  pub items : v.seen.items ≡ w.seen.items
  pub held : v.held ≡ w.held
  pub glass : v.glass ≡ w.glass
  pub view : v.view ≡ w.view

stays_coming : (s : Scene) (w v : Walking) (os : List Stop) → StaysFound w v → coming s w os ≡ coming s v os
stays_coming s w v os h = λ i. parts s (map (sighted s.look (steps_of_view (sym h.view i))) (option_to_list (sym h.held i))) (length (sym h.items i).items)
    (map (sighted s.look (steps_of_view (sym h.view i))) (sym h.glass i)) os

below_items : (joint : ℕ) (d : Drawables) (p : Option Pose) → (with_below joint d p).items ≡ d.items
below_items joint d None = refl
below_items joint d (Some p) = refl

pub entered_stays : (s : Scene) (w : Walking) (a : At) (n : Node) → StaysFound w (entered_in s w a n)
entered_stays s w a n = by (nat_lt (length w.way) 31)
  where
    low : Walking
    low = record w { seen = with_below a.joint w.seen (own_pose n.kind) }

    level : (j : Option ℕ) → StaysFound w (with_level low a (chosen_in s.time n (steps_at w.seen.joints.lists a.joint)) (length n.children) j)
    level None = record { items = below_items a.joint w.seen (own_pose n.kind); held = refl; glass = refl; view = refl }
    level (Some j) = record { items = below_items a.joint w.seen (own_pose n.kind); held = refl; glass = refl; view = refl }

    by : (t : Bool) → StaysFound w (cond t (lowered_in w a n (chosen_in s.time n (steps_at w.seen.joints.lists a.joint))) w)
    by true = level (joint_below a.joint w.seen (own_pose n.kind))
    by false = record { items = refl; held = refl; glass = refl; view = refl }

-- ---- where a geode is found
found_coming : (s : Scene) (w : Walking) (a : At) (around : Bounds) (n : Node) (t : Surface) (os : List Stop) → CanFind s w a → s.look a.id ≡ Some n → surface_of n.kind ≡ Some t →
    found_at s (stop_of w a) ≡ Some (instance_at (stop_of w a) around t) → coming s w (stop_of w a ∷ os) ≡ coming s (found_in w a around t) os
found_coming s w a around n t os can found drawn at =
    ap (λ (h : Option Sighting). parts s (map (sighted s.look (steps_of_view w.view)) (option_to_list h)) count glass (stop_of w a ∷ os)) can.held
    ∙ by t.tint refl
    ∙ ap (λ (b : Bool). coming s (cond b w (with_waiting x u)) os) (sym (some_spare w.seen.items.spare can.items))
  where
    count : ℕ
    count = length w.seen.items.items

    glass : List Instance
    glass = waiting s.look w w.glass

    x : Sighting
    x = spotted w a around t

    u : Walking
    u = record w { seen = with_seen a around t w.seen }

    y : Instance
    y = instance_at (stop_of w a) around t

    one : sighted s.look (steps_of_view w.view) x ≡ placed (count, y)
    one = sighted_is s w a around n t can found drawn

    more : length u.seen.items.items ≡ count + 1
    more =
        ap length (one_item (item_at a around count t empty_span) w.seen.items can.items)
        ∙ length-append w.seen.items.items (item_at a around count t empty_span ∷ [])

    waits : waiting s.look w (with_glass x w.glass) ≡ glass ++ placed (count, y) ∷ []
    waits =
        ap (λ (b : Bool). waiting s.look w (cond b (w.glass ++ x ∷ []) w.glass)) (room_left (length w.glass) can.glass)
        ∙ map-append (sighted s.look (steps_of_view w.view)) w.glass (x ∷ [])
        ∙ ap (λ (z : Instance). glass ++ z ∷ []) one

    by : (o : Option ℕ) → t.tint ≡ o → parts s [] count glass (stop_of w a ∷ os) ≡ coming s (with_waiting x u) os
    by None e =
        opaque_comes s count glass (stop_of w a) os y at (ap is_none e)
        ∙ (λ i. parts s (sym one i ∷ []) (sym more i) glass os)
        ∙ ap (λ (b : Bool). coming s (cond b (record u { glass = with_glass x w.glass }) (record u { held = Some x })) os) (sym (ap (λ (o : Option ℕ). is_some (option_map (tint_at around) o)) e))
    by (Some alpha) e =
        glass_comes s count glass (stop_of w a) os y at (ap is_none e)
        ∙ (λ i. parts s (map (sighted s.look (steps_of_view w.view)) (option_to_list (sym can.held i))) (sym more i) (sym waits i) os)
        ∙ ap (λ (b : Bool). coming s (cond b (record u { glass = with_glass x w.glass }) (record u { held = Some x })) os) (sym (ap (λ (o : Option ℕ). is_some (option_map (tint_at around) o)) e))

-- ---- a visit
pub visited_coming : (s : Scene) (w : Walking) (a : At) (os : List Stop) → CanFind s w a → coming s w (stop_of w a ∷ os) ≡ coming s (visited_in s w a) os
visited_coming s w a os can = by (box_at s (stop_of w a)) refl
  where
    u : Walking
    u = record w { visited = counted w.visited }

    o : Stop
    o = stop_of w a

    nothing : (v : Walking) → StaysFound w v → found_at s o ≡ None → coming s w (o ∷ os) ≡ coming s v os
    nothing v h e =
        nothing_comes s (waiting s.look w (option_to_list w.held)) (length w.seen.items.items) (waiting s.look w w.glass) o os e
        ∙ stays_coming s w v os h

    surface : (around : Bounds) (n : Node) → box_at s o ≡ Some around → s.look a.id ≡ Some n → (t : Option Surface) → surface_of n.kind ≡ t → coming s w (o ∷ os) ≡ coming s (shown_in s u a around n t) os
    surface around n e f None g =
        nothing (entered_in s u a n)
        (let h : StaysFound u (entered_in s u a n) = entered_stays s u a n in record { items = h.items; held = h.held; glass = h.glass; view = h.view })
        (ap (option_and_then (λ b. option_map (instance_at o b) (surface_at s a.id))) e
        ∙ ap (λ (m : Option Node). option_map (instance_at o around) (option_and_then (λ n. surface_of n.kind) m)) f
        ∙ ap (option_map (instance_at o around)) g)
    surface around n e f (Some t) g =
        found_coming s u a around n t os (record { along = can.along; items = can.items; glass = can.glass; held = can.held }) f g
        (ap (option_and_then (λ b. option_map (instance_at o b) (surface_at s a.id))) e
        ∙ ap (λ (m : Option Node). option_map (instance_at o around) (option_and_then (λ n. surface_of n.kind) m)) f
        ∙ ap (option_map (instance_at o around)) g)

    node : (around : Bounds) → box_at s o ≡ Some around → (m : Option Node) → s.look a.id ≡ m → coming s w (o ∷ os) ≡ coming s (option_map_or (λ n. shown_in s u a around n (surface_of n.kind)) m u) os
    node around e None f =
        nothing u (record { items = refl; held = refl; glass = refl; view = refl })
        (ap (option_and_then (λ b. option_map (instance_at o b) (surface_at s a.id))) e
        ∙ ap (λ (m : Option Node). option_map (instance_at o around) (option_and_then (λ n. surface_of n.kind) m)) f)
    node around e (Some n) f = surface around n e f (surface_of n.kind) refl

    by : (b : Option Bounds) → box_at s o ≡ b → coming s w (o ∷ os) ≡ coming s (seen_in s u a b) os
    by None e =
        nothing u (record { items = refl; held = refl; glass = refl; view = refl })
        (ap (option_and_then (λ b. option_map (instance_at o b) (surface_at s a.id))) e)
    by (Some around) e = node around e (s.look a.id) refl
