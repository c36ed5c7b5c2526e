-- What a visit leaves of what the walk keeps.
use Rattle.std.proofs.Common.{◌≡◌, ◌∙◌, ℕ, ◌+◌, ◌-◌, ◌≤◌, ◌<◌, List, [], ◌∷◌, ◌++◌, length, take, Bool, true, false, cond, Option, Some, None, ap, sym, refl, subst, arith, length-append}
use Rattle.std.specs.Prelude.{map, nat_lt, ◌==◌, is_some, IfSome}
use Rattle.std.specs.List.{AllByRecursion}
use Rattle.std.specs.Option.{option_map_or, option_and_then}
use Rattle.std.proofs.lemmas.Bool.Decides.{nat_tests}
use Rattle.std.proofs.lemmas.List.{length-map}
use Rattle.fx_math.specs.Plain.{Matrix, Bounds}
use Rattle.pf_model.specs.declared.nodes.Chosen.{Chosen}
use Rattle.pf_model.specs.declared.nodes.Node.{Node}
use Rattle.pf_model.specs.Graphs.{Look}
use Rattle.pf_model.specs.Kinds.{Surface, surface_of, own_steps}
use Rattle.pf_model.specs.Limits.{IsRising}
use Rattle.pf_model.specs.Walks.{chosen_in, steps_of_view}
use Rattle.draw_list.specs.declared.items.Item.{Item}
use Rattle.draw_list.specs.Joints.{steps_at}
use Rattle.draw_list.specs.Items.{ItemList, with_item}
use Rattle.draw_list.specs.Kept.{empty_span}
use Rattle.draw_list.specs.Lists.{Drawables}
use Rattle.cull_walk.specs.Working.{Scene, At, counted, item_at, own_pose, joint_below, with_below}
use Rattle.stream_stages.specs.declared.levels.Level.{Level}
use Rattle.stream_stages.specs.declared.sightings.Sighting.{Sighting}
use Rattle.stream_stages.specs.Stops.{box_at}
use Rattle.stream_stages.specs.Routes.{Walking, padded, steps_along, AreNodes}
use Rattle.stream_stages.specs.Going.{spotted, with_glass, with_waiting, with_seen, found_in, level_of, with_level, lowered_in, entered_in, shown_in, seen_in, visited_in}
use Rattle.stream_stages.specs.Underway.{HaveLevels, steps_of_node, WayFits, IsSighted, IsGlassSighted}
use Rattle.stream_stages.proofs.Lowering.{HasMoreJoints, IsLower, lowered}
use Rattle.stream_stages.proofs.Finding.{ids_of, nodes_above_are}

-- what is kept on the way, and of what waits
pub record IsKept (look : Look) (w : Walking) : Type 0 where
  pub zero : steps_at w.seen.joints.lists 0 ≡ steps_of_view w.view
  pub way : WayFits look w.seen.joints.lists (steps_of_view w.view) w.way
  pub held : IfSome w.held (λ x. IsSighted look x × (is_some x.tint ≡ false))
  pub glass : AllByRecursion (IsGlassSighted look (length w.seen.items.items)) w.glass
  pub rising : IsRising (map (λ x. x.place) w.glass)
  pub levels : HaveLevels (length w.seen.joints.lists) w.way
  pub first : 0 < length w.seen.joints.lists
  pub deep : length w.way ≤ 31

-- what changes by one at most, and what stays
pub record GoesOn (w v : Walking) : Type 0 where
  pub time : v.time ≡ w.time
  pub view : v.view ≡ w.view
  pub lens : v.lens ≡ w.lens
  pub fresh : v.fresh ≡ w.fresh
  pub sent : v.sent ≡ w.sent
  pub visited : v.visited ≡ counted w.visited
  pub items : w.seen.items.spare ≤ v.seen.items.spare + 1
  pub joints : w.seen.joints.spare ≤ v.seen.joints.spare + 1
  pub glass : length v.glass ≤ length w.glass + 1

-- a spot below the way whose node is there
pub record IsBelowWay (look : Look) (w : Walking) (a : At) : Type 0 where
  pub joint : a.joint < length w.seen.joints.lists
  pub along : steps_along look (steps_of_view w.view) (ids_of w.way) ≡ steps_at w.seen.joints.lists a.joint
  pub nodes : AreNodes look (ids_of w.way)
  pub items : 0 < w.seen.items.spare
  pub joints : 0 < w.seen.joints.spare
  pub glass : length w.glass < 131072
  pub held : w.held ≡ None

-- ---- the way
pub nodes_on : (look : Look) (lists : List (List Matrix)) (above : List Matrix) (ls : List Level) → WayFits look lists above ls → AreNodes look (ids_of ls)
nodes_on look lists above [] h = tt
nodes_on look lists above (l ∷ ls) h = (h.0, nodes_on look lists (steps_of_node look l.id ++ above) ls h.2)

-- the steps of the last level are those along the way
pub last_steps : (look : Look) (lists : List (List Matrix)) (above : List Matrix) (ls : List Level) (l : Level) → WayFits look lists above (ls ++ l ∷ []) →
    steps_along look above (ids_of (ls ++ l ∷ [])) ≡ steps_at lists l.joint
last_steps look lists above [] l h = sym h.1
last_steps look lists above (k ∷ ls) l h = last_steps look lists (steps_of_node look k.id ++ above) ls l h.2

way_longer : (look : Look) (lists more : List (List Matrix)) (above : List Matrix) (ls : List Level) → ((j : ℕ) → j < length lists → steps_at more j ≡ steps_at lists j) → HaveLevels (length lists) ls →
    WayFits look lists above ls → WayFits look more above ls
way_longer look lists more above [] same there h = tt
way_longer look lists more above (l ∷ ls) same there h =
    (h.0, same l.joint there.0 ∙ h.1, way_longer look lists more (steps_of_node look l.id ++ above) ls same there.1 h.2)

way_pushed : (look : Look) (lists : List (List Matrix)) (above : List Matrix) (ls : List Level) (l : Level) → WayFits look lists above ls → is_some (look l.id) ≡ true →
    steps_at lists l.joint ≡ steps_of_node look l.id ++ steps_along look above (ids_of ls) → WayFits look lists above (ls ++ l ∷ [])
way_pushed look lists above [] l h node steps = (node, steps, tt)
way_pushed look lists above (k ∷ ls) l h node steps = (h.0, h.1, way_pushed look lists (steps_of_node look k.id ++ above) ls l h.2 node steps)

pub levels_more : (m n : ℕ) (ls : List Level) → m ≤ n → HaveLevels m ls → HaveLevels n ls
levels_more m n [] l h = tt
levels_more m n (k ∷ ls) l h = (omega (arith, h.0, l), levels_more m n ls l h.1)

pub levels_pushed : (n : ℕ) (ls : List Level) (l : Level) → HaveLevels n ls → l.joint < n → HaveLevels n (ls ++ l ∷ [])
levels_pushed n [] l h there = (there, tt)
levels_pushed n (k ∷ ls) l h there = (h.0, levels_pushed n ls l h.1 there)

-- ---- a level more
pushed_kept : (look : Look) (w : Walking) (e : Drawables) (l : Level) → IsKept look w → HasMoreJoints w.seen e → l.joint < length e.joints.lists → is_some (look l.id) ≡ true → length w.way < 31 →
    steps_at e.joints.lists l.joint ≡ steps_of_node look l.id ++ steps_along look (steps_of_view w.view) (ids_of w.way) → IsKept look (record w { seen = e; way = w.way ++ l ∷ [] })
pushed_kept look w e l kept more there node few steps = record {
  zero = more.steps 0 kept.first ∙ kept.zero;
  way = way_pushed look e.joints.lists (steps_of_view w.view) w.way l (way_longer look w.seen.joints.lists e.joints.lists (steps_of_view w.view) w.way more.steps kept.levels kept.way) node steps;
  held = kept.held;
  glass = subst (λ (items : ItemList). AllByRecursion (IsGlassSighted look (length items.items)) w.glass) (sym more.items) kept.glass;
  rising = kept.rising;
  levels = levels_pushed (length e.joints.lists) w.way l (levels_more (length w.seen.joints.lists) (length e.joints.lists) w.way more.longer kept.levels) there;
  first = omega (arith, kept.first, more.longer);
  deep = omega (arith, few, length-append w.way (l ∷ []));
}

-- ---- glass more
glass_longer : (look : Look) (m n : ℕ) (xs : List Sighting) → m ≤ n → AllByRecursion (IsGlassSighted look m) xs → AllByRecursion (IsGlassSighted look n) xs
glass_longer look m n [] l h = tt
glass_longer look m n (x ∷ xs) l h = (record { there = h.0.there; glass = h.0.glass; earlier = omega (arith, h.0.earlier, l) }, glass_longer look m n xs l h.1)

glass_pushed : (look : Look) (n : ℕ) (xs : List Sighting) (x : Sighting) → AllByRecursion (IsGlassSighted look n) xs → IsGlassSighted look n x → AllByRecursion (IsGlassSighted look n) (xs ++ x ∷ [])
glass_pushed look n [] x h g = (g, tt)
glass_pushed look n (y ∷ xs) x h g = (h.0, glass_pushed look n xs x h.1 g)

abbrev places_of : List Sighting → List ℕ
places_of xs = map (λ x. x.place) xs

below_last : (look : Look) (n : ℕ) (p : ℕ) (xs : List Sighting) (x : Sighting) → AllByRecursion (λ (q : ℕ). p < q) (places_of xs) → p < x.place → AllByRecursion (λ (q : ℕ). p < q) (places_of (xs ++ x ∷ []))
below_last look n p [] x h l = (l, tt)
below_last look n p (y ∷ xs) x h l = (h.0, below_last look n p xs x h.1 l)

places_pushed : (look : Look) (n : ℕ) (xs : List Sighting) (x : Sighting) → AllByRecursion (IsGlassSighted look n) xs → IsRising (places_of xs) → n ≤ x.place → IsRising (places_of (xs ++ x ∷ []))
places_pushed look n [] x h rise l = (tt, tt)
places_pushed look n (y ∷ xs) x h rise l =
    (below_last look n y.place xs x rise.0 (omega (arith, h.0.earlier, l)), places_pushed look n xs x h.1 rise.1 l)

-- ---- a geode found
spotted_there : (look : Look) (w : Walking) (a : At) (around : Bounds) (n : Node) (t : Surface) → IsKept look w → IsBelowWay look w a → look a.id ≡ Some n → surface_of n.kind ≡ Some t → IsSighted look (spotted w a around t)
spotted_there look w a around n t kept spot found drawn = record {
  drawn = ap (λ (m : Option Node). is_some (option_and_then (λ p. surface_of p.kind) m)) found ∙ ap is_some drawn;
  above = subst (AreNodes look) (sym ids) spot.nodes;
  deep = omega (arith, ap length ids, length-map w.way (λ l. l.id), kept.deep);
}
  where
    ids : take (length w.way) (padded (ids_of w.way)) ≡ ids_of w.way
    ids = nodes_above_are (ids_of w.way) (length w.way) (sym (length-map w.way (λ l. l.id)))

pushed_item : (i : Item) (d : ItemList) → 0 < d.spare → with_item i d ≡ record { items = d.items ++ i ∷ []; spare = d.spare - 1 }
pushed_item i d h = ap (λ (t : Bool). cond t d (record { items = d.items ++ i ∷ []; spare = d.spare - 1 })) (not_zero d.spare h)
  where
    not_zero : (n : ℕ) → 0 < n → (n == 0) ≡ false
    not_zero n l = grind (arith, nat_tests)

pub record FindsIn (look : Look) (w v : Walking) : Type 0 where
  pub kept : IsKept look v
  pub goes : GoesOn (record w { visited = v.visited }) (record v { visited = counted v.visited })
  pub visited : v.visited ≡ w.visited
  pub more : length v.seen.items.items ≡ length w.seen.items.items + 1

abbrev seen_more : Walking → At → Bounds → Surface → Walking
seen_more w a around t = record w { seen = record { joints = w.seen.joints; items = record { items = w.seen.items.items ++ item_at a around (length w.seen.items.items) t empty_span ∷ []; spare = w.seen.items.spare - 1 }; kept = w.seen.kept } }

found_kept : (look : Look) (w : Walking) (a : At) (around : Bounds) (n : Node) (t : Surface) → IsKept look w → IsBelowWay look w a → look a.id ≡ Some n → surface_of n.kind ≡ Some t →
    FindsIn look w (with_waiting (spotted w a around t) (seen_more w a around t))
found_kept look w a around n t kept spot found drawn = by (is_some x.tint) refl
  where
    x : Sighting
    x = spotted w a around t

    u : Walking
    u = seen_more w a around t

    count : ℕ
    count = length w.seen.items.items

    longer : length u.seen.items.items ≡ count + 1
    longer = length-append w.seen.items.items (item_at a around count t empty_span ∷ [])

    there : IsSighted look x
    there = spotted_there look w a around n t kept spot found drawn

    old_glass : AllByRecursion (IsGlassSighted look (length u.seen.items.items)) w.glass
    old_glass = glass_longer look count (length u.seen.items.items) w.glass (omega (arith, longer)) kept.glass

    room : with_glass x w.glass ≡ w.glass ++ x ∷ []
    room = ap (λ (b : Bool). cond b (w.glass ++ x ∷ []) w.glass) (less (length w.glass) spot.glass)
      where
        less : (m : ℕ) → m < 131072 → nat_lt m 131072 ≡ true
        less m l = grind (arith, nat_tests)

    by : (b : Bool) → is_some x.tint ≡ b → FindsIn look w (cond b (record u { glass = with_glass x w.glass }) (record u { held = Some x }))
    by true e =
        subst (λ (xs : List Sighting). FindsIn look w (record u { glass = xs })) (sym room) (record {
          kept = record {
            zero = kept.zero;
            way = kept.way;
            held = kept.held;
            glass = glass_pushed look (length u.seen.items.items) w.glass x old_glass (record { there = there; glass = e; earlier = omega (arith, longer) });
            rising = places_pushed look count w.glass x kept.glass kept.rising (omega arith);
            levels = kept.levels;
            first = kept.first;
            deep = kept.deep;
          };
          goes = record {
            time = refl;
            view = refl;
            lens = refl;
            fresh = refl;
            sent = refl;
            visited = refl;
            items = omega arith;
            joints = omega arith;
            glass = omega (arith, length-append w.glass (x ∷ []));
          };
          visited = refl;
          more = longer;
        })
    by false e = record {
      kept = record {
        zero = kept.zero;
        way = kept.way;
        held = (there, e);
        glass = old_glass;
        rising = kept.rising;
        levels = kept.levels;
        first = kept.first;
        deep = kept.deep;
      };
      goes = record {
        time = refl;
        view = refl;
        lens = refl;
        fresh = refl;
        sent = refl;
        visited = refl;
        items = omega arith;
        joints = omega arith;
        glass = omega arith;
      };
      visited = refl;
      more = longer;
    }

-- ---- a visit
pub record IsVisited (look : Look) (w v : Walking) : Type 0 where
  pub kept : IsKept look v
  pub goes : GoesOn w v

counted_kept : (look : Look) (w : Walking) → IsKept look w → IsVisited look w (record w { visited = counted w.visited })
counted_kept look w kept = record {
  kept = record { zero = kept.zero; way = kept.way; held = kept.held; glass = kept.glass; rising = kept.rising; levels = kept.levels; first = kept.first; deep = kept.deep };
  goes = record { time = refl; view = refl; lens = refl; fresh = refl; sent = refl; visited = refl; items = omega arith; joints = omega arith; glass = omega arith };
}

entered_kept : (s : Scene) (w : Walking) (a : At) (n : Node) → IsKept s.look w → IsBelowWay s.look w a → s.look a.id ≡ Some n →
    IsVisited s.look w (entered_in s (record w { visited = counted w.visited }) a n)
entered_kept s w a n kept spot found = by (nat_lt (length w.way) 31) refl
  where
    u : Walking
    u = record w { visited = counted w.visited }

    ch : Chosen
    ch = chosen_in s.time n (steps_at w.seen.joints.lists a.joint)

    e : Drawables
    e = with_below a.joint w.seen (own_pose n.kind)

    low : IsLower w.seen e (joint_below a.joint w.seen (own_pose n.kind)) (own_steps n.kind ++ steps_at w.seen.joints.lists a.joint)
    low = lowered w.seen a.joint n.kind spot.joint spot.joints

    l : Level
    l = level_of a ch (length n.children) low.joint

    steps : steps_at e.joints.lists low.joint ≡ steps_of_node s.look a.id ++ steps_along s.look (steps_of_view w.view) (ids_of w.way)
    steps = low.steps_are ∙ (λ i. option_map_or (λ m. own_steps m.kind) (sym found i) [] ++ sym spot.along i)

    less : (m : ℕ) → nat_lt m 31 ≡ true → m < 31
    less m e = grind (arith, nat_tests)

    pushed : length w.way < 31 → IsVisited s.look w (record u { seen = e; way = w.way ++ l ∷ [] })
    pushed few = record {
      kept = pushed_kept s.look u e l (counted_kept s.look w kept).kept low.more low.there (ap is_some found) few steps;
      goes = record {
        time = refl;
        view = refl;
        lens = refl;
        fresh = refl;
        sent = refl;
        visited = refl;
        items = omega (arith, ap (λ (d : ItemList). d.spare) low.more.items);
        joints = low.spent;
        glass = omega arith;
      };
    }

    by : (b : Bool) → nat_lt (length w.way) 31 ≡ b → IsVisited s.look w (cond b (lowered_in u a n ch) u)
    by true f = subst (λ (o : Option ℕ). IsVisited s.look w (with_level (record u { seen = e }) a ch (length n.children) o)) (sym low.answers) (pushed (less (length w.way) f))
    by false f = counted_kept s.look w kept

geode_kept : (look : Look) (w : Walking) (a : At) (around : Bounds) (n : Node) (t : Surface) → IsKept look w → IsBelowWay look w a → look a.id ≡ Some n → surface_of n.kind ≡ Some t →
    IsVisited look w (found_in (record w { visited = counted w.visited }) a around t)
geode_kept look w a around n t kept spot found drawn =
    subst (IsVisited look w) (sym is) (record {
      kept = finds.kept;
      goes = record {
        time = finds.goes.time;
        view = finds.goes.view;
        lens = finds.goes.lens;
        fresh = finds.goes.fresh;
        sent = finds.goes.sent;
        visited = finds.visited;
        items = finds.goes.items;
        joints = finds.goes.joints;
        glass = finds.goes.glass;
      };
    })
  where
    u : Walking
    u = record w { visited = counted w.visited }

    finds : FindsIn look u (with_waiting (spotted u a around t) (seen_more u a around t))
    finds = found_kept look u a around n t (counted_kept look w kept).kept (record { joint = spot.joint; along = spot.along; nodes = spot.nodes; items = spot.items; joints = spot.joints; glass = spot.glass; held = spot.held }) found drawn

    zero_not : (m : ℕ) → 0 < m → (m == 0) ≡ false
    zero_not m l = grind (arith, nat_tests)

    is : found_in u a around t ≡ with_waiting (spotted u a around t) (seen_more u a around t)
    is =
        ap (λ (b : Bool). cond b u (with_waiting (spotted u a around t) (record u { seen = with_seen a around t u.seen }))) (zero_not w.seen.items.spare spot.items)
        ∙ ap (λ (d : ItemList). with_waiting (spotted u a around t) (record u { seen = record { joints = w.seen.joints; items = d; kept = w.seen.kept } })) (pushed_item (item_at a around (length w.seen.items.items) t empty_span) w.seen.items spot.items)

pub visited_kept : (s : Scene) (w : Walking) (a : At) → IsKept s.look w → IsBelowWay s.look w a → IsVisited s.look w (visited_in s w a)
visited_kept s w a kept spot = by (box_at s (record { id = a.id; steps = steps_at w.seen.joints.lists a.joint; shift = a.shift }))
  where
    u : Walking
    u = record w { visited = counted w.visited }

    surface : (around : Bounds) (n : Node) → s.look a.id ≡ Some n → (t : Option Surface) → surface_of n.kind ≡ t → IsVisited s.look w (shown_in s u a around n t)
    surface around n f None g = entered_kept s w a n kept spot f
    surface around n f (Some t) g = geode_kept s.look w a around n t kept spot f g

    node : (around : Bounds) (m : Option Node) → s.look a.id ≡ m → IsVisited s.look w (option_map_or (λ n. shown_in s u a around n (surface_of n.kind)) m u)
    node around None f = counted_kept s.look w kept
    node around (Some n) f = surface around n f (surface_of n.kind) refl

    by : (b : Option Bounds) → IsVisited s.look w (seen_in s u a b)
    by None = counted_kept s.look w kept
    by (Some around) = node around (s.look a.id) refl
