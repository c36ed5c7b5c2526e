-- What a visit makes of the stops that are to come, and what it finds.
use Rattle.std.proofs.Common.{◌≡◌, ◌∙◌, ℕ, suc, ◌-◌, ◌≤◌, ◌<◌, List, [], ◌∷◌, ◌++◌, length, Bool, true, false, cond, Option, Some, None, ap, sym, refl, arith}
use Rattle.std.specs.Prelude.{map, flat_map, nat_lt, ◌==◌, is_some}
use Rattle.std.specs.Option.{option_map_or}
use Rattle.std.proofs.lemmas.Bool.Decides.{nat_tests}
use Rattle.fx_math.specs.Plain.{Matrix, Point, Bounds}
use Rattle.pf_model.specs.declared.nodes.Chosen.{Chosen}
use Rattle.pf_model.specs.declared.nodes.Chosen.TheVariants as chosen
use Rattle.pf_model.specs.declared.nodes.Kind.{Kind}
use Rattle.pf_model.specs.declared.nodes.Kind.TheVariants.{Group, Switch, Scs, Dcs, Lod, Seq, Layer, Geode, Glass}
use Rattle.pf_model.specs.declared.nodes.Node.{Node}
use Rattle.pf_model.specs.Kinds.{Surface, surface_of, own_steps, chosen_of}
use Rattle.pf_model.specs.Walks.{shown_children, chosen_in}
use Rattle.draw_list.specs.Joints.{steps_at}
use Rattle.cull_walk.specs.Working.{Scene, At, counted, own_pose, joint_below, with_below}
use Rattle.stream_stages.specs.declared.levels.Level.{Level}
use Rattle.stream_stages.specs.declared.sightings.Sighting.{Sighting}
use Rattle.stream_stages.specs.Stops.{Stop, box_at, stop_below, stops_below, stops_in}
use Rattle.stream_stages.specs.Routes.{Walking, stops_of}
use Rattle.stream_stages.specs.Going.{spotted, with_glass, with_waiting, with_seen, found_in, level_of, with_level, lowered_in, entered_in, shown_in, seen_in, visited_in}
use Rattle.stream_stages.specs.Underway.{HaveLevels}
use Rattle.stream_stages.proofs.Lowering.{IsLower, lowered}
use Rattle.stream_stages.proofs.LevelStops.{left_new, of_append, of_lists}
use Rattle.stream_stages.proofs.Opened.{in_next, in_nothing}

-- the stop of a spot on the way
abbrev pub stop_of : Walking → At → Stop
stop_of w a = record { id = a.id; steps = steps_at w.seen.joints.lists a.joint; shift = a.shift }

abbrev pub stops_on : Scene → Walking → List Stop
stops_on s w = stops_of 31 s w.seen.joints.lists w.way

-- a spot below the way, with room for a joint
pub record IsSpot (w : Walking) (a : At) : Type 0 where
  pub joint : a.joint < length w.seen.joints.lists
  pub levels : HaveLevels (length w.seen.joints.lists) w.way
  pub deep : length w.way ≤ 31
  pub room : 0 < w.seen.joints.spare

-- a geode shows no children
no_children : (k : Kind) (surface : Surface) (centre : Point) (time n : ℕ) → surface_of k ≡ Some surface → chosen_of k centre time n ≡ chosen.Nothing
no_children (Geode s us) t centre time n e = refl
no_children (Glass s a us) t centre time n e = refl
no_children Group t centre time n e = absurd (cc)
no_children (Switch p) t centre time n e = absurd (cc)
no_children (Scs m) t centre time n e = absurd (cc)
no_children (Dcs p) t centre time n e = absurd (cc)
no_children (Lod c rs) t centre time n e = absurd (cc)
no_children (Seq us r) t centre time n e = absurd (cc)
no_children Layer t centre time n e = absurd (cc)

-- ---- where nothing is put on the way
pub record StaysOnWay (w v : Walking) : Type 0 where
  pub way : v.way ≡ w.way
  pub joints : v.seen.joints ≡ w.seen.joints

waiting_stays : (w v : Walking) (x : Sighting) → StaysOnWay w v → StaysOnWay w (with_waiting x v)
waiting_stays w v x h = by (is_some x.tint)
  where
    by : (t : Bool) → StaysOnWay w (cond t (record v { glass = with_glass x v.glass }) (record v { held = Some x }))
    by true = record { way = h.way; joints = h.joints }
    by false = record { way = h.way; joints = h.joints }

pub found_stays : (w : Walking) (a : At) (around : Bounds) (surface : Surface) → StaysOnWay w (found_in w a around surface)
found_stays w a around surface = by (w.seen.items.spare == 0)
  where
    by : (t : Bool) → StaysOnWay w (cond t w (with_waiting (spotted w a around surface) (record w { seen = with_seen a around surface w.seen })))
    by true = record { way = refl; joints = refl }
    by false = waiting_stays w (record w { seen = with_seen a around surface w.seen }) (spotted w a around surface) (record { way = refl; joints = refl })

-- ---- the stops
one_more : (n : ℕ) → n ≤ 31 → 32 - n ≡ suc (31 - n)
one_more n l = omega (arith, l)

last_level : (n : ℕ) → n ≤ 31 → nat_lt n 31 ≡ false → 31 - n ≡ 0
last_level n l e = grind (arith, nat_tests)

abbrev below_at : Scene → Walking → At → List Stop
below_at s w a = flat_map (stops_in (31 - length w.way) s) (stops_below s (stop_of w a))

no_stops : (s : Scene) (w : Walking) (a : At) → stops_below s (stop_of w a) ≡ [] → below_at s w a ≡ []
no_stops s w a e = ap (flat_map (stops_in (31 - length w.way) s)) e

stays_stops : (s : Scene) (w v : Walking) (a : At) → StaysOnWay w v → below_at s w a ≡ [] → below_at s w a ++ stops_on s w ≡ stops_on s v
stays_stops s w v a h e = (λ i. e i ++ stops_of 31 s (sym h.joints i).lists (sym h.way i))

entered_stops : (s : Scene) (w : Walking) (a : At) (n : Node) → IsSpot w a → s.look a.id ≡ Some n → below_at s w a ++ stops_on s w ≡ stops_on s (entered_in s w a n)
entered_stops s w a n spot found = by (nat_lt (length w.way) 31) refl
  where
    ch : Chosen
    ch = chosen_in s.time n (steps_at w.seen.joints.lists a.joint)

    low : IsLower w.seen (with_below a.joint w.seen (own_pose n.kind)) (joint_below a.joint w.seen (own_pose n.kind)) (own_steps n.kind ++ steps_at w.seen.joints.lists a.joint)
    low = lowered w.seen a.joint n.kind spot.joint spot.room

    l : Level
    l = level_of a ch (length n.children) low.joint

    lists : List (List Matrix)
    lists = (with_below a.joint w.seen (own_pose n.kind)).joints.lists

    pushed : below_at s w a ++ stops_on s w ≡ stops_of 31 s lists (w.way ++ l ∷ [])
    pushed =
        (λ i. flat_map (stops_in (31 - length w.way) s) (sym (left_new s lists a (stop_of w a) n low.joint found refl refl low.steps_are) i)
        ++ sym (of_lists 31 s w.seen.joints.lists lists low.more.steps w.way spot.levels) i)
        ∙ sym (of_append 31 s lists w.way l)

    by : (t : Bool) → nat_lt (length w.way) 31 ≡ t → below_at s w a ++ stops_on s w ≡ stops_on s (cond t (lowered_in w a n ch) w)
    by true e = pushed ∙ ap (λ (j : Option ℕ). stops_on s (with_level (record w { seen = with_below a.joint w.seen (own_pose n.kind) }) a ch (length n.children) j)) (sym low.answers)
    by false e =
        ap (λ (m : ℕ). flat_map (stops_in m s) (stops_below s (stop_of w a)) ++ stops_on s w) (last_level (length w.way) spot.deep e)
        ∙ ap (λ (os : List Stop). os ++ stops_on s w) (in_nothing s (stops_below s (stop_of w a)))

shown_stops : (s : Scene) (w : Walking) (a : At) (around : Bounds) (n : Node) → IsSpot w a → s.look a.id ≡ Some n → below_at s w a ++ stops_on s w ≡ stops_on s (shown_in s w a around n (surface_of n.kind))
shown_stops s w a around n spot found = by (surface_of n.kind) refl
  where
    by : (t : Option Surface) → surface_of n.kind ≡ t → below_at s w a ++ stops_on s w ≡ stops_on s (shown_in s w a around n t)
    by None e = entered_stops s w a n spot found
    by (Some surface) e =
        stays_stops s w (found_in w a around surface) a (found_stays w a around surface)
        (no_stops s w a
        (ap (λ (m : Option Node). option_map_or (λ n. map (stop_below n (stop_of w a)) (shown_children (chosen_in s.time n (steps_at w.seen.joints.lists a.joint)) n.children)) m []) found
        ∙ ap (λ (c : Chosen). map (stop_below n (stop_of w a)) (shown_children c n.children)) (no_children n.kind surface _ s.time (length n.children) e)))

pub visited_stops : (s : Scene) (w : Walking) (a : At) → IsSpot w a → stops_in (32 - length w.way) s (stop_of w a) ++ stops_on s w ≡ stop_of w a ∷ stops_on s (visited_in s w a)
visited_stops s w a spot =
    ap (λ (n : ℕ). stops_in n s (stop_of w a) ++ stops_on s w) (one_more (length w.way) spot.deep)
    ∙ ap (λ (os : List Stop). os ++ stops_on s w) (in_next (31 - length w.way) s (stop_of w a))
    ∙ ap (λ (os : List Stop). stop_of w a ∷ os) (by (box_at s (stop_of w a)) refl)
  where
    u : Walking
    u = record w { visited = counted w.visited }

    node : (around : Bounds) (m : Option Node) → s.look a.id ≡ m → below_at s w a ++ stops_on s w ≡ stops_on s (option_map_or (λ n. shown_in s u a around n (surface_of n.kind)) m u)
    node around None e =
        ap (λ (os : List Stop). os ++ stops_on s w)
        (no_stops s w a (ap (λ (m : Option Node). option_map_or (λ n. map (stop_below n (stop_of w a)) (shown_children (chosen_in s.time n (steps_at w.seen.joints.lists a.joint)) n.children)) m []) e))
    node around (Some n) e = shown_stops s u a around n (record { joint = spot.joint; levels = spot.levels; deep = spot.deep; room = spot.room }) e

    by : (b : Option Bounds) → box_at s (stop_of w a) ≡ b → option_map_or (λ _. below_at s w a) b [] ++ stops_on s w ≡ stops_on s (seen_in s u a b)
    by None e = refl
    by (Some around) e = node around (s.look a.id) refl
