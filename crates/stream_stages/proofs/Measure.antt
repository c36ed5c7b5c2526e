-- Each step leaves less to do, on every scene.
use Rattle.std.proofs.Common.{◌≡◌, ◌∙◌, ℕ, suc, ◌+◌, ◌-◌, ◌*◌, ◌≤◌, ◌<◌, List, [], ◌∷◌, ◌++◌, length, Bool, true, false, cond, Option, Some, None, ap, sym, refl, subst, arith, length-append, append_assoc}
use Rattle.std.specs.Prelude.{flat_map, nat_lt, ◌==◌, is_some}
use Rattle.std.specs.Option.{option_map_or}
use Rattle.fx_math.specs.Plain.{Matrix, Bounds}
use Rattle.pf_model.specs.declared.nodes.Chosen.{Chosen}
use Rattle.pf_model.specs.declared.nodes.Node.{Node}
use Rattle.pf_model.specs.Kinds.{Surface, surface_of, own_steps}
use Rattle.pf_model.specs.Walks.{chosen_in}
use Rattle.draw_list.specs.Joints.{steps_at}
use Rattle.draw_list.specs.Lists.{Drawables}
use Rattle.cull_walk.specs.Working.{Scene, At, counted, own_pose, joint_below, with_below}
use Rattle.stream_stages.specs.declared.levels.Level.{Level}
use Rattle.stream_stages.specs.declared.sightings.Sighting.{Sighting}
use Rattle.stream_stages.specs.Stops.{Stop, box_at, stops_below, stops_in}
use Rattle.stream_stages.specs.Routes.{Walking, next_child, stops_left, stops_of}
use Rattle.stream_stages.specs.Going.{spotted, with_glass, with_seen, found_in, level_of, with_level, lowered_in, entered_in, shown_in, seen_in, visited_in, split_last, root_at, gone_on, on_way, stepped}
use Rattle.stream_stages.specs.Underway.{HaveLevels}
use Rattle.stream_stages.proofs.Lowering.{IsBelow, below_is, IsLower, lowered_some}
use Rattle.stream_stages.proofs.LevelStops.{left_next, left_done, left_new, of_append, of_lists}
use Rattle.stream_stages.proofs.Opened.{in_next}
use Rattle.stream_stages.proofs.Visiting.{stop_of, stops_on, StaysOnWay, found_stays}
use Rattle.stream_stages.proofs.Stepping.{IsRoutine, levels_front, last_joint, split_is}

abbrev pub one_held : Option Sighting → ℕ
one_held o = cond (is_some o) 1 0

-- how many stops are still to come
abbrev pub stops_count : Scene → Walking → ℕ
stops_count s w = cond w.fresh (length (stops_in (32 - length w.way) s (stop_of w root_at))) 0 + length (stops_on s w)

-- what is left to do: stops to visit, levels to leave, and an instance to send
abbrev pub left_to_do : Scene → Walking → ℕ
left_to_do s w = 2 * stops_count s w + length w.way + one_held w.held

at_most_one : (o : Option Sighting) → one_held o ≤ 1
at_most_one None = omega arith
at_most_one (Some x) = omega arith

-- what a visit leaves
record Leaves (s : Scene) (w v : Walking) (a : At) : Type 0 where
  pub fresh : v.fresh ≡ w.fresh
  pub stops : length (stops_on s v) ≤ length (flat_map (stops_in (31 - length w.way) s) (stops_below s (stop_of w a))) + length (stops_on s w)
  pub more : length v.way + one_held v.held ≤ length w.way + one_held w.held + 1

same_stops : (s : Scene) (w v : Walking) → StaysOnWay w v → stops_on s v ≡ stops_on s w
same_stops s w v h = λ i. stops_of 31 s (h.joints i).lists (h.way i)

-- a geode
found_fresh : (w : Walking) (a : At) (around : Bounds) (t : Surface) → (found_in w a around t).fresh ≡ w.fresh
found_fresh w a around t = by (w.seen.items.spare == 0) (is_some (spotted w a around t).tint)
  where
    u : Walking
    u = record w { seen = with_seen a around t w.seen }

    by : (b d : Bool) → (cond b w (cond d (record u { glass = with_glass (spotted w a around t) w.glass }) (record u { held = Some (spotted w a around t) }))).fresh ≡ w.fresh
    by true d = refl
    by false true = refl
    by false false = refl

found_leaves : (s : Scene) (w : Walking) (a : At) (around : Bounds) (t : Surface) → Leaves s w (found_in w a around t) a
found_leaves s w a around t = record {
  fresh = found_fresh w a around t;
  stops = omega (arith, ap length (same_stops s w (found_in w a around t) (found_stays w a around t)));
  more = omega (arith, ap length (found_stays w a around t).way, at_most_one (found_in w a around t).held);
}

nothing_leaves : (s : Scene) (w : Walking) (a : At) → Leaves s w w a
nothing_leaves s w a = record { fresh = refl; stops = omega arith; more = omega arith }

-- a level
entered_leaves : (s : Scene) (w : Walking) (a : At) (n : Node) → a.joint < length w.seen.joints.lists → HaveLevels (length w.seen.joints.lists) w.way → s.look a.id ≡ Some n → Leaves s w (entered_in s w a n) a
entered_leaves s w a n there levels found = by (nat_lt (length w.way) 31)
  where
    ch : Chosen
    ch = chosen_in s.time n (steps_at w.seen.joints.lists a.joint)

    e : Drawables
    e = with_below a.joint w.seen (own_pose n.kind)

    low : Walking
    low = record w { seen = e }

    below : IsBelow w.seen e (joint_below a.joint w.seen (own_pose n.kind))
    below = below_is w.seen a.joint (own_pose n.kind) there

    same : stops_of 31 s e.joints.lists w.way ≡ stops_on s w
    same = of_lists 31 s w.seen.joints.lists e.joints.lists below.more.steps w.way levels

    level : (o : Option ℕ) → joint_below a.joint w.seen (own_pose n.kind) ≡ o → Leaves s w (with_level low a ch (length n.children) o) a
    level None f = record { fresh = refl; stops = omega (arith, ap length same); more = omega arith }
    level (Some j) f =
        let l : Level = level_of a ch (length n.children) j in
        let lies : IsLower w.seen e (Some j) (own_steps n.kind ++ steps_at w.seen.joints.lists a.joint) = lowered_some w.seen a.joint n.kind j there f in
        let one : lies.joint ≡ j = sym (ap (λ (o : Option ℕ). option_map_or (λ m. m) o 0) lies.answers) in
        let new : stops_left s e.joints.lists l ≡ stops_below s (stop_of w a) =
        left_new s e.joints.lists a (stop_of w a) n j found refl refl (ap (λ (m : ℕ). steps_at e.joints.lists m) (sym one) ∙ lies.steps_are) in
        record {
          fresh = refl;
          stops = omega (
            arith,
            ap length (of_append 31 s e.joints.lists w.way l),
            length-append (flat_map (stops_in (31 - length w.way) s) (stops_left s e.joints.lists l)) (stops_of 31 s e.joints.lists w.way),
            ap (λ (os : List Stop). length (flat_map (stops_in (31 - length w.way) s) os)) new,
            ap length same,
          );
          more = omega (arith, length-append w.way (l ∷ []));
        }

    by : (b : Bool) → Leaves s w (cond b (lowered_in w a n ch) w) a
    by true = level (joint_below a.joint w.seen (own_pose n.kind)) refl
    by false = nothing_leaves s w a

-- a visit takes a stop, and puts one level on the way or finds one instance
visit_less : (s : Scene) (w : Walking) (a : At) → a.joint < length w.seen.joints.lists → HaveLevels (length w.seen.joints.lists) w.way → length w.way ≤ 31 →
    ((visited_in s w a).fresh ≡ w.fresh)
    × (2 * length (stops_on s (visited_in s w a)) + length (visited_in s w a).way + one_held (visited_in s w a).held
    < 2 * length (stops_in (32 - length w.way) s (stop_of w a) ++ stops_on s w) + length w.way + one_held w.held)
visit_less s w a there levels deep = by (box_at s (stop_of w a)) refl
  where
    u : Walking
    u = record w { visited = counted w.visited }

    below : ℕ
    below = length (flat_map (stops_in (31 - length w.way) s) (stops_below s (stop_of w a)))

    abbrev_less : Walking → Type 0
    abbrev_less v = (v.fresh ≡ w.fresh) × (2 * length (stops_on s v) + length v.way + one_held v.held < 2 * length (stops_in (32 - length w.way) s (stop_of w a) ++ stops_on s w) + length w.way + one_held w.held)

    more : 32 - length w.way ≡ suc (31 - length w.way)
    more = omega (arith, deep)

    opened : length (stops_in (32 - length w.way) s (stop_of w a) ++ stops_on s w) ≡ 1 + length (option_map_or (λ _. flat_map (stops_in (31 - length w.way) s) (stops_below s (stop_of w a))) (box_at s (stop_of w a)) []) + length (stops_on s w)
    opened =
        length-append (stops_in (32 - length w.way) s (stop_of w a)) (stops_on s w)
        ∙ ap (λ (n : ℕ). length (stops_in n s (stop_of w a)) + length (stops_on s w)) more
        ∙ ap (λ (os : List Stop). length os + length (stops_on s w)) (in_next (31 - length w.way) s (stop_of w a))
        ∙ omega arith

    seen : (around : Bounds) → box_at s (stop_of w a) ≡ Some around → (v : Walking) → Leaves s u v a → abbrev_less v
    seen around e v h = (
      h.fresh,
      omega (
        arith,
        opened,
        ap (λ (b : Option Bounds). length (option_map_or (λ _. flat_map (stops_in (31 - length w.way) s) (stops_below s (stop_of w a))) b [])) e,
        h.stops,
        h.more,
      ),
    )

    surface : (around : Bounds) → box_at s (stop_of w a) ≡ Some around → (n : Node) → s.look a.id ≡ Some n → (t : Option Surface) → abbrev_less (shown_in s u a around n t)
    surface around e n f None = seen around e (entered_in s u a n) (entered_leaves s u a n there levels f)
    surface around e n f (Some t) = seen around e (found_in u a around t) (found_leaves s u a around t)

    node : (around : Bounds) → box_at s (stop_of w a) ≡ Some around → (m : Option Node) → s.look a.id ≡ m → abbrev_less (option_map_or (λ n. shown_in s u a around n (surface_of n.kind)) m u)
    node around e None f = seen around e u (nothing_leaves s u a)
    node around e (Some n) f = surface around e n f (surface_of n.kind)

    by : (b : Option Bounds) → box_at s (stop_of w a) ≡ b → abbrev_less (seen_in s u a b)
    by None e = (refl, omega (arith, opened, ap (λ (b : Option Bounds). length (option_map_or (λ _. flat_map (stops_in (31 - length w.way) s) (stops_below s (stop_of w a))) b [])) e))
    by (Some around) e = node around e (s.look a.id) refl

-- ---- a step
count_clear : (s : Scene) (w : Walking) → w.fresh ≡ false → stops_count s w ≡ length (stops_on s w)
count_clear s w e = ap (λ (b : Bool). cond b (length (stops_in (32 - length w.way) s (stop_of w root_at))) 0 + length (stops_on s w)) e ∙ omega arith

count_fresh : (s : Scene) (w : Walking) → w.fresh ≡ true → stops_count s w ≡ length (stops_in (32 - length w.way) s (stop_of w root_at)) + length (stops_on s w)
count_fresh s w e = ap (λ (b : Bool). cond b (length (stops_in (32 - length w.way) s (stop_of w root_at))) 0 + length (stops_on s w)) e

first_less : (s : Scene) (w : Walking) → IsRoutine w → w.fresh ≡ true → left_to_do s (visited_in s (record w { fresh = false }) root_at) < left_to_do s w
first_less s w routine fresh =
    let less = visit_less s (record w { fresh = false }) root_at routine.first routine.levels routine.deep in
    omega (
      arith,
      count_clear s (visited_in s (record w { fresh = false }) root_at) less.0,
      count_fresh s w fresh,
      less.1,
      length-append (stops_in (32 - length w.way) s (stop_of w root_at)) (stops_on s w),
    )

next_less : (s : Scene) (w : Walking) (ls : List Level) (l : Level) (c : ℕ × ℕ) → IsRoutine w → w.fresh ≡ false → w.way ≡ ls ++ l ∷ [] → next_child s.look l ≡ Some c →
    left_to_do s (visited_in s (record w { way = ls ++ record l { from = l.from + 1 } ∷ [] }) (record { id = c.0; joint = l.joint; shift = c.1 })) < left_to_do s w
next_less s w ls l c routine fresh way next =
    let less = visit_less s u a (last_joint (length lists) ls l levels) (levels_front (length lists) ls l k refl levels) (omega (arith, routine.deep, ap length way, length-append ls (l ∷ []), long)) in
    omega (
      arith,
      count_clear s (visited_in s u a) (less.0 ∙ fresh),
      count_clear s w fresh,
      less.1,
      ap length all,
      ap length way,
      length-append ls (l ∷ []),
      long,
    )
  where
    lists : List (List Matrix)
    lists = w.seen.joints.lists

    k : Level
    k = record l { from = l.from + 1 }

    u : Walking
    u = record w { way = ls ++ k ∷ [] }

    a : At
    a = record { id = c.0; joint = l.joint; shift = c.1 }

    levels : HaveLevels (length lists) (ls ++ l ∷ [])
    levels = subst (HaveLevels (length lists)) way routine.levels

    long : length (ls ++ k ∷ []) ≡ length ls + 1
    long = length-append ls (k ∷ [])

    same : 31 - length ls ≡ 32 - length (ls ++ k ∷ [])
    same = omega (arith, long)

    all : stops_on s w ≡ stops_in (32 - length (ls ++ k ∷ [])) s (stop_of u a) ++ stops_of 31 s lists (ls ++ k ∷ [])
    all =
        ap (stops_of 31 s lists) way
        ∙ of_append 31 s lists ls l
        ∙ ap (λ (os : List Stop). flat_map (stops_in (31 - length ls) s) os ++ stops_of 31 s lists ls) (left_next s lists l c next)
        ∙ append_assoc (stops_in (31 - length ls) s (stop_of u a)) (flat_map (stops_in (31 - length ls) s) (stops_left s lists k)) (stops_of 31 s lists ls)
        ∙ (λ i. stops_in (same i) s (stop_of u a) ++ sym (of_append 31 s lists ls k) i)

leave_less : (s : Scene) (w : Walking) (ls : List Level) (l : Level) → w.fresh ≡ false → w.way ≡ ls ++ l ∷ [] → next_child s.look l ≡ None → left_to_do s (record w { way = ls }) < left_to_do s w
leave_less s w ls l fresh way next =
    omega (
      arith,
      count_clear s (record w { way = ls }) fresh,
      count_clear s w fresh,
      ap length same,
      ap length way,
      length-append ls (l ∷ []),
    )
  where
    same : stops_on s w ≡ stops_of 31 s w.seen.joints.lists ls
    same =
        ap (stops_of 31 s w.seen.joints.lists) way
        ∙ of_append 31 s w.seen.joints.lists ls l
        ∙ ap (λ (os : List Stop). flat_map (stops_in (31 - length ls) s) os ++ stops_of 31 s w.seen.joints.lists ls) (left_done s w.seen.joints.lists l next)

pub step_less : (s : Scene) (w : Walking) (tests : ℕ) → IsRoutine w → (stepped s w tests).going ≡ true → left_to_do s (stepped s w tests).walk < left_to_do s w
step_less s w tests routine = by w.fresh refl
  where
    way : w.fresh ≡ false → (o : Option (List Level × Level)) → split_last w.way ≡ o → (on_way s w tests o).going ≡ true → left_to_do s (on_way s w tests o).walk < left_to_do s w
    way e None f g = absurd (let no : false ≡ true = g in cc)
    way e (Some p) f g = child (next_child s.look p.1) refl
      where
        child : (c : Option (ℕ × ℕ)) → next_child s.look p.1 ≡ c → left_to_do s (gone_on s w tests p.0 p.1 c).walk < left_to_do s w
        child None h = leave_less s w p.0 p.1 e (split_is w.way p f) h
        child (Some c) h = next_less s w p.0 p.1 c routine e (split_is w.way p f) h

    by : (b : Bool) → w.fresh ≡ b → (cond b (record { going = true; walk = visited_in s (record w { fresh = false }) root_at; tests = tests + 1 }) (on_way s w tests (split_last w.way))).going ≡ true →
        left_to_do s (cond b (record { going = true; walk = visited_in s (record w { fresh = false }) root_at; tests = tests + 1 }) (on_way s w tests (split_last w.way))).walk < left_to_do s w
    by true e g = first_less s w routine e
    by false e g = way e (split_last w.way) refl g
