-- The box tests of a walk are of the nodes that it counts, on every scene.
use Rattle.std.proofs.Common.{◌≡◌, ℕ, ◌+◌, Bool, true, false, cond, ◌==◌, List, ◌++◌, ◌∷◌, [], length, Option, Some, None, refl, ap, sym, ◌∙◌, arith}
use Rattle.std.specs.Prelude.{is_some}
use Rattle.std.specs.Option.{option_map_or}
use Rattle.fx_math.specs.Plain.{Bounds}
use Rattle.pf_model.specs.declared.nodes.Node.{Node}
use Rattle.pf_model.specs.Kinds.{Surface, surface_of}
use Rattle.pf_model.specs.Boxes.{eye_box}
use Rattle.draw_list.specs.Joints.{steps_at}
use Rattle.cull_walk.specs.Working.{Scene, At, counted, in_frustum}
use Rattle.stream_stages.specs.declared.levels.Level.{Level}
use Rattle.stream_stages.specs.Routes.{Walking, next_child}
use Rattle.stream_stages.specs.Going.{spotted, with_glass, with_waiting, with_seen, found_in, shown_in, seen_in, visited_in, split_last, root_at, gone_on, on_way, Stepped, stepped}
use Rattle.stream_stages.specs.Filled.{CountsTests}
use Rattle.stream_stages.proofs.Numbers.{entered_visited}

-- a geode that is found, or finds no room, leaves the count
found_visited : (w : Walking) (a : At) (around : Bounds) (t : Surface) → (found_in w a around t).visited ≡ w.visited
found_visited w a around t = by (w.seen.items.spare == 0)
  where
    u : Walking
    u = record w { seen = with_seen a around t w.seen }

    waits : (b : Bool) → (cond b (record u { glass = with_glass (spotted w a around t) w.glass }) (record u { held = Some (spotted w a around t) })).visited ≡ w.visited
    waits true = refl
    waits false = refl

    by : (b : Bool) → (cond b w (with_waiting (spotted w a around t) u)).visited ≡ w.visited
    by true = refl
    by false = waits (is_some (spotted w a around t).tint)

-- a visit counts one node
visit_counts : (s : Scene) (w : Walking) (a : At) → (visited_in s w a).visited ≡ counted w.visited
visit_counts s w a = by (in_frustum s.lens (eye_box s.boxes a.id (steps_at w.seen.joints.lists a.joint)))
  where
    u : Walking
    u = record w { visited = counted w.visited }

    surface : (around : Bounds) (n : Node) (t : Option Surface) → (shown_in s u a around n t).visited ≡ counted w.visited
    surface around n None = entered_visited s u a n
    surface around n (Some t) = found_visited u a around t

    node : (around : Bounds) (m : Option Node) →
        (option_map_or (λ n. shown_in s u a around n (surface_of n.kind)) m u).visited ≡ counted w.visited
    node around None = refl
    node around (Some n) = surface around n (surface_of n.kind)

    by : (o : Option Bounds) → (seen_in s u a o).visited ≡ counted w.visited
    by None = refl
    by (Some around) = node around (s.look a.id)

-- a step tests the box of the node that it counts
pub step_counts : (s : Scene) (w : Walking) (tests : ℕ) →
    CountsTests w (stepped s w tests).walk tests (stepped s w tests).tests
step_counts s w tests = by w.fresh
  where
    one : (u : Walking) (a : At) → u.visited ≡ w.visited → CountsTests w (visited_in s u a) tests (tests + 1)
    one u a same few =
        let is = visit_counts s u a in
        (omega (arith, few, is, same), omega (arith, few, is, same))

    child : (front : List Level) (l : Level) (next : Option (ℕ × ℕ)) →
        CountsTests w (gone_on s w tests front l next).walk tests (gone_on s w tests front l next).tests
    child front l None few = (few, refl)
    child front l (Some c) few =
        one (record w { way = front ++ record l { from = l.from + 1 } ∷ [] }) (record { id = c.0; joint = l.joint; shift = c.1 }) refl few

    way : (last : Option (List Level × Level)) → CountsTests w (on_way s w tests last).walk tests (on_way s w tests last).tests
    way None few = (few, refl)
    way (Some p) few = child p.0 p.1 (next_child s.look p.1) few

    Steps : Stepped → Type 0
    Steps r = CountsTests w r.walk tests r.tests

    by : (b : Bool) → Steps (cond b (record { going = true; walk = visited_in s (record w { fresh = false }) root_at; tests = tests + 1 }) (on_way s w tests (split_last w.way)))
    by true few = one (record w { fresh = false }) root_at refl few
    by false few = way (split_last w.way) few

-- one walk after the other
pub counts_both : (w v u : Walking) (first next last : ℕ) → CountsTests w v first next → CountsTests v u next last → CountsTests w u first last
counts_both w v u first next last one two few =
    let there = two few in
    let here = one there.0 in
    let before = here.0 in
    let a = here.1 in
    let b = there.1 in
    (before, omega (arith, a, b))

-- the count of a walk that goes on without a test
pub counts_kept : (w v u : Walking) (first last : ℕ) → CountsTests w v first last → u.visited ≡ v.visited → CountsTests w u first last
counts_kept w v u first last one same few =
    let here = one (omega (arith, few, same)) in
    let before = here.0 in
    let a = here.1 in
    (before, omega (arith, a, same))
