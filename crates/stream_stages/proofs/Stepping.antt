-- A step takes what it finds from what is to come.
use Rattle.std.proofs.Common.{◌≡◌, ◌∙◌, ℕ, suc, ◌+◌, ◌-◌, ◌≤◌, ◌<◌, List, [], ◌∷◌, ◌++◌, length, Bool, true, false, cond, Option, Some, None, ap, sym, refl, subst, arith, length-append, append_assoc}
use Rattle.std.specs.Prelude.{flat_map, drop, is_some}
use Rattle.std.specs.Option.{option_map_or}
use Rattle.fx_math.specs.Plain.{Matrix}
use Rattle.pf_model.specs.Walks.{steps_of_view}
use Rattle.draw_list.specs.Joints.{steps_at}
use Rattle.cull_walk.specs.Working.{Scene, At}
use Rattle.stream_stages.specs.declared.levels.Level.{Level}
use Rattle.stream_stages.specs.Stops.{Stop, stops_in, scene_stop}
use Rattle.stream_stages.specs.Routes.{Walking, stops_left, next_child, stops_of, stops_ahead, steps_along, waiting, to_come}
use Rattle.stream_stages.specs.Going.{visited_in, split_last, Stepped, root_at, gone_on, on_way, stepped}
use Rattle.stream_stages.specs.Underway.{HaveLevels, steps_of_node, WayFits, IsUnderway, numbers_of}
use Rattle.stream_stages.proofs.LevelStops.{left_next, left_done, of_append}
use Rattle.stream_stages.proofs.Opened.{in_next}
use Rattle.stream_stages.proofs.Visiting.{stop_of, stops_on, IsSpot, visited_stops}
use Rattle.stream_stages.proofs.Finding.{ids_of, coming, visited_coming}
use Rattle.stream_stages.proofs.Numbers.{counts, visited_counts}
use Rattle.stream_stages.proofs.Outcomes.{IsKept, GoesOn, IsBelowWay, IsVisited, nodes_on, last_steps, visited_kept}

-- what the type of a walk keeps
pub record IsRoutine (w : Walking) : Type 0 where
  pub levels : HaveLevels (length w.seen.joints.lists) w.way
  pub first : 0 < length w.seen.joints.lists
  pub deep : length w.way ≤ 31
  pub fresh : w.fresh ≡ true → w.way ≡ []

-- a step from w
pub record IsStepped (s : Scene) (w : Walking) (tests : ℕ) (r : Stepped) : Type 0 where
  pub over : r.going ≡ false → (r.walk ≡ w) × (stops_ahead s w ≡ [])
  pub come : to_come s r.walk ≡ to_come s w
  pub underway : IsUnderway s r.walk
  pub view : r.walk.view ≡ w.view
  pub sent : r.walk.sent ≡ w.sent
  pub numbers : numbers_of s r.walk ≡ numbers_of s w
  pub counted : r.tests + length (stops_ahead s r.walk) ≡ tests + length (stops_ahead s w)

-- ---- while the walk is under way
come_is : (s : Scene) (w : Walking) → w.sent ≡ None → to_come s w ≡ coming s w (stops_ahead s w)
come_is s w e = λ i. option_map_or (λ k. waiting s.look w (drop k w.glass)) (e i) (coming s w (stops_ahead s w))

ahead_is : (s : Scene) (w : Walking) → w.fresh ≡ false → stops_ahead s w ≡ stops_on s w
ahead_is s w e = ap (λ (b : Bool). cond b (stops_in 32 s (scene_stop (steps_of_view w.view))) [] ++ stops_on s w) e

abbrev on : Walking → List Level → Walking
on w ls = record w { fresh = false; way = ls }

some_stop : (s : Scene) (n : ℕ) (o : Stop) → n ≤ 31 → 1 ≤ length (stops_in (32 - n) s o)
some_stop s n o l = subst (λ (m : ℕ). 1 ≤ length (stops_in m s o)) (sym more) (omega (arith, ap length (in_next (31 - n) s o)))
  where
    more : 32 - n ≡ suc (31 - n)
    more = omega (arith, l)

-- ---- a visit
visit_goes : (s : Scene) (w : Walking) (ls : List Level) (a : At) (tests : ℕ) → IsUnderway s w → w.held ≡ None → w.sent ≡ None →
    stops_ahead s w ≡ stops_in (32 - length ls) s (stop_of w a) ++ stops_on s (on w ls) →
    IsKept s.look (on w ls) → a.joint < length w.seen.joints.lists → steps_along s.look (steps_of_view w.view) (ids_of ls) ≡ steps_at w.seen.joints.lists a.joint →
    IsStepped s w tests (record { going = true; walk = visited_in s (on w ls) a; tests = tests + 1 })
visit_goes s w ls a tests under held sent all kept joint along = record {
  over = λ e. absurd (let no : true ≡ false = e in cc);
  come =
      come_is s v (goes.sent ∙ sent)
      ∙ ap (coming s v) (ahead_is s v goes.fresh)
      ∙ sym (visited_coming s u a (stops_on s v) (record { along = along; items = item; glass = glass; held = held }))
      ∙ ap (coming s u) (sym (visited_stops s u a spot))
      ∙ ap (coming s u) (sym all)
      ∙ sym (come_is s w sent);
  underway = record {
    scene = under.scene;
    time = under.time ∙ sym goes.time;
    lens = under.lens ∙ sym goes.lens;
    zero = visited.kept.zero;
    way = visited.kept.way;
    items = omega (arith, under.items, goes.items, fewer);
    joints = omega (arith, under.joints, goes.joints, fewer);
    room = omega (arith, under.room, goes.glass, fewer);
    held = visited.kept.held;
    glass = visited.kept.glass;
    rising = λ e. visited.kept.rising;
    passed = omega (arith, under.passed, goes.visited, fewer);
    over = λ e. absurd (let no : false ≡ true = sym (ap is_some (goes.sent ∙ sent)) ∙ e in cc);
  };
  view = goes.view;
  sent = goes.sent;
  numbers =
      ap (counts s v) (ahead_is s v goes.fresh)
      ∙ sym (visited_counts s u a (stops_on s v) item (omega (arith, under.passed)))
      ∙ ap (counts s u) (sym (visited_stops s u a spot))
      ∙ ap (counts s u) (sym all);
  counted = omega (arith, fewer);
}
  where
    u : Walking
    u = on w ls

    v : Walking
    v = visited_in s u a

    one : 1 ≤ length (stops_ahead s w)
    one =
        omega (
          arith,
          ap length all,
          length-append (stops_in (32 - length ls) s (stop_of w a)) (stops_on s u),
          some_stop s (length ls) (stop_of w a) kept.deep,
        )

    spot : IsSpot u a
    spot = record { joint = joint; levels = kept.levels; deep = kept.deep; room = omega (arith, under.joints, one) }

    item : 0 < w.seen.items.spare
    item = omega (arith, under.items, one)

    glass : length w.glass < 131072
    glass = omega (arith, under.room, one)

    below : IsBelowWay s.look u a
    below = record { joint = joint; along = along; nodes = nodes_on s.look w.seen.joints.lists (steps_of_view w.view) ls kept.way; items = item; joints = spot.room; glass = glass; held = held }

    visited : IsVisited s.look u v
    visited = visited_kept s u a kept below

    goes : GoesOn u v
    goes = visited.goes

    fewer : length (stops_ahead s w) ≡ suc (length (stops_ahead s v))
    fewer = ap length (all ∙ visited_stops s u a spot) ∙ ap (λ (os : List Stop). suc (length os)) (sym (ahead_is s v goes.fresh))

-- ---- a step
same_kept : (s : Scene) (w : Walking) (ls : List Level) → IsUnderway s w → w.sent ≡ None → IsRoutine w → WayFits s.look w.seen.joints.lists (steps_of_view w.view) ls → HaveLevels (length w.seen.joints.lists) ls → length ls ≤ 31 → IsKept s.look (on w ls)
same_kept s w ls under sent routine way levels deep = record {
  zero = under.zero;
  way = way;
  held = under.held;
  glass = under.glass;
  rising = under.rising sent;
  levels = levels;
  first = routine.first;
  deep = deep;
}

first_step : (s : Scene) (w : Walking) (tests : ℕ) → IsUnderway s w → IsRoutine w → w.held ≡ None → w.sent ≡ None → w.fresh ≡ true →
    IsStepped s w tests (record { going = true; walk = visited_in s (record w { fresh = false }) root_at; tests = tests + 1 })
first_step s w tests under routine held sent fresh =
    visit_goes s w w.way root_at tests under held sent all
    (same_kept s w w.way under sent routine under.way routine.levels routine.deep) routine.first
    (ap (λ (ls : List Level). steps_along s.look (steps_of_view w.view) (ids_of ls)) (routine.fresh fresh) ∙ sym under.zero)
  where
    none : length w.way ≡ 0
    none = ap length (routine.fresh fresh)

    all : stops_ahead s w ≡ stops_in (32 - length w.way) s (stop_of w root_at) ++ stops_on s w
    all = (λ i. cond (fresh i) (stops_in 32 s (scene_stop (steps_of_view w.view))) [] ++ stops_on s w)
        ∙ (λ i. stops_in (32 - sym none i) s (record { id = 0; steps = sym under.zero i; shift = 0 }) ++ stops_on s w)

way_front : (s : Scene) (lists : List (List Matrix)) (above : List Matrix) (ls : List Level) (l k : Level) → k.id ≡ l.id → k.joint ≡ l.joint → WayFits s.look lists above (ls ++ l ∷ []) → WayFits s.look lists above (ls ++ k ∷ [])
way_front s lists above [] l k id joint h = (subst (λ (n : ℕ). is_some (s.look n) ≡ true) (sym id) h.0, (λ i. steps_at lists (joint i)) ∙ h.1 ∙ (λ i. steps_of_node s.look (sym id i) ++ above), tt)
way_front s lists above (m ∷ ls) l k id joint h = (h.0, h.1, way_front s lists (steps_of_node s.look m.id ++ above) ls l k id joint h.2)

way_before : (s : Scene) (lists : List (List Matrix)) (above : List Matrix) (ls : List Level) (l : Level) → WayFits s.look lists above (ls ++ l ∷ []) → WayFits s.look lists above ls
way_before s lists above [] l h = tt
way_before s lists above (m ∷ ls) l h = (h.0, h.1, way_before s lists (steps_of_node s.look m.id ++ above) ls l h.2)

pub levels_before : (n : ℕ) (ls : List Level) (l : Level) → HaveLevels n (ls ++ l ∷ []) → HaveLevels n ls
levels_before n [] l h = tt
levels_before n (m ∷ ls) l h = (h.0, levels_before n ls l h.1)

pub last_joint : (n : ℕ) (ls : List Level) (l : Level) → HaveLevels n (ls ++ l ∷ []) → l.joint < n
last_joint n [] l h = h.0
last_joint n (m ∷ ls) l h = last_joint n ls l h.1

pub levels_front : (n : ℕ) (ls : List Level) (l k : Level) → k.joint ≡ l.joint → HaveLevels n (ls ++ l ∷ []) → HaveLevels n (ls ++ k ∷ [])
levels_front n [] l k e h = (omega (arith, h.0, e), tt)
levels_front n (m ∷ ls) l k e h = (h.0, levels_front n ls l k e h.1)

ids_front : (ls : List Level) (l k : Level) → k.id ≡ l.id → ids_of (ls ++ k ∷ []) ≡ ids_of (ls ++ l ∷ [])
ids_front [] l k e = ap (λ (n : ℕ). n ∷ []) e
ids_front (m ∷ ls) l k e = ap (λ (ns : List ℕ). m.id ∷ ns) (ids_front ls l k e)

-- the next child of the last level
next_step : (s : Scene) (w : Walking) (tests : ℕ) (ls : List Level) (l : Level) (c : ℕ × ℕ) → IsUnderway s w → IsRoutine w → w.held ≡ None → w.sent ≡ None → w.fresh ≡ false → w.way ≡ ls ++ l ∷ [] → next_child s.look l ≡ Some c →
    IsStepped s w tests (record { going = true; walk = visited_in s (on w (ls ++ record l { from = l.from + 1 } ∷ [])) (record { id = c.0; joint = l.joint; shift = c.1 }); tests = tests + 1 })
next_step s w tests ls l c under routine held sent fresh way next =
    visit_goes s w (ls ++ k ∷ []) a tests under held sent all
    (same_kept s w (ls ++ k ∷ []) under sent routine (way_front s lists (steps_of_view w.view) ls l k refl refl fits) (levels_front (length lists) ls l k refl levels)
    (omega (arith, routine.deep, ap length way, length-append ls (l ∷ []), long)))
    (last_joint (length lists) ls l levels)
    (ap (steps_along s.look (steps_of_view w.view)) (ids_front ls l k refl) ∙ last_steps s.look lists (steps_of_view w.view) ls l fits)
  where
    lists : List (List Matrix)
    lists = w.seen.joints.lists

    k : Level
    k = record l { from = l.from + 1 }

    a : At
    a = record { id = c.0; joint = l.joint; shift = c.1 }

    fits : WayFits s.look lists (steps_of_view w.view) (ls ++ l ∷ [])
    fits = subst (WayFits s.look lists (steps_of_view w.view)) way under.way

    levels : HaveLevels (length lists) (ls ++ l ∷ [])
    levels = subst (HaveLevels (length lists)) way routine.levels

    long : length (ls ++ k ∷ []) ≡ length ls + 1
    long = length-append ls (k ∷ [])

    same : 31 - length ls ≡ 32 - length (ls ++ k ∷ [])
    same = omega (arith, long)

    all : stops_ahead s w ≡ stops_in (32 - length (ls ++ k ∷ [])) s (stop_of w a) ++ stops_of 31 s lists (ls ++ k ∷ [])
    all =
        ahead_is s w fresh
        ∙ ap (stops_of 31 s lists) way
        ∙ of_append 31 s lists ls l
        ∙ ap (λ (os : List Stop). flat_map (stops_in (31 - length ls) s) os ++ stops_of 31 s lists ls) (left_next s lists l c next)
        ∙ append_assoc (stops_in (31 - length ls) s (stop_of w a)) (flat_map (stops_in (31 - length ls) s) (stops_left s lists k)) (stops_of 31 s lists ls)
        ∙ (λ i. stops_in (same i) s (stop_of w a) ++ sym (of_append 31 s lists ls k) i)

-- a level that is done
leave_step : (s : Scene) (w : Walking) (tests : ℕ) (ls : List Level) (l : Level) → IsUnderway s w → IsRoutine w → w.held ≡ None → w.sent ≡ None → w.fresh ≡ false → w.way ≡ ls ++ l ∷ [] → next_child s.look l ≡ None →
    IsStepped s w tests (record { going = true; walk = on w ls; tests = tests })
leave_step s w tests ls l under routine held sent fresh way next = record {
  over = λ e. absurd (let no : true ≡ false = e in cc);
  come = come_is s (on w ls) sent ∙ ap (coming s w) (sym same) ∙ sym (come_is s w sent);
  underway = record {
    scene = under.scene;
    time = under.time;
    lens = under.lens;
    zero = under.zero;
    way = way_before s lists (steps_of_view w.view) ls l (subst (WayFits s.look lists (steps_of_view w.view)) way under.way);
    items = omega (arith, under.items, ap length same);
    joints = omega (arith, under.joints, ap length same);
    room = omega (arith, under.room, ap length same);
    held = under.held;
    glass = under.glass;
    rising = under.rising;
    passed = omega (arith, under.passed, ap length same);
    over = λ e. absurd (let no : false ≡ true = sym (ap is_some sent) ∙ e in cc);
  };
  view = refl;
  sent = refl;
  numbers = ap (counts s w) (sym same);
  counted = omega (arith, ap length same);
}
  where
    lists : List (List Matrix)
    lists = w.seen.joints.lists

    same : stops_ahead s w ≡ stops_ahead s (on w ls)
    same =
        ahead_is s w fresh
        ∙ ap (stops_of 31 s lists) way
        ∙ of_append 31 s lists ls l
        ∙ ap (λ (os : List Stop). flat_map (stops_in (31 - length ls) s) os ++ stops_of 31 s lists ls) (left_done s lists l next)

abbrev whole : Level → Option (List Level × Level) → List Level × Level
whole l o = option_map_or (λ (q : List Level × Level). (l ∷ q.0, q.1)) o ([], l)

split_none : (ks : List Level) → split_last ks ≡ None → ks ≡ []
split_none [] g = refl
split_none (k ∷ ks) g = absurd (cc)

split_next : (l : Level) (ls : List Level) (p : List Level × Level) → ((q : List Level × Level) → split_last ls ≡ Some q → ls ≡ q.0 ++ q.1 ∷ []) → (o : Option (List Level × Level)) → split_last ls ≡ o → Some (whole l o) ≡ Some p → l ∷ ls ≡ p.0 ++ p.1 ∷ []
split_next l ls p each o f e = by o f (joined (whole l o) p e)
  where
    joined : (q r : List Level × Level) → Some q ≡ Some r → q ≡ r
    joined q r e = ap (λ (o : Option (List Level × Level)). option_map_or (λ t. t) o q) e

    by : (o : Option (List Level × Level)) → split_last ls ≡ o → whole l o ≡ p → l ∷ ls ≡ p.0 ++ p.1 ∷ []
    by None f e = ap (λ (ks : List Level). l ∷ ks) (split_none ls f) ∙ (λ i. (e i).0 ++ (e i).1 ∷ [])
    by (Some q) f e = ap (λ (ks : List Level). l ∷ ks) (each q f) ∙ (λ i. (e i).0 ++ (e i).1 ∷ [])

pub split_is : (ls : List Level) (p : List Level × Level) → split_last ls ≡ Some p → ls ≡ p.0 ++ p.1 ∷ []
split_is [] p e = absurd (cc)
split_is (l ∷ ls) p e = split_next l ls p (λ q f. split_is ls q f) (split_last ls) refl e

split_nothing : (ls : List Level) → split_last ls ≡ None → ls ≡ []
split_nothing [] e = refl
split_nothing (l ∷ ls) e = absurd (cc)

pub step_goes : (s : Scene) (w : Walking) (tests : ℕ) → IsUnderway s w → IsRoutine w → w.held ≡ None → w.sent ≡ None → IsStepped s w tests (stepped s w tests)
step_goes s w tests under routine held sent = by w.fresh refl
  where
    same_walk : w.fresh ≡ false → (ls : List Level) → record w { way = ls } ≡ on w ls
    same_walk e ls = λ i. record (on w ls) { fresh = e i }

    child : w.fresh ≡ false → (p : List Level × Level) → split_last w.way ≡ Some p → (c : Option (ℕ × ℕ)) → next_child s.look p.1 ≡ c → IsStepped s w tests (gone_on s w tests p.0 p.1 c)
    child e p f None g = subst (λ (v : Walking). IsStepped s w tests (record { going = true; walk = v; tests = tests })) (sym (same_walk e p.0)) (leave_step s w tests p.0 p.1 under routine held sent e (split_is w.way p f) g)
    child e p f (Some c) g =
        subst (λ (v : Walking). IsStepped s w tests (record { going = true; walk = visited_in s v (record { id = c.0; joint = p.1.joint; shift = c.1 }); tests = tests + 1 })) (sym (same_walk e (p.0 ++ record p.1 { from = p.1.from + 1 } ∷ [])))
        (next_step s w tests p.0 p.1 c under routine held sent e (split_is w.way p f) g)

    way : w.fresh ≡ false → (o : Option (List Level × Level)) → split_last w.way ≡ o → IsStepped s w tests (on_way s w tests o)
    way e None f = record {
      over = λ g. (refl, ahead_is s w e ∙ ap (stops_of 31 s w.seen.joints.lists) (split_nothing w.way f));
      come = refl;
      underway = under;
      view = refl;
      sent = refl;
      numbers = refl;
      counted = refl;
    }
    way e (Some p) f = child e p f (next_child s.look p.1) refl

    by : (b : Bool) → w.fresh ≡ b → IsStepped s w tests (cond b (record { going = true; walk = visited_in s (record w { fresh = false }) root_at; tests = tests + 1 }) (on_way s w tests (split_last w.way)))
    by true e = first_step s w tests under routine held sent e
    by false e = way e (split_last w.way) refl
