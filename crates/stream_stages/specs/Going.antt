-- The steps of the walk under way.
use Rattle.std.specs.Prelude.{ℕ, ◌+◌, ◌==◌, Bool, true, false, nat_lt, if◌then◌else◌, is_some, List, [], ◌∷◌, ◌++◌, map, length, Option, Some, None}
use Rattle.std.specs.Option.{option_map, option_map_or}
use Rattle.fx_math.specs.Plain.{Bounds}
use Rattle.pf_model.specs.declared.nodes.Chosen.{Chosen}
use Rattle.pf_model.specs.declared.nodes.Node.{Node}
use Rattle.pf_model.specs.Kinds.{Surface, surface_of}
use Rattle.pf_model.specs.Boxes.{eye_box}
use Rattle.pf_model.specs.Walks.{chosen_in}
use Rattle.draw_list.specs.Joints.{steps_at}
use Rattle.draw_list.specs.Items.{with_item}
use Rattle.draw_list.specs.Kept.{empty_span}
use Rattle.draw_list.specs.Lists.{Drawables}
use Rattle.cull_walk.specs.Working.{Scene, At, counted, in_frustum, tint_at, item_at, own_pose, joint_below, with_below}
use Rattle.stream_stages.specs.declared.levels.Level.{Level}
use Rattle.stream_stages.specs.declared.sightings.Sighting.{Sighting}
use Rattle.stream_stages.specs.Routes.{Walking, padded, next_child, first_place, last_place}

-- ---- a geode in sight
-- the instance of a geode in sight that is to wait
abbrev pub spotted : Walking → At → Bounds → Surface → Sighting
spotted w a around s =
    record {
      id = a.id;
      state = s.state;
      tint = option_map (tint_at around) s.tint;
      shift = a.shift;
      place = length w.seen.items.items;
      above = padded (map (λ l. l.id) w.way);
      depth = length w.way;
    }

-- glass waits where it finds room
abbrev pub with_glass : Sighting → List Sighting → List Sighting
with_glass x xs = if nat_lt (length xs) 131072 then xs ++ x ∷ [] else xs

abbrev pub with_waiting : Sighting → Walking → Walking
with_waiting x w = if is_some x.tint then record w { glass = with_glass x w.glass } else record w { held = Some x }

-- the list of what was seen with a geode, without its triangles
abbrev pub with_seen : At → Bounds → Surface → Drawables → Drawables
with_seen a around s d = record d { items = with_item (item_at a around (length d.items.items) s empty_span) d.items }

-- a geode is numbered and waits to be sent, where it finds room
abbrev pub found_in : Walking → At → Bounds → Surface → Walking
found_in w a around s =
    if w.seen.items.spare == 0 then w
    else with_waiting (spotted w a around s) (record w { seen = with_seen a around s w.seen })

-- ---- any other node in sight
abbrev pub level_of : At → Chosen → ℕ → ℕ → Level
level_of a chosen n joint =
    record { id = a.id; joint = joint; shift = a.shift; from = first_place chosen; to = last_place chosen n }

-- the way with a further level, where its joint is there
abbrev pub with_level : Walking → At → Chosen → ℕ → Option ℕ → Walking
with_level w a chosen n joint = option_map_or (λ j. record w { way = w.way ++ level_of a chosen n j ∷ [] }) joint w

abbrev pub lowered_in : Walking → At → Node → Chosen → Walking
lowered_in w a n chosen =
    with_level (record w { seen = with_below a.joint w.seen (own_pose n.kind) }) a chosen (length n.children)
    (joint_below a.joint w.seen (own_pose n.kind))

-- the children of a node are visited next; there are 31 levels of children at most
abbrev pub entered_in : Scene → Walking → At → Node → Walking
entered_in s w a n =
    if nat_lt (length w.way) 31
    then lowered_in w a n (chosen_in s.time n (steps_at w.seen.joints.lists a.joint))
    else w

-- ---- a node
abbrev pub shown_in : Scene → Walking → At → Bounds → Node → Option Surface → Walking
shown_in s w a around n None = entered_in s w a n
shown_in s w a around n (Some surface) = found_in w a around surface

abbrev pub seen_in : Scene → Walking → At → Option Bounds → Walking
seen_in s w a None = w
seen_in s w a (Some around) = option_map_or (λ n. shown_in s w a around n (surface_of n.kind)) (s.look a.id) w

-- a node is visited
abbrev pub visited_in : Scene → Walking → At → Walking
visited_in s w a =
    seen_in s (record w { visited = counted w.visited }) a
    (in_frustum s.lens (eye_box s.boxes a.id (steps_at w.seen.joints.lists a.joint)))

-- ---- a step
-- the levels before the last one, and that one
abbrev pub split_last : List Level → Option (List Level × Level)
split_last [] = None
split_last (l ∷ ls) = Some (option_map_or (λ (p : List Level × Level). (l ∷ p.0, p.1)) (split_last ls) ([], l))

-- What a step leaves, and whether there was one.
pub record Stepped : Type 0 where
  pub going : Bool
  pub walk : Walking
  pub tests : ℕ

abbrev pub root_at : At
root_at = record { id = 0; joint = 0; shift = 0 }

-- the next child of the last level is visited, or the level is left
abbrev pub gone_on : Scene → Walking → ℕ → List Level → Level → Option (ℕ × ℕ) → Stepped
gone_on s w tests front l None = record { going = true; walk = record w { way = front }; tests = tests }
gone_on s w tests front l (Some child) =
    record {
      going = true;
      walk = visited_in s (record w { way = front ++ record l { from = l.from + 1 } ∷ [] })
          (record { id = child.0; joint = l.joint; shift = child.1 });
      tests = tests + 1;
    }

abbrev pub on_way : Scene → Walking → ℕ → Option (List Level × Level) → Stepped
on_way s w tests None = record { going = false; walk = w; tests = tests }
on_way s w tests (Some p) = gone_on s w tests p.0 p.1 (next_child s.look p.1)

-- the scene is visited first; then the walk goes on from the last level; nothing is left where there is none
abbrev pub stepped : Scene → Walking → ℕ → Stepped
stepped s w tests =
    if w.fresh
    then record { going = true; walk = visited_in s (record w { fresh = false }) root_at; tests = tests + 1 }
    else on_way s w tests (split_last w.way)
