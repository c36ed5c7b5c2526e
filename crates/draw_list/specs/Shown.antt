-- What is shown of a scene through a lens, in which order it is drawn, and the numbers of a frame.
use Rattle.std.specs.Prelude.{ℕ, Bool, true, not, List, filter, count_by, length, Option}
use Rattle.std.specs.List.{list_any}
use Rattle.std.specs.Option.{option_map_or}
use Rattle.fx_math.specs.Plain.{Matrix, Bounds}
use Rattle.fx_math.specs.declared.lenses.Lens.{Lens}
use Rattle.pf_bounds.specs.Outside.{is_outside}
use Rattle.pf_model.specs.Angles.{Viewpoint}
use Rattle.pf_model.specs.Graphs.{Look}
use Rattle.pf_model.specs.Boxes.{box_of, eye_box}
use Rattle.pf_model.specs.Walks.{Occurrence, Instance, walk, instances_of}
use Rattle.draw_list.specs.Order.{in_draw_order, state_count}
use Rattle.draw_list.specs.declared.stats.Stats.{Stats}

-- The test of a box, lifted to a node: a node without a box counts as outside.
abbrev pub is_off : Lens → Option Bounds → Bool
is_off lens b = option_map_or (is_outside lens) b true

-- the node of an id, under these steps to the eye, is outside
abbrev pub is_culled : Lens → (ℕ → Option Bounds) → ℕ → List Matrix → Bool
is_culled lens boxes id steps = is_off lens (eye_box boxes id steps)

-- the occurrence's own eye box is not outside
abbrev pub is_in_sight : Lens → (ℕ → Option Bounds) → Occurrence → Bool
is_in_sight lens boxes o = not (is_culled lens boxes o.id o.steps)

-- no occurrence above this one is outside
abbrev pub is_visited : Lens → (ℕ → Option Bounds) → Occurrence → Bool
is_visited lens boxes o = not (list_any (λ p. is_culled lens boxes p.id p.steps) o.above)

-- the instances of the walk whose own eye boxes are not outside, in its order, numbered from 0
abbrev pub shown : Look → ℕ → Viewpoint → Lens → List Instance
shown look time v lens = instances_of look (filter (is_in_sight lens (box_of look)) (walk look time v))

-- how many occurrences of the walk have none above them that is outside
abbrev pub visited : Look → ℕ → Viewpoint → Lens → ℕ
visited look time v lens = count_by (is_visited lens (box_of look)) (walk look time v)

-- what is drawn, in the order in which it is drawn
abbrev pub draw_list : Look → ℕ → Viewpoint → Lens → List Instance
draw_list look time v lens = in_draw_order (shown look time v lens)

-- the three numbers of a channel of a frame
abbrev pub stats_of : Look → ℕ → Viewpoint → Lens → Stats
stats_of look time v lens =
    record {
      shown = length (shown look time v lens);
      states = state_count (shown look time v lens);
      visited = visited look time v lens;
    }
