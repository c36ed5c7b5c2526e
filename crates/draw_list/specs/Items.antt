-- The items of a draw list, as instances.
use Rattle.std.specs.Prelude.{◌≡◌, ℕ, ◌+◌, ◌-◌, ◌^◌, ◌<◌, ◌≤◌, Bool, false, ◌==◌, nat_le, if◌then◌else◌, List, [], ◌∷◌, ◌++◌, length, take, drop, slice_index_or, option_map}
use Rattle.std.specs.List.{list_any}
use Rattle.std.specs.Option.{option_map_or}
use Rattle.std.specs.declared.cmp.Reverse.{Reverse}
use Rattle.fx_math.specs.Plain.{Matrix}
use Rattle.pf_model.specs.declared.geometry.Tri.{Tri}
use Rattle.pf_model.specs.Walks.{Instance}
use Rattle.draw_list.specs.Order.{draw_order, is_of_state}
use Rattle.draw_list.specs.Joints.{steps_at}
use Rattle.draw_list.specs.declared.items.Span.{Span}
use Rattle.draw_list.specs.declared.items.Item.{Item}

-- The items, and how many more have room.
pub record ItemList : Type 0 where
  pub items : List Item
  pub spare : ℕ

-- the list with a further item, where there is room
abbrev pub with_item : Item → ItemList → ItemList
with_item i d = if d.spare == 0 then d else record { items = d.items ++ i ∷ []; spare = d.spare - 1 }

-- the triangles at a span, none where it goes past the end
abbrev pub tris_at : List Tri → Span → List Tri
tris_at tris s = if nat_le (s.from + s.len) (length tris) then take s.len (drop s.from tris) else []

-- an item as the instance that it draws, which has no id: its steps are those of its joint
abbrev pub instance_of_item : List (List Matrix) → List Tri → Item → Instance
instance_of_item lists tris i =
    record {
      place = i.place;
      id = 0;
      state = i.state;
      tint = option_map (λ t. t.alpha) i.tint;
      shift = i.shift;
      steps = steps_at lists i.joint;
      tris = tris_at tris i.geom;
      far = option_map_or (λ t. t.far) i.tint 0;
    }

-- an item as an instance without steps and triangles, on which its order and its state do not depend
abbrev pub label_of : Item → Instance
label_of i = instance_of_item [] [] i

abbrev pub item_order : Item → Item → Bool
item_order i j = draw_order (label_of i) (label_of j)

-- what orders items: a 0 for what is opaque and a 1 for glass, the distance of glass, the state of what is opaque, the place
abbrev pub draw_key : Item → ℕ × Reverse ℕ × ℕ × ℕ
draw_key i = option_map_or (λ t. (1, record { 0 = t.far }, 0, i.place)) i.tint (0, record { 0 = 0 }, i.state, i.place)

-- an opaque item of a state
abbrev pub is_item_of : ℕ → Item → Bool
is_item_of state i = is_of_state state (label_of i)

-- what the items keep: their room, and a mark for each state of an opaque item
pub record IsItemTable (items : List Item) (marks : List Bool) (room capacity : ℕ) : Type 0 where
  pub within : length items ≤ room
  pub reserved : room ≤ capacity
  pub small : room < 2 ^ 32
  pub sized : 0 < room → length marks ≡ 65536
  pub marked : (state : ℕ) → slice_index_or marks state false ≡ list_any (is_item_of state) items
