-- A draw list made of instances, each with a joint and triangles of its own.
use Rattle.std.specs.Prelude.{◌≡◌, ℕ, ◌+◌, true, List, [], ◌∷◌, map, flat_map, length}
use Rattle.std.specs.Option.{option_map}
use Rattle.pf_model.specs.Walks.{Instance}
use Rattle.draw_list.specs.Order.{is_opaque}
use Rattle.draw_list.specs.Lists.{Drawables}
use Rattle.draw_list.specs.declared.items.Item.{Item}

-- the item of an instance with this joint, whose triangles begin there
abbrev pub woven_item : (joint from : ℕ) → Instance → Item
woven_item joint from x =
    record {
      state = x.state;
      place = x.place;
      shift = x.shift;
      joint = joint;
      geom = record { from = from; len = length x.tris };
      tint = option_map (λ alpha. record { alpha = alpha; far = x.far }) x.tint;
    }

-- the items of instances, one joint after the other
abbrev pub woven_items : (joint from : ℕ) → List Instance → List Item
woven_items joint from [] = []
woven_items joint from (x ∷ xs) = woven_item joint from x ∷ woven_items (joint + 1) (from + length x.tris) xs

-- the draw list of the instances; nothing more has room in it
abbrev pub woven : List Instance → Drawables
woven xs =
    record {
      joints = record { lists = map (λ x. x.steps) xs; spare = 0 };
      items = record { items = woven_items 0 0 xs; spare = 0 };
      kept = record { tris = flat_map (λ x. x.tris) xs; spans = []; spare = 0 };
    }

-- what is opaque has the distance 0
abbrev pub IsFarAsGlass : Instance → Type 0
IsFarAsGlass x = is_opaque x ≡ true → x.far ≡ 0
