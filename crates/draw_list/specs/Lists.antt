-- What clauses see of a draw list.
use Rattle.std.specs.Prelude.{◌<◌, List, map, length}
use Rattle.std.specs.List.{All}
use Rattle.pf_model.specs.Walks.{Instance}
use Rattle.draw_list.specs.Joints.{JointList}
use Rattle.draw_list.specs.Items.{ItemList, instance_of_item}
use Rattle.draw_list.specs.Kept.{KeptTris}
use Rattle.draw_list.specs.declared.items.Item.{Item}

-- Joints, items and kept triangles, with the room for more of each.
pub record Drawables : Type 0 where
  pub joints : JointList
  pub items : ItemList
  pub kept : KeptTris

-- the instances that are drawn, in the order of the items
abbrev pub instances_in : Drawables → List Instance
instances_in d = map (instance_of_item d.joints.lists d.kept.tris) d.items.items

-- the joint of each item is there
abbrev pub HaveJoints : JointList → List Item → Type 0
HaveJoints joints items = All (λ i. i.joint < length joints.lists) items
