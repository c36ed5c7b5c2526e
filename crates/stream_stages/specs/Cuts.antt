-- What clauses see of a piece of a draw list, and what its type keeps.
use Rattle.std.specs.Prelude.{◌≡◌, ℕ, ◌+◌, ◌*◌, ◌≤◌, Bool, length}
use Rattle.draw_list.specs.declared.stats.Stats.{Stats}
use Rattle.draw_list.specs.Lists.{Drawables, instances_in}
use Rattle.stream_stages.specs.Pieces.{PieceParts}

-- A piece: its list, the most items that it takes, and, where it is the last one, the numbers of the whole list.
pub record Cut : Type 0 where
  pub list : Drawables
  pub limit : ℕ
  pub stats : Stats
  pub last : Bool

-- Of 1 to 4,096 items; once it is cleared, the list has room for 32 times as many items and joints, for 65,536 triangles, and
-- for no more.
pub record IsPiece (limit : ℕ) (d : Drawables) : Type 0 where
  pub least : 1 ≤ limit
  pub most : limit ≤ 4096
  pub few : length d.items.items ≤ limit
  pub items : d.items.spare + length d.items.items ≡ 32 * limit
  pub joints : d.joints.spare + length d.joints.lists ≡ 32 * limit + 1
  pub tris : d.kept.spare + length d.kept.tris ≡ 65536

-- a piece as it is sent
abbrev pub parts_of : Cut → PieceParts
parts_of p = record { items = instances_in p.list; last = p.last }
