-- Which line may stand at which place of a play.
use Rattle.std.specs.Prelude.{ℕ, ◌+◌, ◌-◌, ◌==◌, ◌&&◌, Bool, true, false, IsTrue, if◌then◌else◌, nat_lt, nat_le, List, ℤ, pos, ◌≤ℤ◌, int_le, unsigned_abs, slice_index_or, [], ◌∷◌}
use Rattle.play_format.specs.declared.numbers.Limits.{Limits}
use Rattle.play_format.specs.declared.commands.Form.{Form}
use Rattle.play_format.specs.declared.commands.Form.TheVariants as form
use Rattle.play_format.specs.declared.commands.Command.{Command}
use Rattle.play_format.specs.declared.commands.Command.TheVariants as command
use Rattle.play_format.specs.declared.places.Version.{Version}
use Rattle.play_format.specs.declared.places.Version.TheVariants as version
use Rattle.play_format.specs.declared.places.Place.{Place}
use Rattle.play_format.specs.declared.places.Place.TheVariants as place
use Rattle.play_format.specs.declared.places.Spot.{Spot}
use Rattle.play_format.specs.Commands.{limits_of}

-- number k of a line
abbrev pub number : List ℤ → ℕ → ℤ
number zs k = slice_index_or zs k (pos 0)

abbrev pub is_two : Version → Bool
is_two version.One = false
is_two version.Two = true

-- an edit that belongs to the version
abbrev pub is_known : Version → Form → Bool
is_known v form.Glass = is_two v
is_known v _ = true

-- the lines of the application
abbrev pub stands_in_app : Version → Command → Bool
stands_in_app v command.View = true
stands_in_app v command.ChannelView = is_two v
stands_in_app v command.Sync = true
stands_in_app v command.Frame = true
stands_in_app v command.Wait = true
stands_in_app v command.Dbase = true
stands_in_app v (command.Edit f) = is_known v f
stands_in_app v _ = false

-- the lines of the database process outside a buffer
abbrev pub stands_in_dbase : Command → Bool
stands_in_dbase command.Await = true
stands_in_dbase command.Buffer = true
stands_in_dbase _ = false

-- those inside a buffer
abbrev pub stands_in_buffer : Version → Command → Bool
stands_in_buffer v command.BufferAdd = true
stands_in_buffer v command.BufferRemove = true
stands_in_buffer v command.Merge = true
stands_in_buffer v (command.Edit f) = is_known v f
stands_in_buffer v _ = false

abbrev pub is_size : Command → Bool
is_size command.Size = true
is_size _ = false

abbrev pub is_lens : Command → Bool
is_lens command.Lens = true
is_lens _ = false

abbrev pub is_back : Command → Bool
is_back command.Back = true
is_back _ = false

abbrev pub is_app : Command → Bool
is_app command.App = true
is_app _ = false

abbrev pub is_triangle : Command → Bool
is_triangle command.Triangle = true
is_triangle _ = false

-- the fifth line: `app`, or in version 2 `channels`
abbrev pub stands_at_start : Version → Command → Bool
stands_at_start v command.App = true
stands_at_start v command.Channels = is_two v
stands_at_start v _ = false

abbrev pub stands_at : Version → Place → Command → Bool
stands_at v place.Size c = is_size c
stands_at v place.Lens c = is_lens c
stands_at v place.Back c = is_back c
stands_at v place.Start c = stands_at_start v c
stands_at v place.Opening c = is_app c
stands_at v place.App c = stands_in_app v c
stands_at v place.Dbase c = stands_in_dbase c
stands_at v place.Buffer c = stands_in_buffer v c

-- where a triangle line is due, only `t` may stand
abbrev pub may_stand : Spot → Command → Bool
may_stand s c = if nat_lt 0 s.due then is_triangle c else stands_at s.version s.place c

-- where the play may end: behind the header, outside a buffer, with no triangle line due
abbrev pub is_closed : Place → Bool
is_closed place.App = true
is_closed place.Dbase = true
is_closed _ = false

abbrev pub may_end : Spot → Bool
may_end s = s.due == 0 && is_closed s.place

-- the triangle lines that an edit announces
abbrev pub announced_by : Form → List ℤ → ℕ
announced_by form.Geode zs = unsigned_abs (number zs 2)
announced_by form.Glass zs = unsigned_abs (number zs 3)
announced_by form.Verts zs = unsigned_abs (number zs 1)
announced_by _ zs = 0

abbrev pub announced : Command → List ℤ → ℕ
announced (command.Edit f) zs = announced_by f zs
announced _ zs = 0

-- the far depth is not below the near one
abbrev pub is_ordered : Command → List ℤ → Bool
is_ordered command.Lens zs = int_le (number zs 1) (number zs 2)
is_ordered _ zs = true

-- the play's triangles stay within 65,536
abbrev pub has_room : Spot → Command → List ℤ → Bool
has_room s c zs = nat_le (s.triangles + announced c zs) 65536

-- the place behind a line
abbrev pub place_after : Command → Place → Place
place_after command.Size p = place.Lens
place_after command.Lens p = place.Back
place_after command.Back p = place.Start
place_after command.Channels p = place.Opening
place_after command.App p = place.App
place_after command.Dbase p = place.Dbase
place_after command.Buffer p = place.Buffer
place_after command.Merge p = place.Dbase
place_after _ p = p

abbrev pub channels_after : Command → List ℤ → ℕ → ℕ
channels_after command.Channels zs n = unsigned_abs (number zs 0)
channels_after _ zs n = n

abbrev pub due_after : Command → List ℤ → ℕ → ℕ
due_after command.Triangle zs n = n - 1
due_after c zs n = announced c zs

-- the spot behind a line
unfoldable pub next_spot : Spot → Command → List ℤ → Spot
next_spot s c zs = record {
  version = s.version;
  place = place_after c s.place;
  channels = channels_after c zs s.channels;
  due = due_after c zs s.due;
  triangles = s.triangles + announced c zs;
}

-- the spot behind the first line
abbrev pub start : Version → Spot
start v = record { version = v; place = place.Size; channels = 1; due = 0; triangles = 0 }

-- a number is within its limits
pub record IsWithin (r : Limits) (z : ℤ) : Type 0 where
  pub low : r.low ≤ℤ z
  pub high : z ≤ℤ r.high

-- all numbers of a line are
abbrev pub AreWithin : List Limits → List ℤ → Type 0
AreWithin [] [] = Unit {0}
AreWithin (r ∷ rs) (z ∷ zs) = IsWithin r z × AreWithin rs zs
AreWithin _ _ = ⊥

-- a line may stand at a spot
pub record Fits (s : Spot) (c : Command) (zs : List ℤ) : Type 0 where
  pub stands : IsTrue (may_stand s c)
  pub within : AreWithin (limits_of s.channels c) zs
  pub ordered : IsTrue (is_ordered c zs)
  pub room : IsTrue (has_room s c zs)
