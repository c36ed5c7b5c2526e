-- What an act does to the scene that it finds, and what a glance shows of it.
use Rattle.std.specs.Prelude.{◌≡◌, ℕ, ◌+◌, ◌-◌, ◌<◌, ◌≤◌, true, Option, Some, None, List, [], ◌∷◌, ◌++◌, length, map, drop}
use Rattle.std.specs.Vec.{vec_capacity}
use Rattle.std.specs.List.{list_all}
use Rattle.pf_model.specs.declared.edits.Edit.{Edit}
use Rattle.pf_model.specs.Angles.{Viewpoint}
use Rattle.pf_model.specs.Fits.{fits}
use Rattle.pf_model.specs.Copies.{UpdateList}
use Rattle.pf_history.specs.declared.commands.Command.{Command}
use Rattle.pf_history.specs.declared.commands.Command.TheVariants as command
use Rattle.pf_history.specs.declared.commands.Entry.{Entry}
use Rattle.pf_history.specs.declared.commands.Merge.{Merge}
use Rattle.pf_history.specs.declared.commands.Reply.{Reply}
use Rattle.pf_history.specs.Objects.{reply_of}
use Rattle.pf_history.specs.Cuts.{cut_of}
use Rattle.pf_scene.specs.declared.outcomes.Outcome.{Outcome}
use Rattle.pf_scene.specs.declared.outcomes.Outcome.TheVariants as outcome
use Rattle.pf_scene.specs.declared.outcomes.Home.{Home}
use Rattle.pf_scene.specs.declared.outcomes.Synced.{Synced}
use Rattle.pf_scene.specs.declared.outcomes.Channels.{Channels}
use Rattle.pf_scene.specs.declared.outcomes.Framed.{Framed}
use Rattle.pf_scene.specs.declared.outcomes.Sight.{Sight}
use Rattle.pf_scene.specs.declared.outcomes.Told.{Told}
use Rattle.pf_scene.specs.Scenes.{Shared, SceneState, KeepsCopies, AreOfRetired, TakesHome, state_in, entered, weight_in, HasWeight, copies_after, one_more, next_told, TellsNext}
use Rattle.pf_scene.specs.Frames.{IsCutOf, AllHaveRoom, drawn}

-- a seat is in charge
abbrev pub seated : ℕ → Shared → Shared
seated seat s = record s { seat = seat }

-- nothing changed but the seat in charge
abbrev pub with_seat : ℕ → SceneState → SceneState
with_seat seat s = record s { shared = seated seat s.shared }

-- When a command may be made

-- The numbers of an edit are in range, and the weight can be borne.
pub record MayEdit (s : Shared) (e : Edit) : Type 0 where
  pub fit : fits e ≡ true
  pub light : HasWeight s (command.Edit e)

-- So are those of all edits of a merge.
pub record MayMerge (s : Shared) (m : Merge) : Type 0 where
  pub fit : list_all fits m.edits ≡ true
  pub light : HasWeight s (command.Merge m)

-- The channel is there.
pub record MayView (s : Shared) (channel : ℕ) (v : Viewpoint) : Type 0 where
  pub there : channel < s.channels
  pub light : HasWeight s (command.View channel v)

-- The frames to retire were begun, and none comes back.
pub record MaySync (s : Shared) (retired : ℕ) : Type 0 where
  pub back : (state_in s).retired ≤ retired
  pub begun : retired ≤ (state_in s).frames
  pub light : HasWeight s (command.Sync retired)

-- Fewer frames are in flight than may be ahead, which is the scene's number, and there is a draw list for each channel.
pub record MayFrame (s : Shared) (ahead lists : ℕ) : Type 0 where
  pub agreed : ahead ≡ s.ahead
  pub free : (state_in s).frames < (state_in s).retired + ahead
  pub many : lists ≡ s.channels
  pub light : HasWeight s command.Frame

-- What an act did

-- The command was entered under the seat, the copies are as after it, and those that are out stay accounted for.
pub record Enters (c : Command) (seat : ℕ) (found left : SceneState) : Type 0 where
  pub shared : left.shared ≡ entered c (seated seat found.shared)
  pub copies : left.copies ≡ copies_after found.shared.ahead (state_in found.shared) c found.copies
  pub accounted : KeepsCopies found → KeepsCopies left
  pub told : left.told ≡ found.told

-- A Sync was entered under the seat, and the geodes took back their arrays among these lists. Where the lists are what
-- came back of the frames that it retires, the copies that are out stay accounted for.
pub record Syncs (retired : ℕ) (lists : List UpdateList) (seat : ℕ) (found left : SceneState) : Type 0 where
  pub shared : left.shared ≡ entered (command.Sync retired) (seated seat found.shared)
  pub copies : left.copies ≡ found.copies
  pub taken : TakesHome lists found left
  pub accounted : AreOfRetired retired found.shared lists → KeepsCopies found → KeepsCopies left
  pub told : left.told ≡ found.told

-- an edit was entered where it may be made; it may not be made; or there was no memory
abbrev pub DoesEdit : Edit → ℕ → SceneState → SceneState → Outcome Reply Edit → Type 0
DoesEdit e seat found left (outcome.Entered r) =
    MayEdit found.shared e × Enters (command.Edit e) seat found left × (r ≡ reply_of (state_in found.shared) (command.Edit e))
DoesEdit e seat found left (outcome.NotNow back) = (left ≡ found) × (back ≡ e) × (MayEdit found.shared e → ⊥)
DoesEdit e seat found left (outcome.NoMemory back) =
    (left ≡ with_seat seat found) × (back ≡ e) × (KeepsCopies found → KeepsCopies left)

abbrev pub DoesMerge : Merge → ℕ → SceneState → SceneState → Outcome Reply Merge → Type 0
DoesMerge m seat found left (outcome.Entered r) =
    MayMerge found.shared m × Enters (command.Merge m) seat found left × (r ≡ reply_of (state_in found.shared) (command.Merge m))
DoesMerge m seat found left (outcome.NotNow back) = (left ≡ found) × (back ≡ m) × (MayMerge found.shared m → ⊥)
DoesMerge m seat found left (outcome.NoMemory back) =
    (left ≡ with_seat seat found) × (back ≡ m) × (KeepsCopies found → KeepsCopies left)

abbrev pub DoesView : ℕ → Viewpoint → ℕ → SceneState → SceneState → Outcome Reply (Unit {0}) → Type 0
DoesView channel v seat found left (outcome.Entered r) =
    MayView found.shared channel v × Enters (command.View channel v) seat found left
    × (r ≡ reply_of (state_in found.shared) (command.View channel v))
DoesView channel v seat found left (outcome.NotNow back) = (left ≡ found) × (MayView found.shared channel v → ⊥)
DoesView channel v seat found left (outcome.NoMemory back) =
    (left ≡ with_seat seat found) × (KeepsCopies found → KeepsCopies left)

-- a Sync that was entered leaves no list to bring home; the room for lists stays whatever the answer
abbrev pub DoesSync : ℕ → Home → ℕ → SceneState → SceneState → Outcome Synced Home → Type 0
DoesSync retired home seat found left (outcome.Entered r) =
    MaySync found.shared retired × Syncs retired home.lists.items seat found left
    × (r.reply ≡ reply_of (state_in found.shared) (command.Sync retired)) × (r.home.lists.items ≡ [])
    × (vec_capacity r.home.lists ≡ vec_capacity home.lists)
DoesSync retired home seat found left (outcome.NotNow back) =
    (left ≡ found) × (back ≡ home) × (MaySync found.shared retired → ⊥)
DoesSync retired home seat found left (outcome.NoMemory back) =
    (left ≡ with_seat seat found) × (back.lists.items ≡ home.lists.items)
    × (vec_capacity back.lists ≡ vec_capacity home.lists) × (KeepsCopies found → KeepsCopies left)

-- What a Frame that was entered did: its cut is that of the history, each draw list has room and is as before, the number
-- of copies rose by one at most and not from 0, and the copies that are out stay accounted for.
pub record Begins (ahead : ℕ) (channels : Channels) (seat : ℕ) (found left : SceneState) (r : Framed) : Type 0 where
  pub may : MayFrame found.shared ahead (length channels.lists.items)
  pub shared : left.shared ≡ entered command.Frame (seated seat found.shared)
  pub copies : found.copies ≤ left.copies
  pub few : left.copies ≤ one_more found.copies
  pub accounted : KeepsCopies found → KeepsCopies left
  pub cut : IsCutOf r.cut found.shared
  pub updates : r.cut.updates ≡ cut_of left.shared.channels left.shared.log r.cut.frame
  pub room : AllHaveRoom (state_in found.shared).graph r.channels.lists.items
  pub lists : map drawn r.channels.lists.items ≡ map drawn channels.lists.items
  pub told : left.told ≡ found.told

abbrev pub DoesFrame : ℕ → Channels → ℕ → SceneState → SceneState → Outcome Framed Channels → Type 0
DoesFrame ahead channels seat found left (outcome.Entered r) = Begins ahead channels seat found left r
DoesFrame ahead channels seat found left (outcome.NotNow back) =
    (left ≡ found) × (back ≡ channels) × (MayFrame found.shared ahead (length channels.lists.items) → ⊥)
DoesFrame ahead channels seat found left (outcome.NoMemory back) =
    (left.shared ≡ seated seat found.shared) × (found.copies ≤ left.copies)
    × (map drawn back.lists.items ≡ map drawn channels.lists.items) × (KeepsCopies found → KeepsCopies left)
    × (left.told ≡ found.told)

-- the stop mark is set, and nothing else changed
abbrev pub DoesStop : SceneState → SceneState → Type 0
DoesStop found left = left ≡ record found { shared = record found.shared { stopped = true } }

-- where so many entries were told, the next one is told now, and nothing else changes; none is told where another number was
-- told, or where there is no next one
abbrev pub DoesTell : ℕ → SceneState → SceneState → Option (ℕ × Entry) → Type 0
DoesTell told found left (Some e) =
    (found.told ≡ told) × (left ≡ record found { told = told + 1 })
    × (drop told found.shared.log ≡ e ∷ drop (told + 1) found.shared.log)
DoesTell told found left None = (left ≡ found) × (found.told ≡ told → told ≡ length found.shared.log)

-- how many entries a block has room for besides those in it
abbrev pub free_in : Told → ℕ
free_in block = vec_capacity block.entries - length block.entries.items

-- Where so many entries were told, the next ones are told now, as many as the block has room for, and stand in order behind
-- those in it; nothing else changes. None is told where another number was told. The block says how many were told before.
pub record TellsBlock (told : ℕ) (block : Told) (found left : SceneState) (reply : Told) : Type 0 where
  pub next : found.told ≡ told → TellsNext (free_in block) found left
  pub entries : found.told ≡ told → reply.entries.items ≡ block.entries.items ++ next_told (free_in block) found
  pub other : (found.told ≡ told → ⊥) → (left ≡ found) × (reply.entries.items ≡ block.entries.items)
  pub room : vec_capacity reply.entries ≡ vec_capacity block.entries
  pub before : reply.before ≡ found.told

-- What a glance shows: the stop mark, the counts of the state after the log, the weight and the copies.
pub record Shows (found : SceneState) (sight : Sight) : Type 0 where
  pub stopped : sight.stopped ≡ found.shared.stopped
  pub frames : sight.frames ≡ (state_in found.shared).frames
  pub retired : sight.retired ≡ (state_in found.shared).retired
  pub merges : sight.merges ≡ (state_in found.shared).merges
  pub graves : sight.graves ≡ length (state_in found.shared).graves
  pub weight : sight.weight ≡ weight_in found.shared.log
  pub copies : sight.copies ≡ found.copies
