-- What each stage keeps, of what it received itself and of the log that its own turns found.
use Rattle.std.specs.Prelude.{◌≡◌, ℕ, ◌+◌, ◌<◌, ◌≤◌, Bool, true, false, if◌then◌else◌, List, [], ◌∷◌, ◌++◌, map, length, slice_get, Option, Some}
use Rattle.std.specs.Option.{option_map_or, option_to_list}
use Rattle.fx_math.specs.declared.lenses.Lens.{Lens}
use Rattle.ppm_out.specs.Pixmap.{Pixmap}
use Rattle.pf_model.specs.declared.lines.BaseLine.{BaseLine}
use Rattle.pf_model.specs.Graphs.{Look, Nodes, node_at, size_of, empty_scene}
use Rattle.pf_model.specs.Limits.{KeepsLimits, IsWithinLimits}
use Rattle.pf_model.specs.Totals.{triangle_count}
use Rattle.pf_model.specs.Walks.{Instance}
use Rattle.pf_model.specs.Copies.{UpdateList, updates_of, updated_by}
use Rattle.pf_model.specs.Merges.{buffer_after}
use Rattle.update_lists.specs.declared.cuts.Cut.{Cut}
use Rattle.draw_list.specs.declared.stats.Stats.{Stats}
use Rattle.draw_list.specs.Lists.{instances_in}
use Rattle.draw_list.specs.Shown.{draw_list, stats_of}
use Rattle.pf_history.specs.declared.commands.Caller.TheVariants.{App, Dbase}
use Rattle.pf_history.specs.Logs.{Log}
use Rattle.pf_history.specs.Asks.{asked_app, asked_dbase, Follows, FollowsBase}
use Rattle.pf_history.specs.Fits.{turns_at}
use Rattle.stage_parts.specs.declared.packets.Packet.{Packet}
use Rattle.stage_parts.specs.Loads.{LoadState, Each, AreImages, HasRoomFor, IsReady}
use Rattle.stage_parts.specs.Packets.{is_end, has_end, loads_in, bytes_in, copy_at}
use Rattle.stage_parts.specs.Frames.{frames_of, cut_of_frame, last_sync}
use Rattle.stage_parts.specs.Pictures.{painted, streamed, sums}
use Rattle.stage_parts.specs.States.{Setup, AppState, CullState, DrawState, DbaseState, still_asked, still_asked_dbase, in_buffer}

-- what a stage sent and holds to send
abbrev pub sent_and_held : List Packet → Option Packet → List Packet
sent_and_held sent held = sent ++ option_to_list held

-- The application

-- one end, or none
abbrev pub end_once : Bool → List Bool
end_once closed = if closed then true ∷ [] else []

-- What APP sent and holds to send are the packets of its Frames, in order, each with the cut of its Frame and with room
-- for it, and after the closing Sync the End.
pub record AppPart (g : Setup) (seat : ℕ) (a : AppState) (log : Log) (sent : List Packet) : Type 0 where
  pub cuts : map (λ l. l.cut) (loads_in (sent_and_held sent a.held)) ≡ map cut_of_frame (frames_of g.channels seat log)
  pub ends : map is_end (sent_and_held sent a.held) ≡ map (λ _. false) (frames_of g.channels seat log) ++ end_once a.closed
  pub ready : Each (IsReady g.lens) (loads_in (sent_and_held sent a.held))
  pub ended : a.ended ≡ has_end sent
  -- it counts its Frames, and passed a line for each
  pub frames : a.frames ≡ length (frames_of g.channels seat log)
  pub few : a.frames ≤ a.at
  -- where a Sync stands since the last Frame, a Frame may be begun
  pub fresh : a.synced ≡ true → a.frames < last_sync (turns_at g.channels seat App log) + g.ahead
  -- it closes once all pictures are written
  pub late : a.closed ≡ true → a.written ≡ a.frames

-- how many pictures a fault cut short
abbrev pub cut_short : Option ℕ → ℕ
cut_short fault = option_map_or (λ _. 1) fault 0

-- The stream is the pictures received that were wholly written, and what went out of the next one before a fault. No
-- more frames are retired than were wholly written, no more written than begun, and no more are undelivered than may be
-- in flight. The numbers of the frames that came back are kept in order.
pub record StreamPart (g : Setup) (seat : ℕ) (a : AppState) (log : Log) (taken : List Packet) (stream : List ℕ) : Type 0 where
  pub bytes : stream ≡ streamed a.written a.fault (map bytes_in taken)
  pub all : a.written + cut_short a.fault ≡ length taken
  pub retired : last_sync (turns_at g.channels seat App log) ≤ a.written
  pub begun : length taken ≤ a.frames
  pub in_flight : a.frames ≤ a.written + g.ahead
  pub numbers : a.stats ≡ map (λ l. l.stats) (loads_in taken)

-- the loads in APP's hand and away are as many as frames may be in flight
pub record LoadPart (g : Setup) (a : AppState) (taken : List Packet) : Type 0 where
  pub all : length a.spare + a.frames ≡ g.ahead + length (loads_in taken)

-- All that APP keeps: its turns are the first of what its section asks, each made where it may be, and its parts.
pub record AppKeeps (g : Setup) (seat : ℕ) (a : AppState) (log : Log) (taken sent : List Packet) (stream : List ℕ) : Type 0 where
  pub follows : Follows g.ahead g.merges (asked_app g.lines) (turns_at g.channels seat App log) (still_asked g a)
  pub part : AppPart g seat a log sent
  pub streams : StreamPart g seat a log taken stream
  pub loads : LoadPart g a taken

-- The cull

-- what stood under the ids of an update list
abbrev pub stood : Nodes → UpdateList → UpdateList
stood nodes us = updates_of (node_at nodes) (map (λ u. u.0) us)

-- What CULL leaves of a load as it is: the cut but for its update list, and the images.
pub record Carried : Type 0 where
  pub cut : Cut
  pub images : List Pixmap

abbrev pub carried : LoadState → Carried
carried l = record { cut = l.cut; images = l.images }

-- what CULL passes on of a load where its copy has these nodes
abbrev pub handed_back : Nodes → LoadState → Carried
handed_back nodes l = record { cut = record l.cut { updates = stood nodes l.cut.updates }; images = l.images }

-- what CULL passes on of loads, where its copy had these nodes before them: in place of the updates what stood there
abbrev pub passed_on : Nodes → List LoadState → List Carried
passed_on nodes [] = []
passed_on nodes (l ∷ ls) = handed_back nodes l ∷ passed_on (updated_by nodes l.cut.updates) ls

-- an instance as a draw list knows it, without its id
abbrev pub nameless : Instance → Instance
nameless x = record x { id = 0 }

-- The cull of the load that was received at a place can be exact: up to it the copies are within the limits, and it has
-- at most four views, and for each view a list with room for the copy.
pub record CanCull (loads : List LoadState) (i : ℕ) (l : LoadState) : Type 0 where
  pub limits : (k : ℕ) → k ≤ i + 1 → KeepsLimits (node_at (copy_at loads k))
  pub within : IsWithinLimits (node_at (copy_at loads (i + 1))) l.cut.frame
  pub few : length l.cut.views ≤ 4
  pub many : length l.lists ≡ length l.cut.views
  pub room : Each (HasRoomFor (size_of (node_at (copy_at loads (i + 1))) 0)
      (triangle_count (node_at (copy_at loads (i + 1))))) l.lists

-- The lists and the numbers are those of a cut's frame and views, over a look-up.
pub record IsCulled (lens : Lens) (look : Look) (c : Cut) (l : LoadState) : Type 0 where
  pub lists : map instances_in l.lists ≡ map (λ v. map nameless (draw_list look c.frame v lens)) c.views
  pub stats : l.stats ≡ sums (map (λ v. stats_of look c.frame v lens) c.views)

-- each load that was sent is culled right, where its cull can be exact
abbrev pub AreCulled : Lens → (taken sent : List LoadState) → Type 0
AreCulled lens taken sent =
    (i : ℕ) (old new : LoadState) → slice_get taken i ≡ Some old → slice_get sent i ≡ Some new →
    CanCull taken i old → IsCulled lens (node_at (copy_at taken (i + 1))) old.cut new

-- What CULL sent and holds to send is, packet by packet, made of what it received; its copy is that of all update lists
-- received; End follows End.
pub record CullPart (lens : Lens) (c : CullState) (taken sent : List Packet) : Type 0 where
  pub loads : map carried (loads_in (sent_and_held sent c.held)) ≡ passed_on empty_scene.nodes (loads_in taken)
  pub ends : map is_end (sent_and_held sent c.held) ≡ map is_end taken
  pub copy : c.nodes ≡ copy_at (loads_in taken) (length (loads_in taken))
  pub ended : c.ended ≡ has_end sent
  pub culled : AreCulled lens (loads_in taken) (loads_in (sent_and_held sent c.held))

-- The draw

-- What DRAW leaves of a load as it is.
pub record Kept : Type 0 where
  pub cut : Cut
  pub stats : Stats

abbrev pub kept : LoadState → Kept
kept l = record { cut = l.cut; stats = l.stats }

-- each load that was sent has the pictures of its draw lists, where its images have the lens's size
abbrev pub ArePainted : Lens → List ℕ → (taken sent : List LoadState) → Type 0
ArePainted lens back taken sent =
    (i : ℕ) (old new : LoadState) → slice_get taken i ≡ Some old → slice_get sent i ≡ Some new →
    AreImages lens (length old.lists) old.images → new.bytes ≡ painted lens back old.lists

-- What DRAW sent and holds to send has, load by load, the pictures of the draw lists received where the images have the
-- lens's size, and the cut and the numbers as received. It sends no End.
pub record DrawPart (lens : Lens) (back : List ℕ) (d : DrawState) (taken sent : List Packet) : Type 0 where
  pub loads : map kept (loads_in (sent_and_held sent d.held)) ≡ map kept (loads_in taken)
  pub ends : has_end (sent_and_held sent d.held) ≡ false
  pub ended : d.ended ≡ has_end taken
  pub painted : ArePainted lens back (loads_in taken) (loads_in (sent_and_held sent d.held))

-- The database process

-- DBASE's buffer is that of the lines since it was opened.
pub record BufferPart (lines : List BaseLine) (d : DbaseState) : Type 0 where
  pub buffer : d.buffer ≡ buffer_after (in_buffer lines d)

-- All that DBASE keeps: its turns are the first of the merges that its section asks for, each made where it may be, and
-- its buffer.
pub record DbaseKeeps (lines : List BaseLine) (channels seat : ℕ) (d : DbaseState) (log : Log) : Type 0 where
  pub follows : FollowsBase (asked_dbase lines) (turns_at channels seat Dbase log) (still_asked_dbase lines d)
  pub part : BufferPart lines d
