-- What the stages make in a step, and how their parts go on.
use Rattle.std.specs.Prelude.{◌≡◌, ℕ, ◌≤◌, true, false, ◌&&◌, ◌||◌, if◌then◌else◌, List, [], ◌∷◌, ◌++◌, length, Some, None}
use Rattle.std.specs.List.{AllByRecursion}
use Rattle.fx_math.specs.declared.lenses.Lens.{Lens}
use Rattle.pf_model.specs.Graphs.{Nodes, node_at, size_of}
use Rattle.pf_model.specs.Limits.{KeepsLimits, IsWithinLimits}
use Rattle.pf_model.specs.Totals.{triangle_count}
use Rattle.pf_model.specs.Copies.{updated_by}
use Rattle.pf_history.specs.declared.commands.Caller.TheVariants.{App}
use Rattle.pf_history.specs.declared.commands.Entry.{Entry}
use Rattle.pf_history.specs.Commands.{is_frame}
use Rattle.pf_history.specs.Logs.{Log, state_of}
use Rattle.pf_history.specs.Asks.{is_at}
use Rattle.pf_history.specs.Fits.{turns_at}
use Rattle.pf_history.specs.Cuts.{Cutting, marked}
use Rattle.pf_history.specs.CutLaws.{with_last}
use Rattle.stage_parts.specs.declared.packets.Packet.{Packet}
use Rattle.stage_parts.specs.declared.packets.Packet.TheVariants.{Frame, End}
use Rattle.stage_parts.specs.Loads.{LoadState, Each, AreImages, HasRoomFor}
use Rattle.stage_parts.specs.Packets.{is_end, loads_in, copy_at}
use Rattle.stage_parts.specs.Frames.{frames_of, retired_after, last_sync}
use Rattle.stage_parts.specs.Pictures.{painted}
use Rattle.stage_parts.specs.States.{CullState, DrawState}
use Rattle.stage_parts.specs.Parts.{carried, handed_back, IsCulled, CullPart, kept, DrawPart}

-- A load can be culled exactly that is received after these and where the copy then has these nodes.
pub record CanCullNext (before : List LoadState) (nodes : Nodes) (l : LoadState) : Type 0 where
  pub limits : (k : ℕ) → k ≤ length before → KeepsLimits (node_at (copy_at before k))
  pub within : IsWithinLimits (node_at nodes) l.cut.frame
  pub few : length l.cut.views ≤ 4
  pub many : length l.lists ≡ length l.cut.views
  pub room : Each (HasRoomFor (size_of (node_at nodes) 0) (triangle_count (node_at nodes))) l.lists

-- What CULL makes of a load that it receives after these and where its copy has these nodes.
pub record Culls (lens : Lens) (before : List LoadState) (nodes : Nodes) (old new : LoadState) : Type 0 where
  pub carries : carried new ≡ handed_back nodes old
  pub right : CanCullNext before (updated_by nodes old.cut.updates) old →
      IsCulled lens (node_at (updated_by nodes old.cut.updates)) old.cut new

-- CULL's part goes on as it takes a load and holds what it makes of it, as it takes the End and holds it, and as it sends
-- what it holds.
pub record CullGoesOn (lens : Lens) (c : CullState) (taken sent : List Packet) : Type 0 where
  pub takes : (old new : LoadState) → c.held ≡ None → Culls lens (loads_in taken) c.nodes old new →
      CullPart lens (record c { nodes = updated_by c.nodes old.cut.updates; held = Some (Frame new) }) (taken ++ Frame old ∷ []) sent
  pub ends : c.held ≡ None → CullPart lens (record c { held = Some End }) (taken ++ End ∷ []) sent
  pub sends : (p : Packet) → c.held ≡ Some p →
      CullPart lens (record c { ended = c.ended || is_end p; held = None }) taken (sent ++ p ∷ [])

abbrev pub CullLaw : Type 0
CullLaw =
    (lens : Lens) (c : CullState) (taken sent : List Packet) →
    CullPart lens c taken sent → CullGoesOn lens c taken sent

-- What DRAW makes of a load.
pub record Draws (lens : Lens) (back : List ℕ) (old new : LoadState) : Type 0 where
  pub keeps : kept new ≡ kept old
  pub paints : AreImages lens (length old.lists) old.images → new.bytes ≡ painted lens back old.lists

-- DRAW's part goes on as it takes a load and holds what it makes of it, as it takes the End, and as it sends what it
-- holds.
pub record DrawGoesOn (lens : Lens) (back : List ℕ) (d : DrawState) (taken sent : List Packet) : Type 0 where
  pub takes : (old new : LoadState) → d.held ≡ None → Draws lens back old new →
      DrawPart lens back (record d { held = Some (Frame new) }) (taken ++ Frame old ∷ []) sent
  pub ends : DrawPart lens back (record d { ended = true }) (taken ++ End ∷ []) sent
  pub sends : (p : Packet) → d.held ≡ Some p → DrawPart lens back (record d { held = None }) taken (sent ++ p ∷ [])

abbrev pub DrawLaw : Type 0
DrawLaw =
    (lens : Lens) (back : List ℕ) (d : DrawState) (taken sent : List Packet) →
    DrawPart lens back d taken sent → DrawGoesOn lens back d taken sent

-- the Frame that would be made next after a log
abbrev pub next_frame : ℕ → Log → Cutting
next_frame channels log = record { ids = marked channels log; found = state_of channels log }

-- What an entry adds to the Frames and the turns of a seat: a Frame of the seat itself, with the ids named so far; a turn
-- of the application at the seat.
pub record AddsToSeat (channels seat : ℕ) (log : Log) (e : ℕ × Entry) : Type 0 where
  pub frames : frames_of channels seat (log ++ e ∷ [])
      ≡ with_last (is_frame e.1.command && is_at seat App e) (frames_of channels seat log) (next_frame channels log)
  pub turns : turns_at channels seat App (log ++ e ∷ [])
      ≡ with_last (is_at seat App e) (turns_at channels seat App log) (record { found = state_of channels log; made = e.1.command })
  pub synced : last_sync (turns_at channels seat App (log ++ e ∷ []))
      ≡ (if is_at seat App e then retired_after (last_sync (turns_at channels seat App log)) e.1.command
      else last_sync (turns_at channels seat App log))

-- The Frames and the turns of a seat while the log grows: others' entries add none.
pub record SeatGoesOn (channels seat : ℕ) (log : Log) : Type 0 where
  pub adds : (e : ℕ × Entry) → AddsToSeat channels seat log e
  pub frames : (more : Log) → AllByRecursion (λ e. is_at seat App e ≡ false) more →
      frames_of channels seat (log ++ more) ≡ frames_of channels seat log
  pub turns : (more : Log) → AllByRecursion (λ e. is_at seat App e ≡ false) more →
      turns_at channels seat App (log ++ more) ≡ turns_at channels seat App log

abbrev pub SeatFramesLaw : Type 0
SeatFramesLaw = (channels seat : ℕ) (log : Log) → SeatGoesOn channels seat log
