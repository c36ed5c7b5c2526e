-- A stage at its desk between its links, and what its polls keep.
use Rattle.std.specs.Prelude.{◌≡◌, ⊤, ℕ, ◌+◌, ◌≤◌, List, ◌++◌, take, length, Option, None, Some}
use Rattle.std.specs.Vec.{vec_capacity}
use Rattle.std.specs.List.{AllByRecursion}
use Rattle.std.specs.Io.KnownBytes.{append_known}
use mathlib.Core.List.{IsPrefix}
use Rattle.seat_lock.specs.Desk.{Stand}
use Rattle.seat_lock.specs.Log.{of, Found}
use Rattle.frame_link.specs.Link.{Link}
use Rattle.pf_model.specs.declared.lines.BaseLine.{BaseLine}
use Rattle.pf_history.specs.declared.commands.Caller.TheVariants.{App, Dbase}
use Rattle.pf_history.specs.declared.commands.Entry.{Entry}
use Rattle.pf_history.specs.Logs.{Log}
use Rattle.pf_scene.specs.declared.outcomes.Told.{Told}
use Rattle.pf_scene.specs.Acts.{free_in}
use Rattle.stage_parts.specs.declared.packets.Packet.{Packet}
use Rattle.stage_parts.specs.Frames.{AreOwnFrames}
use Rattle.stage_parts.specs.States.{Setup}
use Rattle.stage_parts.specs.Parts.{AppKeeps, DrawPart}
use Rattle.frame_stages.specs.AppWorks.{AppWork, IsGiven}
use Rattle.frame_stages.specs.CullWorks.{CullWork, CullKeeps}
use Rattle.frame_stages.specs.Works.{DrawWork, IsGivenAsBefore}
use Rattle.frame_stages.specs.DbaseWorks.{DbaseWork, DbaseHolds}
use Rattle.isect_stage.specs.Probing.{ProbeWork, ProbeKeeps}
use Rattle.mode_hosts.specs.Works.{AnyCullWork, AnyDrawWork, cull_links, draw_links, cull_lens, draw_lens, draw_back, KeepsCull, KeepsDraw}

-- Where a desk stands: its number, the log that it has seen, and what no turn changes.
pub record Place : Type 0 where
  pub number : ℕ
  pub seen : Log
  pub stand : Stand Entry

-- A stage at its desk: the links that it takes from and sends over, and what it took and sent.
pub record Site (X : Type 0) : Type 0 where
  pub work : X
  pub place : Place
  pub take_at : Link
  pub send_at : Link
  pub taken : List Packet
  pub sent : List Packet

-- The database process at its desk.
pub record DbaseSite : Type 0 where
  pub work : DbaseWork
  pub place : Place

-- The probe between its links, and what it took and sent.
pub record WaySite : Type 0 where
  pub work : ProbeWork
  pub take_at : Link
  pub send_at : Link
  pub taken : List Packet
  pub sent : List Packet

-- The probe at its desk. In a play without a probe the desk rests.
pub record ProbeSite : Type 0 where
  pub place : Place
  pub way : Option WaySite

-- What one host polls, of the stages that need no frame sink.
pub record CrewState : Type 0 where
  pub cull : Option (Site AnyCullWork)
  pub draw : Option (Site AnyDrawWork)
  pub dbase : Option DbaseSite
  pub probe : Option ProbeSite

-- Polls leave the desk where it stands.
pub record IsSameDesk (old new : Place) : Type 0 where
  pub number : new.number ≡ old.number
  pub stand : new.stand ≡ old.stand

-- Polls leave the links.
pub record AreSameLinks {X : Type 0} (old new : Site X) : Type 0 where
  pub take_at : new.take_at ≡ old.take_at
  pub send_at : new.send_at ≡ old.send_at

-- It adds no entry: its log goes on by entries of other numbers alone.
pub record Rests (old new : Place) : Type 0 where
  pub desk : IsSameDesk old new
  pub found : Found old.number old.seen new.seen

-- CULL of whole lists after polls: it adds no entry, and keeps its part.
pub record CullGoes (old new : Site CullWork) : Type 0 where
  pub rests : Rests old.place new.place
  pub links : AreSameLinks old new
  pub lens : new.work.lens ≡ old.work.lens
  pub keeps : CullKeeps old.work old.taken old.sent → CullKeeps new.work new.taken new.sent

-- DRAW of whole lists after polls: it adds no entry, and keeps its part.
pub record DrawGoes (old new : Site DrawWork) : Type 0 where
  pub rests : Rests old.place new.place
  pub links : AreSameLinks old new
  pub given : IsGivenAsBefore old.work new.work
  pub part : DrawPart old.work.lens old.work.back old.work.state old.taken old.sent →
      DrawPart new.work.lens new.work.back new.work.state new.taken new.sent

-- CULL after polls, of whole lists or in pieces: it adds no entry, and keeps its part; the links of the pieces stay.
pub record AnyCullGoes (old new : Site AnyCullWork) : Type 0 where
  pub rests : Rests old.place new.place
  pub links : AreSameLinks old new
  pub piece_links : cull_links new.work ≡ cull_links old.work
  pub lens : cull_lens new.work ≡ cull_lens old.work
  pub keeps : KeepsCull old.work old.taken old.sent → KeepsCull new.work new.taken new.sent

-- DRAW after polls, of whole lists or in pieces: it adds no entry, and keeps its part; the links of the pieces stay.
pub record AnyDrawGoes (old new : Site AnyDrawWork) : Type 0 where
  pub rests : Rests old.place new.place
  pub links : AreSameLinks old new
  pub piece_links : draw_links new.work ≡ draw_links old.work
  pub lens : draw_lens new.work ≡ draw_lens old.work
  pub back : draw_back new.work ≡ draw_back old.work
  pub keeps : KeepsDraw old.work old.taken old.sent → KeepsDraw new.work new.taken new.sent

-- the entries are DBASE's
abbrev pub AreBase : List Entry → Type 0
AreBase entries = AllByRecursion (λ e. e.caller ≡ Dbase) entries

-- the entries are APP's
abbrev pub AreApp : List Entry → Type 0
AreApp entries = AllByRecursion (λ e. e.caller ≡ App) entries

-- DBASE after polls: its log goes on, by entries of its own under its number and of others, and it holds to its section.
pub record DbaseGoes (old new : DbaseSite) : Type 0 where
  pub desk : IsSameDesk old.place new.place
  pub front : IsPrefix old.place.seen new.place.seen
  pub own : AreBase (of old.place.number old.place.seen) → AreBase (of new.place.number new.place.seen)
  pub holds : (lines : List BaseLine) (channels : ℕ) →
      DbaseHolds lines channels old.place.number old.work old.place.seen →
      DbaseHolds lines channels new.place.number new.work new.place.seen

-- All that APP keeps, with what was written at the end of the stream.
pub record AppWrote (g : Setup) (site : Site AppWork) (bytes bytes' : Option (List ℕ)) (stream : List ℕ) : Type 0 where
  pub more : List ℕ
  pub wrote : bytes' ≡ append_known bytes more
  pub keeps : AppKeeps g site.place.number site.work.state site.place.seen site.taken site.sent (stream ++ more)

-- APP after polls, with the bytes of the frame sink before and after: its log goes on, by entries of its own under its
-- number and of others, it tells no frame's numbers, and, where all Frames of the log seen at the end are its own, it keeps
-- its part.
pub record AppGoes (old new : Site AppWork) (bytes bytes' : Option (List ℕ)) : Type 0 where
  pub desk : IsSameDesk old.place new.place
  pub front : IsPrefix old.place.seen new.place.seen
  pub links : AreSameLinks old new
  pub own : AreApp (of old.place.number old.place.seen) → AreApp (of new.place.number new.place.seen)
  pub given : (g : Setup) → IsGiven g old.work → IsGiven g new.work
  pub told : new.work.told ≡ old.work.told
  pub keeps : (g : Setup) (stream : List ℕ) → IsGiven g old.work → AreOwnFrames new.place.number new.place.seen →
      AppKeeps g old.place.number old.work.state old.place.seen old.taken old.sent stream →
      AppWrote g new bytes bytes' stream

-- What a block gained of a log behind so many entries told before: the next ones, in order, no more than it has room for; or
-- none.
pub record Gains (told : ℕ) (block : Told) (seen : Log) (reply : Told) : Type 0 where
  pub more : Log
  pub entries : reply.entries.items ≡ block.entries.items ++ more
  pub next : take (told + length more) seen ≡ take told seen ++ more
  pub few : length more ≤ free_in block
  pub room : vec_capacity reply.entries ≡ vec_capacity block.entries

-- both are there and belong together so, or neither is there
abbrev pub IfThere : {X Y : Type 0} → (X → Y → Type 0) → Option X → Option Y → Type 0
IfThere goes None None = ⊤
IfThere goes (Some old) (Some new) = goes old new
IfThere goes _ _ = ⊥

-- The probe between its links after polls: it keeps its part.
pub record WayGoes (old new : WaySite) : Type 0 where
  pub take_at : new.take_at ≡ old.take_at
  pub send_at : new.send_at ≡ old.send_at
  pub segment : new.work.isect.segment ≡ old.work.isect.segment
  pub keeps : ProbeKeeps old.work old.taken old.sent → ProbeKeeps new.work new.taken new.sent

-- The probe at its desk after polls: it adds no entry.
pub record ProbeGoes (old new : ProbeSite) : Type 0 where
  pub rests : Rests old.place new.place
  pub way : IfThere WayGoes old.way new.way

-- A crew after polls: the same stages, each after polls of its own.
pub record CrewGoes (old new : CrewState) : Type 0 where
  pub cull : IfThere AnyCullGoes old.cull new.cull
  pub draw : IfThere AnyDrawGoes old.draw new.draw
  pub dbase : IfThere DbaseGoes old.dbase new.dbase
  pub probe : IfThere ProbeGoes old.probe new.probe
