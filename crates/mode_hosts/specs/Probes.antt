-- The probe between the application and the cull, and all seats of a play together.
use Rattle.std.specs.Prelude.{◌≡◌, ℕ, ◌≤◌, Bool, false, List, [], length, take, Option, None, Some}
use Rattle.atomic_table.specs.Seated.{TableId}
use Rattle.seat_lock.specs.Log.{of, Found}
use Rattle.frame_link.specs.Link.{Link}
use Rattle.nearest_hit.specs.declared.found.Near.{Near}
use Rattle.nearest_hit.specs.declared.segment.Segment.{Segment}
use Rattle.pf_model.specs.declared.lines.BaseLine.{BaseLine}
use Rattle.pf_history.specs.Logs.{Log, IsLegal}
use Rattle.stage_parts.specs.declared.packets.Packet.{Packet}
use Rattle.stage_parts.specs.Packets.{LinkPart}
use Rattle.stage_parts.specs.States.{Setup}
use Rattle.isect_stage.specs.Probing.{ProbeKeeps}
use Rattle.mode_hosts.specs.Works.{cull_links, draw_links, gone_over, came_over}
use Rattle.mode_hosts.specs.Sites.{WaySite, ProbeSite, ProbeGoes, IfThere}
use Rattle.mode_hosts.specs.Gathering.{IsDesk, AreAtDesks}
use Rattle.mode_hosts.specs.AnySeats.{AnySites, AnySeatsKeep, AnySeatsGo}

-- The seats of a play: those of the four stages, and the probe's.
pub record AllSites : Type 0 where
  pub four : AnySites
  pub probe : ProbeSite

-- the same seats, of an application that waits for so many merges before it closes
abbrev pub with_merges : ℕ → AllSites → AllSites
with_merges n s = record s { four = record s.four { app = record s.four.app { work = record s.four.app.work { merges = n } } } }

-- the ends of the way from the application to the cull are those of a link, or of two with the probe between them
abbrev pub AreLinked : Link → Option WaySite → Link → Type 0
AreLinked send_at None take_at = take_at ≡ send_at
AreLinked send_at (Some way) take_at = (way.take_at ≡ send_at) × (take_at ≡ way.send_at)

-- on each link of that way what was received is a front of what was sent
abbrev pub CameOver : List Packet → Option WaySite → List Packet → Type 0
CameOver sent None taken = LinkPart sent taken
CameOver sent (Some way) taken = LinkPart sent way.taken × LinkPart way.sent taken

-- The desks are those of one lock, which has a seat for each, and the ends are those of the links: from APP to CULL, through
-- the probe where there is one; from CULL to DRAW, and from DRAW to APP; and of the pieces from CULL to DRAW and back, where
-- draw lists go in pieces, for both or for neither.
pub record AreAllTogether (lock : TableId) (s : AllSites) : Type 0 where
  pub desks : AreAtDesks lock s.four
  pub probe : IsDesk lock 4 s.probe.place
  pub a : AreLinked s.four.app.send_at s.probe.way s.four.cull.take_at
  pub b : s.four.draw.take_at ≡ s.four.cull.send_at
  pub c : s.four.app.take_at ≡ s.four.draw.send_at
  pub pieces : draw_links s.four.draw.work ≡ cull_links s.four.cull.work

-- What the probe of a segment keeps: its part.
pub record WayKeeps (asked : Segment) (way : WaySite) : Type 0 where
  pub segment : way.work.isect.segment ≡ asked
  pub keeps : ProbeKeeps way.work way.taken way.sent

-- What the probe's seat keeps: a probe is there exactly where a segment is asked for, and keeps its part; and no entries of
-- its number.
pub record ProbeSeatKeeps (asked : Option Segment) (s : ProbeSite) : Type 0 where
  pub way : IfThere WayKeeps asked s.way
  pub own : of s.place.number s.place.seen ≡ []

-- What the seats of a play keep, with the bytes of the frame sink before the play and now.
pub record AllKeep (g : Setup) (lines : List BaseLine) (asked : Option Segment) (s : AllSites)
    (bytes bytes' : Option (List ℕ)) : Type 0 where
  pub four : AnySeatsKeep g lines s.four bytes bytes'
  pub probe : ProbeSeatKeeps asked s.probe

-- The seats after polls of their stages, with the bytes of the frame sink before and after them.
pub record AllGo (old new : AllSites) (bytes bytes' : Option (List ℕ)) : Type 0 where
  pub four : AnySeatsGo old.four new.four bytes bytes'
  pub probe : ProbeGoes old.probe new.probe

-- The seats came home: the closed log is legal, has no entries of other numbers than theirs, and goes on from what each desk
-- has seen with no further entry of its number; and on each link what was received is a front of what was sent. What came
-- back of the pieces is not spoken of.
pub record AllCameHome (s : AllSites) (log : Log) : Type 0 where
  pub legal : (channels : ℕ) → IsLegal channels log
  pub within : (k : ℕ) → 5 ≤ k → of k log ≡ []
  pub app : Found 0 s.four.app.place.seen log
  pub cull : Found 1 s.four.cull.place.seen log
  pub draw : Found 2 s.four.draw.place.seen log
  pub dbase : Found 3 s.four.dbase.place.seen log
  pub probe : Found 4 s.probe.place.seen log
  pub link_a : CameOver s.four.app.sent s.probe.way s.four.cull.taken
  pub link_b : LinkPart s.four.cull.sent s.four.draw.taken
  pub link_c : LinkPart s.four.draw.sent s.four.app.taken
  pub pieces : came_over s.four.draw.work ≡ take (length (came_over s.four.draw.work)) (gone_over s.four.cull.work)

-- what the probe answered; nothing where there is none
abbrev pub answers_of : Option WaySite → List (Option Near)
answers_of None = []
answers_of (Some way) = way.work.isect.answers

-- whether memory ran out for the probe
abbrev pub has_failed : Option WaySite → Bool
has_failed None = false
has_failed (Some way) = way.work.failed
