-- The laws of the stage at its links.
use Rattle.std.specs.Prelude.{◌≡◌, ℕ, true, false, List, map, take, length}
use Rattle.pf_history.specs.Logs.{Log}
use Rattle.stage_parts.specs.declared.packets.Packet.{Packet}
use Rattle.stage_parts.specs.Packets.{has_end, loads_in, LinkPart}
use Rattle.stage_parts.specs.Frames.{frames_of, cut_of_frame, AreOwnFrames}
use Rattle.stage_parts.specs.States.{Setup, AppState}
use Rattle.stage_parts.specs.Parts.{AppPart}
use Rattle.isect_stage.specs.Asking.{HasEditsInRange, nearest_hits}
use Rattle.isect_stage.specs.Probing.{ProbeWork, ProbeKeeps}

-- where the cuts of the loads that it took are those of all Frames of a history, its answers are their nearest hits
abbrev pub NearestHitsLaw : Type 0
NearestHitsLaw =
    (channels seat : ℕ) (log : Log) (w : ProbeWork) (taken sent : List Packet) → HasEditsInRange log → AreOwnFrames seat log →
    map (λ l. l.cut) (loads_in taken) ≡ map cut_of_frame (frames_of channels seat log) → ProbeKeeps w taken sent → w.failed ≡ false →
    w.isect.answers ≡ nearest_hits channels w.isect.segment log

-- The answers are the nearest hits of the first Frames of a history, as many as loads were taken, and of all of them once
-- the End was taken.
pub record AnswersFrames (channels : ℕ) (log : Log) (w : ProbeWork) (taken : List Packet) : Type 0 where
  pub front : w.isect.answers ≡ take (length (loads_in taken)) (nearest_hits channels w.isect.segment log)
  pub whole : has_end taken ≡ true → w.isect.answers ≡ nearest_hits channels w.isect.segment log

-- so it is where it took what the application sent
abbrev pub ApplicationLaw : Type 0
ApplicationLaw =
    (g : Setup) (seat : ℕ) (app : AppState) (log : Log) (w : ProbeWork) (given taken sent : List Packet) →
    HasEditsInRange log → AreOwnFrames seat log → AppPart g seat app log given → LinkPart given taken → ProbeKeeps w taken sent →
    w.failed ≡ false → AnswersFrames g.channels log w taken

-- the link that it takes from and the link that it sends over are together one link
abbrev pub LinksLaw : Type 0
LinksLaw =
    (w : ProbeWork) (given taken sent received : List Packet) → LinkPart given taken → ProbeKeeps w taken sent →
    LinkPart sent received → LinkPart given received
