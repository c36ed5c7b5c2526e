-- A pipe whose draw lists are streamed, seen as an ordinary one.
use Rattle.std.specs.Prelude.{◌≡◌, ℕ, ◌≤◌, List, length, take}
use Rattle.fx_math.specs.declared.lenses.Lens.{Lens}
use Rattle.pf_history.specs.Logs.{Log}
use Rattle.stage_parts.specs.declared.packets.Packet.{Packet}
use Rattle.stage_parts.specs.Packets.{LinkPart}
use Rattle.stage_parts.specs.Frames.{AreOwnFrames}
use Rattle.stage_parts.specs.States.{Setup, AppState, CullState, DrawState}
use Rattle.stage_parts.specs.Parts.{AppPart, CullPart, DrawPart}
use Rattle.stage_parts.specs.Laws.{HasEditsInRange}
use Rattle.stream_stages.specs.Cuts.{Cut}
use Rattle.stream_stages.specs.CullParts.{StreamCullState, StreamCullPart}
use Rattle.stream_stages.specs.DrawParts.{StreamDrawState, StreamDrawPart}

-- What the cull and the draw of a stream received and sent: over the links A (from the application), B (between them)
-- and C (to the application); the pieces sent over P, those that came there, and those given back; and the first
-- pieces, which lay on the link back.
pub record Streams : Type 0 where
  pub cull : StreamCullState
  pub draw : StreamDrawState
  pub a_taken : List Packet
  pub b_sent : List Packet
  pub b_taken : List Packet
  pub c_sent : List Packet
  pub p_sent : List Cut
  pub p_taken : List Cut
  pub first : List Cut
  pub given_back : List Cut

-- Both keep their parts, and on the links between them what was received is a front of what was sent.
pub record AreStreams (lens : Lens) (back : List ℕ) (limit : ℕ) (s : Streams) : Type 0 where
  pub cull : StreamCullPart lens limit s.cull s.a_taken s.b_sent s.p_sent
  pub draw : StreamDrawPart lens back s.first s.draw s.b_taken s.c_sent s.p_taken s.given_back
  pub link_b : LinkPart s.b_sent s.b_taken
  pub link_p : s.p_taken ≡ take (length s.p_taken) s.p_sent

-- An ordinary cull and an ordinary draw, and what they received and sent between the application and the link to it.
pub record WholeFrames : Type 0 where
  pub cull : CullState
  pub draw : DrawState
  pub a_taken : List Packet
  pub b_sent : List Packet
  pub b_taken : List Packet

-- They keep their parts, and sent what was sent over C; on A and between them what was received is a front of what was
-- sent.
pub record AreWhole (lens : Lens) (back : List ℕ) (a_sent c_sent : List Packet) (w : WholeFrames) : Type 0 where
  pub link_a : LinkPart a_sent w.a_taken
  pub link_b : LinkPart w.b_sent w.b_taken
  pub cull : CullPart lens w.cull w.a_taken w.b_sent
  pub draw : DrawPart lens back w.draw w.b_taken c_sent

-- Behind an application that keeps its part, over a log with edits in range whose Frames are all its own, the two can
-- be seen as an ordinary cull and an ordinary draw.
abbrev pub WholeFramesLaw : Type 0
WholeFramesLaw =
    (g : Setup) (seat limit : ℕ) (app : AppState) (log : Log) (a_sent : List Packet) (s : Streams) → g.channels ≤ 4 →
    HasEditsInRange log → AreOwnFrames seat log → AppPart g seat app log a_sent → LinkPart a_sent s.a_taken →
    AreStreams g.lens g.back limit s → (w : WholeFrames) × AreWhole g.lens g.back a_sent s.c_sent w
