-- How CULL and DRAW work: they hand on each draw list whole with its load, or in pieces that go over links of their own.
use Rattle.std.specs.Prelude.{ℕ, List, [], Option, None, Some}
use Rattle.fx_math.specs.declared.lenses.Lens.{Lens}
use Rattle.frame_link.specs.Link.{Link}
use Rattle.stage_parts.specs.declared.packets.Packet.{Packet}
use Rattle.stage_parts.specs.Parts.{DrawPart}
use Rattle.frame_stages.specs.CullWorks.{CullWork, CullKeeps}
use Rattle.frame_stages.specs.Works.{DrawWork}
use Rattle.stream_stages.specs.Cuts.{Cut}
use Rattle.stream_stages.specs.CullParts.{StreamCullWork, StreamCullPart}
use Rattle.stream_stages.specs.DrawParts.{StreamDrawWork, StreamDrawPart}

-- CULL between the links of the pieces: it sends them over one, takes those that come back from the other, and sent these.
pub record StreamCullSite : Type 0 where
  pub work : StreamCullWork
  pub pieces_at : Link
  pub back_at : Link
  pub gone : List Cut

-- DRAW between these links: it takes the pieces from one, gives them back over the other, and took and gave back these.
pub record StreamDrawSite : Type 0 where
  pub work : StreamDrawWork
  pub pieces_at : Link
  pub back_at : Link
  pub came : List Cut
  pub given : List Cut

-- CULL, of whole lists or in pieces.
pub data AnyCullWork : Type 0 where
  WholeCull : CullWork → AnyCullWork
  PiecesCull : StreamCullSite → AnyCullWork

-- DRAW, of whole lists or in pieces.
pub data AnyDrawWork : Type 0 where
  WholeDraw : DrawWork → AnyDrawWork
  PiecesDraw : StreamDrawSite → AnyDrawWork

-- The links of the pieces, from CULL to DRAW and back.
pub record PieceLinks : Type 0 where
  pub pieces_at : Link
  pub back_at : Link

abbrev pub cull_links : AnyCullWork → Option PieceLinks
cull_links (WholeCull w) = None
cull_links (PiecesCull c) = Some (record { pieces_at = c.pieces_at; back_at = c.back_at })

abbrev pub draw_links : AnyDrawWork → Option PieceLinks
draw_links (WholeDraw w) = None
draw_links (PiecesDraw d) = Some (record { pieces_at = d.pieces_at; back_at = d.back_at })

-- the most items of a piece
abbrev pub limit_of : AnyCullWork → Option ℕ
limit_of (WholeCull w) = None
limit_of (PiecesCull c) = Some c.work.limit

abbrev pub cull_lens : AnyCullWork → Lens
cull_lens (WholeCull w) = w.lens
cull_lens (PiecesCull c) = c.work.lens

abbrev pub draw_lens : AnyDrawWork → Lens
draw_lens (WholeDraw w) = w.lens
draw_lens (PiecesDraw d) = d.work.lens

abbrev pub draw_back : AnyDrawWork → List ℕ
draw_back (WholeDraw w) = w.back
draw_back (PiecesDraw d) = d.work.back

-- the pieces that CULL sent, and those that came to DRAW
abbrev pub gone_over : AnyCullWork → List Cut
gone_over (WholeCull w) = []
gone_over (PiecesCull c) = c.gone

abbrev pub came_over : AnyDrawWork → List Cut
came_over (WholeDraw w) = []
came_over (PiecesDraw d) = d.came

-- what CULL keeps: its part, of the packets that it took and sent
abbrev pub KeepsCull : AnyCullWork → (taken sent : List Packet) → Type 0
KeepsCull (WholeCull w) taken sent = CullKeeps w taken sent
KeepsCull (PiecesCull c) taken sent = StreamCullPart c.work.lens c.work.limit c.work.state taken sent c.gone

-- what DRAW keeps: its part, in pieces behind some that were on the link back before
abbrev pub KeepsDraw : AnyDrawWork → (taken sent : List Packet) → Type 0
KeepsDraw (WholeDraw w) taken sent = DrawPart w.lens w.back w.state taken sent
KeepsDraw (PiecesDraw d) taken sent =
    (first : List Cut) × StreamDrawPart d.work.lens d.work.back first d.work.state taken sent d.came d.given
