-- What a piece leaves at the pixels that it covers.
use Rattle.std.specs.Prelude.{◌≡◌, ℕ, ◌-◌}
use Rattle.tri_cover.specs.declared.face.Face as faces
use Rattle.depth_raster.specs.Looks.{AreDepthsOf}
use Rattle.depth_raster.specs.declared.marks.Mark.{Mark}
use Rattle.depth_raster.specs.declared.pieces.Piece.{Piece}
use Rattle.depth_raster.specs.declared.stamps.Stamp.{Stamp}

-- the stamp has the depths of the face, and what the marks of the piece have beside their depth
pub record IsStampOf (p : Piece) (f : faces.Face) (s : Stamp) : Type 0 where
  pub depths : AreDepthsOf f s.depths
  pub shift : s.shift ≡ p.face.shift
  pub place : s.place ≡ p.face.place
  pub number : s.number ≡ p.face.number
  pub rank : s.rank ≡ p.face.rank

-- the mark of a hit at a depth
abbrev pub mark_by_stamp : Stamp → (depth : ℕ) → Mark
mark_by_stamp s depth = record { depth = depth - s.shift; place = s.place; number = s.number; rank = s.rank }
