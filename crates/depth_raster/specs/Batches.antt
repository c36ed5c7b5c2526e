-- Pieces that are drawn together.
use Rattle.std.specs.Prelude.{◌≡◌, List, [], ◌∷◌, ◌++◌, map}
use Rattle.depth_raster.specs.declared.faces.Face.{Face}
use Rattle.depth_raster.specs.declared.pieces.Piece.{Piece}

-- their faces
abbrev pub faces_of : List Piece → List Face
faces_of ps = map (λ p. p.face) ps

-- the pieces after the face has become the last of them
pub record IsWithFace (f : Face) (before after : List Piece) : Type 0 where
  pub piece : Piece
  pub pieces : after ≡ before ++ piece ∷ []
  pub face : piece.face ≡ f
