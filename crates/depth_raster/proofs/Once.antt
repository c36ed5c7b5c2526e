-- Any two proofs of what a tile says of a piece that is owed are equal.
use mathlib.Core.Logic.{∥∥₁_elim}
use Rattle.std.proofs.Common.{ℕ, List, Option, None, Some}
use Rattle.std.proofs.Props.{props}
use Rattle.fx_math.specs.Plain.{Point}
use Rattle.fx_math.specs.declared.lenses.Lens.{Lens}
use Rattle.tri_cover.specs.Readiness.{Foretells}
use Rattle.tri_cover.specs.declared.face.Face as faces
use Rattle.depth_raster.specs.Around.{IsBoxOf}
use Rattle.depth_raster.specs.Owed.{IsCoveredTo, IsOwedIn}
use Rattle.depth_raster.specs.Pieces.{IsPieceOf}
use Rattle.depth_raster.specs.declared.blocks.Block.{Block}
use Rattle.depth_raster.specs.declared.extents.Extent.{Extent}
use Rattle.depth_raster.specs.declared.faces.Face.{Face}
use Rattle.depth_raster.specs.declared.owed.Owed.{Owed}
use Rattle.depth_raster.specs.declared.pieces.Piece.{Piece}

box_once : (f : Option faces.Face) (e : Extent) → IsProp (IsBoxOf f e)
box_once None e = hlevel props
box_once (Some f) e = hlevel props

foretold_once : (lens : Lens) (u v w : Point) (colours : List (List ℕ)) (f : Option faces.Face) → IsProp (Foretells lens u v w colours f)
foretold_once lens u v w colours None = hlevel props
foretold_once lens u v w colours (Some f) = hlevel props

piece_once : (lens : Lens) (p : Piece) → IsProp (IsPieceOf lens p)
piece_once lens p = hlevel (props, box_once, foretold_once)

covered_once : (lens : Lens) (f : Face) (b : Block) (top : ℕ) → IsProp (IsCoveredTo lens f b top)
covered_once lens f b top = hlevel props

owed_once : (b : Block) (o : Owed) → IsProp (IsOwedIn b o)
owed_once b o = hlevel (props, piece_once, covered_once)

-- what a tile says of it
pub owed_in : (b : Block) (o : Owed) → ∥ IsOwedIn b o ∥₁ → IsOwedIn b o
owed_in b o is = ∥∥₁_elim is (owed_once b o) (λ h. h)
