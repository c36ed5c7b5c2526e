-- The marks that a stamp leaves.
use Rattle.std.proofs.Common.{◌≡◌, ℕ, ◌-◌, ◌<◌, List, Option, None, Some, get_or, set, option_map, ap, sym, ◌∙◌}
use Rattle.std.proofs.lemmas.List.{set-get_or}
use Rattle.fx_math.specs.declared.lenses.Lens.{Lens}
use Rattle.tri_cover.specs.declared.face.Face as faces
use Rattle.tri_cover.specs.declared.hit.Hit.{Hit}
use Rattle.depth_raster.specs.Looks.{IsDepthAt}
use Rattle.depth_raster.specs.Marks.{lesser, mark_of, mark_with, mark_over, no_mark}
use Rattle.depth_raster.specs.Pieces.{IsPieceOf, HasFace}
use Rattle.depth_raster.specs.Stamps.{IsStampOf, mark_by_stamp}
use Rattle.depth_raster.specs.declared.marks.Mark.{Mark}
use Rattle.depth_raster.specs.declared.pieces.Piece.{Piece}
use Rattle.depth_raster.specs.declared.stamps.Stamp.{Stamp}
use Rattle.depth_raster.proofs.Readied.{face_hits}
use Rattle.depth_raster.proofs.Skipped.{mark_missed}

abbrev mark : (depth shift place number rank : ℕ) → Mark
mark depth shift place number rank = record { depth = depth - shift; place = place; number = number; rank = rank }

-- the mark of a hit is that of the piece
stamped : (p : Piece) (f : faces.Face) (s : Stamp) (depth : ℕ) → IsStampOf p f s
    → mark_by_stamp s depth ≡ mark depth p.face.shift p.face.place p.face.number p.face.rank
stamped p f s depth is =
    ap (λ (n : ℕ). mark depth n s.place s.number s.rank) is.shift
    ∙ ap (λ (n : ℕ). mark depth p.face.shift n s.number s.rank) is.place
    ∙ ap (λ (n : ℕ). mark depth p.face.shift p.face.place n s.rank) is.number
    ∙ ap (λ (n : ℕ). mark depth p.face.shift p.face.place p.face.number n) is.rank

-- where the face is hit at a depth
pub hit_stamped : (p : Piece) (f : faces.Face) (s : Stamp) (lens : Lens) (px py depth : ℕ) (marks : List Mark) (place : ℕ) → IsStampOf p f s → HasFace p f
    → px < lens.w → py < lens.h → IsPieceOf lens p → IsDepthAt f px py (Some depth)
    → set marks place (lesser (get_or marks place no_mark) (mark_by_stamp s depth)) ≡ set marks place (mark_over lens px py p.face (get_or marks place no_mark))
unfolding mark_over
hit_stamped p f s lens px py depth marks place is face column row ready found =
    let m = get_or marks place no_mark in
    let hits = face_hits lens p f ready face px py column row ∙ found in
    ap (set marks place) (ap (lesser m) (stamped p f s depth is) ∙ sym (ap (λ (o : Option Hit). mark_with m (option_map (mark_of p.face) o)) hits))

-- where it is hit at none
pub unhit_stamped : (p : Piece) (f : faces.Face) (lens : Lens) (px py : ℕ) (marks : List Mark) (place : ℕ) → HasFace p f
    → px < lens.w → py < lens.h → IsPieceOf lens p → IsDepthAt f px py None
    → marks ≡ set marks place (mark_over lens px py p.face (get_or marks place no_mark))
unhit_stamped p f lens px py marks place face column row ready found =
    let m = get_or marks place no_mark in
    sym (set-get_or marks place no_mark)
    ∙ ap (set marks place) (sym (mark_missed lens px py p.face m (face_hits lens p f ready face px py column row ∙ found)))
