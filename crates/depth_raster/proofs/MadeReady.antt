-- Pieces made ready: they have the faces that they had, and so what is drawn by them is the same.
use Rattle.std.proofs.Common.{◌≡◌, ℕ, suc, List, [], ◌∷◌, length, Option, refl, ap, sym, ◌∙◌, arith}
use Rattle.std.specs.Prelude.{fold}
use Rattle.std.proofs.lemmas.List.Folds.{fold-map}
use Rattle.fx_math.specs.declared.lenses.Lens.{Lens}
use Rattle.tri_cover.specs.Picture.{Fragment}
use Rattle.depth_raster.specs.Batches.{faces_of}
use Rattle.depth_raster.specs.Canvas.{behind_at, colour_at, glazed_with, Glazes}
use Rattle.depth_raster.specs.Faces.{glazed_by_face}
use Rattle.depth_raster.specs.Pieces.{AreMadeReady}
use Rattle.depth_raster.specs.declared.faces.Face.{Face}
use Rattle.depth_raster.specs.declared.pieces.Piece.{Piece}
use Rattle.depth_raster.specs.declared.strip.Strip.{Strip}

pub faces_kept : (lens : Lens) (ps qs : List Piece) → length qs ≡ length ps → AreMadeReady lens ps qs → faces_of qs ≡ faces_of ps
faces_kept lens [] [] long made = refl
faces_kept lens [] (q ∷ qs) long made = absurd (omega (arith, long))
faces_kept lens (p ∷ ps) [] long made = absurd (omega (arith, long))
faces_kept lens (p ∷ ps) (q ∷ qs) long made =
    ap (λ (f : Face). f ∷ faces_of qs) (made 0 p (omega arith)).face
    ∙ ap (λ (fs : List Face). p.face ∷ fs) (faces_kept lens ps qs (omega (arith, long)) (λ i d l. made (suc i) d (omega (arith, l))))

-- ---- what is drawn by pieces of the same faces
glazed_same : (lens : Lens) (strips : List Strip) (ps qs : List Piece) (px py : ℕ) → faces_of qs ≡ faces_of ps → glazed_with lens strips qs px py ≡ glazed_with lens strips ps px py
glazed_same lens strips ps qs px py same =
    let step : List ℕ → Face → List ℕ = λ u f. glazed_by_face lens px py f (behind_at strips px py) u in
    let under = colour_at strips px py in
    sym (fold-map step (λ (p : Piece). p.face) under qs)
    ∙ ap (fold step under) same
    ∙ fold-map step (λ (p : Piece). p.face) under ps

pub glazes_alike : (lens : Lens) (before after : List Strip) (ps qs rs : List Piece) (f : Option Fragment → ℕ → ℕ → List ℕ → List ℕ) → faces_of qs ≡ faces_of ps → Glazes lens before qs after rs f → Glazes lens before ps after rs f
glazes_alike lens before after ps qs rs f same h = record {
  behind = h.behind;
  colours = λ px py column row. h.colours px py column row ∙ ap (f (behind_at before px py) px py) (glazed_same lens before ps qs px py same);
}
