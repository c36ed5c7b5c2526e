-- The colours of runs of pixels.
use Rattle.std.proofs.Common.{◌≡◌, ℕ, ◌-◌, ◌<◌, List, [], length, Option, Some, ap, sym, ◌∙◌, subst, arith}
use Rattle.std.specs.Option.{option_map_or, IfSome}
use Rattle.std.specs.List.{slice_get}
use Rattle.fx_math.specs.declared.lenses.Lens.{Lens}
use Rattle.tri_cover.specs.declared.hit.Hit.{Hit}
use Rattle.tri_cover.specs.Hits.{hit}
use Rattle.depth_raster.specs.Pieces.{IsRanked, IsColoured, kept_colour}
use Rattle.depth_raster.specs.declared.marks.Mark.{Mark}
use Rattle.depth_raster.specs.declared.pieces.Piece.{Piece}
use Rattle.std.proofs.lemmas.Option.{slice_get_within}

-- a pixel at which a piece is nearest
pub hit_coloured : (lens : Lens) (px py : ℕ) (back : List ℕ) (ps : List Piece) (m : Mark) (before after : List ℕ) (p : Piece) → IsRanked ps p m.rank
    → IfSome (hit lens px py [] p.face.tri) (λ h. after ≡ h.colour) → IsColoured lens px py back ps m before after
hit_coloured lens px py back ps m before after p ranked shaded = record {
  old = λ none. absurd (omega (arith, none, ranked.some));
  fresh = λ k q h rank at hits.
      let place : m.rank - 1 ≡ k = omega (arith, rank) in
      let found : Some p ≡ Some q = sym ranked.at ∙ ap (λ (n : ℕ). slice_get ps n) place ∙ at in
      let same : p ≡ q = ap (λ (o : Option Piece). option_map_or (λ (r : Piece). r) o p) found in
      let seen : hit lens px py [] p.face.tri ≡ Some h = ap (λ (r : Piece). hit lens px py [] r.face.tri) same ∙ hits in
      subst (λ (o : Option Hit). IfSome o (λ i. after ≡ i.colour)) seen shaded;
}

-- a pixel at which none is
pub old_coloured : (lens : Lens) (px py : ℕ) (back : List ℕ) (ps : List Piece) (m : Mark) (before after : List ℕ) → m.rank ≡ 0 → after ≡ kept_colour back m before → IsColoured lens px py back ps m before after
old_coloured lens px py back ps m before after none kept = record { old = λ e. kept; fresh = λ k q h rank at hits. absurd (omega (arith, none, rank)) }

-- a pixel of a rank that no piece has
pub unranked_coloured : (lens : Lens) (px py : ℕ) (back : List ℕ) (ps : List Piece) (m : Mark) (before after : List ℕ) → length ps < m.rank → IsColoured lens px py back ps m before after
unranked_coloured lens px py back ps m before after beyond = record {
  old = λ none. absurd (omega (arith, none, beyond));
  fresh = λ k q h rank at hits. absurd (omega (arith, rank, slice_get_within ps k q at, beyond));
}
