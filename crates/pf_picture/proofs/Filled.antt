-- Pictures filled row by row, and rows pixel by pixel.
use Rattle.std.proofs.Common.{ℕ, ◌+◌, ◌<◌, List, refl, ap, sym, ◌∙◌, arith, ⊎_elim}
use Rattle.std.proofs.lemmas.Bool.{cases_eq}
use Rattle.ppm_out.specs.Pixmap.{Pixmap, pixel, SetsPixel}
use Rattle.pf_picture.specs.Rows.{DrawsPixels, ShowsRows, DrawsRow}

pub row_none : (image : Pixmap) (colour : ℕ → ℕ → List ℕ) (py : ℕ) → DrawsPixels image image colour 0 py
row_none image colour py = record { width = refl; height = refl; drawn = λ px l. absurd (omega arith); others = λ qx qy i j apart. refl }

pub row_more : (old mid new : Pixmap) (colour : ℕ → ℕ → List ℕ) (n py : ℕ) → DrawsPixels old mid colour n py → py < old.height → SetsPixel mid new n py (colour n py) → DrawsPixels old new colour (n + 1) py
row_more old mid new colour n py so_far in_picture sets = record {
  width = sets.width ∙ so_far.width;
  height = sets.height ∙ so_far.height;
  drawn = λ px l in_row. ⊎_elim
      (λ same. ap (λ (q : ℕ). pixel new q py) same ∙ sets.coloured ∙ ap (λ (q : ℕ). colour q py) (sym same))
      (λ apart. sets.others px py (omega (arith, so_far.width)) (omega (arith, so_far.height)) (λ same k. apart same) ∙ so_far.drawn px (omega (arith, apart)) in_row)
      (cases_eq px n);
  others = λ qx qy in_row in_rows apart. sets.others qx qy (omega (arith, so_far.width)) (omega (arith, so_far.height)) (λ k same. apart same) ∙ so_far.others qx qy in_row in_rows apart;
}

pub rows_more : (old new : Pixmap) (colour : ℕ → ℕ → List ℕ) (n : ℕ) → ShowsRows old colour n → DrawsRow old new colour n → ShowsRows new colour (n + 1)
rows_more old new colour n so_far draws px py in_row in_rows in_picture = ⊎_elim
    (λ same. ap (λ (q : ℕ). pixel new px q) same ∙ draws.drawn px (omega (arith, draws.width)) (omega (arith, draws.width)) ∙ ap (λ (q : ℕ). colour px q) (sym same))
    (λ apart. draws.others px py (omega (arith, draws.width)) (omega (arith, draws.height)) apart ∙ so_far px py (omega (arith, draws.width)) (omega (arith, apart)) (omega (arith, draws.height)))
    (cases_eq py n)
