-- Pictures row by row.
use Rattle.std.specs.Prelude.{◌≡◌, ℕ, ◌<◌, List}
use Rattle.fx_math.specs.declared.lenses.Lens.{Lens}
use Rattle.ppm_out.specs.Pixmap.{Pixmap, pixel}
use Rattle.pf_picture.specs.declared.drawings.Drawing.{Drawing}
use Rattle.pf_picture.specs.Drawings.{colour_of}

abbrev pub colour_in : Lens → List ℕ → Drawing → ℕ → ℕ → List ℕ
colour_in lens back d px py = colour_of lens back px py d.opaque.items d.glass.items

-- the first n rows have these colours
abbrev pub ShowsRows : Pixmap → (ℕ → ℕ → List ℕ) → ℕ → Type 0
ShowsRows image colour n =
    (px py : ℕ) → px < image.width → py < n → py < image.height → pixel image px py ≡ colour px py

-- the first n pixels of a row have these colours, and the others are as they were
pub record DrawsPixels (old new : Pixmap) (colour : ℕ → ℕ → List ℕ) (n py : ℕ) : Type 0 where
  pub width : new.width ≡ old.width
  pub height : new.height ≡ old.height
  pub drawn : (px : ℕ) → px < n → px < old.width → pixel new px py ≡ colour px py
  pub others : (qx qy : ℕ) → qx < old.width → qy < old.height → (qy ≡ py → ⊥) → pixel new qx qy ≡ pixel old qx qy

-- a row has these colours, and the others are as they were
abbrev pub DrawsRow : Pixmap → Pixmap → (ℕ → ℕ → List ℕ) → ℕ → Type 0
DrawsRow old new colour py = DrawsPixels old new colour old.width py
