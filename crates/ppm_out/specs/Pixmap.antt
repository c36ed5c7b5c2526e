-- An image as a pixel map: its size, and three bytes a pixel, rows from the top.
use Rattle.std.specs.Prelude.{◌≡◌, ℕ, ◌+◌, ◌*◌, ◌<◌, ◌≤◌, List, [], ◌∷◌, length, slice_index}

pub record Pixmap : Type 0 where
  pub width : ℕ
  pub height : ℕ
  pub bytes : List ℕ

-- width and height are 1 to 1024, and each pixel has its three bytes
pub record IsPixmap (image : Pixmap) : Type 0 where
  pub wide : (1 ≤ image.width) × (image.width ≤ 1024)
  pub high : (1 ≤ image.height) × (image.height ≤ 1024)
  pub whole : length image.bytes ≡ 3 * (image.height * image.width)

-- where the bytes of a pixel begin, in an image so wide
abbrev pub place_of : ℕ → ℕ → ℕ → ℕ
place_of width px py = 3 * (py * width + px)

-- the three bytes of a pixel, red, green and blue, among those of rows so wide
abbrev pub pixel_in : (bytes : List ℕ) → (width px py : ℕ) → List ℕ
pixel_in bytes width px py =
    let place = place_of width px py in
    slice_index bytes place ∷ slice_index bytes (place + 1) ∷ slice_index bytes (place + 2) ∷ []

-- those of a pixel of an image
abbrev pub pixel : Pixmap → ℕ → ℕ → List ℕ
pixel image px py = pixel_in image.bytes image.width px py

-- each pixel (px, py) has the three bytes `colour px py`
abbrev pub Shows : Pixmap → (ℕ → ℕ → List ℕ) → Type 0
Shows image colour =
    (px py : ℕ) → px < image.width → py < image.height → pixel image px py ≡ colour px py

-- one pixel has the colour, and nothing else is changed
pub record SetsPixel (old new : Pixmap) (px py : ℕ) (colour : List ℕ) : Type 0 where
  pub width : new.width ≡ old.width
  pub height : new.height ≡ old.height
  pub coloured : pixel new px py ≡ colour
  pub others : (qx qy : ℕ) → qx < old.width → qy < old.height → (qx ≡ px → qy ≡ py → ⊥)
      → pixel new qx qy ≡ pixel old qx qy
