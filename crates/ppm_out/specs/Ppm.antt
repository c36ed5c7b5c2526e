-- The bytes of a picture as Netpbm defines them for the raw portable pixmap, `P6`.
use Rattle.std.specs.Prelude.{ℕ, ◌+◌, ◌*◌, List, ◌++◌, length, codes, decimal}
use Rattle.std.specs.List.{flat_map, range_with_len}
use Rattle.ppm_out.specs.Pixmap.{Pixmap, pixel}

-- the header: the magic number, the size, and the greatest value of a colour
abbrev pub ppm_header : ℕ → ℕ → List ℕ
ppm_header width height =
    codes "P6\n" ++ decimal width ++ codes " " ++ decimal height ++ codes "\n255\n"

-- the pixels of one row, from the left
abbrev pub row_bytes : ℕ → (ℕ → List ℕ) → List ℕ
row_bytes width colour = flat_map colour (range_with_len 0 width)

-- all pixels of a size, rows from the top, where the pixel (px, py) has the three bytes `colour px py`
abbrev pub pixel_bytes : ℕ → ℕ → (ℕ → ℕ → List ℕ) → List ℕ
pixel_bytes width height colour =
    flat_map (λ py. row_bytes width (λ px. colour px py)) (range_with_len 0 height)

-- the picture of a size in which the pixel (px, py) has the three bytes `colour px py`
abbrev pub picture_bytes : ℕ → ℕ → (ℕ → ℕ → List ℕ) → List ℕ
picture_bytes width height colour = ppm_header width height ++ pixel_bytes width height colour

-- the picture of an image
abbrev pub ppm_bytes : Pixmap → List ℕ
ppm_bytes image = picture_bytes image.width image.height (pixel image)

-- how many bytes the picture of a size has
abbrev pub ppm_size : ℕ → ℕ → ℕ
ppm_size width height = length (ppm_header width height) + 3 * (height * width)
