-- An image in bands of 16 rows, from the top. The last band may have fewer rows.
use Rattle.std.specs.Prelude.{◌≡◌, ℕ, ◌*◌, ◌-◌, ◌<◌, min, List, [], length, map, take, drop, slice_index_or, Vec}
use Rattle.std.specs.Int.{div_ceil}
use Rattle.ppm_out.specs.Pixmap.{Pixmap}

-- how many bands an image so high has
abbrev pub band_count : ℕ → ℕ
band_count height = div_ceil height 16

-- how many rows a band has
abbrev pub band_rows : ℕ → ℕ → ℕ
band_rows height i = min 16 (height - 16 * i)

-- how many bytes it has
abbrev pub band_size : ℕ → ℕ → ℕ → ℕ
band_size width height i = 3 * (band_rows height i * width)

-- where they begin among those of the image
abbrev pub band_start : ℕ → ℕ → ℕ
band_start width i = 3 * (16 * i * width)

-- the bytes of a band of an image
abbrev pub band_of : Pixmap → ℕ → List ℕ
band_of image i = take (band_size image.width image.height i) (drop (band_start image.width i) image.bytes)

-- the bytes of each vector
abbrev pub bytes_of_each : {Z : Type 0} → List (Vec ℕ Z) → List (List ℕ)
bytes_of_each vectors = map (λ v. v.items) vectors

-- these are the bytes of the bands of an image so wide and high
pub record AreBands (width height : ℕ) (bands : List (List ℕ)) : Type 0 where
  pub count : length bands ≡ band_count height
  pub sizes : (i : ℕ) → i < band_count height → length (slice_index_or bands i []) ≡ band_size width height i
