-- Bands of an image: where their bytes lie, and what a write to one leaves.
use Rattle.std.proofs.Common.{◌≡◌, ◌≢◌, ℕ, suc, ◌+◌, ◌-◌, ◌*◌, ◌/◌, ◌%◌, ◌<◌, ◌≤◌, min, List, [], ◌∷◌, ◌++◌, sym, ap, subst, ◌∙◌, arith, length, take, drop, replicate, set, get_or, slice_index, ⊎_elim, length-append, length-take, length-set, append-nil, zero-add}
use Rattle.std.specs.List.{concat, flat_map, range_with_len}
use Rattle.std.proofs.lemmas.List.{take_at, drop_at, drop_all, drop-replicate, take-replicate, take_all, get_or-take, get_or-drop, get_or-set_same, get_or-set_other, take_min, length-drop}
use Rattle.std.proofs.lemmas.Bool.{cases_eq, cases_lt}
use Rattle.std.proofs.lemmas.Nat.{mul-add-lt}
use Rattle.std.proofs.Math.Seq.{take-add}
use Rattle.ppm_out.specs.Pixmap.{Pixmap, IsPixmap, SetsPixel, Shows, pixel, pixel_in, place_of}
use Rattle.ppm_out.specs.Bands.{band_count, band_rows, band_size, band_start, band_of, AreBands}
use Rattle.ppm_out.specs.Ppm.{ppm_header}
use Rattle.ppm_out.proofs.Joined.{parted, parted-set, length-before, set-between}
use Rattle.ppm_out.proofs.Places.{three, sets_pixel}
use Rattle.ppm_out.proofs.Pictures.{pieces, flat_map_same}

-- each band above another one has all its rows
pub full_above : (height k j : ℕ) → k < band_count height → j < k → band_rows height j ≡ 16
full_above height k j within above = omega (arith, within, above)

-- the bytes above a band
pub length-above : (width height : ℕ) (bands : List (List ℕ)) (k : ℕ) → AreBands width height bands → k < band_count height
    → length (concat (take k bands)) ≡ band_start width k
length-above width height bands k are within =
    let there : k ≤ length bands = omega (arith, are.count, within) in
    let each : (j : ℕ) → j < k → length (get_or bands j []) ≡ 3 * (16 * width) =
    λ j above.
    let below : j < band_count height = omega (arith, within, above) in
    are.sizes j below ∙ ap (λ n. 3 * (n * width)) (full_above height k j within above) in
    let size : 3 * (16 * width) * k ≡ 3 * (16 * k * width) = grind arith in
    length-before (3 * (16 * width)) bands k there each ∙ size

-- a band lies in its place
pub band_among : (width height : ℕ) (bands : List (List ℕ)) (k : ℕ) → AreBands width height bands → k < band_count height
    → take (band_size width height k) (drop (band_start width k) (concat bands)) ≡ get_or bands k []
band_among width height bands k are within =
    let there : k < length bands = omega (arith, are.count, within) in
    let back = concat (drop (suc k) bands) in
    ap (λ bytes. take (band_size width height k) (drop (band_start width k) bytes)) (parted bands k there)
    ∙ ap (take (band_size width height k)) (drop_at (concat (take k bands)) (get_or bands k [] ++ back) (band_start width k) (length-above width height bands k are within))
    ∙ take_at (get_or bands k []) back (band_size width height k) (are.sizes k within)

-- all of them have the bytes of the image
pub length-bands : (width height : ℕ) (bands : List (List ℕ)) → AreBands width height bands → 1 ≤ height
    → length (concat bands) ≡ 3 * (height * width)
length-bands width height bands are high =
    let k = band_count height - 1 in
    let within : k < band_count height = omega (arith, high) in
    let there : k < length bands = omega (arith, are.count, within) in
    let last : length bands ≤ suc k = omega (arith, are.count, high) in
    let front = concat (take k bands) in
    let none : concat (drop (suc k) bands) ≡ [] = ap concat (drop_all (suc k) bands last) in
    let rows : 16 * k + band_rows height k ≡ height = omega (arith, high) in
    let split : length (concat bands) ≡ band_start width k + band_size width height k =
    ap length (parted bands k there ∙ ap (λ back. front ++ (get_or bands k [] ++ back)) none ∙ ap (λ b. front ++ b) (append-nil (get_or bands k [])))
    ∙ length-append front (get_or bands k [])
    ∙ ap (λ n. n + length (get_or bands k [])) (length-above width height bands k are within)
    ∙ ap (λ n. band_start width k + n) (are.sizes k within) in
    let sum : (b r : ℕ) → 3 * (16 * b * width) + 3 * (r * width) ≡ 3 * ((16 * b + r) * width) = λ b r. grind arith in
    split ∙ sum k (band_rows height k) ∙ ap (λ n. 3 * (n * width)) rows

-- each band keeps its size where one gets bytes as many
set_band_size : (width height : ℕ) (bands : List (List ℕ)) (k : ℕ) (rows : List ℕ) → AreBands width height bands
    → k < band_count height → length rows ≡ band_size width height k → (j : ℕ) → j < band_count height
    → length (get_or (set bands k rows) j []) ≡ band_size width height j
set_band_size width height bands k rows are within size j below =
    let there : k < length bands = omega (arith, are.count, within) in
    ⊎_elim
    (λ same. ap (λ n. length (get_or (set bands k rows) n [])) same
    ∙ ap length (get_or-set_same bands k rows [] there) ∙ size ∙ ap (band_size width height) (sym same))
    (λ differ. ap length (get_or-set_other bands k j rows [] differ) ∙ are.sizes j below)
    (cases_eq j k)

-- bytes as many in the place of a band
pub set_band : (width height : ℕ) (bands : List (List ℕ)) (k : ℕ) (rows : List ℕ) → AreBands width height bands
    → k < band_count height → length rows ≡ band_size width height k → AreBands width height (set bands k rows)
set_band width height bands k rows are within size = record {
  count = length-set bands k rows ∙ are.count;
  sizes = set_band_size width height bands k rows are within size;
}

-- what three writes to a list leave
abbrev pub painted : List ℕ → ℕ → ℕ → ℕ → ℕ → List ℕ
painted bytes p red green blue = set (set (set bytes p red) (p + 1) green) (p + 2) blue

-- a write to a band is one to the bytes of the image
pub painted_among : (width height : ℕ) (bands : List (List ℕ)) (k p red green blue : ℕ) → AreBands width height bands
    → k < band_count height → p + 3 ≤ band_size width height k
    → concat (set bands k (painted (get_or bands k []) p red green blue))
    ≡ painted (concat bands) (band_start width k + p) red green blue
painted_among width height bands k p red green blue are within inside =
    let there : k < length bands = omega (arith, are.count, within) in
    let front = concat (take k bands) in
    let band = get_or bands k [] in
    let back = concat (drop (suc k) bands) in
    let first : p < length band = omega (arith, are.sizes k within, inside) in
    let second : p + 1 < length (set band p red) = rw length-set (omega (arith, are.sizes k within, inside)) in
    let third : p + 2 < length (set (set band p red) (p + 1) green) = rw (length-set, length-set) (omega (arith, are.sizes k within, inside)) in
    let at : length front ≡ band_start width k = length-above width height bands k are within in
    let place : ℕ → ℕ → ℕ = λ n d. n + p + d in
    let one : length front + p + 1 ≡ length front + (p + 1) = omega arith in
    let two : length front + p + 2 ≡ length front + (p + 2) = omega arith in
    parted-set bands k (painted band p red green blue) there
    ∙ sym (set-between front (set (set band p red) (p + 1) green) back (p + 2) blue third)
    ∙ ap (λ bytes. set bytes (length front + (p + 2)) blue) (sym (set-between front (set band p red) back (p + 1) green second))
    ∙ ap (λ bytes. set (set bytes (length front + (p + 1)) green) (length front + (p + 2)) blue) (sym (set-between front band back p red first))
    ∙ ap (λ bytes. set (set (set bytes (length front + p) red) (length front + (p + 1)) green) (length front + (p + 2)) blue) (sym (parted bands k there))
    ∙ ap (λ n. set (set (set (concat bands) (length front + p) red) n green) (length front + (p + 2)) blue) (sym one)
    ∙ ap (λ n. set (set (set (concat bands) (length front + p) red) (length front + p + 1) green) n blue) (sym two)
    ∙ ap (λ n. painted (concat bands) (n + p) red green blue) at

-- where a pixel lies in its band
pub place_parts : (width px k row : ℕ) → band_start width k + place_of width px row ≡ place_of width px (16 * k + row)
place_parts width px k row = grind arith

-- a pixel lies within its band
pub place_inside : (width height px py : ℕ) → px < width → py < height
    → (py / 16 < band_count height) × (place_of width px (py % 16) + 3 ≤ band_size width height (py / 16))
place_inside width height px py across below =
    let rows = band_rows height (py / 16) in
    let within : py % 16 < rows = omega (arith, below) in
    let inside = mul-add-lt (py % 16) width px rows within across in
    (omega (arith, below), grind (arith, inside))

-- one byte of a band
byte_of_band : (image : Pixmap) (k p : ℕ) → p < band_size image.width image.height k
    → slice_index (band_of image k) p ≡ slice_index image.bytes (band_start image.width k + p)
byte_of_band image k p within =
    get_or-take (band_size image.width image.height k) (drop (band_start image.width k) image.bytes) p 0 within
    ∙ get_or-drop (band_start image.width k) image.bytes p 0

-- a pixel of an image is one of its band
pub pixel_of_band : (image : Pixmap) (px py : ℕ) → px < image.width → py < image.height
    → pixel image px py ≡ pixel_in (band_of image (py / 16)) image.width px (py % 16)
pixel_of_band image px py across below =
    let k = py / 16 in
    let place = place_of image.width px (py % 16) in
    let inside = (place_inside image.width image.height px py across below).1 in
    let row : 16 * k + py % 16 ≡ py = omega arith in
    let at : band_start image.width k + place ≡ place_of image.width px py =
    place_parts image.width px k (py % 16) ∙ ap (place_of image.width px) row in
    let first : band_start image.width k + (place + 0) ≡ place_of image.width px py = omega (arith, at) in
    let byte : (d : ℕ) → d < 3
    → slice_index image.bytes (place_of image.width px py + d) ≡ slice_index (band_of image k) (place + d) =
    λ d few.
    let there : place + d < band_size image.width image.height k = omega (arith, inside, few) in
    let same : place_of image.width px py + d ≡ band_start image.width k + (place + d) = omega (arith, at) in
    ap (slice_index image.bytes) same ∙ sym (byte_of_band image k (place + d) there) in
    let here : place_of image.width px py + 0 ≡ place_of image.width px py = omega arith in
    let start : place + 0 ≡ place = omega arith in
    three _ _ _ _ _ _
    (ap (slice_index image.bytes) (sym here) ∙ byte 0 (omega arith) ∙ ap (slice_index (band_of image k)) start)
    (byte 1 (omega arith)) (byte 2 (omega arith))

-- an image shows what each of its bands shows
pub shows_by_bands : (image : Pixmap) (colour : ℕ → ℕ → List ℕ)
    → ((k px row : ℕ) → k < band_count image.height → px < image.width → row < band_rows image.height k
    → pixel_in (band_of image k) image.width px row ≡ colour px (16 * k + row))
    → Shows image colour
shows_by_bands image colour each px py across below =
    let k = py / 16 in
    let within : k < band_count image.height = omega (arith, below) in
    let inside : py % 16 < band_rows image.height k = omega (arith, below) in
    let row : 16 * k + py % 16 ≡ py = omega arith in
    pixel_of_band image px py across below ∙ each k px (py % 16) within across inside ∙ ap (colour px) row

-- more rows have more bytes
more_rows : (width a b : ℕ) → a ≤ b → 3 * (a * width) ≤ 3 * (b * width)
more_rows width a b more = grind (arith, more)

-- the fewer of some rows have the fewer bytes
fewer_rows : (width a b : ℕ) → min (3 * (a * width)) (3 * (b * width)) ≡ 3 * (min a b * width)
fewer_rows width a b =
    ⊎_elim
    (λ less.
    let rows : min a b ≡ a = omega (arith, less) in
    let bytes = more_rows width a b (omega (arith, less)) in
    let bound : min (3 * (a * width)) (3 * (b * width)) ≡ 3 * (a * width) = omega (arith, bytes) in
    bound ∙ ap (λ n. 3 * (n * width)) (sym rows))
    (λ more.
    let rows : min a b ≡ b = omega (arith, more) in
    let bytes = more_rows width b a more in
    let bound : min (3 * (a * width)) (3 * (b * width)) ≡ 3 * (b * width) = omega (arith, bytes) in
    bound ∙ ap (λ n. 3 * (n * width)) (sym rows))
    (cases_lt a b)

-- the fewer of 16 rows and those from a band on are the band's
bytes_from_band : (image : Pixmap) (k : ℕ) → IsPixmap image → k < band_count image.height
    → min (3 * (16 * image.width)) (length (drop (band_start image.width k) image.bytes)) ≡ band_size image.width image.height k
bytes_from_band image k is within =
    let left = image.height - 16 * k in
    let rows : image.height ≡ 16 * k + left = omega (arith, within) in
    let sum : (b r : ℕ) → 3 * ((16 * b + r) * image.width) ≡ 3 * (16 * b * image.width) + 3 * (r * image.width) = λ b r. grind arith in
    let whole : length image.bytes ≡ band_start image.width k + 3 * (left * image.width) =
    is.whole ∙ ap (λ n. 3 * (n * image.width)) rows ∙ sum k left in
    let rest : length (drop (band_start image.width k) image.bytes) ≡ 3 * (left * image.width) =
    length-drop (band_start image.width k) image.bytes ∙ omega (arith, whole) in
    ap (min (3 * (16 * image.width))) rest ∙ fewer_rows image.width 16 left

-- a band takes all that lies in 16 rows
band_full : (image : Pixmap) (k : ℕ) → IsPixmap image → k < band_count image.height
    → take (3 * (16 * image.width)) (drop (band_start image.width k) image.bytes) ≡ band_of image k
band_full image k is within =
    let rest = drop (band_start image.width k) image.bytes in
    sym (take_min (3 * (16 * image.width)) rest) ∙ ap (λ n. take n rest) (bytes_from_band image k is within)

-- the bytes up to the end of a band are those above it and its own
pub next_band : (image : Pixmap) (k : ℕ) → IsPixmap image → k < band_count image.height
    → take (band_start image.width (k + 1)) image.bytes ≡ take (band_start image.width k) image.bytes ++ band_of image k
next_band image k is within =
    let start = band_start image.width k in
    let full = 3 * (16 * image.width) in
    let rest = drop start image.bytes in
    let next : band_start image.width (k + 1) ≡ start + full = grind arith in
    ap (λ n. take n image.bytes) next ∙ take-add start full image.bytes
    ∙ ap (λ back. take start image.bytes ++ back) (band_full image k is within)

-- all bytes lie above the end of the last band
pub all_bands : (image : Pixmap) → IsPixmap image
    → take (band_start image.width (band_count image.height)) image.bytes ≡ image.bytes
all_bands image is =
    let rows : image.height ≤ 16 * band_count image.height = omega arith in
    let size = more_rows image.width image.height (16 * band_count image.height) rows in
    take_all (band_start image.width (band_count image.height)) image.bytes (omega (arith, is.whole, size))

-- a band has its bytes
pub length-band : (image : Pixmap) (k : ℕ) → IsPixmap image → k < band_count image.height
    → length (band_of image k) ≡ band_size image.width image.height k
length-band image k is within =
    let rest = drop (band_start image.width k) image.bytes in
    ap length (sym (band_full image k is within)) ∙ length-take (3 * (16 * image.width)) rest ∙ bytes_from_band image k is within

-- the bytes above a band and its own are no more than all
pub band_fits : (image : Pixmap) (k : ℕ) → IsPixmap image → k < band_count image.height
    → length (take (band_start image.width k) image.bytes) + length (band_of image k) ≤ length image.bytes
band_fits image k is within =
    let both = length-append (take (band_start image.width k) image.bytes) (band_of image k) in
    let next = ap length (next_band image k is within) in
    let taken = length-take (band_start image.width (k + 1)) image.bytes in
    omega (arith, both, next, taken)

-- a band of an image of one byte is of that byte
pub band-replicate : (image : Pixmap) (k x : ℕ) → IsPixmap image → k < band_count image.height
    → image.bytes ≡ replicate (3 * (image.height * image.width)) x
    → band_of image k ≡ replicate (band_size image.width image.height k) x
band-replicate image k x is within same =
    let size = band_size image.width image.height k in
    let start = band_start image.width k in
    let rest = 3 * (image.height * image.width) - start in
    let count : length (band_of image k) ≡ size = length-band image k is within in
    let taken : length (band_of image k) ≡ min size (length (drop start image.bytes)) = length-take size (drop start image.bytes) in
    let left : length (drop start image.bytes) ≡ length image.bytes - start = length-drop start image.bytes in
    let enough : size ≤ rest = omega (arith, count, taken, left, is.whole) in
    ap (λ bytes. take size (drop start bytes)) same
    ∙ ap (take size) (drop-replicate start (3 * (image.height * image.width)) x)
    ∙ take-replicate size rest x enough

-- the bytes of an image are those of its bands, one behind the other
pub bands_joined : (image : Pixmap) → IsPixmap image
    → flat_map (band_of image) (range_with_len 0 (band_count image.height)) ≡ image.bytes
bands_joined image is =
    let full = 3 * (16 * image.width) in
    let count = band_count image.height in
    let start : (k : ℕ) → band_start image.width k ≡ full * k = λ k. grind arith in
    let each : (k : ℕ) → k < count → band_of image (0 + k) ≡ take full (drop (full * k) image.bytes) =
    λ k within. ap (band_of image) (zero-add k) ∙ sym (band_full image k is within)
    ∙ ap (λ n. take full (drop n image.bytes)) (start k) in
    pieces full 0 count (band_of image) image.bytes each
    ∙ ap (λ n. take n image.bytes) (sym (start count)) ∙ all_bands image is

-- so images of one size with the same bands are the same
pub same_by_bands : (image other : Pixmap) → IsPixmap image → IsPixmap other → image.height ≡ other.height
    → ((k : ℕ) → k < band_count image.height → band_of image k ≡ band_of other k) → image.bytes ≡ other.bytes
same_by_bands image other is other_is high same =
    sym (bands_joined image is)
    ∙ flat_map_same 0 (band_count image.height) (band_of image) (band_of other)
    (λ k within. ap (band_of image) (zero-add k) ∙ same k within ∙ ap (band_of other) (sym (zero-add k)))
    ∙ ap (λ height. flat_map (band_of other) (range_with_len 0 (band_count height))) high
    ∙ bands_joined other other_is

-- an image of bands
abbrev pub image_of : ℕ → ℕ → List (List ℕ) → Pixmap
image_of width height bands = record { width = width; height = height; bytes = concat bands }

-- it stays one where a band gets bytes as many
pub set_whole : (width height : ℕ) (bands : List (List ℕ)) (k : ℕ) (rows : List ℕ) → IsPixmap (image_of width height bands)
    → AreBands width height bands → k < band_count height → length rows ≡ band_size width height k
    → IsPixmap (image_of width height (set bands k rows))
set_whole width height bands k rows is are within size = record {
  wide = is.wide;
  high = is.high;
  whole = length-bands width height (set bands k rows) (set_band width height bands k rows are within size) is.high.0;
}

-- and where these bands are what the image is left with, all holds of it
pub set_stays : (width height : ℕ) (bands after : List (List ℕ)) (k : ℕ) (rows header : List ℕ) → after ≡ set bands k rows
    → IsPixmap (image_of width height bands) × (header ≡ ppm_header width height) × AreBands width height bands
    → k < band_count height → length rows ≡ band_size width height k
    → IsPixmap (image_of width height after) × (header ≡ ppm_header width height) × AreBands width height after
set_stays width height bands after k rows header same holds within size =
    subst
    (λ (bs : List (List ℕ)). IsPixmap (image_of width height bs) × (header ≡ ppm_header width height) × AreBands width height bs)
    (sym same)
    (set_whole width height bands k rows holds.0 holds.2 within size, holds.1, set_band width height bands k rows holds.2 within size)

-- the band has the bytes
pub set_one : (width height : ℕ) (bands : List (List ℕ)) (k : ℕ) (rows : List ℕ) → AreBands width height bands
    → k < band_count height → length rows ≡ band_size width height k → band_of (image_of width height (set bands k rows)) k ≡ rows
set_one width height bands k rows are within size =
    let there : k < length bands = omega (arith, are.count, within) in
    band_among width height (set bands k rows) k (set_band width height bands k rows are within size) within
    ∙ get_or-set_same bands k rows [] there

-- the others are as they were
pub set_others : (width height : ℕ) (bands : List (List ℕ)) (k : ℕ) (rows : List ℕ) → AreBands width height bands
    → k < band_count height → length rows ≡ band_size width height k → (j : ℕ) → j < band_count height → j ≢ k
    → band_of (image_of width height (set bands k rows)) j ≡ band_of (image_of width height bands) j
set_others width height bands k rows are within size j below differ =
    band_among width height (set bands k rows) j (set_band width height bands k rows are within size) below
    ∙ get_or-set_other bands k j rows [] differ
    ∙ sym (band_among width height bands j are below)

-- three bytes written to a band are a pixel's, and no other's
pub sets_in_band : (width height : ℕ) (bands : List (List ℕ)) (px py red green blue : ℕ) → IsPixmap (image_of width height bands)
    → AreBands width height bands → px < width → py < height
    → SetsPixel (image_of width height bands)
    (image_of width height (set bands (py / 16) (painted (get_or bands (py / 16) []) (place_of width px (py % 16)) red green blue)))
    px py (red ∷ green ∷ blue ∷ [])
sets_in_band width height bands px py red green blue is are across below =
    let k = py / 16 in
    let inside = place_inside width height px py across below in
    let row : 16 * k + py % 16 ≡ py = omega arith in
    let place = place_parts width px k (py % 16) ∙ ap (place_of width px) row in
    let written = painted_among width height bands k (place_of width px (py % 16)) red green blue are inside.0 inside.1
    ∙ ap (λ p. painted (concat bands) p red green blue) place in
    subst (λ (bytes : List ℕ). SetsPixel (image_of width height bands) (record { width = width; height = height; bytes = bytes }) px py (red ∷ green ∷ blue ∷ []))
    (sym written) (sets_pixel width height px py red green blue (concat bands) across below is.whole)

-- three writes leave a list as long as it was
pub length-painted : (bytes : List ℕ) (p red green blue : ℕ) → length (painted bytes p red green blue) ≡ length bytes
length-painted bytes p red green blue = rw (length-set, length-set, length-set)
