-- A picture is determined by its pixels.
use Rattle.std.proofs.Common.{◌≡◌, ℕ, zero, suc, ◌+◌, ◌*◌, ◌<◌, ◌≤◌, List, [], ◌∷◌, ◌++◌, refl, sym, ap, ◌∙◌, arith, length, take, drop, slice_index, zero-add, drop-cons}
use Rattle.std.specs.List.{flat_map, range_with_len}
use Rattle.std.proofs.lemmas.List.{drop-drop, take_all}
use Rattle.std.proofs.lemmas.Nat.{mul-add-lt}
use Rattle.std.proofs.Math.Seq.{take-add}
use Rattle.ppm_out.specs.Pixmap.{Pixmap, IsPixmap, Shows, pixel, place_of}
use Rattle.ppm_out.specs.Ppm.{ppm_header, pixel_bytes, row_bytes, picture_bytes, ppm_bytes}

-- pieces of k bytes each, one after the other
pub pieces : (k a n : ℕ) (piece : ℕ → List ℕ) (bytes : List ℕ)
    → ((i : ℕ) → i < n → piece (a + i) ≡ take k (drop (k * i) bytes))
    → flat_map piece (range_with_len a n) ≡ take (k * n) bytes
pieces k a zero piece bytes each = let none : k * 0 ≡ 0 = grind arith in rw none refl
pieces k a (suc n) piece bytes each =
    let start : a + 0 ≡ a = grind arith in
    let none : k * 0 ≡ 0 = grind arith in
    let first : piece a ≡ take k bytes =
    ap piece (sym start) ∙ each 0 (omega arith) ∙ ap (λ j. take k (drop j bytes)) none in
    let others : (i : ℕ) → i < n → piece (a + 1 + i) ≡ take k (drop (k * i) (drop k bytes)) =
    λ i below.
    let index : a + 1 + i ≡ a + (i + 1) = omega arith in
    let place : k * (i + 1) ≡ k + k * i = grind arith in
    let within : i + 1 < suc n = omega (arith, below) in
    ap piece index ∙ each (i + 1) within ∙ ap (λ j. take k (drop j bytes)) place
    ∙ ap (take k) (sym (drop-drop (k * i) k bytes)) in
    let rest = pieces k (a + 1) n piece (drop k bytes) others in
    let size : k * suc n ≡ k + k * n = grind arith in
    ap (λ front. front ++ flat_map piece (range_with_len (a + 1) n)) first
    ∙ ap (λ back. take k bytes ++ back) rest
    ∙ sym (take-add k (k * n) bytes) ∙ ap (λ j. take j bytes) (sym size)

-- three bytes that lie within
triple : (bytes : List ℕ) (i : ℕ) → i + 3 ≤ length bytes
    → take 3 (drop i bytes) ≡ slice_index bytes i ∷ slice_index bytes (i + 1) ∷ slice_index bytes (i + 2) ∷ []
triple bytes i within =
    let here : i < length bytes = omega (arith, within) in
    let next : i + 1 < length bytes = omega (arith, within) in
    let last : i + 2 < length bytes = omega (arith, within) in
    let x = slice_index bytes i in
    let y = slice_index bytes (i + 1) in
    let second : suc i ≡ i + 1 = omega arith in
    let third : suc (i + 1) ≡ i + 2 = omega arith in
    let from_third : drop (suc (i + 1)) bytes ≡ slice_index bytes (i + 2) ∷ drop (suc (i + 2)) bytes =
    ap (λ j. drop j bytes) third ∙ drop-cons bytes (i + 2) 0 last in
    let from_second : drop (suc i) bytes ≡ y ∷ drop (suc (i + 1)) bytes =
    ap (λ j. drop j bytes) second ∙ drop-cons bytes (i + 1) 0 next in
    ap (take 3) (drop-cons bytes i 0 here ∙ ap (λ rest. x ∷ rest) (from_second ∙ ap (λ rest. y ∷ rest) from_third))

-- a colour is its three bytes
pub colour_of_three : (colour : List ℕ) → length colour ≡ 3
    → colour ≡ slice_index colour 0 ∷ slice_index colour 1 ∷ slice_index colour 2 ∷ []
colour_of_three colour long =
    sym (take_all 3 colour (omega (arith, long))) ∙ triple colour 0 (omega (arith, long))

-- pieces that are equal make the same bytes
pub flat_map_same : (a n : ℕ) (f g : ℕ → List ℕ) → ((i : ℕ) → i < n → f (a + i) ≡ g (a + i))
    → flat_map f (range_with_len a n) ≡ flat_map g (range_with_len a n)
flat_map_same a zero f g same = refl
flat_map_same a (suc n) f g same =
    let start : a + 0 ≡ a = grind arith in
    let first : f a ≡ g a = ap f (sym start) ∙ same 0 (omega arith) ∙ ap g start in
    let others : (i : ℕ) → i < n → f (a + 1 + i) ≡ g (a + 1 + i) =
    λ i below.
    let index : a + 1 + i ≡ a + (i + 1) = omega arith in
    let within : i + 1 < suc n = omega (arith, below) in
    ap f index ∙ same (i + 1) within ∙ ap g (sym index) in
    ap (λ front. front ++ flat_map f (range_with_len (a + 1) n)) first
    ∙ ap (λ back. g a ++ back) (flat_map_same (a + 1) n f g others)

-- the bytes of a row are the pixels' of it
row_of : (image : Pixmap) (py : ℕ) → IsPixmap image → py < image.height
    → row_bytes image.width (λ px. pixel image px py)
    ≡ take (3 * image.width) (drop (3 * image.width * py) image.bytes)
row_of image py is below =
    pieces 3 0 image.width (λ px. pixel image px py) (drop (3 * image.width * py) image.bytes)
    (λ px across.
    let at : place_of image.width (0 + px) py ≡ 3 * image.width * py + 3 * px = grind arith in
    let inside = mul-add-lt py image.width px image.height below across in
    let within : place_of image.width (0 + px) py + 3 ≤ length image.bytes = grind (arith, inside, is.whole) in
    sym (triple image.bytes (place_of image.width (0 + px) py) within)
    ∙ ap (λ j. take 3 (drop j image.bytes)) at
    ∙ ap (take 3) (sym (drop-drop (3 * px) (3 * image.width * py) image.bytes)))

-- an image's bytes are its pixels, rows from the top
pub bytes_of_pixels : (image : Pixmap) → IsPixmap image
    → pixel_bytes image.width image.height (pixel image) ≡ image.bytes
bytes_of_pixels image is =
    let rows = pieces (3 * image.width) 0 image.height (λ py. row_bytes image.width (λ px. pixel image px py)) image.bytes
    (λ py below.
    let row : ℕ → List ℕ = λ y. row_bytes image.width (λ px. pixel image px y) in
    ap row (zero-add py) ∙ row_of image py is below) in
    let size : 3 * image.width * image.height ≡ length image.bytes = grind (arith, is.whole) in
    rows ∙ take_all (3 * image.width * image.height) image.bytes (omega (arith, size))

-- pictures of one size with the same pixels have the same bytes
pub picture_bytes_same : (width height : ℕ) (colour other : ℕ → ℕ → List ℕ)
    → ((px py : ℕ) → px < width → py < height → colour px py ≡ other px py)
    → picture_bytes width height colour ≡ picture_bytes width height other
picture_bytes_same width height colour other same =
    ap (λ bytes. ppm_header width height ++ bytes)
    (flat_map_same 0 height
    (λ py. row_bytes width (λ px. colour px py)) (λ py. row_bytes width (λ px. other px py))
    (λ py below.
    flat_map_same 0 width (λ px. colour px (0 + py)) (λ px. other px (0 + py))
    (λ px across.
    let column : 0 + px < width = omega (arith, across) in
    let row : 0 + py < height = omega (arith, below) in
    same (0 + px) (0 + py) column row)))

-- the bytes of an image are determined by what it shows
pub ppm_bytes-shown : (image : Pixmap) (colour : ℕ → ℕ → List ℕ) → Shows image colour
    → ppm_bytes image ≡ picture_bytes image.width image.height colour
ppm_bytes-shown image colour shows =
    picture_bytes_same image.width image.height (pixel image) colour shows
