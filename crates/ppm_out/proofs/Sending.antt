-- A picture is its header and its bands, one behind the other.
use Rattle.std.proofs.Common.{◌≡◌, ℕ, ◌+◌, ◌<◌, ◌≤◌, List, ◌++◌, Option, sym, ap, ◌∙◌, arith, length, take, drop, length-append, append_assoc, append-nil}
use Rattle.std.proofs.lemmas.List.{take-append-drop, take-append-le}
use Rattle.std.proofs.Math.Seq.{take-append-add}
use Rattle.std.specs.Io.KnownBytes.{append_known}
use Rattle.pf_io.proofs.Known.{append_known-append}
use Rattle.ppm_out.specs.Pixmap.{Pixmap, IsPixmap}
use Rattle.ppm_out.specs.Bands.{band_count, band_start, band_of}
use Rattle.ppm_out.specs.Ppm.{ppm_header, ppm_bytes}
use Rattle.ppm_out.proofs.InBands.{next_band, all_bands}
use Rattle.ppm_out.proofs.Pictures.{bytes_of_pixels}

-- the header, and then the bands above one
abbrev pub sent_before : Pixmap → ℕ → List ℕ
sent_before image k = ppm_header image.width image.height ++ take (band_start image.width k) image.bytes

-- a picture is its header and its bytes
pub ppm_bytes_are : (image : Pixmap) → IsPixmap image
    → ppm_bytes image ≡ ppm_header image.width image.height ++ image.bytes
ppm_bytes_are image is = ap (λ bytes. ppm_header image.width image.height ++ bytes) (bytes_of_pixels image is)

-- before the first band it is the header
pub sent_none : (image : Pixmap) → sent_before image 0 ≡ ppm_header image.width image.height
sent_none image =
    let none : band_start image.width 0 ≡ 0 = grind arith in
    ap (λ n. ppm_header image.width image.height ++ take n image.bytes) none ∙ append-nil (ppm_header image.width image.height)

-- one band more
pub sent_next : (image : Pixmap) (k : ℕ) → IsPixmap image → k < band_count image.height
    → sent_before image (k + 1) ≡ sent_before image k ++ band_of image k
sent_next image k is within =
    ap (λ bytes. ppm_header image.width image.height ++ bytes) (next_band image k is within)
    ∙ sym (append_assoc (ppm_header image.width image.height) (take (band_start image.width k) image.bytes) (band_of image k))

-- behind the last band it is the picture
pub sent_all : (image : Pixmap) → IsPixmap image → sent_before image (band_count image.height) ≡ ppm_bytes image
sent_all image is =
    ap (λ bytes. ppm_header image.width image.height ++ bytes) (all_bands image is) ∙ sym (ppm_bytes_are image is)

-- what follows a band
pub sent_rest : (image : Pixmap) (k : ℕ) → IsPixmap image → k < band_count image.height
    → ppm_bytes image ≡ sent_before image k ++ (band_of image k ++ drop (band_start image.width (k + 1)) image.bytes)
sent_rest image k is within =
    let next = band_start image.width (k + 1) in
    let rest = drop next image.bytes in
    ppm_bytes_are image is
    ∙ ap (λ bytes. ppm_header image.width image.height ++ bytes) (sym (take-append-drop next image.bytes))
    ∙ sym (append_assoc (ppm_header image.width image.height) (take next image.bytes) rest)
    ∙ ap (λ bytes. bytes ++ rest) (sent_next image k is within)
    ∙ append_assoc (sent_before image k) (band_of image k) rest

-- a front that ends within a band
pub sent_front : (image : Pixmap) (k n : ℕ) → IsPixmap image → k < band_count image.height → n < length (band_of image k)
    → take (length (sent_before image k) + n) (ppm_bytes image) ≡ sent_before image k ++ take n (band_of image k)
sent_front image k n is within inside =
    let rest = drop (band_start image.width (k + 1)) image.bytes in
    let few : n ≤ length (band_of image k) = omega (arith, inside) in
    ap (take (length (sent_before image k) + n)) (sent_rest image k is within)
    ∙ take-append-add (sent_before image k) (band_of image k ++ rest) n
    ∙ ap (λ bytes. sent_before image k ++ bytes) (take-append-le n (band_of image k) rest few)

-- it is not the whole picture
pub sent_less : (image : Pixmap) (k n : ℕ) → IsPixmap image → k < band_count image.height → n < length (band_of image k)
    → length (sent_before image k) + n < length (ppm_bytes image)
sent_less image k n is within inside =
    let rest = drop (band_start image.width (k + 1)) image.bytes in
    let whole = ap length (sent_rest image k is within) in
    let outer = length-append (sent_before image k) (band_of image k ++ rest) in
    let inner = length-append (band_of image k) rest in
    omega (arith, whole, outer, inner, inside)

-- a front that ends within the header
pub header_front : (image : Pixmap) (n : ℕ) → IsPixmap image → n < length (ppm_header image.width image.height)
    → take n (ppm_bytes image) ≡ take n (ppm_header image.width image.height)
header_front image n is inside =
    let few : n ≤ length (ppm_header image.width image.height) = omega (arith, inside) in
    ap (take n) (ppm_bytes_are image is) ∙ take-append-le n (ppm_header image.width image.height) image.bytes few

-- it is not the whole picture
pub header_less : (image : Pixmap) (n : ℕ) → IsPixmap image → n < length (ppm_header image.width image.height)
    → n < length (ppm_bytes image)
header_less image n is inside =
    let whole = ap length (ppm_bytes_are image is) in
    let parts = length-append (ppm_header image.width image.height) image.bytes in
    omega (arith, whole, parts, inside)

-- what a fault in the header leaves
pub wrote_header : (image : Pixmap) (n : ℕ) (old new : Option (List ℕ)) (header : List ℕ) → IsPixmap image
    → header ≡ ppm_header image.width image.height → n < length header → new ≡ append_known old (take n header)
    → (n < length (ppm_bytes image)) × (new ≡ append_known old (take n (ppm_bytes image)))
wrote_header image n old new header is same inside wrote =
    let within : n < length (ppm_header image.width image.height) = omega (arith, ap length same, inside) in (
      header_less image n is within,
      wrote ∙ ap (append_known old) (ap (take n) same ∙ sym (header_front image n is within)),
    )

-- what a fault in a band leaves
pub wrote_front : (image : Pixmap) (k n written : ℕ) (old now new : Option (List ℕ)) (band : List ℕ) → IsPixmap image
    → k < band_count image.height → written ≡ length (sent_before image k) → band ≡ band_of image k
    → now ≡ append_known old (sent_before image k) → n < length band → new ≡ append_known now (take n band)
    → (written + n < length (ppm_bytes image)) × (new ≡ append_known old (take (written + n) (ppm_bytes image)))
wrote_front image k n written old now new band is within count same before inside wrote =
    let there : n < length (band_of image k) = omega (arith, ap length same, inside) in (
      omega (arith, sent_less image k n is within there, count),
      wrote ∙ ap (λ known. append_known known (take n band)) before
          ∙ append_known-append old (sent_before image k) (take n band)
          ∙ ap (λ bytes. append_known old (sent_before image k ++ take n bytes)) same
          ∙ ap (append_known old) (sym (sent_front image k n is within there))
          ∙ ap (λ m. append_known old (take (m + n) (ppm_bytes image))) (sym count),
    )

-- what a whole band leaves
pub wrote_band : (image : Pixmap) (k : ℕ) (old now new : Option (List ℕ)) (band : List ℕ) → IsPixmap image
    → k < band_count image.height → band ≡ band_of image k
    → now ≡ append_known old (sent_before image k) → new ≡ append_known now band
    → new ≡ append_known old (sent_before image (k + 1))
wrote_band image k old now new band is within same before wrote =
    wrote ∙ ap (λ known. append_known known band) before
    ∙ append_known-append old (sent_before image k) band
    ∙ ap (λ bytes. append_known old (sent_before image k ++ bytes)) same
    ∙ ap (append_known old) (sym (sent_next image k is within))

-- and how many bytes went out then
pub count_next : (image : Pixmap) (k written : ℕ) (band : List ℕ) → IsPixmap image → k < band_count image.height
    → band ≡ band_of image k → written ≡ length (sent_before image k) → written + length band ≡ length (sent_before image (k + 1))
count_next image k written band is within same count =
    ap (λ n. n + length band) count ∙ ap (λ bytes. length (sent_before image k) + length bytes) same
    ∙ sym (ap length (sent_next image k is within) ∙ length-append (sent_before image k) (band_of image k))
