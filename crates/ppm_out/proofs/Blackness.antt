-- The bands of a black image, one after the other.
use Rattle.std.proofs.Common.{◌≡◌, ℕ, ◌+◌, ◌*◌, ◌<◌, min, List, [], ◌∷◌, ◌++◌, sym, ap, ◌∙◌, arith, length, replicate, get_or, ⊎_elim}
use Rattle.std.specs.List.{concat}
use Rattle.std.proofs.lemmas.Bool.{cases_eq}
use Rattle.std.proofs.lemmas.List.{length-replicate, replicate-append-replicate, get_or_push, get_or_append_left}
use Rattle.ppm_out.specs.Bands.{band_rows, band_size}
use Rattle.ppm_out.proofs.Joined.{concat-push}

-- one band more has its size
pub next_sizes : (width height i : ℕ) (bands : List (List ℕ)) (band : List ℕ) → length bands ≡ i
    → ((j : ℕ) → j < i → length (get_or bands j []) ≡ band_size width height j)
    → band ≡ replicate (band_size width height i) 0
    → (j : ℕ) → j < i + 1 → length (get_or (bands ++ band ∷ []) j []) ≡ band_size width height j
next_sizes width height i bands band count sizes black j below =
    ⊎_elim
    (λ same. let here : length bands ≡ j = omega (arith, count, same) in
    ap length (get_or_push bands band [] j here) ∙ ap length black ∙ length-replicate (band_size width height i) 0
    ∙ ap (band_size width height) (sym same))
    (λ differ. let before : j < length bands = omega (arith, count, differ, below) in
    let earlier : j < i = omega (arith, count, before) in
    ap length (get_or_append_left bands (band ∷ []) [] j before) ∙ sizes j earlier)
    (cases_eq j i)

-- so many rows of one byte and so many more
more_rows : (width a b x : ℕ) → replicate (3 * (a * width)) x ++ replicate (3 * (b * width)) x ≡ replicate (3 * ((a + b) * width)) x
more_rows width a b x =
    let sum : 3 * (a * width) + 3 * (b * width) ≡ 3 * ((a + b) * width) = grind arith in
    replicate-append-replicate (3 * (a * width)) (3 * (b * width)) x ∙ ap (λ n. replicate n x) sum

-- and the bands are black
pub next_black : (width height i : ℕ) (bands : List (List ℕ)) (band : List ℕ)
    → concat bands ≡ replicate (3 * (min (16 * i) height * width)) 0
    → band ≡ replicate (band_size width height i) 0
    → concat (bands ++ band ∷ []) ≡ replicate (3 * (min (16 * (i + 1)) height * width)) 0
next_black width height i bands band before black =
    let above : ℕ = min (16 * i) height in
    let rows : above + band_rows height i ≡ min (16 * (i + 1)) height = omega arith in
    concat-push bands band ∙ ap (λ bytes. bytes ++ band) before
    ∙ ap (λ bytes. replicate (3 * (above * width)) 0 ++ bytes) black
    ∙ more_rows width above (band_rows height i) 0
    ∙ ap (λ n. replicate (3 * (n * width)) 0) rows
