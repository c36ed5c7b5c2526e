-- How many bytes pictures have.
use Rattle.std.proofs.Common.{◌≡◌, ℕ, zero, suc, ◌+◌, ◌*◌, ◌<◌, ◌≤◌, ◌==◌, ◌&&◌, Bool, true, false, eqb-true, List, [], ◌∷◌, ◌++◌, take, drop, length, length-append, append-nil, refl, ap, ◌∙◌, arith, subst, sym}
use Rattle.std.proofs.lemmas.List.{flat_map_more, take_more, drop_more}
use Rattle.std.proofs.lemmas.Option.{same_Some}
use Rattle.std.proofs.lemmas.Fmt.{length-decimal-le_succ}
use Rattle.std.proofs.lemmas.Grind.{common_steps}
use Rattle.std.specs.Prelude.{slice_index_or, slice_set, decimal}
use Rattle.std.specs.List.{flat_map, range_with_len, list_all}
use Rattle.fx_math.specs.declared.lenses.Lens.{Lens}
use Rattle.ppm_out.specs.Pixmap.{Pixmap, pixel}
use Rattle.ppm_out.specs.Ppm.{ppm_header, ppm_size, ppm_bytes, row_bytes, pixel_bytes}
use Rattle.stage_parts.specs.Loads.{LoadState, Each, IsOfSize, is_of_size, have_one_size, AreImages, is_for, bytes_of_all}

pieces_length : (k a n : ℕ) (piece : ℕ → List ℕ) → ((i : ℕ) → length (piece i) ≡ k) → length (flat_map piece (range_with_len a n)) ≡ k * n
pieces_length k a zero piece each = let none : k * 0 ≡ 0 = grind arith in rw none refl
pieces_length k a (suc n) piece each =
    let size : k * suc n ≡ k + k * n = grind arith in
    length-append (piece a) (flat_map piece (range_with_len (a + 1) n))
    ∙ ap (λ m. m + length (flat_map piece (range_with_len (a + 1) n))) (each a)
    ∙ ap (λ m. k + m) (pieces_length k (a + 1) n piece each) ∙ sym size

-- the picture of an image has as many bytes as its size says
pub ppm_length : (image : Pixmap) → length (ppm_bytes image) ≡ ppm_size image.width image.height
ppm_length image =
    let rows = pieces_length (3 * image.width) 0 image.height (λ py. row_bytes image.width (λ px. pixel image px py))
    (λ py. pieces_length 3 0 image.width (λ px. pixel image px py) (λ px. refl)) in
    let all : 3 * image.width * image.height ≡ 3 * (image.height * image.width) = grind arith in
    length-append (ppm_header image.width image.height) (pixel_bytes image.width image.height (pixel image))
    ∙ ap (λ n. length (ppm_header image.width image.height) + n) (rows ∙ all)

-- so many images of one size
sized : (lens : Lens) (images : List Pixmap) → Each (IsOfSize lens) images → bytes_of_all images ≡ ppm_size lens.w lens.h * length images
sized lens [] each = let none : ppm_size lens.w lens.h * 0 ≡ 0 = grind arith in sym none
sized lens (i ∷ images) each =
    let this = each 0 i refl in
    let one : ppm_size i.width i.height ≡ ppm_size lens.w lens.h =
    ap (λ w. ppm_size w i.height) this.width ∙ ap (ppm_size lens.w) this.height in
    let size : ppm_size lens.w lens.h * suc (length images) ≡ ppm_size lens.w lens.h + ppm_size lens.w lens.h * length images =
    grind arith in
    ap (λ n. n + bytes_of_all images) one
    ∙ ap (λ n. ppm_size lens.w lens.h + n) (sized lens images (λ k j at. each (suc k) j at)) ∙ sym size

pub bytes_of_images : (lens : Lens) (n : ℕ) (images : List Pixmap) → AreImages lens n images →
    bytes_of_all images ≡ ppm_size lens.w lens.h * n
bytes_of_images lens n images are = sized lens images are.sized ∙ ap (λ m. ppm_size lens.w lens.h * m) are.many

-- one more of what each is
pub each_push : {X : Type 0} (P : X → Type 0) (xs : List X) (x : X) → Each P xs → P x → Each P (xs ++ x ∷ [])
each_push P [] x each this zero y at = subst P (same_Some x y at) this
each_push P [] x each this (suc i) y at = absurd (cc)
each_push P (z ∷ xs) x each this zero y at = each 0 y at
each_push P (z ∷ xs) x each this (suc i) y at = each_push P xs x (λ j w stands. each (suc j) w stands) this i y at

-- A loop that appends pictures

pub appended : (old now new : List ℕ) (images : List Pixmap) (i : ℕ) (image : Pixmap) → i < length images →
    image ≡ slice_index_or images i image →
    now ≡ old ++ flat_map ppm_bytes (take i images) → new ≡ now ++ ppm_bytes image → new ≡ old ++ flat_map ppm_bytes (take (i + 1) images)
appended old now new images i image l at before push =
    push ∙ ap (λ xs. xs ++ ppm_bytes image) before ∙ flat_map_more ppm_bytes old (take i images) image
    ∙ ap (λ (x : Pixmap). old ++ flat_map ppm_bytes (take i images ++ x ∷ [])) at
    ∙ ap (λ (xs : List Pixmap). old ++ flat_map ppm_bytes xs) (sym (take_more images i image l))

pub bytes_left : (images : List Pixmap) (i : ℕ) (image : Pixmap) → i < length images → image ≡ slice_index_or images i image →
    bytes_of_all (drop i images) ≡ ppm_size image.width image.height + bytes_of_all (drop (i + 1) images)
bytes_left images i image l at =
    ap bytes_of_all (drop_more images i image l) ∙ ap (λ (x : Pixmap). bytes_of_all (x ∷ drop (i + 1) images)) (sym at)

-- The greatest picture

pub mul_most : (a b m n : ℕ) → a ≤ m → b ≤ n → a * b ≤ m * n
mul_most zero b m n l k = let none : 0 * b ≡ 0 = grind arith in omega (arith, none)
mul_most (suc a) b zero n l k = absurd (omega arith)
mul_most (suc a) b (suc m) n l k =
    let rest = mul_most a b m n (omega (arith, l)) k in
    let left : suc a * b ≡ b + a * b = grind arith in
    let right : suc m * n ≡ n + m * n = grind arith in
    omega (arith, rest, left, right, k)

pub most_size : (width height : ℕ) → width ≤ 1024 → height ≤ 1024 → ppm_size width height ≤ 4000000
most_size width height l k =
    let long : length (ppm_header width height) ≡ length (decimal width) + length (decimal height) + 9 = grind (arith, common_steps) in
    let across = length-decimal-le_succ width (omega (arith, l)) in
    let down = length-decimal-le_succ height (omega (arith, k)) in
    let pixels = mul_most height width 1024 1024 k l in
    omega (arith, long, across, down, pixels, l, k)

-- Images of one size

both : (a b : Bool) → (a && b) ≡ true → (a ≡ true) × (b ≡ true)
both true b h = (refl, h)
both false b h = absurd (cc)

all_of_size : (lens : Lens) (images : List Pixmap) → list_all (is_of_size lens) images ≡ true → Each (IsOfSize lens) images
all_of_size lens [] all i image at = absurd (cc)
all_of_size lens (x ∷ images) all zero image at =
    let here = both (is_of_size lens x) (list_all (is_of_size lens) images) all in
    let sizes = both (x.width == lens.w) (x.height == lens.h) here.0 in
    subst (IsOfSize lens) (same_Some x image at)
    (record { width = eqb-true x.width lens.w sizes.0; height = eqb-true x.height lens.h sizes.1 })
all_of_size lens (x ∷ images) all (suc i) image at =
    all_of_size lens images (both (is_of_size lens x) (list_all (is_of_size lens) images) all).1 i image at

pub images_for : (lens : Lens) (n : ℕ) (l : LoadState) → is_for lens n l ≡ true → AreImages lens n l.images
images_for lens n l is =
    let parts =
    both (length l.images == n) (list_all (is_of_size lens) l.images)
    (both (length l.lists == n) (length l.images == n && list_all (is_of_size lens) l.images) is).1 in
    record { many = eqb-true (length l.images) n parts.0; sized = all_of_size lens l.images parts.1 }

-- an image of the same size at a place leaves the bytes
pub swapped_bytes : (images : List Pixmap) (i : ℕ) (there image new : Pixmap) → there ≡ slice_index_or images i there →
    have_one_size image there ≡ true → new ≡ image →
    bytes_of_all (slice_set images i new) ≡ bytes_of_all images
swapped_bytes [] i there image new at same is = refl
swapped_bytes (x ∷ images) zero there image new at same is =
    let sizes = both (image.width == there.width) (image.height == there.height) same in
    let width : new.width ≡ x.width = ap (λ (p : Pixmap). p.width) is ∙ eqb-true image.width there.width sizes.0
    ∙ ap (λ (p : Pixmap). p.width) at in
    let height : new.height ≡ x.height = ap (λ (p : Pixmap). p.height) is ∙ eqb-true image.height there.height sizes.1
    ∙ ap (λ (p : Pixmap). p.height) at in
    ap (λ w. ppm_size w new.height + bytes_of_all images) width ∙ ap (λ h. ppm_size x.width h + bytes_of_all images) height
swapped_bytes (x ∷ images) (suc i) there image new at same is =
    ap (λ n. ppm_size x.width x.height + n) (swapped_bytes images i there image new at same is)

-- the bytes of one image alone
pub only_image : (images : List Pixmap) (image : Pixmap) → length images ≡ 1 → image ≡ slice_index_or images 0 image → ppm_bytes image ≡ flat_map ppm_bytes images
only_image [] image one is = absurd (omega (arith, one))
only_image (x ∷ y ∷ rest) image one is = absurd (omega (arith, one))
only_image (x ∷ []) image one is = ap ppm_bytes is ∙ sym (append-nil (ppm_bytes x))
