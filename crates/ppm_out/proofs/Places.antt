-- Where pixels lie, and what a write to one leaves.
use Rattle.std.proofs.Common.{◌≡◌, ℕ, ◌+◌, ◌*◌, ◌<◌, ◌≤◌, ◌≢◌, List, [], ◌∷◌, refl, ap, ◌∙◌, arith, length, set, length-set, get_or, get_or-set_same, get_or-set_other}
use Rattle.std.proofs.lemmas.Nat.{same_from_place, mul-add-lt}
use Rattle.ppm_out.specs.Pixmap.{place_of, SetsPixel}

-- lists of three are equal where their elements are
pub three : (x y z a b c : ℕ) → x ≡ a → y ≡ b → z ≡ c → x ∷ y ∷ z ∷ [] ≡ a ∷ b ∷ c ∷ []
three x y z a b c first second third =
    ap (λ h. h ∷ y ∷ z ∷ []) first ∙ ap (λ h. a ∷ h ∷ z ∷ []) second ∙ ap (λ h. a ∷ b ∷ h ∷ []) third

first_of_three : (p red green blue : ℕ) (bytes : List ℕ) → p + 3 ≤ length bytes
    → get_or (set (set (set bytes p red) (p + 1) green) (p + 2) blue) p 0 ≡ red
first_of_three p red green blue bytes within =
    let third : p ≢ p + 2 = omega arith in
    let second : p ≢ p + 1 = omega arith in
    let here : p < length bytes = omega (arith, within) in
    get_or-set_other (set (set bytes p red) (p + 1) green) (p + 2) p blue 0 third
    ∙ get_or-set_other (set bytes p red) (p + 1) p green 0 second
    ∙ get_or-set_same bytes p red 0 here

second_of_three : (p red green blue : ℕ) (bytes : List ℕ) → p + 3 ≤ length bytes
    → get_or (set (set (set bytes p red) (p + 1) green) (p + 2) blue) (p + 1) 0 ≡ green
second_of_three p red green blue bytes within =
    let third : p + 1 ≢ p + 2 = omega arith in
    let here : p + 1 < length (set bytes p red) = rw length-set (omega (arith, within)) in
    get_or-set_other (set (set bytes p red) (p + 1) green) (p + 2) (p + 1) blue 0 third
    ∙ get_or-set_same (set bytes p red) (p + 1) green 0 here

third_of_three : (p red green blue : ℕ) (bytes : List ℕ) → p + 3 ≤ length bytes
    → get_or (set (set (set bytes p red) (p + 1) green) (p + 2) blue) (p + 2) 0 ≡ blue
third_of_three p red green blue bytes within =
    let here : p + 2 < length (set (set bytes p red) (p + 1) green) =
    rw (length-set, length-set) (omega (arith, within)) in
    get_or-set_same (set (set bytes p red) (p + 1) green) (p + 2) blue 0 here

elsewhere : (p j red green blue : ℕ) (bytes : List ℕ) → (j ≢ p) × (j ≢ p + 1) × (j ≢ p + 2)
    → get_or (set (set (set bytes p red) (p + 1) green) (p + 2) blue) j 0 ≡ get_or bytes j 0
elsewhere p j red green blue bytes apart =
    get_or-set_other (set (set bytes p red) (p + 1) green) (p + 2) j blue 0 apart.2
    ∙ get_or-set_other (set bytes p red) (p + 1) j green 0 apart.1
    ∙ get_or-set_other bytes p j red 0 apart.0

-- a byte of another pixel lies elsewhere
apart_by_three : (m n k j : ℕ) → n ≢ m → k < 3 → j ≡ 3 * n + k
    → (j ≢ 3 * m) × (j ≢ 3 * m + 1) × (j ≢ 3 * m + 2)
apart_by_three m n k j apart few is = (
  λ e. apart (omega (arith, e, few, is)),
  λ e. apart (omega (arith, e, few, is)),
  λ e. apart (omega (arith, e, few, is)),
)

-- three bytes written where a pixel lies are that pixel's, and no other's
pub sets_pixel : (width height px py red green blue : ℕ) (bytes : List ℕ)
    → px < width → py < height → length bytes ≡ 3 * (height * width)
    → SetsPixel (record { width = width; height = height; bytes = bytes })
    (record {
      width = width;
      height = height;
      bytes =
          set (set (set bytes (place_of width px py) red) (place_of width px py + 1) green) (place_of width px py + 2) blue;
    })
    px py (red ∷ green ∷ blue ∷ [])
sets_pixel width height px py red green blue bytes across below whole =
    let p = place_of width px py in
    let inside = mul-add-lt py width px height below across in
    let within : p + 3 ≤ length bytes = grind (arith, inside, whole) in
    record {
      width = refl;
      height = refl;
      coloured = three _ _ _ _ _ _ (first_of_three p red green blue bytes within)
          (second_of_three p red green blue bytes within) (third_of_three p red green blue bytes within);
      others = λ qx qy q r differ.
          let apart : qy * width + qx ≢ py * width + px =
          λ same. let both = same_from_place qy qx py px width q across same in differ both.1 both.0 in
          let n = qy * width + qx in
          let other : (j k : ℕ) → j ≡ place_of width qx qy + k → k < 3
          → get_or (set (set (set bytes p red) (p + 1) green) (p + 2) blue) j 0 ≡ get_or bytes j 0 =
          λ j k at few. elsewhere p j red green blue bytes (apart_by_three (py * width + px) n k j apart few at) in
          three _ _ _ _ _ _
          (other _ 0 (omega arith) (omega arith)) (other _ 1 refl (omega arith)) (other _ 2 refl (omega arith));
    }
