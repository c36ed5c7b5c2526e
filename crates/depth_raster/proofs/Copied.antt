-- What a copy of the colours of a row into the bytes of rows leaves.
use Rattle.std.proofs.Common.{◌≡◌, ℕ, zero, suc, ◌+◌, ◌*◌, ◌-◌, ◌<◌, ◌≤◌, List, [], ◌∷◌, refl, sym, ap, ◌∙◌, arith, rules, length, length-append, take, get_or, ⊎_elim}
use Rattle.std.specs.List.{flat_map}
use Rattle.std.proofs.lemmas.Bool.{cases_lt}
use Rattle.std.proofs.lemmas.List.{places}
use Rattle.std.proofs.lemmas.List.Concat.{get_or-flat_map}
use Rattle.std.proofs.lemmas.Nat.{same_from_place}
use borrow.Rule.Slice.PartMut.{put_mid}
use Rattle.ppm_out.specs.Pixmap.{place_of, pixel_in}
use Rattle.ppm_out.proofs.Pictures.{colour_of_three}
use Rattle.depth_raster.specs.Shown.{SetsRow}

-- lists of three are equal where their elements are
pub three : (x y z a b c : ℕ) → x ≡ a → y ≡ b → z ≡ c → x ∷ y ∷ z ∷ [] ≡ a ∷ b ∷ c ∷ []
three x y z a b c first second third =
    ap (λ h. h ∷ y ∷ z ∷ []) first ∙ ap (λ h. a ∷ h ∷ z ∷ []) second ∙ ap (λ h. a ∷ b ∷ h ∷ []) third

-- the bytes of the first i colours
length_of_front : (colours : List (List ℕ)) (i : ℕ) → ((j : ℕ) → j < length colours → length (get_or colours j []) ≡ 3)
    → i ≤ length colours → length (flat_map (λ c. c) (take i colours)) ≡ 3 * i
length_of_front colours zero each within = refl
length_of_front [] (suc i) each within = absurd (omega (arith, within))
length_of_front (c ∷ colours) (suc i) each within =
    let first : length c ≡ 3 = each 0 (omega arith) in
    let rest : length (flat_map (λ c. c) (take i colours)) ≡ 3 * i =
    length_of_front colours i (λ j below. each (suc j) (omega (arith, below))) (omega (arith, within)) in
    length-append c (flat_map (λ c. c) (take i colours)) ∙ omega (arith, first, rest)

-- the k-th byte of the i-th colour
byte_of : (colours : List (List ℕ)) (i k : ℕ) → ((j : ℕ) → j < length colours → length (get_or colours j []) ≡ 3)
    → i < length colours → k < 3
    → get_or (flat_map (λ c. c) colours) (3 * i + k) 0 ≡ get_or (get_or colours i []) k 0
byte_of colours i k each below few =
    let long = each i below in
    let front = length_of_front colours i each (omega (arith, below)) in
    ap (λ n. get_or (flat_map (λ c. c) colours) (n + k) 0) (sym front)
    ∙ get_or-flat_map (λ c. c) colours i k [] 0 below (omega (arith, long, few))

-- bytes in front of a part that was written, in it, and behind it
in_front : (a k i : ℕ) (xs ys : List ℕ) → i < a → a ≤ length xs → get_or (put_mid a k xs ys) i 0 ≡ get_or xs i 0
in_front a k i xs ys before within = search (rules, places)

inside : (a k i : ℕ) (xs ys : List ℕ) → i < k → a + k ≤ length xs → length ys ≡ k
    → get_or (put_mid a k xs ys) (a + i) 0 ≡ get_or ys i 0
inside a k i xs ys before within long = search (rules, places)

behind : (a k i : ℕ) (xs ys : List ℕ) → k ≤ i → a + k ≤ length xs → length ys ≡ k
    → get_or (put_mid a k xs ys) (a + i) 0 ≡ get_or xs (a + i) 0
behind a k i xs ys past within long = search (rules, places)

-- a copy of the colours from a pixel of a row on gives them to its pixels
pub row_copied : (width left row : ℕ) (bytes flat : List ℕ) (colours : List (List ℕ)) (k : ℕ)
    → 3 * (row * width + left) + k ≤ length bytes → left + length colours ≤ width
    → ((j : ℕ) → j < length colours → length (get_or colours j []) ≡ 3)
    → flat ≡ flat_map (λ c. c) colours → length flat ≡ length colours * 3 → k ≡ length flat
    → SetsRow width bytes (put_mid (3 * (row * width + left)) k bytes flat) left row colours
row_copied width left row bytes flat colours k within columns each is long count =
    let start = row * width + left in
    let a = 3 * start in
    let new = put_mid a k bytes flat in
    record {
      coloured = λ q here.
          let byte : (j n : ℕ) → j ≡ place_of width (left + q) row + n → n < 3
          → get_or new j 0 ≡ get_or (get_or colours q []) n 0 =
          λ j n at few. ap (λ b. get_or new b 0) (at ∙ omega arith)
          ∙ inside a k (3 * q + n) bytes flat (omega (arith, here, long, count, few)) within (sym count)
          ∙ ap (λ bs. get_or bs (3 * q + n) 0) is ∙ byte_of colours q n each here few in
          three _ _ _ _ _ _
          (byte _ 0 (omega arith) (omega arith)) (byte _ 1 refl (omega arith)) (byte _ 2 refl (omega arith))
          ∙ sym (colour_of_three (get_or colours q []) (each q here));
      others = λ px py across apart.
          let n = py * width + px in
          let same : ((j : ℕ) → 3 * n ≤ j → j < 3 * n + 3 → get_or new j 0 ≡ get_or bytes j 0) → pixel_in new width px py ≡ pixel_in bytes width px py =
          λ each_byte. three _ _ _ _ _ _ (each_byte _ (omega arith) (omega arith)) (each_byte _ (omega arith) (omega arith)) (each_byte _ (omega arith) (omega arith)) in
          ⊎_elim
          (λ before. same (λ j low high. in_front a k j bytes flat (omega (arith, high, before)) (omega (arith, within))))
          (λ from. ⊎_elim
          (λ in_row. absurd (
          let both = same_from_place py px row (left + (n - start)) width across (omega (arith, in_row, from, columns)) (omega (arith, from)) in
          apart both.0 (omega (arith, both.1)) (omega (arith, both.1, in_row, from))))
          (λ past. same (λ j low high.
          let at : j ≡ a + (j - a) = omega (arith, low, from) in
          ap (λ b. get_or new b 0) at
          ∙ behind a k (j - a) bytes flat (omega (arith, low, past, long, count)) within (sym count)
          ∙ ap (λ b. get_or bytes b 0) (sym at)))
          (cases_lt n (start + length colours)))
          (cases_lt n start);
    }
