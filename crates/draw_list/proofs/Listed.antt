-- A table with the list of the places that are set.
use Rattle.std.proofs.Common.{◌≡◌, ◌∙◌, ℕ, zero, suc, ◌+◌, ◌-◌, ◌<◌, ◌≤◌, List, [], ◌∷◌, ◌++◌, length, take, drop, Bool, true, false, cond, ◌||◌, ◌==◌, Option, Some, None, is_some, ap, sym, refl, subst, append-nil, take_all, arith, get_or, set, get_or-set_same, get_or-set_other, length-set, length-append, drop_of_length-le, add-one}
use Rattle.std.specs.Prelude.{count_by, replicate}
use Rattle.std.specs.List.{list_any}
use Rattle.std.proofs.lemmas.Bool.{eqb-true}
use Rattle.std.proofs.lemmas.Bool.Decides.{nat_tests}
use Rattle.std.proofs.lemmas.List.{set-append_left}
use Rattle.std.proofs.lemmas.List.Sums.{sum_by-cons, sum_by-set, count_by-le-length}
use Rattle.std.proofs.lemmas.List.Folds.{list_any-append}
use Rattle.pf_model.proofs.Written.{read_longer, length_longer, whole_longer, count_longer}
use Rattle.draw_list.specs.Listed.{AreListed, IsListedTable, whole_table}

-- ---- tests
same_place : (a b : ℕ) → a ≡ b → (b == a) ≡ true
same_place a b e = grind (arith, nat_tests)

other_place : (a b : ℕ) → (a == b) ≡ false → (b == a) ≡ false
other_place a b e = grind (arith, nat_tests)

differ : (a b : ℕ) → (a == b) ≡ false → a ≡ b → ⊥
differ a b e s = absurd (grind (arith, nat_tests))

or_left : (a b : Bool) → a ≡ true → (a || b) ≡ true
or_left a b e = rw e refl

or_right : (a b : Bool) → b ≡ true → (a || b) ≡ true
or_right true b e = refl
or_right false b e = e

right_of : (a b : Bool) → a ≡ false → (a || b) ≡ true → b ≡ true
right_of true b e h = absurd (cc)
right_of false b e h = h

-- ---- a further place
counted_more : {X : Type 0} (is_set : X → Bool) (unset x : X) (table : List X) (place : ℕ) → place < length table → is_set (get_or table place unset) ≡ false → is_set x ≡ true →
    count_by is_set (set table place x) ≡ count_by is_set table + 1
counted_more is_set unset x table place l none some = by (is_set (get_or table place unset)) (is_set x) none some (sum_by-set (λ y. cond (is_set y) 1 0) table place x unset l)
  where
    by : (a b : Bool) → a ≡ false → b ≡ true → count_by is_set (set table place x) + cond a 1 0 ≡ count_by is_set table + cond b 1 0 → count_by is_set (set table place x) ≡ count_by is_set table + 1
    by true b e f h = absurd (cc)
    by false true e f h = omega (arith, h)
    by false false e f h = absurd (cc)

table_set : {X : Type 0} (is_set : X → Bool) (unset x : X) (table : List X) (width room : ℕ) (places : List ℕ) (place capacity : ℕ) → place < length table → is_set (get_or table place unset) ≡ false → is_set x ≡ true →
    IsListedTable is_set unset table width room places capacity → IsListedTable is_set unset (set table place x) width room (places ++ place ∷ []) capacity
table_set is_set unset x table width room places place capacity l none some t = record {
  entries = record { listed = λ k s. list_any-append (λ p. p == k) places (place ∷ []) ∙ by k (k == place) refl s; below = λ i h. omega (arith, under places i t.entries.below h, length-set table place x) };
  once = omega (arith, length-append places (place ∷ []), t.once, counted_more is_set unset x table place l none some);
  within = omega (arith, length-set table place x, t.within);
  reserved = t.reserved;
  wide = t.wide;
  sized = t.sized;
  roomy = t.roomy;
}
  where
    by : (k : ℕ) (b : Bool) → (k == place) ≡ b → is_set (get_or (set table place x) k unset) ≡ true → (list_any (λ p. p == k) places || (place == k || false)) ≡ true
    by k true e s = or_right (list_any (λ p. p == k) places) (place == k || false) (or_left (place == k) false (same_place k place (eqb-true k place e)))
    by k false e s =
        or_left (list_any (λ p. p == k) places) (place == k || false)
        (t.entries.listed k (ap is_set (sym (get_or-set_other table place k x unset (differ k place e))) ∙ s))

    under : (ps : List ℕ) (i : ℕ) → ((j : ℕ) → j < length ps → get_or ps j 0 < length table) → i < length (ps ++ place ∷ []) → get_or (ps ++ place ∷ []) i 0 < length table
    under [] zero h m = l
    under [] (suc i) h m = absurd (omega (arith, m))
    under (p ∷ ps) zero h m = h 0 (omega arith)
    under (p ∷ ps) (suc i) h m = under ps i (λ j n. h (suc j) (omega (arith, n))) (omega (arith, m))

pub added : {X : Type 0} (is_set : X → Bool) (unset x : X) (table : List X) (width room : ℕ) (places longer : List ℕ) (place capacity more : ℕ) → place < length table → is_set (get_or table place unset) ≡ false → is_set x ≡ true →
    longer ≡ places ++ place ∷ [] → more ≡ capacity → IsListedTable is_set unset table width room places capacity → IsListedTable is_set unset (set table place x) width room longer more
added is_set unset x table width room places longer place capacity more l none some are same t =
    subst (λ (qs : List ℕ). IsListedTable is_set unset (set table place x) width room qs more) (sym are)
    (subst (λ (n : ℕ). IsListedTable is_set unset (set table place x) width room (places ++ place ∷ []) n) (sym same) (table_set is_set unset x table width room places place capacity l none some t))

-- ---- all places taken back
pub record IsTakenBack {X : Type 0} (is_set : X → Bool) (unset : X) (was : List X) (places : List ℕ) (done : ℕ) (table : List X) : Type 0 where
  pub same_length : length table ≡ length was
  pub left : (k : ℕ) → is_set (get_or table k unset) ≡ true → list_any (λ p. p == k) (drop done places) ≡ true

pub back_none : {X : Type 0} (is_set : X → Bool) (unset : X) (was : List X) (places : List ℕ) → AreListed is_set unset was places → IsTakenBack is_set unset was places 0 was
back_none is_set unset was places h = record { same_length = refl; left = h.listed }

any_next : (places : List ℕ) (i k : ℕ) → i < length places → list_any (λ p. p == k) (drop i places) ≡ (get_or places i 0 == k || list_any (λ p. p == k) (drop (suc i) places))
any_next [] i k l = absurd (omega arith)
any_next (p ∷ ps) zero k l = refl
any_next (p ∷ ps) (suc i) k l = any_next ps i k (omega arith)

pub back_more : {X : Type 0} (is_set : X → Bool) (unset : X) (was : List X) (places : List ℕ) (done : ℕ) (table : List X) → is_set unset ≡ false → done < length places → get_or places done 0 < length table →
    IsTakenBack is_set unset was places done table → IsTakenBack is_set unset was places (done + 1) (set table (get_or places done 0) unset)
back_more is_set unset was places done table off l within h = record {
  same_length = length-set table (get_or places done 0) unset ∙ h.same_length;
  left = λ k s. ap (λ n. list_any (λ p. p == k) (drop n places)) (add-one done) ∙ by k (k == get_or places done 0) refl s;
}
  where
    at : ℕ
    at = get_or places done 0

    by : (k : ℕ) (b : Bool) → (k == get_or places done 0) ≡ b → is_set (get_or (set table (get_or places done 0) unset) k unset) ≡ true → list_any (λ p. p == k) (drop (suc done) places) ≡ true
    by k true e s =
        let same : k ≡ get_or places done 0 = eqb-true k (get_or places done 0) e in
        let gone : is_set (get_or (set table (get_or places done 0) unset) k unset) ≡ false =
        ap (λ j. is_set (get_or (set table (get_or places done 0) unset) j unset)) same ∙ ap is_set (get_or-set_same table (get_or places done 0) unset unset within) ∙ off in
        absurd (cc)
    by k false e s =
        right_of (get_or places done 0 == k) (list_any (λ p. p == k) (drop (suc done) places)) (other_place k (get_or places done 0) e)
        (sym (any_next places done k l) ∙ h.left k (ap is_set (sym (get_or-set_other table (get_or places done 0) k unset unset (differ k (get_or places done 0) e))) ∙ s))

pub back_all : {X : Type 0} (is_set : X → Bool) (unset : X) (was : List X) (places : List ℕ) (done : ℕ) (table : List X) → length places ≤ done → IsTakenBack is_set unset was places done table → (k : ℕ) → is_set (get_or table k unset) ≡ false
back_all is_set unset was places done table l h k = by (is_set (get_or table k unset)) refl
  where
    by : (b : Bool) → is_set (get_or table k unset) ≡ b → b ≡ false
    by true e =
        let none : list_any (λ p. p == k) (drop done places) ≡ false = ap (list_any (λ p. p == k)) (drop_of_length-le places l) in
        let some : list_any (λ p. p == k) (drop done places) ≡ true = h.left k e in
        absurd (cc)
    by false e = refl

-- what stands in a vector whose slice was changed
pub slice_back : {X : Type 0} (was now : List X) (n : ℕ) → n ≡ length was → length now ≡ length was → take n (now ++ drop (length now) was) ≡ now
slice_back {X} was now n e l =
    ap (λ (xs : List X). take n (now ++ xs)) (drop_of_length-le was (omega (arith, l))) ∙ ap (take n) (append-nil now) ∙ take_all n now (omega (arith, e, l))

pub none_of : {X : Type 0} (o : Option X) → is_some o ≡ false → o ≡ None
none_of None h = refl
none_of (Some x) h = absurd (cc)

abbrev uncounted : Bool → Type 0
uncounted b = cond {A = ℕ} b 1 0 ≡ 0

not_counted : (b : Bool) → b ≡ false → uncounted b
not_counted true h = absurd (cc)
not_counted false h = refl

counted_none : {X : Type 0} (is_set : X → Bool) (unset : X) (table : List X) → ((k : ℕ) → is_set (get_or table k unset) ≡ false) → count_by is_set table ≡ 0
counted_none is_set unset [] none = refl
counted_none is_set unset (x ∷ xs) none =
    let off : uncounted (is_set x) = not_counted (is_set x) (none 0) in
    omega (arith, sum_by-cons (λ y. cond (is_set y) 1 0) x xs, off, counted_none is_set unset xs (λ k. none (suc k)))

table_cleared : {X : Type 0} (is_set : X → Bool) (unset : X) (was table : List X) (width room : ℕ) (places : List ℕ) (capacity : ℕ) → length table ≡ length was → ((k : ℕ) → is_set (get_or table k unset) ≡ false) →
    IsListedTable is_set unset was width room places capacity → IsListedTable is_set unset table width room [] capacity
table_cleared is_set unset was table width room places capacity same none t = record {
  entries = record { listed = λ k s. absurd (let off : is_set (get_or table k unset) ≡ false = none k in cc); below = λ i h. absurd (omega (arith, h)) };
  once = sym (counted_none is_set unset table none);
  within = omega (arith, same, t.within);
  reserved = t.reserved;
  wide = t.wide;
  sized = t.sized;
  roomy = t.roomy;
}

table_roomier : {X : Type 0} (is_set : X → Bool) (unset : X) (table : List X) (width room : ℕ) (places : List ℕ) (capacity more : ℕ) → capacity ≤ more → IsListedTable is_set unset table width room places capacity → IsListedTable is_set unset table width room places more
table_roomier is_set unset table width room places capacity more l t = record {
  entries = t.entries;
  once = t.once;
  within = t.within;
  reserved = t.reserved;
  wide = t.wide;
  sized = t.sized;
  roomy = λ h. let memory : 65536 ≤ capacity = t.roomy h in omega (arith, memory, l);
}

pub cleared : {X : Type 0} (is_set : X → Bool) (unset : X) (was table : List X) (width room : ℕ) (places none_left : List ℕ) (capacity more : ℕ) → length table ≡ length was → ((k : ℕ) → is_set (get_or table k unset) ≡ false) →
    none_left ≡ [] → capacity ≤ more → IsListedTable is_set unset was width room places capacity → IsListedTable is_set unset table width room none_left more
cleared is_set unset was table width room places none_left capacity more same none empty l t =
    subst (λ (qs : List ℕ). IsListedTable is_set unset table width room qs more) (sym empty)
    (table_roomier is_set unset table width room [] capacity more l (table_cleared is_set unset was table width room places capacity same none t))

pub all_unset : (marks : List Bool) (n : ℕ) → length marks ≡ n → ((k : ℕ) → get_or marks k false ≡ false) → marks ≡ replicate n false
all_unset [] zero e h = refl
all_unset [] (suc n) e h = absurd (omega (arith, e))
all_unset (m ∷ ms) zero e h = absurd (omega (arith, e))
all_unset (m ∷ ms) (suc n) e h = λ i. h 0 i ∷ all_unset ms n (omega (arith, e)) (λ k. h (suc k)) i

-- a mark that is there already
pub set_again : (marks : List Bool) (place : ℕ) → get_or marks place false ≡ true → set marks place true ≡ marks
set_again [] place h = refl
set_again (m ∷ ms) zero h = ap (λ b. b ∷ ms) (sym h)
set_again (m ∷ ms) (suc place) h = ap (λ bs. m ∷ bs) (set_again ms place h)

-- ---- entries that are written, and those that are not
pub whole_length : {X : Type 0} (unset : X) (written : List X) (width : ℕ) → length written ≤ width → length (whole_table unset written width) ≡ width
whole_length unset written width l = omega (arith, l, length_longer unset written (width - length written))

pub whole_read : {X : Type 0} (unset : X) (written : List X) (width k : ℕ) → get_or (whole_table unset written width) k unset ≡ get_or written k unset
whole_read unset written width k = read_longer unset written (width - length written) k

pub whole_set : {X : Type 0} (unset x : X) (written : List X) (width place : ℕ) → place < length written → whole_table unset (set written place x) width ≡ set (whole_table unset written width) place x
whole_set {X} unset x written width place l =
    ap (λ (n : ℕ). set written place x ++ replicate (width - n) unset) (length-set written place x) ∙ sym (set-append_left written (replicate (width - length written) unset) place x l)

pub whole_count : {X : Type 0} (is_set : X → Bool) (unset : X) (written : List X) (width : ℕ) → is_set unset ≡ false → count_by is_set (whole_table unset written width) ≡ count_by is_set written
whole_count is_set unset written width off = count_longer is_set unset written (width - length written) off

pub table_longer : {X : Type 0} (is_set : X → Bool) (unset : X) (written longer : List X) (n width room more_room : ℕ) (places : List ℕ) (capacity : ℕ) → is_set unset ≡ false →
    longer ≡ written ++ replicate n unset → length written + n ≤ width → room ≤ more_room → IsListedTable is_set unset written width room places capacity → IsListedTable is_set unset longer width more_room places capacity
table_longer {X} is_set unset written longer n width room more_room places capacity off are l r t =
    subst (λ (ws : List X). IsListedTable is_set unset ws width more_room places capacity) (sym are) (record {
      entries = record { listed = λ k s. t.entries.listed k (ap is_set (sym (read_longer unset written n k)) ∙ s); below = λ i h. omega (arith, t.entries.below i h, many) };
      once = t.once ∙ sym (count_longer is_set unset written n off);
      within = omega (arith, many, l);
      reserved = omega (arith, t.reserved, r);
      wide = t.wide;
      sized = t.sized;
      roomy = t.roomy;
    })
  where
    many : length (written ++ replicate n unset) ≡ length written + n
    many = length_longer unset written n

-- there is memory for a place that is not set yet
pub room_left : {X : Type 0} (is_set : X → Bool) (unset x : X) (whole written : List X) (width room : ℕ) (places : List ℕ) (place capacity : ℕ) → is_set unset ≡ false → is_set x ≡ true → whole_table unset written width ≡ whole →
    place < length whole → is_set (get_or whole place unset) ≡ false → IsListedTable is_set unset written width room places capacity → length places < capacity
room_left is_set unset x whole written width room places place capacity off some is l none t =
    let wide : length whole ≡ width = ap length (sym is) ∙ whole_length unset written width t.within in
    let count : count_by is_set whole ≡ length places = ap (count_by is_set) (sym is) ∙ whole_count is_set unset written width off ∙ sym t.once in
    let more : count_by is_set (set whole place x) ≡ count_by is_set whole + 1 = counted_more is_set unset x whole place l none some in
    let few : count_by is_set (set whole place x) ≤ length (set whole place x) = count_by-le-length is_set (set whole place x) in
    let memory : 65536 ≤ capacity = t.roomy (omega (arith, l, wide)) in
    omega (arith, more, few, count, memory, wide, length-set whole place x, t.wide)

-- what stands once entries are written up to a place, of the same whole table
pub record IsWrittenTo {X : Type 0} (is_set : X → Bool) (unset : X) (whole written : List X) (place width room : ℕ) (places : List ℕ) (capacity : ℕ) : Type 0 where
  pub table : IsListedTable is_set unset written width room places capacity
  pub within : place < length written
  pub same : whole_table unset written width ≡ whole

pub written_to : {X : Type 0} (is_set : X → Bool) (unset : X) (whole written longer : List X) (place n width room more : ℕ) (places : List ℕ) (capacity : ℕ) → is_set unset ≡ false → whole_table unset written width ≡ whole → place < length whole →
    n ≡ place + 1 - length written → longer ≡ written ++ replicate n unset → room ≤ more → IsListedTable is_set unset written width room places capacity → IsWrittenTo is_set unset whole longer place width more places capacity
written_to {X} is_set unset whole written longer place n width room more places capacity off is l count are r t = record {
  table = table_longer is_set unset written longer n width room more places capacity off are fits r t;
  within = omega (arith, count, ap length are, length_longer unset written n);
  same = ap (λ (ws : List X). whole_table unset ws width) are ∙ whole_longer unset written n width fits ∙ is;
}
  where
    fits : length written + n ≤ width
    fits = omega (arith, count, l, ap length is, whole_length unset written width t.within, t.within)

-- an entry of such a table is that of the whole one
pub read_written : {X : Type 0} (is_set : X → Bool) (unset : X) (whole written : List X) (place width room : ℕ) (places : List ℕ) (capacity k : ℕ) → IsWrittenTo is_set unset whole written place width room places capacity → get_or written k unset ≡ get_or whole k unset
read_written {X} is_set unset whole written place width room places capacity k t = sym (whole_read unset written width k) ∙ ap (λ (ws : List X). get_or ws k unset) t.same

pub set_written : {X : Type 0} (is_set : X → Bool) (unset x : X) (whole written : List X) (place width room : ℕ) (places : List ℕ) (capacity : ℕ) → IsWrittenTo is_set unset whole written place width room places capacity →
    whole_table unset (set written place x) width ≡ set whole place x
set_written {X} is_set unset x whole written place width room places capacity t = whole_set unset x written width place t.within ∙ ap (λ (ws : List X). set ws place x) t.same

-- memory for all
pub table_reserved : {X : Type 0} (is_set : X → Bool) (unset : X) (written same : List X) (width room more_room : ℕ) (places : List ℕ) (capacity more : ℕ) → same ≡ written → 65536 ≤ more_room → 65536 ≤ more →
    IsListedTable is_set unset written width room places capacity → IsListedTable is_set unset same 65536 more_room places more
table_reserved {X} is_set unset written same width room more_room places capacity more are r m t =
    subst (λ (ws : List X). IsListedTable is_set unset ws 65536 more_room places more) (sym are) (record {
      entries = t.entries;
      once = t.once;
      within = omega (arith, t.within, t.wide);
      reserved = r;
      wide = omega arith;
      sized = λ h. refl;
      roomy = λ h. m;
    })

pub few_places : {X : Type 0} (is_set : X → Bool) (unset : X) (written : List X) (width room : ℕ) (places : List ℕ) (capacity : ℕ) → IsListedTable is_set unset written width room places capacity → length places ≤ 65536
few_places is_set unset written width room places capacity t = omega (arith, t.once, count_by-le-length is_set written, t.within, t.wide)
