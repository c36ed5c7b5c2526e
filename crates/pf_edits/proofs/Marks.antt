-- Marks that tell which ids are listed.
use Rattle.std.proofs.Common.{◌≡◌, ◌≢◌, ℕ, suc, zero-add, ◌+◌, ◌-◌, ◌<◌, ◌≤◌, Bool, true, false, cond, ◌||◌, ◌==◌, ◌⊎◌, inl, inr, List, [], ◌∷◌, ◌++◌, length, get_or, set, drop, replicate, reverse, refl, sym, ◌∙◌, ap, subst, arith}
use Rattle.std.specs.List.{count_by}
use Rattle.std.proofs.lemmas.List.{get_or-set_same, get_or-set_other, length-set, length-append, reverse-append, drop_more, drop_all}
use Rattle.std.proofs.Math.ListN.{get_or-eq_default}
use Rattle.std.proofs.lemmas.List.Sums.{sum_by-set, sum_by-cons, count_by-le-length}
use Rattle.std.proofs.lemmas.List.Folds.{list_any-append, list_any_at}
use Rattle.std.proofs.lemmas.Bool.{cases_lt}
use Rattle.std.proofs.lemmas.Bool.Decides.{eqb_tells, nat_tests}
use Rattle.pf_model.proofs.Written.{length_written, same_read, count_longer}
use Rattle.pf_edits.specs.Ways.{is_in, IsEachOnce, IsMarked}

-- one more listed
pub listed_more : (ids : List ℕ) (id : ℕ) → reverse (ids ++ id ∷ []) ≡ id ∷ reverse ids
listed_more ids id = reverse-append ids (id ∷ [])

count_marked : (marks : List Bool) (id : ℕ) → id < length marks → get_or marks id false ≡ false → count_by (λ m. m) (set marks id true) ≡ count_by (λ m. m) marks + 1
count_marked marks id h free =
    let e : count_by (λ m. m) (set marks id true) + cond (get_or marks id false) 1 0 ≡ count_by (λ m. m) marks + 1 = sum_by-set (λ (m : Bool). cond m 1 0) marks id true false h in
    let f : count_by (λ m. m) (set marks id true) + 0 ≡ count_by (λ m. m) marks + 1 =
    subst (λ (t : Bool). count_by (λ m. m) (set marks id true) + cond t 1 0 ≡ count_by (λ m. m) marks + 1) free e in
    omega (arith, f)

-- where none is set, none is counted
no_count : (marks : List Bool) → ((b : ℕ) → get_or marks b false ≡ false) → count_by (λ m. m) marks ≡ 0
no_count [] none = refl
no_count (x ∷ xs) none =
    sum_by-cons (λ (m : Bool). cond m 1 0) x xs
    ∙ ap (λ t. cond t 1 0 + count_by (λ m. m) xs) (none 0) ∙ zero-add (count_by (λ m. m) xs) ∙ no_count xs (λ b. none (suc b))

-- marks that are not set and are written up to a place tell nothing
pub marked_longer : (marks longer : List Bool) (place : ℕ) → longer ≡ marks ++ replicate (place + 1 - length marks) false → (ids : List ℕ) (capacity other room : ℕ)
    → IsMarked marks ids capacity room → place < 65536 → 65536 ≤ other → IsMarked longer ids other room
marked_longer marks longer place written ids capacity other room marked within reserved = record {
  few = let f : length marks ≤ 65536 = marked.few in omega (arith, f, length_written false marks longer place written, within);
  reserved = reserved;
  told = λ b. same_read false marks longer place written b ∙ marked.told b;
  counted = ap (λ (ms : List Bool). count_by (λ m. m) ms) written ∙ count_longer (λ m. m) false marks (place + 1 - length marks) refl ∙ marked.counted;
  roomy = marked.roomy;
  once = marked.once;
}

-- One more mark

module _ (marks : List Bool) (ids : List ℕ) (capacity room id : ℕ) (marked : IsMarked marks ids capacity room) (inside : id < length marks) (free : is_in id (reverse ids) ≡ false) where
  counted : count_by (λ m. m) (set marks id true) ≡ length ids + 1
  counted = count_marked marks id inside (marked.told id ∙ free) ∙ ap (λ n. n + 1) marked.counted

  -- one more has room
  pub has_room : length ids < room
  has_room =
      let l : count_by (λ m. m) (set marks id true) ≤ length (set marks id true) = count_by-le-length (λ m. m) (set marks id true) in
      let w : length (set marks id true) ≡ length marks = length-set marks id true in
      let f : length marks ≤ 65536 = marked.few in
      let c : count_by (λ m. m) (set marks id true) ≡ length ids + 1 = counted in
      let r : 65536 ≤ room = marked.roomy in
      omega arith

  pub marked_more : (other : ℕ) → 65536 ≤ other → IsMarked (set marks id true) (ids ++ id ∷ []) capacity other
  marked_more other roomy = record {
    few = subst (λ (n : ℕ). n ≤ 65536) (sym (length-set marks id true)) marked.few;
    reserved = marked.reserved;
    told = λ b. told b (eqb_tells b id) ∙ sym (ap (is_in b) (listed_more ids id));
    counted = counted ∙ sym (length-append ids (id ∷ []));
    roomy = roomy;
    once = subst IsEachOnce (sym (listed_more ids id)) (free, marked.once);
  }
    where
      told : (b : ℕ) → (((b == id) ≡ true) × (b ≡ id)) ⊎ (((b == id) ≡ false) × (b ≢ id)) → get_or (set marks id true) b false ≡ is_in b (id ∷ reverse ids)
      told b (inl same) =
          subst (λ (x : ℕ). get_or (set marks id true) x false ≡ true) (sym same.1) (get_or-set_same marks id true false inside)
          ∙ sym (ap (λ t. t || is_in b (reverse ids)) (turned b id ∙ same.0))
        where
          turned : (p q : ℕ) → (q == p) ≡ (p == q)
          turned p q = grind (arith, nat_tests)
      told b (inr other) =
          get_or-set_other marks id b true false other.1 ∙ marked.told b
          ∙ sym (ap (λ t. t || is_in b (reverse ids)) (turned b id ∙ other.0))
        where
          turned : (p q : ℕ) → (q == p) ≡ (p == q)
          turned p q = grind (arith, nat_tests)

-- No marks

pub unmarked : (marks : List Bool) (capacity room : ℕ) → length marks ≤ 65536 → ((b : ℕ) → get_or marks b false ≡ false) → 65536 ≤ capacity → 65536 ≤ room → IsMarked marks [] capacity room
unmarked marks capacity room few none reserved roomy = record { few = few; reserved = reserved; told = none; counted = no_count marks none; roomy = roomy; once = tt }

-- what is listed is listed in any order
pub in_reverse : (b : ℕ) (ids : List ℕ) → is_in b (reverse ids) ≡ is_in b ids
in_reverse b [] = refl
in_reverse b (x ∷ xs) =
    ap (is_in b) (reverse-append (x ∷ []) xs)
    ∙ list_any-append (λ other. other == b) (reverse xs) (x ∷ [])
    ∙ ap (λ t. t || (x == b || false)) (in_reverse b xs)
    ∙ turned (is_in b xs) (x == b)
  where
    turned : (p q : Bool) → (p || (q || false)) ≡ (q || p)
    turned true true = refl
    turned true false = refl
    turned false true = refl
    turned false false = refl

-- each item of a list is in it
pub listed_in : (ids : List ℕ) (i d : ℕ) → i < length ids → is_in (get_or ids i d) ids ≡ true
listed_in ids i d h = list_any_at (λ other. other == get_or ids i d) ids i d h (same (get_or ids i d))
  where
    same : (n : ℕ) → (n == n) ≡ true
    same n = grind (arith, nat_tests)

-- what is listed has a mark
pub has_mark : (marks : List Bool) (ids : List ℕ) (capacity room b : ℕ) → IsMarked marks ids capacity room → is_in b ids ≡ true → b < length marks
has_mark marks ids capacity room b marked listed = by (cases_lt b (length marks))
  where
    by : (b < length marks) ⊎ (length marks ≤ b) → b < length marks
    by (inl h) = h
    by (inr h) = absurd (let e : false ≡ true = sym (get_or-eq_default marks false h) ∙ marked.told b ∙ in_reverse b ids ∙ listed in cc)

-- a mark less
pub unmark_step : (marks : List Bool) (ids : List ℕ) (i id : ℕ) → i < length ids → get_or ids i id ≡ id → id < length marks
    → ((b : ℕ) → get_or marks b false ≡ true → is_in b (drop i ids) ≡ true)
    → (b : ℕ) → get_or (set marks id false) b false ≡ true → is_in b (drop (i + 1) ids) ≡ true
unmark_step marks ids i id h at within left b marked = by (eqb_tells b id)
  where
    turned : (p q : ℕ) → (p == q) ≡ false → (q == p) ≡ false
    turned p q e = grind (arith, nat_tests)

    by : (((b == id) ≡ true) × (b ≡ id)) ⊎ (((b == id) ≡ false) × (b ≢ id)) → is_in b (drop (i + 1) ids) ≡ true
    by (inl same) =
        absurd (let e : true ≡ false = sym marked ∙ subst (λ (x : ℕ). get_or (set marks id false) x false ≡ false) (sym same.1) (get_or-set_same marks id false false within) in cc)
    by (inr other) =
        let m : is_in b (drop i ids) ≡ true = left b (sym (get_or-set_other marks id b false false other.1) ∙ marked) in
        sym (ap (λ t. t || is_in b (drop (i + 1) ids)) (turned b id other.0))
        ∙ sym (ap (is_in b) (drop_more ids i id h ∙ ap (λ x. x ∷ drop (i + 1) ids) at)) ∙ m

-- all marks gone
pub unmark_end : (marks : List Bool) (ids : List ℕ) (i : ℕ) → length ids ≤ i
    → ((b : ℕ) → get_or marks b false ≡ true → is_in b (drop i ids) ≡ true) → (b : ℕ) → get_or marks b false ≡ false
unmark_end marks ids i h left b = by (get_or marks b false) refl
  where
    by : (t : Bool) → get_or marks b false ≡ t → t ≡ false
    by false e = refl
    by true e = absurd (let k : true ≡ false = sym (left b e) ∙ ap (is_in b) (drop_all i ids h) in cc)
