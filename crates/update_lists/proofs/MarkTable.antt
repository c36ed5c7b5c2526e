-- What marks keep.
use Rattle.std.proofs.Common.{◌≡◌, ℕ, ◌+◌, ◌-◌, ◌<◌, ◌≤◌, Bool, true, false, ◌||◌, nat_eq, List, [], ◌∷◌, ◌++◌, length, get_or, set, replicate, refl, sym, ◌∙◌, ap, ⊎_elim, arith}
use Rattle.std.proofs.lemmas.Bool.{false≢true, cases_eq, cases_lt}
use Rattle.std.proofs.lemmas.Bool.Decides.{nat_tests}
use Rattle.std.proofs.lemmas.Cmp.{nat_eq_equiv}
use Rattle.std.proofs.lemmas.List.{length-set, get_or-set_same, get_or-set_other, get_or_past}
use Rattle.std.proofs.lemmas.List.Folds.{list_any-append, list_any_at}
use Rattle.std.proofs.lemmas.Map.Keys.{IsDistinct-push, IsDistinct-cons}
use Rattle.std.proofs.lemmas.Map.Steps.{length-le_from_distinct_below}
use Rattle.std.specs.List.{All, AllByRecursion, IsDistinct}
use Rattle.pf_model.specs.Copies.{put_all}
use Rattle.pf_model.proofs.Written.{length_written, same_read}
use Rattle.update_lists.specs.Marks.{AreMarks, among}
use Rattle.update_lists.proofs.Rising.{among_put, itself, put_all_rising, rising_once}

once_none : IsDistinct nat_eq []
unfolding IsDistinct
once_none = tt

-- no mark at all
pub marks_none : (table : List Bool) (table_room room : ℕ) → length table ≤ 65536 → table_room ≡ 65536 → ((id : ℕ) → id < 65536 → get_or table id false ≡ false) → room ≡ 65536 → AreMarks table table_room [] room
marks_none table table_room room few reserved none roomy = record {
  few = few;
  reserved = reserved;
  agree = none;
  narrow = λ id h. absurd (false≢true h);
  once = once_none;
  roomy = roomy;
}

pub marks_new : AreMarks [] 65536 [] 65536
marks_new = marks_none [] 65536 65536 (omega arith) refl (λ id l. refl) refl

absent : (x : ℕ) (xs : List ℕ) → among x xs ≡ false → AllByRecursion (λ y. nat_eq x y ≡ false) xs
absent x [] h = tt
absent x (y ∷ ys) h = by (nat_eq x y) refl (λ k. absent x ys k) h
  where
    by : (t : Bool) → nat_eq x y ≡ t → (among x ys ≡ false → AllByRecursion (λ z. nat_eq x z ≡ false) ys) → (t || among x ys) ≡ false → AllByRecursion (λ z. nat_eq x z ≡ false) (y ∷ ys)
    by true e rest k = absurd (false≢true (sym k))
    by false e rest k = (e, rest k)

-- a table that is written up to a place keeps the same marks
pub marks_longer : (table longer : List Bool) (place table_room longer_room : ℕ) (ids : List ℕ) (room : ℕ) → longer ≡ table ++ replicate (place + 1 - length table) false → place < 65536 →
    longer_room ≡ table_room → AreMarks table table_room ids room → AreMarks longer longer_room ids room
marks_longer table longer place table_room longer_room ids room written within more marks = record {
  few = omega (arith, length_written false table longer place written, within, marks.few);
  reserved = more ∙ marks.reserved;
  agree = λ id l. same_read false table longer place written id ∙ marks.agree id l;
  narrow = marks.narrow;
  once = marks.once;
  roomy = marks.roomy;
}

module _ (table : List Bool) (table_room : ℕ) (ids : List ℕ) (room : ℕ) (marks : AreMarks table table_room ids room) where
  -- the entry of a marked id is written
  written : (id : ℕ) → among id ids ≡ true → id < length table
  written id h =
      ⊎_elim (λ l. l)
      (λ past. absurd (false≢true (sym (get_or_past table id false past) ∙ marks.agree id (marks.narrow id h) ∙ h)))
      (cases_lt id (length table))

  pub all_written : All (λ id. id < length table) ids
  all_written = λ k d l. written (get_or ids k d) (list_any_at (nat_eq (get_or ids k d)) ids k d l (itself (get_or ids k d)))

  -- one id more is among the marked ones, or was
  either : (id q : ℕ) → id < 65536 → (nat_eq q id || among q ids) ≡ true → q < 65536
  either id q l h = by (nat_eq q id) refl h
    where
      by : (t : Bool) → nat_eq q id ≡ t → (t || among q ids) ≡ true → q < 65536
      by true e k = grind (arith, nat_tests)
      by false e k = marks.narrow q k

  -- there is room for an id without a mark
  pub room_left : (id : ℕ) → id < 65536 → get_or table id false ≡ false → length ids < room
  room_left id l h =
      let out : among id ids ≡ false = sym (marks.agree id l) ∙ h in
      let few = length-le_from_distinct_below (id ∷ ids) 65536 (IsDistinct-cons nat_eq id ids (absent id ids out) marks.once) (λ q k. either id q l k) in
      omega (arith, few, marks.roomy)

  pub marked_more : (id : ℕ) → id < 65536 → id < length table → get_or table id false ≡ false → AreMarks (set table id true) table_room (ids ++ id ∷ []) room
  marked_more id l there h = record {
    few = omega (arith, length-set table id true, marks.few);
    reserved = marks.reserved;
    agree = λ q k. ⊎_elim (λ e. here q e) (λ apart. elsewhere q k apart) (cases_eq q id);
    narrow = λ q k. within q (sym (list_any-append (nat_eq q) ids (id ∷ [])) ∙ k);
    once = IsDistinct-push nat_eq_equiv ids id marks.once (sym (marks.agree id l) ∙ h);
    roomy = marks.roomy;
  }
    where
      last : (q : ℕ) → nat_eq q id ≡ true → (among q ids || (nat_eq q id || false)) ≡ true
      last q e = by (among q ids) (nat_eq q id) e
        where
          by : (a b : Bool) → b ≡ true → (a || (b || false)) ≡ true
          by true b k = refl
          by false true k = refl
          by false false k = k

      here : (q : ℕ) → q ≡ id → get_or (set table id true) q false ≡ among q (ids ++ id ∷ [])
      here q e =
          let met : nat_eq q id ≡ true = grind (arith, nat_tests) in
          rw (list_any-append (nat_eq q) ids (id ∷ [])) (ap (λ k. get_or (set table id true) k false) e
          ∙ get_or-set_same table id true false there ∙ sym (last q met))

      first : (q : ℕ) → nat_eq q id ≡ false → (among q ids || (nat_eq q id || false)) ≡ among q ids
      first q e = by (among q ids) (nat_eq q id) e
        where
          by : (a b : Bool) → b ≡ false → (a || (b || false)) ≡ a
          by true b k = refl
          by false true k = k
          by false false k = refl

      elsewhere : (q : ℕ) → q < 65536 → (q ≡ id → ⊥) → get_or (set table id true) q false ≡ among q (ids ++ id ∷ [])
      elsewhere q k apart =
          let missed : nat_eq q id ≡ false = grind (arith, nat_tests) in
          rw (list_any-append (nat_eq q) ids (id ∷ [])) (get_or-set_other table id q true false apart ∙ marks.agree q k ∙ sym (first q missed))

      within : (q : ℕ) → (among q ids || (nat_eq q id || false)) ≡ true → q < 65536
      within q h = by (among q ids) (nat_eq q id) refl refl h
        where
          by : (a b : Bool) → among q ids ≡ a → nat_eq q id ≡ b → (a || (b || false)) ≡ true → q < 65536
          by true b ea eb k = marks.narrow q ea
          by false true ea eb k = grind (arith, nat_tests)
          by false false ea eb k = absurd (false≢true k)

  -- the marks know no order
  pub marks_sorted : AreMarks table table_room (put_all ids []) room
  marks_sorted = record {
    few = marks.few;
    reserved = marks.reserved;
    agree = λ id l. marks.agree id l ∙ sym (among_put id ids);
    narrow = λ id h. marks.narrow id (sym (among_put id ids) ∙ h);
    once = rising_once (put_all ids []) (put_all_rising ids [] tt);
    roomy = marks.roomy;
  }

-- a mark is taken away
pub unmarked_more : (table : List Bool) (x : ℕ) (rest : List ℕ) → x < length table →
    (q : ℕ) → (among q (x ∷ rest) ≡ false → get_or table q false ≡ false) → among q rest ≡ false → get_or (set table x false) q false ≡ false
unmarked_more table x rest l q before h =
    ⊎_elim (λ e. ap (λ k. get_or (set table x false) k false) e ∙ get_or-set_same table x false false l)
    (λ apart. let missed : nat_eq q x ≡ false = grind (arith, nat_tests) in
    get_or-set_other table x q false false apart ∙ before (ap (λ b. b || among q rest) missed ∙ h))
    (cases_eq q x)
