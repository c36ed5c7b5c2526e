-- What stands under each id after a change of the slab and of the keys.
use Rattle.std.proofs.Common.{◌≡◌, ◌≢◌, ℕ, suc, zero-add, ◌+◌, ◌<◌, ◌≤◌, Bool, true, false, cond, ◌==◌, ◌⊎◌, inl, inr, List, [], ◌∷◌, length, get_or, set, Option, Some, None, is_some, refl, sym, ◌∙◌, ap, subst, arith}
use Rattle.std.specs.Option.{option_and_then, option_map}
use Rattle.std.specs.List.{count_by}
use Rattle.std.proofs.lemmas.List.{ext_get_or, get_or-set_same, get_or-set_other, length-set}
use Rattle.std.proofs.lemmas.Bool.{eqb-true}
use Rattle.std.proofs.lemmas.List.Sums.{sum_by-set, sum_by-cons}
use Rattle.std.proofs.Math.ListN.{get_or-map, length-map}
use Rattle.std.proofs.lemmas.Bool.Decides.{eqb_tells}
use Rattle.slab.specs.Slab.{Slab, get, slab_len, Updates}
use Rattle.pf_edits.specs.declared.records.Record.{Record}
use Rattle.pf_edits.specs.Tables.{Slots, record_at, slots_of, IsIndexed}

-- what is found after a set
pub record_at_set : (slots : Slots) (id : ℕ) (v : Option Record) (b : ℕ) → id < length slots
    → record_at (set slots id v) b ≡ cond (b == id) v (record_at slots b)
record_at_set slots id v b h = by (eqb_tells b id)
  where
    by : (((b == id) ≡ true) × (b ≡ id)) ⊎ (((b == id) ≡ false) × (b ≢ id)) → record_at (set slots id v) b ≡ cond (b == id) v (record_at slots b)
    by (inl same) = subst (λ (x : ℕ). record_at (set slots id v) x ≡ v) (sym same.1) (get_or-set_same slots id v None h) ∙ sym (ap (λ t. cond t v (record_at slots b)) same.0)
    by (inr other) = get_or-set_other slots id b v None other.1 ∙ sym (ap (λ t. cond t v (record_at slots b)) other.0)

-- the slot of an id is what the slab has under its key
pub slot_at : (slab : Slab Record) (keys : List (Option ℕ)) (id : ℕ) → record_at (slots_of slab keys) id ≡ option_and_then (get slab) (get_or keys id None)
slot_at slab keys id = get_or-map (option_and_then (get slab)) keys id None

-- where one id alone has got another slot, the table is set there
table_after : (slab after : Slab Record) (keys others : List (Option ℕ)) (id : ℕ) (v : Option Record)
    → length others ≡ length keys → id < length keys
    → option_and_then (get after) (get_or others id None) ≡ v
    → ((b : ℕ) → b ≢ id → option_and_then (get after) (get_or others b None) ≡ option_and_then (get slab) (get_or keys b None))
    → slots_of after others ≡ set (slots_of slab keys) id v
table_after slab after keys others id v len within there rest =
    ext_get_or None (slots_of after others) (set (slots_of slab keys) id v) lengths (λ i h. at i (eqb_tells i id))
  where
    lengths : length (slots_of after others) ≡ length (set (slots_of slab keys) id v)
    lengths = length-map others (option_and_then (get after)) ∙ len ∙ sym (length-set (slots_of slab keys) id v ∙ length-map keys (option_and_then (get slab)))

    room : id < length (slots_of slab keys)
    room = subst (λ (n : ℕ). id < n) (sym (length-map keys (option_and_then (get slab)))) within

    at : (i : ℕ) → (((i == id) ≡ true) × (i ≡ id)) ⊎ (((i == id) ≡ false) × (i ≢ id)) → record_at (slots_of after others) i ≡ record_at (set (slots_of slab keys) id v) i
    at i (inl same) =
        subst (λ (x : ℕ). record_at (slots_of after others) x ≡ record_at (set (slots_of slab keys) id v) x) (sym same.1)
        (slot_at after others id ∙ there ∙ sym (get_or-set_same (slots_of slab keys) id v None room))
    at i (inr other) = slot_at after others i ∙ rest i other.1 ∙ sym (slot_at slab keys i) ∙ sym (get_or-set_other (slots_of slab keys) id i v None other.1)

-- how many records there are after a set
count_set : (slots : Slots) (id : ℕ) (v : Option Record) → id < length slots
    → count_by is_some (set slots id v) + cond (is_some (record_at slots id)) 1 0 ≡ count_by is_some slots + cond (is_some v) 1 0
count_set slots id v h = sum_by-set (λ (o : Option Record). cond (is_some o) 1 0) slots id v None h

module _ (slab after : Slab Record) (keys : List (Option ℕ)) (id key : ℕ) (indexed : IsIndexed keys slab) (within : id < 65536) where
  inside : id < length keys
  inside = let w : length keys ≡ 65536 = indexed.wide in omega arith

  width : id < length (slots_of slab keys)
  width = subst (λ (n : ℕ). id < n) (sym (length-map keys (option_and_then (get slab)))) inside

  -- A record put under a key that was vacant

  module _ (r : Record) (vacant : get slab key ≡ None) (up : Updates slab after key (Some r)) where
    unlike : (k : ℕ) → is_some (get slab k) ≡ true → k ≢ key
    unlike k there same = let e : is_some (get slab key) ≡ true = subst (λ (x : ℕ). is_some (get slab x) ≡ true) same there in
        let f : is_some (get slab key) ≡ false = ap (λ o. is_some o) vacant in
        let g : true ≡ false = sym e ∙ f in cc

    pub put_slots : slots_of after (set keys id (Some key)) ≡ set (slots_of slab keys) id (Some r)
    put_slots =
        table_after slab after keys (set keys id (Some key)) id (Some r) (length-set keys id (Some key)) inside
        (ap (option_and_then (get after)) (get_or-set_same keys id (Some key) None inside) ∙ up.changed)
        (λ b other. ap (option_and_then (get after)) (get_or-set_other keys id b (Some key) None other) ∙ rest b (get_or keys b None) refl)
      where
        rest : (b : ℕ) (o : Option ℕ) → get_or keys b None ≡ o → option_and_then (get after) o ≡ option_and_then (get slab) o
        rest b None e = refl
        rest b (Some k) e = up.others k (unlike k (indexed.there b k e))

    pub put_at : (b : ℕ) → record_at (slots_of after (set keys id (Some key))) b ≡ cond (b == id) (Some r) (record_at (slots_of slab keys) b)
    put_at b = ap (λ slots. record_at slots b) put_slots ∙ record_at_set (slots_of slab keys) id (Some r) b width

    pub put_indexed : record_at (slots_of slab keys) id ≡ None → slab_len after ≡ slab_len slab + 1 → after.capacity ≡ slab.capacity
        → IsIndexed (set keys id (Some key)) after
    put_indexed absent len cap = record {
      wide = length-set keys id (Some key) ∙ indexed.wide;
      there = λ a k e. there a k e (eqb_tells a id);
      apart = λ a b k ea eb. apart a b k ea eb (eqb_tells a id) (eqb_tells b id);
      counted = ap (count_by is_some) put_slots ∙ counted;
      roomy = let c : 4097 ≤ slab.capacity = indexed.roomy in omega arith;
      narrow = let c : slab.capacity ≤ 65535 = indexed.narrow in omega arith;
    }
      where
        counted : count_by is_some (set (slots_of slab keys) id (Some r)) ≡ slab_len after
        counted =
            let e : count_by is_some (set (slots_of slab keys) id (Some r)) + cond (is_some (record_at (slots_of slab keys) id)) 1 0 ≡ count_by is_some (slots_of slab keys) + 1 =
            count_set (slots_of slab keys) id (Some r) width in
            let f : count_by is_some (set (slots_of slab keys) id (Some r)) + 0 ≡ count_by is_some (slots_of slab keys) + 1 =
            subst (λ (o : Option Record). count_by is_some (set (slots_of slab keys) id (Some r)) + cond (is_some o) 1 0 ≡ count_by is_some (slots_of slab keys) + 1) absent e in
            let n : count_by is_some (slots_of slab keys) ≡ slab_len slab = indexed.counted in
            omega (arith, f, n, len)

        old : (a k : ℕ) → a ≢ id → get_or (set keys id (Some key)) a None ≡ Some k → get_or keys a None ≡ Some k
        old a k other e = sym (get_or-set_other keys id a (Some key) None other) ∙ e

        new : (a k : ℕ) → a ≡ id → get_or (set keys id (Some key)) a None ≡ Some k → key ≡ k
        new a k same e =
            let f : Some key ≡ Some k = sym (get_or-set_same keys id (Some key) None inside) ∙ subst (λ (x : ℕ). get_or (set keys id (Some key)) x None ≡ Some k) same e in cc

        there : (a k : ℕ) → get_or (set keys id (Some key)) a None ≡ Some k → (((a == id) ≡ true) × (a ≡ id)) ⊎ (((a == id) ≡ false) × (a ≢ id)) → is_some (get after k) ≡ true
        there a k e (inl same) = subst (λ (x : ℕ). is_some (get after x) ≡ true) (new a k same.1 e) (ap (λ o. is_some o) up.changed)
        there a k e (inr other) =
            let t : is_some (get slab k) ≡ true = indexed.there a k (old a k other.1 e) in
            ap (λ o. is_some o) (up.others k (unlike k t)) ∙ t

        apart : (a b k : ℕ) → get_or (set keys id (Some key)) a None ≡ Some k → get_or (set keys id (Some key)) b None ≡ Some k
            → (((a == id) ≡ true) × (a ≡ id)) ⊎ (((a == id) ≡ false) × (a ≢ id)) → (((b == id) ≡ true) × (b ≡ id)) ⊎ (((b == id) ≡ false) × (b ≢ id)) → a ≡ b
        apart a b k ea eb (inl p) (inl q) = p.1 ∙ sym q.1
        apart a b k ea eb (inl p) (inr q) = absurd (unlike k (indexed.there b k (old b k q.1 eb)) (sym (new a k p.1 ea)))
        apart a b k ea eb (inr p) (inl q) = absurd (unlike k (indexed.there a k (old a k p.1 ea)) (sym (new b k q.1 eb)))
        apart a b k ea eb (inr p) (inr q) = indexed.apart a b k (old a k p.1 ea) (old b k q.1 eb)

  -- The record under the key of an id taken out

  module _ (at : get_or keys id None ≡ Some key) (up : Updates slab after key None) where
    differs : (b k : ℕ) → b ≢ id → get_or keys b None ≡ Some k → k ≢ key
    differs b k other e same = other (indexed.apart b id key (e ∙ ap Some same) at)

    pub take_slots : slots_of after (set keys id None) ≡ set (slots_of slab keys) id None
    take_slots =
        table_after slab after keys (set keys id None) id None (length-set keys id None) inside
        (ap (option_and_then (get after)) (get_or-set_same keys id None None inside))
        (λ b other. ap (option_and_then (get after)) (get_or-set_other keys id b None None other) ∙ rest b other (get_or keys b None) refl)
      where
        rest : (b : ℕ) → b ≢ id → (o : Option ℕ) → get_or keys b None ≡ o → option_and_then (get after) o ≡ option_and_then (get slab) o
        rest b other None e = refl
        rest b other (Some k) e = up.others k (differs b k other e)

    pub take_at : (b : ℕ) → record_at (slots_of after (set keys id None)) b ≡ cond (b == id) None (record_at (slots_of slab keys) b)
    take_at b = ap (λ slots. record_at slots b) take_slots ∙ record_at_set (slots_of slab keys) id None b width

    pub taken_at : record_at (slots_of slab keys) id ≡ get slab key
    taken_at = slot_at slab keys id ∙ ap (option_and_then (get slab)) at

    pub take_indexed : slab_len after + 1 ≡ slab_len slab → after.capacity ≡ slab.capacity → IsIndexed (set keys id None) after
    take_indexed len cap = record {
      wide = length-set keys id None ∙ indexed.wide;
      there = λ a k e. there a k e (eqb_tells a id);
      apart = λ a b k ea eb. apart a b k ea eb (eqb_tells a id) (eqb_tells b id);
      counted = ap (count_by is_some) take_slots ∙ counted;
      roomy = let c : 4097 ≤ slab.capacity = indexed.roomy in omega arith;
      narrow = let c : slab.capacity ≤ 65535 = indexed.narrow in omega arith;
    }
      where
        counted : count_by is_some (set (slots_of slab keys) id None) ≡ slab_len after
        counted =
            let e : count_by is_some (set (slots_of slab keys) id None) + cond (is_some (record_at (slots_of slab keys) id)) 1 0 ≡ count_by is_some (slots_of slab keys) + 0 =
            count_set (slots_of slab keys) id None width in
            let there : is_some (record_at (slots_of slab keys) id) ≡ true = ap (λ o. is_some o) taken_at ∙ indexed.there id key at in
            let f : count_by is_some (set (slots_of slab keys) id None) + 1 ≡ count_by is_some (slots_of slab keys) + 0 =
            subst (λ (t : Bool). count_by is_some (set (slots_of slab keys) id None) + cond t 1 0 ≡ count_by is_some (slots_of slab keys) + 0) there e in
            let n : count_by is_some (slots_of slab keys) ≡ slab_len slab = indexed.counted in
            omega (arith, f, n, len)

        none_here : (a k : ℕ) → a ≡ id → get_or (set keys id None) a None ≡ Some k → ⊥
        none_here a k same e =
            let f : None ≡ Some k = sym (get_or-set_same keys id None None inside) ∙ subst (λ (x : ℕ). get_or (set keys id None) x None ≡ Some k) same e in cc

        old : (a k : ℕ) → a ≢ id → get_or (set keys id None) a None ≡ Some k → get_or keys a None ≡ Some k
        old a k other e = sym (get_or-set_other keys id a None None other) ∙ e

        there : (a k : ℕ) → get_or (set keys id None) a None ≡ Some k → (((a == id) ≡ true) × (a ≡ id)) ⊎ (((a == id) ≡ false) × (a ≢ id)) → is_some (get after k) ≡ true
        there a k e (inl same) = absurd (none_here a k same.1 e)
        there a k e (inr other) = ap (λ o. is_some o) (up.others k (differs a k other.1 (old a k other.1 e))) ∙ indexed.there a k (old a k other.1 e)

        apart : (a b k : ℕ) → get_or (set keys id None) a None ≡ Some k → get_or (set keys id None) b None ≡ Some k
            → (((a == id) ≡ true) × (a ≡ id)) ⊎ (((a == id) ≡ false) × (a ≢ id)) → (((b == id) ≡ true) × (b ≡ id)) ⊎ (((b == id) ≡ false) × (b ≢ id)) → a ≡ b
        apart a b k ea eb (inl p) q = absurd (none_here a k p.1 ea)
        apart a b k ea eb (inr p) (inl q) = absurd (none_here b k q.1 eb)
        apart a b k ea eb (inr p) (inr q) = indexed.apart a b k (old a k p.1 ea) (old b k q.1 eb)

  -- The record under the key of an id changed

  module _ (f : Record → Record) (at : get_or keys id None ≡ Some key) (up : Updates slab after key (option_map f (get slab key))) where
    pub changed_slots : slots_of after keys ≡ set (slots_of slab keys) id (option_map f (get slab key))
    changed_slots =
        table_after slab after keys keys id (option_map f (get slab key)) refl inside (ap (option_and_then (get after)) at ∙ up.changed)
        (λ b other. rest b other (get_or keys b None) refl)
      where
        rest : (b : ℕ) → b ≢ id → (o : Option ℕ) → get_or keys b None ≡ o → option_and_then (get after) o ≡ option_and_then (get slab) o
        rest b other None e = refl
        rest b other (Some k) e = up.others k (λ same. other (indexed.apart b id key (e ∙ ap Some same) at))

    pub found_at : record_at (slots_of slab keys) id ≡ get slab key
    found_at = slot_at slab keys id ∙ ap (option_and_then (get slab)) at

    pub changed_at : (b : ℕ) → record_at (slots_of after keys) b ≡ cond (b == id) (option_map f (record_at (slots_of slab keys) b)) (record_at (slots_of slab keys) b)
    changed_at b =
        ap (λ slots. record_at slots b) changed_slots
        ∙ record_at_set (slots_of slab keys) id (option_map f (get slab key)) b width ∙ by (b == id) refl
      where
        by : (t : Bool) → (b == id) ≡ t
            → cond t (option_map f (get slab key)) (record_at (slots_of slab keys) b) ≡ cond t (option_map f (record_at (slots_of slab keys) b)) (record_at (slots_of slab keys) b)
        by true e = ap (option_map f) (sym (ap (record_at (slots_of slab keys)) (eqb-true b id e) ∙ found_at))
        by false e = refl

    pub changed_indexed : slab_len after ≡ slab_len slab → after.capacity ≡ slab.capacity → IsIndexed keys after
    changed_indexed len room = record {
      wide = indexed.wide;
      there = λ a k e. there a k e (eqb_tells a id);
      apart = indexed.apart;
      counted = ap (count_by is_some) changed_slots ∙ counted;
      roomy = let c : 4097 ≤ slab.capacity = indexed.roomy in omega arith;
      narrow = let c : slab.capacity ≤ 65535 = indexed.narrow in omega arith;
    }
      where
        one : ℕ
        one = 1

        one_if : Bool → ℕ
        one_if t = cond t 1 0

        some : (o : Option Record) → is_some (option_map f o) ≡ is_some o
        some None = refl
        some (Some r) = refl

        here : is_some (get slab key) ≡ true
        here = indexed.there id key at

        counted : count_by is_some (set (slots_of slab keys) id (option_map f (get slab key))) ≡ slab_len after
        counted =
            let e : count_by is_some (set (slots_of slab keys) id (option_map f (get slab key))) + cond (is_some (record_at (slots_of slab keys) id)) 1 0
            ≡ count_by is_some (slots_of slab keys) + cond (is_some (option_map f (get slab key))) 1 0 =
            count_set (slots_of slab keys) id (option_map f (get slab key)) width in
            let old : cond (is_some (record_at (slots_of slab keys) id)) 1 0 ≡ one = ap one_if (ap (λ o. is_some o) found_at ∙ here) in
            let new : cond (is_some (option_map f (get slab key))) 1 0 ≡ one = ap one_if (some (get slab key) ∙ here) in
            let n : count_by is_some (slots_of slab keys) ≡ slab_len slab = indexed.counted in
            omega (arith, e, old, new, n, len)

        there : (a k : ℕ) → get_or keys a None ≡ Some k → (((a == id) ≡ true) × (a ≡ id)) ⊎ (((a == id) ≡ false) × (a ≢ id)) → is_some (get after k) ≡ true
        there a k e (inl same) =
            let f : Some key ≡ Some k = sym at ∙ subst (λ (x : ℕ). get_or keys x None ≡ Some k) same.1 e in
            let g : key ≡ k = cc in
            subst (λ (x : ℕ). is_some (get after x) ≡ true) g (ap (λ o. is_some o) up.changed ∙ some (get slab key) ∙ here)
        there a k e (inr other) = ap (λ o. is_some o) (up.others k (λ same. other.1 (indexed.apart a id key (e ∙ ap Some same) at))) ∙ indexed.there a k e

-- No keys

pub no_slot : (slab : Slab Record) (keys : List (Option ℕ)) → ((k : ℕ) → get_or keys k None ≡ None) → (b : ℕ) → record_at (slots_of slab keys) b ≡ None
no_slot slab keys none b = slot_at slab keys b ∙ ap (option_and_then (get slab)) (none b)

pub no_count : (slots : Slots) → ((b : ℕ) → record_at slots b ≡ None) → count_by is_some slots ≡ 0
no_count [] none = refl
no_count (x ∷ xs) none =
    sum_by-cons (λ (o : Option Record). cond (is_some o) 1 0) x xs
    ∙ ap (λ o. cond (is_some o) 1 0 + count_by is_some xs) (none 0) ∙ zero-add (count_by is_some xs) ∙ no_count xs (λ b. none (suc b))

pub empty_indexed : (slab : Slab Record) (keys : List (Option ℕ)) → length keys ≡ 65536 → ((k : ℕ) → get_or keys k None ≡ None) → slab_len slab ≡ 0 → 4097 ≤ slab.capacity → slab.capacity ≤ 65535 → IsIndexed keys slab
empty_indexed slab keys wide none len cap narrow = record {
  wide = wide;
  there = λ a k e. absurd (let f : None ≡ Some k = sym (none a) ∙ e in cc);
  apart = λ a b k e f. absurd (let f : None ≡ Some k = sym (none a) ∙ e in cc);
  counted = no_count (slots_of slab keys) (no_slot slab keys none) ∙ sym len;
  roomy = cap;
  narrow = narrow;
}

-- What is read of the keys

pub no_record : (slab : Slab Record) (keys : List (Option ℕ)) (id : ℕ) → get_or keys id None ≡ None → record_at (slots_of slab keys) id ≡ None
no_record slab keys id none = slot_at slab keys id ∙ ap (option_and_then (get slab)) none

pub none_stays : (slots : Slots) (id : ℕ) → record_at slots id ≡ None → (b : ℕ) → record_at slots b ≡ cond (b == id) None (record_at slots b)
none_stays slots id none b = by (b == id) refl
  where
    by : (t : Bool) → (b == id) ≡ t → record_at slots b ≡ cond t None (record_at slots b)
    by true e = subst (λ (x : ℕ). record_at slots x ≡ None) (sym (eqb-true b id e)) none
    by false e = refl
