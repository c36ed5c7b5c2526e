-- The numbers of copies, call by call.
use Rattle.std.proofs.Common.{◌≡◌, ◌⊎◌, inl, inr, ℕ, ◌+◌, ◌<◌, ◌≤◌, max, Bool, true, false, cond, ◌||◌, ◌==◌, List, [], ◌∷◌, Option, Some, None, is_some, refl, ◌∙◌, ap, subst, arith}
use Rattle.std.proofs.lemmas.Bool.{cases_lt, eqb-true}
use Rattle.std.proofs.lemmas.Bool.Decides.{nat_tests}
use Rattle.std.specs.List.{list_any}
use Rattle.std.specs.Option.{option_map, option_map_or}
use Rattle.pf_model.specs.declared.geometry.Tri.{Tri}
use Rattle.pf_model.specs.declared.edits.Edit.{Edit}
use Rattle.pf_model.specs.declared.edits.Edit.TheVariants as edit
use Rattle.pf_model.specs.Kinds.{geom_of, is_geode}
use Rattle.cycle_buffer.specs.Cycles.{CycleState, CyclesState, HasBetween, AreBetween, cycle_at, written_at, copies_at, out_at, out_of, most_of}
use Rattle.pf_scene.specs.Stock.{Written, makes_geode, was_made, serial_behind, HaveCycles}
use Rattle.pf_scene.specs.Counts.{AreTrimmed, AreAsMany, AreCounted}
use Rattle.pf_scene.specs.Scenes.{with_cycle, with_grown, one_more}
use Rattle.pf_scene.proofs.Written.{no_cycle}

-- edits that make no geode have made no cycle
pub none_opened : (w : Written) (n : ℕ) (es : List Edit) → HaveCycles w n es → ((s : ℕ) → serial_behind n es ≤ s → w s ≡ None) → list_any makes_geode es ≡ false → (s : ℕ) → n ≤ s → w s ≡ None
none_opened w n [] cycles above none s l = above s l
none_opened w n (edit.Make id kind ∷ es) cycles above none s l = by (λ h k. none_opened w (n + 1) es cycles.1 above h s k) (cases_lt n s)
  where
    either : (p q : Bool) → (p || q) ≡ false → (p ≡ false) × (q ≡ false)
    either true q h = absurd (cc)
    either false q h = (refl, h)

    parts : (is_geode kind ≡ false) × (list_any makes_geode es ≡ false)
    parts = either (is_geode kind) (list_any makes_geode es) none

    no_tris : (o : Option (List Tri)) → is_some o ≡ false → o ≡ None
    no_tris None h = refl
    no_tris (Some ts) h = absurd (cc)

    same : (a b : ℕ) → a ≤ b → b ≤ a → b ≡ a
    same a b h k = omega arith

    next : (a b : ℕ) → a < b → a + 1 ≤ b
    next a b h = omega arith

    by : (list_any makes_geode es ≡ false → n + 1 ≤ s → w s ≡ None) → (n < s) ⊎ (s ≤ n) → w s ≡ None
    by later (inl h) = later parts.1 (next n s h)
    by later (inr h) = ap w (same n s l h) ∙ cycles.0 ∙ no_tris (geom_of kind) parts.0
none_opened w n (e ∷ es) cycles above none s l = none_opened w n es cycles.1 above none s l

none_counted : (c : CyclesState) (s : ℕ) → written_at c s ≡ None → copies_at c s ≡ 0
none_counted c s h = ap (λ (o : Option CycleState). option_map_or (λ x. x.copies) o 0) (no_cycle c s h)

-- what was made, and what a refusal leaves
pub counted_entered : (ahead copies copies' next : ℕ) (refused made : Bool) (c d : CyclesState) → AreCounted ahead copies c → AreTrimmed next c d
    → copies' ≡ cond refused copies (with_cycle made ahead copies)
    → (was_made refused made ≡ false → (s : ℕ) → next ≤ s → written_at d s ≡ None) → AreCounted ahead copies' d
counted_entered ahead copies copies' next refused made c d counted trimmed is none = record {
  begins = trimmed.begins ∙ counted.begins;
  within = λ s. by s (was_made refused made) refl (cases_lt s next);
  least = above refused made copies' is;
  most = highest (most_of d) (most_of c) copies copies' trimmed.most counted.most more;
}
  where
    grows : (r m : Bool) (n : ℕ) → n ≡ cond r copies (with_cycle m ahead copies) → copies ≤ n
    grows true m n h = omega (arith, h)
    grows false true n h = omega (arith, h)
    grows false false n h = omega (arith, h)

    reaches : (r m : Bool) (n : ℕ) → was_made r m ≡ true → n ≡ cond r copies (with_cycle m ahead copies) → ahead + 1 ≤ n
    reaches true m n w h = absurd (cc)
    reaches false true n w h = omega (arith, h)
    reaches false false n w h = absurd (cc)

    more : copies ≤ copies'
    more = grows refused made copies' is

    above : (r m : Bool) (n : ℕ) → n ≡ cond r copies (with_cycle m ahead copies) → 0 < n → ahead + 1 ≤ n
    above true m n h l = let few = counted.least (omega (arith, h, l)) in omega (arith, h, few)
    above false true n h l = omega (arith, h)
    above false false n h l = let few = counted.least (omega (arith, h, l)) in omega (arith, h, few)

    highest : (a b m n : ℕ) → a ≡ b → b ≤ max m (ahead + 1) → m ≤ n → a ≤ max n (ahead + 1)
    highest a b m n h k l = omega arith

    low : (a b m n : ℕ) → a ≤ b → b ≤ m → m ≤ n → a ≤ n
    low a b m n h k l = omega arith

    nothing : (a n : ℕ) → a ≡ 0 → a ≤ n
    nothing a n h = omega arith

    two : (a b m n k : ℕ) → a ≤ max b k → b ≤ m → m ≤ n → k ≡ ahead + 1 → ahead + 1 ≤ n → a ≤ n
    two a b m n k h i j e l = omega arith

    by : (s : ℕ) (t : Bool) → was_made refused made ≡ t → (s < next) ⊎ (next ≤ s) → copies_at d s ≤ copies'
    by s t is_made (inl l) = low (copies_at d s) (copies_at c s) copies copies' (trimmed.few s l) (counted.within s) more
    by s false is_made (inr l) = nothing (copies_at d s) copies' (none_counted d s (none is_made s l))
    by s true is_made (inr l) =
        two (copies_at d s) (copies_at c s) copies copies' c.copies (trimmed.made s) (counted.within s) more counted.begins (reaches refused made copies' is_made is)

pub counted_refused : (ahead copies next : ℕ) (c d : CyclesState) → AreCounted ahead copies c → AreTrimmed next c d → ((s : ℕ) → next ≤ s → written_at d s ≡ None) → AreCounted ahead copies d
counted_refused ahead copies next c d counted trimmed none = counted_entered ahead copies copies next true false c d counted trimmed refl (λ w. none)

-- a Sync
pub counted_same : (ahead copies : ℕ) (c d : CyclesState) → AreCounted ahead copies c → AreAsMany c d → most_of d ≡ most_of c → AreCounted ahead copies d
counted_same ahead copies c d counted same most = record {
  begins = same.begins ∙ counted.begins;
  within = λ s. low (copies_at d s) (copies_at c s) copies (same.counts s) (counted.within s);
  least = counted.least;
  most = low (most_of d) (most_of c) (max copies (ahead + 1)) most counted.most;
}
  where
    low : (a b n : ℕ) → a ≡ b → b ≤ n → a ≤ n
    low a b n h k = omega arith

-- a Frame

-- what a cut leaves of the greatest number
abbrev pub RaisesLittle : CyclesState → CyclesState → Type 0
RaisesLittle c d = (b : ℕ) → most_of c ≤ b → ((s : ℕ) → out_at c s < b) → most_of d ≤ b

out_within : (c : CyclesState) (s n : ℕ) → copies_at c s ≤ n → out_at c s ≤ n
out_within c s n h = by (cycle_at c s) h
  where
    by : (o : Option CycleState) → option_map_or (λ x. x.copies) o 0 ≤ n → option_map_or out_of o 0 ≤ n
    by None k = omega arith
    by (Some x) k = omega (arith, k)

-- where there was no cycle, none has been made
none_begun : (ahead copies : ℕ) (c d : CyclesState) → AreCounted ahead copies c → copies ≡ 0 → AreBetween c → ((s : ℕ) → written_at d s ≡ written_at c s) → (s : ℕ) → copies_at d s ≡ 0
none_begun ahead copies c d counted none between written s = none_counted d s (written s ∙ ap (option_map (λ x. x.written)) (by (cycle_at c s) refl))
  where
    clash : (x : CycleState) → cycle_at c s ≡ Some x → ⊥
    clash x is =
        let least = (subst (HasBetween c.copies c.most) is (between s)).0 in
        let most = subst (λ (o : Option CycleState). option_map_or (λ y. y.copies) o 0 ≤ copies) is (counted.within s) in
        let begins = counted.begins in
        omega (arith, least, most, begins, none)

    by : (o : Option CycleState) → cycle_at c s ≡ o → cycle_at c s ≡ None
    by None is = is
    by (Some x) is = absurd (clash x is)

positive : (n : ℕ) → (n == 0) ≡ false → 0 < n
positive n h = grind (arith, nat_tests)

pub counted_cut : (ahead copies copies' : ℕ) (c d : CyclesState) → AreCounted ahead copies c → d.copies ≡ c.copies → AreBetween c → AreBetween d → ((s : ℕ) → written_at d s ≡ written_at c s)
    → RaisesLittle c d → copies' ≡ with_grown d.most copies → AreCounted ahead copies' d
counted_cut ahead copies copies' c d counted begins old between written raised is = by (copies == 0) refl is
  where
    low : (a n : ℕ) → a ≡ 0 → a ≤ n
    low a n h = omega arith

    few : (a k : ℕ) → a ≤ k → k ≡ 0 → a < ahead + 1
    few a k h e = omega arith

    first : (a k : ℕ) → a ≤ max k (ahead + 1) → k ≡ 0 → a ≤ ahead + 1
    first a k h e = omega arith

    none_more : (n : ℕ) → n ≡ 0 → 0 < n → ahead + 1 ≤ n
    none_more n h l = absurd (omega (arith, h, l))

    over : (a n : ℕ) → a ≤ ahead + 1 → a ≤ max n (ahead + 1)
    over a n h = omega arith

    at_most : (a b m n : ℕ) → a ≤ b → n ≡ max m b → a ≤ n
    at_most a b m n h e = omega arith

    more : (m k n : ℕ) → ahead + 1 ≤ m → n ≡ max m k → ahead + 1 ≤ n
    more m k n h e = omega arith

    high : (m k n j : ℕ) → n ≡ max j m → k ≡ ahead + 1 → max m k ≤ max n (ahead + 1)
    high m k n j h e = omega arith

    held : (o : Option CycleState) → HasBetween d.copies d.most o → copies' ≡ max copies d.most → option_map_or (λ x. x.copies) o 0 ≤ copies'
    held None h e = omega arith
    held (Some x) h e = at_most x.copies d.most copies copies' h.1 e

    by : (t : Bool) → (copies == 0) ≡ t → copies' ≡ cond t 0 (max copies d.most) → AreCounted ahead copies' d
    by true zero_is e =
        let none : copies ≡ 0 = eqb-true copies 0 zero_is in
        record {
          begins = begins ∙ counted.begins;
          within = λ s. low (copies_at d s) copies' (none_begun ahead copies c d counted none old written s);
          least = none_more copies' e;
          most = over (most_of d) copies'
              (raised (ahead + 1) (first (most_of c) copies counted.most none) (λ s. few (out_at c s) copies (out_within c s copies (counted.within s)) none));
        }
    by false some e = record {
      begins = begins ∙ counted.begins;
      within = λ s. held (cycle_at d s) (between s) e;
      least = λ l. more copies d.most copies' (counted.least (positive copies some)) e;
      most = high d.most d.copies copies' copies e (begins ∙ counted.begins);
    }

-- no more than the cycles had, or than was told
pub grown_low : (cycles copies copies' : ℕ) → copies' ≡ with_grown cycles copies → copies' ≤ max copies cycles
grown_low cycles copies copies' is = by (copies == 0) is
  where
    by : (t : Bool) → copies' ≡ cond t 0 (max copies cycles) → copies' ≤ max copies cycles
    by true e = omega (arith, e)
    by false e = omega (arith, e)

pub grown_high : (cycles copies copies' : ℕ) → copies' ≡ with_grown cycles copies → copies ≤ copies'
grown_high cycles copies copies' is = by (copies == 0) refl is
  where
    none : (a b : ℕ) → a ≡ 0 → a ≤ b
    none a b h = omega arith

    by : (t : Bool) → (copies == 0) ≡ t → copies' ≡ cond t 0 (max copies cycles) → copies ≤ copies'
    by true zero_is e = none copies copies' (eqb-true copies 0 zero_is)
    by false some e = omega (arith, e)

pub no_fewer : (copies : ℕ) → copies ≤ one_more copies
no_fewer copies = by (copies == 0) refl
  where
    none : (a : ℕ) → a ≡ 0 → a ≤ 0
    none a h = omega (arith, h)

    by : (t : Bool) → (copies == 0) ≡ t → copies ≤ cond t 0 (copies + 1)
    by true zero_is = none copies (eqb-true copies 0 zero_is)
    by false some = omega arith

-- a Frame raises the number by one at most, and not before the first cycle
pub raised_by_one : (ahead copies copies' : ℕ) (c d : CyclesState) → AreCounted ahead copies c → RaisesLittle c d → copies' ≡ with_grown d.most copies → copies' ≤ one_more copies
raised_by_one ahead copies copies' c d counted raised is = by (copies == 0) refl is
  where
    below : (a : ℕ) → a ≤ copies → a < copies + 1
    below a h = omega arith

    first : (a : ℕ) → a ≤ max copies (ahead + 1) → ahead + 1 ≤ copies → a ≤ copies + 1
    first a h k = omega arith

    low : (m k : ℕ) → max m k ≤ copies + 1 → copies' ≡ max copies m → copies' ≤ copies + 1
    low m k h e = omega arith

    by : (t : Bool) → (copies == 0) ≡ t → copies' ≡ cond t 0 (max copies d.most) → copies' ≤ cond t 0 (copies + 1)
    by true zero_is e = omega (arith, e)
    by false some e =
        low d.most d.copies
        (raised (copies + 1) (first (most_of c) counted.most (counted.least (positive copies some)))
        (λ s. below (out_at c s) (out_within c s copies (counted.within s)))) e
