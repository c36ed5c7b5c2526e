-- A split and a join of seats keep the lock's rule, and the lock opens by it.
use Rattle.std.proofs.Common.{◌≡◌, ◌≢◌, ℕ, zero, suc, ◌+◌, ◌-◌, ◌<◌, ◌≤◌, inl, inr, ⊎_elim, Bool, true, false, leb, cond, List, [], ◌∷◌, ◌++◌, length, set, refl, sym, ap, ◌∙◌, subst, arith, Option, Some, length-append}
use Rattle.std.proofs.Math.Nat.{eq-zero-or-pos}
use Rattle.std.proofs.lemmas.Bool.Decides.{nat_tests}
use Rattle.std.proofs.lemmas.List.{append-nil}
use mathlib.Core.Option.{some, some-injective, some-ne-none}
use mathlib.Core.List.{IsPrefix}
use lib.ListN.{get_elem?}
use Rattle.atomic_table.specs.Table.{State, Splits, Joins, opening}
use Rattle.atomic_table.proofs.Lists.{at_set, at_snoc, set_else}
use Rattle.seat_lock.specs.declared.view.View.{View}
use Rattle.seat_lock.specs.declared.view.Phase.TheVariants.{Idle}
use Rattle.seat_lock.specs.Log.{of, Found}
use Rattle.seat_lock.specs.Sums.{one, below, inside, total, times, numbers_from}
use Rattle.seat_lock.specs.View.{answering, weight, IsSound, opener, gives_one, given_one, longer, shorter, united, spent}
use Rattle.seat_lock.specs.LockRule.{has_ticket, has_some, is_served, holding, in_line, serving, Fits, Seated, AtHome, Out, LockRule}
use Rattle.seat_lock.proofs.Counts.{one_same, one_is, below_le, inside_yes, inside_none, inside_first, total_set, total_two, total_snoc, total-append, times_numbers, length-numbers}
use Rattle.seat_lock.proofs.Logs.{prefix_self, prefix_shorter, of-append, found_same, squeezed}
use Rattle.seat_lock.proofs.Turning.{once}

module _ {E : Type 0} where
  -- a number handed out is answered for by the new view, all others by the old one
  pub answering-split : (k : ℕ) (v : View E) → v.next < v.end → answering k (gives_one v) + answering k (given_one v) ≡ answering k v
  answering-split k v h = let a : inside (v.next + 1) v.end k + one k v.next ≡ inside v.next v.end k = inside_first v.next v.end k h in let b : inside 0 0 k ≡ 0 = inside_none k 0 in omega arith

  -- two views together answer for what each answered for
  pub answering-united : (k : ℕ) (v w : View E) → w.next ≤ w.end → answering k (united v w) ≡ answering k v + answering k w
  answering-united k v w range =
      let numbers : List ℕ = numbers_from w.next (w.end - w.next) in
      let a : times k ((v.answers ++ w.answers) ++ numbers) ≡ times k (v.answers ++ w.answers) + times k numbers = total-append (one k) (v.answers ++ w.answers) numbers in
      let b : times k (v.answers ++ w.answers) ≡ times k v.answers + times k w.answers = total-append (one k) v.answers w.answers in
      let c : times k numbers ≡ inside w.next w.end k = times_numbers k w.next (w.end - w.next) ∙ ap (λ (to : ℕ). inside w.next to k) (omega arith) in
      omega arith

  weight-united : (v w : View E) → weight (united v w) ≡ weight v + weight w
  weight-united v w =
      let numbers : List ℕ = numbers_from w.next (w.end - w.next) in
      omega (arith, length-append (v.answers ++ w.answers) numbers, length-append v.answers w.answers, length-numbers w.next (w.end - w.next))

  by_test : (b : Bool) (P : List (ℕ × E) → Type 0) (xs ys : List (ℕ × E)) → (b ≡ true → P xs) → (b ≡ false → P ys) → P (cond b xs ys)
  by_test true P xs ys h g = h refl
  by_test false P xs ys h g = g refl

  -- of two fronts of one log the longer is a front of it, and both are fronts of the longer
  longer_is : (P : List (ℕ × E) → Type 0) (xs ys : List (ℕ × E)) → (length ys ≤ length xs → P xs) → (length xs ≤ length ys → P ys) → P (longer xs ys)
  longer_is P xs ys h g = by_test (leb (length ys) (length xs)) P xs ys (λ e. h (grind (arith, nat_tests))) (λ e. g (grind (arith, nat_tests)))

  longer_front : (xs ys zs : List (ℕ × E)) → IsPrefix xs zs → IsPrefix ys zs → IsPrefix (longer xs ys) zs
  longer_front xs ys zs p q = longer_is (λ l. IsPrefix l zs) xs ys (λ h. p) (λ h. q)

  left_front : (xs ys zs : List (ℕ × E)) → IsPrefix xs zs → IsPrefix ys zs → IsPrefix xs (longer xs ys)
  left_front xs ys zs p q = longer_is (IsPrefix xs) xs ys (λ h. prefix_self xs) (λ h. prefix_shorter xs ys zs p q h)

  right_front : (xs ys zs : List (ℕ × E)) → IsPrefix xs zs → IsPrefix ys zs → IsPrefix ys (longer xs ys)
  right_front xs ys zs p q = longer_is (IsPrefix ys) xs ys (λ h. prefix_shorter ys xs zs q p h) (λ h. prefix_self ys)

  -- either of two fronts of one log is a front of the longer, so the shorter is
  shorter_is : (b : Bool) (xs ys zs : List (ℕ × E)) → IsPrefix xs zs → IsPrefix ys zs → IsPrefix (cond b ys xs) zs
  shorter_is true xs ys zs p q = q
  shorter_is false xs ys zs p q = p

  shorter_front : (xs ys zs : List (ℕ × E)) → IsPrefix xs zs → IsPrefix ys zs → IsPrefix (shorter xs ys) (longer xs ys)
  shorter_front xs ys zs p q = shorter_is (leb (length ys) (length xs)) xs ys (longer xs ys) (left_front xs ys zs p q) (right_front xs ys zs p q)

  -- where the shorter of two logs is a front of the longer, both are
  left_of_both : (b : Bool) (xs ys : List (ℕ × E)) → IsPrefix (cond b ys xs) (cond b xs ys) → IsPrefix xs (cond b xs ys)
  left_of_both true xs ys p = prefix_self xs
  left_of_both false xs ys p = p

  right_of_both : (b : Bool) (xs ys : List (ℕ × E)) → IsPrefix (cond b ys xs) (cond b xs ys) → IsPrefix ys (cond b xs ys)
  right_of_both true xs ys p = p
  right_of_both false xs ys p = prefix_self ys

  -- what the two keep of a number that the first answers for, or the second, or neither
  pub kept_left : (k : ℕ) (v w : View E) → of k w.kept ≡ [] → of k (united v w).kept ≡ of k v.kept
  kept_left k v w empty = of-append k v.kept w.kept ∙ (ap (λ l. of k v.kept ++ l) empty ∙ append-nil (of k v.kept))

  pub kept_right : (k : ℕ) (v w : View E) → of k v.kept ≡ [] → of k (united v w).kept ≡ of k w.kept
  kept_right k v w empty = of-append k v.kept w.kept ∙ ap (λ l. l ++ of k w.kept) empty

  -- u answers for what v and w answer for, keeps of each number what it kept before, and goes on from what each has seen
  pub record Unites (v w u : View E) : Type 0 where
    pub numbers : (k : ℕ) → answering k u ≡ answering k v + answering k w
    pub kept : (k : ℕ) → 0 < answering k v → of k u.kept ≡ of k v.kept
    pub gained : (k : ℕ) → 0 < answering k w → of k u.kept ≡ of k w.kept
    pub front : IsPrefix v.seen u.seen
    pub other_front : IsPrefix w.seen u.seen
    pub found : (k : ℕ) → 0 < answering k v → Found k v.seen u.seen
    pub other_found : (k : ℕ) → 0 < answering k w → Found k w.seen u.seen

  union : (v w : View E) → IsSound v → IsSound w → IsSound (united v w) → Unites v w (united v w)
  union v w f g u =
      let both : (k : ℕ) → answering k (united v w) ≡ answering k v + answering k w = λ k. answering-united k v w g.range in
      let kept : (k : ℕ) → 0 < answering k v → of k (united v w).kept ≡ of k v.kept = λ k h. kept_left k v w (g.only k (omega (arith, u.once k, both k))) in
      let gained : (k : ℕ) → 0 < answering k w → of k (united v w).kept ≡ of k w.kept = λ k h. kept_right k v w (f.only k (omega (arith, u.once k, both k))) in
      let first_longer : Bool = leb (length w.seen) (length v.seen) in
      let front : IsPrefix v.seen (longer v.seen w.seen) = left_of_both first_longer v.seen w.seen u.front in
      let other_front : IsPrefix w.seen (longer v.seen w.seen) = right_of_both first_longer v.seen w.seen u.front in
      record {
        numbers = both;
        kept = kept;
        gained = gained;
        front = front;
        other_front = other_front;
        found = λ k h. found_same k v.seen (longer v.seen w.seen) front (sym (f.same k h) ∙ (sym (kept k h) ∙ u.same k (omega (arith, both k))));
        other_found = λ k h. found_same k w.seen (longer v.seen w.seen) other_front (sym (g.same k h) ∙ (sym (gained k h) ∙ u.same k (omega (arith, both k))));
      }

  -- the views after a join, where each was found to be sound
  pub unites : (v w v' w' u : View E) → v' ≡ v → w' ≡ w → u ≡ united v' w' → IsSound v' → IsSound w' → IsSound u → Unites v w u
  unites v w v' w' u a b e f g s =
      subst (λ (z : View E × View E × View E). Unites z.0 z.1 z.2) (λ i. (a i, b i, sym e i)) (union v' w' f g (subst IsSound e s))

module _ {T E : Type 0} (log : T → List (ℕ × E)) where
  abbrev V : Type 0
  V = View E

  abbrev S : Type 0
  S = State (Option T) V

  abbrev Rule : S → Type 0
  Rule = LockRule log

  -- the view that hands out a number still fits
  giver_fits : (seats served : ℕ) (noted : List (ℕ × E)) (v : V) → v.next < v.end → Fits seats served noted v → Fits seats served noted (gives_one v)
  giver_fits seats served noted v h f =
      let still : (k : ℕ) → 0 < answering k (gives_one v) → 0 < answering k v = λ k a. omega (arith, answering-split k v h) in
      record {
        seats_is = f.seats_is;
        own = f.own;
        range = omega arith;
        true_of = (f.true_of.0, λ k a. f.true_of.1 k (still k a));
        true_of_seen = λ k a. f.true_of_seen k (still k a);
        only = f.only;
        front = f.front;
        now = f.now;
      }

  -- so does the new view
  given_fits : (seats served : ℕ) (noted : List (ℕ × E)) (v : V) → v.next < v.end → answering v.next v ≤ 1 → Fits seats served noted v → Fits seats served noted (given_one v)
  given_fits seats served noted v h most f =
      let spare : inside v.next v.end v.next ≡ 1 = inside_yes v.next v.end v.next (omega arith) h in
      let unused : of v.next v.kept ≡ [] = f.only v.next (omega arith) in
      let its : (k : ℕ) → 0 < answering k (given_one v) → k ≡ v.next = λ k a. one_is k v.next (omega (arith, inside_none k 0)) in
      let same : one v.next v.next ≡ 1 = one_same v.next v.next refl in
      record {
        seats_is = f.seats_is;
        own = omega arith;
        range = omega arith;
        true_of = (f.true_of.0, λ k a. subst (λ (n : ℕ). of n [] ≡ of n noted) (sym (its k a)) (sym unused ∙ f.true_of.1 v.next (omega arith)));
        true_of_seen = λ k a. subst (λ (n : ℕ). of n [] ≡ of n v.seen) (sym (its k a)) (sym unused ∙ f.true_of_seen v.next (omega arith));
        only = λ k unheld. refl;
        front = (v.seen, refl);
        now = λ t e. absurd (cc e);
      }

  pub splits : (id : ℕ) (v : V) → v.next < v.end → v.phase ≡ Idle → 0 < length v.answers → Splits Rule id v (gives_one v) (given_one v)
  splits id v h idle awake s r at =
      let f : Fits r.seats r.served r.noted v = (r.each id v at).fits (omega arith) in
      let left : V = gives_one v in
      let right : V = given_one v in
      let views : List V = set s.views id left in
      let most : answering v.next v ≤ 1 = once log s r id v v.next at in
      let none_in_line : in_line left ≡ 0 = ap has_some idle in
      let d : weight left + 1 ≡ weight v = omega arith in
      let mine : Seated r.seats r.served r.noted left = record { awake = omega arith; fits = λ a. giver_fits r.seats r.served r.noted v h f } in
      let new : Seated r.seats r.served r.noted right = record { awake = omega arith; fits = λ a. given_fits r.seats r.served r.noted v h most f } in
      record {
        drawn = r.drawn;
        served = r.served;
        seats = r.seats;
        noted = r.noted;
        words = r.words;
        few = r.few;
        tickets = λ t. omega (arith, total_snoc (holding t) views right, total_set (holding t) s.views id v left at, r.tickets t);
        waiting = omega (arith, total_snoc in_line views right, total_set in_line s.views id v left at, r.waiting);
        slot = (let off : total serving (views ++ right ∷ []) ≡ total serving s.views = omega (arith, total_snoc serving views right, total_set serving s.views id v left at) in
            ⊎_elim (λ (x : AtHome log s.homes s.views r.noted). inl (x.0, x.1, x.2, off ∙ x.3)) (λ (x : Out s.homes s.views). inr (x.0, off ∙ x.1)) r.slot);
        each = λ j u e. ⊎_elim
            (λ (x : get_elem? views j ≡ some u). ⊎_elim (λ (y : (j ≡ id) × (left ≡ u)). subst (Seated r.seats r.served r.noted) y.1 mine) (λ (y : (j ≢ id) × (get_elem? s.views j ≡ some u)). r.each j u y.1) (at_set s.views id j left u x))
            (λ (x : right ≡ u). subst (Seated r.seats r.served r.noted) x new) (at_snoc views right u j e);
        answered = λ k. omega (arith, total_snoc (answering k) views right, total_set (answering k) s.views id v left at, answering-split k v h, r.answered k);
        weighed = omega (arith, total_snoc weight views right, total_set weight s.views id v left at, r.weighed);
        within = r.within;
      }

  -- two views that fit and answer for no number in common fit together
  united_fits : (seats served : ℕ) (noted : List (ℕ × E)) (v w : V) → v.phase ≡ Idle → ((k : ℕ) → answering k v + answering k w ≤ 1) → Fits seats served noted v → Fits seats served noted w → Fits seats served noted (united v w)
  united_fits seats served noted v w idle apart f g =
      let both : (k : ℕ) → answering k (united v w) ≡ answering k v + answering k w = λ k. answering-united k v w g.range in
      let xs : List (ℕ × E) = v.seen in
      let ys : List (ℕ × E) = w.seen in
      let truth : (k : ℕ) → 0 < answering k (united v w) → (of k (united v w).kept ≡ of k noted) × (of k (longer xs ys) ≡ of k noted) = λ k a.
      let b : answering k (united v w) ≡ answering k v + answering k w = both k in
      let c : answering k v + answering k w ≤ 1 = apart k in
      ⊎_elim
      (λ (not_its : answering k v ≡ 0).
      let h : 0 < answering k w = omega arith in
      (kept_right k v w (f.only k (omega arith)) ∙ g.true_of.1 k h, squeezed k ys (longer xs ys) noted (right_front xs ys noted f.true_of.0 g.true_of.0) (longer_front xs ys noted f.true_of.0 g.true_of.0) (sym (g.true_of_seen k h) ∙ g.true_of.1 k h)))
      (λ (h : 0 < answering k v).
      (kept_left k v w (g.only k (omega arith)) ∙ f.true_of.1 k h, squeezed k xs (longer xs ys) noted (left_front xs ys noted f.true_of.0 g.true_of.0) (longer_front xs ys noted f.true_of.0 g.true_of.0) (sym (f.true_of_seen k h) ∙ f.true_of.1 k h)))
      (eq-zero-or-pos (answering k v))
      in
      let numbers : List ℕ = numbers_from w.next (w.end - w.next) in
      let times_is : (k : ℕ) → times k ((v.answers ++ w.answers) ++ numbers) ≡ times k v.answers + times k w.answers + times k numbers = λ k.
      omega (arith, total-append (one k) (v.answers ++ w.answers) numbers, total-append (one k) v.answers w.answers)
      in
      record {
        seats_is = f.seats_is;
        own = (let a : 0 < times v.number v.answers = f.own in omega (arith, times_is v.number));
        range = f.range;
        true_of = (longer_front xs ys noted f.true_of.0 g.true_of.0, λ k a. (truth k a).0);
        true_of_seen = λ k a. (truth k a).0 ∙ sym (truth k a).1;
        only = λ k unheld. kept_left k v w (g.only k (omega (arith, times_is k, unheld))) ∙ f.only k (omega (arith, times_is k, unheld));
        front = shorter_front xs ys noted f.true_of.0 g.true_of.0;
        now = λ t e. absurd (cc (idle, e));
      }

  pub joins : (id other : ℕ) (v w : V) → v.phase ≡ Idle → w.phase ≡ Idle → 0 < length v.answers → 0 < length w.answers → Joins Rule id v other w (united v w) spent
  joins id other v w idle idle' awake awake' s r at apart there =
      let there' : get_elem? s.views other ≡ some w = sym (set_else s.views id other (united v w) apart) ∙ there in
      let f : Fits r.seats r.served r.noted v = (r.each id v at).fits (omega arith) in
      let g : Fits r.seats r.served r.noted w = (r.each other w there').fits (omega arith) in
      let u : V = united v w in
      let views : List V = set s.views id u in
      let after : List V = set views other spent in
      let sum : (h : V → ℕ) → total h after + h w + h v ≡ total h s.views + h u + h spent = λ h. omega (arith, total_set h views other w spent there, total_set h s.views id v u at) in
      let alone : (k : ℕ) → answering k v + answering k w ≤ 1 = λ k. omega (arith, total_two (answering k) s.views id other v w (λ e. apart (sym e)) at there', r.answered k, below_le k r.seats) in
      let mine : Seated r.seats r.served r.noted u = record { awake = (let a : in_line u ≡ 0 = ap has_some idle in omega arith); fits = λ a. united_fits r.seats r.served r.noted v w idle alone f g } in
      let gone : Seated r.seats r.served r.noted spent = record { awake = omega arith; fits = λ a. absurd (omega arith) } in
      let off : total serving after ≡ total serving s.views = (let a : serving w ≡ 0 = ap is_served idle' in omega (arith, sum serving)) in
      record {
        drawn = r.drawn;
        served = r.served;
        seats = r.seats;
        noted = r.noted;
        words = r.words;
        few = r.few;
        tickets = λ t. let a : holding t w ≡ 0 = ap (has_ticket t) idle' in omega (arith, sum (holding t), r.tickets t);
        waiting = (let a : in_line w ≡ 0 = ap has_some idle' in omega (arith, sum in_line, r.waiting));
        slot = ⊎_elim (λ (x : AtHome log s.homes s.views r.noted). inl (x.0, x.1, x.2, off ∙ x.3)) (λ (x : Out s.homes s.views). inr (x.0, off ∙ x.1)) r.slot;
        each = λ j z e. ⊎_elim (λ (x : (j ≡ other) × (spent ≡ z)). subst (Seated r.seats r.served r.noted) x.1 gone)
            (λ (x : (j ≢ other) × (get_elem? views j ≡ some z)). ⊎_elim (λ (y : (j ≡ id) × (u ≡ z)). subst (Seated r.seats r.served r.noted) y.1 mine) (λ (y : (j ≢ id) × (get_elem? s.views j ≡ some z)). r.each j z y.1) (at_set s.views id j u z x.1))
            (at_set views other j spent z e);
        answered = λ k. omega (arith, sum (answering k), answering-united k v w g.range, inside_none k 0, r.answered k);
        weighed = omega (arith, sum weight, weight-united v w, r.weighed);
        within = r.within;
      }

  -- a table with the value at home, no turn taken and one seat, which answers for all numbers
  pub opens : (value : T) (seats : ℕ) → log value ≡ [] → 0 < seats → seats ≤ 64 → Rule (opening (0 ∷ 0 ∷ 0 ∷ seats ∷ []) (Some value ∷ []) (opener seats))
  opens value seats empty some_seats few =
      let v : V = opener seats in
      let first : (k : ℕ) → answering k v ≡ below k seats = λ k. grind (arith, nat_tests) in
      let mine : Seated seats 0 [] v = record {
        awake = omega arith;
        fits = λ a. record {
          seats_is = refl;
          own = omega (arith, one_same 0 0 refl);
          range = omega arith;
          true_of = (prefix_self [], λ k b. refl);
          true_of_seen = λ k b. refl;
          only = λ k unheld. refl;
          front = prefix_self [];
          now = λ t e. absurd (cc e);
        };
      } in
      record {
        drawn = 0;
        served = 0;
        seats = seats;
        noted = [];
        words = refl;
        few = few;
        tickets = λ t. omega arith;
        waiting = omega arith;
        slot = inl (value, refl, empty, refl);
        each = λ i u e. only_one i u v mine e;
        answered = λ k. omega (arith, first k);
        weighed = omega arith;
        within = λ k beyond. refl;
      }
    where
      only_one : (i : ℕ) (u v : V) → Seated seats 0 [] v → get_elem? (v ∷ []) i ≡ some u → Seated seats 0 [] u
      only_one zero u v mine e = subst (Seated seats 0 []) (some-injective v u e) mine
      only_one (suc i) u v mine e = absurd (some-ne-none u (sym e))
