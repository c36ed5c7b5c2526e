-- The steps of a turn keep the lock's rule: a seat draws a ticket, looks which is served, notes its entry, and hands over.
use Rattle.std.proofs.Common.{◌≡◌, ◌≢◌, ℕ, ◌+◌, ◌%◌, ◌^◌, ◌<◌, ◌≤◌, ◌⊎◌, inl, inr, ⊎_elim, List, [], ◌∷◌, ◌++◌, length, get_or, set, refl, sym, ap, ◌∙◌, subst, arith, Option, Some, length-append}
use Rattle.std.proofs.Math.Nat.{mod-add-mod}
use mathlib.Core.Option.{none, some}
use mathlib.Core.Option as maybe
use mathlib.Core.List.{IsPrefix}
use mathlib.Core.Logic.{dite}
use native.Mathlib.Decide.{ℕ_discrete}
use lib.ListN.{get_elem?}
use lib.Seq.{set-get_or}
use Rattle.atomic_table.specs.Table.{State, Me, Step, step, Act, keeps, takes, gives, stepped, put_back, Allows}
use Rattle.atomic_table.proofs.Lists.{at_set, set_again, one_turn}
use Rattle.seat_lock.specs.declared.view.View.{View}
use Rattle.seat_lock.specs.declared.view.Phase.{Phase}
use Rattle.seat_lock.specs.declared.view.Phase.TheVariants.{Idle, Waiting, Serving}
use Rattle.seat_lock.specs.Log.{of, Found}
use Rattle.seat_lock.specs.Sums.{one, below, inside, total, times}
use Rattle.seat_lock.specs.View.{answering, weight, IsTrueOf, IsSound, in_phase, having_seen, noting}
use Rattle.seat_lock.specs.LockRule.{has_ticket, has_some, is_served, holding, in_line, serving, Fits, Seated, AtHome, Out, LockRule}
use Rattle.seat_lock.specs.Steps.{Draws, Polls, Notes, Leaves, Recalls, Finds, served_to, Holds, HoldsMore}
use Rattle.seat_lock.proofs.Counts.{below_le, below_no, below_yes, below_is, below_more, one_same, inside_yes, total_set, total_has, total_two, total_le}
use Rattle.seat_lock.proofs.Logs.{prefix_self, prefix_trans, prefix_more, of_kept, same_more, found_same}

-- a seat whose ticket is served holds it
served_holds : (p : Phase) (t : ℕ) → ((u : ℕ) → p ≡ Serving u → u ≡ t) → is_served p ≤ has_ticket t p
served_holds Idle t h = omega arith
served_holds (Waiting u) t h = omega arith
served_holds (Serving u) t h = let e : one t u ≡ 1 = one_same t u (sym (h u refl)) in omega arith

module _ {T E : Type 0} (log : T → List (ℕ × E)) where
  abbrev V : Type 0
  V = View E

  abbrev S : Type 0
  S = State (Option T) V

  abbrev Homes : Type 0
  Homes = List (maybe.Option (Option T))

  abbrev M : Type 0
  M = Me (Option T) V

  abbrev Rule : S → Type 0
  Rule = LockRule log

  -- a seat in line answers for a number
  in_line_fits : (s : S) (r : Rule s) (id : ℕ) (v : V) → get_elem? s.views id ≡ some v → 0 < in_line v → Fits r.seats r.served r.noted v
  in_line_fits s r id v at h = (r.each id v at).fits (let a : in_line v ≤ weight v = (r.each id v at).awake in omega arith)

  -- a number is answered for once
  pub once : (s : S) (r : Rule s) (id : ℕ) (v : V) (k : ℕ) → get_elem? s.views id ≡ some v → answering k v ≤ 1
  once s r id v k at = omega (arith, total_has (answering k) s.views id v at, r.answered k, below_le k r.seats)

  rephased : (seats served : ℕ) (noted : List (ℕ × E)) (v : V) (phase : Phase) → Fits seats served noted v → ((t : ℕ) → phase ≡ Serving t → (t ≡ served) × (v.seen ≡ noted)) → Fits seats served noted (in_phase v phase)
  rephased seats served noted v phase f now = record { seats_is = f.seats_is; own = f.own; range = f.range; true_of = f.true_of; true_of_seen = f.true_of_seen; only = f.only; front = f.front; now = now }

  -- another ticket is served, and the view is of a seat whose ticket is not
  waits_on : (seats served served' : ℕ) (noted : List (ℕ × E)) (v : V) → serving v ≡ 0 → Seated seats served noted v → Seated seats served' noted v
  waits_on seats served served' noted v off d = record {
    awake = d.awake;
    fits = λ h. let f = d.fits h in record { seats_is = f.seats_is; own = f.own; range = f.range; true_of = f.true_of; true_of_seen = f.true_of_seen; only = f.only; front = f.front; now = λ t e. let x : serving v ≡ 1 = ap is_served e in absurd (omega arith) };
  }

  -- a step of one seat, which answers for the same numbers before and after
  changed : (s : S) (r : Rule s) (id : ℕ) (v w : V) → get_elem? s.views id ≡ some v → ((k : ℕ) → answering k w ≡ answering k v) → weight w ≡ weight v
      → (drawn served : ℕ) (noted : List (ℕ × E)) (homes : Homes) (words : List ℕ)
      → words ≡ drawn % 2 ^ 64 ∷ served % 2 ^ 64 ∷ length noted % 2 ^ 64 ∷ r.seats ∷ []
      → ((t : ℕ) → total (holding t) (set s.views id w) + below t served ≡ below t drawn)
      → drawn ≡ served + total in_line (set s.views id w)
      → AtHome log homes (set s.views id w) noted ⊎ Out homes (set s.views id w)
      → Seated r.seats served noted w
      → ((j : ℕ) (u : V) → j ≢ id → get_elem? s.views j ≡ some u → Seated r.seats served noted u)
      → ((k : ℕ) → r.seats ≤ k → of k noted ≡ [])
      → Rule record { words = words; homes = homes; views = set s.views id w }
  changed s r id v w at same as_heavy drawn served noted homes words are tickets waiting slot mine others within = record {
    drawn = drawn;
    served = served;
    seats = r.seats;
    noted = noted;
    words = are;
    few = r.few;
    tickets = tickets;
    waiting = waiting;
    slot = slot;
    each = λ j u e. ⊎_elim (λ (x : (j ≡ id) × (w ≡ u)). subst (Seated r.seats served noted) x.1 mine) (λ (x : (j ≢ id) × (get_elem? s.views j ≡ some u)). others j u x.0 x.1) (at_set s.views id j w u e);
    answered = λ k. omega (arith, total_set (answering k) s.views id v w at, same k, r.answered k);
    weighed = omega (arith, total_set weight s.views id v w at, as_heavy, r.weighed);
    within = within;
  }

  -- a load that changes nothing keeps the rule
  unchanged : (s : S) (r : Rule s) (id i : ℕ) (v : V) → get_elem? s.views id ≡ some v → Rule record { words = set s.words i (get_or s.words i 0); homes = s.homes; views = set s.views id v }
  unchanged s r id i v at = subst (λ (z : List ℕ × List V). Rule record { words = z.0; homes = s.homes; views = z.1 }) (λ j. (sym (set-get_or s.words i 0) j, sym (set_again s.views id v at) j)) r

  pub draws : (slots id : ℕ) (m : M) → m.0.phase ≡ Idle → 0 < weight m.0 → Allows Rule slots id m 0 (λ n. (n + 1) % 2 ^ 64) (Draws (step slots 0 1 0 none) m)
  draws slots id m idle awake s r sized at small =
      let v : V = m.0 in
      let w : V = in_phase v (Waiting r.drawn) in
      let found : get_or s.words 0 0 ≡ r.drawn % 2 ^ 64 = ap (λ ws. get_or ws 0 0) r.words in
      let words : set s.words 0 ((get_or s.words 0 0 + 1) % 2 ^ 64) ≡ (r.drawn + 1) % 2 ^ 64 ∷ r.served % 2 ^ 64 ∷ length r.noted % 2 ^ 64 ∷ r.seats ∷ [] =
      ap (λ ws. set ws 0 ((get_or ws 0 0 + 1) % 2 ^ 64)) r.words ∙ ap (λ n. n ∷ r.served % 2 ^ 64 ∷ length r.noted % 2 ^ 64 ∷ r.seats ∷ []) (mod-add-mod r.drawn (2 ^ 64) 1) in
      let line : in_line v ≡ 0 = ap has_some idle in
      let off : serving v ≡ 0 = ap is_served idle in
      let f = (r.each id v at).fits awake in (
        w,
        keeps,
        tt,
        changed s r id v w at (λ k. refl) refl (r.drawn + 1) r.served r.noted s.homes _ words
            (λ t. let h : holding t v ≡ 0 = ap (has_ticket t) idle in omega (arith, total_set (holding t) s.views id v w at, h, r.tickets t, below_more t r.drawn))
            (omega (arith, total_set in_line s.views id v w at, line, r.waiting))
            (⊎_elim (λ (x : AtHome log s.homes s.views r.noted). inl (x.0, x.1, x.2, omega (arith, total_set serving s.views id v w at, off, x.3)))
            (λ (x : Out s.homes s.views). inr (x.0, omega (arith, total_set serving s.views id v w at, off, x.1))) r.slot)
            record { awake = (let h : 0 < weight v = awake in omega arith); fits = λ h. rephased r.seats r.served r.noted v (Waiting r.drawn) f (λ t e. absurd (cc e)) }
            (λ j u other there. r.each j u there)
            r.within,
        (r.drawn, found, refl),
      )

  -- a seat that waits finds its ticket from the one served on, below the next one
  in_order : (s : S) (r : Rule s) (id t : ℕ) (v : V) → get_elem? s.views id ≡ some v → v.phase ≡ Waiting t → (r.served ≤ t) × (t < r.drawn)
  in_order s r id t v at waits =
      let h : holding t v ≡ 1 = ap (has_ticket t) waits ∙ one_same t t refl in
      let few : holding t v ≤ total (holding t) s.views = total_has (holding t) s.views id v at in
      let sum : total (holding t) s.views + below t r.served ≡ below t r.drawn = r.tickets t in
      let top : below t r.drawn ≤ 1 = below_le t r.drawn in
      let drawn : 0 < below t r.drawn = omega arith in
      let none_below : below t r.served ≡ 0 = omega arith in
      let low : (t < r.served) → ⊥ = λ lt. let y : below t r.served ≡ 1 = below_yes t r.served lt in omega arith in
      (omega arith, below_is t r.drawn drawn)

  -- there are no more in line than seats
  few_in_line : (s : S) (r : Rule s) → r.drawn ≤ r.served + 64
  few_in_line s r = omega (arith, total_le in_line weight s.views (λ i v at. (r.each i v at).awake), r.waiting, r.weighed, r.few)

  -- where a seat waits with the ticket that is served, no seat holds the value
  none_serves : (s : S) (r : Rule s) (id : ℕ) (v : V) → get_elem? s.views id ≡ some v → v.phase ≡ Waiting r.served → total serving s.views ≡ 0
  none_serves s r id v at waits =
      let w : V = in_phase v (Serving r.served) in
      let views : List V = set s.views id w in
      let off : serving v ≡ 0 = ap is_served waits in
      let on : holding r.served v ≡ 1 = ap (has_ticket r.served) waits ∙ one_same r.served r.served refl in
      let on' : holding r.served w ≡ 1 = one_same r.served r.served refl in
      let a : total serving views + serving v ≡ total serving s.views + serving w = total_set serving s.views id v w at in
      let b : total (holding r.served) views + holding r.served v ≡ total (holding r.served) s.views + holding r.served w = total_set (holding r.served) s.views id v w at in
      let le : total serving views ≤ total (holding r.served) views =
      total_le serving (holding r.served) views
      (λ j u e. ⊎_elim (λ (x : (j ≡ id) × (w ≡ u)). subst (λ (z : V). serving z ≤ holding r.served z) x.1 (served_holds (Serving r.served) r.served (λ k e. cc e)))
      (λ (x : (j ≢ id) × (get_elem? s.views j ≡ some u)). served_holds u.phase r.served (λ k e. ((in_line_fits s r j u x.1 (let h : in_line u ≡ 1 = ap has_some e in omega arith)).now k e).0))
      (at_set s.views id j w u e)) in
      let sum : total (holding r.served) s.views + below r.served r.served ≡ below r.served r.drawn = r.tickets r.served in
      let top : below r.served r.drawn ≤ 1 = below_le r.served r.drawn in
      omega arith

  -- what a seat finds where the noted log is the value's
  finds : (s : S) (r : Rule s) (id : ℕ) (v : V) (x : T) → get_elem? s.views id ≡ some v → Fits r.seats r.served r.noted v → log x ≡ r.noted → Finds log v x
  finds s r id v x at f is =
      let true_of : IsTrueOf (log x) v = subst (λ (l : List (ℕ × E)). IsTrueOf l v) (sym is) f.true_of in
      let own : 0 < answering v.number v = let h : 0 < times v.number v.answers = f.own in omega arith in
      let found : (k : ℕ) → 0 < answering k v → Found k v.seen (log x) = λ k h. found_same k v.seen (log x) true_of.0 (sym (f.true_of_seen k h) ∙ true_of.1 k h) in
      record {
        goes_on = found v.number own;
        found = found;
        true_of = true_of;
        within = λ k h.
            let beyond : r.seats ≤ k = omega (arith, f.seats_is) in
            (ap (of k) is ∙ r.within k beyond, f.only k (omega (arith, total_has (answering k) s.views id v at, r.answered k, below_no k r.seats beyond)));
      }

  -- the seat whose ticket is served takes the value
  takes_it : (s : S) (r : Rule s) (slots id n : ℕ) (m : M) (t : ℕ) → m.0.phase ≡ Waiting t → get_elem? s.views id ≡ some m.0 → t ≡ r.served → get_or s.words 1 0 ≡ t % 2 ^ 64 → AtHome log s.homes s.views r.noted
      → (w : V) × (a : Act (Option T)) × Rattle.atomic_table.specs.Table.Valid s.homes m.1 a × Rule (stepped s 1 (get_or s.words 1 0) id m.1 w a) × Polls log (step slots 1 0 0 none) m (get_or s.words 1 0) (w, Rattle.atomic_table.specs.Table.carried_after m.1 a)
  takes_it s r slots id n m t waits at is found (x, homes, same, none_served) =
      let v : V = m.0 in
      let w : V = having_seen (in_phase v (Serving t)) (log x) in
      let f : Fits r.seats r.served r.noted v = in_line_fits s r id v at (let h : in_line v ≡ 1 = ap has_some waits in omega arith) in
      let off : serving v ≡ 0 = ap is_served waits in
      let line : in_line v ≡ 1 = ap has_some waits in
      let awake : in_line v ≤ weight v = (r.each id v at).awake in (
        w,
        takes 0 (Some x),
        ap (λ h. get_elem? h 0) homes,
        changed s r id v w at (λ k. refl) refl r.drawn r.served r.noted (set s.homes 0 none) _ (set-get_or s.words 1 0 ∙ r.words)
            (λ k. let h : holding k v ≡ one k t = ap (has_ticket k) waits in omega (arith, total_set (holding k) s.views id v w at, h, r.tickets k))
            (omega (arith, total_set in_line s.views id v w at, line, r.waiting))
            (inr (ap (λ h. set h 0 none) homes, omega (arith, total_set serving s.views id v w at, off, none_served)))
            record {
              awake = omega arith;
              fits = λ h. record {
                seats_is = f.seats_is;
                own = f.own;
                range = f.range;
                true_of = (subst (λ (l : List (ℕ × E)). IsPrefix l r.noted) (sym same) (prefix_self r.noted), f.true_of.1);
                true_of_seen = λ k h. f.true_of.1 k h ∙ ap (of k) (sym same);
                only = f.only;
                front = subst (IsPrefix v.shorter_seen) (sym same) (prefix_trans v.shorter_seen v.seen r.noted f.front f.true_of.0);
                now = λ u e. (let d : t ≡ u = cc e in sym d ∙ is, same);
              };
            }
            (λ j u other there. r.each j u there)
            r.within,
        (λ u waits'. let d : t ≡ u = cc (waits, waits') in
            ((λ ne. absurd (ne (found ∙ ap (λ (k : ℕ). k % 2 ^ 64) d))), λ e. (x, finds s r id v x at f same, ap (λ (k : ℕ). served_to log m k x) d))),
      )

  pub polls : (slots id : ℕ) (m : M) (t : ℕ) → m.0.phase ≡ Waiting t → Allows Rule slots id m 1 (λ n. n) (Polls log (step slots 1 0 0 none) m)
  polls slots id m t waits s r sized at small =
      let v : V = m.0 in
      let order = in_order s r id t v at waits in
      let few : r.drawn ≤ r.served + 64 = few_in_line s r in
      let found : get_or s.words 1 0 ≡ r.served % 2 ^ 64 = ap (λ ws. get_or ws 1 0) r.words in
      dite (ℕ_discrete (get_or s.words 1 0) (t % 2 ^ 64))
      (λ here.
      let is : t ≡ r.served = sym (one_turn r.served t (2 ^ 64) order.0 (omega arith) (sym found ∙ here)) in
      let none_served : total serving s.views ≡ 0 = none_serves s r id v at (waits ∙ ap Waiting is) in
      ⊎_elim (takes_it s r slots id 0 m t waits at is here) (λ (x : Out s.homes s.views). absurd (omega (arith, none_served, x.1))) r.slot)
      (λ elsewhere. (
        v,
        keeps,
        tt,
        unchanged s r id 1 v at,
        (λ u waits'. let d : t ≡ u = cc (waits, waits') in
            ((λ ne. refl), λ e. absurd (elsewhere (e ∙ ap (λ (k : ℕ). k % 2 ^ 64) (sym d))))),
      ))

  -- where a seat's ticket is served, the value is out with it
  is_out : (s : S) (r : Rule s) (id : ℕ) (v : V) → get_elem? s.views id ≡ some v → serving v ≡ 1 → Out s.homes s.views
  is_out s r id v at on = ⊎_elim (λ (x : AtHome log s.homes s.views r.noted). absurd (omega (arith, total_has serving s.views id v at, on, x.3))) (λ (x : Out s.homes s.views). x) r.slot

  -- and no other seat's is
  no_other : (s : S) (r : Rule s) (id j : ℕ) (v u : V) → j ≢ id → get_elem? s.views id ≡ some v → get_elem? s.views j ≡ some u → serving v ≡ 1 → serving u ≡ 0
  no_other s r id j v u other at there on = omega (arith, total_two serving s.views id j v u (λ e. other (sym e)) at there, on, (is_out s r id v at on).1)

  -- a number that one seat answers for is below the number of seats, and no other seat answers for it
  pub own_below : (s : S) (r : Rule s) (id k : ℕ) (v : V) → get_elem? s.views id ≡ some v → 0 < answering k v → k < r.seats
  own_below s r id k v at h = below_is k r.seats (omega (arith, total_has (answering k) s.views id v at, h, r.answered k))

  pub others_not : (s : S) (r : Rule s) (id j k : ℕ) (v u : V) → j ≢ id → get_elem? s.views id ≡ some v → get_elem? s.views j ≡ some u → 0 < answering k v → answering k u ≡ 0
  others_not s r id j k v u other at there h = omega (arith, total_two (answering k) s.views id j v u (λ e. other (sym e)) at there, h, r.answered k, below_le k r.seats)

  -- the log grew by an entry of a number that the view does not answer for
  outgrown : (seats served k : ℕ) (noted : List (ℕ × E)) (e : E) (v : V) → serving v ≡ 0 → answering k v ≡ 0 → Seated seats served noted v → Seated seats served (noted ++ (k, e) ∷ []) v
  outgrown seats served k noted e v off not_its d = record {
    awake = d.awake;
    fits = λ h. let f = d.fits h in record {
      seats_is = f.seats_is;
      own = f.own;
      range = f.range;
      true_of = (prefix_more v.seen noted ((k, e) ∷ []) f.true_of.0, λ i a. f.true_of.1 i a ∙ sym (of_kept i k noted e (λ same. let b : answering i v ≡ 0 = ap (λ (n : ℕ). answering n v) (sym same) ∙ not_its in omega arith)));
      true_of_seen = f.true_of_seen;
      only = f.only;
      front = f.front;
      now = λ t is. let x : serving v ≡ 1 = ap is_served is in absurd (omega arith);
    };
  }

  -- the view that noted the entry
  grown : (seats served : ℕ) (noted : List (ℕ × E)) (e : E) (v : V) → v.seen ≡ noted → Fits seats served noted v → Fits seats served (noted ++ (v.number, e) ∷ []) (noting v e)
  grown seats served noted e v same f =
      let one_more : List (ℕ × E) = (v.number, e) ∷ [] in
      let seen : v.seen ++ one_more ≡ noted ++ one_more = ap (λ l. l ++ one_more) same in
      record {
        seats_is = f.seats_is;
        own = f.own;
        range = f.range;
        true_of = (subst (λ (l : List (ℕ × E)). IsPrefix l (noted ++ one_more)) (sym seen) (prefix_self (noted ++ one_more)), λ k h. same_more k v.number e v.kept noted (f.true_of.1 k h));
        true_of_seen = λ k h. same_more k v.number e v.kept v.seen (f.true_of_seen k h);
        only = λ k none. of_kept k v.number v.kept e (λ same. let a : times k v.answers ≡ times v.number v.answers = ap (λ (n : ℕ). times n v.answers) (sym same) in let b : 0 < times v.number v.answers = f.own in omega arith) ∙ f.only k none;
        front = prefix_more v.shorter_seen v.seen one_more f.front;
        now = λ t is. ((f.now t is).0, seen);
      }

  pub notes : (slots id : ℕ) (m : M) → HoldsMore log m → Allows Rule slots id m 2 (λ n. (n + 1) % 2 ^ 64) (Notes log (step slots 2 1 0 none) m)
  notes slots id m (t, y, e, phase, carried, more) s r sized at small =
      let v : V = m.0 in
      let w : V = noting v e in
      let on : serving v ≡ 1 = ap is_served phase in
      let line : in_line v ≡ 1 = ap has_some phase in
      let awake : in_line v ≤ weight v = (r.each id v at).awake in
      let f : Fits r.seats r.served r.noted v = in_line_fits s r id v at (omega arith) in
      let same : v.seen ≡ r.noted = (f.now t phase).1 in
      let own : 0 < answering v.number v = let h : 0 < times v.number v.answers = f.own in omega arith in
      let mine : v.number < r.seats = own_below s r id v.number v at own in
      let out : Out s.homes s.views = is_out s r id v at on in
      let noted : List (ℕ × E) = r.noted ++ (v.number, e) ∷ [] in
      let long : length r.noted + 1 ≡ length noted = sym (length-append r.noted ((v.number, e) ∷ [])) in
      let words : set s.words 2 ((get_or s.words 2 0 + 1) % 2 ^ 64) ≡ r.drawn % 2 ^ 64 ∷ r.served % 2 ^ 64 ∷ length noted % 2 ^ 64 ∷ r.seats ∷ [] =
      ap (λ ws. set ws 2 ((get_or ws 2 0 + 1) % 2 ^ 64)) r.words
      ∙ ap (λ n. r.drawn % 2 ^ 64 ∷ r.served % 2 ^ 64 ∷ n ∷ r.seats ∷ []) (mod-add-mod (length r.noted) (2 ^ 64) 1 ∙ ap (λ (n : ℕ). n % 2 ^ 64) long) in (
        w,
        keeps,
        tt,
        changed s r id v w at (λ k. refl) refl r.drawn r.served noted s.homes _ words
            (λ k. omega (arith, total_set (holding k) s.views id v w at, r.tickets k))
            (omega (arith, total_set in_line s.views id v w at, r.waiting))
            (inr (out.0, omega (arith, total_set serving s.views id v w at, out.1)))
            record { awake = awake; fits = λ h. grown r.seats r.served r.noted e v same f }
            (λ j u other there. outgrown r.seats r.served v.number r.noted e u (no_other s r id j v u other at there on) (others_not s r id j v.number v u other at there own) (r.each j u there))
            (λ k beyond. of_kept k v.number r.noted e (λ same. let d : v.number ≡ k = same in omega arith) ∙ r.within k beyond),
        (y, e, carried, more, refl),
      )

  pub leaves : (slots id : ℕ) (m : M) → Holds log m → Allows Rule slots id m 1 (λ n. (n + 1) % 2 ^ 64) (Leaves (step slots 1 1 0 none) m)
  leaves slots id m (t, y, phase, carried, same) s r sized at small =
      let v : V = m.0 in
      let w : V = in_phase v Idle in
      let on : serving v ≡ 1 = ap is_served phase in
      let line : in_line v ≡ 1 = ap has_some phase in
      let awake : in_line v ≤ weight v = (r.each id v at).awake in
      let f : Fits r.seats r.served r.noted v = in_line_fits s r id v at (omega arith) in
      let now : (t ≡ r.served) × (v.seen ≡ r.noted) = f.now t phase in
      let out : Out s.homes s.views = is_out s r id v at on in
      let words : set s.words 1 ((get_or s.words 1 0 + 1) % 2 ^ 64) ≡ r.drawn % 2 ^ 64 ∷ (r.served + 1) % 2 ^ 64 ∷ length r.noted % 2 ^ 64 ∷ r.seats ∷ [] =
      ap (λ ws. set ws 1 ((get_or ws 1 0 + 1) % 2 ^ 64)) r.words ∙ ap (λ n. r.drawn % 2 ^ 64 ∷ n ∷ length r.noted % 2 ^ 64 ∷ r.seats ∷ []) (mod-add-mod r.served (2 ^ 64) 1) in
      let home : put_back s.homes m.1 ≡ some (Some y) ∷ [] = ap (put_back s.homes) carried ∙ ap (λ h. set h 0 (some (Some y))) out.0 in (
        w,
        gives,
        tt,
        changed s r id v w at (λ k. refl) refl r.drawn (r.served + 1) r.noted (put_back s.homes m.1) _ words
            (λ k. let h : holding k v ≡ one k r.served = ap (has_ticket k) phase ∙ ap (one k) now.0 in omega (arith, total_set (holding k) s.views id v w at, h, r.tickets k, below_more k r.served))
            (omega (arith, total_set in_line s.views id v w at, line, r.waiting))
            (inl (y, home, same ∙ now.1, omega (arith, total_set serving s.views id v w at, on, out.1)))
            record { awake = omega arith; fits = λ h. record { seats_is = f.seats_is; own = f.own; range = f.range; true_of = f.true_of; true_of_seen = f.true_of_seen; only = f.only; front = f.front; now = λ k e. absurd (cc e) } }
            (λ j u other there. waits_on r.seats r.served (r.served + 1) r.noted u (no_other s r id j v u other at there on) (r.each j u there))
            r.within,
        refl,
      )

  -- a view that fits is sound
  sound : (s : S) (r : Rule s) (id : ℕ) (v : V) → get_elem? s.views id ≡ some v → Fits r.seats r.served r.noted v → IsSound v
  sound s r id v at f = record {
    range = f.range;
    own = (let h : 0 < times v.number v.answers = f.own in omega arith);
    once = λ k. once s r id v k at;
    inside_seats = λ k h. let beyond : r.seats ≤ k = omega (arith, f.seats_is) in omega (arith, total_has (answering k) s.views id v at, r.answered k, below_no k r.seats beyond);
    same = f.true_of_seen;
    only = λ k none. f.only k (omega arith);
    unused = λ k from to.
        let spare : inside v.next v.end k ≡ 1 = inside_yes v.next v.end k from to in
        let most : answering k v ≤ 1 = once s r id v k at in
        sym (f.true_of_seen k (omega arith)) ∙ f.only k (omega arith);
    front = f.front;
  }

  pub recalls : (slots id : ℕ) (m : M) → Allows Rule slots id m 0 (λ n. n) (Recalls (step slots 0 0 0 none) m)
  recalls slots id m s r sized at small = (m.0, keeps, tt, unchanged s r id 0 m.0 at, (refl, λ h. sound s r id m.0 at ((r.each id m.0 at).fits (omega arith))))
