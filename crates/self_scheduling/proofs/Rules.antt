-- Each step keeps the rule.
use Rattle.std.proofs.Common.{◌≡◌, ◌≢◌, ℕ, ◌+◌, ◌<◌, ◌⊎◌, inl, inr, ⊎_elim, List, [], ◌∷◌, ◌++◌, length, get_or, set, replicate, refl, sym, ap, ◌∙◌, subst, arith, Some, None}
use Rattle.std.specs.Prelude.{slice_get}
use Rattle.std.proofs.lemmas.List.{length-set, length-map, length-replicate, set-get_or}
use Rattle.std.proofs.lemmas.Option.{none-some, same_Some}
use mathlib.Core.Option.{none, some, some-injective, some-ne-none}
use mathlib.Core.Option as maybe
use mathlib.Core.Logic.{dite}
use native.Mathlib.Decide.{ℕ_discrete}
use lib.ListN.{get_elem?}
use Rattle.atomic_table.specs.Table.{State, step, keeps, takes, gives, Allows, Splits, Joins, opening, Seen}
use Rattle.atomic_table.proofs.Lists.{at_set, at_snoc, at_longer, set_here, set_else}
use Rattle.self_scheduling.specs.declared.view.View.{View}
use Rattle.self_scheduling.specs.Views.{opener, hiring, hired, back_with, gone}
use Rattle.self_scheduling.specs.Claims.{AreClaimed}
use Rattle.self_scheduling.specs.Steps.{Claims, GivesBack}
use Rattle.self_scheduling.proofs.Seats.{found, within, get_found, get_within, word_here, word_kept, word_zero, word_was, threads_set, threads_snoc, threads_two, home_at, at_home, all_unset, only}

module _ {T : Type 0} (items : List T) (leaves : ℕ → T → T → Type 0) (threads : ℕ) where
  abbrev pub Holds : State T View → Type 0
  Holds = AreClaimed items leaves threads

  -- where a seat with this view holds nothing, it is not one that holds something
  empty_hand : (views : List View) (id other : ℕ) (v w : View) (k : ℕ) → get_elem? views id ≡ some v → v.held ≡ None
      → get_elem? views other ≡ some w → w.held ≡ Some k → other ≢ id
  empty_hand views id other v w k mine free at holds same =
      let one : v ≡ w = some-injective v w (sym mine ∙ ap (get_elem? views) (sym same) ∙ at) in
      none-some k (sym free ∙ ap (λ (u : View). u.held) one ∙ holds)

  -- a seat that holds nothing claims an item that nobody had claimed
  taken : (id k : ℕ) (v : View) (x : T) (s : State T View) → Holds s → get_elem? s.views id ≡ some v → v.held ≡ None → v.past ≡ k
      → 0 < v.threads → slice_get items k ≡ Some x → get_or s.words k 0 ≡ 0
      → Holds record { words = set s.words k 1; homes = set s.homes k none; views = set s.views id (record v { held = Some k; past = k + 1 }) }
  taken id k v x s r mine free at some_thread is unset =
      let w : View = record v { held = Some k; past = k + 1 } in
      let inside : k < length items = get_within items k x is in
      let in_words : k < length s.words = omega (arith, inside, r.words) in
      let in_homes : k < length s.homes = omega (arith, inside, r.homes) in
      let in_views : id < length s.views = within s.views id v mine in
      let was : get_elem? s.homes k ≡ some (some x) = r.unclaimed k x is unset in
      let not_out : get_elem? s.homes k ≢ some none = λ gone. some-ne-none x (some-injective (some x) none (sym was ∙ gone)) in
      record {
        words = length-set s.words k 1 ∙ r.words;
        homes = length-set s.homes k none ∙ r.homes;
        unclaimed = λ j y at_y none_yet.
            let z = word_zero s.words k j in_words none_yet in
            set_else s.homes k j none z.0 ∙ r.unclaimed j y at_y z.1;
        called = λ j y z at_y claimed home. ⊎_elim
            (λ (e : (j ≡ k) × (none ≡ some z)). absurd (some-ne-none z (sym e.1)))
            (λ (e : (j ≢ k) × (get_elem? s.homes j ≡ some (some z))). r.called j y z at_y (word_was s.words k j e.0 claimed) e.1)
            (at_set s.homes k j none (some z) home);
        out = λ j home. ⊎_elim
            (λ (e : (j ≡ k) × (none ≡ none)). (
              subst (λ i. get_or (set s.words k 1) i 0 ≢ 0) (sym e.0) (word_here s.words k in_words),
              (id, w, set_here s.views id w in_views, ap Some (sym e.0)),
            ))
            (λ (e : (j ≢ k) × (get_elem? s.homes j ≡ some none)).
            let o = r.out j e.1 in
            let other = empty_hand s.views id o.1.0 v o.1.1 j mine free o.1.2 o.1.3 in
            (word_kept s.words k j in_words o.0, (o.1.0, o.1.1, set_else s.views id o.1.0 w other ∙ o.1.2, o.1.3)))
            (at_set s.homes k j none none home);
        held = λ i u j at_u holds. ⊎_elim
            (λ (e : (i ≡ id) × (w ≡ u)).
            let same : k ≡ j = same_Some k j (ap (λ (q : View). q.held) e.1 ∙ holds) in
            subst (λ n. get_elem? (set s.homes k none) n ≡ some none) same (set_here s.homes k none in_homes))
            (λ (e : (i ≢ id) × (get_elem? s.views i ≡ some u)).
            let o : get_elem? s.homes j ≡ some none = r.held i u j e.1 holds in
            set_else s.homes k j none (λ same. not_out (ap (get_elem? s.homes) (sym same) ∙ o)) ∙ o)
            (at_set s.views id i w u at_u);
        once = λ i l u q j at_u at_q holds_u holds_q. ⊎_elim
            (λ (e : (i ≡ id) × (w ≡ u)). ⊎_elim
            (λ (f : (l ≡ id) × (w ≡ q)). e.0 ∙ sym f.0)
            (λ (f : (l ≢ id) × (get_elem? s.views l ≡ some q)).
            let same : k ≡ j = same_Some k j (ap (λ (p : View). p.held) e.1 ∙ holds_u) in
            absurd (not_out (ap (get_elem? s.homes) same ∙ r.held l q j f.1 holds_q)))
            (at_set s.views id l w q at_q))
            (λ (e : (i ≢ id) × (get_elem? s.views i ≡ some u)). ⊎_elim
            (λ (f : (l ≡ id) × (w ≡ q)).
            let same : k ≡ j = same_Some k j (ap (λ (p : View). p.held) f.1 ∙ holds_q) in
            absurd (not_out (ap (get_elem? s.homes) same ∙ r.held i u j e.1 holds_u)))
            (λ (f : (l ≢ id) × (get_elem? s.views l ≡ some q)). r.once i l u q j e.1 f.1 holds_u holds_q)
            (at_set s.views id l w q at_q))
            (at_set s.views id i w u at_u);
        idle = λ i u at_u none_left. ⊎_elim
            (λ (e : (i ≡ id) × (w ≡ u)).
            let same : v.threads ≡ u.threads = ap (λ (q : View). q.threads) e.1 in absurd (omega (arith, same, none_left, some_thread)))
            (λ (e : (i ≢ id) × (get_elem? s.views i ≡ some u)). r.idle i u e.1 none_left)
            (at_set s.views id i w u at_u);
        all = let h = threads_set s.views id v w mine in let a = r.all in omega (arith, h, a);
        past = λ i u j at_u before. ⊎_elim
            (λ (e : (i ≡ id) × (w ≡ u)).
            let upto : k + 1 ≡ u.past = ap (λ (q : View). q.past) e.1 in
            dite (ℕ_discrete j k)
            (λ (same : j ≡ k). subst (λ n. get_or (set s.words k 1) n 0 ≢ 0) (sym same) (word_here s.words k in_words))
            (λ other. let earlier : j < v.past = omega (arith, before, upto, at, other) in
            word_kept s.words k j in_words (r.past id v j mine earlier)))
            (λ (e : (i ≢ id) × (get_elem? s.views i ≡ some u)). word_kept s.words k j in_words (r.past i u j e.1 before))
            (at_set s.views id i w u at_u);
      }

  -- a seat that holds nothing comes to an item that somebody has claimed
  passed : (id k : ℕ) (v : View) (s : State T View) → Holds s → get_elem? s.views id ≡ some v → v.held ≡ None → v.past ≡ k
      → k < length items → get_or s.words k 0 ≢ 0
      → Holds record { words = set s.words k 1; homes = s.homes; views = set s.views id (record v { past = k + 1 }) }
  passed id k v s r mine free at inside claimed =
      let w : View = record v { past = k + 1 } in
      let in_words : k < length s.words = omega (arith, inside, r.words) in
      let back : (i : ℕ) (u : View) → get_elem? (set s.views id w) i ≡ some u
      → (q : View) × (get_elem? s.views i ≡ some q) × (q.held ≡ u.held) × (q.threads ≡ u.threads) =
      λ i u at_u. ⊎_elim
      (λ (e : (i ≡ id) × (w ≡ u)). (v, ap (get_elem? s.views) e.0 ∙ mine, ap (λ (p : View). p.held) e.1, ap (λ (p : View). p.threads) e.1))
      (λ (e : (i ≢ id) × (get_elem? s.views i ≡ some u)). (u, e.1, refl, refl))
      (at_set s.views id i w u at_u) in
      record {
        words = length-set s.words k 1 ∙ r.words;
        homes = r.homes;
        unclaimed = λ j y at_y none_yet. r.unclaimed j y at_y (word_zero s.words k j in_words none_yet).1;
        called = λ j y z at_y n home. dite (ℕ_discrete j k)
            (λ (same : j ≡ k). r.called j y z at_y (subst (λ i. get_or s.words i 0 ≢ 0) (sym same) claimed) home)
            (λ other. r.called j y z at_y (word_was s.words k j other n) home);
        out = λ j home.
            let o = r.out j home in
            let other = empty_hand s.views id o.1.0 v o.1.1 j mine free o.1.2 o.1.3 in
            (word_kept s.words k j in_words o.0, (o.1.0, o.1.1, set_else s.views id o.1.0 w other ∙ o.1.2, o.1.3));
        held = λ i u j at_u holds. let b = back i u at_u in r.held i b.0 j b.1 (b.2 ∙ holds);
        once = λ i l u q j at_u at_q holds_u holds_q.
            let b = back i u at_u in let c = back l q at_q in r.once i l b.0 c.0 j b.1 c.1 (b.2 ∙ holds_u) (c.2 ∙ holds_q);
        idle = λ i u at_u none_left. let b = back i u at_u in sym b.2 ∙ r.idle i b.0 b.1 (b.3 ∙ none_left);
        all = let h = threads_set s.views id v w mine in let a = r.all in omega (arith, h, a);
        past = λ i u j at_u before. ⊎_elim
            (λ (e : (i ≡ id) × (w ≡ u)).
            let upto : k + 1 ≡ u.past = ap (λ (q : View). q.past) e.1 in
            dite (ℕ_discrete j k)
            (λ (same : j ≡ k). subst (λ n. get_or (set s.words k 1) n 0 ≢ 0) (sym same) (word_here s.words k in_words))
            (λ other. let earlier : j < v.past = omega (arith, before, upto, at, other) in
            word_kept s.words k j in_words (r.past id v j mine earlier)))
            (λ (e : (i ≢ id) × (get_elem? s.views i ≡ some u)). word_kept s.words k j in_words (r.past i u j e.1 before))
            (at_set s.views id i w u at_u);
      }

  pub claims : (slots id k : ℕ) (v : View) → k < length items → v.held ≡ None → v.past ≡ k → 0 < v.threads
      → Allows Holds slots id (v, []) k (λ _. 1) (Claims items (step slots k 1 0 none) (v, []))
  claims slots id k v inside free at some_thread s r sized mine small =
      let x = get_found items k inside in
      dite (ℕ_discrete (get_or s.words k 0) 0)
      (λ zero_word. (
        record v { held = Some k; past = k + 1 },
        takes k x.0,
        r.unclaimed k x.0 x.1 zero_word,
        taken id k v x.0 s r mine free at some_thread x.1 zero_word,
        ((λ _. (x.0, x.1, refl)), (λ n. absurd (n zero_word))),
      ))
      (λ claimed. (
        record v { past = k + 1 },
        keeps,
        tt,
        passed id k v s r mine free at inside claimed,
        ((λ e. absurd (claimed e)), (λ _. refl)),
      ))

  -- a seat gives back what a call left of the item that it held
  pub gives_back : (slots id k : ℕ) (v : View) (x y : T) → slice_get items k ≡ Some x → leaves k x y → v.held ≡ Some k → 0 < v.threads
      → Allows Holds slots id (v, (k, y) ∷ []) k (λ n. n) (GivesBack (step slots k 0 0 none) (v, (k, y) ∷ []))
  gives_back slots id k v x y is left holding some_thread s r sized mine small =
      let w : View = record v { held = None } in
      let inside : k < length items = get_within items k x is in
      let in_homes : k < length s.homes = omega (arith, inside, r.homes) in
      let in_views : id < length s.views = within s.views id v mine in
      let was_out : get_elem? s.homes k ≡ some none = r.held id v k mine holding in
      let claimed = (r.out k was_out).0 in
      let words_same : set s.words k (get_or s.words k 0) ≡ s.words = set-get_or s.words k 0 in
      let held_by : (i : ℕ) (u : View) (j : ℕ) → i ≢ id → get_elem? s.views i ≡ some u → u.held ≡ Some j → j ≢ k =
      λ i u j other at_u holds same. other (r.once i id u v k at_u mine (holds ∙ ap Some same) holding) in
      let kept : Holds record { words = s.words; homes = set s.homes k (some y); views = set s.views id w } = record {
        words = r.words;
        homes = length-set s.homes k (some y) ∙ r.homes;
        unclaimed = λ j z at_z none_yet.
            set_else s.homes k j (some y) (λ same. claimed (ap (λ i. get_or s.words i 0) (sym same) ∙ none_yet))
            ∙ r.unclaimed j z at_z none_yet;
        called = λ j z u at_z n home. ⊎_elim
            (λ (e : (j ≡ k) × (some y ≡ some u)).
            let same_item : x ≡ z = same_Some x z (sym is ∙ ap (slice_get items) (sym e.0) ∙ at_z) in
            let same_left : y ≡ u = some-injective y u e.1 in
            subst (λ i. leaves i z u) (sym e.0) (subst (λ q. leaves k q u) same_item (subst (leaves k x) same_left left)))
            (λ (e : (j ≢ k) × (get_elem? s.homes j ≡ some (some u))). r.called j z u at_z n e.1)
            (at_set s.homes k j (some y) (some u) home);
        out = λ j home. ⊎_elim
            (λ (e : (j ≡ k) × (some y ≡ none)). absurd (some-ne-none y e.1))
            (λ (e : (j ≢ k) × (get_elem? s.homes j ≡ some none)).
            let o = r.out j e.1 in
            let other : o.1.0 ≢ id = λ same.
            e.0 (sym (same_Some k j (sym holding
            ∙ ap (λ (q : View). q.held) (some-injective v o.1.1 (sym mine ∙ ap (get_elem? s.views) (sym same) ∙ o.1.2)) ∙ o.1.3))) in
            (o.0, (o.1.0, o.1.1, set_else s.views id o.1.0 w other ∙ o.1.2, o.1.3)))
            (at_set s.homes k j (some y) none home);
        held = λ i u j at_u holds. ⊎_elim
            (λ (e : (i ≡ id) × (w ≡ u)). absurd (none-some j (ap (λ (q : View). q.held) e.1 ∙ holds)))
            (λ (e : (i ≢ id) × (get_elem? s.views i ≡ some u)).
            set_else s.homes k j (some y) (held_by i u j e.0 e.1 holds) ∙ r.held i u j e.1 holds)
            (at_set s.views id i w u at_u);
        once = λ i l u q j at_u at_q holds_u holds_q. ⊎_elim
            (λ (e : (i ≡ id) × (w ≡ u)). absurd (none-some j (ap (λ (p : View). p.held) e.1 ∙ holds_u)))
            (λ (e : (i ≢ id) × (get_elem? s.views i ≡ some u)). ⊎_elim
            (λ (f : (l ≡ id) × (w ≡ q)). absurd (none-some j (ap (λ (p : View). p.held) f.1 ∙ holds_q)))
            (λ (f : (l ≢ id) × (get_elem? s.views l ≡ some q)). r.once i l u q j e.1 f.1 holds_u holds_q)
            (at_set s.views id l w q at_q))
            (at_set s.views id i w u at_u);
        idle = λ i u at_u none_left. ⊎_elim
            (λ (e : (i ≡ id) × (w ≡ u)). ap (λ (q : View). q.held) (sym e.1))
            (λ (e : (i ≢ id) × (get_elem? s.views i ≡ some u)). r.idle i u e.1 none_left)
            (at_set s.views id i w u at_u);
        all = let h = threads_set s.views id v w mine in let a = r.all in omega (arith, h, a);
        past = λ i u j at_u before. ⊎_elim
            (λ (e : (i ≡ id) × (w ≡ u)). r.past id v j mine (subst (λ n. j < n) (sym (ap (λ (q : View). q.past) e.1)) before))
            (λ (e : (i ≢ id) × (get_elem? s.views i ≡ some u)). r.past i u j e.1 before)
            (at_set s.views id i w u at_u);
      } in (
        w,
        gives,
        tt,
        subst (λ ws. Holds record { words = ws; homes = set s.homes k (some y); views = set s.views id w }) (sym words_same) kept,
        refl,
      )

  -- a seat that holds nothing and answers for more than one thread makes a seat for one of them
  pub hires : (id : ℕ) (v : View) → v.held ≡ None → 1 < v.threads → Splits Holds id v (hiring v) hired
  hires id v free several s r mine =
      let w : View = hiring v in
      let fewer : w.threads + 1 ≡ v.threads = omega (arith, several) in
      let views : List View = set s.views id w ++ hired ∷ [] in
      let old : (i : ℕ) (u : View) → get_elem? s.views i ≡ some u → i ≢ id → get_elem? views i ≡ some u =
      λ i u at other. at_longer (set s.views id w) (hired ∷ []) i u (set_else s.views id i w other ∙ at) in
      -- a seat after the step is this one, another one of before, or the new one
      let was : (i : ℕ) (u : View) → get_elem? views i ≡ some u
      → ((i ≡ id) × (w ≡ u)) ⊎ (((i ≢ id) × (get_elem? s.views i ≡ some u)) ⊎ (hired ≡ u)) =
      λ i u at. ⊎_elim
      (λ (e : get_elem? (set s.views id w) i ≡ some u). ⊎_elim (λ (f : (i ≡ id) × (w ≡ u)). inl f)
      (λ (f : (i ≢ id) × (get_elem? s.views i ≡ some u)). inr (inl f)) (at_set s.views id i w u e))
      (λ (e : hired ≡ u). inr (inr e))
      (at_snoc (set s.views id w) hired u i at) in
      let holder : (i : ℕ) (u : View) (j : ℕ) → get_elem? views i ≡ some u → u.held ≡ Some j → get_elem? s.views i ≡ some u =
      λ i u j at holds. ⊎_elim
      (λ (e : (i ≡ id) × (w ≡ u)). absurd (none-some j (sym free ∙ ap (λ (q : View). q.held) e.1 ∙ holds)))
      (λ (e : ((i ≢ id) × (get_elem? s.views i ≡ some u)) ⊎ (hired ≡ u)). ⊎_elim
      (λ (f : (i ≢ id) × (get_elem? s.views i ≡ some u)). f.1)
      (λ (f : hired ≡ u). absurd (none-some j (ap (λ (q : View). q.held) f ∙ holds)))
      e)
      (was i u at) in
      record {
        words = r.words;
        homes = r.homes;
        unclaimed = r.unclaimed;
        called = r.called;
        out = λ j home.
            let o = r.out j home in
            (o.0, (o.1.0, o.1.1, old o.1.0 o.1.1 o.1.2 (empty_hand s.views id o.1.0 v o.1.1 j mine free o.1.2 o.1.3), o.1.3));
        held = λ i u j at holds. r.held i u j (holder i u j at holds) holds;
        once = λ i l u q j at_u at_q holds_u holds_q. r.once i l u q j (holder i u j at_u holds_u) (holder l q j at_q holds_q) holds_u holds_q;
        idle = λ i u at none_left. ⊎_elim
            (λ (e : (i ≡ id) × (w ≡ u)). ap (λ (q : View). q.held) (sym e.1) ∙ free)
            (λ (e : ((i ≢ id) × (get_elem? s.views i ≡ some u)) ⊎ (hired ≡ u)). ⊎_elim
            (λ (f : (i ≢ id) × (get_elem? s.views i ≡ some u)). r.idle i u f.1 none_left)
            (λ (f : hired ≡ u). ap (λ (q : View). q.held) (sym f))
            e)
            (was i u at);
        all = let h = threads_set s.views id v w mine in
            let l = threads_snoc (set s.views id w) hired in
            let a = r.all in omega (arith, h, l, a, fewer);
        past = λ i u j at before. ⊎_elim
            (λ (e : (i ≡ id) × (w ≡ u)). r.past id v j mine (subst (λ n. j < n) (sym (ap (λ (q : View). q.past) e.1)) before))
            (λ (e : ((i ≢ id) × (get_elem? s.views i ≡ some u)) ⊎ (hired ≡ u)). ⊎_elim
            (λ (f : (i ≢ id) × (get_elem? s.views i ≡ some u)). r.past i u j f.1 before)
            (λ (f : hired ≡ u). let none_past : 0 ≡ u.past = ap (λ (q : View). q.past) f in absurd (omega (arith, before, none_past)))
            e)
            (was i u at);
      }

  -- a seat that holds nothing comes back to another one
  pub returns : (id other : ℕ) (v w : View) → v.held ≡ None → w.held ≡ None → Joins Holds id v other w (back_with v w) gone
  returns id other v w free empty s r mine apart theirs =
      let both : View = back_with v w in
      let middle : List View = set s.views id both in
      let views : List View = set middle other gone in
      let their_own : get_elem? s.views other ≡ some w = sym (set_else s.views id other both apart) ∙ theirs in
      let old : (i : ℕ) (u : View) → get_elem? s.views i ≡ some u → i ≢ id → i ≢ other → get_elem? views i ≡ some u =
      λ i u at n m. set_else middle other i gone m ∙ set_else s.views id i both n ∙ at in
      let was : (i : ℕ) (u : View) → get_elem? views i ≡ some u
      → (gone ≡ u) ⊎ (((i ≡ id) × (both ≡ u)) ⊎ (get_elem? s.views i ≡ some u)) =
      λ i u at. ⊎_elim
      (λ (e : (i ≡ other) × (gone ≡ u)). inl e.1)
      (λ (e : (i ≢ other) × (get_elem? middle i ≡ some u)). inr (⊎_elim
      (λ (f : (i ≡ id) × (both ≡ u)). inl f)
      (λ (f : (i ≢ id) × (get_elem? s.views i ≡ some u)). inr f.1)
      (at_set s.views id i both u e.1)))
      (at_set middle other i gone u at) in
      let holder : (i : ℕ) (u : View) (j : ℕ) → get_elem? views i ≡ some u → u.held ≡ Some j → get_elem? s.views i ≡ some u =
      λ i u j at holds. ⊎_elim
      (λ (e : gone ≡ u). absurd (none-some j (ap (λ (q : View). q.held) e ∙ holds)))
      (λ (e : ((i ≡ id) × (both ≡ u)) ⊎ (get_elem? s.views i ≡ some u)). ⊎_elim
      (λ (f : (i ≡ id) × (both ≡ u)). absurd (none-some j (sym free ∙ ap (λ (q : View). q.held) f.1 ∙ holds)))
      (λ (f : get_elem? s.views i ≡ some u). f)
      e)
      (was i u at) in
      record {
        words = r.words;
        homes = r.homes;
        unclaimed = r.unclaimed;
        called = r.called;
        out = λ j home.
            let o = r.out j home in (
              o.0,
              (
                o.1.0,
                o.1.1,
                old o.1.0 o.1.1 o.1.2 (empty_hand s.views id o.1.0 v o.1.1 j mine free o.1.2 o.1.3)
                    (empty_hand s.views other o.1.0 w o.1.1 j their_own empty o.1.2 o.1.3),
                o.1.3,
              ),
            );
        held = λ i u j at holds. r.held i u j (holder i u j at holds) holds;
        once = λ i l u q j at_u at_q holds_u holds_q. r.once i l u q j (holder i u j at_u holds_u) (holder l q j at_q holds_q) holds_u holds_q;
        idle = λ i u at none_left. ⊎_elim
            (λ (e : gone ≡ u). ap (λ (q : View). q.held) (sym e))
            (λ (e : ((i ≡ id) × (both ≡ u)) ⊎ (get_elem? s.views i ≡ some u)). ⊎_elim
            (λ (f : (i ≡ id) × (both ≡ u)). ap (λ (q : View). q.held) (sym f.1) ∙ free)
            (λ (f : get_elem? s.views i ≡ some u). r.idle i u f none_left)
            e)
            (was i u at);
        all = let h = threads_set s.views id v both mine in
            let l = threads_set middle other w gone theirs in
            let a = r.all in omega (arith, h, l, a);
        past = λ i u j at before. ⊎_elim
            (λ (e : gone ≡ u). let none_past : 0 ≡ u.past = ap (λ (q : View). q.past) e in absurd (omega (arith, before, none_past)))
            (λ (e : ((i ≡ id) × (both ≡ u)) ⊎ (get_elem? s.views i ≡ some u)). ⊎_elim
            (λ (f : (i ≡ id) × (both ≡ u)). r.past id v j mine (subst (λ n. j < n) (sym (ap (λ (q : View). q.past) f.1)) before))
            (λ (f : get_elem? s.views i ≡ some u). r.past i u j f before)
            e)
            (was i u at);
      }

  -- the table at the start
  pub opens : (words : List ℕ) → words ≡ replicate (length items) 0 → Holds (opening words items (opener threads))
  opens words are = record {
    words = ap length are ∙ length-replicate (length items) 0;
    homes = length-map items (λ (x : T). some x);
    unclaimed = λ k x is unset. home_at items k x is;
    called = λ k x y is claimed home. absurd (claimed (all_unset words (length items) k are));
    out = λ k home. absurd (at_home items k home);
    held = λ id v k at holds. absurd (none-some k (ap (λ (q : View). q.held) (only (opener threads) id v at) ∙ holds));
    once = λ id other v w k at_v at_w holds_v holds_w. absurd (none-some k (ap (λ (q : View). q.held) (only (opener threads) id v at_v) ∙ holds_v));
    idle = λ id v at none_left. ap (λ (q : View). q.held) (sym (only (opener threads) id v at));
    all = omega arith;
    past = λ id v k at before.
        let none_past : 0 ≡ v.past = ap (λ (q : View). q.past) (only (opener threads) id v at) in absurd (omega (arith, before, none_past));
  }

  at_some_home : (id k : ℕ) (x : T) (s : State T View) → Holds s → (me : View) → get_elem? s.views id ≡ some me → me.threads ≡ threads
      → me.held ≡ None → slice_get items k ≡ Some x → get_or s.words k 0 ≢ 0 → (home : maybe.Option T) → get_elem? s.homes k ≡ some home
      → (y : T) × (get_elem? s.homes k ≡ some (some y)) × leaves k x y
  at_some_home id k x s r me mine every free is claimed (some y) at = (y, at, r.called k x y is claimed at)
  at_some_home id k x s r me mine every free is claimed none at =
      let o = r.out k at in
      let other = empty_hand s.views id o.1.0 me o.1.1 k mine free o.1.2 o.1.3 in
      let two = threads_two s.views id o.1.0 me o.1.1 (λ same. other (sym same)) mine o.1.2 in
      let a = r.all in
      let nothing : o.1.1.threads ≡ 0 = omega (arith, two, a, every) in
      absurd (none-some k (sym (r.idle o.1.0 o.1.1 o.1.2 nothing) ∙ o.1.3))

  -- once a seat answers for all threads, holds nothing and came past all items, each item is at home as the call left it
  pub all_called : (id n : ℕ) (s : State T View) → length items ≡ n → Seen Holds id (record (opener threads) { past = n }) s
      → (k : ℕ) (x : T) → slice_get items k ≡ Some x → (y : T) × (get_elem? s.homes k ≡ some (some y)) × leaves k x y
  all_called id n s size seen k x is =
      let r : Holds s = seen.0 in
      let mine = seen.1 in
      let me : View = record (opener threads) { past = n } in
      let inside : k < length items = get_within items k x is in
      let upto : k < me.past = omega (arith, inside, size) in
      let claimed = r.past id me k mine upto in
      let in_homes : k < length s.homes = omega (arith, inside, r.homes) in
      let home = found s.homes k in_homes in
      at_some_home id k x s r me mine refl refl is claimed home.0 home.1
