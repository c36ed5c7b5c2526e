-- Each kind of step keeps the rule.
use Rattle.std.proofs.Common.{◌≡◌, ◌≢◌, ℕ, zero, suc, ◌+◌, ◌%◌, ◌^◌, ◌<◌, ◌≤◌, inl, inr, ⊎_elim, Bool, true, false, cond, List, [], ◌∷◌, ◌++◌, map, length, get_or, set, replicate, refl, sym, ap, ◌∙◌, subst, arith, Option, Some, None, length-append}
use Rattle.std.specs.Prelude.{slice_get}
use Rattle.std.proofs.Math.Nat.{mod-eq_of_lt}
use Rattle.std.proofs.lemmas.List.{length-set, length-map}
use Rattle.std.proofs.lemmas.Option.{none-some, same_Some, slice_get_within}
use mathlib.Core.Option.{none, some}
use mathlib.Core.Option as maybe
use mathlib.Core.Logic.{dite}
use native.Mathlib.Decide.{ℕ_discrete}
use lib.ListN.{get_elem?}
use lib.Seq.{set-get_or}
use Rattle.atomic_table.specs.Table.{State, step, Act, keeps, takes, gives, stepped, carried_after, Valid, Allows, Splits, Joins, opening}
use Rattle.atomic_table.proofs.Lists.{at_set, at_snoc, set_here, set_else, set_again}
use Rattle.geo_lease.specs.declared.view.Role.TheVariants.{Opens, Keeps, Turns}
use Rattle.geo_lease.specs.declared.view.Plan.{Plan}
use Rattle.geo_lease.specs.declared.view.View.{View}
use Rattle.geo_lease.specs.Plans.{HasPlace, Names, IsFree}
use Rattle.geo_lease.specs.Views.{has, without, left_at, lend, gone, opener, keeping, first_turn, looking, holding, laying, granting, learning, fetching, returning, ending}
use Rattle.geo_lease.specs.LeaseRule.{Fits, Kept, Stands, Runs, Opened, LeaseRule}
use Rattle.geo_lease.specs.Steps.{Sat, Sees, Takes, Lays, Grants, TakesLeased, LaysOut, LaysBack, Ends}
use Rattle.geo_lease.proofs.Lists.{get_set, get_else, get_longer, get_last, get_snoc, get_found, home_map, only_one, at_first, not_true, has_here, has_else, without_here, without_else}

small_step : (n : ℕ) → n ≤ 2 ^ 32 → (n + 1) % 2 ^ 64 ≡ n + 1
small_step n le = mod-eq_of_lt (omega arith)

module _ {T : Type 0} where
  -- where the seat is not the first one, keeper and turn are two
  running : (ahead slots id : ℕ) (v : View T) (s : State (Option T) (View T)) → LeaseRule ahead slots s → get_elem? s.views id ≡ some v → v.role ≢ Opens
      → (keeper : View T) × (turn : View T) × Runs ahead keeper turn s
  running ahead slots id v s rule at not_first = ⊎_elim
      (λ (o : Opened ahead slots s). let only = only_one id (opener ahead slots) v (ap (λ vs. get_elem? vs id) (sym o.views) ∙ at) in absurd (not_first (ap (λ (u : View T). u.role) (sym only.1))))
      (λ (r : (keeper : View T) × (turn : View T) × Runs ahead keeper turn s). r)
      rule

  -- the seat of the keeper is the seat 0, and its view is the rule's; likewise the turn's
  keeper_is : (ahead id : ℕ) (keeper turn v : View T) (s : State (Option T) (View T)) → Runs ahead keeper turn s → get_elem? s.views id ≡ some v → v.role ≡ Keeps → (id ≡ 0) × Runs ahead v turn s
  keeper_is ahead id keeper turn v s r at role = let f = (r.each id v at).keeps role in (f.0, subst (λ (u : View T). Runs ahead u turn s) (sym f.1) r)

  turn_is : (ahead id : ℕ) (keeper turn v : View T) (s : State (Option T) (View T)) → Runs ahead keeper turn s → get_elem? s.views id ≡ some v → v.role ≡ Turns → (id ≡ 1) × Runs ahead keeper v s
  turn_is ahead id keeper turn v s r at role = let f = (r.each id v at).turns role in (f.0, subst (λ (u : View T). Runs ahead keeper u s) (sym f.1) r)

  -- a step of the keeper
  keeper_steps : (ahead slots n id : ℕ) (m : Sat T) (i : ℕ) (f : ℕ → ℕ) (then : ℕ → Sat T → Type 0) → m.0.role ≡ Keeps
      → ((s : State (Option T) (View T)) (turn : View T) → Runs ahead m.0 turn s → get_elem? s.views id ≡ some m.0 → id ≡ 0
      → (w : View T) × (a : Act (Option T)) × Valid s.homes m.1 a × Runs ahead w turn (stepped s i (f (get_or s.words i 0)) id m.1 w a) × then (get_or s.words i 0) (w, carried_after m.1 a))
      → Allows (LeaseRule ahead slots) n id m i f then
  keeper_steps ahead slots n id m i f then role body s rule sized at small =
      let r = running ahead slots id m.0 s rule at (λ o. absurd (cc (role, o))) in
      let k = keeper_is ahead id r.0 r.1 m.0 s r.2 at role in
      let b = body s r.1 k.1 at k.0 in
      (b.0, b.1, b.2, inr (b.0, r.1, b.3), b.4)

  -- a step of the turn
  turn_steps : (ahead slots n id : ℕ) (m : Sat T) (i : ℕ) (f : ℕ → ℕ) (then : ℕ → Sat T → Type 0) → m.0.role ≡ Turns
      → ((s : State (Option T) (View T)) (keeper : View T) → Runs ahead keeper m.0 s → get_elem? s.views id ≡ some m.0 → id ≡ 1
      → (w : View T) × (a : Act (Option T)) × Valid s.homes m.1 a × Runs ahead keeper w (stepped s i (f (get_or s.words i 0)) id m.1 w a) × then (get_or s.words i 0) (w, carried_after m.1 a))
      → Allows (LeaseRule ahead slots) n id m i f then
  turn_steps ahead slots n id m i f then role body s rule sized at small =
      let r = running ahead slots id m.0 s rule at (λ o. absurd (cc (role, o))) in
      let k = turn_is ahead id r.0 r.1 m.0 s r.2 at role in
      let b = body s r.0 k.1 at k.0 in
      (b.0, b.1, b.2, inr (r.0, b.0, b.3), b.4)

  -- the rule after a step of the keeper
  keeper_moves : (ahead id : ℕ) (v w turn : View T) (s : State (Option T) (View T)) (words : List ℕ) (homes : List (maybe.Option (Option T)))
      → Runs ahead v turn s → id ≡ 0 → w.role ≡ Keeps
      → ((n : ℕ) (l : Plan T) → slice_get v.leases n ≡ Some l → slice_get w.leases n ≡ Some l)
      → ((l : Plan T) → w.plan ≡ Some l → slice_get w.leases w.number ≡ Some l)
      → words ≡ length w.leases ∷ turn.next ∷ []
      → Kept ahead turn.next w → Stands w turn homes
      → Runs ahead w turn record { words = words; homes = homes; views = set s.views id w }
  keeper_moves ahead id v w turn s words homes r first role longer knows are kept stands = record {
    words = are;
    each = λ j u e. ⊎_elim
        (λ (x : (j ≡ id) × (w ≡ u)).
        let mine : Fits w turn j w = record { opened = λ o. absurd (cc (role, o)); keeps = λ k. (x.0 ∙ first, refl); turns = λ t. absurd (cc (role, t)); knows = knows } in
        subst (Fits w turn j) x.1 mine)
        (λ (x : (j ≢ id) × (get_elem? s.views j ≡ some u)).
        let f : Fits v turn j u = r.each j u x.1 in
        record { opened = f.opened; keeps = λ k. absurd (x.0 ((f.keeps k).0 ∙ sym first)); turns = f.turns; knows = λ l p. longer u.number l (f.knows l p) })
        (at_set s.views id j w u e);
    kept = kept;
    stands = stands;
  }

  -- the rule after a step of the turn
  turn_moves : (ahead id : ℕ) (keeper v w : View T) (s : State (Option T) (View T)) (words : List ℕ) (homes : List (maybe.Option (Option T)))
      → Runs ahead keeper v s → id ≡ 1 → w.role ≡ Turns
      → ((l : Plan T) → w.plan ≡ Some l → slice_get keeper.leases w.number ≡ Some l)
      → words ≡ length keeper.leases ∷ w.next ∷ []
      → Kept ahead w.next keeper → Stands keeper w homes
      → Runs ahead keeper w record { words = words; homes = homes; views = set s.views id w }
  turn_moves ahead id keeper v w s words homes r second role knows are kept stands = record {
    words = are;
    each = λ j u e. ⊎_elim
        (λ (x : (j ≡ id) × (w ≡ u)).
        let mine : Fits keeper w j w = record { opened = λ o. absurd (cc (role, o)); keeps = λ k. absurd (cc (role, k)); turns = λ t. (x.0 ∙ second, refl); knows = knows } in
        subst (Fits keeper w j) x.1 mine)
        (λ (x : (j ≢ id) × (get_elem? s.views j ≡ some u)).
        let f : Fits keeper v j u = r.each j u x.1 in
        record { opened = f.opened; keeps = f.keeps; turns = λ t. absurd (x.0 ((f.turns t).0 ∙ sym second)); knows = f.knows })
        (at_set s.views id j w u e);
    kept = kept;
    stands = stands;
  }

  -- kind 1
  pub sees : (ahead slots n id : ℕ) (m : Sat T) → m.0.role ≡ Keeps → Allows (LeaseRule ahead slots) n id m 1 (λ x. x) (Sees (step n 1 0 0 none) m)
  sees ahead slots n id m role = keeper_steps ahead slots n id m 1 (λ x. x) (Sees (step n 1 0 0 none) m) role (λ s turn r at first.
      let v : View T = m.0 in
      let e : ℕ = get_or s.words 1 0 in
      let is : e ≡ turn.next = ap (λ ws. get_or ws 1 0) r.words in
      let w : View T = looking v e in
      let q : Kept ahead turn.next v = r.kept in
      let t : Stands v turn s.homes = r.stands in
      let kept : Kept ahead turn.next w = record {
        ahead_is = q.ahead_is;
        ended_granted = q.ended_granted;
        seen_ended = (let h : e ≤ turn.next = omega arith in h);
        granted_ahead = (let a : length v.leases ≤ v.seen + ahead = q.granted_ahead in let b : v.seen ≤ turn.next = q.seen_ended in let h : length v.leases ≤ e + ahead = omega arith in h);
        counted = q.counted;
        frames = q.frames;
        promised = λ j k x le. q.promised j k x (let b : v.seen ≤ turn.next = q.seen_ended in omega arith);
        unnamed = λ k h j x le. q.unnamed k h j x (let b : v.seen ≤ turn.next = q.seen_ended in omega arith);
      } in
      let stands : Stands w turn s.homes = record { sized = t.sized; at_home = t.at_home; fetched = t.fetched; taken = t.taken } in
      let early : v.seen ≤ e = (let b : v.seen ≤ turn.next = q.seen_ended in omega arith) in
      let late : e ≤ length v.leases = (let b : turn.next ≤ length v.leases = q.ended_granted in omega arith) in
      (w, keeps, tt, keeper_moves ahead id v w turn s _ s.homes r first role (λ k l h. h) (r.each id v at).knows (set-get_or s.words 1 0 ∙ r.words) kept stands, (refl, early, late)))

  -- what no lease out names, the turn has not
  not_taken : (ahead k : ℕ) (v turn : View T) (s : State (Option T) (View T)) → Runs ahead v turn s → IsFree v.leases v.seen k → turn.held ≢ Some k
  not_taken ahead k v turn s r free h = let named = r.stands.taken k h in free turn.next named.0 r.kept.seen_ended named.1

  not_out : (ahead k : ℕ) (v turn : View T) (s : State (Option T) (View T)) → Runs ahead v turn s → IsFree v.leases v.seen k → has k turn.out ≡ false
  not_out ahead k v turn s r free = not_true (has k turn.out) (λ h. let named = r.stands.fetched k h in free turn.next named.0 r.kept.seen_ended named.1)

  -- kind 2
  pub takes_slot : (ahead slots n id k : ℕ) (m : Sat T) → m.0.role ≡ Keeps → m.0.held ≡ None → k < length m.0.contents → IsFree m.0.leases m.0.seen k
      → Allows (LeaseRule ahead slots) n id m 0 (λ x. x) (Takes k (step n 0 0 0 none) m)
  takes_slot ahead slots n id k m role empty inside free = keeper_steps ahead slots n id m 0 (λ x. x) (Takes k (step n 0 0 0 none) m) role (λ s turn r at first.
      let v : View T = m.0 in
      let w : View T = holding v k in
      let q : Kept ahead turn.next v = r.kept in
      let t : Stands v turn s.homes = r.stands in
      let there : (c : Option T) × (slice_get v.contents k ≡ Some c) = get_found v.contents k inside in
      let c : Option T = there.0 in
      let unfetched : has k turn.out ≡ false = not_out ahead k v turn s r free in
      let unheld : (j : ℕ) → v.held ≢ Some j = λ j h. none-some j (sym empty ∙ h) in
      let home : get_elem? s.homes k ≡ some (some c) = t.at_home k c there.1 (unheld k) (not_taken ahead k v turn s r free) ∙ ap (λ (b : Bool). some (some (cond b None c))) unfetched in
      let kept : Kept ahead turn.next w = record {
        ahead_is = q.ahead_is;
        ended_granted = q.ended_granted;
        seen_ended = q.seen_ended;
        granted_ahead = q.granted_ahead;
        counted = q.counted;
        frames = q.frames;
        promised = q.promised;
        unnamed = λ j h. subst (IsFree v.leases v.seen) (same_Some k j h) free;
      } in
      let stands : Stands w turn (set s.homes k none) = record {
        sized = length-set s.homes k none ∙ t.sized;
        at_home = λ j d is unkept untaken. set_else s.homes k j none (λ e. unkept (ap Some (sym e))) ∙ t.at_home j d is (unheld j) untaken;
        fetched = t.fetched;
        taken = t.taken;
      } in
      (w, takes k c, home, keeper_moves ahead id v w turn s _ (set s.homes k none) r first role (λ j l h. h) (r.each id v at).knows (set-get_or s.words 0 0 ∙ r.words) kept stands, (c, there.1, refl)))

  -- kind 3
  lays_at : (ahead slots n id k : ℕ) (v : View T) (c : Option T) → v.role ≡ Keeps → v.held ≡ Some k
      → Allows (LeaseRule ahead slots) n id (v, (k, c) ∷ []) 0 (λ x. x) (Lays (step n 0 0 0 none) (v, (k, c) ∷ []))
  lays_at ahead slots n id k v c role held = keeper_steps ahead slots n id (v, (k, c) ∷ []) 0 (λ x. x) (Lays (step n 0 0 0 none) (v, (k, c) ∷ [])) role (λ s turn r at first.
      let w : View T = laying v k c in
      let q : Kept ahead turn.next v = r.kept in
      let t : Stands v turn s.homes = r.stands in
      let free : IsFree v.leases v.seen k = q.unnamed k held in
      let kept : Kept ahead turn.next w = record {
        ahead_is = q.ahead_is;
        ended_granted = q.ended_granted;
        seen_ended = q.seen_ended;
        granted_ahead = q.granted_ahead;
        counted = q.counted;
        frames = q.frames;
        promised = λ j i x le named. get_else v.contents k i c (λ e. free j x le (subst (λ (z : ℕ). Names v.leases j z x) e named)) ∙ q.promised j i x le named;
        unnamed = λ i h. absurd (none-some i h);
      } in
      let homes : List (maybe.Option (Option T)) = set s.homes k (some c) in
      let stands : Stands w turn homes = record {
        sized = length-set s.homes k (some c) ∙ (t.sized ∙ sym (length-set v.contents k c));
        at_home = λ j d is unkept untaken. ⊎_elim
            (λ (x : (j ≡ k) × (c ≡ d)).
            let inside : j < length (set v.contents k c) = slice_get_within (set v.contents k c) j d is in
            let within : k < length s.homes = omega (arith, t.sized, length-set v.contents k c, x.0) in
            let here : get_elem? homes k ≡ some (some c) = set_here s.homes k (some c) within in
            let same : some (some c) ≡ some (some (left_at turn.out k c)) = ap (λ (b : Bool). some (some (cond b None c))) (sym (not_out ahead k v turn s r free)) in
            subst (λ (z : ℕ × Option T). get_elem? homes z.0 ≡ some (some (left_at turn.out z.0 z.1))) (λ i. (sym x.0 i, x.1 i)) (here ∙ same))
            (λ (x : (j ≢ k) × (slice_get v.contents j ≡ Some d)).
            set_else s.homes k j (some c) x.0 ∙ t.at_home j d x.1 (λ h. x.0 (same_Some j k (sym h ∙ held))) untaken)
            (get_set v.contents k j c d is);
        fetched = t.fetched;
        taken = t.taken;
      } in (
        w,
        gives,
        tt,
        keeper_moves ahead id v w turn s _ homes r first role (λ j l h. h) (r.each id v at).knows (set-get_or s.words 0 0 ∙ r.words) kept stands,
        (λ i d e. let same : w ≡ laying v i d = ap (at_first (laying v) v) e in ap (λ (u : View T). (u, [])) same),
      ))

  pub lays : (ahead slots n id k : ℕ) (m : Sat T) (c : Option T) → m.0.role ≡ Keeps → m.0.held ≡ Some k → m.1 ≡ (k, c) ∷ []
      → Allows (LeaseRule ahead slots) n id m 0 (λ x. x) (Lays (step n 0 0 0 none) m)
  lays ahead slots n id k m c role held carried =
      let is : (m.0, (k, c) ∷ []) ≡ m = λ i. (m.0, sym carried i) in
      subst (λ (z : Sat T). Allows (LeaseRule ahead slots) n id z 0 (λ x. x) (Lays (step n 0 0 0 none) z)) is (lays_at ahead slots n id k m.0 c role held)

  -- kind 4
  pub grants : (ahead slots n id : ℕ) (m : Sat T) (l : Plan T) → m.0.role ≡ Keeps → m.0.held ≡ None → length m.0.leases < m.0.seen + m.0.ahead → m.0.above ≤ l.frame → l.frame < 2 ^ 32
      → ((k : ℕ) (x : T) → HasPlace l k x → slice_get m.0.contents k ≡ Some (Some x))
      → Allows (LeaseRule ahead slots) n id m 0 (λ x. (x + 1) % 2 ^ 64) (Grants l (step n 0 1 0 none) m)
  grants ahead slots n id m l role empty room rises frames recorded = keeper_steps ahead slots n id m 0 (λ x. (x + 1) % 2 ^ 64) (Grants l (step n 0 1 0 none) m) role (λ s turn r at first.
      let v : View T = m.0 in
      let w : View T = granting v l in
      let q : Kept ahead turn.next v = r.kept in
      let t : Stands v turn s.homes = r.stands in
      let longer : length (v.leases ++ l ∷ []) ≡ length v.leases + 1 = length-append v.leases (l ∷ []) in
      let more : (j : ℕ) (u : Plan T) → slice_get v.leases j ≡ Some u → slice_get (v.leases ++ l ∷ []) j ≡ Some u = λ j u. get_longer v.leases (l ∷ []) j u in
      let found : get_or s.words 0 0 ≡ length v.leases = ap (λ ws. get_or ws 0 0) r.words in
      let few : length v.leases ≤ 2 ^ 32 = (let a : length v.leases ≤ v.above = q.counted in let b : v.above ≤ 2 ^ 32 = q.frames in omega arith) in
      let words : set s.words 0 ((get_or s.words 0 0 + 1) % 2 ^ 64) ≡ length (v.leases ++ l ∷ []) ∷ turn.next ∷ [] =
      ap (λ ws. set ws 0 ((get_or ws 0 0 + 1) % 2 ^ 64)) r.words ∙ ap (λ x. x ∷ turn.next ∷ []) (small_step (length v.leases) few ∙ sym longer) in
      let kept : Kept ahead turn.next w = record {
        ahead_is = q.ahead_is;
        ended_granted = (let a : turn.next ≤ length v.leases = q.ended_granted in let h : turn.next ≤ length (v.leases ++ l ∷ []) = omega arith in h);
        seen_ended = q.seen_ended;
        granted_ahead = (let a : v.ahead ≡ ahead = q.ahead_is in let h : length (v.leases ++ l ∷ []) ≤ v.seen + ahead = omega arith in h);
        counted = (let a : length v.leases ≤ v.above = q.counted in let h : length (v.leases ++ l ∷ []) ≤ l.frame + 1 = omega arith in h);
        frames = (let h : l.frame + 1 ≤ 2 ^ 32 = omega arith in h);
        promised = λ j k x le named. ⊎_elim
            (λ (e : slice_get v.leases j ≡ Some named.0). q.promised j k x le (named.0, e, named.2))
            (λ (e : (j ≡ length v.leases) × (l ≡ named.0)). recorded k x (subst (λ (z : Plan T). HasPlace z k x) (sym e.1) named.2))
            (get_snoc v.leases l named.0 j named.1);
        unnamed = λ k h. absurd (none-some k (sym empty ∙ h));
      } in
      let still : (j k : ℕ) → (x : T) × Names v.leases j k x → (x : T) × Names (v.leases ++ l ∷ []) j k x = λ j k h. (h.0, (h.1.0, more j h.1.0 h.1.1, h.1.2)) in
      let stands : Stands w turn s.homes = record {
        sized = t.sized;
        at_home = t.at_home;
        fetched = λ k h. still turn.next k (t.fetched k h);
        taken = λ k h. still turn.next k (t.taken k h);
      } in
      (w, keeps, tt, keeper_moves ahead id v w turn s _ s.homes r first role more (λ u e. get_last v.leases l ∙ e) words kept stands, (found, refl)))

  -- what the turn's lease names is there
  leased : (ahead id : ℕ) (keeper v : View T) (s : State (Option T) (View T)) (l : Plan T) (k : ℕ) (x : T) → Runs ahead keeper v s → get_elem? s.views id ≡ some v → v.number ≡ v.next → v.plan ≡ Some l → HasPlace l k x
      → Names keeper.leases v.next k x × (slice_get keeper.contents k ≡ Some (Some x)) × (keeper.held ≢ Some k)
  leased ahead id keeper v s l k x r at number plan place =
      let its : slice_get keeper.leases v.next ≡ Some l = ap (slice_get keeper.leases) (sym number) ∙ (r.each id v at).knows l plan in
      let named : Names keeper.leases v.next k x = (l, its, place) in
      (named, r.kept.promised v.next k x r.kept.seen_ended named, λ h. r.kept.unnamed k h v.next x r.kept.seen_ended named)

  -- kind 7
  pub takes_leased : (ahead slots n id k : ℕ) (m : Sat T) (l : Plan T) (x : T) → m.0.role ≡ Turns → m.0.held ≡ None → m.0.number ≡ m.0.next → m.0.plan ≡ Some l → HasPlace l k x
      → Allows (LeaseRule ahead slots) n id m 1 (λ y. y) (TakesLeased k (step n 1 0 0 none) m)
  takes_leased ahead slots n id k m l x role empty number plan place = turn_steps ahead slots n id m 1 (λ y. y) (TakesLeased k (step n 1 0 0 none) m) role (λ s keeper r at second.
      let v : View T = m.0 in
      let w : View T = holding v k in
      let t : Stands keeper v s.homes = r.stands in
      let q : Kept ahead v.next keeper = r.kept in
      let its = leased ahead id keeper v s l k x r at number plan place in
      let unheld : (j : ℕ) → v.held ≢ Some j = λ j h. none-some j (sym empty ∙ h) in
      let home : get_elem? s.homes k ≡ some (some (left_at v.out k (Some x))) = t.at_home k (Some x) its.1 its.2 (unheld k) in
      let stands : Stands keeper w (set s.homes k none) = record {
        sized = length-set s.homes k none ∙ t.sized;
        at_home = λ j d is unkept untaken. set_else s.homes k j none (λ e. untaken (ap Some (sym e))) ∙ t.at_home j d is unkept (unheld j);
        fetched = t.fetched;
        taken = λ j h. (x, subst (λ (z : ℕ). Names keeper.leases v.next z x) (same_Some k j h) its.0);
      } in
      let kept : Kept ahead w.next keeper = q in (
        w,
        takes k (left_at v.out k (Some x)),
        home,
        turn_moves ahead id keeper v w s _ (set s.homes k none) r second role (r.each id v at).knows (set-get_or s.words 1 0 ∙ r.words) kept stands,
        (λ u y known there.
            let other = leased ahead id keeper v s u k y r at number known there in
            let same : x ≡ y = same_Some x y (same_Some (Some x) (Some y) (sym its.1 ∙ other.1)) in
            ap (λ (z : T). (w, (k, left_at v.out k (Some z)) ∷ m.1)) same),
      ))

  -- kind 8, of an empty slot
  lays_out_at : (ahead slots n id k : ℕ) (v : View T) → v.role ≡ Turns → v.held ≡ Some k
      → Allows (LeaseRule ahead slots) n id (v, (k, None) ∷ []) 1 (λ y. y) (LaysOut (step n 1 0 0 none) (v, (k, None) ∷ []))
  lays_out_at ahead slots n id k v role held = turn_steps ahead slots n id (v, (k, None) ∷ []) 1 (λ y. y) (LaysOut (step n 1 0 0 none) (v, (k, None) ∷ [])) role (λ s keeper r at second.
      let w : View T = fetching v k in
      let t : Stands keeper v s.homes = r.stands in
      let q : Kept ahead v.next keeper = r.kept in
      let homes : List (maybe.Option (Option T)) = set s.homes k (some None) in
      let kept : Kept ahead w.next keeper = q in
      let stands : Stands keeper w homes = record {
        sized = length-set s.homes k (some None) ∙ t.sized;
        at_home = λ j d is unkept untaken. dite (ℕ_discrete j k)
            (λ e.
            let inside : j < length keeper.contents = slice_get_within keeper.contents j d is in
            let within : k < length s.homes = omega (arith, t.sized, e) in
            let here : get_elem? homes k ≡ some (some None) = set_here s.homes k (some None) within in
            let same : some (some None) ≡ some (some (left_at (k ∷ v.out) k d)) = ap (λ (b : Bool). some (some (cond b None d))) (sym (has_here k v.out)) in
            subst (λ (z : ℕ). get_elem? homes z ≡ some (some (left_at (k ∷ v.out) z d))) (sym e) (here ∙ same))
            (λ ne.
            set_else s.homes k j (some None) ne ∙ (t.at_home j d is unkept (λ h. ne (same_Some j k (sym h ∙ held))) ∙ ap (λ (b : Bool). some (some (cond b None d))) (sym (has_else j k v.out ne))));
        fetched = λ j h. dite (ℕ_discrete j k)
            (λ e. t.taken j (held ∙ ap Some (sym e)))
            (λ ne. t.fetched j (sym (has_else j k v.out ne) ∙ h));
        taken = λ j h. absurd (none-some j h);
      } in (
        w,
        gives,
        tt,
        turn_moves ahead id keeper v w s _ homes r second role (r.each id v at).knows (set-get_or s.words 1 0 ∙ r.words) kept stands,
        (λ i e. let same : w ≡ fetching v i = ap (at_first (λ j d. fetching v j) v) e in ap (λ (u : View T). (u, [])) same),
      ))

  pub lays_out : (ahead slots n id k : ℕ) (m : Sat T) → m.0.role ≡ Turns → m.0.held ≡ Some k → m.1 ≡ (k, None) ∷ []
      → Allows (LeaseRule ahead slots) n id m 1 (λ y. y) (LaysOut (step n 1 0 0 none) m)
  lays_out ahead slots n id k m role held carried =
      let is : (m.0, (k, None) ∷ []) ≡ m = λ i. (m.0, sym carried i) in
      subst (λ (z : Sat T). Allows (LeaseRule ahead slots) n id z 1 (λ y. y) (LaysOut (step n 1 0 0 none) z)) is (lays_out_at ahead slots n id k m.0 role held)

  -- kind 8, of a slot with its content
  lays_back_at : (ahead slots n id k : ℕ) (v : View T) (l : Plan T) (x : T) → v.role ≡ Turns → v.held ≡ Some k → v.number ≡ v.next → v.plan ≡ Some l → HasPlace l k x
      → Allows (LeaseRule ahead slots) n id (v, (k, Some x) ∷ []) 1 (λ y. y) (LaysBack (step n 1 0 0 none) (v, (k, Some x) ∷ []))
  lays_back_at ahead slots n id k v l x role held number plan place = turn_steps ahead slots n id (v, (k, Some x) ∷ []) 1 (λ y. y) (LaysBack (step n 1 0 0 none) (v, (k, Some x) ∷ [])) role (λ s keeper r at second.
      let w : View T = returning v k in
      let t : Stands keeper v s.homes = r.stands in
      let q : Kept ahead v.next keeper = r.kept in
      let its = leased ahead id keeper v s l k x r at number plan place in
      let homes : List (maybe.Option (Option T)) = set s.homes k (some (Some x)) in
      let kept : Kept ahead w.next keeper = q in
      let stands : Stands keeper w homes = record {
        sized = length-set s.homes k (some (Some x)) ∙ t.sized;
        at_home = λ j d is unkept untaken. dite (ℕ_discrete j k)
            (λ e.
            let inside : j < length keeper.contents = slice_get_within keeper.contents j d is in
            let within : k < length s.homes = omega (arith, t.sized, e) in
            let here : get_elem? homes k ≡ some (some (Some x)) = set_here s.homes k (some (Some x)) within in
            let content : Some x ≡ d = same_Some (Some x) d (sym its.1 ∙ (ap (slice_get keeper.contents) (sym e) ∙ is)) in
            let same : some (some (Some x)) ≡ some (some (left_at (without k v.out) k (Some x))) = ap (λ (b : Bool). some (some (cond b None (Some x)))) (sym (without_here k v.out)) in
            subst (λ (z : ℕ × Option T). get_elem? homes z.0 ≡ some (some (left_at (without k v.out) z.0 z.1))) (λ i. (sym e i, content i)) (here ∙ same))
            (λ ne.
            set_else s.homes k j (some (Some x)) ne ∙ (t.at_home j d is unkept (λ h. ne (same_Some j k (sym h ∙ held))) ∙ ap (λ (b : Bool). some (some (cond b None d))) (sym (without_else j k v.out ne))));
        fetched = λ j h. dite (ℕ_discrete j k)
            (λ e. absurd (cc (h, ap (λ (z : ℕ). has z (without k v.out)) e, without_here k v.out)))
            (λ ne. t.fetched j (sym (without_else j k v.out ne) ∙ h));
        taken = λ j h. absurd (none-some j h);
      } in (
        w,
        gives,
        tt,
        turn_moves ahead id keeper v w s _ homes r second role (r.each id v at).knows (set-get_or s.words 1 0 ∙ r.words) kept stands,
        (λ i y e. let same : w ≡ returning v i = ap (at_first (λ j d. returning v j) v) e in ap (λ (u : View T). (u, [])) same),
      ))

  pub lays_back : (ahead slots n id k : ℕ) (m : Sat T) (l : Plan T) (x : T) → m.0.role ≡ Turns → m.0.held ≡ Some k → m.0.number ≡ m.0.next → m.0.plan ≡ Some l → HasPlace l k x → m.1 ≡ (k, Some x) ∷ []
      → Allows (LeaseRule ahead slots) n id m 1 (λ y. y) (LaysBack (step n 1 0 0 none) m)
  lays_back ahead slots n id k m l x role held number plan place carried =
      let is : (m.0, (k, Some x) ∷ []) ≡ m = λ i. (m.0, sym carried i) in
      subst (λ (z : Sat T). Allows (LeaseRule ahead slots) n id z 1 (λ y. y) (LaysBack (step n 1 0 0 none) z)) is (lays_back_at ahead slots n id k m.0 l x role held number plan place)

  -- kind 9
  pub ends : (ahead slots n id : ℕ) (m : Sat T) (l : Plan T) → m.0.role ≡ Turns → m.0.held ≡ None → m.0.out ≡ [] → m.0.number ≡ m.0.next → m.0.plan ≡ Some l
      → Allows (LeaseRule ahead slots) n id m 1 (λ y. (y + 1) % 2 ^ 64) (Ends (step n 1 1 0 none) m)
  ends ahead slots n id m l role empty none_out number plan = turn_steps ahead slots n id m 1 (λ y. (y + 1) % 2 ^ 64) (Ends (step n 1 1 0 none) m) role (λ s keeper r at second.
      let v : View T = m.0 in
      let w : View T = ending v in
      let t : Stands keeper v s.homes = r.stands in
      let q : Kept ahead v.next keeper = r.kept in
      let its : slice_get keeper.leases v.next ≡ Some l = ap (slice_get keeper.leases) (sym number) ∙ (r.each id v at).knows l plan in
      let below : v.next < length keeper.leases = slice_get_within keeper.leases v.next l its in
      let few : length keeper.leases ≤ 2 ^ 32 = (let a : length keeper.leases ≤ keeper.above = q.counted in let b : keeper.above ≤ 2 ^ 32 = q.frames in omega arith) in
      let found : get_or s.words 1 0 ≡ v.next = ap (λ ws. get_or ws 1 0) r.words in
      let little : get_or s.words 1 0 < 2 ^ 32 = omega arith in
      let words : set s.words 1 ((get_or s.words 1 0 + 1) % 2 ^ 64) ≡ length keeper.leases ∷ (v.next + 1) ∷ [] =
      ap (λ ws. set ws 1 ((get_or ws 1 0 + 1) % 2 ^ 64)) r.words ∙ ap (λ x. length keeper.leases ∷ x ∷ []) (small_step v.next (omega arith)) in
      let kept : Kept ahead (v.next + 1) keeper = record {
        ahead_is = q.ahead_is;
        ended_granted = omega arith;
        seen_ended = (let a : keeper.seen ≤ v.next = q.seen_ended in omega arith);
        granted_ahead = q.granted_ahead;
        counted = q.counted;
        frames = q.frames;
        promised = q.promised;
        unnamed = q.unnamed;
      } in
      let none_has : (k : ℕ) → has k v.out ≢ true = λ k h. absurd (cc (h, ap (has k) none_out)) in
      let stands : Stands keeper w s.homes = record {
        sized = t.sized;
        at_home = t.at_home;
        fetched = λ k h. absurd (none_has k h);
        taken = λ k h. absurd (none-some k (sym empty ∙ h));
      } in
      (w, keeps, tt, turn_moves ahead id keeper v w s _ s.homes r second role (r.each id v at).knows words kept stands, (found, little, refl)))

  -- kind 5
  pub lends : (ahead slots id : ℕ) (v : View T) → v.role ≢ Opens → Splits (LeaseRule ahead slots) id v v (lend v)
  lends ahead slots id v not_first s rule at =
      let run = running ahead slots id v s rule at not_first in
      let r : Runs ahead run.0 run.1 s = run.2 in
      let same : set s.views id v ≡ s.views = set_again s.views id v at in
      inr (
        run.0,
        run.1,
        record {
          words = r.words;
          each = λ j u e. ⊎_elim
              (λ (x : get_elem? (set s.views id v) j ≡ some u). r.each j u (sym (ap (λ vs. get_elem? vs j) same) ∙ x))
              (λ (x : lend v ≡ u).
              let new : Fits run.0 run.1 j (lend v) = record { opened = λ o. absurd (cc o); keeps = λ k. absurd (cc k); turns = λ t. absurd (cc t); knows = (r.each id v at).knows } in
              subst (Fits run.0 run.1 j) x new)
              (at_snoc (set s.views id v) (lend v) u j e);
          kept = r.kept;
          stands = r.stands;
        },
      )

  -- kind 6
  pub learns : (ahead slots id other : ℕ) (v w : View T) → v.role ≡ Turns → Joins (LeaseRule ahead slots) id v other w (learning v w) gone
  learns ahead slots id other v w role s rule at apart there =
      let run = running ahead slots id v s rule at (λ o. absurd (cc (role, o))) in
      let k = turn_is ahead id run.0 run.1 v s run.2 at role in
      let r : Runs ahead run.0 v s = k.1 in
      let u : View T = learning v w in
      let its : get_elem? s.views other ≡ some w = sym (set_else s.views id other u apart) ∙ there in
      let q : Kept ahead v.next run.0 = r.kept in
      let t : Stands run.0 v s.homes = r.stands in
      let stands : Stands run.0 u s.homes = record { sized = t.sized; at_home = t.at_home; fetched = t.fetched; taken = t.taken } in
      let joined : Runs ahead run.0 u record { words = s.words; homes = s.homes; views = set s.views id u } =
      turn_moves ahead id run.0 v u s s.words s.homes r k.0 role (r.each other w its).knows r.words q stands in
      inr (
        run.0,
        u,
        record {
          words = joined.words;
          each = λ j z e. ⊎_elim
              (λ (x : (j ≡ other) × (gone ≡ z)).
              let blank_fits : Fits run.0 u j gone = record { opened = λ o. absurd (cc o); keeps = λ h. absurd (cc h); turns = λ h. absurd (cc h); knows = λ l h. absurd (none-some l h) } in
              subst (Fits run.0 u j) x.1 blank_fits)
              (λ (x : (j ≢ other) × (get_elem? (set s.views id u) j ≡ some z)). joined.each j z x.1)
              (at_set (set s.views id u) other j gone z e);
          kept = joined.kept;
          stands = joined.stands;
        },
      )

  -- the table with a keeper and a turn, before the first step
  starts : (ahead slots : ℕ) → Runs {T = T} ahead (keeping (opener ahead slots)) first_turn record { words = 0 ∷ 0 ∷ []; homes = map some (replicate slots None); views = keeping (opener ahead slots) ∷ first_turn ∷ [] }
  starts ahead slots =
      let keeper : View T = keeping (opener ahead slots) in
      let no_lease : (n k : ℕ) (x : T) → Names {T = T} [] n k x → ⊥ = λ n k x h. none-some h.0 h.1 in
      record {
        words = refl;
        each = two ahead slots;
        kept = record {
          ahead_is = refl;
          ended_granted = omega arith;
          seen_ended = omega arith;
          granted_ahead = omega arith;
          counted = omega arith;
          frames = omega arith;
          promised = λ n k x le h. absurd (no_lease n k x h);
          unnamed = λ k h. absurd (none-some k h);
        };
        stands = record {
          sized = length-map (replicate slots None) some;
          at_home = λ k c h unkept untaken. home_map (replicate slots None) k c h;
          fetched = λ k h. absurd (cc h);
          taken = λ k h. absurd (none-some k h);
        };
      }
    where
      two : (ahead slots i : ℕ) (v : View T) → get_elem? (keeping (opener ahead slots) ∷ first_turn ∷ []) i ≡ some v → Fits (keeping (opener ahead slots)) first_turn i v
      two ahead slots zero v e = let same = only_one 0 (keeping (opener ahead slots)) v e in
          let its : Fits (keeping (opener ahead slots)) first_turn 0 (keeping (opener ahead slots)) = record { opened = λ o. absurd (cc o); keeps = λ h. (refl, refl); turns = λ h. absurd (cc h); knows = λ l h. absurd (none-some l h) } in
          subst (Fits (keeping (opener ahead slots)) first_turn 0) same.1 its
      two ahead slots (suc i) v e = let same = only_one i first_turn v e in
          let its : Fits (keeping (opener ahead slots)) first_turn (suc i) first_turn = record { opened = λ o. absurd (cc o); keeps = λ h. absurd (cc h); turns = λ h. (ap suc same.0, refl); knows = λ l h. absurd (none-some l h) } in
          subst (Fits (keeping (opener ahead slots)) first_turn (suc i)) same.1 its

  -- the first seat becomes the keeper's, and a new one the turn's
  pub parts : (ahead slots id : ℕ) (v : View T) → v.role ≡ Opens → Splits (LeaseRule ahead slots) id v (keeping v) first_turn
  parts ahead slots id v role s rule at = ⊎_elim
      (λ (o : Opened ahead slots s).
      let only = only_one id (opener ahead slots) v (ap (λ vs. get_elem? vs id) (sym o.views) ∙ at) in
      let views : set s.views id (keeping v) ++ first_turn ∷ [] ≡ keeping (opener ahead slots) ∷ first_turn ∷ [] =
      ap (λ vs. set vs id (keeping v) ++ first_turn ∷ []) o.views
      ∙ (ap (λ (i : ℕ). set (opener ahead slots ∷ []) i (keeping v) ++ first_turn ∷ []) only.0 ∙ ap (λ (u : View T). keeping u ∷ first_turn ∷ []) (sym only.1)) in
      let V : Type 0 = List ℕ × List (maybe.Option (Option T)) × List (View T) × View T in
      inr (
        keeping v,
        first_turn,
        subst (λ (z : V). Runs ahead (keeping z.3) first_turn record { words = z.0; homes = z.1; views = z.2 })
            (λ i. (sym o.words i, sym o.homes i, sym views i, only.1 i)) (starts ahead slots),
      ))
      (λ (r : (keeper : View T) × (turn : View T) × Runs ahead keeper turn s). absurd ((r.2.each id v at).opened role))
      rule

  -- the table of empty slots meets the rule
  pub opens : (ahead slots : ℕ) → LeaseRule {T = T} ahead slots (opening (0 ∷ 0 ∷ []) (replicate slots None) (opener ahead slots))
  opens ahead slots = inl record { words = refl; homes = refl; views = refl }
