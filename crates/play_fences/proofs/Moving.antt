-- A free merge can be moved: behind the next own command, or in front of the last one.
use Rattle.std.proofs.Common.{◌≡◌, ◌≢◌, ℕ, suc, zero, ◌+◌, ◌-◌, ◌<◌, ◌≤◌, ◌⊎◌, inl, inr, nat_lt, nat_le, max, Bool, true, false, cond, ◌||◌, Option, List, [], ◌∷◌, ◌++◌, map, length, drop, slice_get, Some, refl, sym, ap, subst, ◌∙◌, arith, append_assoc}
use Rattle.std.proofs.lemmas.Bool.{ltb-true, leb-true, leb-false}
use Rattle.std.proofs.lemmas.Option.{same_Some}
use Rattle.std.specs.List.{AllByRecursion, list_any}
use Rattle.pf_model.specs.declared.lines.AppStep.{AppStep}
use Rattle.pf_model.specs.declared.lines.AppStep.TheVariants as app
use Rattle.pf_model.specs.declared.lines.BaseStep.{BaseStep}
use Rattle.pf_model.specs.declared.lines.BaseStep.TheVariants as base
use Rattle.pf_model.specs.declared.lines.AppLine.{AppLine}
use Rattle.pf_model.specs.declared.lines.BaseLine.{BaseLine}
use Rattle.pf_history.specs.declared.commands.Command.{Command}
use Rattle.pf_history.specs.declared.commands.Command.TheVariants as command
use Rattle.pf_history.specs.declared.commands.Merge.{Merge}
use Rattle.pf_history.specs.Objects.{opening_state}
use Rattle.pf_history.specs.Logs.{Log}
use Rattle.pf_history.specs.Asks.{Ask, BaseAsk, Wanted, WantEdit, WantView, WantSync, WantFrame, WantClose, asked_from, asked_app, asked_base_from, asked_dbase}
use Rattle.pf_history.proofs.Fitting.{fit_law}
use Rattle.pf_history.proofs.Lists.{all_drop_at}
use Rattle.play_fences.specs.Fences.{is_own, wants_frame, own_asks, behind_frames, is_free, first_free}
use Rattle.play_fences.specs.Unsynced.{places_from, merge_places}
use Rattle.play_fences.specs.Laws.{FreeLaw}
use Rattle.play_fences.proofs.Bare.{commands_of}
use Rattle.play_fences.proofs.Placing.{frames_in, own_in, needs_of}
use Rattle.play_fences.proofs.Points.{Point, point, made, after_all, Along, along_of, own_log, own_commands_of, IsOwnLog, own_log_follows}
use Rattle.play_fences.proofs.Swapping.{merges, merges_of, syncs_of, HasNoOwn, IsEarlyNext, AreEarly, later, sooner}
use Rattle.play_fences.proofs.Finding.{count_merges, place_behind, place_there, syncs_place, held_place, own_place, own_behind, behind_append, behind_quiet, count_append, count_own, count_of, bases_after, merges_after, get_drop, NextOwn, next_own, LastOwn, last_own, along_rest, under, MergeAt, merge_at, MadeOwn, made_own, MeetsOwn, meets_own_first, quiet_own, no_own_left}

-- What is asked of the application: needs rise, and the closing Sync is the last.

abbrev AreOrderly : List Ask → Type 0
AreOrderly [] = Unit {0}
AreOrderly (a ∷ asks) = AllByRecursion (λ b. a.need ≤ b.need) asks × (a.wanted ≡ WantClose → asks ≡ []) × AreOrderly asks

need_least : (need : ℕ) (synced : Bool) (steps : List AppStep) → AllByRecursion (λ a. need ≤ a.need) (asked_from need synced steps)
need_least need synced [] = (omega arith, tt)
need_least need synced (app.Edit e ∷ steps) = (omega arith, need_least need synced steps)
need_least need synced (app.View channel v ∷ steps) = (omega arith, need_least need synced steps)
need_least need synced (app.Sync ∷ steps) = (omega arith, need_least need true steps)
need_least need true (app.Frame ∷ steps) = (omega arith, need_least need false steps)
need_least need false (app.Frame ∷ steps) = (omega arith, (omega arith, need_least need false steps))
need_least need synced (app.Wait n ∷ steps) = less (asked_from (max need n) synced steps) (need_least (max need n) synced steps)
  where
    less : (asks : List Ask) → AllByRecursion (λ a. max need n ≤ a.need) asks → AllByRecursion (λ a. need ≤ a.need) asks
    less [] h = tt
    less (a ∷ asks) h = let l : max need n ≤ a.need = h.0 in (omega arith, less asks h.1)

orderly : (need : ℕ) (synced : Bool) (steps : List AppStep) → AreOrderly (asked_from need synced steps)
orderly need synced [] = (tt, λ close. refl, tt)
orderly need synced (app.Edit e ∷ steps) = (need_least need synced steps, λ close. absurd (cc), orderly need synced steps)
orderly need synced (app.View channel v ∷ steps) = (need_least need synced steps, λ close. absurd (cc), orderly need synced steps)
orderly need synced (app.Sync ∷ steps) = (need_least need true steps, λ close. absurd (cc), orderly need true steps)
orderly need true (app.Frame ∷ steps) = (need_least need false steps, λ close. absurd (cc), orderly need false steps)
orderly need false (app.Frame ∷ steps) =
    ((omega arith, need_least need false steps), λ close. absurd (cc), (need_least need false steps, λ close. absurd (cc), orderly need false steps))
orderly need synced (app.Wait n ∷ steps) = orderly (max need n) synced steps

orderly_after : (cs : List Command) (p : Point) → AreOrderly p.asks → AreOrderly (after_all p cs).asks
orderly_after [] p h = h
orderly_after (c ∷ cs) p h = orderly_after cs (made p c) (by c)
  where
    rest : (asks : List Ask) → AreOrderly asks → AreOrderly (drop 1 asks)
    rest [] h = tt
    rest (a ∷ asks) h = h.2

    by : (c : Command) → AreOrderly (made p c).asks
    by (command.Edit e) = rest p.asks h
    by (command.Merge m) = h
    by (command.View channel v) = rest p.asks h
    by (command.Sync r) = rest p.asks h
    by command.Frame = rest p.asks h

-- some own command does not wait for merge j
abbrev HasEarly : ℕ → List Ask → Type 0
HasEarly j own = list_any (λ a. nat_lt a.need j) own ≡ true

least_early : (k j : ℕ) (asks : List Ask) → AllByRecursion (λ b. k ≤ b.need) asks → HasEarly j (own_in asks) → k < j
least_early k j [] least early = absurd (cc)
least_early k j (a ∷ asks) least early = by (is_own a.wanted) (nat_lt a.need j) refl (least_early k j asks least.1) early
  where
    by : (t u : Bool) → nat_lt a.need j ≡ u → (HasEarly j (own_in asks) → k < j) → HasEarly j (cond t (a ∷ own_in asks) (own_in asks)) → k < j
    by true true e more early = let l = ltb-true a.need j e in let m = least.0 in omega (arith, l, m)
    by true false e more early = more (subst (λ (b : Bool). (b || list_any (λ (a : Ask). nat_lt a.need j) (own_in asks)) ≡ true) e early)
    by false u e more early = more early

early_next : (n : ℕ) (asks : List Ask) → AreOrderly asks → HasEarly (n + 1) (own_in asks) → IsEarlyNext asks n
early_next n [] order early = absurd (cc)
early_next n (a ∷ asks) order early = by a.wanted refl (early_next n asks order.2)
  where
    -- the ask's own need is small, since a later own command's is
    small : (t : Bool) → is_own a.wanted ≡ t → a.need ≤ n
    small true own =
        let here : HasEarly (n + 1) (a ∷ own_in asks) = subst (λ (b : Bool). HasEarly (n + 1) (cond b (a ∷ own_in asks) (own_in asks))) own early in
        first (nat_lt a.need (n + 1)) refl here
      where
        first : (u : Bool) → nat_lt a.need (n + 1) ≡ u → HasEarly (n + 1) (a ∷ own_in asks) → a.need ≤ n
        first true e here = let l = ltb-true a.need (n + 1) e in omega (arith, l)
        first false e here =
            let l = least_early a.need (n + 1) asks order.0 (subst (λ (b : Bool). (b || list_any (λ (a : Ask). nat_lt a.need (n + 1)) (own_in asks)) ≡ true) e here) in
            omega (arith, l)
    small false other =
        let l = least_early a.need (n + 1) asks order.0 (behind other) in omega (arith, l)
      where
        behind : is_own a.wanted ≡ false → HasEarly (n + 1) (own_in asks)
        behind other = subst (λ (b : Bool). HasEarly (n + 1) (cond b (a ∷ own_in asks) (own_in asks))) other early

    by : (w : Wanted) → a.wanted ≡ w → (HasEarly (n + 1) (own_in asks) → IsEarlyNext asks n) → (a.need ≤ n) × ((is_own a.wanted ≡ true) ⊎ ((a.wanted ≡ WantSync) × IsEarlyNext asks n))
    by (WantEdit e) is more = let own : is_own a.wanted ≡ true = ap is_own is in (small true own, inl own)
    by (WantView channel v) is more = let own : is_own a.wanted ≡ true = ap is_own is in (small true own, inl own)
    by WantFrame is more = let own : is_own a.wanted ≡ true = ap is_own is in (small true own, inl own)
    by WantSync is more =
        let other : is_own a.wanted ≡ false = ap is_own is in
        (small false other, inr (is, more (subst (λ (b : Bool). HasEarly (n + 1) (cond b (a ∷ own_in asks) (own_in asks))) other early)))
    by WantClose is more =
        let other : is_own a.wanted ≡ false = ap is_own is in
        let none : asks ≡ [] = order.1 is in
        let here : HasEarly (n + 1) (own_in asks) = subst (λ (b : Bool). HasEarly (n + 1) (cond b (a ∷ own_in asks) (own_in asks))) other early in
        absurd (let gone : HasEarly (n + 1) [] = subst (λ (xs : List Ask). HasEarly (n + 1) (own_in xs)) none here in cc)

-- What is asked of the database process: awaits rise.

abbrev AreRising : List BaseAsk → Type 0
AreRising [] = Unit {0}
AreRising (b ∷ bases) = AllByRecursion (λ c. b.need ≤ c.need) bases × AreRising bases

await_least : (need : ℕ) (since steps : List BaseStep) → AllByRecursion (λ b. need ≤ b.need) (asked_base_from need since steps)
await_least need since [] = tt
await_least need since (base.Buffer ∷ steps) = await_least need [] steps
await_least need since (base.Edit e ∷ steps) = await_least need (since ++ base.Edit e ∷ []) steps
await_least need since (base.Ask e ∷ steps) = await_least need (since ++ base.Ask e ∷ []) steps
await_least need since (base.Merge ∷ steps) = (omega arith, await_least need [] steps)
await_least need since (base.Await n ∷ steps) = less (asked_base_from (max need n) since steps) (await_least (max need n) since steps)
  where
    less : (bases : List BaseAsk) → AllByRecursion (λ b. max need n ≤ b.need) bases → AllByRecursion (λ b. need ≤ b.need) bases
    less [] h = tt
    less (b ∷ bases) h = let l : max need n ≤ b.need = h.0 in (omega arith, less bases h.1)

rising : (need : ℕ) (since steps : List BaseStep) → AreRising (asked_base_from need since steps)
rising need since [] = tt
rising need since (base.Buffer ∷ steps) = rising need [] steps
rising need since (base.Edit e ∷ steps) = rising need (since ++ base.Edit e ∷ []) steps
rising need since (base.Ask e ∷ steps) = rising need (since ++ base.Ask e ∷ []) steps
rising need since (base.Merge ∷ steps) = (await_least need [] steps, rising need [] steps)
rising need since (base.Await n ∷ steps) = rising (max need n) since steps

rising_drop : (k : ℕ) (bases : List BaseAsk) → AreRising bases → AreRising (drop k bases)
rising_drop zero bases h = h
rising_drop (suc k) [] h = tt
rising_drop (suc k) (b ∷ bases) h = rising_drop k bases h.1

early_run : (ms : List Merge) (m : Merge) (bases : List BaseAsk) (b : BaseAsk) (f : ℕ) → AreRising bases → slice_get bases (length ms) ≡ Some b → b.need ≤ f → AreEarly (ms ++ m ∷ []) bases f
early_run [] m [] b f rise at l = absurd (cc)
early_run [] m (c ∷ bases) b f rise at l = let same = same_Some c b at in (subst (λ (x : BaseAsk). x.need ≤ f) (sym same) l, tt)
early_run (y ∷ ms) m [] b f rise at l = absurd (cc)
early_run (y ∷ ms) m (c ∷ bases) b f rise at l =
    let before : c.need ≤ b.need = all_drop_at (λ (d : BaseAsk). c.need ≤ d.need) 0 bases rise.0 (length ms) b at (omega arith) in
    (omega (arith, before, l), early_run ms m bases b f rise.1 at l)

-- Behind Frames

any_behind : (j k : ℕ) (own : List Ask) → HasEarly j (behind_frames k own) → HasEarly j own
any_behind j zero own h = h
any_behind j (suc k) [] h = absurd (cc)
any_behind j (suc k) (a ∷ own) h = by (wants_frame a.wanted) (nat_lt a.need j) (any_behind j k own) (any_behind j (suc k) own) h
  where
    by : (t u : Bool) → (HasEarly j (behind_frames k own) → HasEarly j own) → (HasEarly j (behind_frames (suc k) own) → HasEarly j own) → HasEarly j (cond t (behind_frames k own) (behind_frames (suc k) own)) → (u || list_any (λ a. nat_lt a.need j) own) ≡ true
    by t true one more h = refl
    by true false one more h = one h
    by false false one more h = more h

-- more frames than stand in a front
behind_over : (front own : List Ask) (d : ℕ) → behind_frames (frames_in front + suc d) (front ++ own) ≡ behind_frames (suc d) own
behind_over [] own d = ap (λ n. behind_frames n own) (zero_add (suc d))
  where
    zero_add : (n : ℕ) → 0 + n ≡ n
    zero_add n = omega arith
behind_over (a ∷ front) own d = by (wants_frame a.wanted) refl (behind_over front own d)
  where
    by : (t : Bool) → wants_frame a.wanted ≡ t → behind_frames (frames_in front + suc d) (front ++ own) ≡ behind_frames (suc d) own → behind_frames (cond t 1 0 + frames_in front + suc d) (a ∷ (front ++ own)) ≡ behind_frames (suc d) own
    by true is rest =
        ap (λ n. behind_frames n (a ∷ (front ++ own))) (counted (frames_in front) d)
        ∙ ap (λ t. cond t (behind_frames (frames_in front + suc d) (front ++ own)) (behind_frames (suc (frames_in front + suc d)) (front ++ own))) is ∙ rest
      where
        counted : (f d : ℕ) → 1 + f + suc d ≡ suc (f + suc d)
        counted f d = omega arith
    by false is rest =
        ap (λ n. behind_frames n (a ∷ (front ++ own))) (counted (frames_in front) d)
        ∙ ap (λ t. cond t (behind_frames (frames_in front + d) (front ++ own)) (behind_frames (suc (frames_in front + d)) (front ++ own))) is
        ∙ ap (λ n. behind_frames n (front ++ own)) (again (frames_in front) d) ∙ rest
      where
        counted : (f d : ℕ) → 0 + f + suc d ≡ suc (f + d)
        counted f d = omega arith

        again : (f d : ℕ) → suc (f + d) ≡ f + suc d
        again f d = omega arith

-- a merge that is free, though nothing behind it is early, awaits no more than the frames before the last own command
awaits_before : (j k : ℕ) (front : List Ask) (a : Ask) (rest : List Ask) → HasEarly j (behind_frames k (front ++ a ∷ rest)) → list_any (λ a. nat_lt a.need j) rest ≡ false → k ≤ frames_in front
awaits_before j k front a rest free none = by (nat_le k (frames_in front)) refl
  where
    within : (d : ℕ) (t : Bool) → HasEarly j (cond t (behind_frames d rest) (behind_frames (suc d) rest)) → HasEarly j rest
    within d true h = any_behind j d rest h
    within d false h = any_behind j (suc d) rest h

    by : (t : Bool) → nat_le k (frames_in front) ≡ t → k ≤ frames_in front
    by true e = leb-true k (frames_in front) e
    by false e =
        let l = leb-false k (frames_in front) e in
        let over : k ≡ frames_in front + suc (k - suc (frames_in front)) = omega (arith, l) in
        let there : HasEarly j (behind_frames (suc (k - suc (frames_in front))) (a ∷ rest)) =
        subst (HasEarly j) (ap (λ n. behind_frames n (front ++ a ∷ rest)) over ∙ behind_over front (a ∷ rest) (k - suc (frames_in front))) free in
        absurd (let some : list_any (λ a. nat_lt a.need j) rest ≡ true = within (k - suc (frames_in front)) (wants_frame a.wanted) there in cc)

-- The merge of a number t, counted from 0, moved.
record IsMoved (ahead all : ℕ) (p : Point) (cs : List Command) (t : ℕ) : Type 0 where
  moved : List Command
  along : Along ahead all p moved
  elsewhere : slice_get (places_from 0 moved) t ≢ slice_get (places_from 0 cs) t

-- two places
apart : {a b : ℕ} (x y : Option ℕ) → x ≡ Some a → y ≡ Some b → a ≢ b → x ≢ y
apart {a} {b} x y is_a is_b differ same = differ (same_Some a b (sym is_a ∙ same ∙ is_b))

after_append : (xs ys : List Command) (p : Point) → after_all p (xs ++ ys) ≡ after_all (after_all p xs) ys
after_append [] ys p = refl
after_append (c ∷ xs) ys p = after_append xs ys (made p c)

get_within : {X : Type 0} (xs : List X) (t : ℕ) (x : X) → slice_get xs t ≡ Some x → t < length xs
get_within [] t x at = absurd (cc)
get_within (y ∷ xs) zero x at = omega arith
get_within (y ∷ xs) (suc t) x at = let l = get_within xs t x at in omega (arith, l)

-- the merge goes behind the next own command
moved_later : (ahead all : ℕ) (p : Point) (front : List Command) (m : Merge) (rest : List Command) (t : ℕ) → count_merges front ≡ t → NextOwn rest → IsEarlyNext (after_all p front).asks (after_all p front).merges → Along ahead all p (front ++ command.Merge m ∷ rest) → IsMoved ahead all p (front ++ command.Merge m ∷ rest) t
moved_later ahead all p front m rest t count n early h =
    record {
      moved = front ++ target;
      along = under ahead all front (command.Merge m ∷ rest) target p leads h;
      elsewhere = apart (slice_get (places_from 0 (front ++ target)) t) (slice_get (places_from 0 (front ++ command.Merge m ∷ rest)) t) new old (λ same. absurd (omega (arith, same)));
    }
  where
    target : List Command
    target = syncs_of n.quiet ++ n.next ∷ (merges (m ∷ merges_of n.quiet) ++ n.rest)

    leads : Along ahead all (after_all p front) (command.Merge m ∷ rest) → Along ahead all (after_all p front) target
    leads g =
        later ahead all (m ∷ []) n.quiet (after_all p front) n.next n.rest n.none n.own early
        (subst (λ (cs : List Command). Along ahead all (after_all p front) (command.Merge m ∷ cs)) n.whole g)

    at : t ≡ count_merges front + 0
    at = omega (arith, count)

    new : slice_get (places_from 0 (front ++ target)) t ≡ Some (place_behind 0 front + 1)
    new =
        ap (slice_get (places_from 0 (front ++ target))) at
        ∙ place_there front 0 target
        ∙ ap (λ ps. slice_get ps 0)
        (syncs_place (place_behind 0 front) n.quiet (n.next ∷ (merges (m ∷ merges_of n.quiet) ++ n.rest)) ∙ own_place (place_behind 0 front) n.next (merges (m ∷ merges_of n.quiet) ++ n.rest) n.own)

    old : slice_get (places_from 0 (front ++ command.Merge m ∷ rest)) t ≡ Some (place_behind 0 front)
    old = ap (slice_get (places_from 0 (front ++ command.Merge m ∷ rest))) at ∙ place_there front 0 (command.Merge m ∷ rest)

-- the merge goes in front of the last own command
moved_sooner : (ahead all : ℕ) (p : Point) (front : List Command) (m : Merge) (rest : List Command) (t : ℕ) → count_merges front ≡ t → (l : LastOwn front) → AreEarly (merges_of l.quiet ++ m ∷ []) (after_all p l.front).bases (after_all p l.front).frames → Along ahead all p (front ++ command.Merge m ∷ rest) → IsMoved ahead all p (front ++ command.Merge m ∷ rest) t
moved_sooner ahead all p front m rest t count l early h =
    record {
      moved = l.front ++ target;
      along = under ahead all l.front (l.last ∷ (l.quiet ++ command.Merge m ∷ rest)) target p leads (subst (Along ahead all p) whole h);
      elsewhere = apart (slice_get (places_from 0 (l.front ++ target)) t) (slice_get (places_from 0 (front ++ command.Merge m ∷ rest)) t) new old (λ same. absurd (omega (arith, same)));
    }
  where
    target : List Command
    target = merges (merges_of l.quiet ++ m ∷ []) ++ l.last ∷ (syncs_of l.quiet ++ rest)

    whole : front ++ command.Merge m ∷ rest ≡ l.front ++ l.last ∷ (l.quiet ++ command.Merge m ∷ rest)
    whole = ap (λ xs. xs ++ command.Merge m ∷ rest) l.whole ∙ append_assoc l.front (l.last ∷ l.quiet) (command.Merge m ∷ rest)

    leads : Along ahead all (after_all p l.front) (l.last ∷ (l.quiet ++ command.Merge m ∷ rest)) → Along ahead all (after_all p l.front) target
    leads g = sooner ahead all l.quiet (after_all p l.front) l.last m rest l.none l.own early g

    at : t ≡ count_merges l.front + length (merges_of l.quiet)
    at =
        let split = ap count_merges l.whole ∙ count_append l.front (l.last ∷ l.quiet) in
        let last = count_own l.last l.quiet l.own in
        let quiet = count_of l.quiet in
        omega (arith, count, split, last, quiet)

    new : slice_get (places_from 0 (l.front ++ target)) t ≡ Some (place_behind 0 l.front)
    new =
        ap (slice_get (places_from 0 (l.front ++ target))) at
        ∙ place_there l.front (length (merges_of l.quiet)) target
        ∙ held_place (place_behind 0 l.front) (merges_of l.quiet) m (l.last ∷ (syncs_of l.quiet ++ rest))

    behind : place_behind 0 front ≡ place_behind 0 l.front + 1
    behind =
        ap (place_behind 0) l.whole
        ∙ behind_append 0 l.front (l.last ∷ l.quiet)
        ∙ own_behind (place_behind 0 l.front) l.last l.quiet l.own
        ∙ behind_quiet (place_behind 0 l.front + 1) l.quiet l.none

    here : t ≡ count_merges front + 0
    here = omega (arith, count)

    old : slice_get (places_from 0 (front ++ command.Merge m ∷ rest)) t ≡ Some (place_behind 0 l.front + 1)
    old =
        ap (slice_get (places_from 0 (front ++ command.Merge m ∷ rest))) here
        ∙ place_there front 0 (command.Merge m ∷ rest)
        ∙ ap (λ n. Some n) behind

-- merges between the last own command and a free merge await no more than the frames before that command
sooner_early : (ahead all : ℕ) (p : Point) (front : List Command) (m : Merge) (rest : List Command) (t : ℕ) (b : BaseAsk) → count_merges front ≡ t → (l : LastOwn front) → p.frames ≡ 0 → AreRising p.bases → slice_get p.bases t ≡ Some b → HasEarly (t + 1) (behind_frames b.need (own_in p.asks)) → list_any (λ a. nat_lt a.need (t + 1)) (own_in (after_all p front).asks) ≡ false → Along ahead all p (front ++ command.Merge m ∷ rest) → AreEarly (merges_of l.quiet ++ m ∷ []) (after_all p l.front).bases (after_all p l.front).frames
sooner_early ahead all p front m rest t b count l opening rise there free none h =
    early_run (merges_of l.quiet) m q.bases b q.frames rising_there base_there awaited
  where
    q : Point
    q = after_all p l.front

    along : Along ahead all p (l.front ++ l.last ∷ (l.quiet ++ command.Merge m ∷ rest))
    along = subst (Along ahead all p) (ap (λ xs. xs ++ command.Merge m ∷ rest) l.whole ∙ append_assoc l.front (l.last ∷ l.quiet) (command.Merge m ∷ rest)) h

    along_q : Along ahead all q (l.last ∷ (l.quiet ++ command.Merge m ∷ rest))
    along_q = along_rest ahead all l.front (l.last ∷ (l.quiet ++ command.Merge m ∷ rest)) p along

    made_before : MadeOwn ahead all p l.front
    made_before = made_own ahead all l.front (l.last ∷ (l.quiet ++ command.Merge m ∷ rest)) p along

    last : MeetsOwn ahead all q l.last
    last = meets_own_first ahead all q l.last l.own along_q.0

    rising_there : AreRising q.bases
    rising_there = subst AreRising (sym (bases_after l.front p)) (rising_drop (count_merges l.front) p.bases rise)

    at : count_merges l.front + length (merges_of l.quiet) ≡ t
    at =
        let split = ap count_merges l.whole ∙ count_append l.front (l.last ∷ l.quiet) in
        let last = count_own l.last l.quiet l.own in
        let quiet = count_of l.quiet in
        omega (arith, count, split, last, quiet)

    base_there : slice_get q.bases (length (merges_of l.quiet)) ≡ Some b
    base_there =
        ap (λ bs. slice_get bs (length (merges_of l.quiet))) (bases_after l.front p)
        ∙ sym (get_drop (count_merges l.front) (length (merges_of l.quiet)) p.bases)
        ∙ ap (slice_get p.bases) at
        ∙ there

    -- what is left of the own commands behind the last one
    left : own_in (made q l.last).asks ≡ own_in (after_all p front).asks
    left =
        quiet_own ahead all l.quiet (command.Merge m ∷ rest) (made q l.last) l.none along_q.1
        ∙ ap (λ (r : Point). own_in r.asks) (sym (after_append l.front (l.last ∷ l.quiet) p) ∙ ap (after_all p) (sym l.whole))

    whole : own_in p.asks ≡ made_before.own ++ last.ask ∷ own_in (made q l.last).asks
    whole = made_before.whole ∙ ap (λ own. made_before.own ++ own) last.whole

    awaited : b.need ≤ q.frames
    awaited =
        let few = awaits_before (t + 1) b.need made_before.own last.ask (own_in (made q l.last).asks)
        (subst (λ (own : List Ask). HasEarly (t + 1) (behind_frames b.need own)) whole free)
        (ap (list_any (λ a. nat_lt a.need (t + 1))) left ∙ none) in
        let frames = made_before.frames in
        omega (arith, few, frames, opening)

-- a free merge is moved
moved_free : (ahead all : ℕ) (p : Point) (cs : List Command) (t : ℕ) (b : BaseAsk) → p.merges ≡ 0 → p.frames ≡ 0 → AreOrderly p.asks → AreRising p.bases → slice_get p.bases t ≡ Some b → HasEarly (t + 1) (behind_frames b.need (own_in p.asks)) → Along ahead all p cs → IsMoved ahead all p cs t
moved_free ahead all p cs t b no_merges no_frames order rise there free h =
    subst (λ (xs : List Command). IsMoved ahead all p xs t) (sym at.whole) (by (list_any (λ a. nat_lt a.need (t + 1)) (own_in q.asks)) refl)
  where
    at : MergeAt ahead all cs t
    at = merge_at ahead all cs t p h (get_within p.bases t b there)

    q : Point
    q = after_all p at.front

    along : Along ahead all p (at.front ++ command.Merge at.merge ∷ at.rest)
    along = subst (Along ahead all p) at.whole h

    merged : q.merges ≡ t
    merged = let many = merges_after at.front p in let count = at.count in omega (arith, many, count, no_merges)

    later_case : HasEarly (t + 1) (own_in q.asks) → HasNoOwn at.rest ⊎ NextOwn at.rest → IsMoved ahead all p (at.front ++ command.Merge at.merge ∷ at.rest) t
    later_case early (inr n) =
        moved_later ahead all p at.front at.merge at.rest t at.count n
        (subst (IsEarlyNext q.asks) (sym merged) (early_next t q.asks (orderly_after at.front p order) early)) along
    later_case early (inl none) =
        let left : own_in q.asks ≡ [] = no_own_left ahead all at.rest (made q (command.Merge at.merge)) none (along_rest ahead all at.front (command.Merge at.merge ∷ at.rest) p along).1 in
        absurd (let gone : HasEarly (t + 1) [] = subst (HasEarly (t + 1)) left early in cc)

    sooner_case : list_any (λ a. nat_lt a.need (t + 1)) (own_in q.asks) ≡ false → HasNoOwn at.front ⊎ LastOwn at.front → IsMoved ahead all p (at.front ++ command.Merge at.merge ∷ at.rest) t
    sooner_case none (inr l) =
        moved_sooner ahead all p at.front at.merge at.rest t at.count l
        (sooner_early ahead all p at.front at.merge at.rest t b at.count l no_frames rise there free none along) along
    sooner_case none (inl quiet) =
        let same : own_in p.asks ≡ own_in q.asks = quiet_own ahead all at.front (command.Merge at.merge ∷ at.rest) p quiet along in
        let some : HasEarly (t + 1) (own_in q.asks) = subst (HasEarly (t + 1)) same (any_behind (t + 1) b.need (own_in p.asks) free) in
        absurd (cc)

    by : (u : Bool) → list_any (λ a. nat_lt a.need (t + 1)) (own_in q.asks) ≡ u → IsMoved ahead all p (at.front ++ command.Merge at.merge ∷ at.rest) t
    by true early = later_case early (next_own at.rest)
    by false none = sooner_case none (last_own at.front)

-- The first free merge, by its number.
record IsFreeAt (own : List Ask) (i j : ℕ) (bases : List BaseAsk) : Type 0 where
  t : ℕ
  ask : BaseAsk
  number : j ≡ i + t
  there : slice_get bases t ≡ Some ask
  free : HasEarly (t + i) (behind_frames ask.need own)

free_at : (own : List Ask) (i j : ℕ) (bases : List BaseAsk) → first_free own i (needs_of bases) ≡ Some j → IsFreeAt own i j bases
free_at own i j [] h = absurd (cc)
free_at own i j (b ∷ bases) h = by (is_free own i b.need) refl (free_at own (i + 1) j bases) h
  where
    by : (u : Bool) → is_free own i b.need ≡ u → (first_free own (i + 1) (needs_of bases) ≡ Some j → IsFreeAt own (i + 1) j bases) → cond u (Some i) (first_free own (i + 1) (needs_of bases)) ≡ Some j → IsFreeAt own i j (b ∷ bases)
    by true free more h =
        let same : i ≡ j = same_Some i j h in
        let zero_add : i ≡ 0 + i = omega arith in
        record { t = 0; ask = b; number = omega (arith, same); there = refl; free = subst (λ (n : ℕ). HasEarly n (behind_frames b.need own)) zero_add free }
    by false fenced more h =
        let rest = more h in
        let number = rest.number in
        record { t = suc rest.t; ask = rest.ask; number = omega (arith, number); there = rest.there; free = subst (λ (n : ℕ). HasEarly n (behind_frames rest.ask.need own)) (shifted rest.t) rest.free }
      where
        shifted : (t : ℕ) → t + (i + 1) ≡ suc t + i
        shifted t = omega arith

pub free_law : FreeLaw
free_law channels ahead app dbase log j whole free =
    record {
      other = other;
      whole = record { legal = own.legal; wholly = (fit_law channels ahead app dbase other).fits_wholly (record { follows_app = own.follows_app; follows_dbase = own.follows_dbase }) };
      elsewhere = λ same. moved.elsewhere (ap (λ cs. slice_get (places_from 0 cs) at.t) (sym (own_commands_of ahead all (opening_state channels) moved.moved)) ∙ ap (slice_get (merge_places other)) (sym number) ∙ same ∙ ap (slice_get (merge_places log)) number);
    }
  where
    all : ℕ
    all = length (asked_dbase dbase)

    at : IsFreeAt (own_asks app) 1 j (asked_dbase dbase)
    at = free_at (own_asks app) 1 j (asked_dbase dbase) free

    along : Along ahead all (point (asked_app app) (asked_dbase dbase) (opening_state channels)) (commands_of log)
    along =
        let follows = (fit_law channels ahead app dbase log).follows_wholly whole.wholly in
        along_of ahead all (opening_state channels) log (asked_app app) (asked_dbase dbase) whole.legal follows.follows_app follows.follows_dbase

    moved : IsMoved ahead all (point (asked_app app) (asked_dbase dbase) (opening_state channels)) (commands_of log) at.t
    moved =
        moved_free ahead all (point (asked_app app) (asked_dbase dbase) (opening_state channels)) (commands_of log) at.t at.ask refl refl
        (orderly 0 false (map (λ (l : AppLine). l.step) app)) (rising 0 [] (map (λ (l : BaseLine). l.step) dbase)) at.there at.free along

    other : Log
    other = own_log ahead all (opening_state channels) moved.moved

    own : IsOwnLog ahead all (opening_state channels) moved.moved (asked_app app) (asked_dbase dbase)
    own = own_log_follows ahead all (opening_state channels) moved.moved (asked_app app) (asked_dbase dbase) moved.along

    number : j - 1 ≡ at.t
    number = let n = at.number in omega (arith, n)
