-- Where a merge stands among commands, and which own commands stand before it and behind it.
use Rattle.std.proofs.Common.{◌≡◌, ℕ, suc, zero, ◌+◌, ◌<◌, ◌⊎◌, inl, inr, Bool, true, false, cond, not, List, [], ◌∷◌, ◌++◌, length, drop, slice_get, Some, refl, sym, ap, ◌∙◌, arith}
use Rattle.std.proofs.lemmas.List.{length-drop}
use Rattle.pf_history.specs.declared.commands.Command.{Command}
use Rattle.pf_history.specs.declared.commands.Command.TheVariants as command
use Rattle.pf_history.specs.declared.commands.Merge.{Merge}
use Rattle.pf_history.specs.Commands.{is_frame}
use Rattle.pf_history.specs.Asks.{Ask}
use Rattle.pf_history.proofs.Counting.{one}
use Rattle.play_fences.specs.Fences.{wants_frame}
use Rattle.play_fences.specs.Unsynced.{is_sync, places_from}
use Rattle.play_fences.proofs.Placing.{frames_in, own_in, meets_own}
use Rattle.play_fences.proofs.Points.{Point, counts_at, made, after_all, MeetsFirst, May, Along}
use Rattle.play_fences.proofs.Swapping.{merges, merges_of, syncs_of, is_own_command, HasNoOwn}

abbrev pub count_merges : List Command → ℕ
count_merges [] = 0
count_merges (command.Merge m ∷ cs) = suc (count_merges cs)
count_merges (c ∷ cs) = count_merges cs

-- behind how many own commands the next one stands
abbrev pub place_behind : ℕ → List Command → ℕ
place_behind n [] = n
place_behind n (command.Edit e ∷ cs) = place_behind (n + 1) cs
place_behind n (command.Merge m ∷ cs) = place_behind n cs
place_behind n (command.View channel v ∷ cs) = place_behind (n + 1) cs
place_behind n (command.Sync r ∷ cs) = place_behind n cs
place_behind n (command.Frame ∷ cs) = place_behind (n + 1) cs

-- Places

pub places_drop : (n : ℕ) (front rest : List Command) → drop (count_merges front) (places_from n (front ++ rest)) ≡ places_from (place_behind n front) rest
places_drop n [] rest = refl
places_drop n (command.Edit e ∷ front) rest = places_drop (n + 1) front rest
places_drop n (command.Merge m ∷ front) rest = places_drop n front rest
places_drop n (command.View channel v ∷ front) rest = places_drop (n + 1) front rest
places_drop n (command.Sync r ∷ front) rest = places_drop n front rest
places_drop n (command.Frame ∷ front) rest = places_drop (n + 1) front rest

pub get_drop : {X : Type 0} (k i : ℕ) (xs : List X) → slice_get xs (k + i) ≡ slice_get (drop k xs) i
get_drop zero i xs = ap (slice_get xs) (omega arith)
get_drop (suc k) i [] = refl
get_drop (suc k) i (x ∷ xs) = ap (slice_get (x ∷ xs)) (suc_add k i) ∙ get_drop k i xs
  where
    suc_add : (k i : ℕ) → suc k + i ≡ suc (k + i)
    suc_add k i = omega arith

-- the place of a merge
pub place_there : (front : List Command) (i : ℕ) (rest : List Command) → slice_get (places_from 0 (front ++ rest)) (count_merges front + i) ≡ slice_get (places_from (place_behind 0 front) rest) i
place_there front i rest = get_drop (count_merges front) i (places_from 0 (front ++ rest)) ∙ ap (λ ps. slice_get ps i) (places_drop 0 front rest)

pub syncs_place : (n : ℕ) (quiet rest : List Command) → places_from n (syncs_of quiet ++ rest) ≡ places_from n rest
syncs_place n [] rest = refl
syncs_place n (command.Edit e ∷ quiet) rest = syncs_place n quiet rest
syncs_place n (command.Merge m ∷ quiet) rest = syncs_place n quiet rest
syncs_place n (command.View channel v ∷ quiet) rest = syncs_place n quiet rest
syncs_place n (command.Sync r ∷ quiet) rest = syncs_place n quiet rest
syncs_place n (command.Frame ∷ quiet) rest = syncs_place n quiet rest

pub held_place : (n : ℕ) (held : List Merge) (m : Merge) (rest : List Command) → slice_get (places_from n (merges (held ++ m ∷ []) ++ rest)) (length held) ≡ Some n
held_place n [] m rest = refl
held_place n (h ∷ held) m rest = held_place n held m rest

pub own_place : (n : ℕ) (c : Command) (cs : List Command) → is_own_command c ≡ true → places_from n (c ∷ cs) ≡ places_from (n + 1) cs
own_place n (command.Edit e) cs own = refl
own_place n (command.Merge m) cs own = absurd (cc)
own_place n (command.View channel v) cs own = refl
own_place n (command.Sync r) cs own = absurd (cc)
own_place n command.Frame cs own = refl

pub own_behind : (n : ℕ) (c : Command) (cs : List Command) → is_own_command c ≡ true → place_behind n (c ∷ cs) ≡ place_behind (n + 1) cs
own_behind n (command.Edit e) cs own = refl
own_behind n (command.Merge m) cs own = absurd (cc)
own_behind n (command.View channel v) cs own = refl
own_behind n (command.Sync r) cs own = absurd (cc)
own_behind n command.Frame cs own = refl

pub behind_append : (n : ℕ) (xs ys : List Command) → place_behind n (xs ++ ys) ≡ place_behind (place_behind n xs) ys
behind_append n [] ys = refl
behind_append n (command.Edit e ∷ xs) ys = behind_append (n + 1) xs ys
behind_append n (command.Merge m ∷ xs) ys = behind_append n xs ys
behind_append n (command.View channel v ∷ xs) ys = behind_append (n + 1) xs ys
behind_append n (command.Sync r ∷ xs) ys = behind_append n xs ys
behind_append n (command.Frame ∷ xs) ys = behind_append (n + 1) xs ys

pub behind_quiet : (n : ℕ) (quiet : List Command) → HasNoOwn quiet → place_behind n quiet ≡ n
behind_quiet n [] none = refl
behind_quiet n (command.Edit e ∷ quiet) none = absurd (let h = none.0 in cc)
behind_quiet n (command.Merge m ∷ quiet) none = behind_quiet n quiet none.1
behind_quiet n (command.View channel v ∷ quiet) none = absurd (let h = none.0 in cc)
behind_quiet n (command.Sync r ∷ quiet) none = behind_quiet n quiet none.1
behind_quiet n (command.Frame ∷ quiet) none = absurd (let h = none.0 in cc)

-- Counts of merges

pub count_append : (xs ys : List Command) → count_merges (xs ++ ys) ≡ count_merges xs + count_merges ys
count_append [] ys = omega arith
count_append (command.Edit e ∷ xs) ys = count_append xs ys
count_append (command.Merge m ∷ xs) ys = let rest = count_append xs ys in omega (arith, rest)
count_append (command.View channel v ∷ xs) ys = count_append xs ys
count_append (command.Sync r ∷ xs) ys = count_append xs ys
count_append (command.Frame ∷ xs) ys = count_append xs ys

pub count_own : (c : Command) (cs : List Command) → is_own_command c ≡ true → count_merges (c ∷ cs) ≡ count_merges cs
count_own (command.Edit e) cs own = refl
count_own (command.Merge m) cs own = absurd (cc)
count_own (command.View channel v) cs own = refl
count_own (command.Sync r) cs own = refl
count_own command.Frame cs own = refl

pub count_of : (cs : List Command) → count_merges cs ≡ length (merges_of cs)
count_of [] = refl
count_of (command.Edit e ∷ cs) = count_of cs
count_of (command.Merge m ∷ cs) = ap suc (count_of cs)
count_of (command.View channel v ∷ cs) = count_of cs
count_of (command.Sync r ∷ cs) = count_of cs
count_of (command.Frame ∷ cs) = count_of cs

-- What commands leave asked of the database process.

drop_one : {X : Type 0} (n : ℕ) (xs : List X) → drop n (drop 1 xs) ≡ drop (suc n) xs
drop_one zero [] = refl
drop_one (suc n) [] = refl
drop_one n (x ∷ xs) = refl

pub bases_after : (cs : List Command) (p : Point) → (after_all p cs).bases ≡ drop (count_merges cs) p.bases
bases_after [] p = refl
bases_after (command.Edit e ∷ cs) p = bases_after cs (made p (command.Edit e))
bases_after (command.Merge m ∷ cs) p = bases_after cs (made p (command.Merge m)) ∙ drop_one (count_merges cs) p.bases
bases_after (command.View channel v ∷ cs) p = bases_after cs (made p (command.View channel v))
bases_after (command.Sync r ∷ cs) p = bases_after cs (made p (command.Sync r))
bases_after (command.Frame ∷ cs) p = bases_after cs (made p command.Frame)

pub merges_after : (cs : List Command) (p : Point) → (after_all p cs).merges ≡ p.merges + count_merges cs
merges_after [] p = omega arith
merges_after (command.Edit e ∷ cs) p = merges_after cs (made p (command.Edit e))
merges_after (command.Merge m ∷ cs) p = let rest = merges_after cs (made p (command.Merge m)) in omega (arith, rest)
merges_after (command.View channel v ∷ cs) p = merges_after cs (made p (command.View channel v))
merges_after (command.Sync r ∷ cs) p = merges_after cs (made p (command.Sync r))
merges_after (command.Frame ∷ cs) p = merges_after cs (made p command.Frame)

-- The next own command, and the last one

pub record NextOwn (cs : List Command) : Type 0 where
  pub quiet : List Command
  pub next : Command
  pub rest : List Command
  pub whole : cs ≡ quiet ++ next ∷ rest
  pub none : HasNoOwn quiet
  pub own : is_own_command next ≡ true

pub next_own : (cs : List Command) → HasNoOwn cs ⊎ NextOwn cs
next_own [] = inl tt
next_own (c ∷ cs) = by (is_own_command c) refl (next_own cs)
  where
    by : (t : Bool) → is_own_command c ≡ t → HasNoOwn cs ⊎ NextOwn cs → HasNoOwn (c ∷ cs) ⊎ NextOwn (c ∷ cs)
    by true own rest = inr (record { quiet = []; next = c; rest = cs; whole = refl; none = tt; own = own })
    by false other (inl none) = inl (other, none)
    by false other (inr n) = inr (record { quiet = c ∷ n.quiet; next = n.next; rest = n.rest; whole = ap (λ xs. c ∷ xs) n.whole; none = (other, n.none); own = n.own })

pub record LastOwn (cs : List Command) : Type 0 where
  pub front : List Command
  pub last : Command
  pub quiet : List Command
  pub whole : cs ≡ front ++ last ∷ quiet
  pub none : HasNoOwn quiet
  pub own : is_own_command last ≡ true

pub last_own : (cs : List Command) → HasNoOwn cs ⊎ LastOwn cs
last_own [] = inl tt
last_own (c ∷ cs) = by (is_own_command c) refl (last_own cs)
  where
    by : (t : Bool) → is_own_command c ≡ t → HasNoOwn cs ⊎ LastOwn cs → HasNoOwn (c ∷ cs) ⊎ LastOwn (c ∷ cs)
    by t is (inr l) = inr (record { front = c ∷ l.front; last = l.last; quiet = l.quiet; whole = ap (λ xs. c ∷ xs) l.whole; none = l.none; own = l.own })
    by true own (inl none) = inr (record { front = []; last = c; quiet = cs; whole = refl; none = none; own = own })
    by false other (inl none) = inl (other, none)

module _ (ahead all : ℕ) where
  pub along_rest : (front rest : List Command) (p : Point) → Along ahead all p (front ++ rest) → Along ahead all (after_all p front) rest
  along_rest [] rest p h = h
  along_rest (c ∷ front) rest p h = along_rest front rest (made p c) h.1

  -- what leads on from where the front ends
  pub under : (front ys zs : List Command) (p : Point) → (Along ahead all (after_all p front) ys → Along ahead all (after_all p front) zs) → Along ahead all p (front ++ ys) → Along ahead all p (front ++ zs)
  under [] ys zs p leads h = leads h
  under (c ∷ front) ys zs p leads h = (h.0, under front ys zs (made p c) leads h.1)

  -- The merge of a number among commands that make all that is asked
  pub record MergeAt (cs : List Command) (t : ℕ) : Type 0 where
    pub front : List Command
    pub merge : Merge
    pub rest : List Command
    pub whole : cs ≡ front ++ command.Merge merge ∷ rest
    pub count : count_merges front ≡ t

  pub merge_at : (cs : List Command) (t : ℕ) (p : Point) → Along ahead all p cs → t < length p.bases → MergeAt cs t
  merge_at [] t p h l = absurd (let none : length p.bases ≡ 0 = ap length h.1 in omega (arith, none, l))
  merge_at (command.Merge m ∷ cs) zero p h l = record { front = []; merge = m; rest = cs; whole = refl; count = refl }
  merge_at (command.Merge m ∷ cs) (suc t) p h l =
      let shorter = length-drop 1 p.bases in
      let at = merge_at cs t (made p (command.Merge m)) h.1 (omega (arith, shorter, l)) in
      record { front = command.Merge m ∷ at.front; merge = at.merge; rest = at.rest; whole = ap (λ xs. command.Merge m ∷ xs) at.whole; count = ap suc at.count }
  merge_at (command.Edit e ∷ cs) t p h l =
      let at = merge_at cs t (made p (command.Edit e)) h.1 l in
      record { front = command.Edit e ∷ at.front; merge = at.merge; rest = at.rest; whole = ap (λ xs. command.Edit e ∷ xs) at.whole; count = at.count }
  merge_at (command.View channel v ∷ cs) t p h l =
      let at = merge_at cs t (made p (command.View channel v)) h.1 l in
      record { front = command.View channel v ∷ at.front; merge = at.merge; rest = at.rest; whole = ap (λ xs. command.View channel v ∷ xs) at.whole; count = at.count }
  merge_at (command.Sync r ∷ cs) t p h l =
      let at = merge_at cs t (made p (command.Sync r)) h.1 l in
      record { front = command.Sync r ∷ at.front; merge = at.merge; rest = at.rest; whole = ap (λ xs. command.Sync r ∷ xs) at.whole; count = at.count }
  merge_at (command.Frame ∷ cs) t p h l =
      let at = merge_at cs t (made p command.Frame) h.1 l in
      record { front = command.Frame ∷ at.front; merge = at.merge; rest = at.rest; whole = ap (λ xs. command.Frame ∷ xs) at.whole; count = at.count }

  -- What is asked of the application's own commands

  -- the first ask is met by an own command, or is a Sync's
  own_first : (asks : List Ask) (p : Point) (c : Command) → MeetsFirst ahead all asks p c → is_sync c ≡ false → (a : Ask) × (own_in asks ≡ a ∷ own_in (drop 1 asks)) × (wants_frame a.wanted ≡ is_frame c)
  own_first [] p c h is = absurd h
  own_first (a ∷ asks) p c h is =
      let m = meets_own ahead all a.wanted (counts_at p) c h.0 in
      (a, ap (λ t. cond t (a ∷ own_in asks) (own_in asks)) (m.0 ∙ ap not is), m.1)

  sync_first : (asks : List Ask) (p : Point) (r : ℕ) → MeetsFirst ahead all asks p (command.Sync r) → own_in asks ≡ own_in (drop 1 asks)
  sync_first [] p r h = absurd h
  sync_first (a ∷ asks) p r h = let m = meets_own ahead all a.wanted (counts_at p) (command.Sync r) h.0 in ap (λ t. cond t (a ∷ own_in asks) (own_in asks)) m.0

  -- The own commands that a front of commands made, with the frames among them.
  pub record MadeOwn (p : Point) (front : List Command) : Type 0 where
    pub own : List Ask
    pub whole : own_in p.asks ≡ own ++ own_in (after_all p front).asks
    pub frames : (after_all p front).frames ≡ p.frames + frames_in own

  pub made_own : (front rest : List Command) (p : Point) → Along ahead all p (front ++ rest) → MadeOwn p front
  made_own [] rest p h = record { own = []; whole = refl; frames = omega arith }
  made_own (c ∷ front) rest p h = by c h.0 (made_own front rest (made p c) h.1)
    where
      own_case : (c : Command) → MeetsFirst ahead all p.asks p c → is_sync c ≡ false → (made p c).asks ≡ drop 1 p.asks → (made p c).frames ≡ p.frames + one (is_frame c) → MadeOwn (made p c) front → MadeOwn p (c ∷ front)
      own_case c may is asks frames m =
          let first = own_first p.asks p c may is in
          let counted : one (wants_frame first.0.wanted) ≡ one (is_frame c) = ap one first.2 in
          let rest = m.frames in
          record {
            own = first.0 ∷ m.own;
            whole = first.1 ∙ ap (λ asks. first.0 ∷ own_in asks) (sym asks) ∙ ap (λ asks. first.0 ∷ asks) m.whole;
            frames = omega (arith, rest, frames, counted);
          }

      by : (c : Command) → May ahead all p c → MadeOwn (made p c) front → MadeOwn p (c ∷ front)
      by (command.Edit e) may m = own_case (command.Edit e) may refl refl (omega arith) m
      by (command.Merge x) may m = record { own = m.own; whole = m.whole; frames = m.frames }
      by (command.View channel v) may m = own_case (command.View channel v) may refl refl (omega arith) m
      by (command.Sync r) may m = record { own = m.own; whole = sync_first p.asks p r may ∙ m.whole; frames = m.frames }
      by command.Frame may m = own_case command.Frame may refl refl refl m

  -- an own command is the first that is asked for
  pub record MeetsOwn (p : Point) (c : Command) : Type 0 where
    pub ask : Ask
    pub whole : own_in p.asks ≡ ask ∷ own_in (made p c).asks
    pub same : (made p c).bases ≡ p.bases

  pub meets_own_first : (p : Point) (c : Command) → is_own_command c ≡ true → May ahead all p c → MeetsOwn p c
  meets_own_first p (command.Edit e) own may = let f = own_first p.asks p (command.Edit e) may refl in record { ask = f.0; whole = f.1; same = refl }
  meets_own_first p (command.Merge m) own may = absurd (cc)
  meets_own_first p (command.View channel v) own may = let f = own_first p.asks p (command.View channel v) may refl in record { ask = f.0; whole = f.1; same = refl }
  meets_own_first p (command.Sync r) own may = absurd (cc)
  meets_own_first p command.Frame own may = let f = own_first p.asks p command.Frame may refl in record { ask = f.0; whole = f.1; same = refl }

  pub quiet_own : (quiet rest : List Command) (p : Point) → HasNoOwn quiet → Along ahead all p (quiet ++ rest) → own_in p.asks ≡ own_in (after_all p quiet).asks
  quiet_own [] rest p none h = refl
  quiet_own (command.Merge m ∷ quiet) rest p none h = quiet_own quiet rest (made p (command.Merge m)) none.1 h.1
  quiet_own (command.Sync r ∷ quiet) rest p none h = sync_first p.asks p r h.0 ∙ quiet_own quiet rest (made p (command.Sync r)) none.1 h.1
  quiet_own (command.Edit e ∷ quiet) rest p none h = absurd (let n = none.0 in cc)
  quiet_own (command.View channel v ∷ quiet) rest p none h = absurd (let n = none.0 in cc)
  quiet_own (command.Frame ∷ quiet) rest p none h = absurd (let n = none.0 in cc)

  -- where no own command is made any more, none is asked for
  pub no_own_left : (cs : List Command) (p : Point) → HasNoOwn cs → Along ahead all p cs → own_in p.asks ≡ []
  no_own_left [] p none h = ap own_in h.0
  no_own_left (command.Merge m ∷ cs) p none h = no_own_left cs (made p (command.Merge m)) none.1 h.1
  no_own_left (command.Sync r ∷ cs) p none h = sync_first p.asks p r h.0 ∙ no_own_left cs (made p (command.Sync r)) none.1 h.1
  no_own_left (command.Edit e ∷ cs) p none h = absurd (let n = none.0 in cc)
  no_own_left (command.View channel v ∷ cs) p none h = absurd (let n = none.0 in cc)
  no_own_left (command.Frame ∷ cs) p none h = absurd (let n = none.0 in cc)
