-- A merge and a command of the application next to each other may change places, where neither waits for the other.
use Rattle.std.proofs.Common.{◌≡◌, ◌≢◌, ℕ, ◌+◌, ◌≤◌, ◌⊎◌, inl, inr, Bool, true, false, List, [], ◌∷◌, ◌++◌, map, drop, refl, sym, ap, subst, ◌∙◌, arith, append_assoc}
use Rattle.std.proofs.lemmas.List.{map-append}
use Rattle.std.specs.List.{AllByRecursion}
use Rattle.pf_history.specs.declared.commands.Command.{Command}
use Rattle.pf_history.specs.declared.commands.Command.TheVariants as command
use Rattle.pf_history.specs.declared.commands.Merge.{Merge}
use Rattle.pf_history.specs.Commands.{is_merge}
use Rattle.pf_history.specs.Logs.{CanMake}
use Rattle.pf_history.specs.Asks.{Ask, BaseAsk, Wanted, WantEdit, WantView, WantSync, WantFrame, WantClose, Meets}
use Rattle.play_fences.specs.Fences.{is_own}
use Rattle.play_fences.proofs.Points.{Point, counts_at, made, MeetsFirst, MergesFirst, Along}

-- merges, as commands
abbrev pub merges : List Merge → List Command
merges ms = map (λ m. command.Merge m) ms

-- an edit, a view or a Frame
abbrev pub is_own_command : Command → Bool
is_own_command (command.Edit e) = true
is_own_command (command.Merge m) = false
is_own_command (command.View channel v) = true
is_own_command (command.Sync r) = false
is_own_command command.Frame = true

abbrev pub HasNoOwn : List Command → Type 0
HasNoOwn cs = AllByRecursion (λ c. is_own_command c ≡ false) cs

-- the merges among commands, and the Syncs
abbrev pub merges_of : List Command → List Merge
merges_of [] = []
merges_of (command.Merge m ∷ cs) = m ∷ merges_of cs
merges_of (c ∷ cs) = merges_of cs

abbrev pub syncs_of : List Command → List Command
syncs_of [] = []
syncs_of (command.Sync r ∷ cs) = command.Sync r ∷ syncs_of cs
syncs_of (c ∷ cs) = syncs_of cs

-- what is asked first waits for at most so many merges, and does not close
abbrev pub IsEarly : List Ask → ℕ → Type 0
IsEarly [] n = ⊥
IsEarly (a ∷ asks) n = (a.need ≤ n) × (a.wanted ≢ WantClose)

-- the first own command that is asked for waits for at most so many merges, and so do the Syncs before it
abbrev pub IsEarlyNext : List Ask → ℕ → Type 0
IsEarlyNext [] n = ⊥
IsEarlyNext (a ∷ asks) n = (a.need ≤ n) × ((is_own a.wanted ≡ true) ⊎ ((a.wanted ≡ WantSync) × IsEarlyNext asks n))

-- as many merges as these await at most so many frames
abbrev pub AreEarly : List Merge → List BaseAsk → ℕ → Type 0
AreEarly [] bases f = Unit {0}
AreEarly (m ∷ ms) [] f = ⊥
AreEarly (m ∷ ms) (b ∷ bases) f = (b.need ≤ f) × AreEarly ms bases f

early_later : (ms : List Merge) (bases : List BaseAsk) (f g : ℕ) → f ≤ g → AreEarly ms bases f → AreEarly ms bases g
early_later [] bases f g l h = tt
early_later (m ∷ ms) [] f g l h = absurd h
early_later (m ∷ ms) (b ∷ bases) f g l h = let n : b.need ≤ f = h.0 in (omega arith, early_later ms bases f g l h.1)

next_early : (asks : List Ask) (n : ℕ) → IsEarlyNext asks n → IsEarly asks n
next_early [] n h = absurd h
next_early (a ∷ asks) n h = (h.0, λ close. by close h.1)
  where
    by : a.wanted ≡ WantClose → ((is_own a.wanted ≡ true) ⊎ ((a.wanted ≡ WantSync) × IsEarlyNext asks n)) → ⊥
    by close (inl own) = absurd (let none : is_own a.wanted ≡ false = ap is_own close in cc)
    by close (inr sync) = let s = sync.0 in absurd (cc)

module _ (ahead all : ℕ) where
  -- what meets an ask reads no merges, but for the closing Sync
  meets_before : (w : Wanted) (p : Point) (c : Command) → w ≢ WantClose → Meets ahead all w (counts_at (record p { merges = p.merges + 1 })) c → Meets ahead all w (counts_at p) c
  meets_before (WantEdit e) p c opens h = h
  meets_before (WantView channel v) p c opens h = h
  meets_before WantSync p (command.Sync r) opens h = h
  meets_before WantSync p _ opens h = absurd h
  meets_before WantFrame p command.Frame opens h = h
  meets_before WantFrame p _ opens h = absurd h
  meets_before WantClose p c opens h = absurd (opens refl)

  meets_after : (w : Wanted) (p : Point) (c : Command) → Meets ahead all w (counts_at p) c → Meets ahead all w (counts_at (record p { merges = p.merges + 1 })) c
  meets_after (WantEdit e) p c h = h
  meets_after (WantView channel v) p c h = h
  meets_after WantSync p (command.Sync r) h = h
  meets_after WantSync p _ h = absurd h
  meets_after WantFrame p command.Frame h = h
  meets_after WantFrame p _ h = absurd h
  meets_after WantClose p (command.Sync r) h = let l = h.1 in (h.0, omega (arith, l))
  meets_after WantClose p _ h = absurd h

  can_before : (p : Point) (c : Command) → CanMake (counts_at (record p { merges = p.merges + 1 })) c → CanMake (counts_at p) c
  can_before p (command.Edit e) h = tt
  can_before p (command.Merge m) h = tt
  can_before p (command.View channel v) h = tt
  can_before p (command.Sync r) h = h
  can_before p command.Frame h = tt

  can_after : (p : Point) (c : Command) → CanMake (counts_at p) c → CanMake (counts_at (record p { merges = p.merges + 1 })) c
  can_after p (command.Edit e) h = tt
  can_after p (command.Merge m) h = tt
  can_after p (command.View channel v) h = tt
  can_after p (command.Sync r) h = h
  can_after p command.Frame h = tt

  first_before : (asks : List Ask) (p : Point) (m : Merge) (c : Command) → IsEarly asks p.merges → MeetsFirst ahead all asks (made p (command.Merge m)) c → MeetsFirst ahead all asks p c
  first_before [] p m c early h = absurd h
  first_before (a ∷ asks) p m c early h = (meets_before a.wanted p c early.1 h.0, early.0, can_before p c h.2)

  first_after : (asks : List Ask) (p : Point) (m : Merge) (c : Command) → MeetsFirst ahead all asks p c → MeetsFirst ahead all asks (made p (command.Merge m)) c
  first_after [] p m c h = absurd h
  first_after (a ∷ asks) p m c h = let l = h.1 in (meets_after a.wanted p c h.0, omega (arith, l), can_after p c h.2)

  -- a merge reads the frames alone
  merges_later : (bases : List BaseAsk) (p q : Point) (m : Merge) → p.frames ≤ q.frames → MergesFirst ahead all bases p m → MergesFirst ahead all bases q m
  merges_later [] p q m l h = absurd h
  merges_later (b ∷ bases) p q m l h = let n = h.1 in (h.0, omega (arith, n, l))

  merges_sooner : (bases : List BaseAsk) (p q : Point) (m : Merge) (more : List Merge) → AreEarly (m ∷ more) bases q.frames → MergesFirst ahead all bases p m → MergesFirst ahead all bases q m
  merges_sooner [] p q m more early h = absurd h
  merges_sooner (b ∷ bases) p q m more early h = (h.0, early.0)

  -- the merge goes behind the command
  later_one : (p : Point) (m : Merge) (c : Command) (cs : List Command) → is_merge c ≡ false → IsEarly p.asks p.merges → Along ahead all p (command.Merge m ∷ c ∷ cs) → Along ahead all p (c ∷ command.Merge m ∷ cs)
  later_one p m (command.Edit e) cs is early h = (first_before p.asks p m (command.Edit e) early h.1.0, (merges_later p.bases p (made p (command.Edit e)) m (omega arith) h.0, h.1.1))
  later_one p m (command.Merge n) cs is early h = absurd (cc)
  later_one p m (command.View channel v) cs is early h = (first_before p.asks p m (command.View channel v) early h.1.0, (merges_later p.bases p (made p (command.View channel v)) m (omega arith) h.0, h.1.1))
  later_one p m (command.Sync r) cs is early h = (first_before p.asks p m (command.Sync r) early h.1.0, (merges_later p.bases p (made p (command.Sync r)) m (omega arith) h.0, h.1.1))
  later_one p m command.Frame cs is early h = (first_before p.asks p m command.Frame early h.1.0, (merges_later p.bases p (made p command.Frame) m (omega arith) h.0, h.1.1))

  -- the merge goes in front of the command
  sooner_one : (p : Point) (m : Merge) (more : List Merge) (c : Command) (cs : List Command) → is_merge c ≡ false → AreEarly (m ∷ more) p.bases p.frames → Along ahead all p (c ∷ command.Merge m ∷ cs) → Along ahead all p (command.Merge m ∷ c ∷ cs)
  sooner_one p m more (command.Edit e) cs is early h = (merges_sooner p.bases (made p (command.Edit e)) p m more early h.1.0, (first_after p.asks p m (command.Edit e) h.0, h.1.1))
  sooner_one p m more (command.Merge n) cs is early h = absurd (cc)
  sooner_one p m more (command.View channel v) cs is early h = (merges_sooner p.bases (made p (command.View channel v)) p m more early h.1.0, (first_after p.asks p m (command.View channel v) h.0, h.1.1))
  sooner_one p m more (command.Sync r) cs is early h = (merges_sooner p.bases (made p (command.Sync r)) p m more early h.1.0, (first_after p.asks p m (command.Sync r) h.0, h.1.1))
  sooner_one p m more command.Frame cs is early h = (merges_sooner p.bases (made p command.Frame) p m more early h.1.0, (first_after p.asks p m command.Frame h.0, h.1.1))

  -- Several merges

  later_held : (held : List Merge) (p : Point) (c : Command) (cs : List Command) → is_merge c ≡ false → IsEarly p.asks p.merges → Along ahead all p (merges held ++ c ∷ cs) → Along ahead all p (c ∷ (merges held ++ cs))
  later_held [] p c cs is early h = h
  later_held (m ∷ held) p c cs is early h =
      later_one p m c (merges held ++ cs) is early (h.0, later_held held (made p (command.Merge m)) c cs is (still p.asks early) h.1)
    where
      still : (asks : List Ask) → IsEarly asks p.merges → IsEarly asks (p.merges + 1)
      still [] early = absurd early
      still (a ∷ asks) early = let l = early.0 in (omega (arith, l), early.1)

  rest_early : (m : Merge) (ms : List Merge) (bases : List BaseAsk) (f : ℕ) → AreEarly (m ∷ ms) bases f → AreEarly ms (drop 1 bases) f
  rest_early m ms [] f h = absurd h
  rest_early m ms (b ∷ bases) f h = h.1

  sooner_held : (held : List Merge) (p : Point) (c : Command) (cs : List Command) → is_merge c ≡ false → AreEarly held p.bases p.frames → Along ahead all p (c ∷ (merges held ++ cs)) → Along ahead all p (merges held ++ c ∷ cs)
  sooner_held [] p c cs is early h = h
  sooner_held (m ∷ held) p c cs is early h =
      let one = sooner_one p m held c (merges held ++ cs) is early h in
      (one.0, sooner_held held (made p (command.Merge m)) c cs is (rest_early m held p.bases p.frames early) one.1)

  -- Past Syncs

  -- what a Sync meets of what is asked first is a Sync
  next_behind_sync : (asks : List Ask) (p : Point) (r n : ℕ) → MeetsFirst ahead all asks p (command.Sync r) → IsEarlyNext asks n → IsEarlyNext (drop 1 asks) n
  next_behind_sync [] p r n h early = absurd h
  next_behind_sync (a ∷ asks) p r n h early = by a.wanted h.0 early.1
    where
      by : (w : Wanted) → Meets ahead all w (counts_at p) (command.Sync r) → ((is_own w ≡ true) ⊎ ((w ≡ WantSync) × IsEarlyNext asks n)) → IsEarlyNext asks n
      by w meets (inr sync) = sync.1
      by (WantEdit e) meets (inl own) = absurd (cc)
      by (WantView channel v) meets (inl own) = absurd (cc)
      by WantFrame meets (inl own) = absurd meets
      by WantSync meets (inl own) = absurd (cc)
      by WantClose meets (inl own) = absurd (cc)

  -- the merges go behind the next own command, and so do those between
  pub later : (held : List Merge) (quiet : List Command) (p : Point) (c : Command) (cs : List Command) → HasNoOwn quiet → is_own_command c ≡ true → IsEarlyNext p.asks p.merges → Along ahead all p (merges held ++ (quiet ++ c ∷ cs)) → Along ahead all p (syncs_of quiet ++ c ∷ (merges (held ++ merges_of quiet) ++ cs))
  later held [] p c cs none own early h =
      subst (λ (ms : List Merge). Along ahead all p (c ∷ (merges ms ++ cs))) (sym (append_nil held)) (later_held held p c cs (no_merge c own) (next_early p.asks p.merges early) h)
    where
      append_nil : (ms : List Merge) → ms ++ [] ≡ ms
      append_nil [] = refl
      append_nil (m ∷ ms) = ap (λ xs. m ∷ xs) (append_nil ms)

      no_merge : (c : Command) → is_own_command c ≡ true → is_merge c ≡ false
      no_merge (command.Edit e) own = refl
      no_merge (command.Merge m) own = absurd (cc)
      no_merge (command.View channel v) own = refl
      no_merge (command.Sync r) own = refl
      no_merge command.Frame own = refl
  later held (command.Merge m ∷ quiet) p c cs none own early h =
      let joined : merges held ++ command.Merge m ∷ (quiet ++ c ∷ cs) ≡ merges (held ++ m ∷ []) ++ (quiet ++ c ∷ cs) =
      sym (append_assoc (merges held) (command.Merge m ∷ []) (quiet ++ c ∷ cs)) ∙ ap (λ ms. ms ++ (quiet ++ c ∷ cs)) (sym (map-append (λ (m : Merge). command.Merge m) held (m ∷ []))) in
      subst (λ (ms : List Merge). Along ahead all p (syncs_of quiet ++ c ∷ (merges ms ++ cs))) (append_assoc held (m ∷ []) (merges_of quiet))
      (later (held ++ m ∷ []) quiet p c cs none.1 own early (subst (Along ahead all p) joined h))
  later held (command.Sync r ∷ quiet) p c cs none own early h =
      let one = later_held held p (command.Sync r) (quiet ++ c ∷ cs) refl (next_early p.asks p.merges early) h in
      (one.0, later held quiet (made p (command.Sync r)) c cs none.1 own (next_behind_sync p.asks p r p.merges one.0 early) one.1)
  later held (command.Edit e ∷ quiet) p c cs none own early h = absurd (let n = none.0 in cc)
  later held (command.View channel v ∷ quiet) p c cs none own early h = absurd (let n = none.0 in cc)
  later held (command.Frame ∷ quiet) p c cs none own early h = absurd (let n = none.0 in cc)

  -- the merges go to the front
  fronted : (quiet : List Command) (p : Point) (m : Merge) (cs : List Command) → HasNoOwn quiet → AreEarly (merges_of quiet ++ m ∷ []) p.bases p.frames → Along ahead all p (quiet ++ command.Merge m ∷ cs) → Along ahead all p (merges (merges_of quiet ++ m ∷ []) ++ (syncs_of quiet ++ cs))
  fronted [] p m cs none early h = h
  fronted (command.Merge y ∷ quiet) p m cs none early h =
      (h.0, fronted quiet (made p (command.Merge y)) m cs none.1 (rest_early y (merges_of quiet ++ m ∷ []) p.bases p.frames early) h.1)
  fronted (command.Sync r ∷ quiet) p m cs none early h =
      sooner_held (merges_of quiet ++ m ∷ []) p (command.Sync r) (syncs_of quiet ++ cs) refl early (h.0, fronted quiet (made p (command.Sync r)) m cs none.1 early h.1)
  fronted (command.Edit e ∷ quiet) p m cs none early h = absurd (let n = none.0 in cc)
  fronted (command.View channel v ∷ quiet) p m cs none early h = absurd (let n = none.0 in cc)
  fronted (command.Frame ∷ quiet) p m cs none early h = absurd (let n = none.0 in cc)

  -- the merge goes in front of the own command before it, and so do the merges between
  pub sooner : (quiet : List Command) (p : Point) (c : Command) (m : Merge) (cs : List Command) → HasNoOwn quiet → is_own_command c ≡ true → AreEarly (merges_of quiet ++ m ∷ []) p.bases p.frames → Along ahead all p (c ∷ (quiet ++ command.Merge m ∷ cs)) → Along ahead all p (merges (merges_of quiet ++ m ∷ []) ++ c ∷ (syncs_of quiet ++ cs))
  sooner quiet p (command.Edit e) m cs none own early h =
      sooner_held (merges_of quiet ++ m ∷ []) p (command.Edit e) (syncs_of quiet ++ cs) refl early (h.0, fronted quiet (made p (command.Edit e)) m cs none early h.1)
  sooner quiet p (command.View channel v) m cs none own early h =
      sooner_held (merges_of quiet ++ m ∷ []) p (command.View channel v) (syncs_of quiet ++ cs) refl early (h.0, fronted quiet (made p (command.View channel v)) m cs none early h.1)
  sooner quiet p command.Frame m cs none own early h =
      sooner_held (merges_of quiet ++ m ∷ []) p command.Frame (syncs_of quiet ++ cs) refl early
      (h.0, fronted quiet (made p command.Frame) m cs none (early_later (merges_of quiet ++ m ∷ []) p.bases p.frames (p.frames + 1) (omega arith) early) h.1)
  sooner quiet p (command.Merge n) m cs none own early h = absurd (cc)
  sooner quiet p (command.Sync r) m cs none own early h = absurd (cc)
