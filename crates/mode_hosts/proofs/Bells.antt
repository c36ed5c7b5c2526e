-- What the bell keeps stays over every step.
use Rattle.std.proofs.Common.{◌≡◌, ◌⊎◌, ℕ, ◌+◌, ◌≤◌, Bool, true, false, List, [], ◌∷◌, length, slice_get, Some, inl, inr, refl, sym, ap, ◌∙◌, subst, arith}
use Rattle.std.proofs.lemmas.Option.{same_Some, slice_get_within}
use mathlib.Core.Logic.{dite}
use native.Mathlib.Decide.{ℕ_discrete}
use Rattle.mode_hosts.specs.Bells.{Doing, Reads, Polls, Owes, Sleeps, HasLeft, BellState, Leaves, Rings, OfEach, OfThoseBefore, OfSome, WillWake, AreAllAsleep, Passes, Changes, Goes, IsStep, AreSteps, IsIdle, IsKept, IsOpening}

-- a fact of no stage
before_none : {S : Type 0} (stages : List S) (P : S → Type 0) (i : ℕ) → i ≡ 0 → OfThoseBefore i stages P
before_none stages P i none = λ j stage less at. absurd (omega (arith, none, less))

-- a fact of the stages before a place and of the one there
before_next : {S : Type 0} (stages : List S) (P : S → Type 0) (i j : ℕ) (stage : S) → j ≡ i + 1 → slice_get stages i ≡ Some stage → P stage →
    OfThoseBefore i stages P → OfThoseBefore j stages P
before_next stages P i j stage next at fact others n other less there = dite (ℕ_discrete n i)
    (λ same.
    let here : slice_get stages i ≡ Some other = subst (λ m. slice_get stages m ≡ Some other) same there in
    subst P (same_Some stage other (sym at ∙ here)) fact)
    (λ apart. others n other (omega (arith, less, next, apart)) there)

-- a fact of all of them
before_all : {S : Type 0} (stages : List S) (P : S → Type 0) (i : ℕ) → length stages ≤ i → OfThoseBefore i stages P → OfEach stages P
before_all stages P i past others j stage at = others j stage (let w = slice_get_within stages j stage at in omega (arith, w, past)) at

no_stage : {S : Type 0} (stages : List S) (P : S → Type 0) → stages ≡ [] → OfEach stages P
no_stage stages P none i stage at =
    let within = slice_get_within stages i stage at in
    let none_long : length stages ≡ 0 = ap length none in
    absurd (omega (arith, within, none_long))

never_both : (b : Bool) → b ≡ true → b ≡ false → ⊥
never_both b is not = absurd (let clash : true ≡ false = sym is ∙ not in cc)

-- where all sleep, none will wake
none_wakes : {X : Type 0} (b : BellState X) → AreAllAsleep b → WillWake b.rung b → ⊥
none_wakes b asleep (inl less) = omega (arith, less)
none_wakes b asleep (inr (k, owes)) = elim (asleep k) [
  | inl sleeps ↦ (let clash : Sleeps b.rung ≡ Owes = sym sleeps ∙ owes in cc)
  | inr left ↦ (let clash : HasLeft ≡ Owes = sym left ∙ owes in cc)
]

module _ {X S : Type 0} (Waits Over : S → X → Type 0) (Does : S → X → X → Type 0)
    (lasts : (stage other : S) (x y : X) → Does stage x y → Over other x → Over other y) where
  -- What a step of one host is to the others: the world and the bell stay, and a ring that is owed stays so; the world is
  -- changed, and a ring is owed for it; or the bell is rung.
  data Comes (b c : BellState X) : Type 0 where
    Stays : Leaves b c → ((k : ℕ) → b.doing k ≡ Owes → c.doing k ≡ Owes) → Comes b c
    Makes : (stage : S) → Does stage b.world c.world → c.rung ≡ b.rung → (k : ℕ) → c.doing k ≡ Owes → Comes b c
    Calls : Rings b c → Comes b c

  comes : (crews : ℕ → List S) (host : ℕ) (b c : BellState X) → IsStep Waits Over Does crews host b c → Comes b c
  comes crews host b c step = by (b.doing host) refl (c.doing host) refl step.own
    where
      owed : (b.doing host ≡ Owes → ⊥) → (k : ℕ) → b.doing k ≡ Owes → c.doing k ≡ Owes
      owed free k owes = step.others k (λ same. free (subst (λ j. b.doing j ≡ Owes) same owes)) ∙ owes

      stays : (d : Doing) → b.doing host ≡ d → (d ≡ Owes → ⊥) → Leaves b c → Comes b c
      stays d is free same = Stays same (owed (λ owes. free (sym is ∙ owes)))

      makes : (stages : List S) → Changes Waits Over Does stages b c → c.doing host ≡ Owes → Comes b c
      makes stages changes then = Makes changes.does.1 changes.does.3 changes.rung host then

      by : (d : Doing) → b.doing host ≡ d → (e : Doing) → c.doing host ≡ e → Goes Waits Over Does (crews host) d e b c → Comes b c
      by Reads is (Polls n i w) then goes = stays Reads is (λ clash. cc) goes.3
      by (Polls n i w) is (Polls m j v) then goes = stays (Polls n i w) is (λ clash. cc) goes.2
      by (Polls n i w) is Owes then goes = makes (crews host) goes then
      by Owes is Owes then goes = makes (crews host) goes then
      by Owes is Reads then goes = Calls goes
      by Owes is HasLeft then goes = Calls goes.1
      by (Polls n i w) is (Sleeps m) then goes = stays (Polls n i w) is (λ clash. cc) goes.3
      by (Sleeps n) is Reads then goes = stays (Sleeps n) is (λ clash. cc) goes.1
      by (Polls n i w) is HasLeft then goes = Calls goes.2
      by _ is _ then goes = absurd goes

  -- who is to wake still is
  wakes : (b c : BellState X) → Comes b c → (n : ℕ) → n ≤ b.rung → WillWake n b → WillWake n c
  wakes b c (Stays same owed) n before (inl less) = inl (let r = same.rung in omega (arith, less, r))
  wakes b c (Stays same owed) n before (inr (k, owes)) = inr (k, owed k owes)
  wakes b c (Makes stage does rung k owes) n before will = inr (k, owes)
  wakes b c (Calls rings) n before will = inl (let r = rings.rung in omega (arith, before, r))

  -- a fact of a host's stages in the world is one still, or the host will wake
  still : (b c : BellState X) (n : ℕ) (P : X → Type 0) → Comes b c → n ≤ b.rung → WillWake n b ⊎ P b.world → WillWake n c ⊎ P c.world
  still b c n P came before (inl will) = inl (wakes b c came n before will)
  still b c n P (Stays same owed) before (inr fact) = inr (subst P (sym same.world) fact)
  still b c n P (Makes stage does rung k owes) before (inr fact) = inl (inr (k, owes))
  still b c n P (Calls rings) before (inr fact) = inr (subst P (sym rings.world) fact)

  -- the number never falls
  later : (b c : BellState X) → Comes b c → b.rung ≤ c.rung
  later b c (Stays same owed) = let r = same.rung in omega (arith, r)
  later b c (Makes stage does rung k owes) = omega (arith, rung)
  later b c (Calls rings) = let r = rings.rung in omega (arith, r)

  -- a stage that is over stays over
  over_still : (b c : BellState X) → Comes b c → (stage : S) → Over stage b.world → Over stage c.world
  over_still b c (Stays same owed) stage over = subst (Over stage) (sym same.world) over
  over_still b c (Makes other does rung k owes) stage over = lasts other stage b.world c.world does over
  over_still b c (Calls rings) stage over = subst (Over stage) (sym rings.world) over

  -- what is kept of the stages polled, and of all
  abbrev OfPolled : List S → ℕ → Bool → X → Type 0
  OfPolled stages i w x = OfThoseBefore i stages (IsIdle Waits Over Does x) × (w ≡ true → OfSome stages (λ stage. Waits stage x))

  abbrev OfAll : List S → X → Type 0
  OfAll stages x = OfEach stages (IsIdle Waits Over Does x) × OfSome stages (λ stage. Waits stage x)

  -- what is kept for a host stays where another one steps
  beside : (stages : List S) (b c : BellState X) → Comes b c → (d : Doing) → IsKept Waits Over Does stages d b → IsKept Waits Over Does stages d c
  beside stages b c came Reads kept = tt
  beside stages b c came (Polls n i w) kept = (
    (let l = later b c came in omega (arith, kept.0, l)),
    still b c n (OfPolled stages i w) came kept.0 kept.1,
    λ all j stage less at. over_still b c came stage (kept.2 all j stage less at),
  )
  beside stages b c came Owes kept = tt
  beside stages b c came (Sleeps n) kept = ((let l = later b c came in omega (arith, kept.0, l)), still b c n (OfAll stages) came kept.0 kept.1)
  beside stages b c came HasLeft kept = λ i stage at. over_still b c came stage (kept i stage at)

  -- one more stage is polled
  passes : (stages : List S) (b c : BellState X) (n m i j : ℕ) (w v : Bool) → m ≡ n → Passes Waits Over Does stages i j w v c.world →
      IsKept Waits Over Does stages (Polls n i w) c → IsKept Waits Over Does stages (Polls m j v) c
  passes stages b c n m i j w v same pass kept = (omega (arith, kept.0, same), polled kept.1, ended pass.answer)
    where
      idle : IsIdle Waits Over Does c.world pass.stage
      idle = elim pass.answer [ inl waits ↦ inl waits.0 | inr over ↦ inr over.0 ]

      waits_too : (w ≡ true → OfSome stages (λ stage. Waits stage c.world)) → v ≡ true → OfSome stages (λ stage. Waits stage c.world)
      waits_too some is = elim pass.answer [ inl waits ↦ (i, pass.stage, pass.there, waits.0) | inr over ↦ some (sym over.1 ∙ is) ]

      polled : WillWake n c ⊎ OfPolled stages i w c.world → WillWake m c ⊎ OfPolled stages j v c.world
      polled (inl will) = inl (subst (λ x. WillWake x c) (sym same) will)
      polled (inr all) =
          inr (before_next stages (IsIdle Waits Over Does c.world) i j pass.stage pass.next pass.there idle all.0, waits_too all.1)

      ended : (Waits pass.stage c.world × (v ≡ true)) ⊎ (Over pass.stage c.world × (v ≡ w)) → v ≡ false →
          OfThoseBefore j stages (λ stage. Over stage c.world)
      ended (inl waits) none = absurd (never_both v waits.1 none)
      ended (inr over) none =
          before_next stages (λ (stage : S). Over stage c.world) i j pass.stage pass.next pass.there over.0 (kept.2 (sym over.1 ∙ none))

  -- what is kept for the host that steps
  own : (stages : List S) (b c : BellState X) → Comes b c → (d e : Doing) → Goes Waits Over Does stages d e b c →
      IsKept Waits Over Does stages d b → IsKept Waits Over Does stages e c
  own stages b c came Reads (Polls n i w) goes kept = (
    (let at = goes.0 in let r = goes.3.rung in omega (arith, at, r)),
    inr (before_none stages (IsIdle Waits Over Does c.world) i goes.1, λ is. absurd (never_both w is goes.2)),
    λ none. before_none stages (λ (stage : S). Over stage c.world) i goes.1,
  )
  own stages b c came (Polls n i w) (Polls m j v) goes kept =
      passes stages b c n m i j w v goes.0 (subst (Passes Waits Over Does stages i j w v) (sym goes.2.world) goes.1)
      (beside stages b c came (Polls n i w) kept)
  own stages b c came (Polls n i w) Owes goes kept = tt
  own stages b c came Owes Owes goes kept = tt
  own stages b c came Owes Reads goes kept = tt
  own stages b c came Owes HasLeft goes kept = λ j stage at. over_still b c came stage (goes.0 j stage at)
  own stages b c came (Polls n i w) (Sleeps m) goes kept =
      let now = beside stages b c came (Polls n i w) kept in
      let same = goes.0 in (
        (omega (arith, now.0, same)),
        elim now.1 [
          | inl will ↦ inl (subst (λ x. WillWake x c) (sym same) will)
          | inr all ↦ inr (before_all stages (IsIdle Waits Over Does c.world) i goes.1 all.0, all.1 goes.2)
        ],
      )
  own stages b c came (Sleeps n) Reads goes kept = tt
  own stages b c came (Polls n i w) HasLeft goes kept =
      let now = beside stages b c came (Polls n i w) kept in
      before_all stages (λ (stage : S). Over stage c.world) i goes.0 (now.2 goes.1)
  own stages b c came _ _ goes kept = absurd goes

  -- what the bell keeps for every host
  abbrev AreKept : (ℕ → List S) → BellState X → Type 0
  AreKept crews b = (k : ℕ) → IsKept Waits Over Does (crews k) (b.doing k) b

  step_keeps : (crews : ℕ → List S) (host : ℕ) (b c : BellState X) → IsStep Waits Over Does crews host b c → AreKept crews b → AreKept crews c
  step_keeps crews host b c step kept k = dite (ℕ_discrete k host)
      (λ same.
      subst (λ j. IsKept Waits Over Does (crews j) (c.doing j) c) (sym same)
      (own (crews host) b c (comes crews host b c step) (b.doing host) (c.doing host) step.own (kept host)))
      (λ apart.
      subst (λ d. IsKept Waits Over Does (crews k) d c) (sym (step.others k apart))
      (beside (crews k) b c (comes crews host b c step) (b.doing k) (kept k)))

  pub steps_keep : (crews : ℕ → List S) (hosts : List ℕ) (b c : BellState X) → AreSteps Waits Over Does crews hosts b c →
      AreKept crews b → AreKept crews c
  steps_keep crews [] b c steps kept = subst (AreKept crews) (sym steps) kept
  steps_keep crews (host ∷ hosts) b c (mid, step, steps) kept =
      steps_keep crews hosts mid c steps (step_keeps crews host b mid step kept)

  -- a fact of the world that no poll ends stays
  pub steps_hold : (P : X → Type 0) → ((stage : S) (x y : X) → Does stage x y → P x → P y) → (crews : ℕ → List S) (hosts : List ℕ)
      (b c : BellState X) → AreSteps Waits Over Does crews hosts b c → P b.world → P c.world
  steps_hold P keeps crews [] b c steps fact = subst (λ (x : BellState X). P x.world) (sym steps) fact
  steps_hold P keeps crews (host ∷ hosts) b c (mid, step, steps) fact =
      steps_hold P keeps crews hosts mid c steps (by (comes crews host b mid step))
    where
      by : Comes b mid → P mid.world
      by (Stays same owed) = subst P (sym same.world) fact
      by (Makes stage does rung k owes) = keeps stage b.world mid.world does fact
      by (Calls rings) = subst P (sym rings.world) fact

  pub opening_keeps : (crews : ℕ → List S) (b : BellState X) → IsOpening crews b → AreKept crews b
  opening_keeps crews b opening k = elim (opening k) [
    | inl reads ↦ subst (λ d. IsKept Waits Over Does (crews k) d b) (sym reads) tt
    | inr left ↦ subst (λ d. IsKept Waits Over Does (crews k) d b) (sym left.1) (no_stage (crews k) (λ (stage : S). Over stage b.world) left.0)
  ]

  -- Where all sleep, no stage would do anything, and each host that sleeps has a stage that waits.
  awake : (crews : ℕ → List S) (b : BellState X) → AreKept crews b → AreAllAsleep b → (k : ℕ) → b.doing k ≡ Sleeps b.rung → OfAll (crews k) b.world
  awake crews b kept asleep k sleeps =
      let mine = subst (λ d. IsKept Waits Over Does (crews k) d b) sleeps (kept k) in
      elim mine.1 [ inl will ↦ absurd (none_wakes b asleep will) | inr all ↦ all ]

  pub all_idle : (crews : ℕ → List S) (b : BellState X) → AreKept crews b → AreAllAsleep b → (k : ℕ) →
      OfEach (crews k) (IsIdle Waits Over Does b.world)
  all_idle crews b kept asleep k i stage at = elim (asleep k) [
    | inl sleeps ↦ (awake crews b kept asleep k sleeps).0 i stage at
    | inr left ↦ (let mine = subst (λ d. IsKept Waits Over Does (crews k) d b) left (kept k) in inr (mine i stage at))
  ]

  pub some_waits : (crews : ℕ → List S) (b : BellState X) → AreKept crews b → AreAllAsleep b → (k : ℕ) → b.doing k ≡ Sleeps b.rung →
      OfSome (crews k) (λ stage. Waits stage b.world)
  some_waits crews b kept asleep k sleeps = (awake crews b kept asleep k sleeps).1
