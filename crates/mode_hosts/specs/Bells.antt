-- The bell at which the hosts wait: a model.
--
-- The hosts share a world, and each polls its own stages in turn. A host reads how often the bell was rung before it polls
-- the first of them. Where one of its polls did something, it owes a ring; where none did and a stage has to wait, it sleeps for
-- as long as the bell's number is the one that it read; where all its stages are over, it rings once more and leaves. The
-- number grows without end here.
use Rattle.std.specs.Prelude.{◌≡◌, ◌⊎◌, ⊤, ℕ, ◌+◌, ◌<◌, ◌≤◌, Bool, true, false, List, [], ◌∷◌, length, slice_get, Some}

-- What a host is doing. It is about to read the bell's number; it polls its stages, after it read this number: the stage at
-- this place is next, and one of those before it has to wait or all are over; it owes a ring; it sleeps, after it read this
-- number; it has left.
pub data Doing : Type 0 where
  Reads : Doing
  Polls : (number next : ℕ) → (waits : Bool) → Doing
  Owes : Doing
  Sleeps : (number : ℕ) → Doing
  HasLeft : Doing

-- The world, how often the bell was rung, and what each host is doing.
pub record BellState (X : Type 0) : Type 0 where
  pub world : X
  pub rung : ℕ
  pub doing : ℕ → Doing

-- The world stays as it is, and the bell is not rung.
pub record Leaves {X : Type 0} (b c : BellState X) : Type 0 where
  pub world : c.world ≡ b.world
  pub rung : c.rung ≡ b.rung

-- The world stays as it is, and the bell is rung once.
pub record Rings {X : Type 0} (b c : BellState X) : Type 0 where
  pub world : c.world ≡ b.world
  pub rung : c.rung ≡ b.rung + 1

-- who read this number will wake: the bell was rung since, or a ring is owed
abbrev pub WillWake : {X : Type 0} → ℕ → BellState X → Type 0
WillWake n b = (n < b.rung) ⊎ ((k : ℕ) × (b.doing k ≡ Owes))

-- each host sleeps, at the number that the bell has now, or has left
abbrev pub AreAllAsleep : {X : Type 0} → BellState X → Type 0
AreAllAsleep b = (k : ℕ) → (b.doing k ≡ Sleeps b.rung) ⊎ (b.doing k ≡ HasLeft)

-- a fact of each stage of a host
abbrev pub OfEach : {S : Type 0} → List S → (S → Type 0) → Type 0
OfEach {S = S} stages P = (i : ℕ) (stage : S) → slice_get stages i ≡ Some stage → P stage

-- a fact of each of them that stands before this place
abbrev pub OfThoseBefore : {S : Type 0} → ℕ → List S → (S → Type 0) → Type 0
OfThoseBefore {S = S} n stages P = (i : ℕ) (stage : S) → i < n → slice_get stages i ≡ Some stage → P stage

-- a fact of one of them
abbrev pub OfSome : {S : Type 0} → List S → (S → Type 0) → Type 0
OfSome {S = S} stages P = (i : ℕ) × (stage : S) × (slice_get stages i ≡ Some stage) × P stage

-- What a poll of a stage finds in a world: it has to wait, or is over, and nothing is changed; or it does something, and makes
-- another world of it.
module _ {X S : Type 0} (Waits Over : S → X → Type 0) (Does : S → X → X → Type 0) where
  -- The stage at this place is polled, and changes nothing; then the next one comes.
  pub record Passes (stages : List S) (i j : ℕ) (waits waits' : Bool) (x : X) : Type 0 where
    pub stage : S
    pub there : slice_get stages i ≡ Some stage
    pub next : j ≡ i + 1
    pub answer : (Waits stage x × (waits' ≡ true)) ⊎ (Over stage x × (waits' ≡ waits))

  -- One of these stages does something; the bell is not rung.
  pub record Changes (stages : List S) (b c : BellState X) : Type 0 where
    pub does : OfSome stages (λ stage. Does stage b.world c.world)
    pub rung : c.rung ≡ b.rung

  -- What a host with these stages does next, and what becomes of the world and of the bell.
  abbrev pub Goes : List S → (now next : Doing) → (b c : BellState X) → Type 0
  -- it reads the number, and begins with its first stage
  Goes stages Reads (Polls n i w) b c = (n ≡ b.rung) × (i ≡ 0) × (w ≡ false) × Leaves b c
  -- a stage has nothing to do
  Goes stages (Polls n i w) (Polls m j v) b c = (m ≡ n) × Passes stages i j w v b.world × Leaves b c
  -- a stage does something, and so may those behind it
  Goes stages (Polls n i w) Owes b c = Changes stages b c
  Goes stages Owes Owes b c = Changes stages b c
  -- then it rings, and begins anew, or leaves where all are over
  Goes stages Owes Reads b c = Rings b c
  Goes stages Owes HasLeft b c = OfEach stages (λ stage. Over stage b.world) × Rings b c
  -- none did anything and one has to wait: it sleeps, until the number is another one
  Goes stages (Polls n i w) (Sleeps m) b c = (m ≡ n) × (length stages ≤ i) × (w ≡ true) × Leaves b c
  Goes stages (Sleeps n) Reads b c = (b.rung ≡ n → ⊥) × Leaves b c
  -- all are over: it rings once more, and leaves
  Goes stages (Polls n i w) HasLeft b c = (length stages ≤ i) × (w ≡ false) × Rings b c
  Goes stages _ _ b c = ⊥

  -- One step of one host, where each has its stages; what the others do stays.
  pub record IsStep (crews : ℕ → List S) (host : ℕ) (b c : BellState X) : Type 0 where
    pub own : Goes (crews host) (b.doing host) (c.doing host) b c
    pub others : (k : ℕ) → (k ≡ host → ⊥) → c.doing k ≡ b.doing k

  -- steps of these hosts, one after the other
  abbrev pub AreSteps : (ℕ → List S) → List ℕ → (b c : BellState X) → Type 0
  AreSteps crews [] b c = c ≡ b
  AreSteps crews (host ∷ hosts) b c = (mid : BellState X) × IsStep crews host b mid × AreSteps crews hosts mid c

  -- in this world the stage would do nothing
  abbrev pub IsIdle : X → S → Type 0
  IsIdle x stage = Waits stage x ⊎ Over stage x

  -- What the bell keeps for a host with these stages. Where it sleeps, it will wake, or still none of its stages would do
  -- anything and one has to wait; while it polls, the same holds of those polled. Where it has left, its stages are over.
  abbrev pub IsKept : List S → Doing → BellState X → Type 0
  IsKept stages (Polls n i w) b =
      (n ≤ b.rung)
      × (WillWake n b ⊎ (OfThoseBefore i stages (IsIdle b.world) × (w ≡ true → OfSome stages (λ stage. Waits stage b.world))))
      × (w ≡ false → OfThoseBefore i stages (λ stage. Over stage b.world))
  IsKept stages (Sleeps n) b =
      (n ≤ b.rung) × (WillWake n b ⊎ (OfEach stages (IsIdle b.world) × OfSome stages (λ stage. Waits stage b.world)))
  IsKept stages HasLeft b = OfEach stages (λ stage. Over stage b.world)
  IsKept stages _ b = ⊤

-- before the first step each host is about to read the number, or it has no stages and has left
abbrev pub IsOpening : {X S : Type 0} → (ℕ → List S) → BellState X → Type 0
IsOpening crews b = (k : ℕ) → (b.doing k ≡ Reads) ⊎ ((crews k ≡ []) × (b.doing k ≡ HasLeft))
