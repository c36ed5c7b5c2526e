-- What the numbers of a log's entries tell.
use Rattle.std.proofs.Common.{◌≡◌, ◌⊎◌, ℕ, zero, suc, ◌<◌, ◌≤◌, Bool, true, false, cond, ◌&&◌, ◌==◌, List, [], ◌∷◌, ◌++◌, inl, inr, refl, sym, subst, arith, eq-eqb}
use Rattle.std.specs.List.{AllByRecursion}
use Rattle.seat_lock.specs.Log.{of}
use Rattle.pf_history.specs.declared.commands.Caller.{Caller}
use Rattle.pf_history.specs.declared.commands.Caller.TheVariants.{App}
use Rattle.pf_history.specs.declared.commands.Entry.{Entry}
use Rattle.pf_history.specs.Objects.{FrameState, opening_state, next_state}
use Rattle.pf_history.specs.Logs.{Log, IsLegalFrom, is_caller, is_by}
use Rattle.pf_history.specs.Asks.{is_at}
use Rattle.pf_history.proofs.Turns.{turns_none}
use Rattle.stage_parts.specs.Loads.{Each}
use Rattle.stage_parts.specs.Frames.{AreOwnFrames}
use Rattle.stage_parts.specs.Numbers.{NumbersLaw}
use Rattle.stage_parts.proofs.Places.{each_all, all_each}
use Rattle.stage_parts.proofs.Founds.{frame_by_app, both}
use Rattle.stage_parts.proofs.SeatSteps.{frames_none}

-- entries of other numbers are no caller's at this seat
pub not_own : (seat : ℕ) (caller : Caller) (rest : Log) → of seat rest ≡ [] → AllByRecursion (λ e. is_at seat caller e ≡ false) rest
not_own seat caller [] none = tt
not_own seat caller (e ∷ es) none = let p = by (e.0 == seat) none in (p.0, not_own seat caller es p.1)
  where
    by : (t : Bool) → cond t (e.1 ∷ of seat es) (of seat es) ≡ [] → ((t && is_caller caller e.1.caller) ≡ false) × (of seat es ≡ [])
    by true none = absurd (cc)
    by false none = (refl, none)

-- a front of a log whose Frames are all the seat's
pub own_front : (seat : ℕ) (xs ys : Log) → AreOwnFrames seat (xs ++ ys) → AreOwnFrames seat xs
own_front seat [] ys own = tt
own_front seat (e ∷ es) ys own = (own.0, own_front seat es ys own.1)

-- an entry of the application under the seat's number keeps it so
pub own_more : (seat : ℕ) (log : Log) (e : ℕ × Entry) → is_at seat App e ≡ true → AreOwnFrames seat log → AreOwnFrames seat (log ++ e ∷ [])
own_more seat [] e at own = (λ is. at, tt)
own_more seat (x ∷ xs) e at own = (own.0, own_more seat xs e at own.1)

own_from : (seat : ℕ) (s : FrameState) (log : Log) → IsLegalFrom s log → AllByRecursion (λ e. is_by App e ≡ true → e.0 ≡ seat) log →
    AreOwnFrames seat log
own_from seat s [] legal only = tt
own_from seat s (e ∷ es) legal only = (
  λ is.
      let app = frame_by_app e.1.caller e.1.command legal.0.caller is in
      both (e.0 == seat) (is_by App e) (eq-eqb e.0 seat (only.0 app)) app,
  own_from seat (next_state s e.1.command) es legal.1 only.1,
)

-- in a legal log whose entries of the application have the seat's number all Frames are the seat's
pub own_by_number : (seat : ℕ) (s : FrameState) (log : Log) → IsLegalFrom s log → Each (λ e. is_by App e ≡ true → e.0 ≡ seat) log →
    AreOwnFrames seat log
own_by_number seat s log legal only =
    own_from seat s log legal (each_all (λ (e : ℕ × Entry). is_by App e ≡ true → e.0 ≡ seat) log only)

all_numbers : (P : ℕ × Entry → Type 0) (log : Log) → ((k : ℕ) → AllByRecursion (λ (e : Entry). P (k, e)) (of k log)) → AllByRecursion P log
all_numbers P [] h = tt
all_numbers P (e ∷ es) h = (head (e.0 == e.0) (eq-eqb e.0 e.0 refl) (h e.0), all_numbers P es (λ k. tail k (e.0 == k) (h k)))
  where
    head : (t : Bool) → t ≡ true → AllByRecursion (λ (x : Entry). P (e.0, x)) (cond t (e.1 ∷ of e.0 es) (of e.0 es)) → P e
    head true is all = all.0
    head false is all = absurd (cc)

    tail : (k : ℕ) (t : Bool) → AllByRecursion (λ (x : Entry). P (k, x)) (cond t (e.1 ∷ of k es) (of k es)) →
        AllByRecursion (λ (x : Entry). P (k, x)) (of k es)
    tail k true all = all.1
    tail k false all = all

-- what holds of the entries of each number holds of all entries
pub each_number : (P : ℕ × Entry → Type 0) (log : Log) → ((k : ℕ) → AllByRecursion (λ (e : Entry). P (k, e)) (of k log)) → Each P log
each_number P log h = all_each P log (all_numbers P log h)

all_of : {X : Type 0} (P : Type 0) (xs : List X) → P → AllByRecursion (λ _. P) xs
all_of P [] p = tt
all_of P (x ∷ xs) p = (p, all_of P xs p)

below_or : (k n : ℕ) → (k < n) ⊎ (n ≤ k)
below_or k zero = inr (omega arith)
below_or zero (suc n) = inl (omega arith)
below_or (suc k) (suc n) = by (below_or k n)
  where
    by : (k < n) ⊎ (n ≤ k) → (suc k < suc n) ⊎ (suc n ≤ suc k)
    by (inl less) = inl (omega (arith, less))
    by (inr most) = inr (omega (arith, most))

pub each_below : (seats : ℕ) (log : Log) → ((k : ℕ) → seats ≤ k → of k log ≡ []) → Each (λ e. e.0 < seats) log
each_below seats log none = each_number (λ e. e.0 < seats) log (λ k. by k (below_or k seats))
  where
    by : (k : ℕ) → (k < seats) ⊎ (seats ≤ k) → AllByRecursion (λ (e : Entry). k < seats) (of k log)
    by k (inl less) = all_of (k < seats) (of k log) less
    by k (inr most) = let empty = none k most in subst (λ (es : List Entry). AllByRecursion (λ (e : Entry). k < seats) es) (sym empty) tt

pub numbers_law : NumbersLaw
numbers_law channels seat log =
    record {
      none = λ caller empty.
          record {
            others = not_own seat caller log empty;
            turns = turns_none (is_at seat caller) (opening_state channels) log (not_own seat caller log empty);
            frames = frames_none seat [] (opening_state channels) log (not_own seat App log empty);
          };
      front = λ xs ys is own. own_front seat xs ys (subst (AreOwnFrames seat) is own);
      own_frames = λ legal only. own_by_number seat (opening_state channels) log legal only;
      below = each_below seat log;
    }
