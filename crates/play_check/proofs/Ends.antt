-- Where both callers stand, no order goes further.
use Rattle.std.proofs.Common.{◌≡◌, ◌==◌, ℕ, zero, suc, false, ◌+◌, ◌<◌, ◌≤◌, inl, inr, List, [], ◌∷◌, ◌++◌, length, None, refl, sym, subst, arith}
use Rattle.std.proofs.lemmas.List.{map-append, length-map}
use Rattle.pf_model.specs.declared.lines.AppLine.{AppLine}
use Rattle.pf_model.specs.declared.lines.BaseLine.{BaseLine}
use Rattle.pf_history.specs.Asks.{asked_app, asked_dbase}
use Rattle.play_check.specs.Lines.{Given, Gives, Waits, Mark, app_marks, base_marks, total, passed, Stands, line_at}
use Rattle.play_check.specs.Orders.{app_dues, base_dues, within}
use Rattle.play_check.specs.Stuck.{Pause, pause_before, pauses_of, CanPassWait, CanPassAwait, IsSomeBarred, IsStuck, IsFirstBarred, AreStuckLines}
use Rattle.play_check.specs.Laws.{WaitingLaw}
use Rattle.play_check.proofs.Dues.{givens, Yields, app_yields, base_yields, waits_more, most_added}
use Rattle.play_check.proofs.Orders.{no_further}
use Rattle.play_check.proofs.Walks.{Walked}

-- A caller that stands

-- the pause at which a caller stands is the first that cannot be passed
stands_first : (Passable : Pause → Type 0) (count : ℕ) (left : List Mark) → Stands count left → ((p : Pause) → count < p.count → ¬ Passable p) → IsFirstBarred Passable (pauses_of left) (line_at left)
stands_first Passable count [] h barred = refl
stands_first Passable count (m ∷ ms) h barred = by m.line m.given h
  where
    by : (line : ℕ) (g : Given) → passed count g ≡ None → IsFirstBarred Passable (pause_before line g (pauses_of ms)) line
    by line (Waits n) none = inr (barred (record { line = line; count = n }) (waits_more n count none), refl)
    by line (Gives n) none = absurd (cc)

-- a caller that stands and is not over stands at a pause that cannot be passed
stands_barred : (Passable : Pause → Type 0) (count : ℕ) (left : List Mark) → 0 < length left → Stands count left → ((p : Pause) → count < p.count → ¬ Passable p) → IsSomeBarred Passable (pauses_of left)
stands_barred Passable count [] some h barred = absurd (omega (arith, some))
stands_barred Passable count (m ∷ ms) some h barred = by m.line m.given h
  where
    by : (line : ℕ) (g : Given) → passed count g ≡ None → IsSomeBarred Passable (pause_before line g (pauses_of ms))
    by line (Waits n) none = inl (barred (record { line = line; count = n }) (waits_more n count none))
    by line (Gives n) none = absurd (cc)

no_pause : (Passable : Pause → Type 0) (left : List Mark) → length left ≡ 0 → IsSomeBarred Passable (pauses_of left) → ⊥
no_pause Passable [] none h = h
no_pause Passable (m ∷ ms) none h = absurd (omega (arith, none))

-- pauses behind others
barred_behind : (Passable : Pause → Type 0) (done left : List Mark) → IsSomeBarred Passable (pauses_of left) → IsSomeBarred Passable (pauses_of (done ++ left))
barred_behind Passable [] left h = h
barred_behind Passable (m ∷ ms) left h = by m.line m.given (barred_behind Passable ms left h)
  where
    by : (line : ℕ) (g : Given) → IsSomeBarred Passable (pauses_of (ms ++ left)) → IsSomeBarred Passable (pause_before line g (pauses_of (ms ++ left)))
    by line (Gives n) h = h
    by line (Waits n) h = inr h

-- Two sections, each over or waiting for more than the other gives before it.

pub record Halted (app : List AppLine) (dbase : List BaseLine) (app_left dbase_left : List Mark) (frames merges : ℕ) : Type 0 where
  pub app_done : List Mark
  pub base_done : List Mark
  pub app_parts : app_marks app ≡ app_done ++ app_left
  pub base_parts : base_marks dbase ≡ base_done ++ dbase_left
  pub frames_given : total app_done ≤ frames
  pub merges_given : total base_done ≤ merges
  pub app_stands : Stands merges app_left
  pub base_stands : Stands frames dbase_left

record AreBarred (app : List AppLine) (dbase : List BaseLine) (frames merges : ℕ) : Type 0 where
  waits : (p : Pause) → merges < p.count → ¬ CanPassWait app dbase p
  awaits : (p : Pause) → frames < p.count → ¬ CanPassAwait app dbase p

barred : (app : List AppLine) (dbase : List BaseLine) (app_left dbase_left : List Mark) (frames merges : ℕ) → Halted app dbase app_left dbase_left frames merges → AreBarred app dbase frames merges
barred app dbase app_left dbase_left frames merges h =
    let app_asks : Yields 0 (givens (h.app_done ++ app_left)) (app_dues (asked_app app)) = subst (λ (ms : List Mark). Yields 0 (givens ms) (app_dues (asked_app app))) h.app_parts (app_yields 0 false app) in
    let base_asks : Yields 0 (givens (h.base_done ++ dbase_left)) (base_dues (asked_dbase dbase)) = subst (λ (ms : List Mark). Yields 0 (givens ms) (base_dues (asked_dbase dbase))) h.base_parts (base_yields 0 [] dbase) in
    let app_most = most_added merges 0 h.app_done app_left (app_dues (asked_app app)) h.app_stands app_asks in
    let base_most = most_added frames 0 h.base_done dbase_left (base_dues (asked_dbase dbase)) h.base_stands base_asks in
    let frames_all : within merges (app_dues (asked_app app)) ≤ frames = omega (arith, app_most, h.frames_given) in
    let merges_all : within frames (base_dues (asked_dbase dbase)) ≤ merges = omega (arith, base_most, h.merges_given) in
    record {
      waits = λ p more can. let most = no_further app dbase frames merges frames_all merges_all can.order can.end can.is_order in omega (arith, most.1, can.enough, more);
      awaits = λ p more can. let most = no_further app dbase frames merges frames_all merges_all can.order can.end can.is_order in omega (arith, most.0, can.enough, more);
    }

halted_stuck : (app : List AppLine) (dbase : List BaseLine) (app_left dbase_left : List Mark) (frames merges : ℕ) → Halted app dbase app_left dbase_left frames merges → 0 < length app_left + length dbase_left → IsStuck app dbase
halted_stuck app dbase app_left dbase_left frames merges h some = which (length app_left) refl
  where
    bars : AreBarred app dbase frames merges
    bars = barred app dbase app_left dbase_left frames merges h

    which : (n : ℕ) → length app_left ≡ n → IsStuck app dbase
    which zero e =
        let base_some : 0 < length dbase_left = omega (arith, e, some) in
        let behind = barred_behind (CanPassAwait app dbase) h.base_done dbase_left (stands_barred (CanPassAwait app dbase) frames dbase_left base_some h.base_stands bars.awaits) in
        inr (subst (λ (ms : List Mark). IsSomeBarred (CanPassAwait app dbase) (pauses_of ms)) (sym h.base_parts) behind)
    which (suc n) e =
        let app_some : 0 < length app_left = omega (arith, e) in
        let behind = barred_behind (CanPassWait app dbase) h.app_done app_left (stands_barred (CanPassWait app dbase) merges app_left app_some h.app_stands bars.waits) in
        inl (subst (λ (ms : List Mark). IsSomeBarred (CanPassWait app dbase) (pauses_of ms)) (sym h.app_parts) behind)

pub app_length : (lines : List AppLine) → length (app_marks lines) ≡ length lines
app_length lines = length-map lines _

pub base_length : (lines : List BaseLine) → length (base_marks lines) ≡ length lines
base_length lines = length-map lines _

-- Where both callers wait, or one waits and the other is over, the play is stuck.
pub waiting : WaitingLaw
waiting app_passed app_left dbase_passed dbase_left frames merges frames_given merges_given app_stands base_stands some =
    let left : 0 < length (app_marks app_left) + length (base_marks dbase_left) = omega (arith, app_length app_left, base_length dbase_left, some) in
    halted_stuck (app_passed ++ app_left) (dbase_passed ++ dbase_left) (app_marks app_left) (base_marks dbase_left) frames merges
    (record {
      app_done = app_marks app_passed;
      base_done = base_marks dbase_passed;
      app_parts = map-append _ app_passed app_left;
      base_parts = map-append _ dbase_passed dbase_left;
      frames_given = frames_given;
      merges_given = merges_given;
      app_stands = app_stands;
      base_stands = base_stands;
    })
    left

-- What holds where both callers of the greedy order stand.
pub record Ended (app : List AppLine) (dbase : List BaseLine) (app_left dbase_left : List Mark) : Type 0 where
  pub lines : AreStuckLines app dbase (line_at app_left) (line_at dbase_left)
  pub stuck : 0 < length app_left + length dbase_left → IsStuck app dbase
  pub passes : length app_left ≡ 0 → length dbase_left ≡ 0 → IsStuck app dbase → ⊥

pub ended : (app : List AppLine) (dbase : List BaseLine) (app_left dbase_left : List Mark) (frames merges : ℕ) → Walked app dbase app_left dbase_left frames merges → Stands merges app_left → Stands frames dbase_left → Ended app dbase app_left dbase_left
ended app dbase app_left dbase_left frames merges w stands base_stands =
    let h : Halted app dbase app_left dbase_left frames merges = record {
      app_done = w.app_side.done;
      base_done = w.base_side.done;
      app_parts = w.app_side.parts;
      base_parts = w.base_side.parts;
      frames_given = omega (arith, w.app_side.given);
      merges_given = omega (arith, w.base_side.given);
      app_stands = stands;
      base_stands = base_stands;
    } in
    let bars = barred app dbase app_left dbase_left frames merges h in
    record {
      lines = record {
        wait = w.app_side.pauses.first (line_at app_left) (stands_first (CanPassWait app dbase) merges app_left stands bars.waits);
        await = w.base_side.pauses.first (line_at dbase_left) (stands_first (CanPassAwait app dbase) frames dbase_left base_stands bars.awaits);
      };
      stuck = halted_stuck app dbase app_left dbase_left frames merges h;
      passes = λ none base_none stuck. elim stuck [
        | inl at ↦ no_pause (CanPassWait app dbase) app_left none (w.app_side.pauses.left_barred at)
        | inr at ↦ no_pause (CanPassAwait app dbase) dbase_left base_none (w.base_side.pauses.left_barred at)
      ];
    }

pub positive : (n : ℕ) → (n == 0) ≡ false → 0 < n
positive zero e = absurd (cc)
positive (suc n) e = omega arith
