-- The greedy order: each line that is passed.
use Rattle.std.proofs.Common.{◌≡◌, ℕ, ◌+◌, ◌≤◌, nat_le, max, false, inl, inr, List, [], ◌∷◌, ◌++◌, Some, refl, sym, ◌∙◌, subst, append_assoc, arith}
use Rattle.std.specs.List.{AllByRecursion}
use Rattle.std.proofs.lemmas.Bool.{leb-true}
use Rattle.std.proofs.lemmas.Option.{same_Some, cond_some}
use Rattle.pf_model.specs.declared.lines.AppLine.{AppLine}
use Rattle.pf_model.specs.declared.lines.BaseLine.{BaseLine}
use Rattle.pf_history.specs.Asks.{asked_app, asked_dbase}
use Rattle.play_check.specs.Lines.{Given, Gives, Waits, Mark, app_marks, base_marks, given_by, total, passed, GoesOn}
use Rattle.play_check.specs.Orders.{Due, Standing, app_dues, base_dues}
use Rattle.play_check.specs.Stuck.{Pause, pause_before, pauses_of, CanPassWait, CanPassAwait, IsSomeBarred, IsFirstBarred}
use Rattle.play_check.proofs.Dues.{added, givens, Yields, app_yields, base_yields}
use Rattle.play_check.proofs.Orders.{Reached, reached_opening, reached_app, reached_base}

-- Of these pauses all but the last ones, which are left, can be passed.
pub record Passed (Passable : Pause → Type 0) (whole left : List Pause) : Type 0 where
  pub first : (line : ℕ) → IsFirstBarred Passable left line → IsFirstBarred Passable whole line
  pub barred : IsSomeBarred Passable left → IsSomeBarred Passable whole
  pub left_barred : IsSomeBarred Passable whole → IsSomeBarred Passable left

pass_none : (Passable : Pause → Type 0) (whole : List Pause) → Passed Passable whole whole
pass_none Passable whole = record { first = λ line h. h; barred = λ h. h; left_barred = λ h. h }

pass_one : (Passable : Pause → Type 0) (whole left : List Pause) (p : Pause) → Passed Passable whole (p ∷ left) → Passable p → Passed Passable whole left
pass_one Passable whole left p h can =
    record {
      first = λ line rest. h.first line (inl (can, rest));
      barred = λ rest. h.barred (inr rest);
      left_barred = λ all. elim (h.left_barred all) [ inl barred ↦ absurd (barred can) | inr rest ↦ rest ];
    }

-- What the greedy order keeps of one section: what its lines that are left ask for, what the waits so far wait for, and
-- the lines passed, which gave `count`, where the other caller has come to `reached`.
pub record Side (whole left : List Mark) (Passable : Pause → Type 0) (due : List Due) (count reached : ℕ) : Type 0 where
  pub need : ℕ
  pub yields : Yields need (givens left) due
  pub waited : need ≤ reached
  pub done : List Mark
  pub parts : whole ≡ done ++ left
  pub given : total done ≡ count
  pub pauses : Passed Passable (pauses_of whole) (pauses_of left)

-- What the greedy order keeps.
pub record Walked (app : List AppLine) (dbase : List BaseLine) (app_left dbase_left : List Mark) (frames merges : ℕ) : Type 0 where
  pub due : List Due
  pub base_due : List Due
  pub reached : Reached app dbase (record { app = due; dbase = base_due; frames = frames; merges = merges })
  pub app_side : Side (app_marks app) app_left (CanPassWait app dbase) due frames merges
  pub base_side : Side (base_marks dbase) dbase_left (CanPassAwait app dbase) base_due merges frames

pub walked_opening : (app : List AppLine) (dbase : List BaseLine) → Walked app dbase (app_marks app) (base_marks dbase) 0 0
walked_opening app dbase = record {
  due = app_dues (asked_app app);
  base_due = base_dues (asked_dbase dbase);
  reached = reached_opening app dbase;
  app_side = record {
    need = 0;
    yields = app_yields 0 false app;
    waited = omega arith;
    done = [];
    parts = refl;
    given = refl;
    pauses = pass_none (CanPassWait app dbase) (pauses_of (app_marks app));
  };
  base_side = record {
    need = 0;
    yields = base_yields 0 [] dbase;
    waited = omega arith;
    done = [];
    parts = refl;
    given = refl;
    pauses = pass_none (CanPassAwait app dbase) (pauses_of (base_marks dbase));
  };
}

-- One line

total_more : (ms : List Mark) (m : Mark) → total (ms ++ m ∷ []) ≡ total ms + given_by m.given
total_more [] m = omega arith
total_more (k ∷ ms) m = omega (arith, total_more ms m)

gives : (count n : ℕ) (g : Given) → passed count g ≡ Some n → given_by g ≡ n
gives count n (Gives k) e = same_Some k n e
gives count n (Waits k) e = (cond_some (nat_le k count) 0 n e).1

-- What a line asks for that gives n: its front, of which all waits for no more than the other caller has come to.
record Taken (need : ℕ) (m : Mark) (ms : List Mark) (due : List Due) (n reached : ℕ) : Type 0 where
  front : List Due
  rest : List Due
  front_need : ℕ
  whole : due ≡ front ++ rest
  needs : AllByRecursion (λ d. d.need ≡ front_need) front
  early : front_need ≤ reached
  adds : added front ≡ n
  next_need : ℕ
  yields : Yields next_need (givens ms) rest
  waited : next_need ≤ reached

taken : (need : ℕ) (m : Mark) (ms : List Mark) (due : List Due) (n reached : ℕ) → Yields need (m.given ∷ givens ms) due → need ≤ reached → passed reached m.given ≡ Some n → Taken need m ms due n reached
taken need m ms due n reached y waited e = by m.given y e
  where
    by : (g : Given) → Yields need (g ∷ givens ms) due → passed reached g ≡ Some n → Taken need m ms due n reached
    by (Gives k) y e = record {
      front = y.1.front;
      rest = y.0;
      front_need = need;
      whole = y.1.whole;
      needs = y.1.needs;
      early = waited;
      adds = y.1.adds ∙ same_Some k n e;
      next_need = need;
      yields = y.2;
      waited = waited;
    }
    by (Waits k) y e =
        let p = cond_some (nat_le k reached) 0 n e in
        let enough : k ≤ reached = leb-true k reached p.0 in
        record {
          front = [];
          rest = due;
          front_need = 0;
          whole = refl;
          needs = tt;
          early = omega arith;
          adds = p.1;
          next_need = max need k;
          yields = y;
          waited = omega (arith, enough, waited);
        }

-- its pause, if it is one, can be passed
pass_line : (Passable : Pause → Type 0) (whole : List Pause) (m : Mark) (left : List Pause) (n reached : ℕ) → Passed Passable whole (pause_before m.line m.given left) → passed reached m.given ≡ Some n → ((p : Pause) → p.count ≤ reached → Passable p) → Passed Passable whole left
pass_line Passable whole m left n reached h e can = by m.given h e
  where
    by : (g : Given) → Passed Passable whole (pause_before m.line g left) → passed reached g ≡ Some n → Passed Passable whole left
    by (Gives k) h e = h
    by (Waits k) h e =
        let p = cond_some (nat_le k reached) 0 n e in
        pass_one Passable whole left (record { line = m.line; count = k }) h (can (record { line = m.line; count = k }) (leb-true k reached p.0))

-- the section behind the line
side_on : (whole : List Mark) (m : Mark) (ms : List Mark) (Passable : Pause → Type 0) (due : List Due) (count n reached : ℕ) (s : Side whole (m ∷ ms) Passable due count reached) (t : Taken s.need m ms due n reached) → passed reached m.given ≡ Some n → ((p : Pause) → p.count ≤ reached → Passable p) → Side whole ms Passable t.rest (count + n) reached
side_on whole m ms Passable due count n reached s t e can = record {
  need = t.next_need;
  yields = t.yields;
  waited = t.waited;
  done = s.done ++ m ∷ [];
  parts = s.parts ∙ sym (append_assoc s.done (m ∷ []) ms);
  given = omega (arith, total_more s.done m, s.given, gives reached n m.given e);
  pauses = pass_line Passable (pauses_of whole) m (pauses_of ms) n reached s.pauses e can;
}

-- the other section, where the caller has come to more
other_side : (whole left : List Mark) (Passable : Pause → Type 0) (due : List Due) (count reached n : ℕ) → Side whole left Passable due count reached → Side whole left Passable due count (reached + n)
other_side whole left Passable due count reached n s = record {
  need = s.need;
  yields = s.yields;
  waited = omega (arith, s.waited);
  done = s.done;
  parts = s.parts;
  given = s.given;
  pauses = s.pauses;
}

pub app_goes_on : (app : List AppLine) (dbase : List BaseLine) (app_left dbase_left : List Mark) (frames merges n : ℕ) (rest : List Mark) → Walked app dbase app_left dbase_left frames merges → GoesOn merges app_left n rest → Walked app dbase rest dbase_left (frames + n) merges
app_goes_on app dbase [] dbase_left frames merges n rest w goes = absurd goes
app_goes_on app dbase (m ∷ ms) dbase_left frames merges n rest w goes =
    let s = w.app_side in
    let t = taken s.need m ms w.due n merges s.yields s.waited goes.0 in
    let standing : Standing = record { app = w.due; dbase = w.base_due; frames = frames; merges = merges } in
    let reached = reached_app app dbase t.front t.rest standing t.front_need t.whole t.needs t.early w.reached in
    let can : (p : Pause) → p.count ≤ merges → CanPassWait app dbase p =
    λ p enough. record { order = w.reached.order; end = standing; is_order = w.reached.is_order; enough = enough } in
    subst (λ (x : List Mark). Walked app dbase x dbase_left (frames + n) merges) goes.1
    (record {
      due = t.rest;
      base_due = w.base_due;
      reached = subst (λ (k : ℕ). Reached app dbase (record { app = t.rest; dbase = w.base_due; frames = frames + k; merges = merges })) t.adds reached;
      app_side = side_on (app_marks app) m ms (CanPassWait app dbase) w.due frames n merges s t goes.0 can;
      base_side = other_side (base_marks dbase) dbase_left (CanPassAwait app dbase) w.base_due merges frames n w.base_side;
    })

pub base_goes_on : (app : List AppLine) (dbase : List BaseLine) (app_left dbase_left : List Mark) (frames merges n : ℕ) (rest : List Mark) → Walked app dbase app_left dbase_left frames merges → GoesOn frames dbase_left n rest → Walked app dbase app_left rest frames (merges + n)
base_goes_on app dbase app_left [] frames merges n rest w goes = absurd goes
base_goes_on app dbase app_left (m ∷ ms) frames merges n rest w goes =
    let s = w.base_side in
    let t = taken s.need m ms w.base_due n frames s.yields s.waited goes.0 in
    let standing : Standing = record { app = w.due; dbase = w.base_due; frames = frames; merges = merges } in
    let reached = reached_base app dbase t.front t.rest standing t.front_need t.whole t.needs t.early w.reached in
    let can : (p : Pause) → p.count ≤ frames → CanPassAwait app dbase p =
    λ p enough. record { order = w.reached.order; end = standing; is_order = w.reached.is_order; enough = enough } in
    subst (λ (x : List Mark). Walked app dbase app_left x frames (merges + n)) goes.1
    (record {
      due = w.due;
      base_due = t.rest;
      reached = subst (λ (k : ℕ). Reached app dbase (record { app = w.due; dbase = t.rest; frames = frames; merges = merges + k })) t.adds reached;
      app_side = other_side (app_marks app) app_left (CanPassWait app dbase) w.due frames merges n w.app_side;
      base_side = side_on (base_marks dbase) m ms (CanPassAwait app dbase) w.base_due merges n frames s t goes.0 can;
    })
