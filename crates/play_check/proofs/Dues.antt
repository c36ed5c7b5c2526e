-- What a section asks for, by its lines.
use Rattle.std.proofs.Common.{◌≡◌, ℕ, ◌+◌, ◌<◌, ◌≤◌, nat_le, max, Bool, true, false, cond, List, [], ◌∷◌, ◌++◌, map, length, Option, Some, None, refl, ap, arith}
use Rattle.std.specs.List.{AllByRecursion}
use Rattle.std.proofs.lemmas.Bool.{leb-true, le-leb}
use Rattle.std.proofs.lemmas.Option.{same_Some, cond_some}
use Rattle.pf_model.specs.declared.lines.AppStep.{AppStep}
use Rattle.pf_model.specs.declared.lines.AppStep.TheVariants as app_step
use Rattle.pf_model.specs.declared.lines.AppLine.{AppLine}
use Rattle.pf_model.specs.declared.lines.BaseStep.{BaseStep}
use Rattle.pf_model.specs.declared.lines.BaseStep.TheVariants as base_step
use Rattle.pf_model.specs.declared.lines.BaseLine.{BaseLine}
use Rattle.pf_history.specs.Asks.{asked_from, asked_base_from}
use Rattle.play_check.specs.Lines.{Given, Gives, Waits, Mark, app_given, base_given, app_marks, base_marks, given_by, total, passed, GoesOn, Stands}
use Rattle.play_check.specs.Orders.{Due, app_dues, base_dues, within}

-- what these add
abbrev pub added : List Due → ℕ
added [] = 0
added (d ∷ ds) = d.adds + added ds

-- What one line asks for, in front of the rest: all of it waits for `need`, and it adds n.
pub record Front (need n : ℕ) (ds rest : List Due) : Type 0 where
  pub front : List Due
  pub whole : ds ≡ front ++ rest
  pub needs : AllByRecursion (λ d. d.need ≡ need) front
  pub adds : added front ≡ n

abbrev pub givens : List Mark → List Given
givens marks = map (λ m. m.given) marks

-- these lines ask for this, where the waits before them wait for `need`
abbrev pub Yields : ℕ → List Given → List Due → Type 0
Yields need [] ds = AllByRecursion (λ d. d.adds ≡ 0) ds
Yields need (Gives n ∷ gs) ds = (rest : List Due) × Front need n ds rest × Yields need gs rest
Yields need (Waits n ∷ gs) ds = Yields (max need n) gs ds

-- Both sections

no_front : (need : ℕ) (ds : List Due) → Front need 0 ds ds
no_front need ds = record { front = []; whole = refl; needs = tt; adds = refl }

one_front : (need n : ℕ) (ds : List Due) → Front need n (record { need = need; adds = n } ∷ ds) ds
one_front need n ds =
    record { front = record { need = need; adds = n } ∷ []; whole = refl; needs = (refl, tt); adds = omega arith }

two_front : (need : ℕ) (ds : List Due) → Front need 1 (record { need = need; adds = 0 } ∷ record { need = need; adds = 1 } ∷ ds) ds
two_front need ds = record {
  front = record { need = need; adds = 0 } ∷ record { need = need; adds = 1 } ∷ [];
  whole = refl;
  needs = (refl, (refl, tt));
  adds = refl;
}

pub app_yields : (need : ℕ) (synced : Bool) (lines : List AppLine) → Yields need (givens (app_marks lines)) (app_dues (asked_from need synced (map (λ l. l.step) lines)))
app_yields need synced [] = (refl, tt)
app_yields need synced (l ∷ ls) = by l.step synced (λ n b. app_yields n b ls)
  where
    rest : ℕ → Bool → List Due
    rest n b = app_dues (asked_from n b (map (λ l. l.step) ls))

    by : (s : AppStep) (b : Bool) → ((n : ℕ) (b : Bool) → Yields n (givens (app_marks ls)) (rest n b)) → Yields need (app_given s ∷ givens (app_marks ls)) (app_dues (asked_from need b (s ∷ map (λ l. l.step) ls)))
    by (app_step.Edit e) b more = (rest need b, one_front need 0 (rest need b), more need b)
    by (app_step.View channel v) b more = (rest need b, one_front need 0 (rest need b), more need b)
    by app_step.Sync b more = (rest need true, one_front need 0 (rest need true), more need true)
    by app_step.Frame true more = (rest need false, one_front need 1 (rest need false), more need false)
    by app_step.Frame false more = (rest need false, two_front need (rest need false), more need false)
    by (app_step.Wait n) b more = more (max need n) b

pub base_yields : (need : ℕ) (since : List BaseStep) (lines : List BaseLine) → Yields need (givens (base_marks lines)) (base_dues (asked_base_from need since (map (λ l. l.step) lines)))
base_yields need since [] = tt
base_yields need since (l ∷ ls) = by l.step (λ n steps. base_yields n steps ls)
  where
    rest : ℕ → List BaseStep → List Due
    rest n steps = base_dues (asked_base_from n steps (map (λ l. l.step) ls))

    by : (s : BaseStep) → ((n : ℕ) (steps : List BaseStep) → Yields n (givens (base_marks ls)) (rest n steps)) → Yields need (base_given s ∷ givens (base_marks ls)) (base_dues (asked_base_from need since (s ∷ map (λ l. l.step) ls)))
    by base_step.Buffer more = (rest need [], no_front need (rest need []), more need [])
    by (base_step.Edit e) more = (rest need (since ++ base_step.Edit e ∷ []), no_front need (rest need (since ++ base_step.Edit e ∷ [])), more need (since ++ base_step.Edit e ∷ []))
    by (base_step.Ask e) more = (rest need (since ++ base_step.Ask e ∷ []), no_front need (rest need (since ++ base_step.Ask e ∷ [])), more need (since ++ base_step.Ask e ∷ []))
    by base_step.Merge more = (rest need [], one_front need 1 (rest need []), more need [])
    by (base_step.Await k) more = more (max need k) since

-- What waits for more adds nothing

cond_zero : (b : Bool) (n : ℕ) → n ≡ 0 → cond b n 0 ≡ 0
cond_zero true n e = e
cond_zero false n e = refl

cond_most : (b : Bool) (n : ℕ) → cond b n 0 ≤ n
cond_most true n = omega arith
cond_most false n = omega arith

uncounted : (need most n : ℕ) → most < need → cond (nat_le need most) n 0 ≡ 0
uncounted need most n far = by (nat_le need most) refl
  where
    by : (b : Bool) → nat_le need most ≡ b → cond b n 0 ≡ 0
    by true e = absurd (omega (arith, leb-true need most e, far))
    by false e = refl

none_added : (most : ℕ) (ds : List Due) → AllByRecursion (λ d. d.adds ≡ 0) ds → within most ds ≡ 0
none_added most [] h = refl
none_added most (d ∷ ds) h = omega (arith, cond_zero (nat_le d.need most) d.adds h.0, none_added most ds h.1)

within_append : (most : ℕ) (xs ys : List Due) → within most (xs ++ ys) ≡ within most xs + within most ys
within_append most [] ys = omega arith
within_append most (d ∷ ds) ys = omega (arith, within_append most ds ys)

far_front : (most need : ℕ) (ds : List Due) → most < need → AllByRecursion (λ d. d.need ≡ need) ds → within most ds ≡ 0
far_front most need [] far h = refl
far_front most need (d ∷ ds) far h =
    let further : most < d.need = omega (arith, h.0, far) in
    omega (arith, uncounted d.need most d.adds further, far_front most need ds far h.1)

front_most : (most : ℕ) (ds : List Due) → within most ds ≤ added ds
front_most most [] = omega arith
front_most most (d ∷ ds) = omega (arith, cond_most (nat_le d.need most) d.adds, front_most most ds)

far_dues : (most need : ℕ) (gs : List Given) (ds : List Due) → most < need → Yields need gs ds → within most ds ≡ 0
far_dues most need [] ds far y = none_added most ds y
far_dues most need (Gives n ∷ gs) ds far y =
    let f = y.1 in
    let rest = far_dues most need gs y.0 far y.2 in
    rw f.whole (omega (arith, within_append most f.front y.0, far_front most need f.front far f.needs, rest))
far_dues most need (Waits n ∷ gs) ds far y =
    let further : most < max need n = omega (arith, far) in
    far_dues most (max need n) gs ds further y

-- a line that is not passed waits for more
pub waits_more : (n most : ℕ) → cond {A = Option ℕ} (nat_le n most) (Some 0) None ≡ None → most < n
waits_more n most h = by (nat_le n most) refl h
  where
    by : (b : Bool) → nat_le n most ≡ b → cond {A = Option ℕ} b (Some 0) None ≡ None → most < n
    by true e none = absurd (cc)
    by false e none = below (le-leb n most) e
      where
        below : (n ≤ most → nat_le n most ≡ true) → nat_le n most ≡ false → most < n
        below le e = grind (arith, le, e)

stands_none : (most need : ℕ) (left : List Mark) (ds : List Due) → Stands most left → Yields need (givens left) ds → within most ds ≡ 0
stands_none most need [] ds stands y = none_added most ds y
stands_none most need (m ∷ ms) ds stands y = by m.given stands y
  where
    by : (g : Given) → passed most g ≡ None → Yields need (g ∷ givens ms) ds → within most ds ≡ 0
    by (Gives n) none y = absurd (cc)
    by (Waits n) none y =
        let more : most < n = waits_more n most none in
        let far : most < max need n = omega (arith, more) in
        far_dues most (max need n) (givens ms) ds far y

-- Where a section stands, all that it asks for and does not wait for more adds no more than the lines before.
pub most_added : (most need : ℕ) (done left : List Mark) (ds : List Due) → Stands most left → Yields need (givens (done ++ left)) ds → within most ds ≤ total done
most_added most need [] left ds stands y = omega (arith, stands_none most need left ds stands y)
most_added most need (m ∷ ms) left ds stands y = by m.given (λ n rest. most_added most n ms left rest stands) y
  where
    by : (g : Given) → ((n : ℕ) (rest : List Due) → Yields n (givens (ms ++ left)) rest → within most rest ≤ total ms) → Yields need (g ∷ givens (ms ++ left)) ds → within most ds ≤ given_by g + total ms
    by (Gives n) more y =
        let f = y.1 in
        let rest = more need y.0 y.2 in
        rw f.whole (omega (arith, within_append most f.front y.0, front_most most f.front, f.adds, rest))
    by (Waits n) more y = omega (arith, more (max need n) ds y)

-- Room for the counts

-- each line gives at most one
abbrev pub GiveOnes : List Mark → Type 0
GiveOnes marks = AllByRecursion (λ m. given_by m.given ≤ 1) marks

pub app_ones : (lines : List AppLine) → GiveOnes (app_marks lines)
app_ones [] = tt
app_ones (l ∷ ls) = (by l.step, app_ones ls)
  where
    by : (s : AppStep) → given_by (app_given s) ≤ 1
    by (app_step.Edit e) = omega arith
    by (app_step.View channel v) = omega arith
    by app_step.Sync = omega arith
    by app_step.Frame = omega arith
    by (app_step.Wait n) = omega arith

pub base_ones : (lines : List BaseLine) → GiveOnes (base_marks lines)
base_ones [] = tt
base_ones (l ∷ ls) = (by l.step, base_ones ls)
  where
    by : (s : BaseStep) → given_by (base_given s) ≤ 1
    by base_step.Buffer = omega arith
    by (base_step.Edit e) = omega arith
    by (base_step.Ask e) = omega arith
    by base_step.Merge = omega arith
    by (base_step.Await k) = omega arith

-- what a line gives, and the lines behind it, are no more than the lines
pub goes_room : (count n : ℕ) (marks rest : List Mark) → GiveOnes marks → GoesOn count marks n rest → n + length rest ≤ length marks
goes_room count n [] rest ones h = absurd h
goes_room count n (m ∷ ms) rest ones h =
    let few : n ≤ 1 = by m.given h.0 ones.0 in
    omega (arith, few, ap length h.1)
  where
    by : (g : Given) → passed count g ≡ Some n → given_by g ≤ 1 → n ≤ 1
    by (Gives k) e one = omega (arith, same_Some k n e, one)
    by (Waits k) e one = omega (arith, (cond_some (nat_le k count) 0 n e).1)

-- a line that is passed is one line less
pub goes_fewer : (count n : ℕ) (marks rest : List Mark) → GoesOn count marks n rest → length rest < length marks
goes_fewer count n [] rest h = absurd h
goes_fewer count n (m ∷ ms) rest h = omega (arith, ap length h.1)
