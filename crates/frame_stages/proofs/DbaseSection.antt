-- What the database process holds to of its section, it holds to.
use Rattle.std.proofs.Common.{◌≡◌, ℕ, zero, suc, ◌+◌, ◌≤◌, Bool, true, false, cond, ◌&&◌, ◌==◌, List, [], ◌∷◌, ◌++◌, map, take, drop, length, refl, sym, ap, ◌∙◌, subst, arith, add-one, eq-eqb}
use Rattle.std.proofs.lemmas.List.{drop-map}
use Rattle.std.proofs.lemmas.List.Sums.{fold-append}
use Rattle.std.proofs.lemmas.Bool.{and_from}
use Rattle.std.proofs.Math.Nat.{max-le}
use Rattle.std.specs.List.{AllByRecursion}
use Rattle.std.specs.Prelude.{Result, Ok, Err}
use Rattle.seat_lock.specs.Log.{of, Found}
use Rattle.pf_model.specs.declared.lines.BaseLine.{BaseLine}
use Rattle.pf_model.specs.declared.lines.BaseStep.{BaseStep}
use Rattle.pf_model.specs.declared.lines.BaseStep.TheVariants as base
use Rattle.pf_model.specs.Merges.{buffer_after}
use Rattle.pf_history.specs.declared.commands.Caller.{Caller}
use Rattle.pf_history.specs.declared.commands.Caller.TheVariants.{Dbase}
use Rattle.pf_history.specs.declared.commands.Command.TheVariants as command
use Rattle.pf_history.specs.declared.commands.Merge.{Merge}
use Rattle.pf_history.specs.Logs.{Log, state_of, is_caller}
use Rattle.pf_history.specs.Laws.{own_entry}
use Rattle.pf_history.specs.Asks.{BaseAsk, merge_of, asked_base_from, is_at}
use Rattle.pf_history.proofs.Counting.{never_fall_law}
use Rattle.dbase_buffer.proofs.Lines.{line_law}
use Rattle.pf_scene.specs.Scenes.{Shared}
use Rattle.stage_parts.specs.States.{DbaseState, since_step, steps_since, still_asked_dbase}
use Rattle.stage_parts.specs.Parts.{DbaseKeeps}
use Rattle.stage_parts.specs.Grows.{awaited_by, StandsInDbase}
use Rattle.stage_parts.proofs.DbaseSteps.{dbase_law}
use Rattle.stage_parts.proofs.Numbers.{not_own}
use Rattle.stage_parts.specs.declared.answers.Did.{Did}
use Rattle.stage_parts.specs.declared.answers.Did.TheVariants as did
use Rattle.stage_parts.specs.declared.answers.StageError.{StageError}
use Rattle.stage_parts.specs.declared.answers.StageError.TheVariants as error
use Rattle.frame_stages.specs.declared.in_hand.InHand.{InHand}
use Rattle.frame_stages.specs.declared.in_hand.InHand.TheVariants as hand
use Rattle.frame_stages.specs.Looks.{log_of}
use Rattle.frame_stages.specs.DbaseWorks.{DbaseWork, HoldsBuffer, buffer_at, dbase_state, StandsIn, DbaseHolds}
use Rattle.frame_stages.specs.DbaseLines.{need_after, buffer_step, is_merge}
use Rattle.frame_stages.specs.DbaseAnswers.{Known, Passes, DoesAt, GivesUp, IsDbaseAnswer}

-- while the log grows by others' entries
pub holds_on : (lines : List BaseLine) (channels seat : ℕ) (w : DbaseWork) (seen more : Log) → DbaseHolds lines channels seat w seen →
    AllByRecursion (λ e. is_at seat Dbase e ≡ false) more → DbaseHolds lines channels seat w (seen ++ more)
holds_on lines channels seat w seen more holds none =
    let frames = (never_fall_law channels seen more).frames in
    let awaited = holds.awaited in
    record {
      keeps = (dbase_law lines channels seat (dbase_state lines w) seen holds.keeps).stays more none;
      awaited = omega (arith, awaited, frames);
      stands = holds.stands;
      stands_in = holds.stands_in;
    }

-- while the desk finds others' entries
pub holds_found : (lines : List BaseLine) (channels seat : ℕ) (w : DbaseWork) (seen log : Log) → DbaseHolds lines channels seat w seen →
    Found seat seen log → DbaseHolds lines channels seat w log
holds_found lines channels seat w seen log holds (rest, is, none) =
    subst (DbaseHolds lines channels seat w) (sym is)
    (holds_on lines channels seat w seen rest holds (not_own seat Dbase rest none))

-- One line on in the section

drop_suc : {X : Type 0} (xs : List X) (i : ℕ) (x : X) (ys : List X) → drop i xs ≡ x ∷ ys → drop (suc i) xs ≡ ys
drop_suc [] zero x ys at = absurd (cc)
drop_suc [] (suc i) x ys at = absurd (cc)
drop_suc (z ∷ xs) zero x ys at = cc
drop_suc (z ∷ xs) (suc i) x ys at = drop_suc xs i x ys at

take_suc : {X : Type 0} (xs : List X) (i : ℕ) (x : X) (ys : List X) → drop i xs ≡ x ∷ ys → take (suc i) xs ≡ take i xs ++ x ∷ []
take_suc [] zero x ys at = absurd (cc)
take_suc [] (suc i) x ys at = absurd (cc)
take_suc (z ∷ xs) zero x ys at = let same : z ≡ x = cc in ap (λ y. y ∷ []) same
take_suc (z ∷ xs) (suc i) x ys at = ap (λ zs. z ∷ zs) (take_suc xs i x ys at)

abbrev steps_of : List BaseLine → List BaseStep
steps_of lines = map (λ (l : BaseLine). l.step) lines

-- A section, one line on from a place.
record IsOn (lines : List BaseLine) (at : ℕ) (l : BaseLine) (rest : List BaseLine) : Type 0 where
  rest_is : drop (at + 1) lines ≡ rest
  left : drop at (steps_of lines) ≡ l.step ∷ drop (at + 1) (steps_of lines)
  since : steps_since (take (at + 1) (steps_of lines)) ≡ since_step (steps_since (take at (steps_of lines))) l.step

one_on : (lines : List BaseLine) (at : ℕ) (l : BaseLine) (rest : List BaseLine) → drop at lines ≡ l ∷ rest → IsOn lines at l rest
one_on lines at l rest there =
    let steps = steps_of lines in
    let step = λ (x : BaseLine). x.step in
    let here : drop at steps ≡ l.step ∷ map step rest = drop-map step at lines ∙ ap (map step) there in
    let next : drop (at + 1) steps ≡ map step rest = ap (λ n. drop n steps) (add-one at) ∙ drop_suc steps at l.step (map step rest) here in
    record {
      rest_is = ap (λ n. drop n lines) (add-one at) ∙ drop_suc lines at l rest there;
      left = here ∙ ap (λ xs. l.step ∷ xs) (sym next);
      since = ap (λ n. steps_since (take n steps)) (add-one at)
          ∙ ap steps_since (take_suc steps at l.step (map step rest) here)
          ∙ fold-append since_step [] (take at steps) (l.step ∷ []);
    }

asked_step : (need : ℕ) (since : List BaseStep) (s : BaseStep) (rest : List BaseStep) → is_merge s ≡ false →
    asked_base_from need since (s ∷ rest) ≡ asked_base_from (need_after need s) (since_step since s) rest
asked_step need since base.Buffer rest other = refl
asked_step need since (base.Edit e) rest other = refl
asked_step need since (base.Ask e) rest other = refl
asked_step need since base.Merge rest other = absurd (cc)
asked_step need since (base.Await n) rest other = refl

buffer_on : (since : List BaseStep) (s : BaseStep) → buffer_after (since_step since s) ≡ buffer_step (buffer_after since) s
buffer_on since base.Buffer = refl
buffer_on since (base.Edit e) = line_law.line since (base.Edit e)
buffer_on since (base.Ask e) = line_law.line since (base.Ask e)
buffer_on since base.Merge = refl
buffer_on since (base.Await n) = refl

-- it stands in the section one line on
stands_on : (lines : List BaseLine) (l : BaseLine) (w after : DbaseWork) → StandsIn lines w → Passes l w after → IsOn lines w.at l after.rest →
    StandsIn lines after
stands_on lines l w after stands passes on =
    let since = steps_since (take w.at (steps_of lines)) in
    let next : buffer_at lines after.at ≡ buffer_step (buffer_at lines w.at) l.step =
    ap (buffer_at lines) passes.at ∙ ap buffer_after on.since ∙ buffer_on since l.step in
    record {
      rest = ap (λ n. drop n lines) passes.at ∙ on.rest_is;
      hand = subst (HoldsBuffer after.hand) (sym next) (passes.hand (buffer_at lines w.at) stands.hand);
    }

awaited_step : (need : ℕ) (s : BaseStep) (rest : List BaseStep) → awaited_by (need_after need s) rest ≡ awaited_by need (s ∷ rest)
awaited_step need base.Buffer rest = refl
awaited_step need (base.Edit e) rest = refl
awaited_step need (base.Ask e) rest = refl
awaited_step need base.Merge rest = refl
awaited_step need (base.Await n) rest = refl

there_within : {X : Type 0} (xs : List X) (i : ℕ) (x : X) (ys : List X) → drop i xs ≡ x ∷ ys → i + 1 ≤ length xs
there_within [] zero x ys at = absurd (cc)
there_within [] (suc i) x ys at = absurd (cc)
there_within (z ∷ xs) zero x ys at = omega arith
there_within (z ∷ xs) (suc i) x ys at = let rest = there_within xs i x ys at in omega (arith, rest)

-- it stands in it too by the greatest await
stood_on : (lines : List BaseLine) (l : BaseLine) (w after : DbaseWork) → StandsIn lines w → StandsInDbase lines (dbase_state lines w) →
    Passes l w after → IsOn lines w.at l after.rest → StandsInDbase lines (dbase_state lines after)
stood_on lines l w after stands stood passes on =
    let steps = steps_of lines in
    let next = drop (w.at + 1) steps in
    let here = there_within lines w.at l after.rest (stands.rest ∙ passes.line) in
    let at = passes.at in
    record {
      within = omega (arith, here, at);
      awaited =
          ap (λ n. awaited_by after.need (drop n steps)) at ∙ ap (λ n. awaited_by n next) passes.need ∙ awaited_step w.need l.step next
          ∙ ap (awaited_by w.need) (sym on.left) ∙ stood.awaited;
    }

-- what is still asked one line on, in the words of the line before
asked_on : (lines : List BaseLine) (l : BaseLine) (w after : DbaseWork) → Passes l w after → IsOn lines w.at l after.rest →
    still_asked_dbase lines (dbase_state lines after)
    ≡ asked_base_from (need_after w.need l.step) (since_step (steps_since (take w.at (steps_of lines))) l.step) (drop (w.at + 1) (steps_of lines))
asked_on lines l w after passes on =
    ap (λ n. asked_base_from n (steps_since (take after.at (steps_of lines))) (drop after.at (steps_of lines))) passes.need
    ∙ ap (λ n. asked_base_from (need_after w.need l.step) (steps_since (take n (steps_of lines))) (drop n (steps_of lines))) passes.at
    ∙ ap (λ since. asked_base_from (need_after w.need l.step) since (drop (w.at + 1) (steps_of lines))) on.since

asked_here : (lines : List BaseLine) (l : BaseLine) (w after : DbaseWork) → IsOn lines w.at l after.rest →
    still_asked_dbase lines (dbase_state lines w)
    ≡ asked_base_from w.need (steps_since (take w.at (steps_of lines))) (l.step ∷ drop (w.at + 1) (steps_of lines))
asked_here lines l w after on = ap (asked_base_from w.need (steps_since (take w.at (steps_of lines)))) on.left

on_of : (lines : List BaseLine) (channels seat : ℕ) (w after : DbaseWork) (l : BaseLine) (log : Log) → DbaseHolds lines channels seat w log →
    Passes l w after → IsOn lines w.at l after.rest
on_of lines channels seat w after l log holds passes =
    one_on lines w.at l after.rest ((holds.stands passes.running).rest ∙ passes.line)

-- as it passes a line that is no merge
holds_passes : (lines : List BaseLine) (channels seat : ℕ) (w after : DbaseWork) (l : BaseLine) (log : Log) →
    DbaseHolds lines channels seat w log → Passes l w after → is_merge l.step ≡ false →
    need_after w.need l.step ≤ (state_of channels log).frames → DbaseHolds lines channels seat after log
holds_passes lines channels seat w after l log holds passes other awaited =
    let on = on_of lines channels seat w after l log holds passes in
    let since = steps_since (take w.at (steps_of lines)) in
    let asks = asked_on lines l w after passes on
    ∙ sym (asked_step w.need since l.step (drop (w.at + 1) (steps_of lines)) other)
    ∙ sym (asked_here lines l w after on) in
    let need = passes.need in
    record {
      keeps = (dbase_law lines channels seat (dbase_state lines w) log holds.keeps).passes (dbase_state lines after) asks refl;
      awaited = omega (arith, need, awaited);
      stands = λ runs. stands_on lines l w after (holds.stands passes.running) passes on;
      stands_in = stood_on lines l w after (holds.stands passes.running) holds.stands_in passes on;
    }

-- as it makes a merge
holds_merges : (lines : List BaseLine) (channels seat : ℕ) (w after : DbaseWork) (l : BaseLine) (m : Merge) (log : Log) (c : ℕ) →
    DbaseHolds lines channels seat w log → Passes l w after → l.step ≡ base.Merge → w.hand ≡ hand.Merge m →
    DbaseHolds lines channels seat after (log ++ own_entry c log seat (command.Merge m) ∷ [])
holds_merges lines channels seat w after l m log c holds passes step held =
    let on = on_of lines channels seat w after l log holds passes in
    let since = steps_since (take w.at (steps_of lines)) in
    let left = drop (w.at + 1) (steps_of lines) in
    let e = own_entry c log seat (command.Merge m) in
    let ask : BaseAsk = record { need = w.need; merge = merge_of (buffer_after since) } in
    let stands = holds.stands passes.running in
    let next : still_asked_dbase lines (dbase_state lines after) ≡ asked_base_from w.need [] left =
    asked_on lines l w after passes on
    ∙ ap (λ (s : BaseStep). asked_base_from (need_after w.need s) (since_step since s) left) step in
    let asks : still_asked_dbase lines (dbase_state lines w) ≡ ask ∷ still_asked_dbase lines (dbase_state lines after) =
    asked_here lines l w after on
    ∙ ap (λ (s : BaseStep). asked_base_from w.need since (s ∷ left)) step
    ∙ ap (λ xs. ask ∷ xs) (sym next) in
    let made : m ≡ merge_of (buffer_after since) = subst (λ (h : InHand). HoldsBuffer h (buffer_at lines w.at)) held stands.hand in
    let need : after.need ≡ w.need = passes.need ∙ ap (need_after w.need) step in
    let awaited = holds.awaited in
    let more = (never_fall_law channels log (e ∷ [])).frames in
    record {
      keeps = (dbase_law lines channels seat (dbase_state lines w) log holds.keeps).merges e ask (dbase_state lines after)
          (and_from (seat == seat) true (eq-eqb seat seat refl) refl) asks (ap command.Merge made) awaited refl;
      awaited = omega (arith, need, awaited, more);
      stands = λ runs. stands_on lines l w after stands passes on;
      stands_in = stood_on lines l w after stands holds.stands_in passes on;
    }

-- whatever it answers
pub passes_holds : (lines : List BaseLine) (channels number : ℕ) (w after : DbaseWork) (l : BaseLine) (known knows : Known) →
    Passes l w after → (s : BaseStep) → l.step ≡ s → DoesAt number s w.hand known knows →
    DbaseHolds lines channels number w known.seen → DbaseHolds lines channels number after knows.seen
passes_holds lines channels number w after l known knows passes base.Merge step does holds =
    let m = does.0 in
    let e = does.2 in
    let there = holds_found lines channels number w known.seen (log_of e.scene) holds e.found in
    let log = ap (λ (s : Shared). s.log) e.enters.shared in
    subst (DbaseHolds lines channels number after) (sym (e.seen ∙ log))
    (holds_merges lines channels number w after l m (log_of e.scene) e.scene.shared.channels there passes step does.1)
passes_holds lines channels number w after l known knows passes (base.Await n) step does holds =
    let there = holds_found lines channels number w known.seen knows.seen holds does.0.found in
    let awaited = there.awaited in
    let enough = does.1 channels in
    holds_passes lines channels number w after l knows.seen there passes (ap is_merge step)
    (subst (λ (s : BaseStep). need_after w.need s ≤ (state_of channels knows.seen).frames) (sym step) (max-le awaited enough))
passes_holds lines channels number w after l known knows passes base.Buffer step does holds =
    let there = holds_found lines channels number w known.seen knows.seen holds does.found in
    holds_passes lines channels number w after l knows.seen there passes (ap is_merge step)
    (subst (λ (s : BaseStep). need_after w.need s ≤ (state_of channels knows.seen).frames) (sym step) there.awaited)
passes_holds lines channels number w after l known knows passes (base.Edit x) step does holds =
    let there = holds_found lines channels number w known.seen knows.seen holds does.found in
    holds_passes lines channels number w after l knows.seen there passes (ap is_merge step)
    (subst (λ (s : BaseStep). need_after w.need s ≤ (state_of channels knows.seen).frames) (sym step) there.awaited)
passes_holds lines channels number w after l known knows passes (base.Ask x) step does holds =
    let there = holds_found lines channels number w known.seen knows.seen holds does.found in
    holds_passes lines channels number w after l knows.seen there passes (ap is_merge step)
    (subst (λ (s : BaseStep). need_after w.need s ≤ (state_of channels knows.seen).frames) (sym step) there.awaited)

given_up_holds : (lines : List BaseLine) (channels seat : ℕ) (w after : DbaseWork) (log : Log) → GivesUp w after →
    DbaseHolds lines channels seat w log → DbaseHolds lines channels seat after log
given_up_holds lines channels seat w after log up holds =
    let state : dbase_state lines w ≡ dbase_state lines after =
    ap (λ n. record { at = n; need = w.need; buffer = buffer_at lines n }) (sym up.at)
    ∙ ap (λ n. record { at = after.at; need = n; buffer = buffer_at lines after.at }) (sym up.need) in
    let need = up.need in
    let awaited = holds.awaited in
    let failed = up.failed in
    record {
      keeps = subst (λ (d : DbaseState). DbaseKeeps lines channels seat d log) state holds.keeps;
      awaited = omega (arith, need, awaited);
      stands = λ runs. absurd (let no : true ≡ false = sym failed ∙ runs in cc);
      stands_in = subst (StandsInDbase lines) state holds.stands_in;
    }

pub answer_holds : (lines : List BaseLine) (channels number : ℕ) (result : Result Did StageError) (w after : DbaseWork) (known knows : Known) →
    IsDbaseAnswer number result w after known knows → DbaseHolds lines channels number w known.seen →
    DbaseHolds lines channels number after knows.seen
answer_holds lines channels number (Ok did.Did) w after known knows answer holds =
    passes_holds lines channels number w after answer.0 known knows answer.1 answer.0.step refl answer.2 holds
answer_holds lines channels number (Ok did.NotYet) w after known knows answer holds =
    subst (λ (x : DbaseWork). DbaseHolds lines channels number x knows.seen) (sym answer.0)
    (holds_found lines channels number w known.seen knows.seen holds answer.1.found)
answer_holds lines channels number (Ok did.Over) w after known knows answer holds =
    subst (λ (x : DbaseWork). DbaseHolds lines channels number x knows.seen) (sym answer.0)
    (holds_found lines channels number w known.seen knows.seen holds answer.1.found)
answer_holds lines channels number (Err error.NoMemory) w after known knows answer holds =
    given_up_holds lines channels number w after knows.seen answer.0
    (holds_found lines channels number w known.seen knows.seen holds answer.1)
answer_holds lines channels number (Err error.FrameFault) w after known knows answer holds = absurd answer
