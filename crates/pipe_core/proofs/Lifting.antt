-- What a pipe keeps, opened into its parts and put together again; and what an answer says, whatever the stage.
use Rattle.std.proofs.Common.{◌≡◌, ◌⊎◌, ℕ, ◌+◌, ◌<◌, Bool, true, false, length, Some, Result, Ok, Err, inl, inr, refl, sym, ap, ◌∙◌}
use Rattle.stage_parts.specs.Moves.{moved}
use Rattle.stage_parts.specs.Gathering.{IsGathered}
use Rattle.stage_parts.proofs.Gathering.{gathering_law}
use Rattle.play_format.specs.Plays.{Script}
use Rattle.stage_parts.specs.declared.answers.Did.{Did}
use Rattle.stage_parts.specs.declared.answers.Did.TheVariants as did
use Rattle.stage_parts.specs.declared.answers.StageError.{StageError}
use Rattle.stage_parts.specs.declared.answers.StageError.TheVariants as error
use Rattle.stage_parts.specs.Answers.{is_over, Placed, PassesOn}
use Rattle.pf_history.specs.Logs.{Log}
use Rattle.pf_scene.specs.Scenes.{SceneState}
use Rattle.frame_stages.specs.Looks.{FoundMark}
use Rattle.frame_stages.specs.DbaseWorks.{DbaseWork}
use Rattle.frame_stages.specs.DbaseAnswers.{Known, IsDbaseAnswer}
use Rattle.pipe_core.specs.declared.events.Event.{Event}
use Rattle.pipe_plays.specs.Plays.{setup_of}
use Rattle.pipe_core.specs.Cores.{CoreState, CoreFits, one_seat}
use Rattle.pipe_core.specs.Waits.{IsOver, MustWait}
use Rattle.pipe_core.specs.Pipes.{Answers}

pub opened : (play : Script) (ahead : ℕ) (s : CoreState) → CoreFits play ahead s → IsGathered (setup_of play ahead) play.dbase one_seat s.pipe
opened play ahead s fits = (gathering_law (setup_of play ahead) play.dbase one_seat s.pipe).gathered fits.pipe

-- Over

-- a look over a scene of one thread found its stop mark
pub found_mark : (log : Log) (scene : SceneState) (over : Bool) → FoundMark 0 log (Some scene) over → over ≡ scene.shared.stopped
found_mark log scene over found = found.1.2 ∙ ap (λ (x : SceneState). x.shared.stopped) (sym found.1.4)

-- a stage is over where it has ended or the stop mark is set, and only there
pub over_is : (ended stopped : Bool) (result : Result Did StageError) → (ended ≡ true → result ≡ Ok did.Over) →
    (ended ≡ false → is_over result ≡ stopped) → (ended ≡ true) ⊎ (stopped ≡ true) → is_over result ≡ true
over_is true stopped result is looked over = ap is_over (is refl)
over_is false stopped result is looked (inl ended) = absurd (cc)
over_is false stopped result is looked (inr set) = looked refl ∙ set

pub is_over_of : (ended stopped : Bool) (result : Result Did StageError) → (ended ≡ false → is_over result ≡ stopped) →
    is_over result ≡ true → (ended ≡ true) ⊎ (stopped ≡ true)
is_over_of true stopped result looked over = inl refl
is_over_of false stopped result looked over = inr (sym (looked refl) ∙ over)

pub not_over : (result : Result Did StageError) (P : Type 0) → (P → is_over result ≡ true) → is_over result ≡ false → P → ⊥
not_over result P over is p = absurd (let clash : true ≡ false = sym (over p) ∙ is in cc)

-- a stage that passes packets on never fails
pub passes_whole : {X : Type 0} (result : Result Did StageError) (before after : Placed X) (wait : Type 0) → PassesOn result before after wait →
    result ≡ Err error.FrameFault → ⊥
passes_whole (Ok d) before after wait h is = absurd (cc)
passes_whole (Err e) before after wait h is = h

-- nor does DBASE meet a fault of the frame sink
pub base_whole : (number : ℕ) (result : Result Did StageError) (before after : DbaseWork) (known knows : Known) →
    IsDbaseAnswer number result before after known knows → result ≡ Err error.FrameFault → ⊥
base_whole number (Ok d) before after known knows h is = absurd (cc)
base_whole number (Err error.NoMemory) before after known knows h is = absurd (cc)
base_whole number (Err error.FrameFault) before after known knows h is = h

-- What the answer of a stage that passes packets on says of the core.
pub passes_answer : {X : Type 0} (play : Script) (ahead : ℕ) (e : Event) (s t : CoreState) (result : Result Did StageError) (before after : Placed X) (wait : Type 0) →
    PassesOn result before after wait → (after ≡ before → t ≡ s) →
    (length after.taken + length after.sent ≡ length before.taken + length before.sent + 1 → moved s.pipe < moved t.pipe) →
    t.stopped ≡ s.stopped → (IsOver play e s → is_over result ≡ true) → (is_over result ≡ true → IsOver play e s) →
    (wait → MustWait play ahead e s) → Answers play ahead e result s t
passes_answer play ahead e s t (Ok did.Did) before after wait h same moves mark over is waits =
    record { alive = not_over (Ok did.Did) (IsOver play e s) over refl; moves = moves h; mark = mark }
passes_answer play ahead e s t (Ok did.NotYet) before after wait h same moves mark over is waits =
    (same h.0, not_over (Ok did.NotYet) (IsOver play e s) over refl, waits h.1)
passes_answer play ahead e s t (Ok did.Over) before after wait h same moves mark over is waits = (same h, is refl)
passes_answer play ahead e s t (Err error) before after wait h same moves mark over is waits = absurd h
