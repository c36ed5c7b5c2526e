-- A try to pass a line behind a look, as an answer of a poll; and what a look shows of the frames.
use Rattle.std.proofs.Common.{◌≡◌, inl, inr, ℕ, Bool, true, false, Option, Some, None, MatchOption, Result, refl, sym, ap, ◌∙◌, subst}
use Rattle.std.specs.Prelude.{Ok, Err}
use Rattle.seat_lock.specs.Log.{Found}
use Rattle.seat_lock.proofs.Logs.{found-trans}
use Rattle.pf_io.specs.declared.answers.NoMemory.{NoMemory}
use Rattle.pf_model.specs.declared.lines.BaseStep.{BaseStep}
use Rattle.pf_model.specs.declared.lines.BaseStep.TheVariants as base
use Rattle.pf_history.specs.declared.commands.Command.TheVariants as command
use Rattle.pf_history.specs.declared.commands.Merge.{Merge}
use Rattle.pf_history.specs.Logs.{Log, state_of, entry_of}
use Rattle.pf_history.proofs.Counting.{counts_law}
use Rattle.pf_scene.specs.declared.outcomes.Sight.{Sight}
use Rattle.pf_scene.specs.Scenes.{Shared, SceneState}
use Rattle.stage_parts.specs.declared.answers.Did.{Did}
use Rattle.stage_parts.specs.declared.answers.Did.TheVariants as did
use Rattle.stage_parts.specs.declared.answers.StageError.{StageError}
use Rattle.stage_parts.specs.declared.answers.StageError.TheVariants as error
use Rattle.frame_stages.specs.declared.in_hand.InHand.{InHand}
use Rattle.stage_parts.specs.Answers.{is_over, did_of}
use Rattle.frame_stages.specs.Looks.{log_of, Saw}
use Rattle.frame_stages.specs.DbaseWorks.{DbaseWork}
use Rattle.frame_stages.specs.DbaseAnswers.{Known, AddsNone, EntersMerge, DbaseAdds, Reseats, SetsMark, DoesAt, Tries, IsDbaseAnswer}

none_earlier : (number : ℕ) (k1 k2 k3 : Known) → AddsNone number k1 k2 → AddsNone number k2 k3 → AddsNone number k1 k3
none_earlier number k1 k2 k3 a b =
    record { found = found-trans number k1.seen k2.seen k3.seen a.found b.found; told = b.told ∙ a.told }

enters_earlier : (number : ℕ) (m : Merge) (k1 k2 k3 : Known) → AddsNone number k1 k2 → EntersMerge number m k2 k3 → EntersMerge number m k1 k3
enters_earlier number m k1 k2 k3 a e =
    record {
      scene = e.scene;
      left = e.left;
      found = found-trans number k1.seen k2.seen (log_of e.scene) a.found e.found;
      may = e.may;
      enters = e.enters;
      seen = e.seen;
      told = subst (λ (told : Option SceneState). MatchOption told (k3.told ≡ None) (λ value. (value ≡ e.scene) × (k3.told ≡ Some e.left))) a.told e.told;
    }

does_earlier : (number : ℕ) (s : BaseStep) (h : InHand) (k1 k2 k3 : Known) → AddsNone number k1 k2 → DoesAt number s h k2 k3 → DoesAt number s h k1 k3
does_earlier number base.Buffer h k1 k2 k3 a d = none_earlier number k1 k2 k3 a d
does_earlier number (base.Edit e) h k1 k2 k3 a d = none_earlier number k1 k2 k3 a d
does_earlier number (base.Ask e) h k1 k2 k3 a d = none_earlier number k1 k2 k3 a d
does_earlier number base.Merge h k1 k2 k3 a d = (d.0, d.1, enters_earlier number d.0 k1 k2 k3 a d.2)
does_earlier number (base.Await n) h k1 k2 k3 a d = (none_earlier number k1 k2 k3 a d.0, d.1)

-- a try behind a look, as an answer
pub tried : (number : ℕ) (moved : Bool) (w after : DbaseWork) (k1 k2 k3 : Known) → AddsNone number k1 k2 →
    Tries number (Ok moved) w after k2 k3 → IsDbaseAnswer number (Ok (did_of moved)) w after k1 k3
tried number true w after k1 k2 k3 a t = (t.0, t.1, does_earlier number t.0.step w.hand k1 k2 k3 a t.2)
tried number false w after k1 k2 k3 a t = (t.0, none_earlier number k1 k2 k3 a t.1, t.2)

marks_reseated : (a b c : Option SceneState) → Reseats a b → SetsMark b c → SetsMark a c
marks_reseated None b c r m = subst (λ (x : Option SceneState). SetsMark x c) r m
marks_reseated (Some x) b c r m =
    let n = subst (λ (y : Option SceneState). SetsMark y c) r.1 m in
    (n.0, n.1, n.2 ∙ ap (λ (s : Shared). record s { seat = n.0.shared.seat; stopped = true }) r.2)

-- a try that wanted memory, behind a look and before the stop mark is set, as an answer
pub wanted : (number : ℕ) (e : NoMemory) (w after : DbaseWork) (k1 k2 k3 k4 : Known) → AddsNone number k1 k2 →
    Tries number (Err e) w after k2 k3 → Found number k3.seen k4.seen → SetsMark k3.told k4.told →
    IsDbaseAnswer number (Err error.NoMemory) w after k1 k4
wanted number e w after k1 k2 k3 k4 a t found marks = (
  t.0,
  found-trans number k1.seen k2.seen k4.seen a.found (found-trans number k2.seen k3.seen k4.seen t.1 found),
  subst (λ (told : Option SceneState). SetsMark told k4.told) a.told (marks_reseated k2.told k3.told k4.told t.2 marks),
)

-- What a look shows

-- the frames begun, with however many channels
pub saw_frames : (number : ℕ) (seen : Log) (told : Option SceneState) (sight : Sight) (seen' : Log) → Saw number seen told sight seen' →
    (channels : ℕ) → sight.frames ≡ (state_of channels seen').frames
saw_frames number seen told sight seen' (scene, found, shows, is, tells) channels =
    shows.frames ∙ (counts_law scene.shared.channels (log_of scene)).frames ∙ sym (counts_law channels (log_of scene)).frames
    ∙ ap (λ (log : Log). (state_of channels log).frames) (sym is)

-- What an answer adds

-- a merge that was entered
merge_added : (number : ℕ) (m : Merge) (before after : Known) → EntersMerge number m before after → DbaseAdds number before.seen after.seen
merge_added number m before after e =
    let scene = e.scene.shared in
    record {
      found = scene.log;
      goes_on = e.found;
      adds = inr (entry_of (state_of scene.channels scene.log) (command.Merge m), m, refl, refl, e.seen ∙ ap (λ (s : Shared). s.log) e.enters.shared);
    }

pub none_added : (number : ℕ) (seen seen' : Log) → Found number seen seen' → DbaseAdds number seen seen'
none_added number seen seen' found = record { found = seen'; goes_on = found; adds = inl refl }

done_added : (number : ℕ) (s : BaseStep) (h : InHand) (before after : Known) → DoesAt number s h before after →
    DbaseAdds number before.seen after.seen
done_added number base.Buffer h before after d = none_added number before.seen after.seen d.found
done_added number (base.Edit e) h before after d = none_added number before.seen after.seen d.found
done_added number (base.Ask e) h before after d = none_added number before.seen after.seen d.found
done_added number base.Merge h before after d = merge_added number d.0 before after d.2
done_added number (base.Await n) h before after d = none_added number before.seen after.seen d.0.found

-- whatever is answered, at most one merge of its own is added
pub answer_added : (number : ℕ) (result : Result Did StageError) (w after : DbaseWork) (known knows : Known) →
    IsDbaseAnswer number result w after known knows → DbaseAdds number known.seen knows.seen
answer_added number (Ok did.Did) w after known knows a = done_added number a.0.step w.hand known knows a.2
answer_added number (Ok did.NotYet) w after known knows a = none_added number known.seen knows.seen a.1.found
answer_added number (Ok did.Over) w after known knows a = none_added number known.seen knows.seen a.1.found
answer_added number (Err error.NoMemory) w after known knows a = none_added number known.seen knows.seen a.1
answer_added number (Err error.FrameFault) w after known knows a = absurd a

-- a stage that tried to go on was not over
pub not_over : (moved : Bool) → is_over (Ok (did_of moved)) ≡ false
not_over true = refl
not_over false = refl
