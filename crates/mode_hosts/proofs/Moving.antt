-- What a poll that did something makes of the scene and of the marks of failure.
use Rattle.std.proofs.Common.{◌≡◌, ◌⊎◌, ℕ, true, [], ◌∷◌, ◌++◌, Some, Result, Ok, Err, inl, inr, refl, sym, ap, ◌∙◌, subst}
use Rattle.std.proofs.lemmas.Option.{same_Some}
use Rattle.seat_lock.specs.Log.{Adds}
use Rattle.pf_model.specs.declared.lines.BaseStep.{BaseStep}
use Rattle.pf_model.specs.declared.lines.BaseStep.TheVariants as base
use Rattle.pf_history.specs.declared.commands.Command.TheVariants as command
use Rattle.pf_history.specs.declared.commands.Merge.{Merge}
use Rattle.pf_history.specs.Laws.{own_entry}
use Rattle.pf_scene.specs.Scenes.{Shared, SceneState, entered}
use Rattle.pf_scene.specs.Acts.{seated}
use Rattle.stage_parts.specs.declared.answers.Did.{Did}
use Rattle.stage_parts.specs.declared.answers.Did.TheVariants as did
use Rattle.stage_parts.specs.declared.answers.StageError.{StageError}
use Rattle.stage_parts.specs.declared.answers.StageError.TheVariants as error
use Rattle.frame_stages.specs.AppWorks.{AppWork}
use Rattle.frame_stages.specs.AppTurns.{Tells, IsMarked}
use Rattle.frame_stages.specs.AppAnswers.{AppAnswers, IsLonger}
use Rattle.frame_stages.specs.declared.in_hand.InHand.{InHand}
use Rattle.frame_stages.specs.DbaseWorks.{DbaseWork}
use Rattle.frame_stages.specs.DbaseAnswers.{EntersMerge, DoesAt, SetsMark, IsDbaseAnswer}
use Rattle.mode_hosts.specs.Sites.{Site, DbaseSite}
use Rattle.mode_hosts.specs.Waits.{Stage, App, Cull, Draw, Dbase, System, IsDone}
use Rattle.mode_hosts.specs.Polls.{desk_number, around_app, known_to_dbase, IsPoll, IsOfDoing}

-- The history has one entry more of the number k, or none; the stop mark stays where it was set, and the numbers of the scene stay.
pub record Grows (k : ℕ) (old new : Shared) : Type 0 where
  pub adds : Adds k old.log new.log
  pub ahead : new.ahead ≡ old.ahead
  pub channels : new.channels ≡ old.channels
  pub stopped : old.stopped ≡ true → new.stopped ≡ true

stays : (k : ℕ) (old new : SceneState) → new ≡ old → Grows k old.shared new.shared
stays k old new same =
    record {
      adds = inl (ap (λ (x : SceneState). x.shared.log) same);
      ahead = ap (λ (x : SceneState). x.shared.ahead) same;
      channels = ap (λ (x : SceneState). x.shared.channels) same;
      stopped = λ set. ap (λ (x : SceneState). x.shared.stopped) same ∙ set;
    }

marked : (k : ℕ) (old new : Shared) → IsMarked old new → Grows k old new
marked k old new marks =
    record { adds = inl marks.log; ahead = marks.ahead; channels = marks.channels; stopped = λ set. marks.stopped }

longer : (k : ℕ) (old new : Shared) → IsLonger k old new → Grows k old new
longer k old new more =
    record {
      adds = inr (more.entry, more.log);
      ahead = more.ahead;
      channels = more.channels;
      stopped = λ set. more.stopped ∙ set;
    }

-- the scene that was left is told
told_left : (P : Shared → Shared → Type 0) (old new : SceneState) → Tells P (Some old) (Some new) → P old.shared new.shared
told_left P old new tells = subst (λ (x : SceneState). P old.shared x.shared) (sym (same_Some new tells.0 tells.1)) tells.2

app_grows : (ahead : ℕ) (result : Result Did StageError) (s t : System) →
    AppAnswers result 0 s.sites.app.work t.sites.app.work (around_app ahead s) (around_app ahead t) → Grows 0 s.scene.shared t.scene.shared
app_grows ahead (Ok did.Did) s t (inl sends) = stays 0 s.scene t.scene (same_Some t.scene s.scene sends.told)
app_grows ahead (Ok did.Did) s t (inr (inl takes)) = stays 0 s.scene t.scene (same_Some t.scene s.scene takes.told)
app_grows ahead (Ok did.Did) s t (inr (inr (inl passes))) = stays 0 s.scene t.scene (same_Some t.scene s.scene passes.told)
app_grows ahead (Ok did.Did) s t (inr (inr (inr makes))) =
    longer 0 s.scene.shared t.scene.shared (told_left (IsLonger 0) s.scene t.scene makes.told)
app_grows ahead (Ok did.NotYet) s t answer = stays 0 s.scene t.scene (same_Some t.scene s.scene answer.0.told)
app_grows ahead (Ok did.Over) s t answer = stays 0 s.scene t.scene (same_Some t.scene s.scene answer.told)
app_grows ahead (Err error.FrameFault) s t answer = marked 0 s.scene.shared t.scene.shared (told_left IsMarked s.scene t.scene answer.told)
app_grows ahead (Err error.NoMemory) s t answer = marked 0 s.scene.shared t.scene.shared (told_left IsMarked s.scene t.scene answer.told)

merged : (s t : System) (m : Merge) → EntersMerge 3 m (known_to_dbase s) (known_to_dbase t) → Grows 3 s.scene.shared t.scene.shared
merged s t m enters =
    let left : enters.left ≡ t.scene = same_Some enters.left t.scene (sym enters.told.1) in
    let found : enters.scene ≡ s.scene = sym enters.told.0 in
    let shared = ap (λ (x : SceneState). x.shared) (sym left) ∙ enters.enters.shared
    ∙ ap (λ (x : SceneState). entered (command.Merge m) (seated 3 x.shared)) found in
    let log : t.scene.shared.log ≡ s.scene.shared.log ++ own_entry s.scene.shared.channels s.scene.shared.log 3 (command.Merge m) ∷ [] =
    ap (λ (x : Shared). x.log) shared in
    record {
      adds = inr ((own_entry s.scene.shared.channels s.scene.shared.log 3 (command.Merge m)).1, log);
      ahead = ap (λ (x : Shared). x.ahead) shared;
      channels = ap (λ (x : Shared). x.channels) shared;
      stopped = λ set. ap (λ (x : Shared). x.stopped) shared ∙ set;
    }

stepped : (s t : System) (step : BaseStep) (held : InHand) → DoesAt 3 step held (known_to_dbase s) (known_to_dbase t) →
    Grows 3 s.scene.shared t.scene.shared
stepped s t (base.Await n) held does = stays 3 s.scene t.scene (same_Some t.scene s.scene does.0.told)
stepped s t base.Merge held does = merged s t does.0 does.2
stepped s t base.Buffer held does = stays 3 s.scene t.scene (same_Some t.scene s.scene does.told)
stepped s t (base.Edit e) held does = stays 3 s.scene t.scene (same_Some t.scene s.scene does.told)
stepped s t (base.Ask e) held does = stays 3 s.scene t.scene (same_Some t.scene s.scene does.told)

-- the stop mark was set
set_mark : (s t : System) → SetsMark (Some s.scene) (Some t.scene) → (t.scene.shared ≡ record s.scene.shared { seat = t.scene.shared.seat; stopped = true })
set_mark s t (new, is, shared) =
    subst (λ (x : SceneState). x.shared ≡ record s.scene.shared { seat = x.shared.seat; stopped = true }) (sym (same_Some t.scene new is)) shared

set_grows : (k : ℕ) (old new : Shared) → new ≡ record old { seat = new.seat; stopped = true } → Grows k old new
set_grows k old new is =
    record {
      adds = inl (ap (λ (x : Shared). x.log) is);
      ahead = ap (λ (x : Shared). x.ahead) is;
      channels = ap (λ (x : Shared). x.channels) is;
      stopped = λ set. ap (λ (x : Shared). x.stopped) is;
    }

base_grows : (result : Result Did StageError) (s t : System) →
    IsDbaseAnswer 3 result s.sites.dbase.work t.sites.dbase.work (known_to_dbase s) (known_to_dbase t) → Grows 3 s.scene.shared t.scene.shared
base_grows (Ok did.Did) s t (l, passes, does) = stepped s t l.step s.sites.dbase.work.hand does
base_grows (Ok did.NotYet) s t (same, adds, waits) = stays 3 s.scene t.scene (same_Some t.scene s.scene adds.told)
base_grows (Ok did.Over) s t (same, adds) = stays 3 s.scene t.scene (same_Some t.scene s.scene adds.told)
base_grows (Err error.NoMemory) s t (gives, found, marks) = set_grows 3 s.scene.shared t.scene.shared (set_mark s t marks)
base_grows (Err error.FrameFault) s t answer = absurd answer

-- what a poll makes of the scene
pub grows : (ahead : ℕ) (stage : Stage) (result : Result Did StageError) (s t : System) → IsPoll ahead stage result s t →
    Grows (desk_number stage) s.scene.shared t.scene.shared
grows ahead App result s t poll = app_grows ahead result s t poll.says.answer
grows ahead Cull result s t poll = stays 1 s.scene t.scene poll.says.1
grows ahead Draw result s t poll = stays 2 s.scene t.scene poll.says.1
grows ahead Dbase result s t poll = base_grows result s t poll.says

-- A fault of the frame sink, and want of memory of DBASE, set the stop mark

fault_marks : (ahead : ℕ) (result : Result Did StageError) (s t : System) → IsPoll ahead App result s t →
    (t.sites.app.work.state.fault ≡ s.sites.app.work.state.fault) ⊎ (t.scene.shared.stopped ≡ true)
fault_marks ahead (Ok d) s t poll = inl (poll.says.whole refl)
fault_marks ahead (Err error.NoMemory) s t poll = inl (poll.says.whole refl)
fault_marks ahead (Err error.FrameFault) s t poll = inr (told_left IsMarked s.scene t.scene poll.says.answer.told).stopped

fail_marks : (ahead : ℕ) (result : Result Did StageError) (s t : System) → IsPoll ahead Dbase result s t →
    (t.sites.dbase.work.failed ≡ s.sites.dbase.work.failed) ⊎ (t.scene.shared.stopped ≡ true)
fail_marks ahead result s t poll = by result poll.says
  where
    by : (result : Result Did StageError) →
        IsDbaseAnswer 3 result s.sites.dbase.work t.sites.dbase.work (known_to_dbase s) (known_to_dbase t) →
        (t.sites.dbase.work.failed ≡ s.sites.dbase.work.failed) ⊎ (t.scene.shared.stopped ≡ true)
    by (Ok did.Did) (l, passes, does) = inl (passes.runs ∙ sym passes.running)
    by (Ok did.NotYet) (same, adds, waits) = inl (ap (λ (x : DbaseWork). x.failed) same)
    by (Ok did.Over) (same, adds) = inl (ap (λ (x : DbaseWork). x.failed) same)
    by (Err error.NoMemory) (gives, found, marks) = inr (ap (λ (x : Shared). x.stopped) (set_mark s t marks))
    by (Err error.FrameFault) answer = absurd answer

pub faulted : (ahead : ℕ) (stage : Stage) (result : Result Did StageError) (s t : System) → IsPoll ahead stage result s t →
    (t.sites.app.work.state.fault ≡ s.sites.app.work.state.fault) ⊎ (t.scene.shared.stopped ≡ true)
faulted ahead App result s t poll = fault_marks ahead result s t poll
faulted ahead Cull result s t poll = inl (ap (λ (x : Site AppWork). x.work.state.fault) (poll.others App (λ clash. cc)))
faulted ahead Draw result s t poll = inl (ap (λ (x : Site AppWork). x.work.state.fault) (poll.others App (λ clash. cc)))
faulted ahead Dbase result s t poll = inl (ap (λ (x : Site AppWork). x.work.state.fault) (poll.others App (λ clash. cc)))

pub failed : (ahead : ℕ) (stage : Stage) (result : Result Did StageError) (s t : System) → IsPoll ahead stage result s t →
    (t.sites.dbase.work.failed ≡ s.sites.dbase.work.failed) ⊎ (t.scene.shared.stopped ≡ true)
failed ahead Dbase result s t poll = fail_marks ahead result s t poll
failed ahead App result s t poll = inl (ap (λ (x : DbaseSite). x.work.failed) (poll.others Dbase (λ clash. cc)))
failed ahead Cull result s t poll = inl (ap (λ (x : DbaseSite). x.work.failed) (poll.others Dbase (λ clash. cc)))
failed ahead Draw result s t poll = inl (ap (λ (x : DbaseSite). x.work.failed) (poll.others Dbase (λ clash. cc)))

-- a stage whose poll did something was not done
pub alive : (ahead : ℕ) (stage : Stage) (result : Result Did StageError) (s t : System) → IsOfDoing result → IsPoll ahead stage result s t →
    IsDone stage s → ⊥
alive ahead stage result s t doing poll done = subst IsOfDoing (poll.done done) doing
