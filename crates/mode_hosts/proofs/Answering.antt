-- A poll of a stage, alone, that answers NotYet finds it waiting, and one that answers Over finds it over.
use Rattle.std.proofs.Common.{◌≡◌, ◌⊎◌, ℕ, Bool, true, false, Some, Result, Ok, inl, inr, refl, sym, ap, ◌∙◌, subst}
use Rattle.std.proofs.lemmas.Option.{same_Some}
use Rattle.pf_history.specs.Logs.{Log}
use Rattle.pf_scene.specs.Scenes.{SceneState}
use Rattle.stage_parts.specs.declared.answers.Did.{Did}
use Rattle.stage_parts.specs.declared.answers.Did.TheVariants as did
use Rattle.stage_parts.specs.declared.answers.StageError.{StageError}
use Rattle.stage_parts.specs.Answers.{is_over}
use Rattle.frame_stages.specs.Looks.{FoundMark}
use Rattle.frame_stages.specs.AppWorks.{is_done}
use Rattle.frame_stages.specs.AppAnswers.{AppWaits}
use Rattle.frame_stages.specs.DbaseWorks.{is_ended}
use Rattle.frame_stages.specs.DbaseAnswers.{HasToWait}
use Rattle.mode_hosts.specs.Waits.{Stage, App, Cull, Draw, Dbase, System, IsDone, IsOver, MustWait, app_ends}
use Rattle.mode_hosts.specs.Polls.{desk_number, seen_by, IsPoll}
use Rattle.mode_hosts.specs.Laws.{AnswerLaw}

is_true : (b : Bool) → (b ≡ true) ⊎ (b ≡ true → ⊥)
is_true true = inl refl
is_true false = inr (λ clash. cc)

done_or_not : (stage : Stage) (s : System) → IsDone stage s ⊎ (IsDone stage s → ⊥)
done_or_not App s = is_true (is_done s.sites.app.work.state)
done_or_not Cull s = is_true s.sites.cull.work.ended
done_or_not Draw s = is_true s.sites.draw.work.state.ended
done_or_not Dbase s = is_true (is_ended s.sites.dbase.work.rest)

found_mark : (number : ℕ) (seen : Log) (scene : SceneState) (over : Bool) → FoundMark number seen (Some scene) over → over ≡ scene.shared.stopped
found_mark number seen scene over (seen', saw) = saw.2 ∙ ap (λ (x : SceneState). x.shared.stopped) (sym saw.4)

waits : (ahead : ℕ) (stage : Stage) (s t : System) → IsPoll ahead stage (Ok did.NotYet) s t → (IsDone stage s → ⊥) → MustWait ahead stage s
waits ahead App s t answer alive =
    let same = same_Some t.scene s.scene answer.says.answer.0.told in
    let seen = answer.seen alive ∙ ap (λ (x : SceneState). x.shared.log) same in
    subst (λ (log : Log). AppWaits s.sites.app.work (Some s.scene) (app_ends ahead s) log) seen answer.says.answer.1
waits ahead Cull s t answer alive = answer.says.0.1
waits ahead Draw s t answer alive = answer.says.0.1
waits ahead Dbase s t answer alive =
    let same = same_Some t.scene s.scene answer.says.1.told in
    let seen = answer.seen alive ∙ ap (λ (x : SceneState). x.shared.log) same in
    subst (λ (log : Log). HasToWait s.sites.dbase.work.rest s.sites.dbase.work.hand log) seen answer.says.2

-- a poll that answers NotYet found its stage not done, and not over
not_done : (ahead : ℕ) (stage : Stage) (s t : System) → IsPoll ahead stage (Ok did.NotYet) s t → IsDone stage s → ⊥
not_done ahead stage s t answer done = let clash : is_over (Ok did.NotYet) ≡ true = ap is_over (answer.done done) in cc

not_over : (ahead : ℕ) (stage : Stage) (s t : System) → IsPoll ahead stage (Ok did.NotYet) s t → IsOver stage s → ⊥
not_over ahead stage s t answer (inl done) = not_done ahead stage s t answer done
not_over ahead stage s t answer (inr set) =
    let clash : false ≡ true =
    found_mark (desk_number stage) (seen_by stage s) s.scene false (answer.looked (not_done ahead stage s t answer)) ∙ set in
    cc

over : (ahead : ℕ) (stage : Stage) (s t : System) → IsPoll ahead stage (Ok did.Over) s t → IsOver stage s
over ahead stage s t answer = elim (done_or_not stage s) [
  | inl done ↦ inl done
  | inr alive ↦ inr (sym (found_mark (desk_number stage) (seen_by stage s) s.scene true (answer.looked alive)))
]

pub answer_law : AnswerLaw
answer_law ahead stage result s t answer =
    record {
      waits = λ is.
          let not_yet = subst (λ (r : Result Did StageError). IsPoll ahead stage r s t) is answer in
          (not_over ahead stage s t not_yet, waits ahead stage s t not_yet (not_done ahead stage s t not_yet));
      over = λ is. over ahead stage s t (subst (λ (r : Result Did StageError). IsPoll ahead stage r s t) is answer);
    }
