-- Rounds of a play, and what it leaves at their end.
use Rattle.std.proofs.Common.{◌≡◌, ◌⊎◌, ℕ, suc, zero, ◌+◌, ◌*◌, ◌≤◌, Bool, true, false, List, [], ◌∷◌, ◌++◌, take, Option, Some, None, Result, Ok, Err, OnOk, inl, inr, refl, sym, ap, ◌∙◌, subst, arith}
use Rattle.std.specs.List.{AllByRecursion}
use Rattle.std.specs.Io.KnownBytes.{append_known}
use Rattle.pf_history.specs.Logs.{Log}
use Rattle.draw_list.specs.declared.stats.Stats.{Stats}
use Rattle.play_format.specs.Plays.{Script}
use Rattle.play_check.specs.Stuck.{IsStuck}
use Rattle.stage_parts.specs.declared.answers.Did.{Did}
use Rattle.stage_parts.specs.declared.answers.Did.TheVariants as did
use Rattle.stage_parts.specs.declared.answers.StageError.{StageError}
use Rattle.stage_parts.specs.Moves.{moved}
use Rattle.stage_parts.specs.Pictures.{pictures, streamed}
use Rattle.pipe_plays.specs.declared.played.PlayEnd.{PlayEnd}
use Rattle.pipe_plays.specs.Plays.{CanRun}
use Rattle.pipe_plays.specs.Played.{end_of, StaysWhole, LeavesPipe}
use Rattle.pipe_plays.specs.Laws.{ShownLaw}
use Rattle.pipe_plays.proofs.Ended.{done_only, uncut}
use Rattle.pipe_core.specs.declared.events.Event.{Event}
use Rattle.pipe_core.specs.declared.events.Event.TheVariants as event
use Rattle.pipe_core.specs.Cores.{CoreState, CoreFits, HasEnded, HaveAllEnded, one_seat}
use Rattle.pipe_core.specs.Waits.{IsOver}
use Rattle.pipe_core.specs.Runs.{HasMoved, Rests, Ran, rounds}
use Rattle.pipe_core.specs.Laws.{steps_in}
use Rattle.pipe_core.specs.Pipes.{PipeWork, core_of, PipeKeeps, Lifted, IsWritten}
use Rattle.pipe_core.specs.Hosts.{all_events, GoesOn, ArePolled, HasPlayed}
use Rattle.pipe_core.proofs.Running.{bound, run_law, stay_ended}
use Rattle.pipe_core.proofs.Openings.{ran_more, steps_on, nothing_written, written_more}

-- A pipe goes on

pub not_gone : (play : Script) (ahead : ℕ) (p : PipeWork) (bytes : Option (List ℕ)) → PipeKeeps play ahead p → GoesOn play ahead p p bytes bytes
not_gone play ahead p bytes keeps =
    record { keeps = keeps; told = refl; wrote = nothing_written bytes (core_of play p) (core_of play p) refl }

pub gone_on : (play : Script) (ahead : ℕ) (p q r : PipeWork) (a b c : Option (List ℕ)) → GoesOn play ahead p q a b → GoesOn play ahead q r b c →
    GoesOn play ahead p r a c
gone_on play ahead p q r a b c first second =
    record {
      keeps = second.keeps;
      told = second.told ∙ first.told;
      wrote = written_more a b c (core_of play p) (core_of play q) (core_of play r) first.wrote second.wrote;
    }

pub stepped : (play : Script) (ahead : ℕ) (e : Event) (result : Result Did StageError) (p q : PipeWork) (a b : Option (List ℕ)) →
    Lifted play ahead e result p q → IsWritten a b (core_of play p) (core_of play q) → GoesOn play ahead p q a b
stepped play ahead e result p q a b lifted wrote = record { keeps = lifted.keeps; told = lifted.told; wrote = wrote }

-- Polls in order

all_more : {X : Type 0} (P : X → Type 0) (xs : List X) (x : X) → AllByRecursion P xs → P x → AllByRecursion P (xs ++ x ∷ [])
all_more P [] x all here = (here, tt)
all_more P (y ∷ ys) x all here = (all.0, all_more P ys x all.1 here)

pub not_polled : (play : Script) (ahead : ℕ) (s : CoreState) → ArePolled play ahead [] true s s
not_polled play ahead s = record { ran = refl; found = λ _. tt }

-- one poll more, and whether all found their stages over
pub polled_more : (play : Script) (ahead : ℕ) (es : List Event) (e : Event) (d : Did) (over over' : Bool) (s : CoreState) (p q : PipeWork) →
    ArePolled play ahead es over s (core_of play p) → Lifted play ahead e (Ok d) p q →
    (over' ≡ true → (over ≡ true) × (d ≡ did.Over)) → ArePolled play ahead (es ++ e ∷ []) over' s (core_of play q)
polled_more play ahead es e d over over' s p q polled lifted both =
    record {
      ran = ran_more play ahead es e s (core_of play p) (core_of play q) polled.ran (steps_on play ahead e d p q lifted);
      found = λ is. by d (both is).1 lifted (polled.found (both is).0);
    }
  where
    by : (d : Did) → d ≡ did.Over → Lifted play ahead e (Ok d) p q → AllByRecursion (λ k. IsOver play k (core_of play p)) es →
        AllByRecursion (λ k. IsOver play k (core_of play q)) (es ++ e ∷ [])
    by did.Over is lifted before =
        subst (λ (t : CoreState). AllByRecursion (λ k. IsOver play k t) (es ++ e ∷ [])) (sym lifted.answer.0)
        (all_more (λ k. IsOver play k (core_of play p)) es e before lifted.answer.1)
    by did.Did is lifted before = absurd (let clash : did.Did ≡ did.Over = is in cc)
    by did.NotYet is lifted before = absurd (let clash : did.NotYet ≡ did.Over = is in cc)

-- Rounds

-- events that answer no error leave the stop mark
still_unset : (play : Script) (ahead : ℕ) (es : List Event) (s t : CoreState) → Ran play ahead es s t → t.stopped ≡ s.stopped
still_unset play ahead [] s t ran = ap (λ (u : CoreState). u.stopped) ran
still_unset play ahead (e ∷ es) s t ran = still_unset play ahead es ran.0 t ran.2 ∙ by ran.1.step
  where
    by : HasMoved play e s ran.0 ⊎ Rests play ahead e s ran.0 → ran.0.stopped ≡ s.stopped
    by (inl moves) = moves.mark
    by (inr rests) = ap (λ (u : CoreState). u.stopped) rests.same

-- where no stop mark is set and all are over, all have ended
over_ended : (play : Script) (s : CoreState) → s.stopped ≡ false → AllByRecursion (λ e. IsOver play e s) all_events → HaveAllEnded play s.pipe
over_ended play s unset over = each
  where
    by : (e : Event) → IsOver play e s → HasEnded play e s.pipe
    by e (inl ended) = ended
    by e (inr set) = absurd (let clash : false ≡ true = sym unset ∙ set in cc)

    each : (e : Event) → HasEnded play e s.pipe
    each event.App = by event.App over.0
    each event.Cull = by event.Cull over.1.0
    each event.Draw = by event.Draw over.1.1.0
    each event.Dbase = by event.Dbase over.1.1.1.0

pub not_played : (play : Script) (s : CoreState) → s.stopped ≡ false → HasPlayed play 0 s
not_played play s unset = record { unset = unset; gone = inr (omega arith) }

-- one round more
pub played_more : (play : Script) (ahead n : ℕ) (over : Bool) (s t : CoreState) → CanRun play ahead → (IsStuck play.app play.dbase → ⊥) →
    CoreFits play ahead s → HasPlayed play n s → ArePolled play ahead all_events over s t → HasPlayed play (n + 1) t
played_more play ahead n over s t can free fits played polled =
    record { unset = still_unset play ahead all_events s t polled.ran ∙ played.unset; gone = by played.gone }
  where
    one : rounds all_events ≡ 1
    one = refl

    further : n ≤ moved s.pipe → HaveAllEnded play t.pipe ⊎ (rounds all_events + moved s.pipe ≤ moved t.pipe) →
        HaveAllEnded play t.pipe ⊎ (n + 1 ≤ moved t.pipe)
    further least (inl all) = inl all
    further least (inr more) = inr (omega (arith, one, least, more))

    by : HaveAllEnded play s.pipe ⊎ (n ≤ moved s.pipe) → HaveAllEnded play t.pipe ⊎ (n + 1 ≤ moved t.pipe)
    by (inl all) = inl (stay_ended play ahead all_events s t all polled.ran)
    by (inr least) = further least (run_law play ahead all_events s t can free fits played.unset polled.ran).each_part

-- a round in which all are over
pub ended_round : (play : Script) (ahead n : ℕ) (over : Bool) (s t : CoreState) → HasPlayed play n s → ArePolled play ahead all_events over s t →
    over ≡ true → HaveAllEnded play t.pipe
ended_round play ahead n over s t played polled is =
    over_ended play t (still_unset play ahead all_events s t polled.ran ∙ played.unset) (polled.found is)

-- enough rounds end all stages
pub ended_rounds : (play : Script) (ahead n : ℕ) (s : CoreState) → CoreFits play ahead s → HasPlayed play n s → 16 * (steps_in play + 1) ≤ n →
    HaveAllEnded play s.pipe
ended_rounds play ahead n s fits played enough = by played.gone
  where
    by : HaveAllEnded play s.pipe ⊎ (n ≤ moved s.pipe) → HaveAllEnded play s.pipe
    by (inl all) = all
    by (inr least) = let most = bound play ahead s fits in absurd (omega (arith, enough, least, most))

-- what holds in any case holds of an answer without an error
pub on_ok : {A : Type 0} (result : Result A StageError) (P : Type 0) → P → OnOk result P
on_ok (Ok x) P h = h
on_ok (Err e) P h = tt

-- What is left

abbrev no_bytes : List ℕ
no_bytes = []

take_none : (n : ℕ) → take n no_bytes ≡ no_bytes
take_none zero = refl
take_none (suc n) = refl

nothing_streamed : (b : ℕ) (fault : Option ℕ) → streamed b fault [] ≡ []
nothing_streamed zero None = refl
nothing_streamed (suc b) None = refl
nothing_streamed zero (Some n) = take_none n
nothing_streamed (suc b) (Some n) = take_none n

-- before the first entry no byte is written
opens_empty : ShownLaw → (play : Script) (ahead : ℕ) (p : PipeWork) → CanRun play ahead → PipeKeeps play ahead p → p.scene.shared.log ≡ [] →
    (core_of play p).pipe.stream ≡ []
opens_empty law play ahead p can keeps log =
    let shown = (law play ahead one_seat (core_of play p).pipe can keeps.core.pipe).now.shows in
    let a = p.app.state in
    shown.front
    ∙ ap (λ (l : Log). streamed a.written a.fault (pictures play.channels play.lens play.back l)) log
    ∙ nothing_streamed a.written a.fault

-- the frame sink was given the stream
gives_stream : ShownLaw → (play : Script) (ahead : ℕ) (p q : PipeWork) (bytes bytes' : Option (List ℕ)) → CanRun play ahead → PipeKeeps play ahead p →
    p.scene.shared.log ≡ [] → GoesOn play ahead p q bytes bytes' → bytes' ≡ append_known bytes (core_of play q).pipe.stream
gives_stream law play ahead p q bytes bytes' can keeps log goes =
    let more = goes.wrote.more in
    let all : (core_of play q).pipe.stream ≡ more =
    goes.wrote.stream ∙ ap (λ (l : List ℕ). l ++ more) (opens_empty law play ahead p can keeps log) in
    goes.wrote.wrote ∙ ap (append_known bytes) (sym all)

-- what a play leaves that came to this
pub leaves_pipe : {A : Type 0} → ShownLaw → (play : Script) (ahead : ℕ) (p q : PipeWork) (came : Result A StageError) (bytes bytes' : Option (List ℕ))
    (end : PlayEnd) (log : Log) (stats : List Stats) → CanRun play ahead → PipeKeeps play ahead p → p.scene.shared.log ≡ [] →
    p.app.state.fault ≡ None → GoesOn play ahead p q bytes bytes' → StaysWhole came p.app.state.fault q.app.state.fault →
    OnOk came (HaveAllEnded play (core_of play q).pipe) → end ≡ end_of came → log ≡ q.scene.shared.log → stats ≡ q.app.state.stats →
    LeavesPipe play ahead one_seat end log stats bytes bytes'
leaves_pipe law play ahead p q came bytes bytes' end log stats can keeps none whole goes uncut_now ended is_end is_log is_stats =
    record {
      pipe = (core_of play q).pipe;
      fits = goes.keeps.core.pipe;
      history = sym is_log;
      numbers = sym is_stats;
      stream = gives_stream law play ahead p q bytes bytes' can keeps none goes;
      cut = uncut came end q.app.state.fault (subst (λ (f : Option ℕ). StaysWhole came f q.app.state.fault) whole uncut_now) is_end;
      done = λ is.
          let all = done_only came (HaveAllEnded play (core_of play q).pipe) ended (sym is_end ∙ is) in
          record { app = all event.App; dbase = all event.Dbase };
    }
