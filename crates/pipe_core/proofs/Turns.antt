-- The events of APP and DBASE, by what their polls say of the parts of the pipe before and after them.
use Rattle.std.proofs.Common.{◌≡◌, ℕ, ◌≤◌, true, false, List, Option, Some, Result, Ok, Err, inl, inr, refl, sym, ap, subst}
use Rattle.pf_io.specs.Causes.{Rose, Calm}
use Rattle.std.proofs.lemmas.Option.{same_Some}
use Rattle.seat_lock.specs.Desk.{Looked}
use Rattle.pf_model.specs.declared.lines.BaseLine.{BaseLine}
use Rattle.pf_history.specs.Logs.{Log, IsLegal}
use Rattle.play_format.specs.Plays.{Script}
use Rattle.pf_scene.specs.Scenes.{SceneState, KeepsCopies}
use Rattle.stage_parts.specs.declared.packets.Packet.{Packet}
use Rattle.stage_parts.specs.Packets.{LinkPart}
use Rattle.stage_parts.specs.declared.answers.Did.{Did}
use Rattle.stage_parts.specs.declared.answers.Did.TheVariants as did
use Rattle.stage_parts.specs.declared.answers.StageError.{StageError}
use Rattle.stage_parts.specs.declared.answers.StageError.TheVariants as error
use Rattle.stage_parts.specs.Answers.{is_over}
use Rattle.frame_stages.specs.Looks.{log_of, FoundMark}
use Rattle.frame_stages.specs.Flights.{SinkSide}
use Rattle.frame_stages.specs.AppWorks.{AppWork, is_done}
use Rattle.frame_stages.specs.AppAnswers.{Ends, Around, AppAnswers, is_fault, Polled}
use Rattle.frame_stages.specs.DbaseWorks.{DbaseHolds, is_ended}
use Rattle.frame_stages.specs.DbaseAnswers.{IsDbaseAnswer}
use Rattle.pipe_plays.specs.Played.{StaysWhole}
use Rattle.pipe_core.specs.declared.events.Event.TheVariants as event
use Rattle.pipe_core.specs.Pipes.{PipeWork, PipeKeeps, Lifted, AppLifted}
use Rattle.pipe_core.proofs.AppLifts.{before_poll, after_poll, applied, app_lifts}
use Rattle.pipe_core.proofs.BaseLifts.{known, based, base_lifts}

-- What the answer of the application says of the frame sink.

-- an answer that is no fault leaves its count of faults
pub app_calm : (result : Result Did StageError) (k : ℕ) (old new : AppWork) (before after : Around) → AppAnswers result k old new before after →
    (result ≡ Err error.FrameFault → ⊥) → Calm before.ends.sink.faults after.ends.sink.faults
app_calm (Ok did.Did) k old new before after (inl sends) none = ap (λ (x : Ends). x.sink.faults) sends.ends
app_calm (Ok did.Did) k old new before after (inr (inl takes)) none = ap (λ (x : Ends). x.sink.faults) takes.ends
app_calm (Ok did.Did) k old new before after (inr (inr (inl passes))) none = ap (λ (x : Ends). x.sink.faults) passes.ends
app_calm (Ok did.Did) k old new before after (inr (inr (inr makes))) none = ap (λ (x : Ends). x.sink.faults) makes.ends
app_calm (Ok did.NotYet) k old new before after answer none = ap (λ (x : Ends). x.sink.faults) answer.0.ends
app_calm (Ok did.Over) k old new before after answer none = ap (λ (x : Ends). x.sink.faults) answer.ends
app_calm (Err error.NoMemory) k old new before after answer none = ap (λ (x : Ends). x.sink.faults) answer.ends
app_calm (Err error.FrameFault) k old new before after answer none = absurd (none refl)

-- only a fault of the sink cuts a picture short
pub app_uncut : (result : Result Did StageError) (before now : Option ℕ) → (is_fault result ≡ false → now ≡ before) → StaysWhole result before now
app_uncut (Ok did) before now same = same refl
app_uncut (Err error.NoMemory) before now same = same refl
app_uncut (Err error.FrameFault) before now same = tt

-- nothing was written after a fault
pub app_last : (result : Result Did StageError) (k : ℕ) (old new : AppWork) (before after : Around) → AppAnswers result k old new before after →
    result ≡ Err error.FrameFault → after.ends.sink.at_fault ≡ after.ends.sink.bytes
app_last (Ok d) k old new before after answer is = absurd (cc)
app_last (Err error.FrameFault) k old new before after answer is = answer.last
app_last (Err error.NoMemory) k old new before after answer is = absurd (cc)

-- a fault comes with one fault more
pub app_rose : (result : Result Did StageError) (k : ℕ) (old new : AppWork) (before after : Around) → AppAnswers result k old new before after →
    result ≡ Err error.FrameFault → Rose before.ends.sink.faults after.ends.sink.faults
app_rose (Ok d) k old new before after answer is = absurd (cc)
app_rose (Err error.FrameFault) k old new before after answer is = answer.rose
app_rose (Err error.NoMemory) k old new before after answer is = absurd (cc)

-- the scene keeps a legal history, as a look showed
pub record IsSeenLegal (scene : SceneState) : Type 0 where
  pub legal : IsLegal scene.shared.channels scene.shared.log

pub seen_legal : (seen seen' : Log) (scene : SceneState) (out : Unit {0}) →
    Looked log_of 0 (λ (x : SceneState) (_ : Unit {0}). IsLegal x.shared.channels x.shared.log) seen (Some scene) out seen' → IsSeenLegal scene
seen_legal seen seen' scene out looked =
    record { legal = subst (λ (x : SceneState). IsLegal x.shared.channels x.shared.log) (sym looked.4) looked.2 }

-- What a poll of the application says of the pipe.
pub record AppPolls (p q : PipeWork) (sink sink' : SinkSide) (result : Result Did StageError) : Type 0 where
  pub cull : q.cull ≡ p.cull
  pub draw : q.draw ≡ p.draw
  pub dbase : q.dbase ≡ p.dbase
  pub middle : q.b ≡ p.b
  pub link_a : LinkPart q.a.line.sent q.a.line.taken
  pub link_c : LinkPart q.c.line.sent q.c.line.taken
  pub send_room : q.a.room ≡ p.a.room
  pub told_taken : Some q.a.line.taken ≡ Some p.a.line.taken
  pub take_room : q.c.room ≡ p.c.room
  pub told_sent : Some q.c.line.sent ≡ Some p.c.line.sent
  pub legal : IsSeenLegal q.scene
  pub polled : Polled 0 result p.app q.app (before_poll p sink) (after_poll p q.scene q.a.line.sent q.c.line.taken sink')
  pub done : is_done p.app.state ≡ true → result ≡ Ok did.Over
  pub looked : is_done p.app.state ≡ false → FoundMark 0 p.scene.shared.log (Some p.scene) (is_over result)

pub app_polls : (play : Script) (ahead : ℕ) (p q : PipeWork) (sink sink' : SinkSide) (result : Result Did StageError) →
    AppPolls p q sink sink' result → 1 ≤ ahead → PipeKeeps play ahead p → AppLifted play ahead result p q sink.bytes sink'.bytes
app_polls play ahead p q sink sink' result polls some keeps =
    let taken = same_Some q.a.line.taken p.a.line.taken polls.told_taken in
    let sent = same_Some q.c.line.sent p.c.line.sent polls.told_sent in
    let path : applied p q.app q.scene q.a.line.sent q.c.line.taken ≡ q =
    λ i.
    record {
      app = q.app;
      cull = (sym polls.cull) i;
      draw = (sym polls.draw) i;
      dbase = (sym polls.dbase) i;
      scene = q.scene;
      a = record { room = (sym polls.send_room) i; line = record { sent = q.a.line.sent; taken = (sym taken) i } };
      b = (sym polls.middle) i;
      c = record { room = (sym polls.take_room) i; line = record { sent = (sym sent) i; taken = q.c.line.taken } };
    } in
    subst (λ (x : PipeWork). AppLifted play ahead result p x sink.bytes sink'.bytes) path
    (app_lifts play ahead p q.app q.scene q.a.line.sent q.c.line.taken sink sink' result some keeps polls.legal.legal
    (subst (λ (ps : List Packet). LinkPart q.a.line.sent ps) taken polls.link_a)
    (subst (λ (ps : List Packet). LinkPart ps q.c.line.taken) sent polls.link_c) polls.polled polls.done polls.looked)

-- What a poll of the database process says of the pipe.
pub record BasePolls (p q : PipeWork) (result : Result Did StageError) : Type 0 where
  pub app : q.app ≡ p.app
  pub cull : q.cull ≡ p.cull
  pub draw : q.draw ≡ p.draw
  pub first : q.a ≡ p.a
  pub middle : q.b ≡ p.b
  pub back : q.c ≡ p.c
  pub legal : IsSeenLegal q.scene
  pub part : (lines : List BaseLine) (channels : ℕ) → DbaseHolds lines channels 0 p.dbase p.scene.shared.log →
      DbaseHolds lines channels 0 q.dbase q.scene.shared.log
  pub answer : IsDbaseAnswer 0 result p.dbase q.dbase (known p.scene) (known q.scene)
  pub ended : is_ended p.dbase.rest ≡ true → result ≡ Ok did.Over
  pub looked : is_ended p.dbase.rest ≡ false → is_over result ≡ p.scene.shared.stopped
  pub counted : KeepsCopies p.scene → KeepsCopies q.scene

pub base_polls : (play : Script) (ahead : ℕ) (p q : PipeWork) (result : Result Did StageError) → BasePolls p q result → PipeKeeps play ahead p →
    Lifted play ahead event.Dbase result p q
base_polls play ahead p q result polls keeps =
    let path : based p q.dbase q.scene ≡ q =
    λ i.
    record {
      app = (sym polls.app) i;
      cull = (sym polls.cull) i;
      draw = (sym polls.draw) i;
      dbase = q.dbase;
      scene = q.scene;
      a = (sym polls.first) i;
      b = (sym polls.middle) i;
      c = (sym polls.back) i;
    } in
    subst (Lifted play ahead event.Dbase result p) path
    (base_lifts play ahead p q.dbase q.scene result keeps polls.legal.legal polls.part polls.answer polls.ended polls.looked polls.counted)
