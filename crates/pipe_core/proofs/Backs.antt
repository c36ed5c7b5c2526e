-- Taking a picture back keeps what the pipe keeps.
use Rattle.std.proofs.Common.{◌≡◌, ℕ, true, false, List, length, Option, Some, Result, Ok, Err, sym, ap, ◌∙◌, subst, arith}
use Rattle.std.proofs.lemmas.Option.{same_Some}
use Rattle.pf_history.specs.Logs.{Log, IsLegal}
use Rattle.play_format.specs.Plays.{Script}
use Rattle.pf_scene.specs.Scenes.{SceneState}
use Rattle.stage_parts.specs.declared.packets.Packet.{Packet}
use Rattle.stage_parts.specs.Packets.{LinkPart}
use Rattle.stage_parts.specs.declared.answers.Did.{Did}
use Rattle.stage_parts.specs.declared.answers.Did.TheVariants as did
use Rattle.stage_parts.specs.declared.answers.StageError.{StageError}
use Rattle.stage_parts.specs.declared.answers.StageError.TheVariants as error
use Rattle.frame_stages.specs.Flights.{SinkSide}
use Rattle.frame_stages.specs.AppTurns.{IsMarked}
use Rattle.frame_stages.specs.AppWorks.{AppWork}
use Rattle.frame_stages.specs.AppAnswers.{Ends, Around}
use Rattle.frame_stages.specs.AppBacks.{BringsBack, TakesOnly}
use Rattle.pipe_plays.specs.Played.{Blames}
use Rattle.pipe_core.specs.declared.events.Event.TheVariants as event
use Rattle.pipe_core.specs.Pipes.{LinkWork, PipeWork, core_of, PipeKeeps}
use Rattle.pipe_core.specs.Settling.{done_of, NoneIsBack, TurnSays, TurnsGo}
use Rattle.pipe_core.proofs.Lifting.{opened}
use Rattle.pipe_core.proofs.AppLifts.{Grown, still, told_left, marked_scene, before_poll, after_poll, applied, AppKept, app_kept}
use Rattle.pipe_core.proofs.StillOpen.{still_open}
use Rattle.pipe_core.proofs.Settling.{adds_further, none_goes}

-- a picture was taken back, and the scene kept its log
came_back : (play : Script) (ahead : ℕ) (p : PipeWork) (w : AppWork) (scene : SceneState) (taken : List Packet) (sink sink' : SinkSide) (result : Result Did StageError) →
    PipeKeeps play ahead p → LinkPart p.c.line.sent taken →
    BringsBack 0 result p.app w (before_poll p sink) (after_poll p scene p.a.line.sent taken sink') → Grown p.scene scene →
    scene.shared.log ≡ p.scene.shared.log → ((n : ℕ) → w.state.fault ≡ Some n → scene.shared.stopped ≡ true) →
    TurnSays NoneIsBack (done_of result) (core_of play p) (core_of play (applied p w scene p.a.line.sent taken)) →
    TurnsGo play ahead NoneIsBack (done_of result) p (applied p w scene p.a.line.sent taken) sink.bytes sink'.bytes
came_back play ahead p w scene taken sink sink' result keeps link brings grown log marked says =
    let old = opened play ahead (core_of play p) keeps.core in
    let legal : IsLegal play.channels scene.shared.log = subst (IsLegal play.channels) (sym log) old.legal in
    let kept : AppKept play ahead p (applied p w scene p.a.line.sent taken) sink.bytes sink'.bytes =
    app_kept play ahead p w scene p.a.line.sent taken sink sink' keeps legal old.link_a link brings.kept grown marked in
    record {
      keeps = kept.keeps;
      grows = adds_further event.App w.state.written p.scene.shared.log scene.shared.log kept.adds;
      wrote = kept.wrote;
      going = still_open play ahead (core_of play p) (core_of play (applied p w scene p.a.line.sent taken)) keeps.core kept.keeps.core log;
      says = says;
    }

back_lifts : (play : Script) (ahead : ℕ) (p : PipeWork) (w : AppWork) (scene : SceneState) (taken : List Packet) (sink sink' : SinkSide) (result : Result Did StageError) →
    PipeKeeps play ahead p → LinkPart p.c.line.sent taken →
    TakesOnly 0 result p.app w (before_poll p sink) (after_poll p scene p.a.line.sent taken sink') →
    TurnsGo play ahead NoneIsBack (done_of result) p (applied p w scene p.a.line.sent taken) sink.bytes sink'.bytes
back_lifts play ahead p w scene taken sink sink' (Ok did.Did) keeps link brings =
    let same = same_Some scene p.scene brings.says.told in
    let log = ap (λ (x : SceneState). x.shared.log) same in
    let mark = ap (λ (x : SceneState). x.shared.stopped) same in
    let at = ap (λ (x : AppWork). x.state.at) brings.work in
    let many = ap (λ (l : Log). length l) log in
    came_back play ahead p w scene taken sink sink' (Ok did.Did) keeps link brings (still p.scene scene same) log
    (λ n fault. mark ∙ keeps.core.marked n (sym brings.says.fault ∙ fault))
    (omega (arith, many, at, brings.many), mark)
back_lifts play ahead p w scene taken sink sink' (Ok did.NotYet) keeps link found =
    let same = same_Some scene p.scene found.idle.told in
    let back = ap (λ (x : Ends). x.taken) found.idle.ends in
    let bytes = ap (λ (x : Ends). x.sink.bytes) found.idle.ends in
    let path : p ≡ applied p w scene p.a.line.sent taken =
    λ i. applied p ((sym found.idle.work) i) ((sym same) i) p.a.line.sent ((sym back) i) in
    subst (λ (q : PipeWork). TurnsGo play ahead NoneIsBack (Ok false) p q sink.bytes sink'.bytes) path
    (subst (λ (b : Option (List ℕ)). TurnsGo play ahead NoneIsBack (Ok false) p p sink.bytes b) (sym bytes)
    (none_goes play ahead NoneIsBack p sink.bytes keeps (λ bare going whole away. found.dry away)))
back_lifts play ahead p w scene taken sink sink' (Ok did.Over) keeps link brings = absurd brings.says
back_lifts play ahead p w scene taken sink sink' (Err error.FrameFault) keeps link brings =
    let marks = told_left IsMarked p.scene scene brings.says.told in
    came_back play ahead p w scene taken sink sink' (Err error.FrameFault) keeps link brings (marked_scene p.scene scene marks) marks.log
    (λ n fault. marks.stopped) marks.stopped
back_lifts play ahead p w scene taken sink sink' (Err error.NoMemory) keeps link brings = absurd brings.says

-- the pipe where the application and the scene are these, and the link to the application
abbrev pub backed : PipeWork → AppWork → SceneState → LinkWork → PipeWork
backed p w scene c = record p { app = w; scene = scene; c = c }

pub back_goes : (play : Script) (ahead : ℕ) (p : PipeWork) (w : AppWork) (scene : SceneState) (c : LinkWork) (sink sink' : SinkSide) (result : Result Did StageError) →
    LinkPart c.line.sent c.line.taken → c.room ≡ p.c.room → Some c.line.sent ≡ Some p.c.line.sent →
    TakesOnly 0 result p.app w (before_poll p sink) (after_poll p scene p.a.line.sent c.line.taken sink') → PipeKeeps play ahead p →
    TurnsGo play ahead NoneIsBack (done_of result) p (backed p w scene c) sink.bytes sink'.bytes
back_goes play ahead p w scene c sink sink' result link room told takes keeps =
    let sent = same_Some c.line.sent p.c.line.sent told in
    let path : applied p w scene p.a.line.sent c.line.taken ≡ backed p w scene c =
    λ i. backed p w scene (record { room = (sym room) i; line = record { sent = (sym sent) i; taken = c.line.taken } }) in
    subst (λ (q : PipeWork). TurnsGo play ahead NoneIsBack (done_of result) p q sink.bytes sink'.bytes) path
    (back_lifts play ahead p w scene c.line.taken sink sink' result keeps
    (subst (λ (ps : List Packet). LinkPart ps c.line.taken) sent link) takes)

-- what it says of the sink
pub back_blames : (result : Result Did StageError) (k : ℕ) (old new : AppWork) (before after : Around) → TakesOnly k result old new before after →
    Blames (done_of result) before.ends.sink.faults after.ends.sink.faults after.ends.sink.at_fault after.ends.sink.bytes
back_blames (Ok did.Did) k old new before after brings = ap (λ (x : Ends). x.sink.faults) brings.says.ends
back_blames (Ok did.NotYet) k old new before after found = ap (λ (x : Ends). x.sink.faults) found.idle.ends
back_blames (Ok did.Over) k old new before after brings = absurd brings.says
back_blames (Err error.FrameFault) k old new before after brings = (brings.says.rose, brings.says.last)
back_blames (Err error.NoMemory) k old new before after brings = absurd brings.says
