-- Each event of a pipe, by what the poll of its stage says of the parts of the pipe before and after it.
use Rattle.std.proofs.Common.{◌≡◌, ℕ, ◌+◌, ◌≤◌, Bool, true, false, List, ◌++◌, take, length, Some, Result, Ok, sym, ap, ◌∙◌, subst, arith}
use Rattle.std.proofs.lemmas.List.{take-append-le, take_all}
use Rattle.std.proofs.lemmas.Option.{same_Some}
use Rattle.pf_history.specs.Logs.{Log}
use Rattle.play_format.specs.Plays.{Script}
use Rattle.pf_scene.specs.Scenes.{SceneState}
use Rattle.stage_parts.specs.declared.packets.Packet.{Packet}
use Rattle.stage_parts.specs.Packets.{LinkPart}
use Rattle.stage_parts.specs.Parts.{DrawPart}
use Rattle.stage_parts.specs.declared.answers.Did.{Did}
use Rattle.stage_parts.specs.declared.answers.Did.TheVariants as did
use Rattle.stage_parts.specs.declared.answers.StageError.{StageError}
use Rattle.stage_parts.specs.Answers.{is_over, PassesOn, WaitsToPass as has_to_wait}
use Rattle.frame_stages.specs.Looks.{SawMark}
use Rattle.frame_stages.specs.CullWorks.{CullKeeps}
use Rattle.frame_stages.specs.Works.{IsGivenAsBefore}
use Rattle.pipe_core.specs.declared.events.Event.TheVariants as event
use Rattle.pipe_core.specs.Pipes.{PipeWork, PipeKeeps, Lifted}
use Rattle.pipe_core.proofs.Passing.{with_draw, draw_lifts, culled, cull_lifts}

-- what was received is a front of what was sent, where the rest is in the link
pub in_order : (sent taken items : List Packet) → sent ≡ taken ++ items → LinkPart sent taken
in_order sent taken items is =
    record {
      front = sym (ap (take (length taken)) is ∙ take-append-le (length taken) taken items (omega arith) ∙ take_all (length taken) taken (omega arith));
    }

-- a look that saw whether the stop mark is set, at a desk that tells the scene
pub saw_mark : (scene : SceneState) (seen' : Log) (over : Bool) → SawMark 0 scene.shared.log (Some scene) over seen' → over ≡ scene.shared.stopped
saw_mark scene seen' over saw = saw.2 ∙ ap (λ (x : SceneState). x.shared.stopped) (sym saw.4)

-- What a poll of the cull says of the pipe.
pub record CullPolls (p q : PipeWork) (result : Result Did StageError) : Type 0 where
  pub app : q.app ≡ p.app
  pub draw : q.draw ≡ p.draw
  pub dbase : q.dbase ≡ p.dbase
  pub back : q.c ≡ p.c
  pub link_a : LinkPart q.a.line.sent q.a.line.taken
  pub link_b : LinkPart q.b.line.sent q.b.line.taken
  pub told : Some q.scene ≡ Some p.scene
  pub take_room : q.a.room ≡ p.a.room
  pub told_sent : Some q.a.line.sent ≡ Some p.a.line.sent
  pub send_room : q.b.room ≡ p.b.room
  pub told_taken : Some q.b.line.taken ≡ Some p.b.line.taken
  pub lens : q.cull.lens ≡ p.cull.lens
  pub keeps : CullKeeps p.cull p.a.line.taken p.b.line.sent → CullKeeps q.cull q.a.line.taken q.b.line.sent
  pub answer : PassesOn result
      (record { state = p.cull; taken = p.a.line.taken; sent = p.b.line.sent })
      (record { state = q.cull; taken = q.a.line.taken; sent = q.b.line.sent })
      (has_to_wait p.cull.held (p.a.line.sent ≡ p.a.line.taken) (length p.b.line.taken + p.b.room ≤ length p.b.line.sent))
  pub ended : p.cull.ended ≡ true → result ≡ Ok did.Over
  pub looked : p.cull.ended ≡ false → SawMark 0 p.scene.shared.log (Some p.scene) (is_over result) q.scene.shared.log

pub cull_polls : (play : Script) (ahead : ℕ) (p q : PipeWork) (result : Result Did StageError) → CullPolls p q result → PipeKeeps play ahead p →
    Lifted play ahead event.Cull result p q
cull_polls play ahead p q result polls keeps =
    let scene = same_Some q.scene p.scene polls.told in
    let sent = same_Some q.a.line.sent p.a.line.sent polls.told_sent in
    let taken = same_Some q.b.line.taken p.b.line.taken polls.told_taken in
    let path : culled p q.cull q.a.line.taken q.b.line.sent ≡ q =
    λ i.
    record {
      app = (sym polls.app) i;
      cull = q.cull;
      draw = (sym polls.draw) i;
      dbase = (sym polls.dbase) i;
      scene = (sym scene) i;
      a = record { room = (sym polls.take_room) i; line = record { sent = (sym sent) i; taken = q.a.line.taken } };
      b = record { room = (sym polls.send_room) i; line = record { sent = q.b.line.sent; taken = (sym taken) i } };
      c = (sym polls.back) i;
    } in
    subst (Lifted play ahead event.Cull result p) path
    (cull_lifts play ahead p q.cull q.a.line.taken q.b.line.sent result keeps
    (subst (λ (ps : List Packet). LinkPart ps q.a.line.taken) sent polls.link_a)
    (subst (λ (ps : List Packet). LinkPart q.b.line.sent ps) taken polls.link_b)
    polls.lens polls.keeps polls.answer polls.ended
    (λ alive. saw_mark p.scene q.scene.shared.log (is_over result) (polls.looked alive)))

-- What a poll of the draw says of the pipe.
pub record DrawPolls (p q : PipeWork) (result : Result Did StageError) : Type 0 where
  pub app : q.app ≡ p.app
  pub cull : q.cull ≡ p.cull
  pub dbase : q.dbase ≡ p.dbase
  pub first : q.a ≡ p.a
  pub link_b : LinkPart q.b.line.sent q.b.line.taken
  pub link_c : LinkPart q.c.line.sent q.c.line.taken
  pub told : Some q.scene ≡ Some p.scene
  pub take_room : q.b.room ≡ p.b.room
  pub told_sent : Some q.b.line.sent ≡ Some p.b.line.sent
  pub send_room : q.c.room ≡ p.c.room
  pub told_taken : Some q.c.line.taken ≡ Some p.c.line.taken
  pub given : IsGivenAsBefore p.draw q.draw
  pub part : DrawPart p.draw.lens p.draw.back p.draw.state p.b.line.taken p.c.line.sent →
      DrawPart q.draw.lens q.draw.back q.draw.state q.b.line.taken q.c.line.sent
  pub answer : PassesOn result
      (record { state = p.draw.state; taken = p.b.line.taken; sent = p.c.line.sent })
      (record { state = q.draw.state; taken = q.b.line.taken; sent = q.c.line.sent })
      (has_to_wait p.draw.state.held (p.b.line.sent ≡ p.b.line.taken) (length p.c.line.taken + p.c.room ≤ length p.c.line.sent))
  pub ended : p.draw.state.ended ≡ true → result ≡ Ok did.Over
  pub looked : p.draw.state.ended ≡ false → SawMark 0 p.scene.shared.log (Some p.scene) (is_over result) q.scene.shared.log

pub draw_polls : (play : Script) (ahead : ℕ) (p q : PipeWork) (result : Result Did StageError) → DrawPolls p q result → PipeKeeps play ahead p →
    Lifted play ahead event.Draw result p q
draw_polls play ahead p q result polls keeps =
    let scene = same_Some q.scene p.scene polls.told in
    let sent = same_Some q.b.line.sent p.b.line.sent polls.told_sent in
    let taken = same_Some q.c.line.taken p.c.line.taken polls.told_taken in
    let path : with_draw p q.draw.state q.b.line.taken q.c.line.sent ≡ q =
    λ i.
    record {
      app = (sym polls.app) i;
      cull = (sym polls.cull) i;
      draw = record { lens = (sym polls.given.lens) i; back = (sym polls.given.back) i; state = q.draw.state };
      dbase = (sym polls.dbase) i;
      scene = (sym scene) i;
      a = (sym polls.first) i;
      b = record { room = (sym polls.take_room) i; line = record { sent = (sym sent) i; taken = q.b.line.taken } };
      c = record { room = (sym polls.send_room) i; line = record { sent = q.c.line.sent; taken = (sym taken) i } };
    } in
    subst (Lifted play ahead event.Draw result p) path
    (draw_lifts play ahead p q.draw.state q.b.line.taken q.c.line.sent result keeps
    (subst (λ (ps : List Packet). LinkPart ps q.b.line.taken) sent polls.link_b)
    (subst (λ (ps : List Packet). LinkPart q.c.line.sent ps) taken polls.link_c)
    (λ old.
    subst (λ lens. DrawPart lens p.draw.back q.draw.state q.b.line.taken q.c.line.sent) polls.given.lens
    (subst (λ (back : List ℕ). DrawPart q.draw.lens back q.draw.state q.b.line.taken q.c.line.sent) polls.given.back (polls.part old)))
    polls.answer polls.ended
    (λ alive. saw_mark p.scene q.scene.shared.log (is_over result) (polls.looked alive)))
