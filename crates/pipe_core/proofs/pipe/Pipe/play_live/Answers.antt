use Rattle.std.proofs.Common.{◌≡◌, ◌++◌, List, ◌∷◌, take, drop, length, Option, refl, sym, ap, ◌∙◌, subst, arith}
use Rattle.std.proofs.lemmas.List.{length-drop, take_all}
use Rattle.std.specs.Option.{option_to_list}
use Rattle.pipe_core.specs.declared.commands.PipeCommand.{PipeCommand}
use Rattle.pipe_core.specs.Makes.{with_commands}
use Rattle.pipe_core.specs.LiveRuns.{HasMadeAll}
use Rattle.pipe_core.proofs.LiveRuns.{next_is, may_next, none_yet, one_more, none_left, blames_on}
use Rattle.pipe_core.proofs.pipe.Pipe.play_live.Goals as goal

pub loop-at-init : goal.loop-at-init
loop-at-init g c =
    record {
      left = c.queue_of-left.ensures;
      calm = refl;
      made = λ play ahead all ready. none_yet play ahead c.args.commands.items c.args.self.now (g.O.Sink.written c.args.frames.now) all ready;
    }

pub loop-at-preserved : goal.loop-at-preserved
loop-at-preserved g c =
    let cs = c.args.commands.items in
    let at = c.loop-at.at in
    let rest = c.pop_front.new.self.items in
    let here : drop at cs ≡ c.in-Some.command ∷ rest =
    sym c.loop-at.invariant.left ∙ c.pop_front.ensures.items ∙ ap (λ (o : Option PipeCommand). option_to_list o ++ rest) c.in-Some.is in
    let next = next_is cs at c.in-Some.command rest here in
    record {
      left = sym next.left;
      calm = c.in-Ok.ensures.blames ∙ c.loop-at.invariant.calm;
      made = λ play ahead all ready.
          let before = c.loop-at.invariant.made play ahead all ready in
          one_more play ahead cs at c.in-Some.command rest c.args.self.now c.loop-at.self c.make_command.new.self
          (g.O.Sink.written c.args.frames.now) (g.O.Sink.written c.loop-at.frames) (g.O.Sink.written c.make_command.new.frames) next before
          (c.in-Ok.ensures.comes (with_commands play (take at cs)) ahead (may_next play ahead cs at c.in-Some.command rest next all before.can_run) before.made.ready);
    }

pub returns-in-Err-clause-comes : goal.returns-in-Err-clause-comes
returns-in-Err-clause-comes g c = λ play ahead all ready.
    let cs = c.args.commands.items in
    let at = c.loop-at.at in
    let rest = c.pop_front.new.self.items in
    let here : drop at cs ≡ c.in-Some.command ∷ rest =
    sym c.loop-at.invariant.left ∙ c.pop_front.ensures.items ∙ ap (λ (o : Option PipeCommand). option_to_list o ++ rest) c.in-Some.is in
    let next = next_is cs at c.in-Some.command rest here in
    let before = c.loop-at.invariant.made play ahead all ready in
    record {
      command = c.in-Some.command;
      is_command = next.there;
      reached = c.loop-at.self;
      written = g.O.Sink.written c.loop-at.frames;
      made_before = before;
      leaves = c.in-Err.ensures.comes (with_commands play (take at cs)) ahead (may_next play ahead cs at c.in-Some.command rest next all before.can_run) before.made.ready;
    }

pub returns-in-None-clause-comes : goal.returns-in-None-clause-comes
returns-in-None-clause-comes g c = λ play ahead all ready.
    let cs = c.args.commands.items in
    let none = none_left c.loop-at.left.items c.pop_front.new.self.items
    (c.pop_front.ensures.items ∙ ap (λ (o : Option PipeCommand). option_to_list o ++ c.pop_front.new.self.items) c.in-None.is) c.pop_front.ensures.rest in
    let left = ap length (sym none ∙ c.loop-at.invariant.left) in
    let behind = length-drop c.loop-at.at cs in
    let many : c.count_of-count.result ≡ length cs = c.count_of-count.ensures ∙ ap length c.as_slice.ensures.value in
    absurd (omega (arith, left, behind, many, c.loop-at-test.true))

pub returns-clause-comes : goal.returns-clause-comes
returns-clause-comes g c = λ play ahead all ready.
    subst (λ (cs : List PipeCommand). HasMadeAll play ahead cs c.args.self.now c.loop-at.self (g.O.Sink.written c.args.frames.now) (g.O.Sink.written c.loop-at.frames))
    (take_all c.loop-at.at c.args.commands.items
    (let many : c.count_of-count.result ≡ length c.args.commands.items = c.count_of-count.ensures ∙ ap length c.as_slice.ensures.value in omega (arith, many))) (c.loop-at.invariant.made play ahead all ready)

pub returns-in-Err-clause-blames : goal.returns-in-Err-clause-blames
returns-in-Err-clause-blames g c = blames_on c.in-Err.cause _ _ _ _ _ c.loop-at.invariant.calm c.in-Err.ensures.blames
