use Rattle.std.proofs.Common.{ℕ, List, Option, sym, subst}
use Rattle.pipe_core.specs.Hosts.{GoesOn}
use Rattle.pipe_plays.proofs.Ended.{stays_whole, later_blames}
use Rattle.pipe_core.proofs.Hosting.{on_ok}
use Rattle.pipe_core.proofs.host.run.Goals as goal

pub returns-clause-goes : goal.returns-clause-goes
returns-clause-goes g c = λ play ahead can keeps.
    subst (λ (bytes : Option (List ℕ)). GoesOn play ahead c.args.pipe.now c.rounds.new.pipe (g.O.Sink.written c.args.frames.now) bytes)
    (sym c.flush_frames.ensures.bytes) (c.rounds.ensures.goes play ahead can keeps)

pub returns-clause-ended : goal.returns-clause-ended
returns-clause-ended g c = λ play ahead can free keeps unset enough.
    on_ok c.flush_frames.result _ (c.in_ok-rounds.ensures.ended play ahead can free keeps unset enough)

pub returns-clause-blames : goal.returns-clause-blames
returns-clause-blames g c =
    later_blames c.flush_frames.result (g.O.Sink.faults c.args.frames.now) (g.O.Sink.faults c.rounds.new.frames) (g.O.Sink.faults c.flush_frames.new.frames)
    (g.O.Sink.at_fault c.flush_frames.new.frames) (g.O.Sink.written c.flush_frames.new.frames) c.in_ok-rounds.ensures.blames c.flush_frames.ensures.blames

pub returns-clause-uncut : goal.returns-clause-uncut
returns-clause-uncut g c = stays_whole c.flush_frames.result _ _ (λ other. c.in_ok-rounds.ensures.uncut)
