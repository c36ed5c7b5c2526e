use Rattle.std.proofs.Common.{inl, inr}
use Rattle.perfly_top.proofs.Runs.{cut_of, part_of, played_of, whole_of, some_of}
use Rattle.perfly_top.proofs.alone.played.Goals as goal

pub returns-in-Done-clause-part : goal.returns-in-Done-clause-part
returns-in-Done-clause-part g c = λ none.
    part_of c.what_is_left_is_part.ensures c.args.words.ahead c.args.play c.run_alone-run.result.played.end c.tell.result.history
    c.run_alone-run.result.played.history c.run_alone-run.result.played.stats.items (g.O.Sink.written c.args.frames.now)
    (g.O.Sink.written c.run_alone-run.new.frames) c.tell.ensures.history c.run_alone-run.ensures.run (inl c.in-Done.is)

pub returns-in-Done-clause-played : goal.returns-in-Done-clause-played
returns-in-Done-clause-played g c = λ told.
    played_of c.what_is_left_is_part.ensures c.args.words.ahead c.args.play c.run_alone-run.result.played.end c.tell.result.history
    c.run_alone-run.result.played.history c.run_alone-run.result.played.stats.items (g.O.Sink.written c.args.frames.now)
    (g.O.Sink.written c.run_alone-run.new.frames) c.tell.ensures.history c.run_alone-run.ensures.run c.in-Done.is c.requires.can_end

pub returns-in-FrameFault-clause-begun : goal.returns-in-FrameFault-clause-begun
returns-in-FrameFault-clause-begun g c = λ fault.
    cut_of c.what_is_left_is_part.ensures c.args.words.ahead c.args.play c.run_alone-run.result.played.end c.stopped.result.history
    c.run_alone-run.result.played.history c.run_alone-run.result.played.stats.items (g.O.Sink.written c.args.frames.now)
    (g.O.Sink.written c.run_alone-run.new.frames) c.stopped.ensures.history c.run_alone-run.ensures.run c.in-FrameFault.is

pub returns-in-NoMemory-clause-part : goal.returns-in-NoMemory-clause-part
returns-in-NoMemory-clause-part g c = λ none.
    part_of c.what_is_left_is_part.ensures c.args.words.ahead c.args.play c.run_alone-run.result.played.end c.stopped-in-NoMemory.result.history
    c.run_alone-run.result.played.history c.run_alone-run.result.played.stats.items (g.O.Sink.written c.args.frames.now)
    (g.O.Sink.written c.run_alone-run.new.frames) c.stopped-in-NoMemory.ensures.history c.run_alone-run.ensures.run (inr c.in-NoMemory.is)

pub returns-in-Done-clause-whole : goal.returns-in-Done-clause-whole
returns-in-Done-clause-whole g c = λ told.
    let run = c.run_alone-run.ensures.run in
    whole_of c.args.words c.args.play c.tell.result.history c.run_alone-run.result.played.history (g.O.Sink.written c.args.frames.now)
    (g.P.Sink.written c.args.report.now) (g.P.Sink.written c.tell.new.report) c.run_alone-run.result.sum c.tell.ensures.history
    (c.run_alone-run.ensures.sum c.in-Done.is) (c.tell.ensures.whole c.args.play (run.all c.in-Done.is).all_numbers (c.run_alone-run.ensures.answers c.in-Done.is) told)

pub returns-in-Done-clause-some_told : goal.returns-in-Done-clause-some_told
returns-in-Done-clause-some_told g c = λ told.
    let run = c.run_alone-run.ensures.run in
    some_of c.args.words c.args.play c.tell.result.history c.run_alone-run.result.played.history (g.O.Sink.written c.args.frames.now)
    (g.P.Sink.written c.args.report.now) (g.P.Sink.written c.tell.new.report) c.run_alone-run.result.sum c.tell.ensures.history
    (c.run_alone-run.ensures.sum c.in-Done.is) (c.tell.ensures.some c.args.play (run.all c.in-Done.is).all_numbers (c.run_alone-run.ensures.answers c.in-Done.is) told)
