use Rattle.program_ends.specs.Played.{stream_of}
use Rattle.perfly_top.proofs.ByteSums.{sum_of_all}
use Rattle.perfly_top.proofs.playing_alone.held_alone.Goals as goal

pub returns-clause-sum : goal.returns-clause-sum
returns-clause-sum g c = λ done some.
    let summing = c.play_alone-run.new.frames in
    sum_of_all g.S.Start.start (g.H.Held.bytes c.args.held) (g.H.Held.bytes summing.held) summing.sum (stream_of c.args.play c.play_alone-run.result.played.history.entries) c.requires.start summing.added (c.play_alone-run.ensures.run.all done).whole some
