use Rattle.std.proofs.Common.{refl}
use Rattle.mode_hosts.proofs.Telling.{few_on}
use Rattle.mode_hosts.proofs.Lives.{seen_at, blamed_on, live_goes, live_keeps}
use Rattle.mode_hosts.proofs.live.LivePipe.settle.Goals as goal

pub returns-clause-keeps : goal.returns-clause-keeps
returns-clause-keeps g c = λ play ahead asked bytes keeps.
    let p = c.args.self.now in
    let run = c.settle_here-self.ensures in
    live_keeps play ahead asked p
    (record p {
      app = c.settle_here-self.new.app;
      dbase = c.settle_here-self.new.dbase;
      posts = c.settle_here-self.new.posts;
      came = c.settle_here-self.result;
    })
    bytes (g.O.Sink.written c.args.frames.now) (g.O.Sink.written c.settle_here-self.new.frames) run.goes run.dbase run.posts refl refl
    (few_on p.told (seen_at p.app) (seen_at c.settle_here-self.new.app) run.goes.front) c.requires run.uncut keeps

pub returns-clause-live : goal.returns-clause-live
returns-clause-live g c = λ live.
    let p = c.args.self.now in
    let run = c.settle_here-self.ensures in
    live_goes p
    (record p {
      app = c.settle_here-self.new.app;
      dbase = c.settle_here-self.new.dbase;
      posts = c.settle_here-self.new.posts;
      came = c.settle_here-self.result;
    })
    (g.O.Sink.written c.args.frames.now) (g.O.Sink.written c.settle_here-self.new.frames) run.goes run.dbase run.posts refl
    (few_on p.told (seen_at p.app) (seen_at c.settle_here-self.new.app) run.goes.front) live

pub returns-clause-blamed : goal.returns-clause-blamed
returns-clause-blamed g c = λ before calm.
    blamed_on c.args.self.now.came c.settle_here-self.result before (g.O.Sink.faults c.args.frames.now) (g.O.Sink.faults c.settle_here-self.new.frames)
    (g.O.Sink.at_fault c.args.frames.now) (g.O.Sink.written c.args.frames.now) (g.O.Sink.at_fault c.settle_here-self.new.frames)
    (g.O.Sink.written c.settle_here-self.new.frames) c.requires calm c.settle_here-self.ensures.blames

pub returns-clause-front : goal.returns-clause-front
returns-clause-front g c = c.settle_here-self.ensures.goes.front

pub returns-clause-told_numbers : goal.returns-clause-told_numbers
returns-clause-told_numbers g c = c.settle_here-self.ensures.goes.told
