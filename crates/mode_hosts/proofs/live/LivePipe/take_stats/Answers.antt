use Rattle.mode_hosts.proofs.Lives.{live_given, numbers_keep, numbers_rest}
use Rattle.mode_hosts.proofs.live.LivePipe.take_stats.Goals as goal

pub returns-clause-count_alone : goal.returns-clause-count_alone
returns-clause-count_alone g c = let p = c.args.self.now in λ i. record p { app = record p.app { stage = c.take_stats.ensures.same i } }

pub returns-clause-keeps : goal.returns-clause-keeps
returns-clause-keeps g c = λ play ahead asked bytes now keeps.
    numbers_keep play ahead asked c.args.self.now c.take_stats.new.self bytes now c.take_stats.ensures.same keeps

pub returns-clause-live : goal.returns-clause-live
returns-clause-live g c = λ live. live_given c.args.self.now c.take_stats.new.self c.args.self.now.dbase.stage c.args.self.now.frames live

pub returns-clause-rests : goal.returns-clause-rests
returns-clause-rests g c = λ rests. numbers_rest c.args.self.now c.take_stats.new.self c.take_stats.ensures.same rests
