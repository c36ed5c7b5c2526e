use Rattle.std.proofs.Common.{length, ap, ◌∙◌}
use Rattle.pf_history.specs.Asks.{asked_dbase}
use Rattle.frame_stages.specs.AppWorks.{AppWork}
use Rattle.mode_hosts.proofs.Lives.{block_many, block_given, live_given}
use Rattle.mode_hosts.proofs.live.LivePipe.give_block.Goals as goal

pub returns-in-Ok-clause-keeps : goal.returns-in-Ok-clause-keeps
returns-in-Ok-clause-keeps g c = λ play ahead asked bytes now can keeps.
    let p = c.args.self.now in
    let block = c.args.block.items in
    let more = c.await_more-merges.ensures in
    let own = keeps.keeps.four.app.given.merges in
    let count = c.count_merges-merges.ensures ∙ ap (λ ls. length (asked_dbase ls)) c.deref.ensures.value in
    let many = block_many play ahead block p.app.stage.merges c.count_merges-merges.result c.await_more-merges.result can own count more.merges in
    block_given play ahead asked p block c.await_more-merges.result c.await_more-merges.new.app c.give.new.self bytes now keeps many more.setup more.part
    c.in-Ok.ensures.holds (ap (λ (w : AppWork). w.state.fault) more.state)

pub returns-in-Ok-clause-live : goal.returns-in-Ok-clause-live
returns-in-Ok-clause-live g c = λ live. live_given c.args.self.now c.await_more-merges.new.app c.give.new.self c.args.self.now.frames live

pub returns-in-Err-clause-live : goal.returns-in-Err-clause-live
returns-in-Err-clause-live g c = λ live. live_given c.args.self.now c.args.self.now.app.stage c.give.new.self c.args.self.now.frames live

pub returns-in-Err-clause-unchanged : goal.returns-in-Err-clause-unchanged
returns-in-Err-clause-unchanged g c = let p = c.args.self.now in λ i. record p { dbase = record p.dbase { stage = c.in-Err.ensures.unchanged i } }

pub returns-in-Ok-clause-told_numbers : goal.returns-in-Ok-clause-told_numbers
returns-in-Ok-clause-told_numbers g c = ap (λ (w : AppWork). w.told) c.await_more-merges.ensures.state

pub returns-in-Ok-clause-stats : goal.returns-in-Ok-clause-stats
returns-in-Ok-clause-stats g c = ap (λ (w : AppWork). w.state.stats) c.await_more-merges.ensures.state
