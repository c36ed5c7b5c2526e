use Rattle.std.proofs.Common.{ap, arith}
use Rattle.frame_stages.specs.AppWorks.{AppWork}
use Rattle.mode_hosts.specs.Lives.{live_setup}
use Rattle.mode_hosts.proofs.Lives.{frames_on, live_given, line_given}
use Rattle.mode_hosts.proofs.live.LivePipe.give.Goals as goal

pub returns-in-Ok-clause-keeps : goal.returns-in-Ok-clause-keeps
returns-in-Ok-clause-keeps g c = λ play ahead asked bytes now keeps.
    let p = c.args.self.now in
    let give = c.in-Ok.ensures in
    let frames = frames_on (live_setup play ahead) p.app.stage c.args.line p.frames c.saturating_add-self.result keeps.keeps.four.app.given c.requires.room
    keeps.frames (λ few. omega (arith, few, c.saturating_add-self.ensures, c.frames_of-begins.ensures)) in
    line_given play ahead asked p c.args.line c.give.new.self c.saturating_add-self.result bytes now keeps give.given give.part frames
    (ap (λ (w : AppWork). w.state.fault) give.state)

pub returns-in-Ok-clause-live : goal.returns-in-Ok-clause-live
returns-in-Ok-clause-live g c = λ live. live_given c.args.self.now c.give.new.self c.args.self.now.dbase.stage c.saturating_add-self.result live

pub returns-in-Err-clause-live : goal.returns-in-Err-clause-live
returns-in-Err-clause-live g c = λ live. live_given c.args.self.now c.give.new.self c.args.self.now.dbase.stage c.args.self.now.frames live

pub returns-in-Err-clause-unchanged : goal.returns-in-Err-clause-unchanged
returns-in-Err-clause-unchanged g c = let p = c.args.self.now in λ i. record p { app = record p.app { stage = c.in-Err.ensures.unchanged i } }

pub returns-in-Ok-clause-told_numbers : goal.returns-in-Ok-clause-told_numbers
returns-in-Ok-clause-told_numbers g c = ap (λ (w : AppWork). w.told) c.in-Ok.ensures.state

pub returns-in-Ok-clause-stats : goal.returns-in-Ok-clause-stats
returns-in-Ok-clause-stats g c = ap (λ (w : AppWork). w.state.stats) c.in-Ok.ensures.state

pub returns-in-Err-clause-told_numbers : goal.returns-in-Err-clause-told_numbers
returns-in-Err-clause-told_numbers g c = ap (λ (w : AppWork). w.told) c.in-Err.ensures.unchanged

pub returns-in-Err-clause-stats : goal.returns-in-Err-clause-stats
returns-in-Err-clause-stats g c = ap (λ (w : AppWork). w.state.stats) c.in-Err.ensures.unchanged
