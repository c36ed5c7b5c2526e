use Rattle.std.proofs.Common.{subst}
use Rattle.play_format.specs.Plays.{Script}
use Rattle.mode_hosts.specs.Lives.{LiveKeeps}
use Rattle.live_run.specs.Driven.{bare_play}
use Rattle.live_run.proofs.DrivenLemmas.{bare_runs, fine_calm, driven_opens}
use Rattle.live_run.proofs.live.Live.open.Goals as goal

pub returns-clause-driven : goal.returns-clause-driven
returns-clause-driven g c = λ bytes.
    let setup = c.args.setup.now in
    let pipe = c.in_ok-pipe.pipe in
    let play = bare_play c.args.lens c.args.back c.args.channels in
    driven_opens c.args.lens c.args.back c.args.channels setup.ahead setup.probe bytes c.is_untold.new.pipe
    (bare_runs c.args.lens c.args.back c.args.channels setup.ahead c.requires.some_channel c.requires.most_channels c.requires.at_least_one
    c.requires.at_most_four)
    (c.is_untold.ensures.stays.keeps play setup.ahead setup.probe bytes bytes
    (subst (λ (p : Script). LiveKeeps p setup.ahead setup.probe bytes bytes pipe) c.without_steps-play.ensures (c.in_ok-pipe.ensures.keeps bytes)))
    (c.is_untold.ensures.numbers c.if-not-is_untold.false)

pub returns-clause-blamed : goal.returns-clause-blamed
returns-clause-blamed g c = λ now at_fault bytes.
    c.is_untold.ensures.stays.blamed now now at_fault bytes (fine_calm c.in_ok-pipe.pipe.came now at_fault bytes c.in_ok-pipe.ensures.whole)
