use Rattle.std.proofs.Common.{◌≡◌, sym, ap, subst, Some}
use Rattle.play_format.specs.declared.commands.Command.{Command}
use Rattle.play_format.specs.declared.commands.Command.TheVariants as command
use Rattle.live_text.specs.declared.given.Given.{Given}
use Rattle.live_text.specs.declared.head.Head.{Head}
use Rattle.live_text.specs.declared.head.Head.TheVariants as head
use Rattle.live_text.specs.States.{HeadLine, HeadAfter}
use Rattle.live_text.proofs.HeadLemmas.{back_after, app_after_back, app_after_channels}
use Rattle.live_text.proofs.head.Head.after.Goals as goal

pub returns-in-Lens : goal.returns-in-Lens
returns-in-Lens c =
    let line : HeadLine c.args.spot (head.Lens c.in-Lens.lens) c.args.command c.args.numbers.now = rw c.in-Lens.is at c.requires in
    rw c.in-Lens.is (back_after c.args.spot c.args.command c.args.numbers.now c.in-Lens.lens c.back.result line c.back.ensures)

pub returns-in_default : goal.returns-in_default
returns-in_default c =
    let line : HeadLine c.args.spot (head.Back c.in-Back.lens c.in-Back.back) c.args.command c.args.numbers.now = rw c.in-Back.is at c.requires in
    rw (c.in-Back.is, c.header.ensures) (app_after_back c.args.spot c.args.command c.args.numbers.now c.in-Back.lens c.in-Back.back line c.in_default.not-Channels)

pub returns-in-Channels : goal.returns-in-Channels
returns-in-Channels c =
    let line : HeadLine c.args.spot (head.Channels c.in-Channels.lens c.in-Channels.back) c.args.command c.args.numbers.now = rw c.in-Channels.is at c.requires in
    rw (c.in-Channels.is, c.header-in-Channels.ensures) (app_after_channels c.args.spot c.args.command c.args.numbers.now c.in-Channels.lens c.in-Channels.back line)
