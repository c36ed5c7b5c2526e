use Rattle.std.proofs.Common.{◌≡◌, refl}
use Rattle.play_format.specs.declared.commands.Command.TheVariants as command
use Rattle.play_format.specs.declared.places.Place.TheVariants as place
use Rattle.play_format.specs.Sections.{LineRead}
use Rattle.play_format.proofs.HeaderLemmas.{no_end, at_behind, app_read, channels_read, not_channels}
use Rattle.play_format.proofs.header.start.Goals as goal
use Rattle.play_format.specs.Rests.{stand}

pub line-requires-in-Channels : goal.line-requires-in-Channels
line-requires-in-Channels c =
    let a = stand c.args.reader.now.spot c.args.reader.now.line c.args.reader.now.rest.now in
    let b = stand c.line.new.reader.spot c.line.new.reader.line c.line.new.reader.rest.now in
    let read : LineRead a b command.Channels c.line.new.numbers.items = rw c.in-Channels.is at c.in_ok-line.ensures in
    no_end place.Opening b (at_behind place.Start a b command.Channels c.line.new.numbers.items c.requires read refl) refl

pub returns-in_ok-line-in-Channels : goal.returns-in_ok-line-in-Channels
returns-in_ok-line-in-Channels c =
    let a = stand c.args.reader.now.spot c.args.reader.now.line c.args.reader.now.rest.now in
    let b = stand c.line.new.reader.spot c.line.new.reader.line c.line.new.reader.rest.now in
    let d = stand c.line-in-Channels.new.reader.spot c.line-in-Channels.new.reader.line c.line-in-Channels.new.reader.rest.now in
    let read : LineRead a b command.Channels c.line.new.numbers.items = rw c.in-Channels.is at c.in_ok-line.ensures in
    channels_read a b d c.line.new.numbers.items c.line-in-Channels.new.numbers.items c.in_ok-line-in-Channels.field-0 c.requires read c.in_ok-line-in-Channels.ensures

pub returns-in_default : goal.returns-in_default
returns-in_default c =
    let a = stand c.args.reader.now.spot c.args.reader.now.line c.args.reader.now.rest.now in
    let b = stand c.line.new.reader.spot c.line.new.reader.line c.line.new.reader.rest.now in
    let is : c.in_ok-line.field-0 ≡ command.App = not_channels a b c.in_ok-line.field-0 c.line.new.numbers.items c.requires c.in_ok-line.ensures c.in_default.not-Channels in
    let read : LineRead a b command.App c.line.new.numbers.items = rw is at c.in_ok-line.ensures in
    app_read a b c.line.new.numbers.items c.requires read
