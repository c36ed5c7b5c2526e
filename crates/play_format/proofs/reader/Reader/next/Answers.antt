use Rattle.std.proofs.Common.{◌∙◌}
use Rattle.std.proofs.lemmas.Result.{err_from_is_err_and}
use Rattle.play_format.specs.Grammar.{entry_at}
use Rattle.play_format.proofs.EntryLemmas.{fits_of, channels_fit}
use Rattle.play_format.proofs.ReaderLemmas.{unread_end, unread_more, unread_wrong, line_read}
use Rattle.play_format.proofs.reader.Reader.next.Goals as goal

pub returns-in-Ok-clause-read : goal.returns-in-Ok-clause-read
returns-in-Ok-clause-read c = unread_end c.args.self.now.spot c.args.self.now.line c.args.self.now.rest.now c.in_default.ensures.parts ∙ c.in-Ok.ensures.read

pub returns-in-Err-clause-read : goal.returns-in-Err-clause-read
returns-in-Err-clause-read c =
    rw (unread_end c.args.self.now.spot c.args.self.now.line c.args.self.now.rest.now c.in_default.ensures.parts) c.in-Err.ensures.read

pub returns-in_err-command-clause-read : goal.returns-in_err-command-clause-read
returns-in_err-command-clause-read c =
    let p = err_from_is_err_and c.from_residual.result c.from_residual.ensures.1 in
    rw (p.1, p.2) (unread_wrong c.args.self.now.spot c.args.self.now.line c.args.self.now.rest.now c.in-Some.line.now c.in-Some.rest.now c.in_err-command.field-0.0 c.in-Some.ensures.parts c.in_err-command.ensures)

pub next-self-requires-clause-room : goal.next-self-requires-clause-room
next-self-requires-clause-room c =
    let h = line_read c.args.self.now.line c.in-Some.line.now (entry_at c.args.self.now.spot c.in-Some.line.now) (c.in_ok-command.command, c.command_of.new.numbers.items) c.in_ok-command.ensures in
    rw c.deref.ensures.value (fits_of c.args.self.now.spot c.in-Some.line.now c.in_ok-command.command c.command_of.new.numbers.items h.1).room

pub next-self-requires-clause-channels : goal.next-self-requires-clause-channels
next-self-requires-clause-channels c =
    let h = line_read c.args.self.now.line c.in-Some.line.now (entry_at c.args.self.now.spot c.in-Some.line.now) (c.in_ok-command.command, c.command_of.new.numbers.items) c.in_ok-command.ensures in
    rw c.deref.ensures.value ((channels_fit c.args.self.now.spot c.in_ok-command.command c.command_of.new.numbers.items c.args.self.now.sound (fits_of c.args.self.now.spot c.in-Some.line.now c.in_ok-command.command c.command_of.new.numbers.items h.1).within).1)

pub next-self-requires-clause-some_channel : goal.next-self-requires-clause-some_channel
next-self-requires-clause-some_channel c =
    let h = line_read c.args.self.now.line c.in-Some.line.now (entry_at c.args.self.now.spot c.in-Some.line.now) (c.in_ok-command.command, c.command_of.new.numbers.items) c.in_ok-command.ensures in
    rw c.deref.ensures.value ((channels_fit c.args.self.now.spot c.in_ok-command.command c.command_of.new.numbers.items c.args.self.now.sound (fits_of c.args.self.now.spot c.in-Some.line.now c.in_ok-command.command c.command_of.new.numbers.items h.1).within).0)

pub returns-clause-read : goal.returns-clause-read
returns-clause-read c =
    let e = unread_more c.args.self.now.spot c.args.self.now.line c.args.self.now.rest.now c.in-Some.line.now c.in-Some.rest.now c.in_ok-command.command c.command_of.new.numbers.items c.in-Some.ensures.parts c.in_ok-command.ensures in
    rw (c.next-self.ensures.value, c.deref.ensures.value) e

pub returns-clause-fits : goal.returns-clause-fits
returns-clause-fits c =
    let h = line_read c.args.self.now.line c.in-Some.line.now (entry_at c.args.self.now.spot c.in-Some.line.now) (c.in_ok-command.command, c.command_of.new.numbers.items) c.in_ok-command.ensures in
    fits_of c.args.self.now.spot c.in-Some.line.now c.in_ok-command.command c.command_of.new.numbers.items h.1
