use Rattle.std.proofs.Common.{◌≡◌, refl, sym, ◌∙◌, rules}
use Rattle.live_text.specs.LiveGrammar.{live_entry_at, live_next}
use Rattle.live_text.specs.States.{HeadAfter}
use Rattle.live_text.proofs.Entries.{fits_held, head_line, header_gives}
use Rattle.live_text.proofs.state.State.header.Goals as goal

pub after-head-requires : goal.after-head-requires
after-head-requires c =
    rw c.deref.ensures.value (head_line c.args.self.now c.args.line.now c.in_ok-command.command c.read_live_line.new.numbers.items c.requires.held c.requires.settled c.requires.place c.in_ok-command.ensures)

pub next_spot-self-requires-clause-fits : goal.next_spot-self-requires-clause-fits
next_spot-self-requires-clause-fits c =
    rw c.deref-2.ensures.value (fits_held c.args.self.now c.args.line.now c.in_ok-command.command c.read_live_line.new.numbers.items c.requires.held c.in_ok-command.ensures)

pub returns : goal.returns
returns c =
    let zs = c.read_live_line.new.numbers.items in
    let after : HeadAfter c.args.self.now.spot c.args.self.now.head c.in_ok-command.command zs c.after-head.result.0 c.after-head.result.1 = rw c.deref.ensures.value at c.after-head.ensures in
    header_gives c.args.self.now _ c.args.line.now c.in_ok-command.command zs c.after-head.result.0 c.after-head.result.1 c.requires.held c.requires.few c.requires.settled c.requires.place c.in_ok-command.ensures after
    (record {
      line = refl;
      spot = rw c.deref-2.ensures.value at c.next_spot-self.ensures.value;
      sound = c.next_spot-self.ensures.sound;
      head = refl;
      tris = refl;
      block = refl;
    })
