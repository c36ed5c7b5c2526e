use Rattle.std.proofs.Common.{◌≡◌, ◌+◌, refl, sym, ◌∙◌}
use Rattle.play_format.specs.Sections.{is_buffer}
use Rattle.live_text.specs.declared.state.State.{State}
use Rattle.live_text.specs.LiveGrammar.{live_entry_at, live_next}
use Rattle.live_text.specs.States.{Finishes}
use Rattle.live_text.proofs.Entries.{Took, fits_held, command_moved, command_full, gives}
use Rattle.live_text.proofs.state.State.command.Goals as goal

pub next_spot-self-requires-clause-fits : goal.next_spot-self-requires-clause-fits
next_spot-self-requires-clause-fits c =
    rw c.deref.ensures.value (fits_held c.args.self.now c.args.line.now c.in_ok-command.command c.read_live_line.new.numbers.items c.requires.held c.in_ok-command.ensures)

pub finish-requires-clause-moved : goal.finish-requires-clause-moved
finish-requires-clause-moved c =
    let a = c.args.self.now in
    let zs = c.read_live_line.new.numbers.items in
    let held = c.requires.held in (
      held.0,
      is_buffer a.spot.place,
      command_moved held.0 a _ c.in_ok-command.command zs held.1 c.requires.few c.requires.settled c.requires.place
          (fits_held a c.args.line.now c.in_ok-command.command zs held c.in_ok-command.ensures)
          (record {
            line = refl;
            spot = rw c.deref.ensures.value at c.next_spot-self.ensures.value;
            sound = c.next_spot-self.ensures.sound;
            head = refl;
            number = refl;
            command = refl;
            numbers = refl;
            tris = refl;
            block = c.in_ok-reserve.ensures.items;
          }),
    )

pub returns : goal.returns
returns c =
    let a = c.args.self.now in
    let zs = c.read_live_line.new.numbers.items in
    let held = c.requires.held in
    let w : State = record {
      alloc = a.alloc;
      line = a.line + 1;
      spot = c.next_spot-self.result;
      head = a.head;
      opened = record { line = a.line; command = c.in_ok-command.command; numbers = c.read_live_line.new.numbers; tris = a.opened.tris };
      block = c.reserve.new.self;
      corners = a.corners;
    } in
    let spot : c.next_spot-self.result ≡ live_next a.spot c.in_ok-command.command zs = rw c.deref.ensures.value at c.next_spot-self.ensures.value in
    gives held.0 a w c.finish.new.self c.args.line.now (c.in_ok-command.command, zs) c.finish.result held.1 c.in_ok-command.ensures refl spot
    (command_full held.0 a w c.in_ok-command.command zs held.1 c.requires.settled c.requires.place
    (record {
      line = refl;
      spot = spot;
      sound = c.next_spot-self.ensures.sound;
      head = refl;
      number = refl;
      command = refl;
      numbers = refl;
      tris = refl;
      block = c.in_ok-reserve.ensures.items;
    })) c.finish.ensures
