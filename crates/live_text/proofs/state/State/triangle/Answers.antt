use Rattle.std.proofs.Common.{◌≡◌, ◌+◌, List, ℤ, Ok, refl, sym, ap, subst, ◌∙◌}
use Rattle.pf_model.specs.declared.geometry.Tri.{Tri}
use Rattle.play_format.specs.declared.commands.Command.{Command}
use Rattle.play_format.specs.declared.commands.Command.TheVariants as command
use Rattle.play_format.specs.Making.{tri_of}
use Rattle.play_format.specs.Sections.{is_buffer}
use Rattle.live_text.specs.declared.state.State.{State}
use Rattle.live_text.specs.LiveGrammar.{live_entry_at, live_next}
use Rattle.live_text.specs.States.{LiveFits, Finishes}
use Rattle.live_text.proofs.Entries.{TookTriangle, fits_held, triangle_is, triangle_moved, triangle_full, gives}
use Rattle.live_text.proofs.state.State.triangle.Goals as goal

pub next_spot-self-requires-clause-fits : goal.next_spot-self-requires-clause-fits
next_spot-self-requires-clause-fits c =
    rw c.deref-2.ensures.value (fits_held c.args.self.now c.args.line.now c.in_ok-command.command c.read_live_line.new.numbers.items c.requires.held c.in_ok-command.ensures)

pub finish-requires-clause-moved : goal.finish-requires-clause-moved
finish-requires-clause-moved c =
    let a = c.args.self.now in
    let zs = c.read_live_line.new.numbers.items in
    let held = c.requires.held in
    let fits : LiveFits a.spot c.in_ok-command.command zs = fits_held a c.args.line.now c.in_ok-command.command zs held c.in_ok-command.ensures in
    let is : c.in_ok-command.command ≡ command.Triangle = triangle_is a c.in_ok-command.command zs c.requires.due fits in
    let spot : c.next_spot-self.result ≡ live_next a.spot c.in_ok-command.command zs = rw c.deref-2.ensures.value at c.next_spot-self.ensures.value in
    let tri : c.tri_of.result ≡ tri_of zs = c.tri_of.ensures ∙ ap (λ (ys : List ℤ). tri_of ys) c.deref.ensures.value in (
      held.0,
      is_buffer a.spot.place,
      triangle_moved held.0 a _ zs held.1 c.requires.few c.requires.due (subst (λ (d : Command). LiveFits a.spot d zs) is fits)
          (record {
            line = refl;
            spot = spot ∙ ap (λ (d : Command). live_next a.spot d zs) is;
            sound = c.next_spot-self.ensures.sound;
            head = refl;
            number = refl;
            command = refl;
            numbers = refl;
            tris = rw (← tri) c.in_ok-push.ensures.items;
            block = c.in_ok-reserve.ensures.items;
          }),
    )

pub returns : goal.returns
returns c =
    let a = c.args.self.now in
    let zs = c.read_live_line.new.numbers.items in
    let held = c.requires.held in
    let w : State = record {
      alloc = a.alloc;
      line = a.line + 1;
      spot = c.next_spot-self.result;
      head = a.head;
      opened = record { line = a.opened.line; command = a.opened.command; numbers = a.opened.numbers; tris = c.push.new.self };
      block = c.reserve.new.self;
      corners = c.read_live_line.new.numbers;
    } in
    let fits : LiveFits a.spot c.in_ok-command.command zs = fits_held a c.args.line.now c.in_ok-command.command zs held c.in_ok-command.ensures in
    let is : c.in_ok-command.command ≡ command.Triangle = triangle_is a c.in_ok-command.command zs c.requires.due fits in
    let read : live_entry_at a.spot c.args.line.now ≡ Ok (command.Triangle, zs) = rw is at c.in_ok-command.ensures in
    let spot : c.next_spot-self.result ≡ live_next a.spot c.in_ok-command.command zs = rw c.deref-2.ensures.value at c.next_spot-self.ensures.value in
    let next : c.next_spot-self.result ≡ live_next a.spot command.Triangle zs = spot ∙ ap (λ (d : Command). live_next a.spot d zs) is in
    let tri : c.tri_of.result ≡ tri_of zs = c.tri_of.ensures ∙ ap (λ (ys : List ℤ). tri_of ys) c.deref.ensures.value in
    gives held.0 a w c.finish.new.self c.args.line.now (command.Triangle, zs) c.finish.result held.1 read refl next
    (triangle_full held.0 a w zs held.1 c.requires.due (subst (λ (d : Command). LiveFits a.spot d zs) is fits)
    (record {
      line = refl;
      spot = next;
      sound = c.next_spot-self.ensures.sound;
      head = refl;
      number = refl;
      command = refl;
      numbers = refl;
      tris = rw (← tri) c.in_ok-push.ensures.items;
      block = c.in_ok-reserve.ensures.items;
    })) c.finish.ensures
