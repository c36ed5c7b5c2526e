use Rattle.std.proofs.Common.{◌≡◌, [], arith, refl, false, Some, rules}
use Rattle.play_format.specs.Sections.{is_buffer}
use Rattle.live_text.specs.declared.given.Given.TheVariants as given
use Rattle.live_text.proofs.Moving.{step_added, given_then, placed_outside, block_spells, not_buffer, line_given}
use Rattle.live_text.proofs.state.State.finish.Goals as goal

pub returns-in-Buffer : goal.returns-in-Buffer
returns-in-Buffer c =
    let w = c.args.self.now in
    let moved = c.requires.moved in
    let settled : w.spot.due ≡ 0 = omega (arith, c.if-self-gt0.false) in
    step_added moved.0 moved.1 w c.add_step.new.self moved.2 settled (rw c.in-Buffer.is refl) c.add_step.ensures

pub returns-in-Merge : goal.returns-in-Merge
returns-in-Merge c =
    let w = c.args.self.now in
    let moved = c.requires.moved in
    let settled : w.spot.due ≡ 0 = omega (arith, c.if-self-gt0.false) in
    let outside : is_buffer w.spot.place ≡ false = not_buffer w.spot.place c.in_default.not-Buffer in
    let adds = c.add_step-in-Merge.ensures in
    let items : c.replace.result.items ≡ c.add_step-in-Merge.new.self.block.items = search rules in
    let gone : c.replace.new.dest.items ≡ [] = search rules in
    let block = block_spells moved.0 moved.1 w c.add_step-in-Merge.new.self moved.2 settled c.in-Merge.is adds in
    given_then moved.0 moved.1 w _ (Some (given.Block c.replace.result)) moved.2 settled (placed_outside moved.0 moved.1 w moved.2 outside)
    adds.line adds.spot adds.head adds.tris gone (rw items block)

pub returns-in_default-command : goal.returns-in_default-command
returns-in_default-command c =
    let w = c.args.self.now in
    let moved = c.requires.moved in
    let settled : w.spot.due ≡ 0 = omega (arith, c.if-self-gt0.false) in
    let outside : is_buffer w.spot.place ≡ false = not_buffer w.spot.place c.in_default.not-Buffer in
    line_given moved.0 moved.1 w _ c.take_app_line.result moved.2 settled outside c.in_default-command.not-Merge
    c.take_app_line.ensures.line c.take_app_line.ensures.step refl refl refl c.take_app_line.ensures.left refl
