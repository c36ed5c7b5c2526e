use Rattle.std.proofs.Common.{◌+◌, ◌≤◌, ◌≡◌, true, false, Some, List, length, refl, sym, ap, ◌∙◌, subst}
use Rattle.std.specs.List.{list_all}
use Rattle.pf_model.specs.declared.lines.BaseLine.{BaseLine}
use Rattle.play_format.specs.Plays.{base_fits, open_after}
use Rattle.frame_stages.specs.Scripts.{most_lines}
use Rattle.pipe_core.specs.LiveRuns.{block_refusal}
use Rattle.pipe_core.proofs.LiveRuns.{block_given, block_runs, block_comes, given_blames}
use Rattle.pipe_core.proofs.pipe.Pipe.make_merges.Goals as goal

pub make_block-requires-clause-short : goal.make_block-requires-clause-short
make_block-requires-clause-short g c κs within =
    let p = c.args.self.now in
    let block = c.args.block in
    let given = block_given p block (ap (block_refusal p) (sym c.as_slice.ensures) ∙ sym c.block_refusal.ensures ∙ c.in-None.is) in
    subst (λ (ls : List BaseLine). length ls ≤ 262144) (sym c.into_lines.ensures) given.short

pub make_block-requires-clause-few : goal.make_block-requires-clause-few
make_block-requires-clause-few g c κs within =
    let p = c.args.self.now in
    let block = c.args.block in
    let given = block_given p block (ap (block_refusal p) (sym c.as_slice.ensures) ∙ sym c.block_refusal.ensures ∙ c.in-None.is) in
    subst (λ (ls : List BaseLine). p.dbase.at + (length p.dbase.rest + length ls) ≤ most_lines) (sym c.into_lines.ensures) given.few

pub make_block-requires-clause-fit : goal.make_block-requires-clause-fit
make_block-requires-clause-fit g c κs within =
    let p = c.args.self.now in
    let block = c.args.block in
    let given = block_given p block (ap (block_refusal p) (sym c.as_slice.ensures) ∙ sym c.block_refusal.ensures ∙ c.in-None.is) in
    subst (λ (ls : List BaseLine). list_all (λ l. base_fits l.step) ls ≡ true) (sym c.into_lines.ensures) given.fits

pub make_block-requires-clause-order : goal.make_block-requires-clause-order
make_block-requires-clause-order g c κs within =
    let p = c.args.self.now in
    let block = c.args.block in
    let given = block_given p block (ap (block_refusal p) (sym c.as_slice.ensures) ∙ sym c.block_refusal.ensures ∙ c.in-None.is) in
    subst (λ (ls : List BaseLine). open_after false ls ≡ Some false) (sym c.into_lines.ensures) given.order

pub make_block-requires-clause-going : goal.make_block-requires-clause-going
make_block-requires-clause-going g c κs within =
    let p = c.args.self.now in
    let block = c.args.block in
    let given = block_given p block (ap (block_refusal p) (sym c.as_slice.ensures) ∙ sym c.block_refusal.ensures ∙ c.in-None.is) in
    given.going

pub returns-in-Some-clause-comes : goal.returns-in-Some-clause-comes
returns-in-Some-clause-comes g c = λ play ahead may ready.
    (ap (block_refusal c.args.self.now) (sym c.as_slice.ensures) ∙ sym c.block_refusal.ensures ∙ c.in-Some.is, refl, refl)

pub returns-in-None-clause-comes : goal.returns-in-None-clause-comes
returns-in-None-clause-comes g c = λ play ahead may ready.
    let p = c.args.self.now in
    let block = c.args.block in
    let given = block_given p block (ap (block_refusal p) (sym c.as_slice.ensures) ∙ sym c.block_refusal.ensures ∙ c.in-None.is) in
    rw c.answer_of.ensures
    (block_comes play ahead block c.into_lines.result.items c.make_block.result p c.make_block.new.self
    (g.O.Sink.written c.args.frames.now) (g.O.Sink.written c.make_block.new.frames) c.into_lines.ensures
    (block_runs play ahead p block may given) may.not_stuck
    (λ can free. c.make_block.ensures.made play ahead can free ready)
    (λ can. c.make_block.ensures.failed play ahead can ready.keeps))

pub returns-in-None-clause-blames : goal.returns-in-None-clause-blames
returns-in-None-clause-blames g c = rw c.answer_of.ensures (given_blames c.make_block.result _ _ _ _ c.make_block.ensures.blames)
