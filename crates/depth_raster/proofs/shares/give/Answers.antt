use Rattle.std.proofs.Common.{◌<◌, get_or, ap, length, sym, ◌∙◌, subst, arith}
use Rattle.depth_raster.specs.Shares.{Gains}
use Rattle.depth_raster.specs.declared.strip.Strip.{Strip}
use Rattle.depth_raster.proofs.Shared.{gains_none, gains_more, gains_all, gained}
use Rattle.depth_raster.proofs.shares.give.Goals as goal

pub loop-i-init : goal.loop-i-init
loop-i-init c = gains_none c.args.slot c.args.strips.now c.strip_of-start.result c.requires.stacked (omega (arith, c.strip_of-start.ensures))

pub loop-i-preserved : goal.loop-i-preserved
loop-i-preserved c =
    let a = c.args in
    let old = c.index-strips-i.result in
    let i = c.loop-i.i in
    let now = get_or c.loop-i.strips i old in
    let below : i < length a.strips.now = omega (arith, c.loop-i-test.true, c.min-end.ensures) in
    let at = ap (λ (t : Strip). t.band.first) (c.loop-i.invariant.ahead i old (omega arith)) ∙ c.requires.stacked i old below in
    gains_more a.slot a.strips.now c.loop-i.strips i old c.take.new.strip c.loop-i.invariant c.loop-i.auto.strips
    (omega (arith, below, c.loop-i.auto.strips)) c.index-strips-i.is
    (subst (λ (t : Strip). Gains a.slot t c.take.new.strip) (sym c.index-strips-i.is)
    (gained a.slot i c.strips_before.result now c.take.new.strip at (omega (arith, c.strip_of-start.ensures))
    (omega (arith, c.strips_before.ensures)) (omega (arith, c.loop-i-test.true, c.min-end.ensures)) c.take.ensures))

pub take-requires : goal.take-requires
take-requires c =
    let d = c.index-strips-i.result in
    let same = c.loop-i.invariant.ahead c.loop-i.i d (omega arith) in
    omega (arith, ap (λ (t : Strip). length t.slots.items) same, c.requires.room c.loop-i.i d (omega (arith, c.loop-i-test.true, c.min-end.ensures)))

pub returns : goal.returns
returns c =
    let a = c.args in
    gains_all a.slot a.strips.now c.loop-i.strips c.loop-i.i c.requires.stacked c.loop-i.invariant
    (λ i from below. omega (arith, from, below, c.loop-i-test.false, c.min-end.ensures, c.strips_before.ensures))
