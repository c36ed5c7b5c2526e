use Rattle.std.proofs.Common.{ℕ, ◌-◌, ◌*◌, ◌<◌, min, length, ap, sym, ◌∙◌, subst, arith}
use Rattle.depth_raster.specs.Shown.{IsSeenAs}
use Rattle.depth_raster.specs.declared.blocks.Block.{Block}
use Rattle.depth_raster.specs.declared.strip.Strip.{Strip}
use Rattle.depth_raster.proofs.Handed.{same_strips, band_handed, handed_shown}
use Rattle.depth_raster.proofs.Tiling.{tile_drawn, tiles_begun, tiles_done}
use Rattle.depth_raster.proofs.shown.exchange_rows.Goals as goal

pub loop-i-init : goal.loop-i-init
loop-i-init c = record {
  parts = tiles_begun IsSeenAs c.args.strips.now;
  width = c.requires.width;
  height = c.requires.height;
  bands = λ k d below in_list. absurd (omega (arith, below));
}

pub hand_rows-requires : goal.hand_rows-requires
hand_rows-requires c =
    let a = c.args in
    let i = c.loop-i.i in
    let s = c.index-strips-i.result in
    let below : i < length a.strips.now = omega (arith, c.loop-i-test.true, c.loop-i.auto.strips) in
    let band = ap (λ (t : Strip). t.band) (c.index-strips-i.is ∙ c.loop-i.invariant.parts.ahead i s (omega arith)) ∙ c.requires.strips.bands i s below in
    record {
      number = omega (arith, below, c.requires.strips.count, c.loop-i.invariant.height);
      size = ap (λ (t : Strip). length t.rows.items) (sym c.index-strips-i.is) ∙ s.whole
          ∙ ap (λ (b : Block). 3 * (b.rows * b.width)) band
          ∙ ap (λ (w : ℕ). 3 * (min 16 (a.lens.now.h - 16 * i) * w)) (sym c.loop-i.invariant.width)
          ∙ ap (λ (h : ℕ). 3 * (min 16 (h - 16 * i) * c.loop-i.image.width)) (sym c.loop-i.invariant.height);
    }

pub loop-i-preserved : goal.loop-i-preserved
loop-i-preserved c =
    let a = c.args in
    let i = c.loop-i.i in
    let old = c.index-strips-i.result in
    let hand = c.hand_rows in
    let had = c.loop-i.invariant in
    let below : i < length a.strips.now = omega (arith, c.loop-i-test.true, c.loop-i.auto.strips) in
    record {
      parts = tile_drawn IsSeenAs a.strips.now c.loop-i.strips i old hand.new.strip had.parts c.loop-i.auto.strips
          (omega (arith, below, c.loop-i.auto.strips)) c.index-strips-i.is (subst (λ (s : Strip). IsSeenAs s hand.new.strip) (sym c.index-strips-i.is) hand.ensures.seen);
      width = hand.ensures.width ∙ had.width;
      height = hand.ensures.height ∙ had.height;
      bands = band_handed c.loop-i.image hand.new.image a.strips.now c.loop-i.strips i old had.bands had.parts c.index-strips-i.is below
          (omega (arith, c.requires.strips.count, had.height)) (hand.ensures.band ∙ ap (λ (s : Strip). s.rows.items) (sym c.index-strips-i.is)) hand.ensures.others;
    }

pub returns : goal.returns
returns c =
    let a = c.args in
    let had = c.loop-i.invariant in
    let seen = tiles_done IsSeenAs a.strips.now c.loop-i.strips c.loop-i.i (omega arith) had.parts in
    record {
      strips = same_strips a.strips.now c.loop-i.strips seen;
      width = had.width ∙ sym c.requires.width;
      height = had.height ∙ sym c.requires.height;
      pixels = λ px py column row.
          handed_shown a.lens.now a.strips.now c.loop-i.strips c.loop-i.image c.requires.strips c.loop-i.auto.strips seen c.requires.shown had.width had.height
          (λ k d below in_list. had.bands k d (omega (arith, in_list)) in_list) px py (omega (arith, column, had.width)) (omega (arith, row, had.height));
    }
