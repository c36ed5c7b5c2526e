use Rattle.std.proofs.Common.{◌≡◌, ℕ, ◌<◌, List, [], ◌∷◌, ◌++◌, length, length-append, get_or, ap, sym, ◌∙◌, arith, ⊎_elim}
use Rattle.std.proofs.lemmas.Bool.{cases_eq}
use Rattle.std.proofs.lemmas.List.{get_or_push, get_or_append_left}
use Rattle.std.proofs.lemmas.List.Elements.{All-push}
use Rattle.depth_raster.specs.Strips.{band_at, IsToBe}
use Rattle.depth_raster.specs.declared.strip.Strip.{Strip}
use Rattle.depth_raster.proofs.raster.new_strips.Goals as goal

pub loop-i-preserved : goal.loop-i-preserved
loop-i-preserved c =
    let lens = c.args.lens.now in
    let i = c.loop-i.i in
    let above = c.loop-i.strips.items in
    let s = c.in_ok-new_strip.field-0 in
    let strips = c.push.new.self.items in
    let had = c.loop-i.invariant in
    let items : strips ≡ above ++ s ∷ [] = c.in_ok-push.ensures.items in
    let band : s.band ≡ band_at lens i = c.in_ok-new_strip.ensures.0 ∙ c.band_at.ensures in
    let last : (k : ℕ) (d : Strip) → k ≡ i → get_or strips k d ≡ s = λ k d same. ap (λ (ss : List Strip). get_or ss k d) items ∙ get_or_push above s d k (had.count ∙ sym same) in
    let earlier : (k : ℕ) (d : Strip) → k < i → get_or strips k d ≡ get_or above k d = λ k d before. ap (λ (ss : List Strip). get_or ss k d) items ∙ get_or_append_left above (s ∷ []) d k (omega (arith, before, had.count)) in
    record {
      count = omega (arith, ap length items, length-append above (s ∷ []), had.count);
      bands = λ k d below. ⊎_elim
          (λ same. ap (λ (t : Strip). t.band) (last k d same) ∙ band ∙ ap (band_at lens) (sym same))
          (λ differ. ap (λ (t : Strip). t.band) (earlier k d (omega (arith, below, differ))) ∙ had.bands k d (omega (arith, below, differ)))
          (cases_eq k i);
      each = rw items (All-push IsToBe above s had.each c.in_ok-new_strip.ensures.1);
    }
