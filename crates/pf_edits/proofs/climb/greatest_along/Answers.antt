use Rattle.std.proofs.Common.{◌≡◌, ◌<◌, ℕ, max, length, get_or, take, map, sym, ◌∙◌, ap}
use Rattle.pf_model.specs.Graphs.{greatest}
use Rattle.pf_edits.specs.declared.extents.Extent.{Extent}
use Rattle.pf_edits.specs.Extents.{extent_at}
use Rattle.pf_edits.proofs.Greatest.{heights_more, sizes_more}
use Rattle.pf_edits.proofs.climb.greatest_along.Goals as goal

pub loop-id-preserved : goal.loop-id-preserved
loop-id-preserved c =
    let f : ℕ → Extent = extent_at c.args.records.now.slots in
    let i : ℕ = c.loop-id.id-index in
    let within : i < length c.args.way.now = c.loop-id-test.true in
    let high : c.or-extent.result.height ≡ max c.loop-id.extent.height c.extent_at.result.height = ap (λ (e : Extent). e.height) c.or-extent.ensures in
    let wide : c.or-extent.result.size ≡ max c.loop-id.extent.size c.extent_at.result.size = ap (λ (e : Extent). e.size) c.or-extent.ensures in
    let here : c.extent_at.result.height ≡ (f (get_or c.args.way.now i 0)).height = ap (λ (e : Extent). e.height) c.extent_at.ensures in
    let there : c.extent_at.result.size ≡ (f (get_or c.args.way.now i 0)).size = ap (λ (e : Extent). e.size) c.extent_at.ensures in (
      high ∙ ap (λ n. max n c.extent_at.result.height) c.loop-id.invariant.0 ∙ ap (λ n. max (greatest (map (λ b. (f b).height) (take i c.args.way.now))) n) here ∙ sym (heights_more f c.args.way.now i 0 within),
      wide ∙ ap (λ n. max n c.extent_at.result.size) c.loop-id.invariant.1 ∙ ap (λ n. max (greatest (map (λ b. (f b).size) (take i c.args.way.now))) n) there ∙ sym (sizes_more f c.args.way.now i 0 within),
    )
