use Rattle.std.proofs.Common.{ℕ, List, option_map, ap, sym, ◌∙◌, arith}
use Rattle.std.specs.Prelude.{fold, filter_map}
use Rattle.std.specs.List.{enumerate_from}
use Rattle.std.specs.Option.{option_map_or}
use Rattle.pf_model.specs.declared.geometry.Tri.{Tri}
use Rattle.tri_cover.specs.Picture as pictures
use Rattle.pf_picture.specs.Fragments.{fragment_of}
use Rattle.pf_picture.specs.Shapes.{fragment_at, glazed_by}
use Rattle.pf_picture.proofs.Folding.{fold_numbered_more, fold_numbered_all}
use Rattle.pf_picture.proofs.shapes.Shape.glazed.Goals as goal

pub loop-number-preserved : goal.loop-number-preserved
loop-number-preserved c =
    let a = c.args in
    let at = fragment_at a.lens.now a.px a.py a.self.now in
    let over = pictures.glazed (option_map fragment_of a.behind.now) a.self.now.alpha in
    c.glazed_by-glazed.ensures
    ∙ ap (λ (u : List ℕ). option_map_or (over u) (at (c.loop-number.number, c.tri-item.result)) u) c.loop-number.invariant
    ∙ sym (fold_numbered_more over at a.under c.deref-tri-items.result.now c.loop-number.number c.tri-item.result (omega arith) c.tri-item.is)

pub returns : goal.returns
unfolding glazed_by
returns c =
    let a = c.args in
    let at = fragment_at a.lens.now a.px a.py a.self.now in
    let over = pictures.glazed (option_map fragment_of a.behind.now) a.self.now.alpha in
    c.loop-number.invariant
    ∙ fold_numbered_all over at a.under c.deref-tri-items.result.now c.loop-number.number (omega arith)
    ∙ ap (λ (ts : List Tri). fold over a.under (filter_map at (enumerate_from 0 ts))) c.deref-tri-items.ensures.value
