use Rattle.std.proofs.Common.{List, Option, option_map, ap, sym, ◌∙◌, arith}
use Rattle.std.specs.Prelude.{fold, filter_map}
use Rattle.std.specs.List.{enumerate_from}
use Rattle.std.specs.Option.{option_map_or}
use Rattle.pf_model.specs.declared.geometry.Tri.{Tri}
use Rattle.tri_cover.specs.Picture as pictures
use Rattle.pf_picture.specs.Fragments.{fragment_of}
use Rattle.pf_picture.specs.Shapes.{fragment_at, nearest_of}
use Rattle.pf_picture.proofs.Folding.{fold_numbered_more, fold_numbered_all}
use Rattle.pf_picture.proofs.shapes.Shape.nearest.Goals as goal

pub loop-number-preserved : goal.loop-number-preserved
loop-number-preserved c =
    let a = c.args in
    let at = fragment_at a.lens.now a.px a.py a.self.now in
    c.nearer-nearest.ensures
    ∙ ap (λ (b : Option pictures.Fragment). option_map_or (pictures.nearer b) (at (c.loop-number.number, c.tri-item.result)) b) c.loop-number.invariant
    ∙ sym (fold_numbered_more pictures.nearer at (option_map fragment_of a.best) c.deref-tri-items.result.now c.loop-number.number c.tri-item.result (omega arith) c.tri-item.is)

pub returns : goal.returns
unfolding nearest_of
returns c =
    let a = c.args in
    let at = fragment_at a.lens.now a.px a.py a.self.now in
    c.loop-number.invariant
    ∙ fold_numbered_all pictures.nearer at (option_map fragment_of a.best) c.deref-tri-items.result.now c.loop-number.number (omega arith)
    ∙ ap (λ (ts : List Tri). fold pictures.nearer (option_map fragment_of a.best) (filter_map at (enumerate_from 0 ts))) c.deref-tri-items.ensures.value
