use Rattle.std.proofs.Common.{◌≤◌, Bool, length, ◌||◌, ap, sym, ◌∙◌, arith}
use Rattle.std.specs.List.{list_any, slice_get}
use Rattle.std.specs.Option.{option_to_list}
use Rattle.std.proofs.lemmas.List.{length-map, take_all}
use Rattle.tri_cover.specs.Glass.{is_glass}
use Rattle.draw_list.specs.Items.{instance_of_item}
use Rattle.draw_list.specs.Lists.{instances_in}
use Rattle.depth_raster.proofs.InPieces.{glass_next, glass_found}
use Rattle.depth_raster.proofs.piece_raster.has_glass.Goals as goal

pub loop-number-preserved : goal.loop-number-preserved
loop-number-preserved c =
    let xs = instances_in c.args.list.now in
    let n = c.loop-number.number in
    glass_next xs n
    ∙ ap (λ (t : Bool). t || list_any is_glass (option_to_list (slice_get xs n))) c.loop-number.invariant
    ∙ sym c.is_glass.ensures
    ∙ c.if-is_glass.false

pub returns-then-is_glass : goal.returns-then-is_glass
returns-then-is_glass c =
    sym (glass_found (instances_in c.args.list.now) c.loop-number.number (sym c.is_glass.ensures ∙ c.if-is_glass.true))

pub returns : goal.returns
returns c =
    let d = c.args.list.now in
    let xs = instances_in d in
    let short : length xs ≤ c.loop-number.number = omega (arith, length-map d.items.items (instance_of_item d.joints.lists d.kept.tris)) in
    sym (ap (list_any is_glass) (sym (take_all c.loop-number.number xs short)) ∙ c.loop-number.invariant)
