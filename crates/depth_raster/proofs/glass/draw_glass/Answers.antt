use Rattle.std.proofs.Common.{◌≡◌, ℕ, ◌≤◌, List, length, Option, Some, None, ap, sym, ◌∙◌, refl, subst, arith}
use Rattle.std.specs.List.{slice_get}
use Rattle.std.specs.Option.{option_to_list}
use Rattle.std.proofs.lemmas.List.{length-map}
use Rattle.pf_model.specs.Walks.{Instance}
use Rattle.tri_cover.specs.Picture.{Fragment}
use Rattle.draw_list.specs.Items.{instance_of_item}
use Rattle.draw_list.specs.Lists.{instances_in}
use Rattle.depth_raster.specs.Canvas.{behind_at, glazed_with}
use Rattle.depth_raster.specs.Drawing.{glass_glazes}
use Rattle.depth_raster.specs.Panes.{IsNextBelow, panes_left}
use Rattle.depth_raster.proofs.Listed.{empty_from_length}
use Rattle.depth_raster.proofs.NextPane.{next_left, nothing_left}
use Rattle.depth_raster.proofs.PanesLeft.{instances_of, few_left, left_in_order, glazes_none, glazes_next}
use Rattle.depth_raster.proofs.glass.draw_glass.Goals as goal

pub loop-count-init : goal.loop-count-init
loop-count-init g c =
    let d = c.args.list.now in
    record {
      sound = c.requires.sound;
      stands = tt;
      left = omega (arith, few_left (instances_in d), length-map d.items.items (instance_of_item d.joints.lists d.kept.tris));
      behind = λ px py column row. refl;
      drawn = λ px py column row. refl;
    }

pub loop-count-preserved : goal.loop-count-preserved
loop-count-preserved g c =
    let a = c.args in
    let d = a.list.now in
    let xs = instances_in d in
    let last = c.loop-count.last in
    let pane = c.in-Some.pane in
    let ps = c.loop-count.batch.pieces in
    let long : length d.items.items ≡ length xs = sym (length-map d.items.items (instance_of_item d.joints.lists d.kept.tris)) in
    let next = next_left xs last pane (subst (λ (n : ℕ). IsNextBelow xs last n (Some pane)) long c.in-Some.ensures) in
    record {
      sound = c.draw_pane.ensures.sound;
      stands = c.in-Some.ensures.stands;
      left = omega (arith, ap length next.left, c.loop-count.invariant.left);
      behind = λ px py column row. c.draw_pane.ensures.glass.behind px py column row ∙ c.loop-count.invariant.behind px py column row;
      drawn = λ px py column row.
          let behind = behind_at a.strips.now.items px py in
          ap (glass_glazes a.lens.now behind (instances_of (panes_left xs (Some pane))) px py)
          (c.draw_pane.ensures.glass.colours px py column row
          ∙ ap (λ (b : Option Fragment). glass_glazes a.lens.now b (option_to_list (slice_get xs pane.number)) px py (glazed_with a.lens.now c.loop-count.strips.items ps px py)) (c.loop-count.invariant.behind px py column row))
          ∙ glazes_next a.lens.now behind xs last pane next px py (glazed_with a.lens.now c.loop-count.strips.items ps px py)
          ∙ c.loop-count.invariant.drawn px py column row;
    }

pub returns-in-None-clause-glass : goal.returns-in-None-clause-glass
returns-in-None-clause-glass g c =
    let a = c.args in
    let d = a.list.now in
    let xs = instances_in d in
    let last = c.loop-count.last in
    let long : length d.items.items ≡ length xs = sym (length-map d.items.items (instance_of_item d.joints.lists d.kept.tris)) in
    let none = nothing_left xs last (subst (λ (n : ℕ). IsNextBelow xs last n None) long c.in-None.ensures) in
    record {
      behind = c.loop-count.invariant.behind;
      colours = λ px py column row.
          let behind = behind_at a.strips.now.items px py in
          let now = glazed_with a.lens.now c.loop-count.strips.items c.loop-count.batch.pieces px py in
          sym (glazes_none a.lens.now behind px py now)
          ∙ ap (λ (es : List (ℕ × Instance)). glass_glazes a.lens.now behind (instances_of es) px py now) (sym none)
          ∙ c.loop-count.invariant.drawn px py column row
          ∙ ap (λ (ys : List Instance). glass_glazes a.lens.now behind ys px py (glazed_with a.lens.now a.strips.now.items a.batch.now.pieces px py)) (left_in_order xs);
    }

pub returns-clause-glass : goal.returns-clause-glass
returns-clause-glass g c =
    let a = c.args in
    let xs = instances_in a.list.now in
    let last = c.loop-count.last in
    let short : length (panes_left xs last) ≤ 0 = omega (arith, c.loop-count.invariant.left) in
    let none = empty_from_length (panes_left xs last) short in
    record {
      behind = c.loop-count.invariant.behind;
      colours = λ px py column row.
          let behind = behind_at a.strips.now.items px py in
          let now = glazed_with a.lens.now c.loop-count.strips.items c.loop-count.batch.pieces px py in
          sym (glazes_none a.lens.now behind px py now)
          ∙ ap (λ (es : List (ℕ × Instance)). glass_glazes a.lens.now behind (instances_of es) px py now) (sym none)
          ∙ c.loop-count.invariant.drawn px py column row
          ∙ ap (λ (ys : List Instance). glass_glazes a.lens.now behind ys px py (glazed_with a.lens.now a.strips.now.items a.batch.now.pieces px py)) (left_in_order xs);
    }
