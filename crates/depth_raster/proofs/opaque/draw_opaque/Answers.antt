use Rattle.std.proofs.Common.{◌≡◌, Bool, List, take, ap, sym, ◌∙◌, subst, arith}
use Rattle.std.specs.List.{All, slice_get}
use Rattle.std.specs.Option.{option_to_list}
use Rattle.std.proofs.lemmas.List.{length-map, take_all}
use Rattle.pf_model.specs.Walks.{Instance}
use Rattle.draw_list.specs.Items.{instance_of_item}
use Rattle.draw_list.specs.Lists.{instances_in}
use Rattle.depth_raster.specs.Canvas.{drawn_with, drawn_after}
use Rattle.depth_raster.specs.Drawing.{opaque_over}
use Rattle.depth_raster.specs.Pieces.{IsPieceOf}
use Rattle.depth_raster.specs.declared.waiting.Waiting.{Waiting}
use Rattle.depth_raster.specs.declared.pieces.Piece.{Piece}
use Rattle.depth_raster.proofs.Items.{opaque_none, opaque_more}
use Rattle.depth_raster.proofs.Prepared.{none_gathered, drawn_appended, appended_ready}
use Rattle.depth_raster.proofs.opaque.draw_opaque.Goals as goal

pub loop-number-init : goal.loop-number-init
loop-number-init g c =
    let a = c.args in
    let b = a.batch.now in
    let d = c.clear_waiting.new.self in
    let ready = subst (λ (ps : List Piece). All (IsPieceOf a.lens.now) ps) (sym c.clear_waiting.ensures.pieces) c.requires.ready in
    record {
      sound = c.requires.sound;
      gathered = none_gathered a.list.now a.lens.now d.pieces d.waiting.items d.few ready c.clear_waiting.ensures.waiting;
      drawn = λ px py column row.
          ap (λ (ws : List Waiting). drawn_after a.list.now a.lens.now d.is_first a.strips.now.items d.pieces ws px py) c.clear_waiting.ensures.waiting
          ∙ ap (λ (first : Bool). drawn_with a.lens.now first a.strips.now.items d.pieces px py) c.clear_waiting.ensures.first
          ∙ ap (λ (ps : List Piece). drawn_with a.lens.now b.is_first a.strips.now.items ps px py) c.clear_waiting.ensures.pieces
          ∙ opaque_none a.lens.now px py (drawn_with a.lens.now b.is_first a.strips.now.items b.pieces px py);
    }

pub loop-number-preserved : goal.loop-number-preserved
loop-number-preserved g c = record {
  sound = c.draw_numbered.ensures.sound;
  gathered = c.draw_numbered.ensures.gathered;
  drawn = λ px py column row.
      let a = c.args in
      let xs = instances_in a.list.now in
      c.draw_numbered.ensures.drawn px py column row
      ∙ ap (opaque_over a.lens.now (option_to_list (slice_get xs c.loop-number.number)) px py) (c.loop-number.invariant.drawn px py column row)
      ∙ opaque_more a.lens.now xs c.loop-number.number px py (drawn_with a.lens.now a.batch.now.is_first a.strips.now.items a.batch.now.pieces px py);
}

pub returns-clause-ready : goal.returns-clause-ready
returns-clause-ready g c =
    let d = c.loop-number.batch in
    appended_ready c.args.list.now c.args.lens.now d.waiting.items d.pieces c.prepare.new.self.pieces c.prepare.ensures.pieces c.loop-number.invariant.gathered.ready

pub returns-clause-drawn : goal.returns-clause-drawn
returns-clause-drawn g c = λ px py column row.
    let a = c.args in
    let lens = a.lens.now in
    let lists = a.list.now.joints.lists in
    let xs = instances_in a.list.now in
    let b = a.batch.now in
    let d = c.loop-number.batch in
    let after = c.loop-number.strips.items in
    let all : take c.loop-number.number xs ≡ xs = take_all c.loop-number.number xs (omega (arith, length-map a.list.now.items.items (instance_of_item lists a.list.now.kept.tris))) in
    ap (λ (first : Bool). drawn_with lens first after c.prepare.new.self.pieces px py) c.prepare.ensures.first
    ∙ drawn_appended c.args.list.now lens d.is_first after d.waiting.items d.pieces c.prepare.new.self.pieces px py c.prepare.ensures.pieces
    ∙ c.loop-number.invariant.drawn px py column row
    ∙ ap (λ (ys : List Instance). opaque_over lens ys px py (drawn_with lens b.is_first a.strips.now.items b.pieces px py)) all
