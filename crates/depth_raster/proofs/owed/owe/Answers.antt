use Rattle.std.proofs.Common.{◌+◌, refl, ap, sym, ◌∙◌}
use Rattle.depth_raster.specs.Marks.{mark_over}
use Rattle.depth_raster.specs.declared.marks.Mark.{Mark}
use Rattle.depth_raster.proofs.Owing.{owed_at, owed_topped, only_owed, blank_at}
use Rattle.depth_raster.proofs.owed.owe.Goals as goal

pub invariant_of-tile-clause-unwritten : goal.invariant_of-tile-clause-unwritten
invariant_of-tile-clause-unwritten c = λ o is. c.args.tile.now.blanked c.requires.blank

pub invariant_of-tile-clause-owing : goal.invariant_of-tile-clause-owing
invariant_of-tile-clause-owing c = only_owed c.args.tile.now.block c.args.owed.now c.requires.covered

pub invariant_of-tile-clause-topped : goal.invariant_of-tile-clause-topped
invariant_of-tile-clause-topped c = owed_topped c.args.tile.now.block c.args.owed.now c.requires.covered

pub returns : goal.returns
returns c =
    let t = c.args.tile.now in
    let b = t.block in
    let o = c.args.owed.now in
    record {
      block = refl;
      colours = refl;
      marks = λ q r column row.
          owed_at o b q r column row
          ∙ ap (λ (m : Mark). mark_over o.lens (b.left + q) (b.first + r) o.piece.face m) (sym (blank_at t q r c.requires.blank column row));
    }
