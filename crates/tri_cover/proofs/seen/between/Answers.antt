use Rattle.std.proofs.Common.{Option, sym, subst, refl}
use Rattle.fx_math.specs.Views.{point_of}
use Rattle.tri_cover.specs.declared.extent.Extent.{Extent}
use Rattle.tri_cover.specs.Extents.{IsExtentOf}
use Rattle.tri_cover.proofs.Visible.{before_eye, no_column, no_row, between_seen}
use Rattle.tri_cover.proofs.seen.between.Goals as goal

pub columns-requires : goal.columns-requires
columns-requires c = before_eye c.args.lens.now (point_of c.args.u) (point_of c.args.v) (point_of c.args.w) c.requires

pub rows-requires : goal.rows-requires
rows-requires c = before_eye c.args.lens.now (point_of c.args.u) (point_of c.args.v) (point_of c.args.w) c.requires

pub returns-in_err-columns-clause-value : goal.returns-in_err-columns-clause-value
returns-in_err-columns-clause-value c =
    subst (λ (o : Option Extent). IsExtentOf c.args.lens.now (point_of c.args.u) (point_of c.args.v) (point_of c.args.w) o) (sym c.from_residual.ensures)
    (no_column c.args.lens.now (point_of c.args.u) (point_of c.args.v) (point_of c.args.w) c.requires c.in_err-columns.ensures)

pub returns-in_err-rows-clause-value : goal.returns-in_err-rows-clause-value
returns-in_err-rows-clause-value c =
    subst (λ (o : Option Extent). IsExtentOf c.args.lens.now (point_of c.args.u) (point_of c.args.v) (point_of c.args.w) o) (sym c.from_residual-in_err-rows.ensures)
    (no_row c.args.lens.now (point_of c.args.u) (point_of c.args.v) (point_of c.args.w) c.requires c.in_err-rows.ensures)

pub returns-clause-value : goal.returns-clause-value
returns-clause-value c =
    between_seen c.args.lens.now (point_of c.args.u) (point_of c.args.v) (point_of c.args.w) _ c.requires c.in_ok-columns.ensures c.in_ok-rows.ensures refl refl
