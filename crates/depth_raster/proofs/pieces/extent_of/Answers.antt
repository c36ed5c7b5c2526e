use Rattle.std.proofs.Common.{◌+◌, Option, sym, subst, refl}
use Rattle.tri_cover.specs.declared.face.Face as faces
use Rattle.tri_cover.specs.Readiness.{IsReady}
use Rattle.depth_raster.specs.Around.{IsFaceBox, IsBoxOf}
use Rattle.depth_raster.specs.declared.extents.Extent.{Extent}
use Rattle.depth_raster.proofs.Readied.{face_around, nothing_around}
use Rattle.depth_raster.proofs.pieces.extent_of.Goals as goal

pub returns-in-None : goal.returns-in-None
returns-in-None c =
    let a = c.args in
    let e : Extent = record { left = 0; right = 0; top = 0; bottom = 0 } in
    record {
      around = nothing_around a.lens.now a.tri.now (subst (λ (r : Option faces.Face). IsReady a.lens.now a.tri.now r) c.in-None.is c.requires);
      exact = subst (λ (r : Option faces.Face). IsBoxOf r e) (sym c.in-None.is) tt;
    }

pub returns-in-Some : goal.returns-in-Some
returns-in-Some c =
    let a = c.args in
    let f = c.in-Some.face in
    let e : Extent = record { left = f.extent.columns.first; right = f.extent.columns.last + 1; top = f.extent.rows.first; bottom = f.extent.rows.last + 1 } in
    let ready = subst (λ (r : Option faces.Face). IsReady a.lens.now a.tri.now r) c.in-Some.is c.requires in
    let box : IsFaceBox f e = record { left = refl; right = refl; top = refl; bottom = refl } in
    record {
      around = face_around a.lens.now a.tri.now f e ready box;
      exact = subst (λ (r : Option faces.Face). IsBoxOf r e) (sym c.in-Some.is) box;
    }
