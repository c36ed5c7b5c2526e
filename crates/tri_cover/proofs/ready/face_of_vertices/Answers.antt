use Rattle.std.proofs.Common.{◌≡◌, ◌≢◌, ◌*◌, ℤ, unsigned_abs, to_z, of_z, Option, None, Some, pos, ap, ◌∙◌, sym, subst, arith, lit<}
use mir.Syntax.{w128}
use Rattle.std.proofs.lemmas.Int.{ints}
use Rattle.fx_math.specs.Plain.{Point}
use Rattle.fx_math.specs.Views.{point_of}
use Rattle.fx_math.specs.Hit.{det3}
use Rattle.fx_math.proofs.Size.{back}
use Rattle.tri_cover.specs.declared.extent.Extent.{Extent}
use Rattle.tri_cover.specs.declared.face.Face.{Face}
use Rattle.tri_cover.specs.Extents.{IsExtentOf}
use Rattle.tri_cover.specs.Planes.{cross, product, AreEdgesOf}
use Rattle.tri_cover.specs.Readiness.{Foretells}
use Rattle.tri_cover.proofs.EdgeLines.{det_first, edges_same}
use Rattle.tri_cover.proofs.FaceHits.{flat_hits, unseen_hits, face_hits}
use Rattle.tri_cover.proofs.ready.face_of_vertices.Goals as goal

pub returns-then-volume-eq0 : goal.returns-then-volume-eq0
returns-then-volume-eq0 c = λ px py in_row in_picture.
    let u = point_of c.args.u in
    let v = point_of c.args.v in
    let w = point_of c.args.w in
    let volume = c.volume-volume.result in
    let same : volume ≡ det3 u v w = c.volume-volume.ensures.value ∙ ap (λ (k : Point). product u k) c.through-first.ensures ∙ sym (det_first u v w) in
    let flat : volume ≡ pos 0 = omega (arith, ints) in
    flat_hits c.args.lens.now u v w c.args.colours volume same flat px py

pub returns-in_err-extent : goal.returns-in_err-extent
returns-in_err-extent c =
    let u = point_of c.args.u in
    let v = point_of c.args.v in
    let w = point_of c.args.w in
    let volume = c.volume-volume.result in
    let same : volume ≡ det3 u v w = c.volume-volume.ensures.value ∙ ap (λ (k : Point). product u k) c.through-first.ensures ∙ sym (det_first u v w) in
    let some : volume ≢ pos 0 = λ e. c.if-volume-eq0.false (ap (λ (z : ℤ). of_z w128 z) e) in
    let none : IsExtentOf c.args.lens.now u v w None =
    subst (λ (o : Option Extent). IsExtentOf c.args.lens.now u v w o) c.in_err-extent.was c.extent_of.ensures.value in
    subst (λ (o : Option Face). Foretells c.args.lens.now u v w c.args.colours o) (sym c.from_residual.ensures)
    (unseen_hits c.args.lens.now u v w c.args.colours volume same some none)

pub returns : goal.returns
returns c =
    let lens = c.args.lens.now in
    let u = point_of c.args.u in
    let v = point_of c.args.v in
    let w = point_of c.args.w in
    let volume = c.volume-volume.result in
    let same : volume ≡ det3 u v w = c.volume-volume.ensures.value ∙ ap (λ (k : Point). product u k) c.through-first.ensures ∙ sym (det_first u v w) in
    let some : volume ≢ pos 0 = λ e. c.if-volume-eq0.false (ap (λ (z : ℤ). of_z w128 z) e) in
    let kept : to_z w128 (of_z w128 volume) ≡ volume = back w128 c.volume-volume.ensures.bound (lit< tt) in
    let edges : AreEdgesOf lens volume (cross v w) (cross w u) (cross u v) c.new.result =
    edges_same lens _ volume _ (cross v w) _ (cross w u) _ (cross u v) c.new.result kept c.through-first.ensures c.through-second.ensures c.through-third.ensures c.new.ensures in
    let dividend : c.dividend.result ≡ 2 * lens.f * unsigned_abs volume = c.dividend.ensures.value ∙ ap (λ (z : ℤ). 2 * lens.f * unsigned_abs z) kept in
    let extent : IsExtentOf lens u v w (Some c.in_ok-extent.extent) =
    subst (λ (o : Option Extent). IsExtentOf lens u v w o) c.in_ok-extent.was c.extent_of.ensures.value in
    record {
      hits = λ px py in_row in_picture. face_hits lens u v w _ volume same some edges dividend extent px py in_row in_picture;
      in_row = c.in_ok-extent.ensures.in_picture.in_row;
      in_picture = c.in_ok-extent.ensures.in_picture.in_column;
    }
