use Rattle.std.proofs.Common.{◌≡◌, ap, sym, ◌∙◌, subst}
use Rattle.pf_model.specs.declared.geometry.Tri.{Tri}
use Rattle.tri_cover.specs.Hits.{HitsAs}
use Rattle.draw_list.specs.Joints.{steps_at}
use Rattle.depth_raster.specs.Faces.{face_of_item}
use Rattle.depth_raster.specs.declared.faces.Face.{Face}
use Rattle.depth_raster.proofs.pieces.Piece.prepare.Goals as goal

pub returns-clause-prepared : goal.returns-clause-prepared
returns-clause-prepared c =
    let w = c.args.waiting.now in
    let i = c.in-Some.item.now in
    let t = c.in-Some-tri.tri in
    let f = c.make_ready.new.self.face in
    let steps = steps_at c.args.list.now.joints.lists i.joint in
    let is : f ≡ record (face_of_item i w.number c.at_eye-carried.result) { rank = w.rank } =
    c.make_ready.ensures.face ∙ ap (λ (g : Face). record g { rank = w.rank }) c.of.ensures in
    let tri = ap (λ (g : Face). g.tri) is in
    record {
      there = record { its_item = i; its_tri = t; item_is = sym c.in-Some.ensures.value; tri_is = sym c.in-Some-tri.ensures };
      hits = subst (λ (u : Tri). HitsAs t steps u) (sym tri) c.at_eye-carried.ensures.hits;
      face = is ∙ ap (λ (u : Tri). record (face_of_item i w.number u) { rank = w.rank }) (sym tri);
      ready = c.make_ready.ensures.ready;
    }
