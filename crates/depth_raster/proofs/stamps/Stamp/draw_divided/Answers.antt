use Rattle.std.proofs.Common.{ℕ, Option, subst, ◌∙◌}
use Rattle.depth_raster.specs.Looks.{IsDepthAt}
use Rattle.depth_raster.proofs.Looking.{seen_inside}
use Rattle.depth_raster.proofs.Readied.{face_boxed}
use Rattle.depth_raster.proofs.Stamped.{hit_stamped, unhit_stamped}
use Rattle.depth_raster.proofs.stamps.Stamp.draw_divided.Goals as goal

pub returns-in-Some : goal.returns-in-Some
returns-in-Some c = λ p f lens px py is face column row ready inside sum.
    let a = c.args in
    let boxed = face_boxed lens p f ready face px py inside in
    let depth = seen_inside f px py a.sum a.self.now.depths c.divided.result sum boxed is.depths c.divided.ensures.some c.divided.ensures.none in
    let found = subst (λ (o : Option ℕ). IsDepthAt f px py o) c.in-Some.is depth in
    c.draw_hit.ensures ∙ hit_stamped p f a.self.now lens px py c.in-Some.depth a.marks.now a.place is face column row ready found

pub returns-in_default : goal.returns-in_default
returns-in_default c = λ p f lens px py is face column row ready inside sum.
    let a = c.args in
    let boxed = face_boxed lens p f ready face px py inside in
    let depth = seen_inside f px py a.sum a.self.now.depths c.divided.result sum boxed is.depths c.divided.ensures.some c.divided.ensures.none in
    let found = subst (λ (o : Option ℕ). IsDepthAt f px py o) c.in_default.is depth in
    unhit_stamped p f lens px py a.marks.now a.place face column row ready found
