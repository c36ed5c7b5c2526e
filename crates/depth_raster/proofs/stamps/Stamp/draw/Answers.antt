use Rattle.std.proofs.Common.{◌≡◌, ℕ, ◌/◌, ◌^◌, ◌<◌, Option, None, Some, subst, ◌∙◌, arith, ⊎_elim}
use Rattle.std.specs.Option.{IfSome}
use Rattle.std.proofs.lemmas.Bool.{both_ways, cases_lt}
use Rattle.depth_raster.proofs.Looking.{seen_inside}
use Rattle.depth_raster.proofs.Readied.{face_boxed}
use Rattle.depth_raster.proofs.Stamped.{hit_stamped, unhit_stamped}
use Rattle.depth_raster.proofs.stamps.Stamp.draw.Goals as goal

pub returns-then-are_seen_at : goal.returns-then-are_seen_at
returns-then-are_seen_at c = λ p f lens px py is face column row ready inside sum.
    let a = c.args in
    let t = a.self.now.depths in
    let depth = c.in-Some.depth in
    let boxed = face_boxed lens p f ready face px py inside in
    let right = subst (λ (o : Option ℕ). IfSome o (λ d. (0 < a.sum) × (d ≡ t.dividend / a.sum) × (d < 2 ^ 32))) c.in-Some.is c.guessed.ensures in
    let seen = c.are_seen_at.ensures.0 c.if-are_seen_at.true in
    let found = seen_inside f px py a.sum t (Some depth) sum boxed is.depths (right.0, right.1, seen.0, seen.1) tt in
    c.draw_hit.ensures ∙ hit_stamped p f a.self.now lens px py depth a.marks.now a.place is face column row ready found

pub returns-else-are_seen_at : goal.returns-else-are_seen_at
returns-else-are_seen_at c = λ p f lens px py is face column row ready inside sum.
    let a = c.args in
    let t = a.self.now.depths in
    let depth = c.in-Some.depth in
    let boxed = face_boxed lens p f ready face px py inside in
    let right = subst (λ (o : Option ℕ). IfSome o (λ d. (0 < a.sum) × (d ≡ t.dividend / a.sum) × (d < 2 ^ 32))) c.in-Some.is c.guessed.ensures in
    let found = seen_inside f px py a.sum t None sum boxed is.depths tt
    (λ some near. ⊎_elim
    (λ below. below)
    (λ above. absurd (both_ways c.are_seen_at.result c.if-are_seen_at.false (c.are_seen_at.ensures.1 (omega (arith, near, right.1), omega (arith, above, right.1)))))
    (cases_lt t.far (t.dividend / a.sum))) in
    unhit_stamped p f lens px py a.marks.now a.place face column row ready found

pub returns-in-None : goal.returns-in-None
returns-in-None c = c.draw_divided.ensures
