use Rattle.std.proofs.Common.{◌≡◌, ◌∙◌}
use Rattle.fx_math.specs.Plain.{Point}
use Rattle.fx_math.specs.Hit.{det3, edges}
use Rattle.nearest_hit.proofs.crossing.Crossing.of.Goals as goal

volume_same : (a b c x y z : Point) → a ≡ x → b ≡ y → c ≡ z → det3 a b c ≡ det3 x y z
volume_same a b c x y z e f g = λ i. det3 (e i) (f i) (g i)

edges_same : (d a b c w x y z : Point) → d ≡ w → a ≡ x → b ≡ y → c ≡ z → edges d a b c ≡ edges w x y z
edges_same d a b c w x y z e f g h = λ i. edges (e i) (f i) (g i) (h i)

pub returns-clause-volume : goal.returns-clause-volume
returns-clause-volume c = c.of_sides.ensures.volume ∙ volume_same _ _ _ _ _ _ c.side-2.ensures.value c.side-3.ensures.value c.side-4.ensures.value

pub returns-clause-edges : goal.returns-clause-edges
returns-clause-edges c = c.of_sides.ensures.edges ∙ edges_same _ _ _ _ _ _ _ _ c.side.ensures.value c.side-2.ensures.value c.side-3.ensures.value c.side-4.ensures.value
