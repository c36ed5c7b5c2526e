-- Points and boxes, one node further up the way.
use Rattle.std.proofs.Common.{◌≡◌, ◌∙◌, List, ◌++◌, ap, sym}
use Rattle.fx_math.specs.Plain.{Point, Matrix, Bounds}
use Rattle.fx_math.specs.Fixed.{carry, carry_box}
use Rattle.fx_math.proofs.Containment.{carry-append, carry_box-append}

pub point_along : (steps own above : List Matrix) (p q r : Point) → steps ≡ own → q ≡ carry steps p → r ≡ carry above q → r ≡ carry (own ++ above) p
point_along steps own above p q r e f g = g ∙ ap (carry above) (f ∙ ap (λ (ms : List Matrix). carry ms p) e) ∙ sym (carry-append own above p)

pub box_along : (steps own above : List Matrix) (b c d : Bounds) → steps ≡ own → c ≡ carry_box steps b → d ≡ carry_box above c → d ≡ carry_box (own ++ above) b
box_along steps own above b c d e f g =
    g ∙ ap (carry_box above) (f ∙ ap (λ (ms : List Matrix). carry_box ms b) e) ∙ sym (carry_box-append own above b)
