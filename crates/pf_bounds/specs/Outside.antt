-- Boxes outside the frustum of a lens, and what that promises.
use Rattle.std.specs.Prelude.{◌≡◌, ℕ, ◌*◌, ◌<◌, Bool, false, ◌||◌, ℤ, pos, neg_ℤ, ◌-ℤ◌, ◌*ℤ◌, int_lt, IsTrue}
use Rattle.fx_math.specs.declared.lenses.Lens.{Lens}
use Rattle.fx_math.specs.Plain.{Point, Bounds, Holds, IsInside}
use Rattle.fx_math.specs.Hit.{is_hit}

-- all of the box is nearer than the lens's depths, or farther
unfoldable pub is_off_depth : Lens → Bounds → Bool
is_off_depth lens b = int_lt b.hi.y lens.near || int_lt lens.far b.lo.y

-- a range of X or Z, at depths of at most `depth`, lies beside the rays of a picture of `size` columns or rows
unfoldable pub is_beside : (focus size : ℕ) (low high depth : ℤ) → Bool
is_beside focus size low high depth =
    let limit = (pos size -ℤ pos 1) *ℤ depth in
    int_lt limit (pos (2 * focus) *ℤ low) || int_lt limit (neg_ℤ (pos (2 * focus) *ℤ high))

-- the six tests: nearer, farther, to the right, to the left, above, below
unfoldable pub is_outside : Lens → Bounds → Bool
is_outside lens b =
    is_off_depth lens b || is_beside lens.f lens.w b.lo.x b.hi.x b.hi.y || is_beside lens.f lens.h b.lo.z b.hi.z b.hi.y

-- no pixel is hit by a triangle whose vertices all lie in the box
abbrev pub HitsNothing : Lens → Bounds → Type 0
HitsNothing lens b = (u v w : Point) → Holds b u → Holds b v → Holds b w →
    (px py : ℕ) → px < lens.w → py < lens.h → is_hit lens px py u v w ≡ false

-- each box inside the box is outside the frustum
abbrev pub PartsAreOutside : Lens → Bounds → Type 0
PartsAreOutside lens b = (part : Bounds) → IsInside part b → IsTrue (is_outside lens part)
