-- Glass: which instances it is, in which order it is drawn, and what it leaves of the colour under it.
use Rattle.std.specs.Prelude.{ℕ, ◌+◌, ◌-◌, ◌*◌, ◌/◌, List, [], ◌∷◌, is_some, is_none, unwrap_or, Bool, nat_lt, ◌==◌, ◌&&◌, ◌||◌}
use Rattle.pf_model.specs.Walks.{Instance}

-- an instance of a node of kind Geode
abbrev pub is_opaque : Instance → Bool
is_opaque x = is_none x.tint

-- an instance of a node of kind Glass, which has an alpha
abbrev pub is_glass : Instance → Bool
is_glass x = is_some x.tint

abbrev pub alpha_of : Instance → ℕ
alpha_of x = unwrap_or x.tint 0

-- glass is drawn from far to near, and at one distance by rising place
abbrev pub is_drawn_before : Instance → Instance → Bool
is_drawn_before x y = nat_lt y.far x.far || (x.far == y.far && nat_lt x.place y.place)

-- a channel of glass of an alpha from 0 to 255 over what was there, rounded down
abbrev pub blended : (alpha glass under : ℕ) → ℕ
blended alpha glass under = (alpha * glass + (255 - alpha) * under) / 255

-- a colour of glass over what was there, channel by channel
abbrev pub blend : ℕ → List ℕ → List ℕ → List ℕ
blend alpha (c ∷ cs) (u ∷ us) = blended alpha c u ∷ blend alpha cs us
blend alpha _ _ = []
