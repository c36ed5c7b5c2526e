-- Settled states: what a state is but for what a Sync changes.
use Rattle.std.proofs.Common.{◌≡◌, List, [], ◌∷◌, map, refl}
use Rattle.pf_history.specs.Objects.{FrameState}

-- a state with no frame retired and no graves: a Sync leaves nothing else than these two changed
abbrev pub settled : FrameState → FrameState
settled s = record s { retired = 0; graves = [] }

-- what reads neither is the same of settled states
pub map_settled : {B : Type 0} (f : FrameState → B) → ((s : FrameState) → f s ≡ f (settled s)) → (states : List FrameState) → map f states ≡ map f (map settled states)
map_settled f same [] = refl
map_settled f same (s ∷ states) = λ i. same s i ∷ map_settled f same states i
