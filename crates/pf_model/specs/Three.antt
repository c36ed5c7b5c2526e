-- What the type of a triangle keeps.
use Rattle.std.specs.Prelude.{◌≡◌, List, length}

-- two lists of three members each
pub record AreThree {A B : Type 0} (vertices : List A) (colours : List B) : Type 0 where
  pub vertices_three : length vertices ≡ 3
  pub colours_three : length colours ≡ 3
