-- Which arrays an update list takes.
use Rattle.std.specs.Prelude.{◌≡◌, ℕ, ◌+◌, true, ⊤, if◌then◌else◌, List, [], ◌∷◌, ◌++◌, map, nat_eq, Option, Some, None}
use Rattle.std.specs.List.{All, IsDistinct}
use Rattle.std.specs.Option.{option_map}
use Rattle.pf_model.specs.declared.geometry.Tri.{Tri}
use Rattle.pf_model.specs.declared.nodes.Kind.{Kind}
use Rattle.pf_model.specs.declared.nodes.Kind.TheVariants.{Geode, Glass}
use Rattle.pf_model.specs.declared.nodes.Node.{Node}
use Rattle.pf_model.specs.Kinds.{geom_of, is_geode}
use Rattle.pf_model.specs.Graphs.{Look}
use Rattle.pf_model.specs.Copies.{UpdateList}

-- the serial of a node that is a geode
abbrev pub geode_serial : Option Node → List ℕ
geode_serial None = []
geode_serial (Some n) = if is_geode n.kind then n.serial ∷ [] else []

-- the serials of the geodes among these ids
abbrev pub geode_serials : Look → List ℕ → List ℕ
geode_serials look [] = []
geode_serials look (id ∷ ids) = geode_serial (look id) ++ geode_serials look ids

-- what was last written under the serial of a geode is its triangles
abbrev pub IsWritten : (ℕ → Option (List Tri)) → Option Node → Type 0
IsWritten written None = ⊤
IsWritten written (Some n) = is_geode n.kind ≡ true → written n.serial ≡ geom_of n.kind

-- What a cut asks of the geodes among these ids: their serials differ, and what was last written under each is its
-- triangles.
pub record CanTake (written : ℕ → Option (List Tri)) (look : Look) (ids : List ℕ) : Type 0 where
  pub differ : IsDistinct nat_eq (geode_serials look ids)
  pub contents : All (λ id. IsWritten written (look id)) ids

-- how often a serial stands in a list
abbrev pub times_in : ℕ → List ℕ → ℕ
times_in s [] = 0
times_in s (x ∷ xs) = if nat_eq s x then 1 + times_in s xs else times_in s xs

-- a kind with other triangles
abbrev pub kind_with : List Tri → Kind → Kind
kind_with ts (Geode s _) = Geode s ts
kind_with ts (Glass s a _) = Glass s a ts
kind_with ts k = k

-- a node with other triangles
abbrev pub node_with : List Tri → Node → Node
node_with ts n = record n { kind = kind_with ts n.kind }

-- a node without triangles
abbrev pub bare : Node → Node
bare n = node_with [] n

-- the update list of these ids, without triangles
abbrev pub bare_updates : Look → List ℕ → UpdateList
bare_updates look ids = map (λ id. (id, option_map bare (look id))) ids
