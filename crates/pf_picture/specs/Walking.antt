-- What a walk draws, node by node.
use Rattle.std.specs.Prelude.{ℕ, zero, suc, ◌+◌, ◌*◌, List, [], ◌++◌, map}
use Rattle.std.specs.List.{flat_map}
use Rattle.std.specs.Option.{option_map, option_map_or, option_to_list}
use Rattle.fx_math.specs.Plain.{Matrix}
use Rattle.fx_math.specs.Views.{matrix_of}
use Rattle.pf_model.specs.declared.nodes.Node.{Node}
use Rattle.pf_model.specs.Graphs.{Look}
use Rattle.pf_model.specs.Kinds.{surface_of, own_steps, decal}
use Rattle.pf_model.specs.Walks.{Instance, Occurrence, instance_of, shown_children, chosen_in}
use Rattle.pf_picture.specs.declared.leaves.Leaf.{Leaf}

-- a leaf as an instance without its place
abbrev pub instance_of_leaf : Leaf → Instance
instance_of_leaf x =
    record {
      place = 0;
      id = x.id;
      state = x.state;
      tint = x.tint;
      shift = x.shift;
      steps = map matrix_of x.steps.items;
      tris = x.tris.now;
      far = x.far;
    }

-- a node in the walk, without the places above it
abbrev pub alone : ℕ → List Matrix → ℕ → Occurrence
alone id steps shift = record { id = id; steps = steps; shift = shift; above = [] }

-- what a node itself draws, without its place
abbrev pub own_drawn : ℕ → List Matrix → ℕ → Node → List Instance
own_drawn id steps shift n =
    option_to_list (option_map (λ s. instance_of (alone id steps shift) s 0) (surface_of n.kind))

-- what a node itself and its shown children draw, where `below` is what each child draws
abbrev pub drawn_at : ℕ → ℕ → List Matrix → ℕ → (ℕ → List Matrix → ℕ → List Instance) → Node → List Instance
drawn_at id time steps shift below n =
    own_drawn id steps shift n
    ++ flat_map (λ c. below c.1 (own_steps n.kind ++ steps) (shift + decal n.kind * c.0))
    (shown_children (chosen_in time n steps) n.children)

-- what a node and all below it draw, with at most so many levels
unfoldable pub drawn_in : ℕ → Look → ℕ → ℕ → List Matrix → ℕ → List Instance
drawn_in zero look time id steps shift = []
drawn_in (suc n) look time id steps shift =
    option_map_or (drawn_at id time steps shift (drawn_in n look time)) (look id) []
