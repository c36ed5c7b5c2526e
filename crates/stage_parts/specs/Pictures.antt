-- The pictures and the numbers of a history, the pictures of draw lists, and the stream that is made of pictures.
use Rattle.std.specs.Prelude.{ℕ, List, [], ◌++◌, map, sum_by, take, Option, slice_index_or}
use Rattle.std.specs.List.{flat_map, concat}
use Rattle.std.specs.Option.{option_map_or}
use Rattle.fx_math.specs.declared.lenses.Lens.{Lens}
use Rattle.ppm_out.specs.Ppm.{picture_bytes}
use Rattle.pf_model.specs.Graphs.{node_at}
use Rattle.pf_model.specs.Walks.{Instance, instances}
use Rattle.tri_cover.specs.Picture.{picture}
use Rattle.draw_list.specs.declared.stats.Stats.{Stats}
use Rattle.draw_list.specs.Lists.{Drawables, instances_in}
use Rattle.draw_list.specs.Shown.{stats_of}
use Rattle.pf_history.specs.Objects.{FrameState}
use Rattle.pf_history.specs.Logs.{Log}
use Rattle.pf_history.specs.Cuts.{found_by_frames}

-- the P6 bytes of the picture of a list of instances
abbrev pub picture_of_list : Lens → List ℕ → List Instance → List ℕ
picture_of_list lens back xs = picture_bytes lens.w lens.h (picture lens back xs)

-- the pictures of draw lists, one after the other
abbrev pub painted : Lens → List ℕ → List Drawables → List ℕ
painted lens back lists = flat_map (λ d. picture_of_list lens back (instances_in d)) lists

-- the pictures of the channels of a state, in order and one after the other: of the whole walk, without culling
abbrev pub picture_of_state : Lens → List ℕ → FrameState → List ℕ
picture_of_state lens back s =
    flat_map (λ v. picture_of_list lens back (instances (node_at s.graph.nodes) s.graph.time v)) s.views

-- the pictures of the Frames of a history, each of the state that it found
abbrev pub pictures : ℕ → Lens → List ℕ → Log → List (List ℕ)
pictures channels lens back log = map (picture_of_state lens back) (found_by_frames channels log)

-- the numbers of the channels, added
abbrev pub sums : List Stats → Stats
sums ss =
    record {
      shown = sum_by (λ s. s.shown) ss;
      states = sum_by (λ s. s.states) ss;
      visited = sum_by (λ s. s.visited) ss;
    }

-- the numbers of a state through a lens
abbrev pub numbers_of_state : Lens → FrameState → Stats
numbers_of_state lens s = sums (map (λ v. stats_of (node_at s.graph.nodes) s.graph.time v lens) s.views)

-- the numbers of the Frames of a history, each of the state that it found
abbrev pub frame_numbers : ℕ → Lens → Log → List Stats
frame_numbers channels lens log = map (numbers_of_state lens) (found_by_frames channels log)

-- the first b pictures, and of the next one as many bytes as went out before a fault
abbrev pub streamed : ℕ → Option ℕ → List (List ℕ) → List ℕ
streamed b fault shown =
    concat (take b shown) ++ option_map_or (λ n. take n (slice_index_or shown b [])) fault []
