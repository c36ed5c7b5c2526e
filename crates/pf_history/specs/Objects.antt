-- The one-thread object: what each command replies and leaves when one thread makes them one after the other.
use Rattle.std.specs.Prelude.{ℕ, ◌+◌, List, [], ◌++◌, map, replicate, slice_set}
use Rattle.std.specs.Option.{option_map_or}
use Rattle.pf_model.specs.Angles.{Viewpoint, home_view}
use Rattle.pf_model.specs.Graphs.{SceneGraph, empty_scene}
use Rattle.pf_model.specs.Edits.{fault_of, after}
use Rattle.pf_model.specs.Merges.{merge_fault, after_all}
use Rattle.pf_model.specs.Copies.{GraveState, grave_of, freed_by, graves_kept}
use Rattle.pf_history.specs.declared.commands.Command.{Command}
use Rattle.pf_history.specs.declared.commands.Command.TheVariants as command
use Rattle.pf_history.specs.declared.commands.Reply.{Reply}
use Rattle.pf_history.specs.declared.commands.Reply.TheVariants as reply

-- The state: the graph, whose deleted nodes are taken out into graves, the view of each channel, how many frames were
-- begun and how many of them are retired, how many merges were made, and the graves in the order of burial.
pub record FrameState : Type 0 where
  pub graph : SceneGraph
  pub views : List Viewpoint
  pub frames : ℕ
  pub retired : ℕ
  pub merges : ℕ
  pub graves : List GraveState

-- the state before the first command, with so many channels
abbrev pub opening_state : ℕ → FrameState
opening_state channels =
    record {
      graph = empty_scene;
      views = replicate channels home_view;
      frames = 0;
      retired = 0;
      merges = 0;
      graves = [];
    }

-- the reply to a command
abbrev pub reply_of : FrameState → Command → Reply
reply_of s (command.Edit e) = option_map_or reply.Refused (fault_of s.graph e) reply.Done
reply_of s (command.Merge m) = option_map_or (λ f. reply.RefusedAt f.0 f.1) (merge_fault s.graph m.edits) reply.Done
reply_of s (command.View channel v) = reply.Done
reply_of s (command.Sync r) = reply.Freed (freed_by r s.graves)
reply_of s command.Frame = reply.Began (s.frames + 1)

-- a graph whose deleted nodes are taken out
abbrev pub emptied : SceneGraph → SceneGraph
emptied g = record g { gone = [] }

-- the state with this graph, its deleted nodes buried
abbrev pub with_graph : SceneGraph → FrameState → FrameState
with_graph g s = record s { graph = emptied g; graves = s.graves ++ map (grave_of s.frames) g.gone }

-- the graph in preparation for this frame
abbrev pub preparing : ℕ → SceneGraph → SceneGraph
preparing frame g = record g { time = frame }

-- the state after a command
abbrev pub next_state : FrameState → Command → FrameState
next_state s (command.Edit e) = with_graph (after s.graph e) s
next_state s (command.Merge m) = record (with_graph (after_all s.graph m.edits) s) { merges = s.merges + 1 }
next_state s (command.View channel v) = record s { views = slice_set s.views channel v }
next_state s (command.Sync r) = record s { retired = r; graves = graves_kept r s.graves }
next_state s command.Frame = record s { graph = preparing (s.frames + 2) s.graph; frames = s.frames + 1 }
