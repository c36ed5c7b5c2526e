-- The Frames that a seat makes for the application, and the cut of each.
use Rattle.std.specs.Prelude.{◌≡◌, ⊤, ℕ, ◌+◌, true, ◌&&◌, if◌then◌else◌, List, [], ◌∷◌}
use Rattle.std.specs.List.{AllByRecursion, fold}
use Rattle.pf_model.specs.Graphs.{node_at, size_of}
use Rattle.pf_model.specs.Totals.{triangle_count}
use Rattle.update_lists.specs.declared.cuts.Cut.{Cut}
use Rattle.pf_history.specs.declared.commands.Caller.TheVariants.{App}
use Rattle.pf_history.specs.declared.commands.Command.{Command}
use Rattle.pf_history.specs.declared.commands.Command.TheVariants as command
use Rattle.pf_history.specs.Objects.{FrameState, opening_state, next_state}
use Rattle.pf_history.specs.Commands.{is_frame}
use Rattle.pf_history.specs.Logs.{Log}
use Rattle.pf_history.specs.Asks.{Turn, is_at}
use Rattle.pf_history.specs.Cuts.{Cutting, marks_after, cut_at}

-- the Frames that a seat makes for the application in a log, from a state on, where these ids were named since the last Frame
abbrev pub frames_from : ℕ → List ℕ → FrameState → Log → List Cutting
frames_from seat ids s [] = []
frames_from seat ids s (e ∷ es) =
    if is_frame e.1.command && is_at seat App e
    then record { ids = ids; found = s } ∷ frames_from seat (marks_after ids s e.1.command) (next_state s e.1.command) es
    else frames_from seat (marks_after ids s e.1.command) (next_state s e.1.command) es

-- the Frames that a seat makes for the application in a log, each with the ids named since the Frame before it
abbrev pub frames_of : ℕ → ℕ → Log → List Cutting
frames_of channels seat log = frames_from seat [] (opening_state channels) log

-- The cut of a Frame: its number, and of the state that it found the views, the unfolded size and the number of
-- triangles, and what changed since the Frame before.
abbrev pub cut_of_frame : Cutting → Cut
cut_of_frame c =
    record {
      frame = c.found.frames + 1;
      views = c.found.views;
      size = size_of (node_at c.found.graph.nodes) 0;
      tris = triangle_count (node_at c.found.graph.nodes);
      updates = cut_at c;
    }

-- each Frame of the log is the application's, made at this seat
abbrev pub AreOwnFrames : ℕ → Log → Type 0
AreOwnFrames seat log = AllByRecursion (λ e. is_frame e.1.command ≡ true → is_at seat App e ≡ true) log

-- how many frames are retired after a command, where so many were
abbrev pub retired_after : ℕ → Command → ℕ
retired_after r (command.Sync n) = n
retired_after r _ = r

-- the number of the last Sync among turns, 0 where there is none
abbrev pub last_sync : List Turn → ℕ
last_sync turns = fold (λ r t. retired_after r t.made) 0 turns

-- a Sync retires so many frames; of other commands nothing is said
abbrev pub RetiresJust : ℕ → Command → Type 0
RetiresJust n (command.Sync r) = r ≡ n
RetiresJust n _ = ⊤
