-- Laws of the update lists, of the copies that they keep, and of freed nodes.
use Rattle.std.specs.Prelude.{◌≡◌, ℕ, ◌+◌, ◌≤◌, ◌==◌, Bool, true, false, List, [], ◌∷◌, ◌++◌, length, drop, map, slice_get, Some, if◌then◌else◌}
use Rattle.std.specs.List.{AllByRecursion, list_any}
use Rattle.pf_model.specs.Graphs.{Nodes}
use Rattle.pf_model.specs.Copies.{UpdateList, freed_by}
use Rattle.pf_model.specs.Limits.{IsRising}
use Rattle.pf_history.specs.declared.commands.Caller.TheVariants.{App}
use Rattle.pf_history.specs.declared.commands.Command.TheVariants as command
use Rattle.pf_history.specs.declared.commands.Reply.TheVariants as reply
use Rattle.pf_history.specs.declared.commands.Entry.{Entry}
use Rattle.pf_history.specs.Commands.{is_frame}
use Rattle.pf_history.specs.Objects.{FrameState}
use Rattle.pf_history.specs.Logs.{Log, state_of, state_at, IsLegal}
use Rattle.pf_history.specs.Cuts.{copy_after, found_by_frames, cuts_of, cut_of, next_cut, marked, marks_after}

-- the copy that the first k + 1 update lists keep has the nodes of the graph before the last of their Frames
abbrev pub CopyLaw : Type 0
CopyLaw =
    (channels : ℕ) (log : Log) (k : ℕ) (s : FrameState) →
    slice_get (found_by_frames channels log) k ≡ Some s → copy_after channels log (k + 1) ≡ s.graph.nodes

-- a list, with one more element at its end where a test holds
abbrev pub with_last : {X : Type 0} → Bool → List X → X → List X
with_last test xs x = if test then xs ++ x ∷ [] else xs

-- What an entry adds to the Frames of a log: a Frame the state that it found and the update list of the marked ids,
-- each with its node in that state, and then no id is marked; any other command no Frame, and the ids that it names are
-- marked.
pub record AddsToCuts (channels : ℕ) (log : Log) (e : ℕ × Entry) : Type 0 where
  pub found : found_by_frames channels (log ++ e ∷ [])
      ≡ with_last (is_frame e.1.command) (found_by_frames channels log) (state_of channels log)
  pub cuts : cuts_of channels (log ++ e ∷ [])
      ≡ with_last (is_frame e.1.command) (cuts_of channels log) (next_cut channels log)
  pub marks : marked channels (log ++ e ∷ []) ≡ marks_after (marked channels log) (state_of channels log) e.1.command

-- the ids of an update list rise
abbrev pub HasRisingIds : UpdateList → Type 0
HasRisingIds us = IsRising (map (λ u. u.0) us)

-- The update lists of a log: one for each Frame, each with rising ids; and what each entry adds.
pub record AreCuts (channels : ℕ) (log : Log) : Type 0 where
  pub many : length (cuts_of channels log) ≡ (state_of channels log).frames
  pub rising : AllByRecursion HasRisingIds (cuts_of channels log)
  pub marks_rising : IsRising (marked channels log)
  pub adds : (e : ℕ × Entry) → AddsToCuts channels log e

abbrev pub CutsLaw : Type 0
CutsLaw = (channels : ℕ) (log : Log) → AreCuts channels log

-- What the Frames of a log found and cut, and the copies that their update lists keep, stay while the log grows.
pub record CutsStay (channels : ℕ) (log more : Log) : Type 0 where
  pub found : (k : ℕ) (s : FrameState) → slice_get (found_by_frames channels log) k ≡ Some s →
      slice_get (found_by_frames channels (log ++ more)) k ≡ Some s
  pub cut : (k : ℕ) → 1 ≤ k → k ≤ (state_of channels log).frames →
      cut_of channels (log ++ more) k ≡ cut_of channels log k
  pub copy : (k : ℕ) → k ≤ (state_of channels log).frames →
      copy_after channels (log ++ more) k ≡ copy_after channels log k

abbrev pub CutsStayLaw : Type 0
CutsStayLaw = (channels : ℕ) (log more : Log) → CutsStay channels log more

-- a node of this serial is there
abbrev pub has_serial : ℕ → Nodes → Bool
has_serial x nodes = list_any (λ e. e.1.serial == x) nodes

-- a serial is in a list
abbrev pub is_among : ℕ → List ℕ → Bool
is_among x serials = list_any (λ y. y == x) serials

-- the entry of a Sync that retires r frames, and replies that it freed the nodes of these serials
abbrev pub sync_entry : ℕ → List ℕ → Entry
sync_entry r serials = record { caller = App; command = command.Sync r; reply = reply.Freed serials }

-- A node is freed only when no undelivered frame names it.
pub record IsFreedLate (channels : ℕ) (log : Log) (j r x : ℕ) : Type 0 where
  -- a serial that a Sync of r frees stands in no graph that a Frame after the first r ones found
  pub object : (e : ℕ × Entry) → slice_get log j ≡ Some e → e.1.command ≡ command.Sync r →
      is_among x (freed_by r (state_at channels log j).graves) ≡ true →
      AllByRecursion (λ s. has_serial x s.graph.nodes ≡ false) (drop r (found_by_frames channels log))
  -- where a Sync of a legal history retires r frames and replies a serial, each Frame k + 1 that found a node of this
  -- serial is one of these r
  pub replied : (seat : ℕ) (serials : List ℕ) → IsLegal channels log →
      slice_get log j ≡ Some (seat, sync_entry r serials) → is_among x serials ≡ true →
      (k : ℕ) (s : FrameState) → slice_get (found_by_frames channels log) k ≡ Some s →
      has_serial x s.graph.nodes ≡ true → k + 1 ≤ r

abbrev pub FreedLaw : Type 0
FreedLaw = (channels : ℕ) (log : Log) (j r x : ℕ) → IsFreedLate channels log j r x
