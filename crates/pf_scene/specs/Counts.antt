-- How many copies of a geode's triangles are out, and which arrays come home to their cycles.
use Rattle.std.specs.Prelude.{◌≡◌, ⊤, ℕ, ◌+◌, ◌<◌, ◌≤◌, max, ◌&&◌, ◌==◌, if◌then◌else◌, Bool, true, false, nat_le, List, length, map, Option, Some, None}
use Rattle.std.specs.Option.{option_map}
use Rattle.std.specs.List.{AllByRecursion, list_all, sum_by, range_with_len}
use Rattle.pf_model.specs.declared.geometry.Tri.{Tri}
use Rattle.pf_model.specs.declared.nodes.Node.{Node}
use Rattle.pf_model.specs.Kinds.{geom_of, is_geode}
use Rattle.pf_model.specs.Graphs.{node_at}
use Rattle.pf_model.specs.Copies.{UpdateList, copy_of}
use Rattle.cycle_buffer.specs.Cycles.{CyclesState, out_at, written_at, copies_at, most_of}
use Rattle.pf_history.specs.Logs.{Log}
use Rattle.pf_history.specs.Cuts.{cuts_of}
use Rattle.pf_history.specs.Away.{away, came_back}
use Rattle.pf_scene.specs.Stock.{Written}

-- whether no cycle has had, or gets, more copies than frames may be ahead and one more, and of no geode's triangles more
-- copies are out than are away
abbrev pub are_accounted : (ahead channels : ℕ) → Log → CyclesState → Bool
are_accounted ahead channels log c =
    nat_le (most_of c) (ahead + 1) && list_all (λ e. nat_le (out_at c e.0) (away channels log e.0)) c.cycles

-- where the first triangles are there, they are as many as the second
abbrev pub IsAsLong : Option (List Tri) → Option (List Tri) → Type 0
IsAsLong None other = ⊤
IsAsLong (Some ts) other = option_map length other ≡ Some (length ts)

-- the serial of a geode was given, and where it has a cycle, that is of as many triangles
abbrev pub FitsHome : Written → ℕ → Option Node → Type 0
FitsHome written next None = ⊤
FitsHome written next (Some n) = is_geode n.kind ≡ true → (n.serial < next) × IsAsLong (written n.serial) (geom_of n.kind)

-- each node of an update list does
abbrev pub ListFits : Written → ℕ → UpdateList → Type 0
ListFits written next us = AllByRecursion (λ u. FitsHome written next u.1) us

-- each node of update lists does
abbrev pub ListsFit : Written → ℕ → List UpdateList → Type 0
ListsFit written next lists = AllByRecursion (ListFits written next) lists

-- whether the second triangles are there and as many as the first
abbrev pub as_many : Option (List Tri) → Option (List Tri) → Bool
as_many (Some ts) (Some us) = length us == length ts
as_many tris other = false

-- how many arrays a node or none holds for the cycle of this serial, whose triangles are these: one, where it is a geode
-- of the serial with as many triangles
abbrev pub fitting : Option (List Tri) → ℕ → Option Node → ℕ
fitting tris s None = 0
fitting tris s (Some n) = if is_geode n.kind && n.serial == s && as_many tris (geom_of n.kind) then 1 else 0

-- how many an update list holds
abbrev pub fitting_in : Option (List Tri) → ℕ → UpdateList → ℕ
fitting_in tris s us = sum_by (λ u. fitting tris s u.1) us

-- how many update lists hold together
abbrev pub fitting_in_all : Option (List Tri) → ℕ → List UpdateList → ℕ
fitting_in_all tris s lists = sum_by (fitting_in tris s) lists

-- how many copies are out under each serial that was given
abbrev pub outs : ℕ → CyclesState → List ℕ
outs next c = map (out_at c) (range_with_len 0 next)

-- What the type of a scene keeps of its cycles: what came back of the Frames fits home, and so does the copy behind the
-- last Frame, which comes back next.
pub record FitHome (channels : ℕ) (log : Log) (next : ℕ) (written : Written) : Type 0 where
  pub back : ListsFit written next (came_back channels log)
  pub behind : (id : ℕ) → FitsHome written next (node_at (copy_of (cuts_of channels log)) id)

-- What the type of a scene keeps of the numbers of copies: a cycle begins with one more than frames may be ahead, and
-- none has more than the scene tells, which is 0 or at least the number that a cycle begins with.
pub record AreCounted (ahead copies : ℕ) (c : CyclesState) : Type 0 where
  pub begins : c.copies ≡ ahead + 1
  pub within : (s : ℕ) → copies_at c s ≤ copies
  pub least : 0 < copies → ahead + 1 ≤ copies
  pub most : most_of c ≤ max copies (ahead + 1)

-- each cycle has as many copies as it had, and a new one gets as many
pub record AreAsMany (old new : CyclesState) : Type 0 where
  pub begins : new.copies ≡ old.copies
  pub counts : (s : ℕ) → copies_at new s ≡ copies_at old s

-- What edits and deletions leave of the cycles, where serials from `next` on are still to be given: no more copies are
-- out, each cycle that is still there is as long as it was and has no more copies, one that was made has as many as a new
-- one gets, and the greatest number of copies stays.
pub record AreTrimmed (next : ℕ) (old new : CyclesState) : Type 0 where
  pub out : (s : ℕ) → out_at new s ≤ out_at old s
  pub long : (s : ℕ) → s < next → IsAsLong (written_at new s) (written_at old s)
  pub most : most_of new ≡ most_of old
  pub begins : new.copies ≡ old.copies
  pub few : (s : ℕ) → s < next → copies_at new s ≤ copies_at old s
  pub made : (s : ℕ) → copies_at new s ≤ max (copies_at old s) old.copies
