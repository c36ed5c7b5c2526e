-- The states that the Frames of a history found.
use Rattle.std.proofs.Common.{◌≡◌, ℕ, zero, suc, ◌+◌, Bool, true, false, cond, List, [], ◌∷◌, map, take, slice_get, Some, sym, subst}
use Rattle.std.proofs.lemmas.Option.{same_Some}
use Rattle.pf_model.specs.Limits.{IsGraphWithinLimits}
use Rattle.pf_model.specs.Copies.{put_all}
use Rattle.pf_history.specs.declared.commands.Entry.{Entry}
use Rattle.pf_history.specs.Commands.{is_frame, command_fits}
use Rattle.pf_history.specs.Objects.{FrameState, opening_state, next_state}
use Rattle.pf_history.specs.Logs.{Log, state_after}
use Rattle.pf_history.specs.Cuts.{names, Cutting, cuttings, found_by_frames}
use Rattle.pf_history.proofs.Folds.{preparation_law}
use Rattle.pf_history.proofs.Reach.{limits_law}
use Rattle.isect_stage.specs.Asking.{HasEditsInRange}
use Rattle.isect_stage.proofs.Places.{all_take}

-- A state that a front of a log reaches.
record IsReached (s : FrameState) (log : Log) (x : FrameState) : Type 0 where
  pub many : ℕ
  pub same : x ≡ state_after s (take many log)

reached_later : (s : FrameState) (e : ℕ × Entry) (es : Log) (x : FrameState) → IsReached (next_state s e.1.command) es x →
    IsReached s (e ∷ es) x
reached_later s e es x r = record { many = suc r.many; same = r.same }

found_reached : (ids : List ℕ) (s : FrameState) (log : Log) (k : ℕ) (x : FrameState) →
    slice_get (map (λ c. c.found) (cuttings ids s log)) k ≡ Some x → IsReached s log x
found_reached ids s [] k x at = absurd (cc)
found_reached ids s (e ∷ es) k x at =
    by (is_frame e.1.command) k
    (λ j found. found_reached [] (next_state s e.1.command) es j x found)
    (λ j found. found_reached (put_all (names s e.1.command) ids) (next_state s e.1.command) es j x found)
    at
  where
    framed : List Cutting
    framed = cuttings [] (next_state s e.1.command) es

    later : List Cutting
    later = cuttings (put_all (names s e.1.command) ids) (next_state s e.1.command) es

    by : (t : Bool) (k : ℕ) →
        ((j : ℕ) → slice_get (map (λ (c : Cutting). c.found) framed) j ≡ Some x → IsReached (next_state s e.1.command) es x) →
        ((j : ℕ) → slice_get (map (λ (c : Cutting). c.found) later) j ≡ Some x → IsReached (next_state s e.1.command) es x) →
        slice_get (map (λ (c : Cutting). c.found) (cond t (record { ids = ids; found = s } ∷ framed) later)) k ≡ Some x →
        IsReached s (e ∷ es) x
    by true zero first other at = record { many = 0; same = sym (same_Some s x at) }
    by true (suc k) first other at = reached_later s e es x (first k at)
    by false k first other at = reached_later s e es x (other k at)

-- What a Frame found: a graph within the limits, in preparation for the frame.
pub record IsFound (x : FrameState) : Type 0 where
  pub limits : IsGraphWithinLimits x.graph
  pub time : x.graph.time ≡ x.frames + 1

pub frames_found : (channels : ℕ) (log : Log) → HasEditsInRange log → (k : ℕ) (x : FrameState) →
    slice_get (found_by_frames channels log) k ≡ Some x → IsFound x
frames_found channels log fit k x at =
    let r = found_reached [] (opening_state channels) log k x at in
    subst IsFound (sym r.same)
    (record {
      limits = limits_law channels (take r.many log) (all_take (λ (e : ℕ × Entry). command_fits e.1.command ≡ true) r.many log fit);
      time = preparation_law channels (take r.many log);
    })
