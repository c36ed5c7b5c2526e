-- The answers of a history.
use Rattle.std.proofs.Common.{◌≡◌, ◌∙◌, ℕ, zero, suc, ◌+◌, ◌≤◌, List, [], ◌∷◌, take, length, slice_get, Option, Some, ap, sym, refl, subst, arith, add-one}
use Rattle.pf_model.specs.Graphs.{Nodes, node_at}
use Rattle.pf_model.specs.Limits.{KeepsLimits, IsWithinLimits}
use Rattle.pf_model.specs.Copies.{UpdateList, copy_of}
use Rattle.pf_history.specs.Objects.{FrameState, opening_state}
use Rattle.pf_history.specs.Logs.{Log}
use Rattle.pf_history.specs.Cuts.{Cutting, cuttings, found_by_frames, copy_after}
use Rattle.pf_history.proofs.Copying.{copy_law}
use Rattle.pf_history.proofs.Reach.{limits_law}
use Rattle.nearest_hit.specs.declared.found.Near.{Near}
use Rattle.nearest_hit.specs.Nearest.{nearest}
use Rattle.isect_stage.proofs.Places.{get_take, front_of, get_map, IsMapped, get_mapped, get_below, get_length, map_take, take_front, map_map}
use Rattle.isect_stage.proofs.Founds.{IsFound, frames_found}
use Rattle.isect_stage.specs.Asking.{HasEditsInRange, IsectWork, Question, updates_in, copy_at, CanAnswer, IsectKeeps, question_of, questions, nearest_in_state, nearest_hits}

-- a place before the end of a list has an element
get_there : {X : Type 0} (xs : List X) (i : ℕ) → suc i ≤ length xs → (x : X) × (slice_get xs i ≡ Some x)
get_there [] i l = absurd (omega (arith, l))
get_there (x ∷ xs) zero l = (x, refl)
get_there (y ∷ xs) (suc i) l = get_there xs i (omega (arith, l))

-- the copies that the questions keep are those of the history's cuts
copies : (channels : ℕ) (log : Log) (asked : List Question) → asked ≡ take (length asked) (questions channels log) → (k : ℕ) → k ≤ length asked → copy_at asked k ≡ copy_after channels log k
copies channels log asked front k l =
    ap (λ (qs : List Question). copy_of (updates_in (take k qs))) front
    ∙ ap (λ (qs : List Question). copy_of (updates_in qs)) (take_front k (length asked) (questions channels log) l)
    ∙ ap copy_of (map_take (λ (q : Question). q.updates) k (questions channels log))
    ∙ ap (λ (us : List UpdateList). copy_of (take k us)) (map_map question_of (λ (q : Question). q.updates) (cuttings [] (opening_state channels) log))

-- each copy of a history's cuts is within the limits, up to one that a Frame found
copies_keep_limits : (channels : ℕ) (log : Log) → HasEditsInRange log → (i : ℕ) (x : FrameState) →
    slice_get (found_by_frames channels log) i ≡ Some x →
    (k : ℕ) → k ≤ i + 1 → KeepsLimits (node_at (copy_after channels log k))
copies_keep_limits channels log fit i x at zero l = (limits_law channels [] tt).within.limits
copies_keep_limits channels log fit i x at (suc j) l =
    let y = get_below (found_by_frames channels log) i j x at (omega (arith, l)) in
    let copied : copy_after channels log (suc j) ≡ y.0.graph.nodes =
    ap (copy_after channels log) (sym (add-one j)) ∙ copy_law channels log j y.0 y.1 in
    subst (λ (n : Nodes). KeepsLimits (node_at n)) (sym copied) (frames_found channels log fit j y.0 y.1).limits.within.limits

-- the answer at a place is the nearest hit of the Frame there
answer_at : (channels : ℕ) (log : Log) (w : IsectWork) (asked : List Question) → HasEditsInRange log → asked ≡ take (length asked) (questions channels log) → IsectKeeps w asked →
    (i : ℕ) → suc i ≤ length asked → (o : Option Near) → slice_get w.answers i ≡ Some o → slice_get (nearest_hits channels w.segment log) i ≡ Some o
answer_at channels log w asked fit front keeps i long o at =
    get_map (nearest_in_state w.segment) (found_by_frames channels log) i c.from.found found
    ∙ sym (sym at ∙ keeps.answered i q.0 q.1 can ∙ ap Some hit)
  where
    framed : List Cutting
    framed = cuttings [] (opening_state channels) log

    q : (x : Question) × (slice_get asked i ≡ Some x)
    q = get_there asked i long

    stands : slice_get (questions channels log) i ≡ Some q.0
    stands = get_take (length asked) (questions channels log) i q.0 (subst (λ (qs : List Question). slice_get qs i ≡ Some q.0) front q.1)

    c : IsMapped question_of framed i q.0
    c = get_mapped question_of framed i q.0 stands

    found : slice_get (found_by_frames channels log) i ≡ Some c.from.found
    found = get_map (λ (d : Cutting). d.found) framed i c.from c.stands

    is : IsFound c.from.found
    is = frames_found channels log fit i c.from.found found

    copied : copy_at asked (i + 1) ≡ c.from.found.graph.nodes
    copied = copies channels log asked front (i + 1) (omega (arith, long)) ∙ copy_law channels log i c.from.found found

    time : c.from.found.graph.time ≡ q.0.frame
    time = is.time ∙ ap (λ (p : Question). p.frame) c.same

    can : CanAnswer asked i q.0
    can = record {
      limits = λ k l. subst (λ (n : Nodes). KeepsLimits (node_at n)) (sym (copies channels log asked front k (omega (arith, l, long))))
          (copies_keep_limits channels log fit i c.from.found found k l);
      within = subst (λ (n : Nodes). IsWithinLimits (node_at n) q.0.frame) (sym copied)
          (subst (λ (t : ℕ). IsWithinLimits (node_at c.from.found.graph.nodes) t) time is.limits.within);
    }

    hit : nearest (node_at (copy_at asked (i + 1))) q.0.frame q.0.view w.segment ≡ nearest_in_state w.segment c.from.found
    hit =
        ap (λ (n : Nodes). nearest (node_at n) q.0.frame q.0.view w.segment) copied
        ∙ ap (λ (t : ℕ). nearest (node_at c.from.found.graph.nodes) t q.0.view w.segment) (sym time)
        ∙ ap (λ (p : Question). nearest (node_at c.from.found.graph.nodes) c.from.found.graph.time p.view w.segment) (sym c.same)

pub answers_of_history : (channels : ℕ) (log : Log) (w : IsectWork) (asked : List Question) → HasEditsInRange log → asked ≡ take (length asked) (questions channels log) → IsectKeeps w asked →
    w.answers ≡ take (length asked) (nearest_hits channels w.segment log)
answers_of_history channels log w asked fit front keeps =
    front_of w.answers (nearest_hits channels w.segment log)
    (λ i o at. answer_at channels log w asked fit front keeps i (subst (λ (n : ℕ). suc i ≤ n) keeps.many (get_length w.answers i o at)) o at)
    ∙ ap (λ (n : ℕ). take n (nearest_hits channels w.segment log)) keeps.many
