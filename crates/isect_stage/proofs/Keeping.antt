-- The stage keeps its part over one more question.
use Rattle.std.proofs.Common.{◌≡◌, ◌∙◌, ◌⊎◌, ℕ, zero, suc, ◌+◌, ◌≤◌, List, [], ◌∷◌, ◌++◌, length, slice_get, Option, Some, ap, sym, refl, subst, arith, inl, inr}
use Rattle.std.proofs.lemmas.List.{take_all, take-append-le, length_push}
use Rattle.std.specs.List.{fold}
use Rattle.pf_model.specs.Graphs.{Nodes, node_at}
use Rattle.pf_model.specs.Limits.{KeepsLimits, IsWithinLimits}
use Rattle.pf_model.specs.Copies.{copy_of, updated_by}
use Rattle.multibuffer.specs.StageCopies.{CopyState, boxes_of, HasRightBoxes}
use Rattle.nearest_hit.specs.declared.found.Near.{Near}
use Rattle.nearest_hit.specs.Nearest.{nearest, CanBeProbed}
use Rattle.isect_stage.proofs.Places.{get_length, get_push}
use Rattle.isect_stage.specs.Asking.{IsectWork, Question, updates_in, copy_at, CanAnswer, IsectKeeps}

-- ---- elements of a list with one more
get_front : {X : Type 0} (xs ys : List X) (i : ℕ) (x : X) → slice_get xs i ≡ Some x → slice_get (xs ++ ys) i ≡ Some x
get_front [] ys i x at = absurd (cc)
get_front (z ∷ xs) ys zero x at = at
get_front (z ∷ xs) ys (suc i) x at = get_front xs ys i x at

get_last : {X : Type 0} (xs : List X) (x : X) → slice_get (xs ++ x ∷ []) (length xs) ≡ Some x
get_last [] x = refl
get_last (y ∷ xs) x = get_last xs x

-- ---- copies
abbrev whole_copy : List Question → Nodes
whole_copy qs = copy_of (updates_in qs)

copy_whole : (qs : List Question) → copy_at qs (length qs) ≡ whole_copy qs
copy_whole qs = ap whole_copy (take_all (length qs) qs (omega arith))

folded_push : (nodes : Nodes) (qs : List Question) (q : Question) →
    fold updated_by nodes (updates_in (qs ++ q ∷ [])) ≡ updated_by (fold updated_by nodes (updates_in qs)) q.updates
folded_push nodes [] q = refl
folded_push nodes (p ∷ qs) q = folded_push (updated_by nodes p.updates) qs q

whole_push : (qs : List Question) (q : Question) → whole_copy (qs ++ q ∷ []) ≡ updated_by (whole_copy qs) q.updates
whole_push qs q = folded_push (copy_of []) qs q

copy_push : (qs : List Question) (q : Question) → copy_at (qs ++ q ∷ []) (length qs + 1) ≡ updated_by (whole_copy qs) q.updates
copy_push qs q = ap (copy_at (qs ++ q ∷ [])) (sym (length_push qs q)) ∙ copy_whole (qs ++ q ∷ []) ∙ whole_push qs q

copy_front : (qs more : List Question) (k : ℕ) → k ≤ length qs → copy_at (qs ++ more) k ≡ copy_at qs k
copy_front qs more k l = ap whole_copy (take-append-le k qs more l)

-- ---- the start
pub keeps_none : (w : IsectWork) → w.copy.nodes ≡ copy_of [] → HasRightBoxes w.copy → w.answers ≡ [] → IsectKeeps w []
keeps_none w nodes right none = record {
  copy = nodes;
  right = λ all. right;
  many = ap length none;
  answered = λ i q at can. absurd (cc);
}

-- ---- one more question
-- What a stage makes of a question: its copy after the update list, with boxes that are right where they may be, and the
-- nearest hit where the probe can be exact.
pub record Answers (w : IsectWork) (q : Question) (copy : CopyState) (answer : Option Near) : Type 0 where
  pub nodes : copy.nodes ≡ updated_by w.copy.nodes q.updates
  pub right : HasRightBoxes w.copy → KeepsLimits (node_at copy.nodes) → HasRightBoxes copy
  pub is : CanBeProbed (node_at copy.nodes) (boxes_of copy) q.frame → answer ≡ nearest (node_at copy.nodes) q.frame q.view w.segment

-- what can be answered exactly could be before one more question came
before_of : (asked : List Question) (q : Question) (i : ℕ) (p : Question) → suc i ≤ length asked → CanAnswer (asked ++ q ∷ []) i p → CanAnswer asked i p
before_of asked q i p below can = record {
  limits = λ k l. subst (λ (n : Nodes). KeepsLimits (node_at n)) (copy_front asked (q ∷ []) k (omega (arith, l, below))) (can.limits k l);
  within = subst (λ (n : Nodes). IsWithinLimits (node_at n) p.frame) (copy_front asked (q ∷ []) (i + 1) (omega (arith, below))) can.within;
}

pub keeps_more : (w : IsectWork) (asked : List Question) (q : Question) (copy : CopyState) (answer : Option Near) (room : ℕ) → IsectKeeps w asked →
    Answers w q copy answer →
    IsectKeeps (record { segment = w.segment; copy = copy; answers = w.answers ++ answer ∷ []; room = room }) (asked ++ q ∷ [])
keeps_more w asked q copy answer room keeps made = record {
  copy = copied;
  right = λ all. made.right
      (keeps.right (λ k l. subst (λ (n : Nodes). KeepsLimits (node_at n)) (copy_front asked (q ∷ []) k l) (all k (omega (arith, l, length_push asked q)))))
      (subst (λ (n : Nodes). KeepsLimits (node_at n)) (copy_whole (asked ++ q ∷ []) ∙ sym copied) (all (length (asked ++ q ∷ [])) (omega arith)));
  many = omega (arith, length_push w.answers answer, length_push asked q, keeps.many);
  answered = λ i p at can. by i p can (get_push asked q i p at);
}
  where
    copied : copy.nodes ≡ copy_of (updates_in (asked ++ q ∷ []))
    copied = made.nodes ∙ ap (λ (n : Nodes). updated_by n q.updates) keeps.copy ∙ sym (whole_push asked q)

    last_copy : copy_at (asked ++ q ∷ []) (length asked + 1) ≡ copy.nodes
    last_copy = copy_push asked q ∙ sym (whole_push asked q) ∙ sym copied

    last : CanAnswer (asked ++ q ∷ []) (length asked) q → answer ≡ nearest (node_at (copy_at (asked ++ q ∷ []) (length asked + 1))) q.frame q.view w.segment
    last can =
        made.is (record {
          limits = subst (λ (n : Nodes). IsWithinLimits (node_at n) q.frame) last_copy can.within;
          boxes_are = (made.right
              (keeps.right (λ k l. subst (λ (n : Nodes). KeepsLimits (node_at n)) (copy_front asked (q ∷ []) k l) (can.limits k (omega (arith, l)))))
              (subst (λ (n : Nodes). KeepsLimits (node_at n)) last_copy (can.limits (length asked + 1) (omega arith)))).each;
        })
        ∙ ap (λ (n : Nodes). nearest (node_at n) q.frame q.view w.segment) (sym last_copy)

    Claim : ℕ → Question → Type 0
    Claim j r = CanAnswer (asked ++ q ∷ []) j r → slice_get (w.answers ++ answer ∷ []) j ≡ Some (nearest (node_at (copy_at (asked ++ q ∷ []) (j + 1))) r.frame r.view w.segment)

    ends : CanAnswer (asked ++ q ∷ []) (length asked) q →
        slice_get (w.answers ++ answer ∷ []) (length asked) ≡ Some (nearest (node_at (copy_at (asked ++ q ∷ []) (length asked + 1))) q.frame q.view w.segment)
    ends may = ap (slice_get (w.answers ++ answer ∷ [])) (sym keeps.many) ∙ get_last w.answers answer ∙ ap (λ (o : Option Near). Some o) (last may)

    at_end : (j : ℕ) (r : Question) → j ≡ length asked → q ≡ r → CanAnswer (asked ++ q ∷ []) j r →
        slice_get (w.answers ++ answer ∷ []) j ≡ Some (nearest (node_at (copy_at (asked ++ q ∷ []) (j + 1))) r.frame r.view w.segment)
    at_end j r e f = subst (λ (k : ℕ). Claim k r) (sym e) (subst (λ (x : Question). Claim (length asked) x) f ends)

    by : (i : ℕ) (p : Question) → CanAnswer (asked ++ q ∷ []) i p → (slice_get asked i ≡ Some p) ⊎ ((i ≡ length asked) × (q ≡ p)) →
        slice_get (w.answers ++ answer ∷ []) i ≡ Some (nearest (node_at (copy_at (asked ++ q ∷ []) (i + 1))) p.frame p.view w.segment)
    by i p can (inl at) =
        let below : suc i ≤ length asked = get_length asked i p at in
        get_front w.answers (answer ∷ []) i _ (keeps.answered i p at (before_of asked q i p below can))
        ∙ ap (λ (n : Nodes). Some (nearest (node_at n) p.frame p.view w.segment)) (sym (copy_front asked (q ∷ []) (i + 1) (omega (arith, below))))
    by i p can (inr here) = at_end i p here.0 here.1 can
