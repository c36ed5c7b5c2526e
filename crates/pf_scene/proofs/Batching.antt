-- Room for entries, batch by batch.
use Rattle.std.proofs.Common.{◌≡◌, ◌⊎◌, inl, inr, ℕ, ◌+◌, ◌%◌, ◌<◌, ◌≤◌, List, [], ◌∷◌, ◌++◌, length, subst, sym, ap, arith}
use Rattle.std.proofs.lemmas.Bool.{cases_lt}
use Rattle.std.proofs.lemmas.List.{length-append}
use Rattle.pf_history.specs.declared.commands.Entry.{Entry}
use Rattle.pf_history.specs.Logs.{Log, Recorded}
use Rattle.pf_scene.specs.Batches.{IsFull, IsReady, IsBatched}

one_less : (n m s t : ℕ) → m ≡ n + 1 → 64 ≤ n % 64 + s → s ≤ t + 1 → (m % 64 ≡ 0) ⊎ (64 ≤ m % 64 + t)
one_less n m s t is ready less = by (cases_lt (n % 64) 63)
  where
    by : (n % 64 < 63) ⊎ (63 ≤ n % 64) → (m % 64 ≡ 0) ⊎ (64 ≤ m % 64 + t)
    by (inl l) = inr (omega (arith, is, ready, less, l))
    by (inr l) = inl (omega (arith, is, l))

-- an entry was added
pub still_batched : (h k : Recorded) (x : ℕ × Entry) → IsReady h → k.entries ≡ h.entries ++ x ∷ [] → h.spare ≤ k.spare + 1 → IsBatched k
still_batched h k x ready adds less =
    let long = ap length adds in
    let more = length-append h.entries (x ∷ []) in
    one_less (length h.entries) (length k.entries) h.spare k.spare (omega (arith, long, more)) ready less

-- more room was made
pub raised_batched : (h k : Recorded) → k.entries ≡ h.entries → h.spare ≤ k.spare → IsBatched h → IsBatched k
raised_batched h k same more (inl full) = inl (subst (λ (log : Log). IsFull log) (sym same) full)
raised_batched h k same more (inr ready) = let long = ap length same in inr (omega (arith, long, more, ready))

pub ready_batched : (h : Recorded) → (IsFull h.entries → ⊥) → IsBatched h → IsReady h
ready_batched h some (inl full) = absurd (some full)
ready_batched h some (inr ready) = ready
