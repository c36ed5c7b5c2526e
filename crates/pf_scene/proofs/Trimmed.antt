-- What edits and deletions leave of the cycles.
use Rattle.std.proofs.Common.{◌≡◌, ◌≢◌, ◌⊎◌, inl, inr, ℕ, ◌<◌, ◌≤◌, max, List, length, Option, Some, None, Result, Ok, Err, OnOk, OnErr, refl, sym, ◌∙◌, ap, subst, arith}
use Rattle.std.proofs.lemmas.Bool.{cases_lt, cases_eq}
use Rattle.std.specs.Option.{option_map, option_map_or}
use Rattle.pf_model.specs.declared.geometry.Tri.{Tri}
use Rattle.cycle_buffer.specs.Cycles.{CycleState, CyclesState, fresh, cycle_at, written_at, copies_at, out_at, out_of, most_of}
use Rattle.pf_scene.specs.Counts.{IsAsLong, AreTrimmed}
use Rattle.pf_scene.proofs.Written.{no_cycle}

-- As long as it was

same_long : (o : Option (List Tri)) → IsAsLong o o
same_long None = tt
same_long (Some ts) = refl

pub long_by : (o p : Option (List Tri)) → o ≡ p → IsAsLong o p
long_by o p h = subst (λ (q : Option (List Tri)). IsAsLong o q) h (same_long o)

long_by_length : (o p : Option (List Tri)) → option_map length o ≡ option_map length p → IsAsLong o p
long_by_length None p h = tt
long_by_length (Some ts) p h = sym h

pub long_then : (o p q : Option (List Tri)) → IsAsLong o p → IsAsLong p q → IsAsLong o q
long_then None p q h k = tt
long_then (Some x) None q h k = absurd (cc)
long_then (Some x) (Some y) q h k = k ∙ h

-- One after the other

pub trimmed_same : (next : ℕ) (a : CyclesState) → AreTrimmed next a a
trimmed_same next a = record {
  out = λ s. omega arith;
  long = λ s l. same_long (written_at a s);
  most = refl;
  begins = refl;
  few = λ s l. omega arith;
  made = λ s. high (copies_at a s) a.copies;
}
  where
    high : (a b : ℕ) → a ≤ max a b
    high a b = omega arith

pub trimmed_then : (next : ℕ) (a b c : CyclesState) → AreTrimmed next a b → AreTrimmed next b c → AreTrimmed next a c
trimmed_then next a b c h k = record {
  out = λ s. at_most (out_at a s) (out_at b s) (out_at c s) (h.out s) (k.out s);
  long = λ s l. long_then (written_at c s) (written_at b s) (written_at a s) (k.long s l) (h.long s l);
  most = k.most ∙ h.most;
  begins = k.begins ∙ h.begins;
  few = λ s l. at_most (copies_at a s) (copies_at b s) (copies_at c s) (h.few s l) (k.few s l);
  made = λ s. twice (copies_at a s) (copies_at b s) (copies_at c s) a.copies b.copies (h.made s) (k.made s) h.begins;
}
  where
    twice : (x y z m n : ℕ) → y ≤ max x m → z ≤ max y n → n ≡ m → z ≤ max x m
    twice x y z m n h k e = omega arith

    at_most : (x y z : ℕ) → y ≤ x → z ≤ y → z ≤ x
    at_most x y z h k = omega arith

pub trimmed_earlier : (first next : ℕ) (a b : CyclesState) → first ≤ next → AreTrimmed next a b → AreTrimmed first a b
trimmed_earlier first next a b l h = record {
  out = h.out;
  long = λ s k. h.long s (omega (arith, l, k));
  most = h.most;
  begins = h.begins;
  few = λ s k. h.few s (omega (arith, l, k));
  made = h.made;
}

-- One call

same_most : (c d : CyclesState) → d.copies ≡ c.copies → d.most ≡ c.most → most_of d ≡ most_of c
same_most c d copies most = omega (arith, copies, most)

none_out_of : (o : Option CycleState) → o ≡ None → option_map_or out_of o 0 ≡ 0
none_out_of o h = ap (λ (p : Option CycleState). option_map_or out_of p 0) h

-- nothing is out under a serial without a cycle
pub none_out : (c : CyclesState) (s : ℕ) → written_at c s ≡ None → out_at c s ≡ 0
none_out c s h = none_out_of (cycle_at c s) (no_cycle c s h)

pub trimmed_dropped : (c d : CyclesState) (serial : ℕ) → cycle_at d serial ≡ None → ((s : ℕ) → s ≢ serial → cycle_at d s ≡ cycle_at c s)
    → d.copies ≡ c.copies → d.most ≡ c.most → (next : ℕ) → AreTrimmed next c d
trimmed_dropped c d serial removed others copies most next = record {
  out = λ s. out s (cases_eq s serial);
  long = λ s l. long s (cases_eq s serial);
  most = same_most c d copies most;
  begins = copies;
  few = λ s l. few s (cases_eq s serial);
  made = λ s. high (copies_at d s) (copies_at c s) c.copies (few s (cases_eq s serial));
}
  where
    low : (a b : ℕ) → a ≡ b → a ≤ b
    low a b h = omega arith

    nothing : (a b : ℕ) → a ≡ 0 → a ≤ b
    nothing a b h = omega arith

    high : (a b k : ℕ) → a ≤ b → a ≤ max b k
    high a b k h = omega arith

    few : (s : ℕ) → (s ≡ serial) ⊎ (s ≡ serial → ⊥) → copies_at d s ≤ copies_at c s
    few s (inl h) = nothing (copies_at d s) (copies_at c s) (ap (λ (o : Option CycleState). option_map_or (λ x. x.copies) o 0) (ap (cycle_at d) h ∙ removed))
    few s (inr h) = low (copies_at d s) (copies_at c s) (ap (λ (o : Option CycleState). option_map_or (λ x. x.copies) o 0) (others s h))

    out : (s : ℕ) → (s ≡ serial) ⊎ (s ≡ serial → ⊥) → out_at d s ≤ out_at c s
    out s (inl h) = nothing (out_at d s) (out_at c s) (none_out_of (cycle_at d s) (ap (cycle_at d) h ∙ removed))
    out s (inr h) = low (out_at d s) (out_at c s) (ap (λ (o : Option CycleState). option_map_or out_of o 0) (others s h))

    long : (s : ℕ) → (s ≡ serial) ⊎ (s ≡ serial → ⊥) → IsAsLong (written_at d s) (written_at c s)
    long s (inl h) = subst (λ (o : Option CycleState). IsAsLong (option_map (λ x. x.written) o) (written_at c s)) (sym (ap (cycle_at d) h ∙ removed)) tt
    long s (inr h) = long_by (written_at d s) (written_at c s) (ap (λ (o : Option CycleState). option_map (λ x. x.written) o) (others s h))

pub trimmed_added : (c d : CyclesState) (serial : ℕ) (tris : List Tri) → cycle_at d serial ≡ Some (fresh tris c.copies) → ((s : ℕ) → out_at d s ≡ out_at c s) → ((s : ℕ) → s ≢ serial → cycle_at d s ≡ cycle_at c s)
    → d.copies ≡ c.copies → d.most ≡ max c.most c.copies → AreTrimmed serial c d
trimmed_added c d serial tris added out others copies most = record {
  out = λ s. low (out_at d s) (out_at c s) (out s);
  long = λ s l. long_by (written_at d s) (written_at c s) (ap (λ (o : Option CycleState). option_map (λ x. x.written) o) (others s (λ e. absurd (omega (arith, l, e)))));
  most = omega (arith, copies, most);
  begins = copies;
  few = λ s l. same s (λ e. absurd (omega (arith, l, e)));
  made = λ s. made s (cases_eq s serial);
}
  where
    low : (a b : ℕ) → a ≡ b → a ≤ b
    low a b h = omega arith

    same : (s : ℕ) → s ≢ serial → copies_at d s ≤ copies_at c s
    same s h = low (copies_at d s) (copies_at c s) (ap (λ (o : Option CycleState). option_map_or (λ x. x.copies) o 0) (others s h))

    left : (a b k : ℕ) → a ≤ b → a ≤ max b k
    left a b k h = omega arith

    right : (a b k : ℕ) → a ≡ k → a ≤ max b k
    right a b k h = omega arith

    made : (s : ℕ) → (s ≡ serial) ⊎ (s ≡ serial → ⊥) → copies_at d s ≤ max (copies_at c s) c.copies
    made s (inl h) = right (copies_at d s) (copies_at c s) c.copies (ap (λ (o : Option CycleState). option_map_or (λ x. x.copies) o 0) (ap (cycle_at d) h ∙ added))
    made s (inr h) = left (copies_at d s) (copies_at c s) c.copies (same s h)

pub trimmed_written : (c d : CyclesState) → ((s : ℕ) → out_at d s ≡ out_at c s) → ((s : ℕ) → option_map length (written_at d s) ≡ option_map length (written_at c s))
    → ((s : ℕ) → copies_at d s ≡ copies_at c s) → d.copies ≡ c.copies → d.most ≡ c.most → (next : ℕ) → AreTrimmed next c d
trimmed_written c d out lengths counts copies most next = record {
  out = λ s. low (out_at d s) (out_at c s) (out s);
  long = λ s l. long_by_length (written_at d s) (written_at c s) (lengths s);
  most = same_most c d copies most;
  begins = copies;
  few = λ s l. low (copies_at d s) (copies_at c s) (counts s);
  made = λ s. left (copies_at d s) (copies_at c s) c.copies (counts s);
}
  where
    left : (a b k : ℕ) → a ≡ b → a ≤ max b k
    left a b k h = omega arith

    low : (a b : ℕ) → a ≡ b → a ≤ b
    low a b h = omega arith

-- what is out below a serial is out, where there is nothing from it on
pub same_out : (c d : CyclesState) (first : ℕ) → ((s : ℕ) → s < first → out_at d s ≡ out_at c s) → ((s : ℕ) → first ≤ s → written_at c s ≡ None)
    → ((s : ℕ) → first ≤ s → written_at d s ≡ None) → (s : ℕ) → out_at d s ≡ out_at c s
same_out c d first below none_c none_d s = by (cases_lt s first)
  where
    by : (s < first) ⊎ (first ≤ s) → out_at d s ≡ out_at c s
    by (inl l) = below s l
    by (inr l) = none_out d s (none_d s l) ∙ sym (none_out c s (none_c s l))

-- a cycle that was to be added
pub trimmed_add : {T E : Type 0} (r : Result T E) (c d : CyclesState) (serial : ℕ) (tris : List Tri) → OnOk r (cycle_at d serial ≡ Some (fresh tris c.copies)) → ((s : ℕ) → out_at d s ≡ out_at c s) → ((s : ℕ) → s ≢ serial → cycle_at d s ≡ cycle_at c s)
    → d.copies ≡ c.copies → OnOk r (d.most ≡ max c.most c.copies) → OnErr r (d ≡ c) → AreTrimmed serial c d
trimmed_add (Ok x) c d serial tris added out others copies most none = trimmed_added c d serial tris added out others copies most
trimmed_add (Err e) c d serial tris added out others copies most same = subst (λ (k : CyclesState). AreTrimmed serial c k) (sym same) (trimmed_same serial c)
