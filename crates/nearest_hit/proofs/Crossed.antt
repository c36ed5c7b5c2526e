-- What a crossing says of its sum and of its time.
use Rattle.std.proofs.Common.{◌≡◌, ◌≢◌, Bool, true, false, ◌&&◌, Some, None, inl, inr, arith, ap, subst, ◌∙◌}
use Rattle.std.specs.Prelude.{ℤ, pos, neg_ℤ, ◌*ℤ◌, ◌≤ℤ◌, ◌<ℤ◌, int_lt, int_le, IsTrue, ◌⊎◌, unsigned_abs}
use Rattle.std.proofs.lemmas.Bool.{or_cases, and_parts}
use Rattle.std.proofs.lemmas.Int.{ints}
use lib.IntN.{*ℤ-zero, *ℤ_comm}
use Rattle.fx_math.specs.Fixed.{floor_div}
use Rattle.fx_math.specs.Hit.{Edges, sum_of}
use Rattle.fx_math.proofs.Floor.{floor_at_least, floor_at_most, floor_neg}
use Rattle.fx_math.proofs.Ring.{order, mul-neg, times_le}
use Rattle.nearest_hit.specs.Crossings.{are_above, is_part, is_ahead, is_crossed, time_at, judged, turned}

-- the parts of a crossing ahead
pub record IsAhead (volume : ℤ) (e : Edges) : Type 0 where
  pub sum : pos 0 <ℤ sum_of e
  pub e0 : pos 0 ≤ℤ e.e0
  pub e1 : pos 0 ≤ℤ e.e1
  pub e2 : pos 0 ≤ℤ e.e2
  pub some : pos 0 ≤ℤ volume
  pub most : volume ≤ℤ sum_of e

three : (a b c : Bool) → IsTrue (a && b && c) → IsTrue a × IsTrue b × IsTrue c
three a b c h =
    let outer = and_parts (a && b) c h in
    let inner = and_parts a b outer.0 in
    (inner.0, inner.1, outer.1)

pub ahead_parts : (volume : ℤ) (e : Edges) → IsTrue (is_ahead volume e) → IsAhead volume e
unfolding is_ahead are_above is_part
ahead_parts volume e h =
    let all = three (int_lt (pos 0) (sum_of e)) (are_above e) (is_part volume (sum_of e)) h in
    let above = three (int_le (pos 0) e.e0) (int_le (pos 0) e.e1) (int_le (pos 0) e.e2) all.1 in
    let part = and_parts (int_le (pos 0) volume) (int_le volume (sum_of e)) all.2 in
    record {
      sum = omega (arith, ints, all.0);
      e0 = omega (arith, ints, above.0);
      e1 = omega (arith, ints, above.1);
      e2 = omega (arith, ints, above.2);
      some = omega (arith, ints, part.0);
      most = omega (arith, ints, part.1);
    }

-- a segment crosses a triangle with its signs as they are, or with all of them turned
pub crossed_cases : (volume : ℤ) (e : Edges) → IsTrue (is_crossed volume e) → IsAhead volume e ⊎ IsAhead (neg_ℤ volume) (turned e)
unfolding is_crossed
crossed_cases volume e h = elim (or_cases _ _ h) [ inl f ↦ inl (ahead_parts volume e f) | inr b ↦ inr (ahead_parts (neg_ℤ volume) (turned e) b) ]

pub sum_turned : (e : Edges) → sum_of (turned e) ≡ neg_ℤ (sum_of e)
sum_turned e = omega (arith, ints)

pub crossed_sum : (volume : ℤ) (e : Edges) → IsTrue (is_crossed volume e) → sum_of e ≢ pos 0
crossed_sum volume e h zero =
    elim (crossed_cases volume e h) [
      | inl f ↦ absurd (omega (arith, ints, zero, f.sum))
      | inr b ↦ absurd (omega (arith, ints, zero, b.sum))
    ]

-- a time from 0 to 65536
pub record IsTime (z : ℤ) : Type 0 where
  pub low : pos 0 ≤ℤ z
  pub high : z ≤ℤ pos 65536

time_ahead : (volume : ℤ) (e : Edges) → IsAhead volume e → IsTime (time_at volume e)
unfolding time_at
time_ahead volume e h =
    let unit : pos 0 ≤ℤ pos 65536 = omega (arith, ints) in
    let least : (sum_of e *ℤ pos 0) ≤ℤ (pos 65536 *ℤ volume) =
    omega (arith, order, *ℤ-zero (sum_of e), *ℤ-zero (pos 65536), times_le (pos 65536) (pos 0) volume unit h.some) in
    let most : (pos 65536 *ℤ volume) ≤ℤ (sum_of e *ℤ pos 65536) =
    omega (arith, order, *ℤ_comm (sum_of e) (pos 65536), times_le (pos 65536) volume (sum_of e) unit h.most) in
    record {
      low = floor_at_least (pos 65536 *ℤ volume) (sum_of e) (pos 0) h.sum least;
      high = floor_at_most (pos 65536 *ℤ volume) (sum_of e) (pos 65536) h.sum most;
    }

time_turned : (volume : ℤ) (e : Edges) → sum_of e ≢ pos 0 → time_at (neg_ℤ volume) (turned e) ≡ time_at volume e
unfolding time_at
time_turned volume e some =
    ap (λ (n : ℤ). floor_div n (sum_of (turned e))) (mul-neg (pos 65536) volume)
    ∙ ap (λ (d : ℤ). floor_div (neg_ℤ (pos 65536 *ℤ volume)) d) (sum_turned e)
    ∙ floor_neg (pos 65536 *ℤ volume) (sum_of e) some

pub time_in_range : (volume : ℤ) (e : Edges) → IsTrue (is_crossed volume e) → IsTime (time_at volume e)
time_in_range volume e h =
    elim (crossed_cases volume e h) [
      | inl f ↦ time_ahead volume e f
      | inr b ↦ subst (λ (z : ℤ). IsTime z) (time_turned volume e (crossed_sum volume e h)) (time_ahead (neg_ℤ volume) (turned e) b)
    ]

pub judged_crossed : (volume : ℤ) (e : Edges) → is_crossed volume e ≡ true → judged volume e ≡ Some (unsigned_abs (time_at volume e))
unfolding judged
judged_crossed volume e h = rw h

pub judged_missed : (volume : ℤ) (e : Edges) → is_crossed volume e ≡ false → judged volume e ≡ None
unfolding judged
judged_missed volume e h = rw h
