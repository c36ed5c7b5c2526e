-- What was read of a source, and what the source told.
use Rattle.std.proofs.Common.{◌≡◌, ◌<◌, ℕ, List, ◌++◌, length, Option, Some, None, IfSome, IfErr, ◌⊎◌, inl, inr, arith, refl, sym, ap, subst, ◌∙◌, append-nil, length-append}
use Rattle.std.specs.Prelude.{◌↔◌, Result, Ok, Err}
use Rattle.std.specs.Io.KnownBytes.{prepend_known, IsAtEnd}
use Rattle.std.proofs.lemmas.Bool.{lt-ltb}
use Rattle.std.proofs.lemmas.Option.{same_Some}
use Rattle.play_format.specs.declared.refusal.Refusal.{Refusal}
use Rattle.play_format.specs.declared.refusal.Why.TheVariants as whys
use Rattle.play_format.specs.Plays.{Script}
use Rattle.play_format.specs.Reads.{Reads, HasReading, first_refusal}
use Rattle.play_format.specs.Grammar.{reading}
use Rattle.program_ends.specs.declared.stop.Stop.{Stop}
use Rattle.program_ends.specs.declared.stop.Stop.TheVariants as stop
use Rattle.perfly_top.specs.Readings.{Gave, HasNoPlay}

-- two texts spell the same play, or have the same first wrong line
record AreReadAlike (a b : List ℕ) : Type 0 where
  refusal : first_refusal a ≡ first_refusal b
  plays : (play : Script) → Reads a play ↔ Reads b play

-- a text that is too long is refused as a whole
too_long : (text : List ℕ) → 16777216 < length text → first_refusal text ≡ Some (record { line = 0; why = whys.Length })
unfolding reading
too_long text long = rw (lt-ltb 16777216 (length text) long) refl

-- two texts that are too long are read alike
long_alike : (a b : List ℕ) → 16777216 < length a → 16777216 < length b → AreReadAlike a b
long_alike a b la lb =
    record {
      refusal = too_long a la ∙ sym (too_long b lb);
      plays = λ play. (λ r. absurd (let few = r.few in omega (arith, few, la)), λ r. absurd (let few = r.few in omega (arith, few, lb)));
    }

same_alike : (a b : List ℕ) → a ≡ b → AreReadAlike a b
same_alike a b e = subst (λ x. AreReadAlike a x) e (record { refusal = refl; plays = λ play. (λ r. r, λ r. r) })

-- what was read is read as the whole input is
read_alike : (left left' : Option (List ℕ)) (v : List ℕ) → left ≡ prepend_known v left' →
    (length v ≡ 16777217) ⊎ ((length v < 16777217) × IsAtEnd left') → IfSome left (λ text. AreReadAlike text v)
read_alike None left' v taken whole = tt
read_alike (Some text) None v taken whole = absurd (cc)
read_alike (Some text) (Some rest) v taken (inl full) =
    let all : text ≡ v ++ rest = same_Some text (v ++ rest) taken in
    long_alike text v (omega (arith, full, ap length all, length-append v rest)) (omega (arith, full))
read_alike (Some text) (Some rest) v taken (inr done) =
    let all : text ≡ v ++ rest = same_Some text (v ++ rest) taken in
    same_alike text v (all ∙ ap (λ (r : List ℕ). v ++ r) done.1 ∙ append-nil v)

refused_alike : (left : Option (List ℕ)) (v : List ℕ) (r : Refusal) → IfSome left (λ text. AreReadAlike text v) →
    (first_refusal v ≡ Some r) × ¬ HasReading v → IfSome left (λ text. (first_refusal text ≡ Some r) × ¬ HasReading text)
refused_alike None v r alike refused = tt
refused_alike (Some text) v r alike refused = (alike.refusal ∙ refused.0, λ has. refused.1 (has.0, (alike.plays has.0).0 has.1))

ended_out : (left' : Option (List ℕ)) (v : List ℕ) →
    (length v ≡ 16777217) ⊎ ((length v < 16777217) × IsAtEnd left') → (length v ≡ 16777217) ⊎ IsAtEnd left'
ended_out left' v (inl full) = inl full
ended_out left' v (inr done) = inr done.1

no_play_by : (left left' : Option (List ℕ)) (v : List ℕ) (s : Stop) → Gave left left' v →
    ((r : Refusal) → s ≡ stop.Refused r → (first_refusal v ≡ Some r) × ¬ HasReading v) →
    ((r : Refusal) × (s ≡ stop.Refused r)) ⊎ (s ≡ stop.NoMemory) → HasNoPlay None left left' s
no_play_by left left' v s gave refused (inl (r, is)) =
    subst (HasNoPlay None left left') (sym is) (
      refl,
      refused_alike left v r (read_alike left left' v gave.taken gave.whole) (refused r is),
      (v, gave.taken, ended_out left' v gave.whole),
    )
no_play_by left left' v s gave refused (inr is) = subst (HasNoPlay None left left') (sym is) (v, gave.taken)

-- where bytes that the source gave are no play, the source has none
pub no_play_of : (left left' : Option (List ℕ)) (v : List ℕ) (r : Result Script Stop) → Gave left left' v →
    ((refusal : Refusal) → r ≡ Err (stop.Refused refusal) → (first_refusal v ≡ Some refusal) × ¬ HasReading v) →
    ((s : Stop) → r ≡ Err s → ((refusal : Refusal) × (s ≡ stop.Refused refusal)) ⊎ (s ≡ stop.NoMemory)) →
    IfErr r (λ s. HasNoPlay None left left' s)
no_play_of left left' v (Ok p) gave refused causes = tt
no_play_of left left' v (Err s) gave refused causes =
    no_play_by left left' v s gave (λ refusal is. refused refusal (ap Err is)) (causes s refl)
