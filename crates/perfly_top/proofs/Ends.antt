-- Which of the reads of a source found its end.
use Rattle.std.proofs.Common.{◌≡◌, ◌<◌, ◌∙◌, ℕ, Bool, true, ◌==◌, ◌||◌, List, length, Option, Some, None, ◌⊎◌, inl, inr, IfErr, arith, refl, sym, ap, subst}
use Rattle.std.specs.Prelude.{Result, Ok, Err, IfOk, OnOk}
use Rattle.std.specs.Io.KnownBytes.{IsAtEnd}
use Rattle.std.proofs.lemmas.Option.{same_Some}
use Rattle.pf_io.specs.Causes.{counted}
use Rattle.play_format.specs.declared.refusal.Refusal.{Refusal}
use Rattle.play_format.specs.Plays.{Script}
use Rattle.play_format.specs.Reads.{Reads}
use Rattle.program_words.specs.declared.words.Words.{Words}
use Rattle.program_ends.specs.declared.stop.Stop.{Stop}
use Rattle.program_ends.specs.declared.stop.Stop.TheVariants as stop
use Rattle.program_ends.specs.Statuses.{status_of}
use Rattle.program_ends.specs.Told.{Bytes}
use Rattle.perfly_top.specs.Readings.{Gave, ends_for, EndsOrFills, EndsOnce, EndsFor}
use Rattle.perfly_top.specs.Endings.{FindsEnd}

-- a text that is a play was read to its end
pub one_end_of : (r : Result Script Stop) (v : List ℕ) (ends ends' : ℕ) → (length v < 16777217 → ends' ≡ counted ends) →
    IfOk r (λ p. Reads v p) → OnOk r (ends' ≡ counted ends)
one_end_of (Ok p) v ends ends' short reads = short (let few = reads.few in omega (arith, few))
one_end_of (Err s) v ends ends' short reads = tt

or_fills : (left left' : Bytes) (v : List ℕ) (ends ends' : ℕ) → Gave left left' v →
    (length v < 16777217 → ends' ≡ counted ends) → (length v ≡ 16777217 → ends' ≡ ends) →
    (length v ≡ 16777217) ⊎ ((length v < 16777217) × IsAtEnd left') → EndsOrFills left left' ends ends'
or_fills left left' v ends ends' gave short full (inl is) = inr (full is, v, is, gave.taken)
or_fills left left' v ends ends' gave short full (inr is) = inl (short is.0)

-- at most one read found the end, where one did or none
fills_once : (left left' : Bytes) (ends ends' : ℕ) → EndsOrFills left left' ends ends' → EndsOnce ends ends'
fills_once left left' ends ends' (inl one) = inr one
fills_once left left' ends ends' (inr none) = inl none.0

-- where bytes that the source gave are no play, one read found the end, or as many bytes were taken as are at most
pub ends_of : (left left' : Bytes) (v : List ℕ) (ends ends' : ℕ) (r : Result Script Stop) → Gave left left' v →
    (length v < 16777217 → ends' ≡ counted ends) → (length v ≡ 16777217 → ends' ≡ ends) →
    ((s : Stop) → r ≡ Err s → ((refusal : Refusal) × (s ≡ stop.Refused refusal)) ⊎ (s ≡ stop.NoMemory)) →
    IfErr r (λ s. EndsFor left left' ends ends' s)
ends_of left left' v ends ends' (Ok p) gave short full causes = tt
ends_of left left' v ends ends' (Err s) gave short full causes = by (causes s refl)
  where
    found : EndsOrFills left left' ends ends'
    found = or_fills left left' v ends ends' gave short full gave.whole

    by : ((refusal : Refusal) × (s ≡ stop.Refused refusal)) ⊎ (s ≡ stop.NoMemory) → EndsFor left left' ends ends' s
    by (inl (refusal, is)) = subst (EndsFor left left' ends ends') (sym is) found
    by (inr is) = subst (EndsFor left left' ends ends') (sym is) (fills_once left left' ends ends' found)

-- with no number to make one read finds the end
pub unmade_end : (make : Option ℕ) (ends ends' : ℕ) → make ≡ None → ends' ≡ ends_for make ends → ends' ≡ counted ends
unmade_end make ends ends' none e = subst (λ (m : Option ℕ). ends' ≡ ends_for m ends) none e

made_end : (make : Option ℕ) (n ends ends' : ℕ) → make ≡ Some n → ends' ≡ ends_for make ends → ends' ≡ ends
made_end make n ends ends' some e = subst (λ (m : Option ℕ). ends' ≡ ends_for m ends) some e

-- the statuses at which a source was read to its end
abbrev reads_out : ℕ → Bool
reads_out n = (n == 0) || ((n == 3) || ((n == 5) || (n == 6)))

at_end : (n : ℕ) → (n ≡ 0) ⊎ (n ≡ 3) ⊎ (n ≡ 5) ⊎ (n ≡ 6) → reads_out n ≡ true
at_end n (inl e) = ap reads_out e
at_end n (inr (inl e)) = ap reads_out e
at_end n (inr (inr (inl e))) = ap reads_out e
at_end n (inr (inr (inr e))) = ap reads_out e

-- a call that stops before it plays
pub stopped_ends : (meant : Option Words) (left left' : Bytes) (ends ends' : ℕ) (s : Stop) → EndsFor left left' ends ends' s →
    ((words : Words) (n : ℕ) → meant ≡ Some words → words.make ≡ Some n → ends' ≡ ends) →
    FindsEnd meant left left' ends ends' (status_of s)
stopped_ends meant left left' ends ends' s found unasked =
    record {
      once = once s found;
      wrong_words = wrong_words s found;
      refused = refused s found;
      fault = fault s found;
      made = unasked;
      read = λ words meaning make status. read s found (at_end (status_of s) status);
    }
  where
    once : (s : Stop) → EndsFor left left' ends ends' s → EndsOnce ends ends'
    once stop.Words e = inl e
    once (stop.Refused r) e = fills_once left left' ends ends' e
    once (stop.Stuck app dbase) e = inr e
    once stop.ReadFault e = inl e
    once stop.FrameFault e = absurd e
    once stop.NoMemory e = e

    wrong_words : (s : Stop) → EndsFor left left' ends ends' s → status_of s ≡ 1 → ends' ≡ ends
    wrong_words stop.Words e q = e
    wrong_words (stop.Refused r) e q = absurd cc
    wrong_words (stop.Stuck app dbase) e q = absurd cc
    wrong_words stop.ReadFault e q = e
    wrong_words stop.FrameFault e q = absurd e
    wrong_words stop.NoMemory e q = absurd cc

    refused : (s : Stop) → EndsFor left left' ends ends' s → status_of s ≡ 2 → EndsOrFills left left' ends ends'
    refused stop.Words e q = absurd cc
    refused (stop.Refused r) e q = e
    refused (stop.Stuck app dbase) e q = inl e
    refused stop.ReadFault e q = absurd cc
    refused stop.FrameFault e q = absurd e
    refused stop.NoMemory e q = absurd cc

    fault : (s : Stop) → EndsFor left left' ends ends' s → status_of s ≡ 4 → ends' ≡ ends
    fault stop.Words e q = e
    fault (stop.Refused r) e q = absurd cc
    fault (stop.Stuck app dbase) e q = absurd cc
    fault stop.ReadFault e q = e
    fault stop.FrameFault e q = absurd e
    fault stop.NoMemory e q = absurd cc

    read : (s : Stop) → EndsFor left left' ends ends' s → reads_out (status_of s) ≡ true → ends' ≡ counted ends
    read stop.Words e q = absurd cc
    read (stop.Refused r) e q = absurd cc
    read (stop.Stuck app dbase) e q = e
    read stop.ReadFault e q = absurd cc
    read stop.FrameFault e q = absurd e
    read stop.NoMemory e q = absurd cc

-- what holds where these words give a number to make holds where the same words, by what was said, give one
pub unasked_of : (P : Type 0) (meant : Option Words) (w : Words) → meant ≡ Some w → ((n : ℕ) → w.make ≡ Some n → P) →
    (words : Words) (n : ℕ) → meant ≡ Some words → words.make ≡ Some n → P
unasked_of P meant w is unasked words n means some =
    unasked n (ap (λ (v : Words). v.make) (same_Some w words (sym is ∙ means)) ∙ some)

-- a call that reads nothing
pub unread_ends : (meant : Option Words) (left : Bytes) (ends : ℕ) (s : Stop) →
    ((s ≡ stop.Words) × (meant ≡ None)) ⊎ (s ≡ stop.NoMemory) → FindsEnd meant left left ends ends (status_of s)
unread_ends meant left ends s why = stopped_ends meant left left ends ends s (by why) (λ words n meaning make. refl)
  where
    by : ((s ≡ stop.Words) × (meant ≡ None)) ⊎ (s ≡ stop.NoMemory) → EndsFor left left ends ends s
    by (inl is) = subst (EndsFor left left ends ends) (sym is.0) refl
    by (inr is) = subst (EndsFor left left ends ends) (sym is) (inl refl)

-- the statuses of a call that plays
abbrev plays : ℕ → Bool
plays n = (n == 0) || ((n == 5) || ((n == 6) || (n == 7)))

by_playing : (n : ℕ) → (n ≡ 0) ⊎ (n ≡ 5) ⊎ (n ≡ 6) ⊎ (n ≡ 7) → plays n ≡ true
by_playing n (inl e) = ap plays e
by_playing n (inr (inl e)) = ap plays e
by_playing n (inr (inr (inl e))) = ap plays e
by_playing n (inr (inr (inr e))) = ap plays e

-- a call that plays
pub played_ends : (meant : Option Words) (left left' : Bytes) (ends ends' : ℕ) (v : Words) (status : ℕ) → meant ≡ Some v →
    ends' ≡ ends_for v.make ends → (status ≡ 0) ⊎ (status ≡ 5) ⊎ (status ≡ 6) ⊎ (status ≡ 7) →
    FindsEnd meant left left' ends ends' status
played_ends meant left left' ends ends' v status meaning e one =
    record {
      once = once v.make e;
      wrong_words = λ q. absurd (let no : plays 1 ≡ true = at 1 q in cc);
      refused = λ q. absurd (let no : plays 2 ≡ true = at 2 q in cc);
      fault = λ q. absurd (let no : plays 4 ≡ true = at 4 q in cc);
      made = λ words n means some. made_end v.make n ends ends' (of words means ∙ some) e;
      read = λ words means none. λ status. unmade_end v.make ends ends' (of words means ∙ none) e;
    }
  where
    at : (k : ℕ) → status ≡ k → plays k ≡ true
    at k q = subst (λ (n : ℕ). plays n ≡ true) q (by_playing status one)

    of : (words : Words) → meant ≡ Some words → v.make ≡ words.make
    of words means = ap (λ (w : Words). w.make) (same_Some v words (sym meaning ∙ means))

    once : (make : Option ℕ) → ends' ≡ ends_for make ends → EndsOnce ends ends'
    once None e = inr e
    once (Some n) e = inl e
