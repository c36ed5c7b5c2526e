-- Each call ends as is due.
use Rattle.std.proofs.Common.{◌≡◌, ◌∙◌, ℕ, List, Option, Some, None, IfSome, inl, inr, refl, sym, ap, subst}
use Rattle.std.specs.Prelude.{◌⊎◌}
use Rattle.std.proofs.lemmas.Option.{same_Some}
use Rattle.play_format.specs.Plays.{Script}
use Rattle.play_format.specs.Reads.{Reads, HasReading, first_refusal}
use Rattle.play_format.proofs.OneLemmas.{one_play}
use Rattle.play_check.specs.Stuck.{IsStuck}
use Rattle.program_words.specs.declared.words.Words.{Words}
use Rattle.program_ends.specs.declared.stop.Stop.{Stop}
use Rattle.program_ends.specs.declared.stop.Stop.TheVariants as stop
use Rattle.program_ends.specs.Statuses.{status_of}
use Rattle.perfly_top.specs.Calls.{given_text, IsGiven}
use Rattle.perfly_top.specs.Endings.{IsWhy, IsDue}

-- what holds of the text by one meaning of the words holds of it by the other
of_text : (P : List ℕ → Type 0) (meant : Option Words) (left : Option (List ℕ)) (v w : Words) (text : List ℕ) →
    meant ≡ Some v → meant ≡ Some w → given_text w.make left ≡ Some text →
    IfSome (given_text v.make left) P → P text
of_text P meant left v w text mean meaning given h =
    let same : v ≡ w = same_Some v w (sym mean ∙ meaning) in
    let moved : IfSome (given_text w.make left) P = subst (λ (u : Words). IfSome (given_text u.make left) P) same h in
    subst (λ (o : Option (List ℕ)). IfSome o P) given moved

-- the play that is given is the one that the text spells
same_play : (meant : Option Words) (left left' : Option (List ℕ)) (v w : Words) (p : Script) (text : List ℕ) (play : Script) →
    IsGiven meant left left' v p → meant ≡ Some w → given_text w.make left ≡ Some text → Reads text play → p ≡ play
same_play meant left left' v w p text play is meaning given reads =
    one_play text p play (of_text (λ t. Reads t p) meant left v w text is.meaning meaning given is.spelled) reads

wrong_due : (meant : Option Words) (left left' : Option (List ℕ)) (s : Stop) → IsWhy meant left left' s → meant ≡ None →
    (status_of s ≡ 1) ⊎ (status_of s ≡ 7)
wrong_due meant left left' stop.Words why none = inl refl
wrong_due meant left left' (stop.Refused r) why none = absurd (let some = why.meaning in cc)
wrong_due meant left left' (stop.Stuck app dbase) why none = absurd (let some = why.given.meaning in cc)
wrong_due meant left left' stop.ReadFault why none = absurd (let some = why.1 in cc)
wrong_due meant left left' stop.FrameFault why none = absurd why
wrong_due meant left left' stop.NoMemory why none = inr refl

no_play_due : (meant : Option Words) (left left' : Option (List ℕ)) (s : Stop) → IsWhy meant left left' s → (words : Words) (text : List ℕ) →
    meant ≡ Some words → given_text words.make left ≡ Some text → ¬ HasReading text →
    (status_of s ≡ 2) ⊎ (status_of s ≡ 4) ⊎ (status_of s ≡ 7)
no_play_due meant left left' stop.Words why words text meaning given lacks = absurd (let none = why.0 in cc)
no_play_due meant left left' (stop.Refused r) why words text meaning given lacks = inl refl
no_play_due meant left left' (stop.Stuck app dbase) why words text meaning given lacks =
    absurd (lacks (why.play, of_text (λ t. Reads t why.play) meant left why.words words text why.given.meaning meaning given why.given.spelled))
no_play_due meant left left' stop.ReadFault why words text meaning given lacks = inr (inl refl)
no_play_due meant left left' stop.FrameFault why words text meaning given lacks = absurd why
no_play_due meant left left' stop.NoMemory why words text meaning given lacks = inr (inr refl)

stuck_due : (meant : Option Words) (left left' : Option (List ℕ)) (s : Stop) → IsWhy meant left left' s → (words : Words) (text : List ℕ) (play : Script) →
    meant ≡ Some words → given_text words.make left ≡ Some text → Reads text play →
    (status_of s ≡ 3) ⊎ (status_of s ≡ 4) ⊎ (status_of s ≡ 7)
stuck_due meant left left' stop.Words why words text play meaning given reads = absurd (let none = why.0 in cc)
stuck_due meant left left' (stop.Refused r) why words text play meaning given reads =
    absurd ((of_text (λ t. (first_refusal t ≡ Some r) × ¬ HasReading t) meant left why.words words text why.meaning meaning given why.no_play).1 (play, reads))
stuck_due meant left left' (stop.Stuck app dbase) why words text play meaning given reads = inl refl
stuck_due meant left left' stop.ReadFault why words text play meaning given reads = inr (inl refl)
stuck_due meant left left' stop.FrameFault why words text play meaning given reads = absurd why
stuck_due meant left left' stop.NoMemory why words text play meaning given reads = inr (inr refl)

played_due : (meant : Option Words) (left left' : Option (List ℕ)) (s : Stop) → IsWhy meant left left' s → (words : Words) (text : List ℕ) (play : Script) →
    meant ≡ Some words → given_text words.make left ≡ Some text → Reads text play → ¬ IsStuck play.app play.dbase →
    (status_of s ≡ 4) ⊎ (status_of s ≡ 7)
played_due meant left left' stop.Words why words text play meaning given reads free = absurd (let none = why.0 in cc)
played_due meant left left' (stop.Refused r) why words text play meaning given reads free =
    absurd ((of_text (λ t. (first_refusal t ≡ Some r) × ¬ HasReading t) meant left why.words words text why.meaning meaning given why.no_play).1 (play, reads))
played_due meant left left' (stop.Stuck app dbase) why words text play meaning given reads free =
    absurd (free (subst (λ (p : Script). IsStuck p.app p.dbase) (same_play meant left left' why.words words why.play text play why.given meaning given reads) why.stuck))
played_due meant left left' stop.ReadFault why words text play meaning given reads free = inl refl
played_due meant left left' stop.FrameFault why words text play meaning given reads free = absurd why
played_due meant left left' stop.NoMemory why words text play meaning given reads free = inr refl

at_fault_or_memory : (status : ℕ) → (status ≡ 4) ⊎ (status ≡ 7) →
    (status ≡ 0) ⊎ (status ≡ 4) ⊎ (status ≡ 5) ⊎ (status ≡ 6) ⊎ (status ≡ 7)
at_fault_or_memory status (inl e) = inr (inl e)
at_fault_or_memory status (inr e) = inr (inr (inr (inr e)))

-- a call that stops before it plays
pub stopped_due : (meant : Option Words) (left left' : Option (List ℕ)) (s : Stop) → IsWhy meant left left' s → IsDue meant left (status_of s)
stopped_due meant left left' s why =
    record {
      wrong_words = wrong_due meant left left' s why;
      no_play = no_play_due meant left left' s why;
      stuck = λ words text play meaning given reads is. stuck_due meant left left' s why words text play meaning given reads;
      played = λ words text play meaning given reads free.
          at_fault_or_memory (status_of s) (played_due meant left left' s why words text play meaning given reads free);
    }

by_playing : (status : ℕ) → (status ≡ 0) ⊎ (status ≡ 5) ⊎ (status ≡ 6) ⊎ (status ≡ 7) →
    (status ≡ 0) ⊎ (status ≡ 4) ⊎ (status ≡ 5) ⊎ (status ≡ 6) ⊎ (status ≡ 7)
by_playing status (inl e) = inl e
by_playing status (inr e) = inr (inr e)

-- a call that plays
pub played_is_due : (meant : Option Words) (left left' : Option (List ℕ)) (v : Words) (p : Script) (status : ℕ) → IsGiven meant left left' v p →
    ¬ IsStuck p.app p.dbase → (status ≡ 0) ⊎ (status ≡ 5) ⊎ (status ≡ 6) ⊎ (status ≡ 7) → IsDue meant left status
played_is_due meant left left' v p status is can one =
    record {
      wrong_words = λ none. absurd (let some = is.meaning in cc);
      no_play = λ words text meaning given lacks.
          absurd (lacks (p, of_text (λ t. Reads t p) meant left v words text is.meaning meaning given is.spelled));
      stuck = λ words text play meaning given reads barred.
          absurd (can (subst (λ (q : Script). IsStuck q.app q.dbase) (sym (same_play meant left left' v words p text play is meaning given reads)) barred));
      played = λ words text play meaning given reads free. by_playing status one;
    }

-- Where a play is to be made, a call that stops before it plays stops for want of memory.
pub made_why : (meant : Option Words) (left left' : Option (List ℕ)) (s : Stop) → IsWhy meant left left' s → (w : Words) (n : ℕ) →
    meant ≡ Some w → w.make ≡ Some n → s ≡ stop.NoMemory
made_why meant left left' s why w n meaning make = by s why
  where
    made : (v : Words) → meant ≡ Some v → v.make ≡ None → ⊥
    made v mean none =
        let same : v.make ≡ w.make = ap (λ (u : Words). u.make) (same_Some v w (sym mean ∙ meaning)) in
        let both : None ≡ Some n = sym none ∙ same ∙ make in absurd cc

    by : (s : Stop) → IsWhy meant left left' s → s ≡ stop.NoMemory
    by stop.Words why = absurd (let none = why.0 in cc)
    by (stop.Refused r) why = absurd (made why.words why.meaning why.unmade)
    by (stop.Stuck app dbase) why = absurd (made why.words why.given.meaning why.unmade)
    by stop.ReadFault why = absurd (made why.0 why.1 why.2)
    by stop.FrameFault why = absurd why
    by stop.NoMemory why = refl
