-- What the end of a play says of its frame sink.
use Rattle.std.proofs.Common.{◌≡◌, ◌≢◌, ℕ, List, Option, None, Result, Ok, Err, OnOk, refl, sym, ◌∙◌, subst}
use Rattle.pf_io.specs.Causes.{Calm, Rose}
use Rattle.stage_parts.specs.declared.answers.StageError.{StageError}
use Rattle.stage_parts.specs.declared.answers.StageError.TheVariants as error
use Rattle.pipe_plays.specs.declared.played.PlayEnd.{PlayEnd}
use Rattle.pipe_plays.specs.declared.played.PlayEnd.TheVariants as ends
use Rattle.pipe_plays.specs.Played.{Blames, StaysWhole, end_of}

-- what a poll says of the sink
pub blames : {A : Type 0} (result : Result A StageError) (before now : ℕ) (at_fault bytes : Option (List ℕ)) →
    (result ≡ Err error.FrameFault → Rose before now) → (result ≡ Err error.FrameFault → at_fault ≡ bytes) →
    ((result ≡ Err error.FrameFault → ⊥) → Calm before now) → Blames result before now at_fault bytes
blames (Ok x) before now at_fault bytes rose last calm = calm (λ is. absurd (cc))
blames (Err error.NoMemory) before now at_fault bytes rose last calm = calm (λ is. absurd (cc))
blames (Err error.FrameFault) before now at_fault bytes rose last calm = (rose refl, last refl)

-- and behind calls that met no fault
pub later_blames : {A : Type 0} (result : Result A StageError) (before mid now : ℕ) (at_fault bytes : Option (List ℕ)) →
    Calm before mid → Blames result mid now at_fault bytes → Blames result before now at_fault bytes
later_blames result before mid now at_fault bytes calm h = subst (λ (n : ℕ). Blames result n now at_fault bytes) calm h

-- whatever answer leaves a picture whole but a fault of the sink
pub stays_whole : {A : Type 0} (result : Result A StageError) (before now : Option ℕ) →
    ((result ≡ Err error.FrameFault → ⊥) → now ≡ before) → StaysWhole result before now
stays_whole (Ok x) before now same = same (λ is. absurd (cc))
stays_whole (Err error.NoMemory) before now same = same (λ is. absurd (cc))
stays_whole (Err error.FrameFault) before now same = tt

-- and behind calls that met no fault
pub later_whole : {A : Type 0} (result : Result A StageError) (before mid now : Option ℕ) → mid ≡ before → StaysWhole result mid now →
    StaysWhole result before now
later_whole result before mid now same h = subst (λ (f : Option ℕ). StaysWhole result f now) same h

-- a play that ends without a fault of the sink cuts no picture short
pub uncut : {A : Type 0} (came : Result A StageError) (end : PlayEnd) (fault : Option ℕ) → StaysWhole came None fault → end ≡ end_of came →
    end ≢ ends.FrameFault → fault ≡ None
uncut (Ok x) end fault h is other = h
uncut (Err error.NoMemory) end fault h is other = h
uncut (Err error.FrameFault) end fault h is other = absurd (other is)

-- a play is done only where no error came
pub done_only : {A : Type 0} (came : Result A StageError) (P : Type 0) → OnOk came P → end_of came ≡ ends.Done → P
done_only (Ok x) P h is = h
done_only (Err error.NoMemory) P h is = absurd (let clash : ends.NoMemory ≡ ends.Done = is in cc)
done_only (Err error.FrameFault) P h is = absurd (let clash : ends.FrameFault ≡ ends.Done = is in cc)

-- a play ends by a fault exactly where the sink met one
pub faulted : {A : Type 0} (came : Result A StageError) (end : PlayEnd) (before now : ℕ) (at_fault bytes : Option (List ℕ)) →
    Blames came before now at_fault bytes → end ≡ end_of came → end ≡ ends.FrameFault → Rose before now × (at_fault ≡ bytes)
faulted (Ok x) end before now at_fault bytes h is fault = absurd (let clash : ends.Done ≡ ends.FrameFault = sym is ∙ fault in cc)
faulted (Err error.NoMemory) end before now at_fault bytes h is fault = absurd (let clash : ends.NoMemory ≡ ends.FrameFault = sym is ∙ fault in cc)
faulted (Err error.FrameFault) end before now at_fault bytes h is fault = h

pub unfaulted : {A : Type 0} (came : Result A StageError) (end : PlayEnd) (before now : ℕ) (at_fault bytes : Option (List ℕ)) →
    Blames came before now at_fault bytes → end ≡ end_of came → (end ≡ ends.FrameFault → ⊥) → Calm before now
unfaulted (Ok x) end before now at_fault bytes h is other = h
unfaulted (Err error.NoMemory) end before now at_fault bytes h is other = h
unfaulted (Err error.FrameFault) end before now at_fault bytes h is other = absurd (other is)
