-- What a run of a play leaves, in the words of the headline.
use Rattle.std.proofs.Common.{◌≡◌, ◌≢◌, ◌⊎◌, ◌∙◌, ℕ, List, Option, inl, inr, subst, sym}
use Rattle.std.specs.Io.KnownBytes.{append_known}
use Rattle.draw_list.specs.declared.stats.Stats.{Stats}
use Rattle.play_format.specs.Plays.{Script}
use Rattle.play_check.specs.Stuck.{IsStuck}
use Rattle.pf_history.specs.Logs.{Recorded}
use Rattle.pipe_plays.specs.declared.played.PlayEnd.{PlayEnd}
use Rattle.pipe_plays.specs.declared.played.PlayEnd.TheVariants as end
use Rattle.pipe_plays.specs.Laws.{IsLeft}
use Rattle.program_words.specs.declared.words.Words.{Words}
use Rattle.program_ends.specs.Laws.{LeftLaw}
use Rattle.program_ends.specs.Played.{IsPart, IsPlayed}
use Rattle.program_ends.specs.Told.{AddsSome}
use Rattle.perfly_top.specs.Program.{told, IsSummed}

-- an end that is no fault of the sink
no_fault : {ended : PlayEnd} → ended ≡ end.Done ⊎ ended ≡ end.NoMemory → ended ≢ end.FrameFault
no_fault (inl done) fault = absurd (let clash : end.Done ≡ end.FrameFault = sym done ∙ fault in cc)
no_fault (inr none) fault = absurd (let clash : end.NoMemory ≡ end.FrameFault = sym none ∙ fault in cc)

-- what is left of a run, of which the history is handed on, is part of the play where a fault of the frame sink ended it
pub cut_of : LeftLaw → (ahead : ℕ) (play : Script) (ended : PlayEnd) (h' h : Recorded) (stats : List Stats) (frames frames' : Option (List ℕ)) →
    h' ≡ h → IsLeft play ahead ended h.entries stats frames frames' → ended ≡ end.FrameFault →
    IsPart ahead play end.FrameFault h'.entries frames frames'
cut_of law ahead play ended h' h stats frames frames' same left fault =
    subst (λ (e : PlayEnd). IsPart ahead play e h'.entries frames frames') fault
    (subst (λ (r : Recorded). IsPart ahead play ended r.entries frames frames') (sym same)
    (law play ahead ended h.entries stats frames frames' left).part)

-- and where memory ran out, while it was played or behind it
pub part_of : LeftLaw → (ahead : ℕ) (play : Script) (ended : PlayEnd) (h' h : Recorded) (stats : List Stats) (frames frames' : Option (List ℕ)) →
    h' ≡ h → IsLeft play ahead ended h.entries stats frames frames' → ended ≡ end.Done ⊎ ended ≡ end.NoMemory →
    IsPart ahead play end.NoMemory h'.entries frames frames'
part_of law ahead play ended h' h stats frames frames' same left whole =
    subst (λ (r : Recorded). IsPart ahead play end.NoMemory r.entries frames frames') (sym same)
    ((law play ahead ended h.entries stats frames frames' left).elsewhere (no_fault whole) end.NoMemory)

-- and all of it where it came to its end
pub played_of : LeftLaw → (ahead : ℕ) (play : Script) (ended : PlayEnd) (h' h : Recorded) (stats : List Stats) (frames frames' : Option (List ℕ)) →
    h' ≡ h → IsLeft play ahead ended h.entries stats frames frames' → ended ≡ end.Done → ¬ IsStuck play.app play.dbase →
    IsPlayed ahead play h'.entries frames frames'
played_of law ahead play ended h' h stats frames frames' same left done can =
    subst (λ (r : Recorded). IsPlayed ahead play r.entries frames frames') (sym same)
    ((law play ahead ended h.entries stats frames frames' left).played done can)

-- what was told of a run was told of the history that is handed on
pub whole_of : (words : Words) (play : Script) (h' h : Recorded) (frames report report' : Option (List ℕ)) (sum : ℕ) → h' ≡ h →
    IsSummed words play h.entries frames sum → report' ≡ append_known report (told words play h.entries sum) →
    (s : ℕ) × IsSummed words play h'.entries frames s × (report' ≡ append_known report (told words play h'.entries s))
whole_of words play h' h frames report report' sum same summed tells =
    subst (λ (r : Recorded). (s : ℕ) × IsSummed words play r.entries frames s × (report' ≡ append_known report (told words play r.entries s))) (sym same) (sum, summed, tells)

pub some_of : (words : Words) (play : Script) (h' h : Recorded) (frames report report' : Option (List ℕ)) (sum : ℕ) → h' ≡ h →
    IsSummed words play h.entries frames sum → AddsSome report report' (told words play h.entries sum) →
    (s : ℕ) × IsSummed words play h'.entries frames s × AddsSome report report' (told words play h'.entries s)
some_of words play h' h frames report report' sum same summed tells =
    subst (λ (r : Recorded). (s : ℕ) × IsSummed words play r.entries frames s × AddsSome report report' (told words play r.entries s)) (sym same) (sum, summed, tells)
