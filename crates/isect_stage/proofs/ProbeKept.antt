-- What the stage at its links keeps, it keeps.
use Rattle.std.proofs.Common.{◌≡◌, ◌∙◌, Bool, true, false, ◌||◌, List, [], ◌∷◌, ◌++◌, drop, length, slice_get, slice_index_or, Some, None, refl, sym, ap, subst, true≢false}
use Rattle.std.proofs.lemmas.List.{append-nil, map-append}
use Rattle.std.proofs.lemmas.Option.{same_Some}
use Rattle.pf_model.specs.Angles.{Viewpoint}
use Rattle.stage_parts.specs.declared.packets.Packet.{Packet}
use Rattle.stage_parts.specs.declared.packets.Packet.TheVariants.{Frame, End}
use Rattle.stage_parts.specs.Loads.{LoadState}
use Rattle.stage_parts.specs.Packets.{is_end, loads_in}
use Rattle.stage_parts.specs.Parts.{sent_and_held}
use Rattle.stage_parts.proofs.Pushes.{loads_push, loads_end, has_end_push, passed_bare}
use Rattle.isect_stage.specs.Asking.{IsectWork, Question, IsectKeeps}
use Rattle.isect_stage.specs.Probing.{ProbeWork, question_in, questions_of, ProbeKeeps, IsAsked, AsksFor}

-- The view of the first channel

pub first_is : (views : List Viewpoint) (view home : Viewpoint) → slice_get views 0 ≡ Some view → view ≡ slice_index_or views 0 home
first_is [] view home at = absurd (cc)
first_is (v ∷ views) view home at = sym (same_Some v view at)

pub first_is_home : (views : List Viewpoint) (home : Viewpoint) → slice_get views 0 ≡ None → home ≡ slice_index_or views 0 home
first_is_home [] home none = refl
first_is_home (v ∷ views) home none = absurd (cc)

-- What is kept

pub keeps_none : (isect : IsectWork) → IsectKeeps isect [] → ProbeKeeps (record { isect = isect; ended = false; failed = false; held = None }) [] []
keeps_none isect keeps = record { passes = refl; asked = λ whole. keeps; ended = refl }

-- a packet that is taken and held is passed on
passes_more : (w : ProbeWork) (taken sent : List Packet) (p : Packet) → w.held ≡ None → sent_and_held sent w.held ≡ taken →
    sent_and_held sent (Some p) ≡ taken ++ p ∷ []
passes_more w taken sent p none passes = ap (λ (ps : List Packet). ps ++ p ∷ []) (sym (passed_bare sent w.held none) ∙ passes)

asked_push : (taken : List Packet) (l : LoadState) →
    questions_of (loads_in (taken ++ Frame l ∷ [])) ≡ questions_of (loads_in taken) ++ question_in l.cut ∷ []
asked_push taken l =
    ap questions_of (loads_push taken l) ∙ map-append (λ (x : LoadState). question_in x.cut) (loads_in taken) (l ∷ [])

-- it takes a load, and was asked for it
pub keeps_asks : (w : ProbeWork) (after : IsectWork) (taken sent : List Packet) (l : LoadState) → ProbeKeeps w taken sent → w.held ≡ None →
    ((asked : List Question) → IsectKeeps w.isect asked → IsectKeeps after (asked ++ question_in l.cut ∷ [])) →
    ProbeKeeps (record w { isect = after; held = Some (Frame l) }) (taken ++ Frame l ∷ []) sent
keeps_asks w after taken sent l keeps none more =
    record {
      passes = passes_more w taken sent (Frame l) none keeps.passes;
      asked = λ whole.
          subst (IsectKeeps after) (sym (asked_push taken l)) (more (questions_of (loads_in taken)) (keeps.asked whole));
      ended = keeps.ended;
    }

-- it takes a load, and memory runs out
pub keeps_out : (w : ProbeWork) (after : IsectWork) (taken sent : List Packet) (l : LoadState) → ProbeKeeps w taken sent → w.held ≡ None →
    ProbeKeeps (record w { isect = after; failed = true; held = Some (Frame l) }) (taken ++ Frame l ∷ []) sent
keeps_out w after taken sent l keeps none =
    record {
      passes = passes_more w taken sent (Frame l) none keeps.passes;
      asked = λ whole. absurd (true≢false whole);
      ended = keeps.ended;
    }

-- it takes the End, and holds it
pub keeps_ends : (w : ProbeWork) (taken sent : List Packet) → ProbeKeeps w taken sent → w.held ≡ None →
    ProbeKeeps (record w { held = Some End }) (taken ++ End ∷ []) sent
keeps_ends w taken sent keeps none =
    record {
      passes = passes_more w taken sent End none keeps.passes;
      asked = λ whole. subst (λ (ls : List LoadState). IsectKeeps w.isect (questions_of ls)) (sym (loads_end taken)) (keeps.asked whole);
      ended = keeps.ended;
    }

-- it sends a packet
pub keeps_sent : (w now : ProbeWork) (taken before after : List Packet) (p : Packet) → w.ended ≡ false →
    ProbeKeeps (record w { held = Some p }) taken before → after ≡ before ++ p ∷ [] → now ≡ record w { ended = is_end p; held = None } →
    ProbeKeeps now taken after
keeps_sent w now taken before after p going keeps more is =
    subst (λ (v : ProbeWork). ProbeKeeps v taken after) (sym is)
    (subst (λ (ps : List Packet). ProbeKeeps (record w { ended = is_end p; held = None }) taken ps) (sym more)
    (record {
      passes = append-nil (before ++ p ∷ []) ∙ keeps.passes;
      asked = keeps.asked;
      ended = ap (λ (t : Bool). t || is_end p) (sym going ∙ keeps.ended) ∙ sym (has_end_push before p);
    }))

-- The packets that came

drop_front : (front back : List Packet) → drop (length front) (front ++ back) ≡ back
drop_front [] back = refl
drop_front (p ∷ front) back = drop_front front back

drop_same : (all : List Packet) → drop (length all) all ≡ []
drop_same [] = refl
drop_same (p ∷ all) = drop_same all

pub came_none : (before after : IsectWork) (taken now : List Packet) → now ≡ taken → after ≡ before → AsksFor before after (drop (length taken) now)
came_none before after taken now none same =
    subst (AsksFor before after) (sym (ap (λ (ps : List Packet). drop (length taken) ps) none ∙ drop_same taken)) same

pub came_end : (before after : IsectWork) (taken now : List Packet) → now ≡ taken ++ End ∷ [] → after ≡ before →
    AsksFor before after (drop (length taken) now)
came_end before after taken now end same =
    subst (AsksFor before after) (sym (ap (λ (ps : List Packet). drop (length taken) ps) end ∙ drop_front taken (End ∷ []))) same

pub came_load : (before after : IsectWork) (taken now : List Packet) (l : LoadState) → now ≡ taken ++ Frame l ∷ [] →
    IsAsked before after (question_in l.cut) → AsksFor before after (drop (length taken) now)
came_load before after taken now l came asked =
    subst (AsksFor before after) (sym (ap (λ (ps : List Packet). drop (length taken) ps) came ∙ drop_front taken (Frame l ∷ []))) asked
