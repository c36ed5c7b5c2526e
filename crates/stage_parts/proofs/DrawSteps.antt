-- DRAW's part goes on.
use Rattle.std.proofs.Common.{◌≡◌, ◌⊎◌, ℕ, Bool, true, false, ◌||◌, List, [], ◌∷◌, ◌++◌, map, length, slice_get, Some, None, refl, sym, ap, ◌∙◌, subst, arith, inl, inr}
use Rattle.std.proofs.lemmas.List.{length-map, map-append}
use Rattle.fx_math.specs.declared.lenses.Lens.{Lens}
use Rattle.stage_parts.specs.declared.packets.Packet.{Packet}
use Rattle.stage_parts.specs.declared.packets.Packet.TheVariants.{Frame, End}
use Rattle.stage_parts.specs.Loads.{LoadState, AreImages}
use Rattle.stage_parts.specs.Packets.{has_end, loads_in}
use Rattle.stage_parts.specs.Pictures.{painted}
use Rattle.stage_parts.specs.States.{DrawState}
use Rattle.stage_parts.specs.Parts.{sent_and_held, Kept, kept, ArePainted, DrawPart}
use Rattle.stage_parts.specs.Steps.{Draws, DrawLaw}
use Rattle.stage_parts.proofs.Places.{get_length}
use Rattle.stage_parts.proofs.Pushes.{loads_push, loads_end, has_end_push, passed_same, passed_bare, get_push}

abbrev IsPainted : Lens → List ℕ → LoadState → LoadState → Type 0
IsPainted lens back o n = AreImages lens (length o.lists) o.images → n.bytes ≡ painted lens back o.lists

painted_push : (lens : Lens) (back : List ℕ) (taken sent : List LoadState) (old new : LoadState) → length sent ≡ length taken →
    ArePainted lens back taken sent →
    IsPainted lens back old new → ArePainted lens back (taken ++ old ∷ []) (sent ++ new ∷ [])
painted_push lens back taken sent old new many painting paints i o n at_old at_new =
    by (get_push taken old i o at_old) (get_push sent new i n at_new)
  where
    by : (slice_get taken i ≡ Some o) ⊎ ((i ≡ length taken) × (old ≡ o)) → (slice_get sent i ≡ Some n) ⊎ ((i ≡ length sent) × (new ≡ n)) →
        IsPainted lens back o n
    by (inl a) (inl b) = painting i o n a b
    by (inl a) (inr b) = absurd (let below = get_length taken i o a in omega (arith, below, b.0, many))
    by (inr a) (inl b) = absurd (let below = get_length sent i n b in omega (arith, below, a.0, many))
    by (inr a) (inr b) =
        subst (λ (x : LoadState). IsPainted lens back o x) b.1 (subst (λ (x : LoadState). IsPainted lens back x new) a.1 paints)

draw_takes : (lens : Lens) (back : List ℕ) (d : DrawState) (taken sent : List Packet) → DrawPart lens back d taken sent →
    (old new : LoadState) → d.held ≡ None → Draws lens back old new →
    DrawPart lens back (record d { held = Some (Frame new) }) (taken ++ Frame old ∷ []) sent
draw_takes lens back d taken sent part old new none made =
    let loads = loads_in taken in
    let bare = passed_bare sent d.held none in
    let before : map kept (loads_in sent) ≡ map kept loads = ap (λ (ps : List Packet). map kept (loads_in ps)) (sym bare) ∙ part.loads in
    let many : length (loads_in sent) ≡ length loads = sym (length-map (loads_in sent) kept) ∙ ap length before ∙ length-map loads kept in
    let no_end : has_end sent ≡ false = ap has_end (sym bare) ∙ part.ends in
    record {
      loads =
          ap (map kept) (loads_push sent new) ∙ map-append kept (loads_in sent) (new ∷ [])
          ∙ ap (λ (xs : List Kept). xs ++ kept new ∷ []) before ∙ ap (λ (x : Kept). map kept loads ++ x ∷ []) made.keeps
          ∙ sym (ap (map kept) (loads_push taken old) ∙ map-append kept loads (old ∷ []));
      ends = has_end_push sent (Frame new) ∙ ap (λ (t : Bool). t || false) no_end;
      ended = part.ended ∙ sym (has_end_push taken (Frame old) ∙ or_none (has_end taken));
      painted =
          subst (λ (ls : List LoadState). ArePainted lens back ls (loads_in (sent ++ Frame new ∷ []))) (sym (loads_push taken old))
          (subst (λ (ls : List LoadState). ArePainted lens back (loads ++ old ∷ []) ls) (sym (loads_push sent new))
          (painted_push lens back loads (loads_in sent) old new many
          (subst (λ (ps : List Packet). ArePainted lens back loads (loads_in ps)) bare part.painted) made.paints));
    }
  where
    or_none : (t : Bool) → (t || false) ≡ t
    or_none true = refl
    or_none false = refl

draw_ends : (lens : Lens) (back : List ℕ) (d : DrawState) (taken sent : List Packet) → DrawPart lens back d taken sent →
    DrawPart lens back (record d { ended = true }) (taken ++ End ∷ []) sent
draw_ends lens back d taken sent part =
    record {
      loads = part.loads ∙ ap (map kept) (sym (loads_end taken));
      ends = part.ends;
      ended = sym (has_end_push taken End ∙ or_true (has_end taken));
      painted =
          subst (λ (ls : List LoadState). ArePainted lens back ls (loads_in (sent_and_held sent d.held))) (sym (loads_end taken)) part.painted;
    }
  where
    or_true : (t : Bool) → (t || true) ≡ true
    or_true true = refl
    or_true false = refl

draw_sends : (lens : Lens) (back : List ℕ) (d : DrawState) (taken sent : List Packet) → DrawPart lens back d taken sent → (p : Packet) →
    d.held ≡ Some p →
    DrawPart lens back (record d { held = None }) taken (sent ++ p ∷ [])
draw_sends lens back d taken sent part p held =
    let same = passed_same sent p d.held held in
    record {
      loads = ap (λ (ps : List Packet). map kept (loads_in ps)) same ∙ part.loads;
      ends = ap has_end same ∙ part.ends;
      ended = part.ended;
      painted = subst (λ (ps : List Packet). ArePainted lens back (loads_in taken) (loads_in ps)) (sym same) part.painted;
    }

pub draw_law : DrawLaw
draw_law lens back d taken sent part =
    record {
      takes = draw_takes lens back d taken sent part;
      ends = draw_ends lens back d taken sent part;
      sends =
          draw_sends lens back d taken sent part;
    }
