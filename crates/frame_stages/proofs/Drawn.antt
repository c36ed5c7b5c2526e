-- How the draw's part goes on as a load is taken and drawn, and as the End is taken.
use Rattle.std.proofs.Common.{◌≡◌, ℕ, true, List, [], ◌∷◌, ◌++◌, Some, None, sym, subst}
use Rattle.fx_math.specs.declared.lenses.Lens.{Lens}
use Rattle.stage_parts.specs.declared.packets.Packet.{Packet}
use Rattle.stage_parts.specs.declared.packets.Packet.TheVariants.{Frame, End}
use Rattle.stage_parts.specs.Loads.{LoadState}
use Rattle.stage_parts.specs.States.{DrawState}
use Rattle.stage_parts.specs.Parts.{DrawPart}
use Rattle.stage_parts.specs.Steps.{Draws}
use Rattle.stage_parts.proofs.DrawSteps.{draw_law}

-- as a load is taken and its pictures are drawn
pub part_drawn : (lens raster : Lens) (back : List ℕ) (d : DrawState) (old new : LoadState) (taken sent : List Packet) →
    raster ≡ lens → d.held ≡ None → Draws raster back old new → DrawPart lens back d taken sent →
    DrawPart lens back (record d { held = Some (Frame new) }) (taken ++ Frame old ∷ []) sent
part_drawn lens raster back d old new taken sent same bare made part =
    (draw_law lens back d taken sent part).takes old new bare (subst (λ (l : Lens). Draws l back old new) same made)

-- as the End is taken
pub part_ended : (lens : Lens) (back : List ℕ) (d : DrawState) (before after sent : List Packet) →
    after ≡ before ++ End ∷ [] → DrawPart lens back d before sent → DrawPart lens back (record d { ended = true }) after sent
part_ended lens back d before after sent took part =
    subst (λ (ps : List Packet). DrawPart lens back (record d { ended = true }) ps sent) (sym took)
    (draw_law lens back d before sent part).ends
