-- What the cull keeps, it keeps.
use Rattle.std.proofs.Common.{◌≡◌, ◌+◌, Bool, false, ◌||◌, List, [], ◌∷◌, ◌++◌, drop, length, Option, Some, None, refl, sym, ap, ◌∙◌, subst, arith, length-append}
use Rattle.fx_math.specs.declared.lenses.Lens.{Lens}
use Rattle.pf_model.specs.Graphs.{Nodes, node_at}
use Rattle.pf_model.specs.Limits.{KeepsLimits}
use Rattle.pf_model.specs.Copies.{updated_by}
use Rattle.multibuffer.specs.StageCopies.{CopyState, HasRightBoxes}
use Rattle.stage_parts.specs.declared.packets.Packet.{Packet}
use Rattle.stage_parts.specs.declared.packets.Packet.TheVariants.{Frame, End}
use Rattle.stage_parts.specs.Loads.{LoadState}
use Rattle.stage_parts.specs.Packets.{is_end, loads_in}
use Rattle.stage_parts.specs.Parts.{IsCulled, CullPart}
use Rattle.stage_parts.specs.Steps.{CanCullNext, Culls}
use Rattle.stage_parts.proofs.CullSteps.{cull_law}
use Rattle.stage_parts.proofs.Pushes.{loads_push, loads_end, whole_copy, copy_whole, copy_push, copy_front}
use Rattle.frame_stages.specs.CullBoxes.{HoldsCulled, KeepsBoxes}
use Rattle.frame_stages.specs.CullWorks.{CullWork, cull_state, AreAllWithin, CullKeeps, CullsLoad}

within_front : (loads : List LoadState) (l : LoadState) → AreAllWithin (loads ++ l ∷ []) → AreAllWithin loads
within_front loads l all k below =
    subst (λ (n : Nodes). KeepsLimits (node_at n)) (copy_front loads (l ∷ []) k below)
    (all k (omega (arith, below, length-append loads (l ∷ []))))

within_last : (loads : List LoadState) (l : LoadState) → AreAllWithin (loads ++ l ∷ []) →
    KeepsLimits (node_at (updated_by (whole_copy loads) l.cut.updates))
within_last loads l all =
    subst (λ (n : Nodes). KeepsLimits (node_at n)) (copy_push loads l)
    (all (length loads + 1) (omega (arith, length-append loads (l ∷ []))))

one_culled : (lens : Lens) (loads : List LoadState) (before after : CopyState) (old new : LoadState) → CullsLoad lens before after old new →
    (AreAllWithin loads → HasRightBoxes before) → CanCullNext loads after.nodes old → IsCulled lens (node_at after.nodes) old.cut new
one_culled lens loads before after old new made right can =
    let all = made.culled (record {
      within = can.within;
      boxes = made.boxes (right can.limits) can.within.limits;
      many = can.many;
      room = can.room;
      few = can.few;
    }) in
    record { lists = all.lists_are; stats = all.numbers }

culls_next : (lens : Lens) (loads : List LoadState) (before after : CopyState) (old new : LoadState) → CullsLoad lens before after old new →
    (AreAllWithin loads → HasRightBoxes before) → Culls lens loads before.nodes old new
culls_next lens loads before after old new made right =
    record {
      carries = made.carries;
      right = subst (λ (n : Nodes). CanCullNext loads n old → IsCulled lens (node_at n) old.cut new) made.nodes
          (one_culled lens loads before after old new made right);
    }

-- it takes a load, and holds it culled
pub keeps_takes : (w : CullWork) (after : CopyState) (taken sent : List Packet) (old new : LoadState) → CullKeeps w taken sent →
    w.held ≡ None → CullsLoad w.lens w.copy after old new →
    CullKeeps (record w { copy = after; held = Some (Frame new) }) (taken ++ Frame old ∷ []) sent
keeps_takes w after taken sent old new keeps none made =
    let loads = loads_in taken in
    let copied : w.copy.nodes ≡ whole_copy loads = keeps.part.copy ∙ copy_whole loads in
    let next : after.nodes ≡ updated_by (whole_copy loads) old.cut.updates =
    made.nodes ∙ ap (λ (n : Nodes). updated_by n old.cut.updates) copied in
    record {
      part =
          subst
          (λ (n : Nodes).
          CullPart w.lens (record { nodes = n; ended = w.ended; held = Some (Frame new) }) (taken ++ Frame old ∷ []) sent)
          (sym made.nodes)
          ((cull_law w.lens (cull_state w) taken sent keeps.part).takes old new none
          (culls_next w.lens loads w.copy after old new made keeps.boxes));
      boxes = λ all.
          let all_loads = subst AreAllWithin (loads_push taken old) all in
          made.boxes (keeps.boxes (within_front loads old all_loads))
          (subst (λ (n : Nodes). KeepsLimits (node_at n)) (sym next) (within_last loads old all_loads));
    }

-- it takes the End, and holds it
pub keeps_ends : (w : CullWork) (taken sent : List Packet) → CullKeeps w taken sent → w.held ≡ None →
    CullKeeps (record w { held = Some End }) (taken ++ End ∷ []) sent
keeps_ends w taken sent keeps none =
    record {
      part = (cull_law w.lens (cull_state w) taken sent keeps.part).ends none;
      boxes = λ all. keeps.boxes (subst AreAllWithin (loads_end taken) all);
    }

-- it sends what it holds
pub keeps_sends : (w : CullWork) (taken sent : List Packet) (p : Packet) → CullKeeps w taken sent → w.held ≡ Some p →
    CullKeeps (record w { ended = w.ended || is_end p; held = None }) taken (sent ++ p ∷ [])
keeps_sends w taken sent p keeps held =
    record { part = (cull_law w.lens (cull_state w) taken sent keeps.part).sends p held; boxes = keeps.boxes }

-- it sends a packet
pub keeps_sent : (w now : CullWork) (taken before after : List Packet) (p : Packet) → w.ended ≡ false →
    CullKeeps (record w { held = Some p }) taken before → after ≡ before ++ p ∷ [] → now ≡ record w { ended = is_end p; held = None } →
    CullKeeps now taken after
keeps_sent w now taken before after p going keeps more is =
    let all = keeps_sends (record w { held = Some p }) taken before p keeps refl in
    let here = subst (λ (t : Bool). CullKeeps (record w { ended = t || is_end p; held = None }) taken (before ++ p ∷ [])) going all in
    subst (λ (v : CullWork). CullKeeps v taken after) (sym is)
    (subst (λ (ps : List Packet). CullKeeps (record w { ended = is_end p; held = None }) taken ps) (sym more) here)

-- The packets that came

drop_front : (front back : List Packet) → drop (length front) (front ++ back) ≡ back
drop_front [] back = refl
drop_front (p ∷ front) back = drop_front front back

drop_same : (all : List Packet) → drop (length all) all ≡ []
drop_same [] = refl
drop_same (p ∷ all) = drop_same all

pub came_none : (lens : Lens) (before after : CopyState) (held : Option Packet) (taken now : List Packet) → now ≡ taken → after ≡ before →
    KeepsBoxes lens before after held (drop (length taken) now)
came_none lens before after held taken now none same =
    subst (λ (ps : List Packet). KeepsBoxes lens before after held ps)
    (sym (ap (λ (ps : List Packet). drop (length taken) ps) none ∙ drop_same taken)) same

pub came_end : (lens : Lens) (before after : CopyState) (held : Option Packet) (taken now : List Packet) → now ≡ taken ++ End ∷ [] →
    after ≡ before → KeepsBoxes lens before after held (drop (length taken) now)
came_end lens before after held taken now end same =
    subst (λ (ps : List Packet). KeepsBoxes lens before after held ps)
    (sym (ap (λ (ps : List Packet). drop (length taken) ps) end ∙ drop_front taken (End ∷ []))) same

pub came_load : (lens : Lens) (before after : CopyState) (held : Option Packet) (taken now : List Packet) (load : LoadState) →
    now ≡ taken ++ Frame load ∷ [] → HoldsCulled lens before after load held → KeepsBoxes lens before after held (drop (length taken) now)
came_load lens before after held taken now load came culled =
    subst (λ (ps : List Packet). KeepsBoxes lens before after held ps)
    (sym (ap (λ (ps : List Packet). drop (length taken) ps) came ∙ drop_front taken (Frame load ∷ []))) culled
