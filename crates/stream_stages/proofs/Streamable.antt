-- What the application sent can be streamed exactly.
use Rattle.std.proofs.Common.{◌≡◌, ◌∙◌, ℕ, zero, suc, ◌+◌, ◌≤◌, Bool, true, false, cond, ◌&&◌, List, [], ◌∷◌, map, slice_get, Some, ap, sym, refl, subst, arith, add-one}
use Rattle.pf_model.specs.Graphs.{Nodes, node_at}
use Rattle.pf_model.specs.Limits.{KeepsLimits, IsWithinLimits}
use Rattle.pf_model.specs.Copies.{put_all}
use Rattle.update_lists.specs.declared.cuts.Cut.{Cut}
use Rattle.pf_history.specs.declared.commands.Caller.TheVariants.{App}
use Rattle.pf_history.specs.Objects.{FrameState, opening_state, next_state}
use Rattle.pf_history.specs.Commands.{is_frame}
use Rattle.pf_history.specs.Logs.{Log}
use Rattle.pf_history.specs.Asks.{is_at}
use Rattle.pf_history.specs.Cuts.{names, Cutting, cuttings, found_by_frames, marks_after, copy_after}
use Rattle.pf_history.proofs.Copying.{copy_law}
use Rattle.pf_history.proofs.Reach.{limits_law}
use Rattle.stage_parts.specs.declared.packets.Packet.{Packet}
use Rattle.stage_parts.specs.Loads.{LoadState}
use Rattle.stage_parts.specs.Packets.{loads_in, LinkPart}
use Rattle.stage_parts.specs.Frames.{frames_from, frames_of, cut_of_frame, AreOwnFrames}
use Rattle.stage_parts.specs.States.{Setup, AppState}
use Rattle.stage_parts.specs.Parts.{sent_and_held, AppPart}
use Rattle.stage_parts.specs.Laws.{HasEditsInRange}
use Rattle.stage_parts.proofs.Places.{get_map, get_match, get_below, get_length}
use Rattle.stage_parts.proofs.Sent.{sent_load}
use Rattle.stage_parts.proofs.Founds.{frames_found}
use Rattle.stage_parts.proofs.Streams.{AreOfCuts, loads_of_cuts}
use Rattle.stream_stages.specs.CullParts.{CanStream}

-- where all Frames are a seat's, its Frames are all Frames
own_frames_are_all : (seat : ℕ) (ids : List ℕ) (s : FrameState) (log : Log) → AreOwnFrames seat log →
    frames_from seat ids s log ≡ cuttings ids s log
own_frames_are_all seat ids s [] own = refl
own_frames_are_all seat ids s (e ∷ es) own =
    by (is_frame e.1.command) (is_at seat App e) own.0
    (own_frames_are_all seat (marks_after ids s e.1.command) (next_state s e.1.command) es own.1)
  where
    here : Cutting
    here = record { ids = ids; found = s }

    rest : List Cutting
    rest = frames_from seat (marks_after ids s e.1.command) (next_state s e.1.command) es

    by : (t u : Bool) → (t ≡ true → u ≡ true) →
        rest ≡ cuttings (cond t [] (put_all (names s e.1.command) ids)) (next_state s e.1.command) es →
        cond (t && u) (here ∷ rest) rest
        ≡ cond t (here ∷ cuttings [] (next_state s e.1.command) es)
        (cuttings (put_all (names s e.1.command) ids) (next_state s e.1.command) es)
    by true true is same = ap (λ (cs : List Cutting). here ∷ cs) same
    by true false is same = absurd (let not = is refl in cc)
    by false u is same = same

-- each copy of a history's cuts is within the limits, up to one that a Frame found
copies_keep_limits : (channels : ℕ) (log : Log) → HasEditsInRange log → (i : ℕ) (x : FrameState) →
    slice_get (found_by_frames channels log) i ≡ Some x →
    (k : ℕ) → k ≤ i + 1 → KeepsLimits (node_at (copy_after channels log k))
copies_keep_limits channels log fit i x at zero l = (limits_law channels [] tt).within.limits
copies_keep_limits channels log fit i x at (suc j) l =
    let y = get_below (found_by_frames channels log) i j x at (omega (arith, l)) in
    let copied : copy_after channels log (suc j) ≡ y.0.graph.nodes =
    ap (copy_after channels log) (sym (add-one j)) ∙ copy_law channels log j y.0 y.1 in
    subst (λ (n : Nodes). KeepsLimits (node_at n)) (sym copied)
    (frames_found channels log fit j y.0 y.1).limits.within.limits

-- the load that a Frame sent can be streamed exactly where it was received
can_stream : (channels : ℕ) (log : Log) → HasEditsInRange log → (loads : List LoadState) →
    AreOfCuts channels log loads → (i : ℕ) (l : LoadState) (c : Cutting) →
    slice_get loads i ≡ Some l → slice_get (cuttings [] (opening_state channels) log) i ≡ Some c →
    l.cut ≡ cut_of_frame c → CanStream loads i l
can_stream channels log fit loads of_cuts i l c at framed same =
    let found = get_map (λ (d : Cutting). d.found) (cuttings [] (opening_state channels) log) i c framed in
    let is = frames_found channels log fit i c.found found in
    let long = get_length loads i l at in
    let copied = of_cuts.cuts (i + 1) (omega (arith, long)) ∙ copy_law channels log i c.found found in
    let time : c.found.graph.time ≡ l.cut.frame = is.time ∙ ap (λ (d : Cut). d.frame) (sym same) in
    record {
      limits = λ k below.
          subst (λ (n : Nodes). KeepsLimits (node_at n)) (sym (of_cuts.cuts k (omega (arith, below, long))))
          (copies_keep_limits channels log fit i c.found found k below);
      within =
          subst (λ (n : Nodes). IsWithinLimits (node_at n) l.cut.frame) (sym copied)
          (subst (λ (t : ℕ). IsWithinLimits (node_at c.found.graph.nodes) t) time is.limits.within);
    }

-- and so each load that was received
pub all_can_stream : (g : Setup) (seat : ℕ) (app : AppState) (log : Log) (sent taken : List Packet) →
    HasEditsInRange log → AreOwnFrames seat log →
    AppPart g seat app log sent → LinkPart sent taken → (i : ℕ) (l : LoadState) →
    slice_get (loads_in taken) i ≡ Some l → CanStream (loads_in taken) i l
all_can_stream g seat app log sent taken fit own part link i l at =
    let loads = loads_in (sent_and_held sent app.held) in
    let all : frames_of g.channels seat log ≡ cuttings [] (opening_state g.channels) log =
    own_frames_are_all seat [] (opening_state g.channels) log own in
    let cuts = part.cuts ∙ ap (map cut_of_frame) all in
    let stand = sent_load sent taken app.held link in
    let frames = cuttings [] (opening_state g.channels) log in
    let f = get_match (λ (x : LoadState). x.cut) cut_of_frame loads frames cuts i l (stand i l at) in
    let of_cuts = loads_of_cuts g.channels log loads (loads_in taken) cuts stand in
    can_stream g.channels log fit (loads_in taken) of_cuts i l f.other at f.stands f.alike
