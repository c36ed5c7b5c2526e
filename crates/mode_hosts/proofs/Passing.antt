-- No more loads are handed on than came, whole or in pieces.
use Rattle.std.proofs.Common.{◌≡◌, suc, ◌≤◌, Bool, true, false, if◌then◌else◌, List, [], ◌∷◌, length, take, drop, min, Option, refl, sym, ap, ◌∙◌, arith}
use Rattle.std.specs.Prelude.{nat_lt}
use Rattle.std.specs.List.{AllZip}
use Rattle.std.proofs.lemmas.List.{length-map, length-take}
use Rattle.pf_model.specs.Graphs.{Nodes, empty_scene}
use Rattle.pf_model.specs.Copies.{updated_by}
use Rattle.stage_parts.specs.declared.packets.Packet.{Packet}
use Rattle.stage_parts.specs.Loads.{LoadState}
use Rattle.stage_parts.specs.Packets.{loads_in, LinkPart}
use Rattle.stage_parts.specs.Parts.{sent_and_held, carried, kept}
use Rattle.stage_parts.proofs.Places.{front_of}
use Rattle.stage_parts.proofs.Sent.{sent_load, many_loads}
use Rattle.stage_parts.proofs.Pushes.{passed_on_length}
use Rattle.stage_parts.proofs.Counting.{held_some}
use Rattle.stream_stages.specs.Cuts.{Cut}
use Rattle.stream_stages.specs.PieceFrames.{channels_of, lists_in, PieceFrame, frames_in}
use Rattle.stream_stages.specs.CullParts.{handed_on}
use Rattle.stream_stages.specs.DrawParts.{IsDrawn}
use Rattle.mode_hosts.specs.Works.{AnyCullWork, WholeCull, PiecesCull, AnyDrawWork, WholeDraw, PiecesDraw, KeepsCull, KeepsDraw}

-- no more loads were received than were sent or are held
pub loads_below : (sent taken : List Packet) (held : Option Packet) → LinkPart sent taken →
    length (loads_in taken) ≤ length (loads_in (sent_and_held sent held))
loads_below sent taken held link =
    let all = loads_in (sent_and_held sent held) in
    let front = front_of (loads_in taken) all (sent_load sent taken held link) in
    let short : length (loads_in taken) ≡ min (length (loads_in taken)) (length all) = ap length front ∙ length-take (length (loads_in taken)) all in
    grind (arith, short)

-- CULL

handed_on_length : (nodes : Nodes) (ls : List LoadState) → length (handed_on nodes ls) ≡ length ls
handed_on_length nodes [] = refl
handed_on_length nodes (l ∷ ls) = ap suc (handed_on_length (updated_by nodes l.cut.updates) ls)

-- no more loads came to DRAW than to CULL
past_cull : (cull : AnyCullWork) (came sent taken : List Packet) → KeepsCull cull came sent → LinkPart sent taken →
    length (loads_in taken) ≤ length (loads_in came)
past_cull (WholeCull w) came sent taken keeps link =
    let all = loads_in (sent_and_held sent w.held) in
    let below = loads_below sent taken w.held link in
    let same : length all ≡ length (loads_in came) =
    sym (length-map all carried) ∙ ap length keeps.part.loads ∙ passed_on_length empty_scene.nodes (loads_in came) in
    omega (arith, below, same)
past_cull (PiecesCull c) came sent taken keeps link =
    let all = loads_in (sent_and_held sent c.work.state.held) in
    let below = loads_below sent taken c.work.state.held link in
    let same : length all ≡ length (loads_in came) =
    ap length keeps.packets.loads ∙ handed_on_length empty_scene.nodes (loads_in came) in
    omega (arith, below, same)

-- DRAW

few_frames : (loads : List LoadState) (lists : List (List Cut)) → length (frames_in loads lists) ≤ length loads
few_frames [] lists = omega arith
few_frames (l ∷ loads) lists = by (nat_lt (length lists) (channels_of l)) (few_frames loads (drop (channels_of l) lists))
  where
    more : List PieceFrame
    more = frames_in loads (drop (channels_of l) lists)

    this : PieceFrame
    this = record { load = l; lists = take (channels_of l) lists }

    by : (b : Bool) → length more ≤ length loads → length (if b then [] else this ∷ more) ≤ suc (length loads)
    by true rest = omega arith
    by false rest = omega (arith, rest)

zip_length : {A B : Type 0} (R : A → B → Type 0) (xs : List A) (ys : List B) → AllZip R xs ys → length xs ≡ length ys
zip_length R [] [] all = refl
zip_length R [] (y ∷ ys) all = absurd all
zip_length R (x ∷ xs) [] all = absurd all
zip_length R (x ∷ xs) (y ∷ ys) all = ap suc (zip_length R xs ys all.1)

-- DRAW sent no more packets than loads came to it
past_draw : (draw : AnyDrawWork) (came sent : List Packet) → KeepsDraw draw came sent → length sent ≤ length (loads_in came)
past_draw (WholeDraw w) came sent keeps =
    let all = sent_and_held sent w.state.held in
    let some = held_some sent w.state.held in
    let many = many_loads all keeps.ends in
    let same : length (loads_in all) ≡ length (loads_in came) =
    sym (length-map (loads_in all) kept) ∙ ap length keeps.loads ∙ length-map (loads_in came) kept in
    omega (arith, some, many, same)
past_draw (PiecesDraw d) came sent (first, keeps) =
    let all = sent_and_held sent d.work.state.held in
    let some = held_some sent d.work.state.held in
    let many = many_loads all keeps.ends in
    let frames = frames_in (loads_in came) (lists_in d.came).whole in
    let same = zip_length (IsDrawn d.work.lens d.work.back) frames (loads_in all) keeps.drawn in
    let few = few_frames (loads_in came) (lists_in d.came).whole in
    omega (arith, some, many, same, few)

-- so DRAW sent no more packets than loads came to CULL
pub past_both : (cull : AnyCullWork) (draw : AnyDrawWork) (a b c : List Packet) (sent : List Packet) → KeepsCull cull a b → KeepsDraw draw c sent →
    LinkPart b c → length sent ≤ length (loads_in a)
past_both cull draw a b c sent cull_keeps draw_keeps link =
    let first = past_cull cull a b c cull_keeps link in
    let second = past_draw draw c sent draw_keeps in
    omega (arith, first, second)
