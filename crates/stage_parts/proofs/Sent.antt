-- Packets on their way, and the loads among them.
use Rattle.std.proofs.Common.{◌≡◌, ℕ, zero, suc, false, List, [], ◌∷◌, ◌++◌, map, take, length, slice_get, Option, Some, refl, sym, ap, subst}
use Rattle.std.proofs.lemmas.Bool.{or_parts, or_from}
use Rattle.std.specs.Option.{option_to_list}
use Rattle.pf_history.proofs.Lists.{get_front}
use Rattle.stage_parts.specs.declared.packets.Packet.{Packet}
use Rattle.stage_parts.specs.declared.packets.Packet.TheVariants.{Frame, End}
use Rattle.stage_parts.specs.Loads.{LoadState}
use Rattle.stage_parts.specs.Packets.{is_end, has_end, loads_in, bytes_in, LinkPart}
use Rattle.stage_parts.specs.Parts.{sent_and_held}

pub loads_append : (xs ys : List Packet) → loads_in (xs ++ ys) ≡ loads_in xs ++ loads_in ys
loads_append [] ys = refl
loads_append (Frame l ∷ xs) ys = ap (λ ls. l ∷ ls) (loads_append xs ys)
loads_append (End ∷ xs) ys = loads_append xs ys

-- the loads of a front stand at the same places
loads_front : (n : ℕ) (ps : List Packet) (i : ℕ) (l : LoadState) → slice_get (loads_in (take n ps)) i ≡ Some l →
    slice_get (loads_in ps) i ≡ Some l
loads_front zero ps i l at = absurd (cc)
loads_front (suc n) [] i l at = absurd (cc)
loads_front (suc n) (Frame m ∷ ps) zero l at = at
loads_front (suc n) (Frame m ∷ ps) (suc i) l at = loads_front n ps i l at
loads_front (suc n) (End ∷ ps) i l at = loads_front n ps i l at

-- a load that was received is one that was sent, at the same place
pub sent_load : (sent taken : List Packet) (held : Option Packet) → LinkPart sent taken → (i : ℕ) (l : LoadState) →
    slice_get (loads_in taken) i ≡ Some l → slice_get (loads_in (sent_and_held sent held)) i ≡ Some l
sent_load sent taken held link i l at =
    let in_front = subst (λ (ps : List Packet). slice_get (loads_in ps) i ≡ Some l) link.front at in
    let in_sent = loads_front (length taken) sent i l in_front in
    subst (λ (ls : List LoadState). slice_get ls i ≡ Some l) (sym (loads_append sent (option_to_list held)))
    (get_front (loads_in sent) (loads_in (option_to_list held)) i l in_sent)

ends_front : (n : ℕ) (ps qs : List Packet) → has_end (ps ++ qs) ≡ false → has_end (take n ps) ≡ false
ends_front zero ps qs none = refl
ends_front (suc n) [] qs none = refl
ends_front (suc n) (p ∷ ps) qs none =
    let parts = or_parts (is_end p) (has_end (ps ++ qs)) none in
    or_from (is_end p) (has_end (take n ps)) parts.0 (ends_front n ps qs parts.1)

-- where no End was sent, none was received
pub no_end_taken : (sent taken : List Packet) (held : Option Packet) → LinkPart sent taken → has_end (sent_and_held sent held) ≡ false →
    has_end taken ≡ false
no_end_taken sent taken held link none =
    subst (λ (ps : List Packet). has_end ps ≡ false) (sym link.front) (ends_front (length taken) sent (option_to_list held) none)

-- packets without an End are their loads
pub all_loads : (ps : List Packet) → has_end ps ≡ false → map bytes_in ps ≡ map (λ l. l.bytes) (loads_in ps)
all_loads [] none = refl
all_loads (Frame l ∷ ps) none = ap (λ bs. l.bytes ∷ bs) (all_loads ps none)
all_loads (End ∷ ps) none = absurd (cc)

pub many_loads : (ps : List Packet) → has_end ps ≡ false → length (loads_in ps) ≡ length ps
many_loads [] none = refl
many_loads (Frame l ∷ ps) none = ap suc (many_loads ps none)
many_loads (End ∷ ps) none = absurd (cc)
