-- What a closed lock's log goes on from.
use Rattle.std.proofs.Common.{◌≡◌, ℕ, ◌<◌, List, ◌++◌, length, take, sym, ap, ◌∙◌, subst, arith}
use Rattle.std.proofs.lemmas.List.{take-append-le, take_all}
use Rattle.seat_lock.specs.declared.view.View.{View}
use Rattle.seat_lock.specs.Log.{Found}
use Rattle.seat_lock.specs.View.{answering, IsSound}
use Rattle.pf_history.specs.declared.commands.Entry.{Entry}
use Rattle.pf_history.specs.Logs.{Log}
use Rattle.stage_parts.specs.declared.packets.Packet.{Packet}
use Rattle.stage_parts.specs.Packets.{LinkPart}

-- a desk answers for its own number, and the log closed under its pass goes on from what it has seen
pub desk_found : (k : ℕ) (v w : View Entry) (log : Log) → w ≡ v → v.number ≡ k → IsSound w →
    ((j : ℕ) → 0 < answering j w → Found j w.seen log) → Found k v.seen log
desk_found k v w log same is sound found =
    let here : Found w.number w.seen log = found w.number sound.own in
    let there = subst (λ (x : View Entry). Found x.number x.seen log) same here in
    subst (λ (j : ℕ). Found j v.seen log) is there

-- what was received and what is left are together what was sent, so it is a front of it
pub front_home : {X : Type 0} (sent taken sent' taken' left : List X) → taken' ++ left ≡ sent' → sent' ≡ sent → taken' ≡ taken →
    taken ≡ take (length taken) sent
front_home {X} sent taken sent' taken' left all same_sent same_taken =
    let is : sent ≡ taken ++ left = sym (subst (λ (xs : List X). xs ++ left ≡ sent) same_taken (all ∙ same_sent)) in
    sym (ap (take (length taken)) is ∙ take-append-le (length taken) taken left (omega arith) ∙ take_all (length taken) taken (omega arith))

pub link_front : (sent taken sent' taken' left : List Packet) → taken' ++ left ≡ sent' → sent' ≡ sent → taken' ≡ taken → LinkPart sent taken
link_front sent taken sent' taken' left all same_sent same_taken =
    record { front = front_home sent taken sent' taken' left all same_sent same_taken }
