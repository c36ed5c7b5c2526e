-- How often a node is freed, by how often it is buried.
use Rattle.std.proofs.Common.{◌≡◌, ℕ, ◌+◌, Bool, true, false, cond, not, ◌==◌, List, [], ◌∷◌, ◌++◌, map, Option, Some, None, refl, ap, arith}
use Rattle.std.proofs.lemmas.List.Sums.{sum_by-cons}
use Rattle.std.specs.List.{filter, count_by}
use Rattle.std.specs.Option.{option_map_or}
use Rattle.pf_model.specs.declared.edits.Fault.{Fault}
use Rattle.pf_model.specs.Edits.{fault_of, after}
use Rattle.pf_model.specs.Merges.{merge_fault, after_all}
use Rattle.pf_model.specs.Copies.{GraveState, grave_of, is_due, freed_by, graves_kept}
use Rattle.pf_history.specs.declared.commands.Command.{Command}
use Rattle.pf_history.specs.declared.commands.Command.TheVariants as command
use Rattle.pf_history.specs.declared.commands.Entry.{Entry}
use Rattle.pf_history.specs.declared.commands.Reply.TheVariants as reply
use Rattle.pf_history.specs.Objects.{FrameState, next_state, reply_of}
use Rattle.pf_history.specs.Logs.{Log, IsLegalFrom, state_after}
use Rattle.pf_history.proofs.Freeing.{graves_of}
use Rattle.pf_history.proofs.Counting.{one}
use Rattle.play_fences.specs.Unsynced.{is_sync}
use Rattle.play_fences.specs.Freed.{freed_in, times_freed}
use Rattle.play_fences.proofs.Settling.{settled}
use Rattle.play_fences.proofs.Bare.{commands_of, unsynced}

abbrev pub times_in : ℕ → List ℕ → ℕ
times_in x serials = count_by (λ y. y == x) serials

pub graves_append : (x : ℕ) (gs hs : List GraveState) → graves_of x (gs ++ hs) ≡ graves_of x gs + graves_of x hs
graves_append x [] hs = omega arith
graves_append x (g ∷ gs) hs = let rest = graves_append x gs hs in omega (arith, rest)

-- each grave is freed or kept
freed_kept : (r x : ℕ) (gs : List GraveState) → times_in x (freed_by r gs) + graves_of x (graves_kept r gs) ≡ graves_of x gs
freed_kept r x [] = omega arith
freed_kept r x (g ∷ gs) = by (is_due r g) (freed_kept r x gs)
  where
    by : (t : Bool) → times_in x (freed_by r gs) + graves_of x (graves_kept r gs) ≡ graves_of x gs →
        times_in x (map (λ (g : GraveState). g.serial) (cond t (g ∷ filter (is_due r) gs) (filter (is_due r) gs))) + graves_of x (cond (not t) (g ∷ graves_kept r gs) (graves_kept r gs))
        ≡ one (g.serial == x) + graves_of x gs
    by true rest = let more = sum_by-cons (λ y. one (y == x)) g.serial (freed_by r gs) in omega (arith, rest, more)
    by false rest = omega (arith, rest)

-- how often commands bury a serial, from a settled state on and settled behind each
abbrev pub buried_along : ℕ → FrameState → List Command → ℕ
buried_along x s [] = 0
buried_along x s (c ∷ cs) = graves_of x (next_state s c).graves + buried_along x (settled (next_state s c)) cs

-- a command other than a Sync frees nothing, and buries what it buries in the settled state
record Buries (x : ℕ) (s : FrameState) (c : Command) : Type 0 where
  freed : freed_in (reply_of s c) ≡ []
  graves : graves_of x (next_state s c).graves ≡ graves_of x s.graves + graves_of x (next_state (settled s) c).graves

buries : (x : ℕ) (s : FrameState) (c : Command) → is_sync c ≡ false → Buries x s c
buries x s (command.Edit e) is = record { freed = by (fault_of s.graph e); graves = graves_append x s.graves (map (grave_of s.frames) (after s.graph e).gone) }
  where
    by : (o : Option Fault) → freed_in (option_map_or reply.Refused o reply.Done) ≡ []
    by None = refl
    by (Some f) = refl
buries x s (command.Merge m) is = record { freed = by (merge_fault s.graph m.edits); graves = graves_append x s.graves (map (grave_of s.frames) (after_all s.graph m.edits).gone) }
  where
    by : (o : Option (ℕ × Fault)) → freed_in (option_map_or (λ f. reply.RefusedAt f.0 f.1) o reply.Done) ≡ []
    by None = refl
    by (Some f) = refl
buries x s (command.View channel v) is = record { freed = refl; graves = omega arith }
buries x s (command.Sync r) is = absurd (cc)
buries x s command.Frame is = record { freed = refl; graves = omega arith }

-- what was freed, with what lies in graves at the end, is what lay in graves at first and was buried
pub freed_total : (x : ℕ) (s : FrameState) (log : Log) → IsLegalFrom s log → times_freed x log + graves_of x (state_after s log).graves ≡ graves_of x s.graves + buried_along x (settled s) (unsynced (commands_of log))
freed_total x s [] legal = omega arith
freed_total x s (e ∷ es) legal =
    let first = sum_by-cons (λ (e : ℕ × Entry). times_in x (freed_in e.1.reply)) e es in
    let all = by e.1.command (is_sync e.1.command) refl (freed_total x (next_state s e.1.command) es legal.1) in
    let replied : times_in x (freed_in e.1.reply) ≡ times_in x (freed_in (reply_of s e.1.command)) = ap (λ r. times_in x (freed_in r)) legal.0.reply in
    omega (arith, first, all, replied)
  where
    rest : List Command
    rest = unsynced (commands_of es)

    left : Command → ℕ
    left c = graves_of x (state_after (next_state s c) es).graves

    sync_case : (c : Command) → is_sync c ≡ true → times_freed x es + left c ≡ graves_of x (next_state s c).graves + buried_along x (settled (next_state s c)) rest →
        times_in x (freed_in (reply_of s c)) + times_freed x es + left c ≡ graves_of x s.graves + buried_along x (settled s) rest
    sync_case (command.Sync r) is all = let f = freed_kept r x s.graves in omega (arith, f, all)
    sync_case (command.Edit e) is all = absurd (cc)
    sync_case (command.Merge m) is all = absurd (cc)
    sync_case (command.View channel v) is all = absurd (cc)
    sync_case command.Frame is all = absurd (cc)

    -- settled before or not, a command other than a Sync leaves the same settled state
    same_settled : (c : Command) → is_sync c ≡ false → settled (next_state s c) ≡ settled (next_state (settled s) c)
    same_settled (command.Edit e) is = refl
    same_settled (command.Merge m) is = refl
    same_settled (command.View channel v) is = refl
    same_settled (command.Sync r) is = absurd (cc)
    same_settled command.Frame is = refl

    by : (c : Command) (b : Bool) → is_sync c ≡ b → times_freed x es + left c ≡ graves_of x (next_state s c).graves + buried_along x (settled (next_state s c)) rest →
        times_in x (freed_in (reply_of s c)) + times_freed x es + left c ≡ graves_of x s.graves + buried_along x (settled s) (cond (not b) (c ∷ rest) rest)
    by c true is all = sync_case c is all
    by c false is all =
        let b = buries x s c is in
        let none : times_in x (freed_in (reply_of s c)) ≡ 0 = ap (times_in x) b.freed in
        let same : buried_along x (settled (next_state s c)) rest ≡ buried_along x (settled (next_state (settled s) c)) rest = ap (λ t. buried_along x t rest) (same_settled c is) in
        let graves = b.graves in
        omega (arith, graves, none, same, all)
