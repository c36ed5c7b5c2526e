-- The commands of a history without its Syncs, and what one thread finds and replies along them.
use Rattle.std.proofs.Common.{◌≡◌, ℕ, ◌+◌, cond, not, List, [], ◌∷◌, map, refl, ap}
use Rattle.std.specs.List.{filter}
use Rattle.pf_model.specs.Copies.{put_all}
use Rattle.pf_history.specs.declared.commands.Caller.{Caller}
use Rattle.pf_history.specs.declared.commands.Command.{Command}
use Rattle.pf_history.specs.declared.commands.Command.TheVariants as command
use Rattle.pf_history.specs.declared.commands.Entry.{Entry}
use Rattle.pf_history.specs.declared.commands.Reply.{Reply}
use Rattle.pf_history.specs.Commands.{caller_of, is_frame}
use Rattle.pf_history.specs.Objects.{FrameState, next_state, reply_of}
use Rattle.pf_history.specs.Logs.{Log, IsLegalFrom, entry_of}
use Rattle.pf_history.specs.Cuts.{names, Cutting, cuttings}
use Rattle.play_fences.specs.Unsynced.{is_sync, entries_but_syncs, places_from}
use Rattle.play_fences.proofs.Settling.{settled}

-- the commands of a log
abbrev pub commands_of : Log → List Command
commands_of log = map (λ e. e.1.command) log

-- commands without the Syncs
abbrev pub unsynced : List Command → List Command
unsynced cs = filter (λ c. not (is_sync c)) cs

-- the states that the Frames among commands find, and the entries of the commands, from a settled state on and settled
-- behind each
abbrev pub found_along : FrameState → List Command → List FrameState
found_along s [] = []
found_along s (c ∷ cs) = cond (is_frame c) (s ∷ found_along (settled (next_state s c)) cs) (found_along (settled (next_state s c)) cs)

abbrev pub entries_along : FrameState → List Command → List Entry
entries_along s [] = []
entries_along s (c ∷ cs) = entry_of s c ∷ entries_along (settled (next_state s c)) cs

-- what the Frames of a log find is, settled, what those of the commands without Syncs find
pub found_bare : (ids : List ℕ) (s : FrameState) (log : Log) → map settled (map (λ (c : Cutting). c.found) (cuttings ids s log)) ≡ found_along (settled s) (unsynced (commands_of log))
found_bare ids s [] = refl
found_bare ids s (e ∷ es) = by e.1.command (λ marks. found_bare marks (next_state s e.1.command) es)
  where
    rest : List Command
    rest = unsynced (commands_of es)

    by : (c : Command) →
        ((marks : List ℕ) → map settled (map (λ (c : Cutting). c.found) (cuttings marks (next_state s c) es)) ≡ found_along (settled (next_state s c)) rest) →
        map settled (map (λ (c : Cutting). c.found) (cond (is_frame c) (record { ids = ids; found = s } ∷ cuttings [] (next_state s c) es) (cuttings (put_all (names s c) ids) (next_state s c) es)))
        ≡ found_along (settled s) (cond (not (is_sync c)) (c ∷ rest) rest)
    by (command.Edit e) more = more (put_all (names s (command.Edit e)) ids)
    by (command.Merge m) more = more (put_all (names s (command.Merge m)) ids)
    by (command.View channel v) more = more ids
    by (command.Sync r) more = more ids
    by command.Frame more = ap (λ states. settled s ∷ states) (more [])

-- the entries of a legal log that are no Syncs are those of its commands without Syncs
pub entries_bare : (s : FrameState) (log : Log) → IsLegalFrom s log → entries_but_syncs log ≡ entries_along (settled s) (unsynced (commands_of log))
entries_bare s [] legal = refl
entries_bare s (e ∷ es) legal = by e.1.command e.1.caller e.1.reply legal.0.caller legal.0.reply (entries_bare (next_state s e.1.command) es legal.1)
  where
    rest : List Command
    rest = unsynced (commands_of es)

    others : Log
    others = filter (λ e. not (is_sync e.1.command)) es

    by : (c : Command) (caller : Caller) (r : Reply) → caller ≡ caller_of c → r ≡ reply_of s c →
        entries_but_syncs es ≡ entries_along (settled (next_state s c)) rest →
        map (λ (x : ℕ × Entry). x.1) (cond (not (is_sync c)) ((e.0, record { caller = caller; command = c; reply = r }) ∷ others) others)
        ≡ entries_along (settled s) (cond (not (is_sync c)) (c ∷ rest) rest)
    by (command.Edit e) caller r by_app replied more = λ i. record { caller = by_app i; command = command.Edit e; reply = replied i } ∷ more i
    by (command.Merge m) caller r by_dbase replied more = λ i. record { caller = by_dbase i; command = command.Merge m; reply = replied i } ∷ more i
    by (command.View channel v) caller r by_app replied more = λ i. record { caller = by_app i; command = command.View channel v; reply = replied i } ∷ more i
    by (command.Sync n) caller r by_app replied more = more
    by command.Frame caller r by_app replied more = λ i. record { caller = by_app i; command = command.Frame; reply = replied i } ∷ more i

-- the places of merges do not count Syncs
pub places_bare : (n : ℕ) (cs : List Command) → places_from n cs ≡ places_from n (unsynced cs)
places_bare n [] = refl
places_bare n (c ∷ cs) = by c (λ k. places_bare k cs)
  where
    by : (c : Command) → ((k : ℕ) → places_from k cs ≡ places_from k (unsynced cs)) → places_from n (c ∷ cs) ≡ places_from n (unsynced (c ∷ cs))
    by (command.Edit e) more = more (n + 1)
    by (command.Merge m) more = ap (λ places. n ∷ places) (more n)
    by (command.View channel v) more = more (n + 1)
    by (command.Sync r) more = more n
    by command.Frame more = more (n + 1)
