-- Histories without their Syncs: the places of the merges, and the entries.
use Rattle.std.specs.Prelude.{ℕ, ◌+◌, Bool, true, false, not, if◌then◌else◌, List, [], ◌∷◌, map}
use Rattle.std.specs.List.{filter}
use Rattle.pf_history.specs.declared.commands.Command.{Command}
use Rattle.pf_history.specs.declared.commands.Command.TheVariants as command
use Rattle.pf_history.specs.declared.commands.Entry.{Entry}
use Rattle.pf_history.specs.Commands.{is_merge}
use Rattle.pf_history.specs.Logs.{Log}

-- whether a command is a Sync
abbrev pub is_sync : Command → Bool
is_sync (command.Sync r) = true
is_sync _ = false

-- the entries that are no Syncs: who made which command, and its reply
abbrev pub entries_but_syncs : Log → List Entry
entries_but_syncs log = map (λ e. e.1) (filter (λ e. not (is_sync e.1.command)) log)

-- for each merge, behind how many edits, views and Frames it stands, where so many stand before the first command
abbrev pub places_from : ℕ → List Command → List ℕ
places_from n [] = []
places_from n (c ∷ cs) =
    if is_merge c then n ∷ places_from n cs else places_from (if is_sync c then n else n + 1) cs

-- the places of a history's merges among the application's own commands
abbrev pub merge_places : Log → List ℕ
merge_places log = places_from 0 (map (λ e. e.1.command) log)
