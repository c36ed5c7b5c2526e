-- How many commands among the first entries of a log pass a test.
use Rattle.std.proofs.Common.{◌≡◌, ℕ, ◌+◌, ◌<◌, Bool, length, take, get_or}
use Rattle.std.specs.Prelude.{cond}
use Rattle.std.proofs.lemmas.List.Filters.{length-filter_more}
use Rattle.pf_history.specs.declared.commands.Command.{Command}
use Rattle.pf_history.specs.declared.commands.Entry.{Entry}
use Rattle.pf_history.specs.Logs.{Log, how_many}

pub one_more : (test : Command → Bool) (log : Log) (i : ℕ) (e : ℕ × Entry) → i < length log →
    how_many test (take (i + 1) log) ≡ how_many test (take i log) + cond (test (get_or log i e).1.command) 1 0
one_more test log i e h = length-filter_more (λ e. test e.1.command) log i e h
