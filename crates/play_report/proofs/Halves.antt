-- Entries that stand in two slices.
use Rattle.std.proofs.Common.{◌≡◌, ℕ, ◌+◌, Bool, ◌++◌, length, ap, ◌∙◌}
use Rattle.std.specs.List.{filter}
use Rattle.std.proofs.lemmas.List.{length-append}
use Rattle.std.proofs.lemmas.List.Elements.{filter-append}
use Rattle.std.proofs.lemmas.Grind.{flat_map-append}
use Rattle.pf_history.specs.declared.commands.Command.{Command}
use Rattle.pf_history.specs.Logs.{Log, how_many}
use Rattle.play_report.specs.Entries.{entry_text, entry_texts}

-- their lines are those of the first slice and those of the second
pub texts_of_both : (xs ys : Log) → entry_texts (xs ++ ys) ≡ entry_texts xs ++ entry_texts ys
texts_of_both xs ys = flat_map-append (λ e. entry_text e.1) xs ys

-- and so many pass a test as in both together
pub many_of_both : (test : Command → Bool) (xs ys : Log) → how_many test (xs ++ ys) ≡ how_many test xs + how_many test ys
many_of_both test xs ys =
    ap length (filter-append (λ e. test e.1.command) xs ys)
    ∙ length-append (filter (λ e. test e.1.command) xs) (filter (λ e. test e.1.command) ys)
