-- How often the Syncs of a history freed a node.
use Rattle.std.specs.Prelude.{ℕ, ◌==◌, List, [], sum_by, count_by}
use Rattle.pf_history.specs.declared.commands.Reply.{Reply}
use Rattle.pf_history.specs.declared.commands.Reply.TheVariants as reply
use Rattle.pf_history.specs.Logs.{Log}

-- the serials that a reply tells as freed
abbrev pub freed_in : Reply → List ℕ
freed_in (reply.Freed serials) = serials
freed_in _ = []

-- how often a serial is in the replies of a history's Syncs, all of them together
abbrev pub times_freed : ℕ → Log → ℕ
times_freed x log = sum_by (λ e. count_by (λ y. y == x) (freed_in e.1.reply)) log
