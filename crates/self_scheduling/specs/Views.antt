-- What a seat at the table of claims knows.
use Rattle.std.specs.Prelude.{ℕ, ◌+◌, ◌-◌, None}
use Rattle.self_scheduling.specs.declared.view.View.{View}

-- the first seat answers for all threads
abbrev pub opener : ℕ → View
opener threads = record { threads = threads; held = None; past = 0 }

-- a seat that makes another one answers for one thread fewer, and the new one for that thread
abbrev pub hiring : View → View
hiring v = record v { threads = v.threads - 1 }

abbrev pub hired : View
hired = record { threads = 1; held = None; past = 0 }

-- a seat takes the threads of another one back, which is gone then
abbrev pub back_with : View → View → View
back_with v w = record v { threads = v.threads + w.threads }

abbrev pub gone : View
gone = record { threads = 0; held = None; past = 0 }
