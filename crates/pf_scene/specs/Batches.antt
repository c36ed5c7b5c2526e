-- Room for the entries of the history, which is made in batches of 64.
use Rattle.std.specs.Prelude.{◌≡◌, ◌⊎◌, ◌+◌, ◌%◌, ◌≤◌, length}
use Rattle.pf_history.specs.Logs.{Log, Recorded}

-- the next entry is the first of a batch
abbrev pub IsFull : Log → Type 0
IsFull log = length log % 64 ≡ 0

-- there is room for the rest of the batch
abbrev pub IsReady : Recorded → Type 0
IsReady h = 64 ≤ length h.entries % 64 + h.spare

-- there is room for the rest of a batch that was begun
abbrev pub IsBatched : Recorded → Type 0
IsBatched h = IsFull h.entries ⊎ IsReady h
