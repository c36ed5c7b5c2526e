use Rattle.std.specs.Fork.{ChangesAt}
use Rattle.self_scheduling.proofs.calls.for_each.Given as goal

-- the list as it was, and what a call may leave of an item
abbrev pub ghosts-beside : goal.ghosts-beside
ghosts-beside g a = record { items = a.items.items; leaves = ChangesAt g.F.Fn a.f.now }
