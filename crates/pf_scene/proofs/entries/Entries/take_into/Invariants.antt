use Rattle.std.proofs.Common.{◌≡◌, ◌+◌, ◌≤◌, ◌++◌, length, take, drop}
use Rattle.std.specs.Vec.{vec_capacity}
use Rattle.pf_scene.proofs.entries.Entries.take_into.Given as goal

-- so many entries were told, and stand in order behind those of the list
abbrev pub invariant-loop-told : goal.invariant-loop-told
invariant-loop-told l =
    record {
      same : l.self.entries ≡ l.fn.self.entries;
      told : l.self.told ≡ l.fn.self.told + l._told;
      some : l._told ≤ length (drop l.fn.self.told l.fn.self.entries);
      entries : l.into.items ≡ l.fn.into.items ++ take l._told (drop l.fn.self.told l.fn.self.entries);
      room : vec_capacity l.into ≡ vec_capacity l.fn.into;
    }
