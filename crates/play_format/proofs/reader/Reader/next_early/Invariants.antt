use Rattle.std.proofs.Common.{◌≡◌, length}
use Rattle.play_format.specs.Rests.{stand}
use Rattle.play_format.proofs.reader.Reader.next_early.Given as goal

abbrev pub invariant-loop-early : goal.invariant-loop-early
invariant-loop-early l = record {
  stays : stand l.self.spot l.self.line l.self.rest.now ≡ stand l.fn.self.spot l.fn.self.line l.fn.self.rest.now;
}

abbrev pub decreases-loop-early : goal.decreases-loop-early
decreases-loop-early l = length l.self.early.items
