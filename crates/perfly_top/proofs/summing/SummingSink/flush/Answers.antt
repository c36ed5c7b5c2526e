use Rattle.std.proofs.Common.{◌∙◌, ap, sym, Some}
use Rattle.perfly_top.proofs.ByteSums.{since_same}
use Rattle.perfly_top.proofs.summing.SummingSink.flush.Goals as goal

pub invariant_of-self : goal.invariant_of-self
invariant_of-self g c =
    record { same = c.args.self.now.same ∙ ap Some (sym c.end.ensures.same); added = since_same g.S.Start.start (g.H.Held.bytes c.args.self.now.held) (g.H.Held.bytes c.end.new.self) c.args.self.now.sum c.args.self.now.added c.end.ensures.bytes }
