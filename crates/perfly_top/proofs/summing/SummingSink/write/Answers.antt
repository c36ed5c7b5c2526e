use Rattle.std.proofs.Common.{◌+◌, ◌%◌, ◌^◌, take, ap, ◌∙◌, sym, Some}
use Rattle.perfly_top.proofs.ByteSums.{since_same, since_more}
use Rattle.perfly_top.proofs.summing.SummingSink.write.Goals as goal

pub invariant_of-self : goal.invariant_of-self
invariant_of-self g c =
    record { same = c.args.self.now.same ∙ ap Some (sym c.in_err-taken.ensures.same); added = since_same g.S.Start.start (g.H.Held.bytes c.args.self.now.held) (g.H.Held.bytes c.put.new.self) c.args.self.now.sum c.args.self.now.added c.in_err-taken.ensures.bytes }

pub invariant_of-self-2 : goal.invariant_of-self-2
invariant_of-self-2 g c =
    record {
      same = c.args.self.now.same ∙ ap Some (sym c.in_ok-taken.ensures.same);
      added = since_more g.S.Start.start (g.H.Held.bytes c.args.self.now.held) (g.H.Held.bytes c.put.new.self) c.args.self.now.sum _ (take c.in_ok-taken.taken c.args.piece.now) c.args.self.now.added
          c.in_ok-taken.ensures.bytes (ap (λ n. (c.args.self.now.sum + n) % 2 ^ 64) c.sum_of.ensures);
    }
