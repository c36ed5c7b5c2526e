use Rattle.std.proofs.Common.{ℕ, set, sym, ◌∙◌, subst, arith, length-set}
use Rattle.bound_cache.specs.Sizes.{AreCleanFrom}
use Rattle.bound_cache.proofs.Fills.{marked_table, clean_above}
use Rattle.bound_cache.proofs.table.BoxTable.set_mark.Goals as goal

pub invariant_of-self : goal.invariant_of-self
invariant_of-self c =
    let t = c.args.self.now in
    record {
      reserved = t.reserved;
      sized = length-set t.marks.items c.args.id c.args.mark ∙ t.sized;
      unmarked = subst (λ (n : ℕ). AreCleanFrom n (set t.marks.items c.args.id c.args.mark)) (sym c.max-self.ensures) (clean_above t.marks.items t.marked c.args.id c.args.mark (omega arith) t.unmarked);
    }

pub returns : goal.returns
returns c = marked_table c.args.self.now.boxes.items c.args.self.now.marks.items c.args.id c.args.mark (omega arith)
