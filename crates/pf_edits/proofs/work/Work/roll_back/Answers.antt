use Rattle.std.proofs.Common.{rules, ◌≡◌, ◌∷◌, List, reverse, sym, ◌∙◌, ap, subst}
use Rattle.pf_edits.specs.declared.undo.Undo.{Undo}
use Rattle.pf_edits.specs.Ways.{is_in}
use Rattle.pf_edits.specs.Settling.{any_brings}
use Rattle.pf_edits.proofs.Ups.{ahead}
use Rattle.pf_edits.specs.Extents.{parents_of}
use Rattle.pf_edits.specs.Working.{told}
use Rattle.pf_edits.specs.Undoing.{AllUndoable, before_all}
use Rattle.pf_edits.proofs.Rollbacks.{one_more, undoable_rest, before_rest}
use Rattle.pf_edits.proofs.Tights.{brought_rest, asked_left}
use Rattle.pf_edits.proofs.work.Work.roll_back.Goals as goal

pub loop-undo-preserved : goal.loop-undo-preserved
loop-undo-preserved c =
    let v = c.loop-undo.invariant in
    let u = c.in-Some.undo in
    let w = c.loop-undo.self in
    let last : reverse c.loop-undo.done.items ≡ c.in-Some.undo ∷ reverse c.pop.new.self.items = ap reverse c.in-Some.ensures.items ∙ one_more c.pop.new.self.items u in
    record {
      working = c.undo.ensures.working;
      undoable = undoable_rest w c.undo.new.self u (reverse c.pop.new.self.items) c.undo.ensures.told c.undo.ensures.parents
          (subst (λ (us : List Undo). AllUndoable (told w) (parents_of w.records.slots) us) last v.undoable);
      same = before_rest (told w) (told c.undo.new.self) u (reverse c.pop.new.self.items) c.undo.ensures.told
          ∙ sym (ap (λ (us : List Undo). before_all (told w) us) last) ∙ v.same;
      brought = λ y x h. v.brought y x (brought_rest w.records.slots c.undo.new.self.records.slots u (reverse c.pop.new.self.items) (reverse c.loop-undo.done.items) last c.undo.ensures.entries y x h);
    }

pub returns-clause-asked : goal.returns-clause-asked
returns-clause-asked c =
    let s = c.args.self.now in
    let t = c.loop-undo.self in
    let us = reverse c.args.done.now.items in
    let same : told c.loop-undo.self ≡ before_all (told c.args.self.now) (reverse c.args.done.now.items) = search rules in
    λ es from. asked_left s t (before_all (told s) us) es us same
    (λ y x h. c.loop-undo.invariant.brought y x (ahead (is_in y (parents_of t.records.slots x)) (any_brings (reverse c.loop-undo.done.items) y x) h)) from
