use Rattle.std.proofs.Common.{List, [], ◌∷◌, ◌++◌, reverse, sym, ◌∙◌, ap, subst}
use Rattle.pf_edits.specs.declared.undo.Undo.{Undo}
use Rattle.pf_edits.specs.Extents.{parents_of}
use Rattle.pf_edits.specs.Working.{told}
use Rattle.pf_edits.specs.Undoing.{AllUndoable}
use Rattle.pf_edits.proofs.Rollbacks.{one_more, undoable_next, undoable_still}
use Rattle.pf_edits.proofs.work.Work.apply_noted.Goals as goal

pub returns-in_err-undo-clause-undoable : goal.returns-in_err-undo-clause-undoable
returns-in_err-undo-clause-undoable c =
    subst (λ (us : List Undo). AllUndoable (told c.apply.new.self) (parents_of c.apply.new.self.records.slots) us)
    (sym (ap reverse c.reserve.ensures.items))
    (undoable_still c.args.self.now c.apply.new.self (reverse c.args.done.now.items) c.in_err-undo.ensures.unchanged c.in_err-undo.ensures.kept c.requires.undoable)

pub returns-clause-undoable : goal.returns-clause-undoable
returns-clause-undoable c =
    subst (λ (us : List Undo). AllUndoable (told c.apply.new.self) (parents_of c.apply.new.self.records.slots) us)
    (sym (ap reverse c.in-Ok.ensures.items ∙ one_more c.reserve.new.self.items c.in_ok-undo.undo
    ∙ ap (λ (us : List Undo). c.in_ok-undo.undo ∷ reverse us) c.reserve.ensures.items))
    (undoable_next c.args.self.now c.apply.new.self c.in_ok-undo.undo (reverse c.args.done.now.items) c.requires.working c.in_ok-undo.ensures.undo c.requires.undoable)

pub returns-clause-noted : goal.returns-clause-noted
returns-clause-noted c = record {
  undo = c.in_ok-undo.undo;
  is_undo = c.in_ok-undo.ensures.undo;
  last = c.in-Ok.ensures.items ∙ ap (λ (us : List Undo). us ++ c.in_ok-undo.undo ∷ []) c.reserve.ensures.items;
}
