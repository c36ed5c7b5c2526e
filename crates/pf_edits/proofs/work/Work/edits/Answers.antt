use Rattle.std.proofs.Common.{◌≡◌, ◌+◌, ◌<◌, [], List, None, length, get_or, reverse, refl, sym, ◌∙◌, ap, subst, arith}
use Rattle.pf_model.specs.declared.edits.Edit.{Edit}
use Rattle.pf_model.specs.Edits.{fault_of, effect}
use Rattle.pf_edits.specs.declared.undo.Undo.{Undo}
use Rattle.pf_edits.specs.Extents.{parents_of}
use Rattle.pf_edits.specs.Working.{told}
use Rattle.pf_edits.specs.Undoing.{AllUndoable, before_all}
use Rattle.pf_edits.specs.Settling.{asked_link, Grows}
use Rattle.pf_edits.proofs.Tights.{none_lost, none_asked, lost_next, asked_next}
use Rattle.pf_edits.proofs.Merged.{serial_after, faults_after, effects_after, begins, memory_from}
use Rattle.pf_edits.proofs.work.Work.edits.Goals as goal

pub loop-e-init : goal.loop-e-init
loop-e-init c =
    let w = c.args.self.now in
    let none : c.new-done.result.items ≡ [] = c.new-done.ensures.items in
    record {
      working = c.requires.working;
      place = refl;
      serial = omega arith;
      undoable = subst (λ (us : List Undo). AllUndoable (told w) (parents_of w.records.slots) (reverse us)) (sym none) tt;
      before = ap (λ (us : List Undo). before_all (told w) (reverse us)) none;
      faults = refl;
      effects = refl;
      start = λ e. refl;
      lost = none_lost w.records.slots c.args.es.now c.new-done.result.items c.requires.tight;
      asked = none_asked w c.args.es.now c.new-done.result.items none c.requires.tight;
      begun = λ l. absurd (omega arith);
    }

pub returns-in-Err-clause-memory : goal.returns-in-Err-clause-memory
returns-in-Err-clause-memory c =
    let v = c.loop-e.invariant in
    λ k.
    begins (told c.args.self.now) (told c.loop-e.self) c.args.es.now c.loop-e.e-index c.e-item.result c.loop-e-test.true v.start v.begun
    (subst (λ (e : Edit). fault_of (told c.loop-e.self) e ≡ None) c.e-item.is (c.in-Err.ensures.memory (memory_from (c.loop-e.place + 1) c.in-Err.error c.at.result c.at.ensures k)))

pub loop-e-preserved : goal.loop-e-preserved
loop-e-preserved c =
    let v = c.loop-e.invariant in
    let s = c.loop-e.self in
    let t = c.step.new.self in
    let es = c.args.es.now in
    let i = c.loop-e.e-index in
    let d = c.e-item.result in
    let within : c.loop-e.e-index < length c.args.es.now = c.loop-e-test.true in
    let none : fault_of (told c.loop-e.self) (get_or c.args.es.now c.loop-e.e-index c.e-item.result) ≡ None =
    subst (λ (e : Edit). fault_of (told c.loop-e.self) e ≡ None) c.e-item.is c.in_default.ensures.done in
    let after : told c.step.new.self ≡ effect (told c.loop-e.self) (get_or c.args.es.now c.loop-e.e-index c.e-item.result) =
    subst (λ (e : Edit). told c.step.new.self ≡ effect (told c.loop-e.self) e) c.e-item.is c.in_default.ensures.after in
    let grown : Grows (asked_link (get_or c.args.es.now c.loop-e.e-index c.e-item.result)) c.loop-e.self.records.slots c.step.new.self.records.slots =
    subst (λ (e : Edit). Grows (asked_link e) c.loop-e.self.records.slots c.step.new.self.records.slots) c.e-item.is c.in_default.ensures.grown in
    record {
      working = c.step.ensures.working;
      place = ap (λ n. n + 1) v.place;
      serial = serial_after s t c.args.self.now es i d after v.serial;
      undoable = c.step.ensures.undoable;
      before = c.step.ensures.before ∙ v.before;
      faults = v.faults ∙ faults_after (i + 1) i (told s) (told t) es d within none after;
      effects = v.effects ∙ effects_after i (told s) (told t) es d within after;
      start = λ e. absurd (omega arith);
      lost = lost_next s t es i d c.loop-e.done.items c.step.new.done.items within c.in_default.ensures.noted grown v.working none after v.lost;
      asked = asked_next s t es i d c.loop-e.done.items c.step.new.done.items within c.in_default.ensures.noted grown (told c.args.self.now) v.asked;
      begun = λ l. begins (told c.args.self.now) (told s) es i d within v.start v.begun none;
    }
