use Rattle.std.proofs.Common.{◌||◌, ◌==◌, refl, sym, ◌∙◌, ap}
use Rattle.bound_cache.specs.Tables.{TableState, is_touched, is_noted}
use Rattle.bound_cache.specs.Views.{table_of}
use Rattle.bound_cache.proofs.Cleaning.{shown_of, shows, rest_touched, touched_mark, noted_mark}
use Rattle.bound_cache.proofs.cache.BoxCache.touch.Goals as goal

pub invariant_of-self : goal.invariant_of-self
invariant_of-self c = rest_touched (table_of c.self.inside.table) (table_of c.set_mark.new.self) c.args.id c.self.inside.any_touched c.self.invariant c.set_mark.ensures

pub returns-clause-boxes : goal.returns-clause-boxes
returns-clause-boxes c =
    let was = c.self.inside.table in
    let is = c.set_mark.new.self in
    λ k.
    (shows is.boxes.items is.marks.items (shown_of is.boxes.items is.marks.items) refl).boxes_are k
    ∙ ap (λ (t : TableState). t.boxes k) c.set_mark.ensures
    ∙ sym ((shows was.boxes.items was.marks.items c.args.self.now c.self.view_is).boxes_are k)

pub returns-clause-touched : goal.returns-clause-touched
returns-clause-touched c =
    let was = c.self.inside.table in
    let is = c.set_mark.new.self in
    λ k.
    (shows is.boxes.items is.marks.items (shown_of is.boxes.items is.marks.items) refl).touched_are k
    ∙ ap (λ (t : TableState). is_touched (t.marks k)) c.set_mark.ensures
    ∙ touched_mark (k == c.args.id) ((table_of was).marks k)
    ∙ ap (λ b. k == c.args.id || b) (sym ((shows was.boxes.items was.marks.items c.args.self.now c.self.view_is).touched_are k))

pub returns-clause-noted : goal.returns-clause-noted
returns-clause-noted c =
    let was = c.self.inside.table in
    let is = c.set_mark.new.self in
    λ k.
    (shows is.boxes.items is.marks.items (shown_of is.boxes.items is.marks.items) refl).noted_are k
    ∙ ap (λ (t : TableState). is_noted (t.marks k)) c.set_mark.ensures
    ∙ noted_mark (k == c.args.id) ((table_of was).marks k)
    ∙ ap (λ b. k == c.args.id || b) (sym ((shows was.boxes.items was.marks.items c.args.self.now c.self.view_is).noted_are k))
