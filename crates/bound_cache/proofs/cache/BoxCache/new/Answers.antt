use Rattle.std.proofs.Common.{refl, ◌∙◌, ap}
use Rattle.bound_cache.specs.Tables.{is_touched, is_noted}
use Rattle.bound_cache.proofs.Cleaning.{shown_of, shows}
use Rattle.bound_cache.proofs.cache.BoxCache.new.Goals as goal

pub returns-clause-boxes : goal.returns-clause-boxes
returns-clause-boxes c =
    let is = c.in_ok-table.table in
    λ id. (shows is.boxes.items is.marks.items (shown_of is.boxes.items is.marks.items) refl).boxes_are id ∙ c.in_ok-table.ensures.boxes id

pub returns-clause-touched : goal.returns-clause-touched
returns-clause-touched c =
    let is = c.in_ok-table.table in
    λ id. (shows is.boxes.items is.marks.items (shown_of is.boxes.items is.marks.items) refl).touched_are id ∙ ap is_touched (c.in_ok-table.ensures.marks id)

pub returns-clause-noted : goal.returns-clause-noted
returns-clause-noted c =
    let is = c.in_ok-table.table in
    λ id. (shows is.boxes.items is.marks.items (shown_of is.boxes.items is.marks.items) refl).noted_are id ∙ ap is_noted (c.in_ok-table.ensures.marks id)
