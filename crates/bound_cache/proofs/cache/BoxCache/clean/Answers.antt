use Rattle.std.proofs.Common.{◌≡◌, ℕ, false, rules, refl, ◌∙◌, ap, Option}
use Rattle.fx_math.specs.Plain.{Bounds}
use Rattle.bound_cache.specs.Caches.{box_at, touched_at, noted_at}
use Rattle.bound_cache.specs.Tables.{is_touched}
use Rattle.bound_cache.specs.Views.{table_of}
use Rattle.bound_cache.proofs.Marking.{rested_untouched}
use Rattle.bound_cache.proofs.Cleaning.{shown_of, shows, rest_ended, nothing_touched, nothing_noted, cleaned_right, cleaned_noted, cleaned_kept, cleaned_calm}
use Rattle.bound_cache.proofs.cache.BoxCache.clean.Goals as goal

pub returns-then-not-self-clause-right : goal.returns-then-not-self-clause-right
returns-then-not-self-clause-right g c =
    let t = c.self.inside.table in
    let none : c.self.inside.any_touched ≡ false = search rules in
    λ was right told are limits. nothing_touched was (g.V.NodeView.look c.args.scene.now) (box_at c.args.self.now) (touched_at c.args.self.now) (λ id. (shows t.boxes.items t.marks.items c.args.self.now c.self.view_is).touched_are id ∙ c.self.invariant.told none id) right told

pub returns-then-not-self-clause-noted : goal.returns-then-not-self-clause-noted
returns-then-not-self-clause-noted g c =
    let t = c.self.inside.table in
    let none : c.self.inside.any_touched ≡ false = search rules in
    λ was told are. nothing_noted was (g.V.NodeView.look c.args.scene.now) (touched_at c.args.self.now) (noted_at c.args.self.now) (λ id. (shows t.boxes.items t.marks.items c.args.self.now c.self.view_is).touched_are id ∙ c.self.invariant.told none id) told are

pub returns-then-not-self-clause-untouched : goal.returns-then-not-self-clause-untouched
returns-then-not-self-clause-untouched g c =
    let t = c.self.inside.table in
    let none : c.self.inside.any_touched ≡ false = search rules in
    λ id. (shows t.boxes.items t.marks.items c.args.self.now c.self.view_is).touched_are id ∙ c.self.invariant.told none id

pub invariant_of-self : goal.invariant_of-self
invariant_of-self g c = rest_ended (g.V.NodeView.look c.args.scene.now) (table_of c.reach_all.new.self) (table_of c.rest.new.self) false c.rest.ensures.marks

pub returns-clause-right : goal.returns-clause-right
returns-clause-right g c =
    let t = c.self.inside.table in
    let is = c.rest.new.self in
    let after = shown_of is.boxes.items is.marks.items in
    λ was right told are. cleaned_right was (g.V.NodeView.look c.args.scene.now) c.self.inside.any_touched (table_of t) (table_of c.reach_all.new.self) (box_at c.args.self.now) (box_at after) (touched_at c.args.self.now) (noted_at c.args.self.now)
    c.self.invariant (shows t.boxes.items t.marks.items c.args.self.now c.self.view_is) c.reach_all.ensures.right c.reach_all.ensures.done
    (λ id. (shows is.boxes.items is.marks.items after refl).boxes_are id ∙ ap (λ (f : ℕ → Option Bounds). f id) c.rest.ensures.boxes)
    right told are

pub returns-clause-noted : goal.returns-clause-noted
returns-clause-noted g c =
    let t = c.self.inside.table in
    let is = c.rest.new.self in
    let after = shown_of is.boxes.items is.marks.items in
    λ was. cleaned_noted was (g.V.NodeView.look c.args.scene.now) (table_of t) (table_of c.reach_all.new.self) (table_of is) (box_at c.args.self.now) (box_at after) (touched_at c.args.self.now) (noted_at c.args.self.now) (touched_at after) (noted_at after)
    (shows t.boxes.items t.marks.items c.args.self.now c.self.view_is) c.reach_all.ensures.proceeds c.rest.ensures.marks (shows is.boxes.items is.marks.items after refl)

pub returns-clause-kept : goal.returns-clause-kept
returns-clause-kept g c =
    let t = c.self.inside.table in
    let is = c.rest.new.self in
    let after = shown_of is.boxes.items is.marks.items in
    cleaned_kept (g.V.NodeView.look c.args.scene.now) c.self.inside.any_touched (table_of t) (table_of c.reach_all.new.self) (box_at c.args.self.now) (box_at after) (touched_at c.args.self.now) (noted_at c.args.self.now)
    c.self.invariant (shows t.boxes.items t.marks.items c.args.self.now c.self.view_is) c.reach_all.ensures.proceeds
    (λ id. (shows is.boxes.items is.marks.items after refl).boxes_are id ∙ ap (λ (f : ℕ → Option Bounds). f id) c.rest.ensures.boxes)

pub returns-clause-calm : goal.returns-clause-calm
returns-clause-calm g c =
    let t = c.self.inside.table in
    let is = c.rest.new.self in
    let after = shown_of is.boxes.items is.marks.items in
    cleaned_calm (g.V.NodeView.look c.args.scene.now) c.self.inside.any_touched (table_of t) (table_of c.reach_all.new.self) (box_at c.args.self.now) (box_at after) (touched_at c.args.self.now) (noted_at c.args.self.now)
    c.self.invariant (shows t.boxes.items t.marks.items c.args.self.now c.self.view_is) c.reach_all.ensures.proceeds
    (λ id. (shows is.boxes.items is.marks.items after refl).boxes_are id ∙ ap (λ (f : ℕ → Option Bounds). f id) c.rest.ensures.boxes)

pub returns-clause-untouched : goal.returns-clause-untouched
returns-clause-untouched g c =
    let is = c.rest.new.self in
    λ id. (shows is.boxes.items is.marks.items (shown_of is.boxes.items is.marks.items) refl).touched_are id ∙ ap is_touched (c.rest.ensures.marks id)
    ∙ rested_untouched (g.V.NodeView.look c.args.scene.now id) ((table_of c.reach_all.new.self).marks id)
