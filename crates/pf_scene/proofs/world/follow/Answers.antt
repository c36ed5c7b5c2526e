-- The cycles after all that follows.
use Rattle.std.proofs.Common.{◌≡◌, ℕ, true, false, List, map, None, ◌∙◌, subst}
use Rattle.pf_model.specs.declared.nodes.Gone.{Gone}
use Rattle.pf_model.specs.Copies.{named_by}
use Rattle.cycle_buffer.specs.Cycles.{written_at}
use Rattle.update_lists.specs.Marks.{among}
use Rattle.pf_scene.proofs.Trimmed.{trimmed_then}
use Rattle.pf_scene.proofs.Owned.{gone_serials}
use Rattle.pf_scene.proofs.Opened.{followed}
use Rattle.pf_scene.proofs.world.follow.Goals as goal

pub returns-clause-trimmed : goal.returns-clause-trimmed
returns-clause-trimmed c = λ next. trimmed_then next c.args.cycles.now c.settle.new.cycles c.forget.new.cycles (c.settle.ensures.trimmed next) (c.forget.ensures.trimmed next)

pub returns-clause-stocked : goal.returns-clause-stocked
returns-clause-stocked c =
    let g = c.args.graph.now in
    let w = written_at c.settle.new.cycles in
    let x = written_at c.forget.new.cycles in
    let same = c.as_slice.ensures.value ∙ c.take_gone-gone.ensures.gone in
    followed (written_at c.args.cycles.now) w x g c.take_gone-gone.new.self (map named_by c.args.edits.now)
    c.requires.open c.settle.ensures.named c.settle.ensures.kept c.settle.ensures.lengths
    (subst (λ (xs : List Gone). (s : ℕ) → among s (gone_serials xs) ≡ false → x s ≡ w s) same c.forget.ensures.others)
    (subst (λ (xs : List Gone). (s : ℕ) → among s (gone_serials xs) ≡ true → x s ≡ None) same c.forget.ensures.dropped)
    c.forget.ensures.none c.take_gone-gone.ensures.after
