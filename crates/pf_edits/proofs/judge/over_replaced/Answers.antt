use Rattle.std.proofs.Common.{ℕ, List, sym, ◌∙◌, ap}
use Rattle.pf_model.proofs.Entries.{replace_found, replace_none}
use Rattle.pf_edits.specs.Extents.{extent_at, reckoned}
use Rattle.pf_edits.proofs.judge.over_replaced.Goals as goal

pub returns-in-Some : goal.returns-in-Some
returns-in-Some c =
    c.over_swapped.ensures
    ∙ sym (ap (λ (cs : List ℕ). reckoned (extent_at c.args.records.now.slots) cs) (replace_found c.args.child c.args.by c.args.children.now c.in-Some.place (sym c.in-Some.is ∙ c.place_in.ensures)))

pub returns-in-None : goal.returns-in-None
returns-in-None c =
    c.over_children.ensures
    ∙ sym (ap (λ (cs : List ℕ). reckoned (extent_at c.args.records.now.slots) cs) (replace_none c.args.child c.args.by c.args.children.now (sym c.in-None.is ∙ c.place_in.ensures)))
