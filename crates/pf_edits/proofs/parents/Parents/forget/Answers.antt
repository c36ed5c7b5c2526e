use Rattle.std.proofs.Common.{◌∙◌, ap}
use Rattle.pf_edits.specs.Ways.{is_in}
use Rattle.pf_edits.proofs.Settles.{dropped, others_stay}
use Rattle.pf_edits.proofs.parents.Parents.forget.Goals as goal

pub returns-clause-gone : goal.returns-clause-gone
returns-clause-gone c = ap (is_in c.args.id) c.drop_all.ensures ∙ dropped c.args.id c.self.inside.ids.items

pub returns-clause-others : goal.returns-clause-others
returns-clause-others c = λ b e. ap (is_in b) c.drop_all.ensures ∙ others_stay b c.args.id c.self.inside.ids.items e ∙ ap (is_in b) c.self.view_is
