use Rattle.pf_model.proofs.Editing.{effect_edited}
use Rattle.pf_model.proofs.laws.edits_make_delete_or_change.Goals as goal

pub returns : goal.returns
returns c = effect_edited
