-- The number of the play's merges is noted.
use Rattle.frame_stages.proofs.AppGiven.{merges_given, merges_kept}
use Rattle.frame_stages.proofs.app_stage.AppStage.note_merges.Goals as goal

pub returns-clause-given : goal.returns-clause-given
returns-clause-given c = merges_given c.self.inside.parts c.args.self.now c.args.merges c.self.view_is

pub returns-clause-part : goal.returns-clause-part
returns-clause-part c = merges_kept c.self.inside.parts c.args.self.now c.args.merges c.self.view_is c.requires.going
