-- A line is given.
use Rattle.frame_stages.proofs.AppGiven.{line_given, line_kept}
use Rattle.frame_stages.proofs.app_stage.AppStage.give.Goals as goal

pub returns-clause-given : goal.returns-clause-given
returns-clause-given c =
    line_given c.give.result c.self.inside.parts c.give.new.self c.args.self.now c.args.line c.self.view_is c.give.ensures.given

pub returns-clause-part : goal.returns-clause-part
returns-clause-part c =
    line_kept c.give.result c.self.inside.parts c.give.new.self c.args.self.now c.args.line c.self.view_is c.requires.going
    c.give.ensures.given
