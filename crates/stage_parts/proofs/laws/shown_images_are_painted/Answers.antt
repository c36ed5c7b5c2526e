use Rattle.stage_parts.proofs.Shown.{painted_law}
use Rattle.stage_parts.proofs.laws.shown_images_are_painted.Goals as goal

pub returns : goal.returns
returns c = painted_law
