use Rattle.mode_hosts.proofs.Progress.{progress}
use Rattle.mode_hosts.proofs.laws.the_stages_make_progress.Goals as goal

pub returns : goal.returns
returns c = progress
