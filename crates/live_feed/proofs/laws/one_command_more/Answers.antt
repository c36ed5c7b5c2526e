use Rattle.live_feed.proofs.Plays.{given_grows, play_grows}
use Rattle.live_feed.proofs.laws.one_command_more.Goals as goal

pub returns : goal.returns
returns c = record { given = given_grows; play = play_grows }
