use Rattle.play_format.proofs.ParseLemmas.{found_play, only_play, refused_play}
use Rattle.play_format.proofs.parser.parse_beside.Goals as goal

pub returns-clause-found : goal.returns-clause-found
returns-clause-found o c = found_play c.args.bytes.now c.read_play.result c.read_play.ensures

pub returns-clause-only : goal.returns-clause-only
returns-clause-only o c = λ p r. only_play c.args.bytes.now c.read_play.result p c.read_play.ensures r

pub returns-clause-refused : goal.returns-clause-refused
returns-clause-refused o c = refused_play c.args.bytes.now c.read_play.result c.read_play.ensures
