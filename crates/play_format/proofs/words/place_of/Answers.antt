use Rattle.play_format.proofs.LineLemmas.{first_place}
use Rattle.play_format.proofs.words.place_of.Goals as goal

pub returns : goal.returns
returns c = first_place c.args.byte c.args.text.now c.memchr.result c.memchr.ensures
