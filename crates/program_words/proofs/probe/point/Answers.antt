use Rattle.std.specs.Int.{w32}
use Rattle.std.proofs.lemmas.Int.{to_z-of_z}
use Rattle.play_format.proofs.SameLemmas.{vector_is}
use Rattle.program_words.proofs.probe.point.Goals as goal

pub returns : goal.returns
returns c =
    vector_is _ c.args.x c.args.y c.args.z (to_z-of_z w32 c.args.x c.ranges.x) (to_z-of_z w32 c.args.y c.ranges.y) (to_z-of_z w32 c.args.z c.ranges.z)
