use Rattle.std.proofs.Common.{◌∙◌, arith}
use Rattle.pf_io.proofs.Known.{written_next}
use Rattle.pf_io.proofs.sink.write_all.Goals as goal

pub loop-written-preserved : goal.loop-written-preserved
loop-written-preserved g c =
    let went = c.loop-written.invariant in
    let calm = c.in-Ok.ensures.cause.ok in (
      grind arith,
      written_next _ _ _ _ _ _ went.1 c.in-Ok.ensures.bytes,
      grind (arith, went.2, calm),
      c.in-Ok.ensures.last ∙ went.3,
    )
