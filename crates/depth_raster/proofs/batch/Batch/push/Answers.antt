use Rattle.std.proofs.Common.{ℕ, ◌+◌, subst}
use Rattle.depth_raster.specs.Batches.{IsWithFace}
use Rattle.depth_raster.proofs.batch.Batch.push.Goals as goal

pub returns-clause-pieces : goal.returns-clause-pieces
returns-clause-pieces c =
    subst (λ (n : ℕ). IsWithFace (record c.args.face { rank = n + 1 }) c.args.self.now.pieces c.push.new.self) c.len.ensures c.push.ensures
