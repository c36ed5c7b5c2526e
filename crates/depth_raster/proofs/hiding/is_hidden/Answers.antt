use Rattle.depth_raster.proofs.BlockHits.{first_hidden, second_hidden, third_hidden}
use Rattle.depth_raster.proofs.hiding.is_hidden.Goals as goal

pub returns-then-is_far : goal.returns-then-is_far
returns-then-is_far c = λ t. c.is_far.ensures c.if-is_far.true

pub returns-then-is_below : goal.returns-then-is_below
returns-then-is_below c = λ t. first_hidden c.args.face.now c.args.block.now c.args.limit (c.is_below.ensures c.if-is_below.true)

pub returns-then-is_below-2 : goal.returns-then-is_below-2
returns-then-is_below-2 c = λ t. second_hidden c.args.face.now c.args.block.now c.args.limit (c.is_below-2.ensures c.if-is_below-2.true)

pub returns-then-is_below-3 : goal.returns-then-is_below-3
returns-then-is_below-3 c = λ t. third_hidden c.args.face.now c.args.block.now c.args.limit (c.is_below-3.ensures c.if-is_below-3.true)
