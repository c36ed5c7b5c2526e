use Rattle.pipe_core.proofs.pipe.Pipe.make_command.Goals as goal

pub returns-in-Line-clause-comes : goal.returns-in-Line-clause-comes
returns-in-Line-clause-comes g c = rw c.in-Line.is c.make_line.ensures.comes

pub returns-in-Block-clause-comes : goal.returns-in-Block-clause-comes
returns-in-Block-clause-comes g c = rw c.in-Block.is c.make_merges.ensures.comes
