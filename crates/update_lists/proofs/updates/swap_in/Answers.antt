use Rattle.update_lists.proofs.Copying.{swapped_ids, swapped_nodes, swapped_out}
use Rattle.update_lists.proofs.updates.swap_in.Goals as goal

pub returns-clause-ids : goal.returns-clause-ids
returns-clause-ids c = swapped_ids c.args.entries.now c.args.i c.index-entries-i.result c.swap.new.x c.requires

pub returns-clause-put : goal.returns-clause-put
returns-clause-put c = swapped_nodes c.args.entries.now c.args.i _ c.swap.new.x c.args.place.now c.swap.ensures.x_after

pub returns-clause-taken : goal.returns-clause-taken
returns-clause-taken c = swapped_out c.args.entries.now c.args.i c.index-entries-i.result c.swap.new.y c.requires c.swap.ensures.y_after
