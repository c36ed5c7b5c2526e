use Rattle.std.proofs.Common.{ap, length, ◌∙◌, rules}
use Rattle.std.specs.Vec.Iter.{into_iter_items}
use Rattle.std.proofs.lemmas.Iterator.{items_from_collect}
use Rattle.std.proofs.lemmas.Iterator.Adapters.{YieldsList-from_vec}
use Rattle.perfly_top.proofs.Arguments.{behind_first}
use Rattle.perfly_top.proofs.exit.words_behind.Goals as goal

pub returns : goal.returns
returns c =
    let all = into_iter_items c.args.arguments in
    let left = c.next-name.new.self in
    let behind = behind_first c.next-name.result all (into_iter_items left) _ c.next-name.ensures.items c.next-name.ensures.variant c.args.arguments.rest.ok.0 in
    let found = items_from_collect c.collect.result c.collect.ensures.ran (YieldsList-from_vec _ behind (left.rest.ok.0 ∙ ap length behind)) in
    search rules
