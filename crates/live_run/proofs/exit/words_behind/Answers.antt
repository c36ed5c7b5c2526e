use Rattle.std.proofs.Common.{◌≡◌, ◌<◌, ◌↔◌, ℕ, List, [], ◌∷◌, ◌++◌, drop, length, Option, Some, None, IsSome, sym, ap, ◌∙◌, rules, arith}
use Rattle.std.specs.Option.{option_to_list}
use Rattle.std.specs.Vec.Iter.{into_iter_items}
use Rattle.std.proofs.lemmas.Iterator.{items_from_collect}
use Rattle.std.proofs.lemmas.Iterator.Adapters.{YieldsList-from_vec}
use Rattle.live_run.proofs.exit.words_behind.Goals as goal

-- what is left behind a `next`
behind_first : {A : Type 0} (first : Option A) (all rest : List A) (n : ℕ) → all ≡ option_to_list first ++ rest →
    (IsSome first ↔ (0 < n)) → n ≡ length all → rest ≡ drop 1 all
behind_first (Some x) all rest n e some len = sym (ap (drop 1) e)
behind_first None [] rest n e some len = sym e
behind_first None (x ∷ xs) rest n e some len = absurd (let is = some.1 (omega (arith, len)) in cc)

pub returns : goal.returns
returns c =
    let all = into_iter_items c.args.arguments in
    let left = c.next-name.new.self in
    let behind = behind_first c.next-name.result all (into_iter_items left) _ c.next-name.ensures.items c.next-name.ensures.variant c.args.arguments.rest.ok.0 in
    let found = items_from_collect c.collect.result c.collect.ensures.ran (YieldsList-from_vec _ behind (left.rest.ok.0 ∙ ap length behind)) in
    search rules
