use Rattle.std.proofs.Common.{◌≡◌, ◌+◌, ◌<◌, length, get_or, replicate, refl, sym, ap, ◌∙◌, subst, arith}
use Rattle.std.specs.Fork.{ChangesAt}
use Rattle.atomic_table.specs.Table.{opening}
use Rattle.self_scheduling.specs.Views.{opener}
use Rattle.self_scheduling.specs.Claims.{AreClaimed}
use Rattle.self_scheduling.proofs.Rules.{opens}
use Rattle.self_scheduling.proofs.Seats.{get_found, get_read}
use Rattle.self_scheduling.proofs.calls.beside.Goals as goal

pub new-requires : goal.new-requires
new-requires g c =
    let are : c.as_slice.result.now ≡ replicate (length g.B.Told.items) 0 =
    c.as_slice.ensures.value ∙ c.in-Ok-vec.ensures.items_if_clones_equal (λ y e. e) ∙ ap (λ n. replicate n 0) (c.len-count.ensures ∙ c.args.items.ok.0 ∙ ap length (sym c.requires.items)) in
    subst (λ xs. AreClaimed g.B.Told.items g.B.Told.leaves (c.from.result + 1) (opening c.as_slice.result.now xs (opener (c.from.result + 1))))
    c.requires.items
    (opens g.B.Told.items g.B.Told.leaves (c.from.result + 1) c.as_slice.result.now are)

pub returns-in-Ok-new-clause-each : goal.returns-in-Ok-new-clause-each
returns-in-Ok-new-clause-each g c =
    let items = g.B.Told.items in
    let ys = c.gather.result.items in
    let same = c.requires.items in
    let many : length ys ≡ length c.args.items.items = c.gather.ensures.count ∙ c.len-count.ensures ∙ c.args.items.ok.0 in
    λ i d h.
    let x = get_found items i (subst (λ xs. i < length xs) (sym same) h) in
    let y = get_found ys i (omega (arith, h, many)) in
    let was : get_or c.args.items.items i d ≡ x.0 = ap (λ xs. get_or xs i d) (sym same) ∙ get_read items i x.0 d x.1 in (
      refl,
      subst (λ a. ChangesAt g.F.Fn c.args.f.now i a (get_or ys i d)) (sym was)
          (subst (λ b. ChangesAt g.F.Fn c.args.f.now i x.0 b) (sym (get_read ys i y.0 d y.1))
          (c.requires.left i x.0 y.0 (c.gather.ensures.items i x.0 y.0 x.1 y.1))),
    )

pub returns-in-Err-clause-each : goal.returns-in-Err-clause-each
returns-in-Err-clause-each g c =
    let same = (c.in-Err.ensures).err in
    λ i d h. subst (λ xs. (get_or c.in_turn-in-Err.result.items i d ≡ get_or c.in_turn-in-Err.result.items i d)
    × ChangesAt g.F.Fn c.args.f.now i (get_or xs i d) (get_or c.in_turn-in-Err.result.items i d)) same
    (c.in_turn-in-Err.ensures.each i d (subst (λ xs. i < length xs) (sym same) h))
