use Rattle.std.proofs.Common.{◌≡◌, ◌<◌, ◌++◌, length, take, drop, get_or, refl, sym, ap, ◌∙◌, subst, arith}
use Rattle.std.proofs.lemmas.List.{drop_all, take_all, append-nil}
use Rattle.std.specs.Fork.{ChangesAt}
use Rattle.self_scheduling.proofs.calls.in_turn.Goals as goal

pub returns-clause-each : goal.returns-clause-each
returns-clause-each g c =
    let xs = c.args.items.items in
    let ys = c.call_each.new.items in
    let many : length ys ≡ length xs = c.call_each.ensures.many ∙ ap length c.as_mut_slice.ensures.value in
    let size : c.args.items.len ≡ length xs = sym c.as_mut_slice.ensures.len ∙ ap length c.as_mut_slice.ensures.value in
    let shape : take c.args.items.len (ys ++ drop (length ys) xs) ≡ ys =
    ap (λ zs. take c.args.items.len (ys ++ zs)) (drop_all (length ys) xs (omega (arith, many)))
    ∙ ap (take c.args.items.len) (append-nil ys) ∙ take_all c.args.items.len ys (omega (arith, many, size)) in
    λ i d h. (
      refl,
      subst (λ zs. ChangesAt g.F.Fn c.args.f.now i (get_or xs i d) (get_or zs i d)) (sym shape)
          (subst (λ zs. ChangesAt g.F.Fn c.args.f.now i (get_or zs i d) (get_or ys i d)) c.as_mut_slice.ensures.value
          (c.call_each.ensures.each i d (subst (λ zs. i < length zs) (sym c.as_mut_slice.ensures.value) h)).1),
    )
