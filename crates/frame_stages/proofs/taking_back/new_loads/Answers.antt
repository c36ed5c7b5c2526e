-- One more load is made.
use Rattle.std.proofs.Common.{List, length, sym, ap, ◌∙◌, subst, arith}
use Rattle.std.proofs.lemmas.List.{length_push}
use Rattle.stage_parts.specs.Loads.{LoadState, Each}
use Rattle.stage_parts.proofs.Sizes.{each_push}
use Rattle.frame_stages.specs.Flights.{HaveFirst, IsFitFor}
use Rattle.frame_stages.proofs.taking_back.new_loads.Goals as goal

pub loop-i-preserved : goal.loop-i-preserved
loop-i-preserved c =
    let old = c.loop-i.loads.items in
    let load = c.in_ok-load.load in
    let items = c.push_reserved.ensures.items in
    let long = ap length items ∙ length_push old load in
    let many = c.loop-i.invariant.many in
    let room = c.loop-i.invariant.room in
    let capacity = c.push_reserved.ensures.capacity in
    record {
      many = omega (arith, long, many);
      room = omega (arith, room, capacity);
      first = subst (λ (xs : List LoadState). Each (λ (l : LoadState). HaveFirst l.lists) xs) (sym items)
          (each_push (λ (l : LoadState). HaveFirst l.lists) old load c.loop-i.invariant.first c.in_ok-load.ensures.first);
      fit = subst (Each (IsFitFor c.args.lens.now c.args.channels)) (sym items)
          (each_push (IsFitFor c.args.lens.now c.args.channels) old load c.loop-i.invariant.fit
          (record { first = c.in_ok-load.ensures.first; lists = c.in_ok-load.ensures.lists; images = c.in_ok-load.ensures.images }));
    }
