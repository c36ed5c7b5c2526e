use Rattle.std.proofs.Common.{◌≡◌, ◌∙◌, true, sym, ap, arith, rules}
use Rattle.stage_parts.specs.Loads.{have_one_size}
use Rattle.stage_parts.proofs.Sizes.{swapped_bytes}
use Rattle.stage_parts.proofs.loads.swap_in.Goals as goal

pub returns-clause-bytes : goal.returns-clause-bytes
returns-clause-bytes c =
    let is : c.have_one_size.result ≡ true = first_of (search rules, grind (arith, c.if-not-have_one_size.false)) in
    swapped_bytes c.args.images.now c.args.place c.index-images-place.result c.args.image.now c.swap.new.x c.index-images-place.is
    (ap (have_one_size c.args.image.now) c.index-images-place.is ∙ sym c.have_one_size.ensures ∙ is) c.swap.ensures.x_after
