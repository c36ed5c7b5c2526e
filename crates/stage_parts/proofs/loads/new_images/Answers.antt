use Rattle.std.proofs.Common.{◌+◌, List, [], ◌∷◌, length-append, ap, sym, subst, arith}
use Rattle.ppm_out.specs.Pixmap.{Pixmap}
use Rattle.stage_parts.specs.Loads.{AreImages, IsOfSize}
use Rattle.stage_parts.proofs.Sizes.{each_push}
use Rattle.stage_parts.proofs.loads.new_images.Goals as goal

pub loop-channel-preserved : goal.loop-channel-preserved
loop-channel-preserved c =
    let lens = c.args.lens.now in
    let had = c.loop-channel.invariant in
    let images = c.loop-channel.images.items in
    let image = c.in_ok-new.field-0 in
    let black = c.in_ok-new.ensures.black in
    subst (λ (is : List Pixmap). AreImages lens (c.loop-channel.channel + 1) is) (sym c.in_ok-push.ensures.items)
    (record {
      many = omega (arith, length-append images (image ∷ []), had.many);
      sized = each_push (IsOfSize lens) images image had.sized (record { width = ap (λ (i : Pixmap). i.width) black; height = ap (λ (i : Pixmap). i.height) black });
    })
