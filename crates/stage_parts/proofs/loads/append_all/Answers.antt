use Rattle.std.proofs.Common.{◌≡◌, ◌+◌, ◌<◌, ◌∙◌, ap, arith, length, length-append, vec_len, rules}
use Rattle.ppm_out.specs.Ppm.{ppm_bytes, ppm_size}
use Rattle.stage_parts.proofs.Sizes.{appended, bytes_left, ppm_length}
use Rattle.stage_parts.proofs.loads.append_all.Goals as goal

pub loop-image-preserved : goal.loop-image-preserved
loop-image-preserved c =
    let images = c.args.images.now in
    let i = c.loop-image.image-index in
    let image = c.image-item.result in
    let old = c.loop-image.out in
    let new = c.append_ppm_reserved.new.out in
    let within : i < length images = search rules in
    let left = bytes_left images i image within c.image-item.is in
    let long : length new.items ≡ length old.items + ppm_size image.width image.height =
    ap length c.append_ppm_reserved.ensures.exact ∙ length-append old.items (ppm_bytes image)
    ∙ ap (λ n. length old.items + n) (ppm_length image) in
    let counted : vec_len new ≡ length new.items = search rules in
    let counted_old : vec_len old ≡ length old.items = search rules in
    record {
      items = appended c.args.out.now.items old.items new.items images i image within c.image-item.is c.loop-image.invariant.items
          c.append_ppm_reserved.ensures.exact;
      room = omega (arith, c.loop-image.invariant.room, left, long, counted, counted_old, c.append_ppm_reserved.ensures.room);
      capacity = omega (arith, c.loop-image.invariant.capacity, c.append_ppm_reserved.ensures.room);
    }
