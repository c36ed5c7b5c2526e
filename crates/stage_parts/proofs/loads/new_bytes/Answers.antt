use Rattle.std.proofs.Common.{◌≡◌, ◌*◌, ap, arith}
use Rattle.ppm_out.specs.Ppm.{ppm_size}
use Rattle.stage_parts.proofs.Sizes.{bytes_of_images, mul_most, most_size}
use Rattle.stage_parts.proofs.loads.new_bytes.Goals as goal

pub overflow_mul-size : goal.overflow_mul-size
overflow_mul-size c =
    let lens = c.args.lens.now in
    let size = most_size lens.w lens.h lens.in_range.most_width lens.in_range.most_height in
    let most =
    mul_most c.ppm_len.result c.args.channels 4000000 255 (omega (arith, size, c.ppm_len.ensures.exact))
    (omega (arith, c.ranges.channels.fits)) in
    omega (arith, most)

pub returns-clause-room : goal.returns-clause-room
returns-clause-room c images are =
    let bytes = bytes_of_images c.args.lens.now c.args.channels images are in
    let size : c.ppm_len.result * c.args.channels ≡ ppm_size c.args.lens.now.w c.args.lens.now.h * c.args.channels =
    ap (λ n. n * c.args.channels) c.ppm_len.ensures.exact in
    omega (arith, bytes, size, c.in_ok-with_capacity.ensures.exact)
