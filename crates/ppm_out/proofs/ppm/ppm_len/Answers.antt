use Rattle.std.proofs.Common.{◌≡◌, ℕ, ◌+◌, ◌*◌, sym, ap, ◌∙◌, length, length-append}
use Rattle.ppm_out.specs.Pixmap.{pixel}
use Rattle.ppm_out.specs.Ppm.{ppm_header, ppm_size, ppm_bytes, pixel_bytes}
use Rattle.ppm_out.proofs.Pictures.{bytes_of_pixels}
use Rattle.ppm_out.proofs.ppm.ppm_len.Goals as goal

pub returns-clause-of_image : goal.returns-clause-of_image
returns-clause-of_image c image is wide high =
    let pixels : length (pixel_bytes image.width image.height (pixel image)) ≡ 3 * (image.height * image.width) =
    ap length (bytes_of_pixels image is) ∙ is.whole in
    let size : length (ppm_bytes image) ≡ ppm_size image.width image.height =
    length-append (ppm_header image.width image.height) (pixel_bytes image.width image.height (pixel image))
    ∙ ap (λ n. length (ppm_header image.width image.height) + n) pixels in
    size ∙ ap (λ w. ppm_size w image.height) wide ∙ ap (λ h. ppm_size c.args.width h) high
    ∙ sym (ap (λ (n : ℕ). n + 3 * (c.args.height * c.args.width)) c.header_len.ensures.exact)
