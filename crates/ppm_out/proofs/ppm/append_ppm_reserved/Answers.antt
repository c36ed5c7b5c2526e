use Rattle.std.proofs.Common.{◌++◌, ap, sym, ◌∙◌, arith, length, length-append, append_assoc}
use Rattle.ppm_out.specs.Ppm.{ppm_header}
use Rattle.ppm_out.proofs.Pictures.{ppm_bytes-shown}
use Rattle.ppm_out.proofs.Sending.{ppm_bytes_are}
use Rattle.ppm_out.proofs.ppm.append_ppm_reserved.Goals as goal

pub append_bands-requires : goal.append_bands-requires
append_bands-requires c =
    let image = c.args.image.now in
    let after = ap length c.append_within.ensures.items in
    let parts = length-append c.args.out.now.items c.header.result.now in
    let header = ap length c.header.ensures.exact in
    omega (arith, after, parts, header, c.header.ensures.whole.whole, c.append_within.new.out.ok.0, c.args.out.now.ok.0, c.append_within.ensures.room, c.requires)

pub returns-clause-exact : goal.returns-clause-exact
returns-clause-exact c =
    let image = c.args.image.now in
    let out = c.args.out.now.items in
    let header = ppm_header image.width image.height in
    c.append_bands.ensures.items
    ∙ ap (λ front. front ++ image.bytes) (c.append_within.ensures.items ∙ ap (λ bytes. out ++ bytes) c.header.ensures.exact)
    ∙ append_assoc out header image.bytes
    ∙ ap (λ bytes. out ++ bytes) (sym (ppm_bytes_are image c.header.ensures.whole))

pub returns-clause-shown : goal.returns-clause-shown
returns-clause-shown c colour shows =
    let image = c.args.image.now in
    let out = c.args.out.now.items in
    let header = ppm_header image.width image.height in
    c.append_bands.ensures.items
    ∙ ap (λ front. front ++ image.bytes) (c.append_within.ensures.items ∙ ap (λ bytes. out ++ bytes) c.header.ensures.exact)
    ∙ append_assoc out header image.bytes
    ∙ ap (λ bytes. out ++ bytes) (sym (ppm_bytes_are image c.header.ensures.whole) ∙ ppm_bytes-shown image colour shows)
