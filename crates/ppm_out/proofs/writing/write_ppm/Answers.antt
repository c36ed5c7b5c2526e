use Rattle.std.proofs.Common.{◌≡◌, ◌<◌, ◌+◌, ap, ◌∙◌, arith}
use Rattle.std.proofs.lemmas.Result.{err_from_is_err_and}
use Rattle.std.specs.Io.KnownBytes.{append_known}
use Rattle.ppm_out.specs.Bands.{band_count}
use Rattle.ppm_out.proofs.Sending.{sent_before, sent_all, wrote_header, wrote_front, wrote_band, count_next}
use Rattle.ppm_out.proofs.writing.write_ppm.Goals as goal

pub returns-in_err-write_all-clause-cut : goal.returns-in_err-write_all-clause-cut
returns-in_err-write_all-clause-cut g c =
    let p = err_from_is_err_and c.from_residual.result c.from_residual.ensures.1 in
    let cut = c.in_err-write_all.ensures.cut in
    rw (p.1, p.2) (wrote_header c.args.image.now _ _ _ _ c.header-header.ensures.whole c.header-header.ensures.exact cut.0 cut.1)

pub returns-in_err-write_all-clause-front : goal.returns-in_err-write_all-clause-front
returns-in_err-write_all-clause-front g c =
    let p = err_from_is_err_and c.from_residual.result c.from_residual.ensures.1 in
    let cut = c.in_err-write_all.ensures.cut in
    let wrote = wrote_header c.args.image.now _ _ _ _ c.header-header.ensures.whole c.header-header.ensures.exact cut.0 cut.1 in
    rw p.1 (c.in_err-write_all.field-0.0.written, wrote.0, wrote.1)

pub returns-in-Err-clause-cut : goal.returns-in-Err-clause-cut
returns-in-Err-clause-cut g c =
    let image = c.args.image.now in
    let within : c.loop-i.i < band_count image.height = omega arith in
    let so_far = c.loop-i.invariant in
    let cut = c.in-Err.ensures.cut in
    wrote_front image c.loop-i.i _ _ _ _ _ _ c.bands-i-end.ensures.whole within so_far.count c.band-band.ensures.exact so_far.sent cut.0 cut.1

pub returns-in-Err-clause-front : goal.returns-in-Err-clause-front
returns-in-Err-clause-front g c =
    let image = c.args.image.now in
    let within : c.loop-i.i < band_count image.height = omega arith in
    let so_far = c.loop-i.invariant in
    let cut = c.in-Err.ensures.cut in
    let wrote = wrote_front image c.loop-i.i _ _ _ _ _ _ c.bands-i-end.ensures.whole within so_far.count c.band-band.ensures.exact so_far.sent cut.0 cut.1 in
    (c.loop-i.written + c.in-Err.error.written, wrote.0, wrote.1)

pub loop-i-preserved : goal.loop-i-preserved
loop-i-preserved g c =
    let image = c.args.image.now in
    let within : c.loop-i.i < band_count image.height = omega arith in
    let so_far = c.loop-i.invariant in
    record {
      count = count_next image c.loop-i.i _ _ c.bands-i-end.ensures.whole within c.band-band.ensures.exact so_far.count;
      sent = wrote_band image c.loop-i.i _ _ _ _ c.bands-i-end.ensures.whole within c.band-band.ensures.exact so_far.sent c.in-Ok.ensures.whole;
      calm = c.in-Ok.ensures.cause.ok ∙ so_far.calm;
      last = c.in-Ok.ensures.last ∙ so_far.last;
    }

pub returns-clause-whole : goal.returns-clause-whole
returns-clause-whole g c =
    let image = c.args.image.now in
    let end : c.loop-i.i ≡ band_count image.height = omega arith in
    c.loop-i.invariant.sent
    ∙ ap (append_known (g.S.Sink.written c.args.sink.now)) (ap (sent_before image) end ∙ sent_all image c.bands-i-end.ensures.whole)
