use Rattle.stream_stages.proofs.FramesSent.{channel_begun, channels_over}
use Rattle.stream_stages.proofs.sending.begin_channel.Goals as goal

pub returns-in-None-clause-pieces : goal.returns-in-None-clause-pieces
returns-in-None-clause-pieces c = λ limit copy loads lists ready.
    channels_over c.args.lens.now limit copy c.args.walk.now loads lists c.args.frame c.in-None.ensures.value ready

pub returns-in-Some-clause-pieces : goal.returns-in-Some-clause-pieces
returns-in-Some-clause-pieces c = λ limit copy loads lists ready.
    channel_begun c.args.lens.now limit copy c.start.new.self loads lists c.args.frame c.in-Some.view c.in-Some.ensures.few
    (c.in-Some.ensures.value c.in-Some.ensures.few)
    (record { underway = c.start.ensures.underway; whole = c.start.ensures.whole; numbers = c.start.ensures.numbers }) ready
