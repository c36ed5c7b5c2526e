use Rattle.stream_stages.specs.Underway.{walking_of}
use Rattle.stream_stages.specs.declared.routes.Sight.{Sight}
use Rattle.stream_stages.proofs.Beginning.{has_started, come_whole, come_counted, come_numbers, come_underway}
use Rattle.stream_stages.proofs.streams.StreamWalk.start.Goals as goal

pub returns-clause-underway : goal.returns-clause-underway
returns-clause-underway c = λ look boxes can.
    let sight : Sight = record { time = c.args.time; view = c.args.view.now; lens = c.args.lens.now } in
    come_underway look boxes (walking_of sight c.begin.new.route) c.args.view.now (has_started sight c.begin.new.route c.begin.ensures.begun) can.limits.limits can.boxes_are

pub returns-clause-whole : goal.returns-clause-whole
returns-clause-whole c = λ look boxes can.
    let sight : Sight = record { time = c.args.time; view = c.args.view.now; lens = c.args.lens.now } in
    come_whole look boxes c.args.lens.now c.args.time c.args.view.now (walking_of sight c.begin.new.route) (has_started sight c.begin.new.route c.begin.ensures.begun) can.limits.limits can.boxes_are

pub returns-clause-numbers : goal.returns-clause-numbers
returns-clause-numbers c = λ look boxes can.
    let sight : Sight = record { time = c.args.time; view = c.args.view.now; lens = c.args.lens.now } in
    come_numbers look boxes c.args.lens.now c.args.time c.args.view.now (walking_of sight c.begin.new.route) (has_started sight c.begin.new.route c.begin.ensures.begun) can.limits.limits can.boxes_are

pub returns-clause-tests : goal.returns-clause-tests
returns-clause-tests c = λ look boxes can.
    let sight : Sight = record { time = c.args.time; view = c.args.view.now; lens = c.args.lens.now } in
    come_counted look boxes c.args.lens.now c.args.time c.args.view.now (walking_of sight c.begin.new.route) (has_started sight c.begin.new.route c.begin.ensures.begun) can.limits.limits can.boxes_are
