use Rattle.mode_hosts.specs.Seats.{crew_state}
use Rattle.mode_hosts.proofs.Goes.{crew_on}
use Rattle.mode_hosts.proofs.hosts.run.Goals as goal

pub returns-then-turn : goal.returns-then-turn
returns-then-turn g c =
    crew_on (crew_state c.args.crew) (crew_state c.loop.crew) (crew_state c.turn.new.crew) c.loop.invariant c.turn.ensures

pub loop-preserved : goal.loop-preserved
loop-preserved g c =
    crew_on (crew_state c.args.crew) (crew_state c.loop.crew) (crew_state c.turn.new.crew) c.loop.invariant c.turn.ensures
