use Rattle.mode_hosts.specs.Sites.{CrewGoes}
use Rattle.mode_hosts.specs.Seats.{crew_state}
use Rattle.mode_hosts.proofs.hosts.run.Given as goal

-- the crew is the one that was given, after polls
abbrev pub invariant-loop : goal.invariant-loop
invariant-loop g l = CrewGoes (crew_state l.fn.crew) (crew_state l.crew)
