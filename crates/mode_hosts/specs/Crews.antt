-- Crews put together, and the crews of a mode.
use Rattle.std.specs.Prelude.{Bool, false, if◌then◌else◌, Option, None, Some, IsSome, is_some}
use Rattle.stage_parts.specs.declared.answers.Did.{Did}
use Rattle.stage_parts.specs.declared.answers.Did.TheVariants as did
use Rattle.mode_hosts.specs.declared.modes.Mode.{Mode}
use Rattle.mode_hosts.specs.declared.modes.Mode.TheVariants as mode
use Rattle.mode_hosts.specs.Works.{AnyCullWork, AnyDrawWork}
use Rattle.mode_hosts.specs.Sites.{Site, DbaseSite, ProbeSite, CrewState, CrewGoes}

-- what the polls of two stages came to: one of them did something, or one has to wait, or both are over
abbrev pub together : Did → Did → Did
together did.Did other = did.Did
together did.NotYet did.Did = did.Did
together did.NotYet did.NotYet = did.NotYet
together did.NotYet did.Over = did.NotYet
together did.Over other = other

-- the first that is there
abbrev pub first_of : {X : Type 0} → Option X → Option X → Option X
first_of None other = other
first_of (Some x) other = Some x

-- two crews as one: each stage of the first, else of the second
abbrev pub united : CrewState → CrewState → CrewState
united a b =
    record {
      cull = first_of a.cull b.cull;
      draw = first_of a.draw b.draw;
      dbase = first_of a.dbase b.dbase;
      probe = first_of a.probe b.probe;
    }

-- whether a probe is there; a desk that rests is none
abbrev pub has_way : Option ProbeSite → Bool
has_way None = false
has_way (Some probe) = is_some probe.way

-- The crews of a play: of the caller's thread, and of the hosts of the cull, of the draw, of the database process, and of the
-- probe.
pub record CrewsState : Type 0 where
  pub caller : CrewState
  pub cull : CrewState
  pub draw : CrewState
  pub dbase : CrewState
  pub probe : CrewState

-- The crews of a play after polls, each of its own stages.
pub record CrewsGo (old new : CrewsState) : Type 0 where
  pub caller : CrewGoes old.caller new.caller
  pub cull : CrewGoes old.cull new.cull
  pub draw : CrewGoes old.draw new.draw
  pub dbase : CrewGoes old.dbase new.dbase
  pub probe : CrewGoes old.probe new.probe

-- all crews as one
abbrev pub all_of : CrewsState → CrewState
all_of crews = united (united crews.caller crews.cull) (united crews.draw (united crews.dbase crews.probe))

-- a crew with all stages
abbrev pub full_crew : Site AnyCullWork → Site AnyDrawWork → DbaseSite → ProbeSite → CrewState
full_crew cull draw dbase probe = record { cull = Some cull; draw = Some draw; dbase = Some dbase; probe = Some probe }

-- the crew has all stages
abbrev pub HasAll : CrewState → Type 0
HasAll crew = IsSome crew.cull × IsSome crew.draw × IsSome crew.dbase × IsSome crew.probe

-- there where this is so
abbrev pub only_if : {X : Type 0} → Bool → X → Option X
only_if b x = if b then Some x else None

-- there where this is not so
abbrev pub unless : {X : Type 0} → Bool → X → Option X
unless b x = if b then None else Some x

-- a crew of these stages, without the probe
abbrev pub crew_with : Option (Site AnyCullWork) → Option (Site AnyDrawWork) → Option DbaseSite → CrewState
crew_with cull draw dbase = record { cull = cull; draw = draw; dbase = dbase; probe = None }

-- the crew of the probe's desk
abbrev pub probe_crew : ProbeSite → CrewState
probe_crew probe = record { cull = None; draw = None; dbase = None; probe = Some probe }

-- The crews of a mode: the database process has a host of its own, or is on the caller's thread. The probe has a crew of its
-- own.
abbrev pub divided : Mode → (own : Bool) → Site AnyCullWork → Site AnyDrawWork → DbaseSite → ProbeSite → CrewsState
divided mode.Appculldraw own cull draw dbase probe =
    record {
      caller = crew_with (Some cull) (Some draw) (unless own dbase);
      cull = crew_with None None None;
      draw = crew_with None None None;
      dbase = crew_with None None (only_if own dbase);
      probe = probe_crew probe;
    }
divided mode.AppCulldraw own cull draw dbase probe =
    record {
      caller = crew_with None None (unless own dbase);
      cull = crew_with (Some cull) (Some draw) None;
      draw = crew_with None None None;
      dbase = crew_with None None (only_if own dbase);
      probe = probe_crew probe;
    }
divided mode.AppcullDraw own cull draw dbase probe =
    record {
      caller = crew_with (Some cull) None (unless own dbase);
      cull = crew_with None None None;
      draw = crew_with None (Some draw) None;
      dbase = crew_with None None (only_if own dbase);
      probe = probe_crew probe;
    }
divided mode.AppCullDraw own cull draw dbase probe =
    record {
      caller = crew_with None None (unless own dbase);
      cull = crew_with (Some cull) None None;
      draw = crew_with None (Some draw) None;
      dbase = crew_with None None (only_if own dbase);
      probe = probe_crew probe;
    }
