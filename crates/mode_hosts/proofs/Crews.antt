-- Crews put together.
use Rattle.std.proofs.Common.{◌≡◌, Bool, true, false, Option, None, Some, IsSome, refl, subst}
use Rattle.std.specs.Option.{option_map}
use Rattle.mode_hosts.specs.declared.modes.Mode.{Mode}
use Rattle.mode_hosts.specs.declared.modes.Mode.TheVariants as mode
use Rattle.mode_hosts.specs.Works.{AnyCullWork, AnyDrawWork}
use Rattle.mode_hosts.specs.Sites.{Site, DbaseSite, ProbeSite, CrewState, AnyCullGoes, AnyDrawGoes, DbaseGoes, ProbeGoes, IfThere, CrewGoes}
use Rattle.mode_hosts.specs.Crews.{first_of, united, all_of, full_crew, HasAll, CrewsState, CrewsGo, divided}

-- the first that is there, and what it is seen as
pub map_first : {X Y : Type 0} (f : X → Y) (a b : Option X) → option_map f (first_of a b) ≡ first_of (option_map f a) (option_map f b)
map_first f None b = refl
map_first f (Some x) b = refl

first_there : {X : Type 0} (G : X → X → Type 0) (a b a' b' : Option X) → IfThere G a a' → IfThere G b b' → IfThere G (first_of a b) (first_of a' b')
first_there G None b None b' first second = second
first_there G None b (Some x') b' first second = absurd first
first_there G (Some x) b None b' first second = absurd first
first_there G (Some x) b (Some x') b' first second = first

-- two crews that were polled apart, as one
pub united_goes : (a b a' b' : CrewState) → CrewGoes a a' → CrewGoes b b' → CrewGoes (united a b) (united a' b')
united_goes a b a' b' first second =
    record {
      cull = first_there AnyCullGoes a.cull b.cull a'.cull b'.cull first.cull second.cull;
      draw = first_there AnyDrawGoes a.draw b.draw a'.draw b'.draw first.draw second.draw;
      dbase = first_there DbaseGoes a.dbase b.dbase a'.dbase b'.dbase first.dbase second.dbase;
      probe = first_there ProbeGoes a.probe b.probe a'.probe b'.probe first.probe second.probe;
    }

-- all crews as one, after polls
pub all_go : (old new : CrewsState) → CrewsGo old new → CrewGoes (all_of old) (all_of new)
all_go old new go =
    united_goes (united old.caller old.cull) (united old.draw (united old.dbase old.probe))
    (united new.caller new.cull) (united new.draw (united new.dbase new.probe))
    (united_goes old.caller old.cull new.caller new.cull go.caller go.cull)
    (united_goes old.draw (united old.dbase old.probe) new.draw (united new.dbase new.probe) go.draw
    (united_goes old.dbase old.probe new.dbase new.probe go.dbase go.probe))

-- the crews of a mode have all stages
pub divided_all : (m : Mode) (own : Bool) (cull : Site AnyCullWork) (draw : Site AnyDrawWork) (dbase : DbaseSite) (probe : ProbeSite) →
    all_of (divided m own cull draw dbase probe) ≡ full_crew cull draw dbase probe
divided_all mode.Appculldraw true cull draw dbase probe = refl
divided_all mode.Appculldraw false cull draw dbase probe = refl
divided_all mode.AppCulldraw true cull draw dbase probe = refl
divided_all mode.AppCulldraw false cull draw dbase probe = refl
divided_all mode.AppcullDraw true cull draw dbase probe = refl
divided_all mode.AppcullDraw false cull draw dbase probe = refl
divided_all mode.AppCullDraw true cull draw dbase probe = refl
divided_all mode.AppCullDraw false cull draw dbase probe = refl

some_there : {X : Type 0} (G : X → X → Type 0) (x : X) (y : Option X) → IfThere G (Some x) y → IsSome y
some_there G x None there = absurd there
some_there G x (Some z) there = refl

-- polls leave all stages there
pub still_full : (cull : Site AnyCullWork) (draw : Site AnyDrawWork) (dbase : DbaseSite) (probe : ProbeSite) (crew : CrewState) →
    CrewGoes (full_crew cull draw dbase probe) crew → HasAll crew
still_full cull draw dbase probe crew goes = (
  some_there AnyCullGoes cull crew.cull goes.cull,
  some_there AnyDrawGoes draw crew.draw goes.draw,
  some_there DbaseGoes dbase crew.dbase goes.dbase,
  some_there ProbeGoes probe crew.probe goes.probe,
)

-- the crews of a mode, after polls, have all stages
pub divided_go : (m : Mode) (own : Bool) (cull : Site AnyCullWork) (draw : Site AnyDrawWork) (dbase : DbaseSite) (probe : ProbeSite)
    (crews : CrewsState) → CrewsGo (divided m own cull draw dbase probe) crews → CrewGoes (full_crew cull draw dbase probe) (all_of crews)
divided_go m own cull draw dbase probe crews go =
    subst (λ (s : CrewState). CrewGoes s (all_of crews)) (divided_all m own cull draw dbase probe)
    (all_go (divided m own cull draw dbase probe) crews go)
