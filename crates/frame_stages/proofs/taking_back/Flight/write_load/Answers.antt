-- The picture of a load is written, wholly or up to a fault.
use Rattle.std.proofs.Common.{length, ◌≡◌, ◌+◌, ◌<◌, None, Some, refl, sym, ap, ◌∙◌, subst}
use Rattle.std.specs.Vec.{vec_capacity}
use Rattle.frame_stages.specs.Flights.{FlightState}
use Rattle.frame_stages.proofs.InFlight.{more_back, came_whole, came_cut}
use Rattle.frame_stages.proofs.taking_back.Flight.write_load.Goals as goal

pub invariant_of-self : goal.invariant_of-self
invariant_of-self g c =
    let i = c.self.inside in
    let whole : i.fault ≡ None = ap (λ (f : FlightState). f.fault) c.self.view_is ∙ c.requires.whole in
    let away : i.written < i.frames = subst (λ (f : FlightState). f.written < f.frames) (sym c.self.view_is) c.requires.away in
    more_back i.frames i.written i.ahead i.fault i.spare.items (vec_capacity i.spare) (vec_capacity i.home) (length i.stats.entries) i.stats.spare c.self.invariant whole away

pub returns-in-Ok-clause-back : goal.returns-in-Ok-clause-back
returns-in-Ok-clause-back g c = λ yes.
    came_whole c.args.load c.args.self.now _ c.keep.new.self c.args.load.bytes _ _
    (ap (λ (f : FlightState). record f { written = f.written + 1 }) c.self.view_is) c.keep.ensures.kept c.keep.ensures.same refl
    c.in-Ok.ensures.whole c.in-Ok.ensures.cause.ok c.in-Ok.ensures.last

pub returns-in-Err-clause-short : goal.returns-in-Err-clause-short
returns-in-Err-clause-short g c = λ no.
    came_cut c.args.load c.args.self.now _ c.keep-in-Err.new.self c.in-Err.error.written c.args.load.bytes _ _
    (ap (λ (f : FlightState). record f { fault = Some c.in-Err.error.written }) c.self-in-Err.view_is) c.keep-in-Err.ensures.kept c.keep-in-Err.ensures.same
    refl c.in-Err.ensures.cut.1 c.in-Err.ensures.cause.failed c.in-Err.ensures.last
