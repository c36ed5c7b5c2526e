-- The End has no picture.
use Rattle.std.proofs.Common.{length, ◌≡◌, ◌+◌, ◌<◌, None, sym, ap, ◌∙◌, subst}
use Rattle.std.specs.Vec.{vec_capacity}
use Rattle.frame_stages.specs.Flights.{FlightState}
use Rattle.frame_stages.proofs.InFlight.{more_back, came_end}
use Rattle.frame_stages.proofs.taking_back.Flight.write.Goals as goal

pub invariant_of-self : goal.invariant_of-self
invariant_of-self g c =
    let i = c.self.inside in
    let whole : i.fault ≡ None = ap (λ (f : FlightState). f.fault) c.self.view_is ∙ c.requires.whole in
    let away : i.written < i.frames = subst (λ (f : FlightState). f.written < f.frames) (sym c.self.view_is) c.requires.away in
    more_back i.frames i.written i.ahead i.fault i.spare.items (vec_capacity i.spare) (vec_capacity i.home) (length i.stats.entries) i.stats.spare c.self.invariant whole away

pub returns-in-End-clause-back : goal.returns-in-End-clause-back
returns-in-End-clause-back g c = λ yes.
    rw c.in-End.is (came_end c.args.self.now _ _ (ap (λ (f : FlightState). record f { written = f.written + 1 }) c.self.view_is))
