-- A load that came back has its place.
use Rattle.std.proofs.Common.{◌+◌, ◌≤◌, sym, ap, ◌∙◌, subst, length, arith}
use Rattle.std.proofs.lemmas.List.{length_push}
use Rattle.frame_stages.specs.Flights.{FlightState}
use Rattle.stage_parts.specs.Parts.{cut_short}
use Rattle.std.specs.Vec.{vec_capacity}
use Rattle.frame_stages.proofs.InFlight.{load_kept}
use Rattle.frame_stages.proofs.taking_back.Flight.keep.Goals as goal

pub invariant_of-self : goal.invariant_of-self
invariant_of-self c =
    let i = c.self.inside in
    let number = subst (λ (f : FlightState). length f.stats + 1 ≤ f.written + cut_short f.fault) (sym c.self.view_is) c.requires.stats in
    let long = ap length c.push_reserved.ensures.entries ∙ length_push i.stats.entries _ in
    load_kept i.frames i.written i.ahead i.fault i.spare.items (vec_capacity i.spare) (vec_capacity i.home) (length i.stats.entries) i.stats.spare
    c.settle.new.load c.push_reserved-2.new.self.items (vec_capacity c.push_reserved-2.new.self) (vec_capacity c.bring_home.new.home) (length c.push_reserved.new.self.entries)
    c.push_reserved.new.self.spare c.self.invariant
    (subst (λ (f : FlightState). length f.spare + 1 + f.frames ≤ f.ahead + (f.written + cut_short f.fault)) (sym c.self.view_is) c.requires.loads)
    number
    c.settle.ensures.first c.push_reserved-2.ensures.items c.push_reserved-2.ensures.capacity c.bring_home.ensures.capacity long c.push_reserved.ensures.spare

pub push_reserved-requires : goal.push_reserved-requires
push_reserved-requires c =
    let i = c.self.inside in
    let number = subst (λ (f : FlightState). length f.stats + 1 ≤ f.written + cut_short f.fault) (sym c.self.view_is) c.requires.stats in
    let back = c.self.invariant.back in
    let numbers = c.self.invariant.numbers in
    omega (arith, number, back, numbers)
