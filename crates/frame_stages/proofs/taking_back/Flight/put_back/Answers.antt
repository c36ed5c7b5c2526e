-- A load that is put back has its place.
use Rattle.std.proofs.Common.{List, length, sym, ap, ◌∙◌, subst, arith}
use Rattle.std.proofs.lemmas.List.{length_push}
use Rattle.stage_parts.specs.Loads.{LoadState, Each}
use Rattle.stage_parts.proofs.Sizes.{each_push}
use Rattle.frame_stages.specs.Flights.{FlightState, HaveFirst, IsTaken}
use Rattle.frame_stages.proofs.taking_back.Flight.put_back.Goals as goal

pub invariant_of-self : goal.invariant_of-self
invariant_of-self c =
    let i = c.self.inside in
    let inv = c.self.invariant in
    let taken = subst (λ (f : FlightState). IsTaken f) (sym c.self.view_is) c.requires.taken in
    let loads = taken.loads in
    let items = c.push_reserved.ensures.items in
    let long = ap length items ∙ length_push i.spare.items c.args.load in
    let places = inv.places in
    let capacity = c.push_reserved.ensures.capacity in
    record {
      back = inv.back;
      loads = omega (arith, loads, long);
      places = omega (arith, places, capacity);
      homeward = inv.homeward;
      came = inv.came;
      numbers = inv.numbers;
      settled = subst (λ (xs : List LoadState). Each (λ (l : LoadState). HaveFirst l.lists) xs) (sym items)
          (each_push (λ (l : LoadState). HaveFirst l.lists) i.spare.items c.args.load inv.settled c.requires.first);
    }
