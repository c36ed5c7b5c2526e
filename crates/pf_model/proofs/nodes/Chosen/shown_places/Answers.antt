use Rattle.std.proofs.Common.{◌≡◌, ℕ, ◌+◌, sym, subst, arith}
use Rattle.pf_model.specs.declared.nodes.Chosen.{Chosen}
use Rattle.pf_model.specs.ShownPlaces.{ArePlaces}
use Rattle.pf_model.proofs.ShownPlaces.{places_all, places_one, places_none}
use Rattle.pf_model.proofs.nodes.Chosen.shown_places.Goals as goal

pub returns-in-All : goal.returns-in-All
returns-in-All c = subst (λ (o : Chosen). ArePlaces o c.args.children 0 c.args.children) (sym c.in-All.is) (places_all c.args.children)

pub returns-in-One : goal.returns-in-One
returns-in-One c =
    let at : c.in-One.place ≡ c.from-place.result = omega arith in
    subst (λ (n : ℕ). ArePlaces c.args.self c.args.children n (n + 1)) at
    (subst (λ (o : Chosen). ArePlaces o c.args.children c.in-One.place (c.in-One.place + 1)) (sym c.in-One.is) (places_one c.args.children c.in-One.place (omega arith)))

pub returns-in-One-2 : goal.returns-in-One-2
returns-in-One-2 c = subst (λ (o : Chosen). ArePlaces o c.args.children 0 0) (sym c.in-One.is) (places_none c.args.children c.in-One.place (omega arith))
