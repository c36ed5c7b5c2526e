-- The order of glass is an order of numbers: by distance from far to near, then by place.
use Rattle.std.proofs.Common.{◌≡◌, ℕ, Bool, true, false, ◌&&◌, ◌||◌, arith}
use Rattle.std.specs.Prelude.{nat_lt, ◌==◌}
use Rattle.std.specs.Cmp.{IsStrictWeakOrder}
use Rattle.std.proofs.lemmas.Bool.Decides.{nat_tests}
use Rattle.tri_cover.specs.Glass.{is_drawn_before}

abbrev pub goes_first : (d p e q : ℕ) → Bool
goes_first d p e q = nat_lt e d || (d == e && nat_lt p q)

goes_first_one_way : (d p e q : ℕ) → goes_first d p e q ≡ true → goes_first e q d p ≡ false
goes_first_one_way d p e q h = grind (arith, nat_tests)

goes_first_chain : (d p e q f r : ℕ) → goes_first d p e q ≡ false → goes_first e q f r ≡ false → goes_first d p f r ≡ false
goes_first_chain d p e q f r h g = grind (arith, nat_tests)

pub drawn_in_order : IsStrictWeakOrder is_drawn_before
drawn_in_order = record {
  one_way = λ x y. goes_first_one_way x.far x.place y.far y.place;
  chain = λ x y z. goes_first_chain x.far x.place y.far y.place z.far z.place;
}
