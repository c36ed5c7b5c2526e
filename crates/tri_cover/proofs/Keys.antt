-- The order of keys.
use Rattle.std.proofs.Common.{◌≡◌, ℕ, true, false, arith}
use Rattle.std.specs.Prelude.{nat_lt, ◌==◌}
use Rattle.std.proofs.lemmas.Bool.Decides.{nat_tests}
use Rattle.tri_cover.specs.Picture.{Key, is_less}
use Rattle.tri_cover.specs.Labels.{AreInOneOrder}

-- keys of which neither is less have one place and one number
pub record AreOneKey (a b : Key) : Type 0 where
  pub place : a.place ≡ b.place
  pub number : a.number ≡ b.number

pub one_key : (a b : Key) → is_less a b ≡ false → is_less b a ≡ false → AreOneKey a b
one_key a b h g = record { place = grind (arith, nat_tests); number = grind (arith, nat_tests) }

pub less_one_way : (a b : Key) → is_less a b ≡ true → is_less b a ≡ false
less_one_way a b h = grind (arith, nat_tests)

pub less_itself : (a : Key) → is_less a a ≡ false
less_itself a = grind (arith, nat_tests)

-- what is not after b is before what b is before
pub less_after : (a b c : Key) → is_less b a ≡ false → is_less b c ≡ true → is_less a c ≡ true
less_after a b c h g = grind (arith, nat_tests)

-- what is before b is before what is not before b
pub less_before : (a b c : Key) → is_less a b ≡ true → is_less c b ≡ false → is_less a c ≡ true
less_before a b c h g = grind (arith, nat_tests)

-- ---- keys whose places are in one order
same_place_alike : (p q r s : ℕ) → nat_lt p r ≡ nat_lt q s → nat_lt r p ≡ nat_lt s q → (p == r) ≡ (q == s)
same_place_alike p q r s h g = grind (arith, nat_tests)

-- two keys that differ in their places alone
pub record AreOneBut (a b : Key) : Type 0 where
  pub depth : a.depth ≡ b.depth
  pub number : a.number ≡ b.number

pub less_alike : (a b c d : Key) → AreOneBut a b → AreOneBut c d → AreInOneOrder a.place b.place c.place d.place → is_less a c ≡ is_less b d
less_alike a b c d ab cd order =
    let places : (a.place == c.place) ≡ (b.place == d.place) = same_place_alike a.place b.place c.place d.place order.below order.above in
    rw (ab.depth, ab.number, cd.depth, cd.number, order.below, places)
