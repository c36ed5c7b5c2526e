-- The draw list of a channel in pieces, and when the pieces are right.
use Rattle.std.specs.Prelude.{◌≡◌, ℕ, ◌≤◌, Bool, true, false, not, ◌&&◌, List, [], ◌∷◌, ◌++◌, map, filter, flat_map, length}
use Rattle.std.specs.List.{AllByRecursion}
use Rattle.pf_model.specs.Walks.{Instance}
use Rattle.draw_list.specs.Order.{is_opaque, in_draw_order}
use Rattle.tri_cover.specs.Glass.{is_glass, is_drawn_before}
use Rattle.tri_cover.specs.Sorting.{sorted}
use Rattle.cull_walk.specs.Premises.{unnamed}

-- A piece as it is sent: the instances that its items draw, and whether it is the last one of its list.
pub record PieceParts : Type 0 where
  pub items : List Instance
  pub last : Bool

-- the instances of all pieces
abbrev pub joined : List PieceParts → List Instance
joined ps = flat_map (λ p. p.items) ps

-- the last piece has the mark, and no other
abbrev pub is_ended : List PieceParts → Bool
is_ended [] = false
is_ended (p ∷ []) = p.last
is_ended (p ∷ q ∷ ps) = not p.last && is_ended (q ∷ ps)

-- what is opaque as it stands, and then what is glass in the order in which it is drawn
abbrev pub in_sending_order : List Instance → List Instance
in_sending_order xs = filter is_opaque xs ++ in_draw_order (filter (λ x. not (is_opaque x)) xs)

-- The pieces are right for what is shown: each has at most n items, the last one alone has the mark, and joined they are
-- the instances in the order of sending, but for their ids.
pub record ArePiecesOf (n : ℕ) (xs : List Instance) (ps : List PieceParts) : Type 0 where
  pub few : AllByRecursion (λ p. length p.items ≤ n) ps
  pub ended : is_ended ps ≡ true
  pub items : joined ps ≡ map unnamed (in_sending_order xs)

-- the pieces are the front of all that is to be sent, and the rest is still to come
abbrev pub AreSentOf : List Instance → List PieceParts → List Instance → Type 0
AreSentOf all ps rest = all ≡ joined ps ++ rest

-- the glass of a list, in the order in which it is drawn
abbrev pub glass_drawn : List Instance → List Instance
glass_drawn xs = sorted is_drawn_before (filter is_glass xs)

-- the glass of one piece after the other is drawn as that of all of them
abbrev pub GlassAddsUp : List PieceParts → Type 0
GlassAddsUp ps = flat_map (λ p. glass_drawn p.items) ps ≡ glass_drawn (joined ps)
