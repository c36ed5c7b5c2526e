-- The glass of what is sent, and that it adds up piece by piece.
use Rattle.std.proofs.Common.{◌≡◌, ◌∙◌, List, [], ◌∷◌, ◌++◌, Bool, true, false, cond, not, ◌&&◌, ◌||◌, Option, Some, None, ap, sym, refl, subst, arith}
use Rattle.std.specs.Prelude.{ℕ, map, filter, flat_map, nat_lt, ◌==◌, is_none, is_some}
use Rattle.std.specs.List.{AllByRecursion}
use Rattle.std.proofs.lemmas.Bool.Decides.{nat_tests}
use Rattle.std.proofs.lemmas.List.{map-append}
use Rattle.std.proofs.lemmas.List.Elements.{filter-append}
use Rattle.pf_model.specs.Walks.{Instance}
use Rattle.draw_list.specs.Order.{is_opaque, is_earlier, draw_order, put_in, in_draw_order}
use Rattle.tri_cover.specs.Glass.{is_glass, is_drawn_before}
use Rattle.tri_cover.specs.Sorting as sorting
use Rattle.tri_cover.proofs.GlassOrder.{drawn_in_order}
use Rattle.tri_cover.proofs.Sorts.{NoneBefore, Rises, rises_one, rises_sorted, filter-sorted, map-sorted}
use Rattle.cull_walk.specs.Premises.{unnamed}
use Rattle.stream_stages.specs.Pieces.{PieceParts, joined, in_sending_order, glass_drawn, GlassAddsUp}

-- ---- lists in order
-- a list in order is its own sort
pub rising_is_sorted : (xs : List Instance) → Rises is_drawn_before xs → sorting.sorted is_drawn_before xs ≡ xs
rising_is_sorted xs rises =
    rises_one is_drawn_before drawn_in_order (sorting.sorted is_drawn_before xs) xs
    (rises_sorted is_drawn_before drawn_in_order xs) rises (λ k. filter-sorted is_drawn_before drawn_in_order k xs)

none_before_front : (x : Instance) (xs ys : List Instance) → NoneBefore is_drawn_before x (xs ++ ys) → NoneBefore is_drawn_before x xs
none_before_front x [] ys h = tt
none_before_front x (y ∷ xs) ys h = (h.0, none_before_front x xs ys h.1)

rises_front : (xs ys : List Instance) → Rises is_drawn_before (xs ++ ys) → Rises is_drawn_before xs
rises_front [] ys h = tt
rises_front (x ∷ xs) ys h = (none_before_front x xs ys h.0, rises_front xs ys h.1)

rises_back : (xs ys : List Instance) → Rises is_drawn_before (xs ++ ys) → Rises is_drawn_before ys
rises_back [] ys h = h
rises_back (x ∷ xs) ys h = rises_back xs ys h.1

-- ---- the order of drawing is that of glass, where all is glass
abbrev pub IsGlass : Instance → Type 0
IsGlass x = is_opaque x ≡ false

farther : (d p e q : ℕ) → is_earlier e p d q ≡ (nat_lt e d || (d == e && nat_lt p q))
farther d p e q = grind (arith, nat_tests)

goes_alike : (x y : Instance) → IsGlass x → IsGlass y → draw_order x y ≡ is_drawn_before x y
goes_alike x y f g = by (is_opaque x) (is_opaque y) f g
  where
    by : (o w : Bool) → o ≡ false → w ≡ false →
        cond o (not w || is_earlier x.state x.place y.state y.place) (not w && is_earlier y.far x.place x.far y.place) ≡ is_drawn_before x y
    by true w f g = absurd (cc)
    by false true f g = absurd (cc)
    by false false f g = farther x.far x.place y.far y.place

put_alike : (x : Instance) (ys : List Instance) → IsGlass x → AllByRecursion IsGlass ys → put_in x ys ≡ sorting.put_in is_drawn_before x ys
put_alike x [] f g = refl
put_alike x (y ∷ ys) f g =
    ap (λ (zs : List Instance). cond (draw_order y x) (y ∷ zs) (x ∷ y ∷ ys)) (put_alike x ys f g.1)
    ∙ ap (λ (t : Bool). cond t (y ∷ sorting.put_in is_drawn_before x ys) (x ∷ y ∷ ys)) (goes_alike y x g.0 f)

put_glass : (x : Instance) (ys : List Instance) → IsGlass x → AllByRecursion IsGlass ys → AllByRecursion IsGlass (put_in x ys)
put_glass x [] f g = (f, tt)
put_glass x (y ∷ ys) f g = by (draw_order y x) (put_glass x ys f g.1)
  where
    by : (t : Bool) → AllByRecursion IsGlass (put_in x ys) → AllByRecursion IsGlass (cond t (y ∷ put_in x ys) (x ∷ y ∷ ys))
    by true h = (g.0, h)
    by false h = (f, (g.0, g.1))

pub ordered_glass : (xs : List Instance) → AllByRecursion IsGlass xs → AllByRecursion IsGlass (in_draw_order xs)
ordered_glass [] g = tt
ordered_glass (x ∷ xs) g = put_glass x (in_draw_order xs) g.0 (ordered_glass xs g.1)

pub orders_alike : (xs : List Instance) → AllByRecursion IsGlass xs → in_draw_order xs ≡ sorting.sorted is_drawn_before xs
orders_alike [] g = refl
orders_alike (x ∷ xs) g =
    put_alike x (in_draw_order xs) g.0 (ordered_glass xs g.1)
    ∙ ap (sorting.put_in is_drawn_before x) (orders_alike xs g.1)

-- ---- the glass of what is sent
pub glass_left : (xs : List Instance) → AllByRecursion IsGlass (filter (λ x. not (is_opaque x)) xs)
glass_left [] = tt
glass_left (x ∷ xs) = by (is_opaque x) refl (glass_left xs)
  where
    by : (t : Bool) → is_opaque x ≡ t → AllByRecursion IsGlass (filter (λ y. not (is_opaque y)) xs) → AllByRecursion IsGlass (cond (not t) (x ∷ filter (λ y. not (is_opaque y)) xs) (filter (λ y. not (is_opaque y)) xs))
    by true e h = h
    by false e h = (e, h)

opaque_is_not_glass : (t : Option ℕ) → is_none t ≡ true → is_some t ≡ false
opaque_is_not_glass None e = refl
opaque_is_not_glass (Some a) e = absurd (cc)

glass_is_not_opaque : (t : Option ℕ) → is_none t ≡ false → is_some t ≡ true
glass_is_not_opaque None e = absurd (cc)
glass_is_not_opaque (Some a) e = refl

glass_of_opaque : (xs : List Instance) → filter is_glass (map unnamed (filter is_opaque xs)) ≡ []
glass_of_opaque [] = refl
glass_of_opaque (x ∷ xs) = by (is_opaque x) refl (glass_of_opaque xs)
  where
    by : (t : Bool) → is_opaque x ≡ t → filter is_glass (map unnamed (filter is_opaque xs)) ≡ [] → filter is_glass (map unnamed (cond t (x ∷ filter is_opaque xs) (filter is_opaque xs))) ≡ []
    by true e h =
        ap (λ (b : Bool). cond b (unnamed x ∷ filter is_glass (map unnamed (filter is_opaque xs))) (filter is_glass (map unnamed (filter is_opaque xs)))) (opaque_is_not_glass x.tint e)
        ∙ h
    by false e h = h

glass_of_glass : (xs : List Instance) → AllByRecursion IsGlass xs → filter is_glass (map unnamed xs) ≡ map unnamed xs
glass_of_glass [] g = refl
glass_of_glass (x ∷ xs) g =
    ap (λ (b : Bool). cond b (unnamed x ∷ filter is_glass (map unnamed xs)) (filter is_glass (map unnamed xs))) (glass_is_not_opaque x.tint g.0)
    ∙ ap (λ (ys : List Instance). unnamed x ∷ ys) (glass_of_glass xs g.1)

-- the glass of what is sent is what is not opaque of what is shown
pub glass_sent : (xs : List Instance) → filter is_glass (map unnamed (in_sending_order xs)) ≡ map unnamed (in_draw_order (filter (λ x. not (is_opaque x)) xs))
glass_sent xs =
    ap (filter is_glass) (map-append unnamed (filter is_opaque xs) (in_draw_order left))
    ∙ filter-append is_glass (map unnamed (filter is_opaque xs)) (map unnamed (in_draw_order left))
    ∙ ap (λ (ys : List Instance). ys ++ filter is_glass (map unnamed (in_draw_order left))) (glass_of_opaque xs)
    ∙ glass_of_glass (in_draw_order left) (ordered_glass left (glass_left xs))
  where
    left : List Instance
    left = filter (λ x. not (is_opaque x)) xs

-- in the order in which it is drawn
pub sent_glass : (xs : List Instance) → filter is_glass (map unnamed (in_sending_order xs)) ≡ sorting.sorted is_drawn_before (map unnamed (filter (λ x. not (is_opaque x)) xs))
sent_glass xs =
    glass_sent xs
    ∙ ap (map unnamed) (orders_alike left (glass_left xs))
    ∙ map-sorted is_drawn_before unnamed left
  where
    left : List Instance
    left = filter (λ x. not (is_opaque x)) xs

-- ---- piece by piece
each_rises : (ps : List PieceParts) → Rises is_drawn_before (filter is_glass (joined ps)) → flat_map (λ p. glass_drawn p.items) ps ≡ filter is_glass (joined ps)
each_rises [] h = refl
each_rises (p ∷ ps) h =
    ap (λ (ys : List Instance). ys ++ flat_map (λ q. glass_drawn q.items) ps) (rising_is_sorted (filter is_glass p.items) (rises_front (filter is_glass p.items) (filter is_glass (joined ps)) both))
    ∙ ap (λ (ys : List Instance). filter is_glass p.items ++ ys) (each_rises ps (rises_back (filter is_glass p.items) (filter is_glass (joined ps)) both))
    ∙ sym (filter-append is_glass p.items (joined ps))
  where
    both : Rises is_drawn_before (filter is_glass p.items ++ filter is_glass (joined ps))
    both = subst (Rises is_drawn_before) (filter-append is_glass p.items (joined ps)) h

pub adds_up : (xs : List Instance) (ps : List PieceParts) → joined ps ≡ map unnamed (in_sending_order xs) → GlassAddsUp ps
adds_up xs ps e = each_rises ps rises ∙ sym (rising_is_sorted (filter is_glass (joined ps)) rises)
  where
    rises : Rises is_drawn_before (filter is_glass (joined ps))
    rises =
        subst (Rises is_drawn_before) (sym (ap (filter is_glass) e ∙ sent_glass xs))
        (rises_sorted is_drawn_before drawn_in_order (map unnamed (filter (λ x. not (is_opaque x)) xs)))
