-- Lists whose instances look alike, and whose places are in one order, have one colour.
use Rattle.std.proofs.Common.{◌≡◌, ℕ, ◌+◌, List, [], ◌∷◌, Bool, true, false, cond, Option, Some, None, option_map, refl, ap, sym, ◌∙◌, subst, arith}
use Rattle.std.specs.Prelude.{⊤, fold, filter, flat_map, is_none, is_some, unwrap_or, nat_lt}
use Rattle.std.specs.List.{AllZip, cons_option}
use Rattle.std.proofs.lemmas.Bool.Decides.{nat_tests}
use Rattle.std.proofs.lemmas.List.Sums.{fold-append}
use Rattle.std.proofs.lemmas.Option.{same_Some}
use Rattle.fx_math.specs.Plain.{Matrix}
use Rattle.fx_math.specs.declared.lenses.Lens.{Lens}
use Rattle.pf_model.specs.declared.geometry.Tri.{Tri}
use Rattle.pf_model.specs.Walks.{Instance}
use Rattle.tri_cover.specs.declared.hit.Hit.{Hit}
use Rattle.tri_cover.specs.Hits.{hit}
use Rattle.tri_cover.specs.Glass.{is_opaque, is_glass, alpha_of, is_drawn_before, blend}
use Rattle.tri_cover.specs.Picture.{Fragment, is_less, fragment_of, fragments, nearer, nearest_opaque, colour_under, is_hidden, glazed, glazed_by, picture}
use Rattle.tri_cover.specs.Sorting.{sorted}
use Rattle.tri_cover.specs.Orders.{HaveOneColour, HaveOnePicture}
use Rattle.tri_cover.specs.Labels.{IsRelabelled, IsSeenAlike, AreInOneOrder, PlacesAgree}
use Rattle.tri_cover.proofs.AnyOrder.{numbered}
use Rattle.tri_cover.proofs.Keys.{AreOneBut, less_alike}
use Rattle.tri_cover.proofs.Zips.{zip_same, zip_weaker, zip_both, TestsAlike, zip_filter, GoAlike, sorted_zip, fold_zip}

-- ---- the fragments of two instances that look alike
-- fragments that differ in their places alone
pub record AreAlike (f g : Fragment) : Type 0 where
  pub keys : AreOneBut f.key g.key
  pub colour : f.colour ≡ g.colour

-- those of two instances
record ArePair (x y : Instance) (f g : Fragment) : Type 0 where
  alike : AreAlike f g
  left : f.key.place ≡ x.place
  right : g.key.place ≡ y.place

pair_of : (x y : Instance) → x.shift ≡ y.shift → (n : ℕ) (h k : Hit) → h ≡ k → ArePair x y (fragment_of x n h) (fragment_of y n k)
pair_of x y shift n h k same = record {
  alike = record {
    keys = record { depth = ap (λ (w : Hit). (fragment_of x n w).key.depth) same ∙ cc; number = refl };
    colour = ap (λ (w : Hit). w.colour) same;
  };
  left = refl;
  right = refl;
}

pairs_from : (lens : Lens) (px py : ℕ) (x y : Instance) → x.shift ≡ y.shift → (n : ℕ) (ts us : List Tri) → AllZip (λ t u. hit lens px py x.steps t ≡ hit lens px py y.steps u) ts us → AllZip (ArePair x y) (numbered lens px py x n ts) (numbered lens px py y n us)
pairs_from lens px py x y shift n [] [] z = tt
pairs_from lens px py x y shift n [] (u ∷ us) z = absurd z
pairs_from lens px py x y shift n (t ∷ ts) [] z = absurd z
pairs_from lens px py x y shift n (t ∷ ts) (u ∷ us) z =
    by (hit lens px py x.steps t) (hit lens px py y.steps u) z.0 (pairs_from lens px py x y shift (n + 1) ts us z.1)
  where
    fs : List Fragment
    fs = numbered lens px py x (n + 1) ts

    gs : List Fragment
    gs = numbered lens px py y (n + 1) us

    by : (o p : Option Hit) → o ≡ p → AllZip (ArePair x y) fs gs → AllZip (ArePair x y) (cons_option (option_map (fragment_of x n) o) fs) (cons_option (option_map (fragment_of y n) p) gs)
    by None None e rest = rest
    by None (Some k) e rest = cc
    by (Some h) None e rest = cc
    by (Some h) (Some k) e rest = (pair_of x y shift n h k (same_Some h k e), rest)

pairs : (lens : Lens) (px py : ℕ) (x y : Instance) → IsSeenAlike lens px py x y → AllZip (ArePair x y) (fragments lens px py x) (fragments lens px py y)
pairs lens px py x y a = pairs_from lens px py x y a.shift 0 x.tris y.tris a.hits

-- ---- the opaque fragments
-- x stands to v in place as y to w
abbrev InOrder : Instance → Instance → Instance → Instance → Type 0
InOrder x y v w = AreInOneOrder x.place y.place v.place w.place

-- a fragment stands to v in place as another to w
abbrev StandsAlike : Fragment → Fragment → Instance → Instance → Type 0
StandsAlike f g v w = AreInOneOrder f.key.place g.key.place v.place w.place

-- what is found in two lists is alike, and stands alike to all that still comes
abbrev FoundAlike : Option Fragment → Option Fragment → List Instance → List Instance → Type 0
FoundAlike None None xs ys = ⊤
FoundAlike None (Some g) xs ys = ⊥
FoundAlike (Some f) None xs ys = ⊥
FoundAlike (Some f) (Some g) xs ys = AreAlike f g × AllZip (StandsAlike f g) xs ys

order_itself : (p q r s : ℕ) → p ≡ r → q ≡ s → AreInOneOrder p q r s
order_itself p q r s h g = record { below = grind (arith, nat_tests); above = grind (arith, nat_tests) }

moved_order : (p q a b r s : ℕ) → p ≡ a → q ≡ b → AreInOneOrder a b r s → AreInOneOrder p q r s
moved_order p q a b r s h g o = subst (λ (n : ℕ). AreInOneOrder n q r s) (sym h) (subst (λ (n : ℕ). AreInOneOrder a n r s) (sym g) o)

turned_order : (p q r s : ℕ) → AreInOneOrder p q r s → AreInOneOrder r s p q
turned_order p q r s o = record { below = o.above; above = o.below }

new_found : (x y : Instance) (xs ys : List Instance) (f g : Fragment) → AllZip (InOrder x y) xs ys → ArePair x y f g → FoundAlike (Some f) (Some g) (x ∷ xs) (y ∷ ys)
new_found x y xs ys f g later p = (
  p.alike,
  (
    order_itself f.key.place g.key.place x.place y.place p.left p.right,
    zip_weaker (InOrder x y) (StandsAlike f g) (λ v w o. moved_order f.key.place g.key.place x.place y.place v.place w.place p.left p.right o) xs ys later,
  ),
)

one_found : (x y : Instance) (xs ys : List Instance) (f g : Fragment) → AllZip (InOrder x y) xs ys → ArePair x y f g → (a b : Option Fragment) → FoundAlike a b (x ∷ xs) (y ∷ ys) → FoundAlike (nearer a f) (nearer b g) (x ∷ xs) (y ∷ ys)
one_found x y xs ys f g later p None None found = new_found x y xs ys f g later p
one_found x y xs ys f g later p None (Some b) found = absurd found
one_found x y xs ys f g later p (Some a) None found = absurd found
one_found x y xs ys f g later p (Some a) (Some b) found = by (is_less f.key a.key) (is_less g.key b.key) same
  where
    order : AreInOneOrder f.key.place g.key.place a.key.place b.key.place
    order = moved_order f.key.place g.key.place x.place y.place a.key.place b.key.place p.left p.right
        (turned_order a.key.place b.key.place x.place y.place found.1.0)

    same : is_less f.key a.key ≡ is_less g.key b.key
    same = less_alike f.key g.key a.key b.key p.alike.keys found.0.keys order

    by : (t u : Bool) → t ≡ u → FoundAlike (cond t (Some f) (Some a)) (cond u (Some g) (Some b)) (x ∷ xs) (y ∷ ys)
    by true true e = new_found x y xs ys f g later p
    by true false e = cc
    by false true e = cc
    by false false e = found

found_in : (x y : Instance) (xs ys : List Instance) → AllZip (InOrder x y) xs ys → (fs gs : List Fragment) → AllZip (ArePair x y) fs gs → (a b : Option Fragment) → FoundAlike a b (x ∷ xs) (y ∷ ys) → FoundAlike (fold nearer a fs) (fold nearer b gs) (x ∷ xs) (y ∷ ys)
found_in x y xs ys later [] [] z a b found = found
found_in x y xs ys later [] (g ∷ gs) z a b found = absurd z
found_in x y xs ys later (f ∷ fs) [] z a b found = absurd z
found_in x y xs ys later (f ∷ fs) (g ∷ gs) z a b found =
    found_in x y xs ys later fs gs z.1 (nearer a f) (nearer b g) (one_found x y xs ys f g later z.0 a b found)

found_later : (x y : Instance) (xs ys : List Instance) (a b : Option Fragment) → FoundAlike a b (x ∷ xs) (y ∷ ys) → FoundAlike a b xs ys
found_later x y xs ys None None found = tt
found_later x y xs ys None (Some b) found = absurd found
found_later x y xs ys (Some a) None found = absurd found
found_later x y xs ys (Some a) (Some b) found = (found.0, found.1.1)

found_all : (lens : Lens) (px py : ℕ) (xs ys : List Instance) → AllZip (IsSeenAlike lens px py) xs ys → PlacesAgree xs ys → (a b : Option Fragment) → FoundAlike a b xs ys → FoundAlike (fold nearer a (flat_map (fragments lens px py) xs)) (fold nearer b (flat_map (fragments lens px py) ys)) [] []
found_all lens px py [] [] z agree a b found = found
found_all lens px py [] (y ∷ ys) z agree a b found = absurd z
found_all lens px py (x ∷ xs) [] z agree a b found = absurd z
found_all lens px py (x ∷ xs) (y ∷ ys) z agree a b found =
    subst (λ (o : Option Fragment). FoundAlike o (fold nearer b (flat_map (fragments lens px py) (y ∷ ys))) [] []) (sym (fold-append nearer a (fragments lens px py x) (flat_map (fragments lens px py) xs)))
    (subst (λ (o : Option Fragment). FoundAlike (fold nearer a' (flat_map (fragments lens px py) xs)) o [] []) (sym (fold-append nearer b (fragments lens px py y) (flat_map (fragments lens px py) ys)))
    (found_all lens px py xs ys z.1 agree.1 a' b' (found_later x y xs ys a' b' (found_in x y xs ys agree.0 (fragments lens px py x) (fragments lens px py y) (pairs lens px py x y z.0) a b found))))
  where
    a' : Option Fragment
    a' = fold nearer a (fragments lens px py x)

    b' : Option Fragment
    b' = fold nearer b (fragments lens px py y)

-- ---- glass
-- opaque fragments that hide and show alike, or none
abbrev LieAlike : Option Fragment → Option Fragment → Type 0
LieAlike a b = FoundAlike a b [] []

under_alike : (back : List ℕ) (a b : Option Fragment) → LieAlike a b → colour_under back a ≡ colour_under back b
under_alike back None None h = refl
under_alike back None (Some b) h = absurd h
under_alike back (Some a) None h = absurd h
under_alike back (Some a) (Some b) h = h.0.colour

hidden_alike : (a b : Option Fragment) (f g : Fragment) → LieAlike a b → AreAlike f g → is_hidden a f ≡ is_hidden b g
hidden_alike None None f g h k = refl
hidden_alike None (Some b) f g h k = absurd h
hidden_alike (Some a) None f g h k = absurd h
hidden_alike (Some a) (Some b) f g h k =
    ap (λ (d : ℕ). nat_lt d f.key.depth) h.0.keys.depth ∙ ap (λ (d : ℕ). nat_lt b.key.depth d) k.keys.depth

glazed_alike : (a b : Option Fragment) (alpha : ℕ) (under : List ℕ) (f g : Fragment) → LieAlike a b → AreAlike f g → glazed a alpha under f ≡ glazed b alpha under g
glazed_alike a b alpha under f g h k =
    ap (λ (t : Bool). cond t under (blend alpha f.colour under)) (hidden_alike a b f g h k)
    ∙ ap (λ (c : List ℕ). cond (is_hidden b g) under (blend alpha c under)) k.colour

glazed_by_alike : (lens : Lens) (px py : ℕ) (a b : Option Fragment) → LieAlike a b → (under : List ℕ) (x y : Instance) → IsSeenAlike lens px py x y → glazed_by lens px py a under x ≡ glazed_by lens px py b under y
unfolding glazed_by
glazed_by_alike lens px py a b h under x y s =
    ap (λ (o : Option ℕ). fold (glazed a (unwrap_or o 0)) under (fragments lens px py x)) s.tint
    ∙ fold_zip (glazed a (alpha_of y)) (glazed b (alpha_of y)) (ArePair x y) (λ u f g p. glazed_alike a b (alpha_of y) u f g h p.alike) under (fragments lens px py x) (fragments lens px py y) (pairs lens px py x y s)

-- ---- filters and the order of glass
agree_filter : (p : Instance → Bool) (xs ys : List Instance) → TestsAlike p xs ys → PlacesAgree xs ys → PlacesAgree (filter p xs) (filter p ys)
agree_filter p [] [] t agree = tt
agree_filter p [] (y ∷ ys) t agree = absurd t
agree_filter p (x ∷ xs) [] t agree = absurd t
agree_filter p (x ∷ xs) (y ∷ ys) t agree = by (p x) (p y) t.0 (agree_filter p xs ys t.1 agree.1)
  where
    by : (s u : Bool) → s ≡ u → PlacesAgree (filter p xs) (filter p ys) → PlacesAgree (cond s (x ∷ filter p xs) (filter p xs)) (cond u (y ∷ filter p ys) (filter p ys))
    by true true e rest = (zip_filter (InOrder x y) p xs ys t.1 agree.0, rest)
    by true false e rest = cc
    by false true e rest = cc
    by false false e rest = rest

drawn_alike : (x y v w : Instance) → x.far ≡ y.far → v.far ≡ w.far → InOrder x y v w → is_drawn_before v x ≡ is_drawn_before w y
drawn_alike x y v w far later order = rw (far, later, order.above)

go_alike : (lens : Lens) (px py : ℕ) (xs ys : List Instance) → AllZip (IsSeenAlike lens px py) xs ys → PlacesAgree xs ys → GoAlike is_drawn_before xs ys
go_alike lens px py [] ys z agree = tt
go_alike lens px py (x ∷ xs) [] z agree = absurd z
go_alike lens px py (x ∷ xs) (y ∷ ys) z agree = (
  zip_both (IsSeenAlike lens px py) (InOrder x y) (λ v w. is_drawn_before v x ≡ is_drawn_before w y) (λ v w s o. drawn_alike x y v w z.0.far s.far o) xs ys z.1 agree.0,
  go_alike lens px py xs ys z.1 agree.1,
)

opaque_alike : (lens : Lens) (px py : ℕ) (xs ys : List Instance) → AllZip (IsSeenAlike lens px py) xs ys → TestsAlike is_opaque xs ys
opaque_alike lens px py xs ys z = zip_weaker (IsSeenAlike lens px py) (λ x y. is_opaque x ≡ is_opaque y) (λ x y s. ap (λ (o : Option ℕ). is_none o) s.tint) xs ys z

are_glass_alike : (lens : Lens) (px py : ℕ) (xs ys : List Instance) → AllZip (IsSeenAlike lens px py) xs ys → TestsAlike is_glass xs ys
are_glass_alike lens px py xs ys z = zip_weaker (IsSeenAlike lens px py) (λ x y. is_glass x ≡ is_glass y) (λ x y s. ap (λ (o : Option ℕ). is_some o) s.tint) xs ys z

-- ---- the picture
found_opaque : (lens : Lens) (px py : ℕ) (xs ys : List Instance) → AllZip (IsSeenAlike lens px py) xs ys → PlacesAgree xs ys → LieAlike (nearest_opaque lens px py xs) (nearest_opaque lens px py ys)
unfolding nearest_opaque
found_opaque lens px py xs ys z agree =
    let t : TestsAlike is_opaque xs ys = opaque_alike lens px py xs ys z in
    found_all lens px py (filter is_opaque xs) (filter is_opaque ys) (zip_filter (IsSeenAlike lens px py) is_opaque xs ys t z) (agree_filter is_opaque xs ys t agree) None None tt

glass_zip : (lens : Lens) (px py : ℕ) (xs ys : List Instance) → AllZip (IsSeenAlike lens px py) xs ys → PlacesAgree xs ys → AllZip (IsSeenAlike lens px py) (sorted is_drawn_before (filter is_glass xs)) (sorted is_drawn_before (filter is_glass ys))
glass_zip lens px py xs ys z agree =
    let t : TestsAlike is_glass xs ys = are_glass_alike lens px py xs ys z in
    let g : AllZip (IsSeenAlike lens px py) (filter is_glass xs) (filter is_glass ys) = zip_filter (IsSeenAlike lens px py) is_glass xs ys t z in
    sorted_zip is_drawn_before (IsSeenAlike lens px py) (filter is_glass xs) (filter is_glass ys) g
    (go_alike lens px py (filter is_glass xs) (filter is_glass ys) g (agree_filter is_glass xs ys t agree))

pub one_colour : (lens : Lens) (px py : ℕ) (xs ys : List Instance) → AllZip (IsSeenAlike lens px py) xs ys → PlacesAgree xs ys → HaveOneColour lens px py xs ys
unfolding picture
one_colour lens px py xs ys z agree back =
    let a : Option Fragment = nearest_opaque lens px py xs in
    let b : Option Fragment = nearest_opaque lens px py ys in
    let h : LieAlike a b = found_opaque lens px py xs ys z agree in
    sym (ap (λ (c : List ℕ). fold (glazed_by lens px py a) c (sorted is_drawn_before (filter is_glass xs))) (under_alike back a b h)
    ∙ fold_zip (glazed_by lens px py a) (glazed_by lens px py b) (IsSeenAlike lens px py) (λ u x y s. glazed_by_alike lens px py a b h u x y s) (colour_under back b)
    (sorted is_drawn_before (filter is_glass xs)) (sorted is_drawn_before (filter is_glass ys)) (glass_zip lens px py xs ys z agree))

-- ---- instances with other labels
same_hits : (lens : Lens) (px py : ℕ) (steps : List Matrix) (ts : List Tri) → AllZip (λ t u. hit lens px py steps t ≡ hit lens px py steps u) ts ts
same_hits lens px py steps ts = zip_same (λ t u. hit lens px py steps t ≡ hit lens px py steps u) (λ t. refl) ts

pub seen_relabelled : (lens : Lens) (px py : ℕ) (x y : Instance) → IsRelabelled x y → IsSeenAlike lens px py x y
seen_relabelled lens px py x y r = record {
  tint = r.tint;
  shift = r.shift;
  far = r.far;
  hits = subst (λ (ms : List Matrix). AllZip (λ t u. hit lens px py x.steps t ≡ hit lens px py ms u) x.tris y.tris) r.steps
      (subst (λ (us : List Tri). AllZip (λ t u. hit lens px py x.steps t ≡ hit lens px py x.steps u) x.tris us) r.tris (same_hits lens px py x.steps x.tris));
}

pub one_picture : (xs ys : List Instance) → AllZip IsRelabelled xs ys → PlacesAgree xs ys → HaveOnePicture xs ys
one_picture xs ys z agree lens px py = one_colour lens px py xs ys (zip_weaker IsRelabelled (IsSeenAlike lens px py) (λ x y r. seen_relabelled lens px py x y r) xs ys z) agree
