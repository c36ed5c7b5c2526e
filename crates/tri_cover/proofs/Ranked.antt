-- The nearest fragment of triangles that are looked at in any order.
use Rattle.std.proofs.Common.{◌≡◌, ℕ, zero, suc, List, [], ◌∷◌, ◌++◌, true, false, Option, Some, None, refl, ap, sym, ◌∙◌, arith}
use Rattle.std.specs.Prelude.{map, filter, filter_map, flat_map}
use Rattle.std.specs.List.{All, enumerate_from, cons_option}
use Rattle.std.proofs.lemmas.List.Elements.{All-nil, All-cons, filter_map-append}
use Rattle.std.proofs.lemmas.Option.{none-some}
use Rattle.fx_math.specs.declared.lenses.Lens.{Lens}
use Rattle.pf_model.specs.declared.geometry.Tri.{Tri}
use Rattle.pf_model.specs.Walks.{Instance}
use Rattle.tri_cover.specs.Glass.{is_opaque}
use Rattle.tri_cover.specs.Picture.{Fragment, is_less, fragment_at, fragments, opaque_fragments, nearest, nearest_opaque}
use Rattle.tri_cover.specs.Leasts.{IsFirstLeast}
use Rattle.tri_cover.specs.Parts.{Part, part_of, opaque_parts, fragment_in, fragment_standing, IsFirstHit}
use Rattle.tri_cover.proofs.Leasts.{first_is_nearest}

-- ---- the fragments are those of the triangles, one by one
fragments_of_parts : (lens : Lens) (px py : ℕ) (x : Instance) (es : List (ℕ × Tri)) → filter_map (fragment_in lens px py) (map (part_of x) es) ≡ filter_map (fragment_at lens px py x) es
fragments_of_parts lens px py x [] = refl
fragments_of_parts lens px py x (e ∷ es) = ap (cons_option (fragment_at lens px py x e)) (fragments_of_parts lens px py x es)

all_parts : (lens : Lens) (px py : ℕ) (xs : List Instance) → filter_map (fragment_in lens px py) (flat_map (λ (x : Instance). map (part_of x) (enumerate_from 0 x.tris)) xs) ≡ flat_map (fragments lens px py) xs
all_parts lens px py [] = refl
all_parts lens px py (x ∷ xs) =
    filter_map-append (fragment_in lens px py) (map (part_of x) (enumerate_from 0 x.tris)) (flat_map (λ (y : Instance). map (part_of y) (enumerate_from 0 y.tris)) xs)
    ∙ ap (λ (fs : List Fragment). fs ++ filter_map (fragment_in lens px py) (flat_map (λ (y : Instance). map (part_of y) (enumerate_from 0 y.tris)) xs)) (fragments_of_parts lens px py x (enumerate_from 0 x.tris))
    ∙ ap (λ (fs : List Fragment). fragments lens px py x ++ fs) (all_parts lens px py xs)

opaque_of_parts : (lens : Lens) (px py : ℕ) (xs : List Instance) → filter_map (fragment_in lens px py) (opaque_parts xs) ≡ opaque_fragments lens px py xs
opaque_of_parts lens px py xs = all_parts lens px py (filter is_opaque xs)

-- ---- what holds of each triangle's fragment
all_standing : (lens : Lens) (px py : ℕ) (P : Fragment → Type 0) (ps : List Part) → ((j : ℕ) (g : Fragment) → fragment_standing lens px py ps j ≡ Some g → P g) → All P (filter_map (fragment_in lens px py) ps)
all_standing lens px py P [] each = All-nil P
all_standing lens px py P (p ∷ ps) each = by (fragment_in lens px py p) refl (all_standing lens px py P ps (λ j g e. each (suc j) g e))
  where
    by : (o : Option Fragment) → fragment_in lens px py p ≡ o → All P (filter_map (fragment_in lens px py) ps) → All P (cons_option o (filter_map (fragment_in lens px py) ps))
    by None e rest = rest
    by (Some g) e rest = All-cons P g (filter_map (fragment_in lens px py) ps) (each zero g e) rest

first_hit : (lens : Lens) (px py : ℕ) (ps : List Part) (i : ℕ) (f : Fragment) → IsFirstHit lens px py ps i f → IsFirstLeast (filter_map (fragment_in lens px py) ps) f
first_hit lens px py [] i f h = absurd (none-some f h.hits)
first_hit lens px py (p ∷ ps) zero f h = record {
  before = [];
  after = filter_map (fragment_in lens px py) ps;
  stands = ap (λ (o : Option Fragment). cons_option o (filter_map (fragment_in lens px py) ps)) h.hits;
  greater = All-nil (λ (g : Fragment). is_less f.key g.key ≡ true);
  least = all_standing lens px py (λ (g : Fragment). is_less g.key f.key ≡ false) ps (λ j g e. h.least (suc j) g e);
}
first_hit lens px py (p ∷ ps) (suc i) f h = by (fragment_in lens px py p) refl (first_hit lens px py ps i f (record {
  hits = h.hits;
  least = λ j g e. h.least (suc j) g e;
  first = λ j g l e. h.first (suc j) g (omega (arith, l)) e;
}))
  where
    rest : List Fragment
    rest = filter_map (fragment_in lens px py) ps

    by : (o : Option Fragment) → fragment_in lens px py p ≡ o → IsFirstLeast rest f → IsFirstLeast (cons_option o rest) f
    by None e l = l
    by (Some g) e l = record {
      before = g ∷ l.before;
      after = l.after;
      stands = ap (λ (fs : List Fragment). g ∷ fs) l.stands;
      greater = All-cons (λ (w : Fragment). is_less f.key w.key ≡ true) g l.before (h.first zero g (omega arith) e) l.greater;
      least = l.least;
    }

pub first_hit_drawn : (lens : Lens) (px py : ℕ) (xs : List Instance) (i : ℕ) (f : Fragment) → IsFirstHit lens px py (opaque_parts xs) i f → nearest_opaque lens px py xs ≡ Some f
unfolding nearest_opaque
first_hit_drawn lens px py xs i f h =
    ap nearest (sym (opaque_of_parts lens px py xs))
    ∙ first_is_nearest (filter_map (fragment_in lens px py) (opaque_parts xs)) f (first_hit lens px py (opaque_parts xs) i f h)

none_standing : (lens : Lens) (px py : ℕ) (ps : List Part) → ((i : ℕ) → fragment_standing lens px py ps i ≡ None) → filter_map (fragment_in lens px py) ps ≡ []
none_standing lens px py [] none = refl
none_standing lens px py (p ∷ ps) none =
    ap (λ (o : Option Fragment). cons_option o (filter_map (fragment_in lens px py) ps)) (none zero)
    ∙ none_standing lens px py ps (λ i. none (suc i))

pub none_drawn : (lens : Lens) (px py : ℕ) (xs : List Instance) → ((i : ℕ) → fragment_standing lens px py (opaque_parts xs) i ≡ None) → nearest_opaque lens px py xs ≡ None
unfolding nearest_opaque
none_drawn lens px py xs none =
    ap nearest (sym (opaque_of_parts lens px py xs)) ∙ ap nearest (none_standing lens px py (opaque_parts xs) none)
