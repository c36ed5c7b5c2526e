-- The fold that looks for the nearest fragment finds the first of those of least key.
use Rattle.std.proofs.Common.{◌≡◌, List, [], ◌∷◌, ◌++◌, Bool, true, false, cond, Option, Some, None, refl, ap, sym, ◌∙◌, subst, arith}
use Rattle.std.specs.Prelude.{⊤, fold, Contains}
use Rattle.std.specs.List.{All}
use Rattle.std.proofs.lemmas.List.Elements.{All-nil, All-cons, All-head, All-tail, All-same, All-append, All-weaker, All-contains, All-contains_itself, Contains-append_right}
use Rattle.tri_cover.specs.Picture.{Fragment, is_less, nearer, nearest}
use Rattle.tri_cover.specs.Leasts.{IsLeast, IsFirstLeast, IsNearest}
use Rattle.tri_cover.proofs.Keys.{less_one_way, less_itself, less_after, less_before}

-- the key of f is less than that of g
abbrev IsAfter : Fragment → Fragment → Type 0
IsAfter f g = is_less f.key g.key ≡ true

-- the key of g is not less than that of f
abbrev IsNotBefore : Fragment → Fragment → Type 0
IsNotBefore f g = is_less g.key f.key ≡ false

-- ---- the first of the least is found
stays : (f : Fragment) (fs : List Fragment) → All (IsNotBefore f) fs → fold nearer (Some f) fs ≡ Some f
stays f [] least = refl
stays f (g ∷ gs) least =
    ap (λ (t : Bool). fold nearer (cond t (Some g) (Some f)) gs) (All-head (IsNotBefore f) g gs least)
    ∙ stays f gs (All-tail (IsNotBefore f) g gs least)

-- what has been found so far, if anything, has a greater key than f
abbrev IsBeyond : Fragment → Option Fragment → Type 0
IsBeyond f None = ⊤
IsBeyond f (Some g) = IsAfter f g

comes : (f : Fragment) (o : Option Fragment) → IsBeyond f o → nearer o f ≡ Some f
comes f None h = refl
comes f (Some g) h = ap (λ (t : Bool). cond t (Some f) (Some g)) h

beyond_nearer : (f : Fragment) (o : Option Fragment) (b : Fragment) → IsBeyond f o → IsAfter f b → IsBeyond f (nearer o b)
beyond_nearer f None b h k = k
beyond_nearer f (Some g) b h k = by (is_less b.key g.key)
  where
    by : (t : Bool) → IsBeyond f (cond t (Some b) (Some g))
    by true = k
    by false = h

passes : (f : Fragment) (o : Option Fragment) (before after : List Fragment) → IsBeyond f o → All (IsAfter f) before → All (IsNotBefore f) after → fold nearer o (before ++ f ∷ after) ≡ Some f
passes f o [] after h greater least = ap (λ (p : Option Fragment). fold nearer p after) (comes f o h) ∙ stays f after least
passes f o (b ∷ bs) after h greater least =
    passes f (nearer o b) bs after (beyond_nearer f o b h (All-head (IsAfter f) b bs greater)) (All-tail (IsAfter f) b bs greater) least

pub first_is_nearest : (fs : List Fragment) (f : Fragment) → IsFirstLeast fs f → nearest fs ≡ Some f
first_is_nearest fs f first = ap nearest first.stands ∙ passes f None first.before first.after tt first.greater first.least

-- ---- what is found is the first of the least
record Finds (a : Fragment) (fs : List Fragment) : Type 0 where
  found : Fragment
  is : fold nearer (Some a) fs ≡ Some found
  start : is_less a.key found.key ≡ false
  first : IsFirstLeast (a ∷ fs) found

-- one that is not less than the first of the list, put in after it
put_second : (a b f : Fragment) (bs before after : List Fragment) → a ∷ bs ≡ before ++ f ∷ after → All (IsAfter f) before → All (IsNotBefore f) after → is_less b.key a.key ≡ false → IsFirstLeast (a ∷ b ∷ bs) f
put_second a b f bs [] after stands greater least e =
    let same : a ≡ f = cc in
    record {
      before = [];
      after = b ∷ after;
      stands = cc;
      greater = All-nil (IsAfter f);
      least = All-cons (IsNotBefore f) b after (subst (λ (w : Fragment). is_less b.key w.key ≡ false) same e) least;
    }
put_second a b f bs (c ∷ cs) after stands greater least e =
    let same : c ≡ a = cc in
    let rest : bs ≡ cs ++ f ∷ after = cc in
    let before_a : is_less f.key a.key ≡ true = subst (λ (w : Fragment). is_less f.key w.key ≡ true) same (All-head (IsAfter f) c cs greater) in
    record {
      before = a ∷ b ∷ cs;
      after = after;
      stands = ap (λ (l : List Fragment). a ∷ b ∷ l) rest;
      greater = All-cons (IsAfter f) a (b ∷ cs) before_a
          (All-cons (IsAfter f) b cs (less_before f.key a.key b.key before_a e) (All-tail (IsAfter f) c cs greater));
      least = least;
    }

finds : (a : Fragment) (fs : List Fragment) → Finds a fs
finds a [] = record {
  found = a;
  is = refl;
  start = less_itself a.key;
  first = record { before = []; after = []; stands = refl; greater = All-nil (IsAfter a); least = All-nil (IsNotBefore a) };
}
finds a (b ∷ bs) = by (is_less b.key a.key) refl (finds a bs) (finds b bs)
  where
    by : (t : Bool) → t ≡ is_less b.key a.key → Finds a bs → Finds b bs → Finds a (b ∷ bs)
    by true e of_a of_b =
        let f : Fragment = of_b.found in
        let less : is_less f.key a.key ≡ true = less_after f.key b.key a.key of_b.start (sym e) in
        record {
          found = f;
          is = ap (λ (u : Bool). fold nearer (cond u (Some b) (Some a)) bs) (sym e) ∙ of_b.is;
          start = less_one_way f.key a.key less;
          first = record {
            before = a ∷ of_b.first.before;
            after = of_b.first.after;
            stands = ap (λ (l : List Fragment). a ∷ l) of_b.first.stands;
            greater = All-cons (IsAfter f) a of_b.first.before less of_b.first.greater;
            least = of_b.first.least;
          };
        }
    by false e of_a of_b = record {
      found = of_a.found;
      is = ap (λ (u : Bool). fold nearer (cond u (Some b) (Some a)) bs) (sym e) ∙ of_a.is;
      start = of_a.start;
      first = put_second a b of_a.found bs of_a.first.before of_a.first.after of_a.first.stands of_a.first.greater of_a.first.least (sym e);
    }

pub is_nearest : (fs : List Fragment) → IsNearest fs (nearest fs)
is_nearest [] = refl
is_nearest (a ∷ fs) = let o : Finds a fs = finds a fs in subst (IsNearest (a ∷ fs)) (sym o.is) o.first

pub only_nearest : (fs : List Fragment) (o : Option Fragment) → IsNearest fs o → o ≡ nearest fs
only_nearest fs None none = sym (ap nearest none)
only_nearest fs (Some f) first = sym (first_is_nearest fs f first)

-- ---- the least, where no two have the same key
-- fragments of the list of which neither is less are one
abbrev pub HaveOwnKeys : List Fragment → Type 0
HaveOwnKeys fs = (f g : Fragment) → Contains fs f → Contains fs g → is_less f.key g.key ≡ false → is_less g.key f.key ≡ false → f ≡ g

none_in_empty : (fs : List Fragment) (f : Fragment) → fs ≡ [] → Contains fs f → ⊥
none_in_empty fs f none among = absurd (nothing (subst (λ (l : List Fragment). Contains l f) none among))
  where
    nothing : Contains [] f → ⊥
    nothing (k, within, is) = omega (arith, within)

pub first_is_least : (fs : List Fragment) (f : Fragment) → IsFirstLeast fs f → IsLeast fs f
first_is_least fs f first = record {
  among = subst (λ (l : List Fragment). Contains l f) (sym first.stands) (Contains-append_right first.before (f ∷ first.after) f (0, omega arith, refl));
  least = All-same (IsNotBefore f) fs (first.before ++ f ∷ first.after) first.stands
      (All-append (IsNotBefore f) first.before (f ∷ first.after)
      (All-weaker (IsAfter f) (IsNotBefore f) (λ g h. less_one_way f.key g.key h) first.before first.greater)
      (All-cons (IsNotBefore f) f first.after (less_itself f.key) first.least));
}

pub least_is_nearest : (fs : List Fragment) (f : Fragment) → HaveOwnKeys fs → IsLeast fs f → nearest fs ≡ Some f
least_is_nearest fs f own l = by (nearest fs) (is_nearest fs)
  where
    by : (o : Option Fragment) → IsNearest fs o → o ≡ Some f
    by None none = absurd (none_in_empty fs f none l.among)
    by (Some g) first =
        let m : IsLeast fs g = first_is_least fs g first in
        ap (λ (w : Fragment). Some w) (own g f m.among l.among (All-contains (IsNotBefore f) fs g l.least m.among) (All-contains (IsNotBefore g) fs f m.least l.among))

-- two lists of the same fragments
pub same_nearest : (fs gs : List Fragment) → HaveOwnKeys fs → ((w : Fragment) → Contains fs w → Contains gs w) → ((w : Fragment) → Contains gs w → Contains fs w) → nearest fs ≡ nearest gs
same_nearest fs gs own to back = by (nearest fs) (is_nearest fs) (nearest gs) refl (is_nearest gs)
  where
    by : (o : Option Fragment) → IsNearest fs o → (p : Option Fragment) → p ≡ nearest gs → IsNearest gs p → nearest fs ≡ nearest gs
    by o on (Some g) e first =
        let m : IsLeast gs g = first_is_least gs g first in
        least_is_nearest fs g own (record {
          among = back g m.among;
          least = All-weaker (Contains fs) (IsNotBefore g) (λ w c. All-contains (IsNotBefore g) gs w m.least (to w c)) fs (All-contains_itself fs);
        }) ∙ e
    by None none None e nothing = ap nearest none ∙ sym (ap nearest nothing)
    by (Some f) first None e nothing = absurd (none_in_empty gs f nothing (to f (first_is_least fs f first).among))
