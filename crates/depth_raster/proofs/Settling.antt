-- Pieces drawn together, and then coloured: what is seen is the nearest of their fragments.
use Rattle.std.proofs.Common.{◌≡◌, ℕ, suc, ◌+◌, ◌-◌, ◌<◌, ◌≤◌, Bool, true, false, cond, List, [], ◌∷◌, length, get_or, Option, Some, None, option_map, refl, ap, sym, ◌∙◌, subst, arith, add-zero, zero-add}
use Rattle.std.specs.Prelude.{fold, nat_lt}
use Rattle.std.specs.List.{slice_get, cons_option}
use Rattle.std.specs.Option.{option_map_or}
use Rattle.std.proofs.lemmas.Bool.Decides.{nat_tests}
use Rattle.std.proofs.lemmas.Option.{get_or_from_slice_get, slice_get_within}
use Rattle.fx_math.specs.declared.lenses.Lens.{Lens}
use Rattle.tri_cover.specs.declared.hit.Hit.{Hit}
use Rattle.tri_cover.specs.Hits.{hit}
use Rattle.tri_cover.specs.Picture.{Fragment, is_less, nearer}
use Rattle.depth_raster.specs.declared.faces.Face.{Face}
use Rattle.depth_raster.specs.declared.marks.Mark.{Mark}
use Rattle.depth_raster.specs.declared.pieces.Piece.{Piece}
use Rattle.depth_raster.specs.Faces.{fragment_in, fragment_by}
use Rattle.depth_raster.specs.Marks.{goes_before, lesser, mark_of, mark_with, mark_over, seen_as}
use Rattle.depth_raster.specs.Pieces.{AreRanked, fragments_by, pieces_over, IsColoured}
use Rattle.depth_raster.proofs.Depths.{hit_small}

-- what is seen at a mark of this depth, place and number
abbrev shown : (depth place number : ℕ) → List ℕ → Fragment
shown depth place number colour = record { key = record { depth = depth; place = place; number = number }; colour = colour }

-- against a lesser rank the rank does not count
rank_aside : (d p n r d' p' n' r' : ℕ) → r' ≤ r → goes_before (record { depth = d; place = p; number = n; rank = r }) (record { depth = d'; place = p'; number = n'; rank = r' }) ≡ is_less (record { depth = d; place = p; number = n }) (record { depth = d'; place = p'; number = n' })
rank_aside d p n r d' p' n' r' l = grind (arith, nat_tests)

lower_before : (a b : Mark) → a.depth < b.depth → goes_before a b ≡ true
lower_before a b l = grind (arith, nat_tests)

-- what is nearest after n of the pieces: the first mark, or that of one of them; and what is seen then
data IsPicked (lens : Lens) (px py : ℕ) (ps : List Piece) (m₀ : Mark) (c₀ : List ℕ) (n : ℕ) (m : Mark) (seen : Option Fragment) : Type 0 where
  kept : m ≡ m₀ → seen ≡ seen_as m₀ c₀ → IsPicked lens px py ps m₀ c₀ n m seen
  picked : (k : ℕ) (p : Piece) (h : Hit) → k < n → slice_get ps k ≡ Some p → p.face.rank ≡ k + 1 → hit lens px py [] p.face.tri ≡ Some h
      → m ≡ mark_of p.face h → seen ≡ Some (fragment_in p.face h) → IsPicked lens px py ps m₀ c₀ n m seen

picked_later : (lens : Lens) (px py : ℕ) (ps : List Piece) (m₀ : Mark) (c₀ : List ℕ) (n : ℕ) (m : Mark) (seen : Option Fragment) → IsPicked lens px py ps m₀ c₀ n m seen → IsPicked lens px py ps m₀ c₀ (n + 1) m seen
picked_later lens px py ps m₀ c₀ n m seen (kept e s) = kept e s
picked_later lens px py ps m₀ c₀ n m seen (picked k p h l at r hits e s) = picked k p h (omega (arith, l)) at r hits e s

-- the nearer of what is seen and a fragment, as the marks tell
seen_nearer : (m : Mark) (c : List ℕ) (f : Face) (h : Hit) → m.rank ≤ f.rank → h.depth < 2147483648 → nearer (seen_as m c) (fragment_in f h) ≡ cond (goes_before (mark_of f h) m) (Some (fragment_in f h)) (seen_as m c)
seen_nearer m c f h rank small = by (nat_lt m.depth 2147483648) refl
  where
    g : Fragment
    g = record { key = record { depth = m.depth; place = m.place; number = m.number }; colour = c }

    by : (t : Bool) → t ≡ nat_lt m.depth 2147483648 → nearer (cond t (Some g) None) (fragment_in f h) ≡ cond (goes_before (mark_of f h) m) (Some (fragment_in f h)) (cond t (Some g) None)
    by true e = ap (λ (s : Bool). cond s (Some (fragment_in f h)) (Some g)) (sym (rank_aside (h.depth - f.shift) f.place f.number f.rank m.depth m.place m.number m.rank rank))
    by false e =
        let deep : 2147483648 ≤ m.depth = grind (arith, nat_tests) in
        ap (λ (s : Bool). cond s (Some (fragment_in f h)) None) (sym (lower_before (mark_of f h) m (omega (arith, small, deep))))

one_nearer : (g f : Face) (i h : Hit) → g.rank ≤ f.rank → nearer (Some (fragment_in g i)) (fragment_in f h) ≡ cond (goes_before (mark_of f h) (mark_of g i)) (Some (fragment_in f h)) (Some (fragment_in g i))
one_nearer g f i h rank = ap (λ (s : Bool). cond s (Some (fragment_in f h)) (Some (fragment_in g i))) (sym (rank_aside (h.depth - f.shift) f.place f.number f.rank (i.depth - g.shift) g.place g.number g.rank rank))

module _ (lens : Lens) (px py : ℕ) (ps : List Piece) (m₀ : Mark) (c₀ : List ℕ) (unranked : m₀.rank ≡ 0) where
  -- a piece more that hits
  hit_more : (n : ℕ) (m : Mark) (seen : Option Fragment) (p : Piece) (h : Hit) → IsPicked lens px py ps m₀ c₀ n m seen → slice_get ps n ≡ Some p → p.face.rank ≡ n + 1 → hit lens px py [] p.face.tri ≡ Some h →
      IsPicked lens px py ps m₀ c₀ (n + 1) (lesser m (mark_of p.face h)) (nearer seen (fragment_in p.face h))
  hit_more n m seen p h so_far at rank hits = by (goes_before (mark_of p.face h) m) refl
    where
      won : nearer seen (fragment_in p.face h) ≡ cond (goes_before (mark_of p.face h) m) (Some (fragment_in p.face h)) seen
      won = elim so_far [
        | kept e s ↦
            ap (λ (o : Option Fragment). nearer o (fragment_in p.face h)) s
            ∙ seen_nearer m₀ c₀ p.face h (omega (arith, unranked)) (hit_small lens px py [] p.face.tri h hits)
            ∙ ap (λ (n : Mark). cond (goes_before (mark_of p.face h) n) (Some (fragment_in p.face h)) (seen_as m₀ c₀)) (sym e)
            ∙ ap (λ (o : Option Fragment). cond (goes_before (mark_of p.face h) m) (Some (fragment_in p.face h)) o) (sym s)
        | picked k q i l there r its e s ↦
            ap (λ (o : Option Fragment). nearer o (fragment_in p.face h)) s
            ∙ one_nearer q.face p.face i h (omega (arith, rank, r, l))
            ∙ ap (λ (n : Mark). cond (goes_before (mark_of p.face h) n) (Some (fragment_in p.face h)) (Some (fragment_in q.face i))) (sym e)
            ∙ ap (λ (o : Option Fragment). cond (goes_before (mark_of p.face h) m) (Some (fragment_in p.face h)) o) (sym s)
      ]

      by : (t : Bool) → t ≡ goes_before (mark_of p.face h) m → IsPicked lens px py ps m₀ c₀ (n + 1) (lesser m (mark_of p.face h)) (nearer seen (fragment_in p.face h))
      by true e =
          let first : lesser m (mark_of p.face h) ≡ mark_of p.face h = ap (λ (s : Bool). cond s (mark_of p.face h) m) (sym e) in
          picked n p h (omega arith) at rank hits first (won ∙ ap (λ (s : Bool). cond s (Some (fragment_in p.face h)) seen) (sym e))
      by false e =
          let first : lesser m (mark_of p.face h) ≡ m = ap (λ (s : Bool). cond s (mark_of p.face h) m) (sym e) in
          let same : nearer seen (fragment_in p.face h) ≡ seen = won ∙ ap (λ (s : Bool). cond s (Some (fragment_in p.face h)) seen) (sym e) in
          subst (λ (n' : Mark). IsPicked lens px py ps m₀ c₀ (n + 1) n' (nearer seen (fragment_in p.face h))) (sym first)
          (subst (λ (o : Option Fragment). IsPicked lens px py ps m₀ c₀ (n + 1) m o) (sym same) (picked_later lens px py ps m₀ c₀ n m seen so_far))

  -- a piece more
  piece_more : (n : ℕ) (m : Mark) (seen : Option Fragment) (p : Piece) → IsPicked lens px py ps m₀ c₀ n m seen → slice_get ps n ≡ Some p → p.face.rank ≡ n + 1 →
      IsPicked lens px py ps m₀ c₀ (n + 1) (mark_over lens px py p.face m) (option_map_or (nearer seen) (fragment_by lens px py p.face) seen)
  unfolding mark_over fragment_by
  piece_more n m seen p so_far at rank = by (hit lens px py [] p.face.tri) refl
    where
      by : (o : Option Hit) → hit lens px py [] p.face.tri ≡ o → IsPicked lens px py ps m₀ c₀ (n + 1) (mark_with m (option_map (mark_of p.face) o)) (option_map_or (nearer seen) (option_map (fragment_in p.face) o) seen)
      by None e = picked_later lens px py ps m₀ c₀ n m seen so_far
      by (Some h) e = hit_more n m seen p h so_far at rank e

  -- the pieces from the n-th on
  record AreFrom (n : ℕ) (xs : List Piece) : Type 0 where
    at : (i : ℕ) (p : Piece) → slice_get xs i ≡ Some p → slice_get ps (n + i) ≡ Some p
    rank : (i : ℕ) (p : Piece) → slice_get xs i ≡ Some p → p.face.rank ≡ n + i + 1

  from_next : (n : ℕ) (x : Piece) (xs : List Piece) → AreFrom n (x ∷ xs) → AreFrom (n + 1) xs
  from_next n x xs are = record {
    at = λ i p h. let place : n + suc i ≡ n + 1 + i = omega arith in subst (λ (j : ℕ). slice_get ps j ≡ Some p) place (are.at (suc i) p h);
    rank = λ i p h. omega (arith, are.rank (suc i) p h);
  }

  fold_first : (seen : Option Fragment) (o : Option Fragment) (fs : List Fragment) → fold nearer seen (cons_option o fs) ≡ fold nearer (option_map_or (nearer seen) o seen) fs
  fold_first seen None fs = refl
  fold_first seen (Some f) fs = refl

  pieces_more : (n : ℕ) (m : Mark) (seen : Option Fragment) (xs : List Piece) → AreFrom n xs → IsPicked lens px py ps m₀ c₀ n m seen →
      IsPicked lens px py ps m₀ c₀ (n + length xs) (pieces_over lens xs px py m) (fold nearer seen (fragments_by lens px py xs))
  pieces_more n m seen [] are so_far = subst (λ (j : ℕ). IsPicked lens px py ps m₀ c₀ j m seen) (omega arith) so_far
  pieces_more n m seen (x ∷ xs) are so_far =
      let here : slice_get ps n ≡ Some x = subst (λ (j : ℕ). slice_get ps j ≡ Some x) (add-zero n) (are.at 0 x refl) in
      let rank : x.face.rank ≡ n + 1 = omega (arith, are.rank 0 x refl) in
      let next = piece_more n m seen x so_far here rank in
      let rest = pieces_more (n + 1) (mark_over lens px py x.face m) (option_map_or (nearer seen) (fragment_by lens px py x.face) seen) xs (from_next n x xs are) next in
      let long : n + 1 + length xs ≡ n + suc (length xs) = omega arith in
      subst (λ (j : ℕ). IsPicked lens px py ps m₀ c₀ j (pieces_over lens (x ∷ xs) px py m) (fold nearer seen (fragments_by lens px py (x ∷ xs)))) long
      (subst (λ (o : Option Fragment). IsPicked lens px py ps m₀ c₀ (n + 1 + length xs) (pieces_over lens (x ∷ xs) px py m) o)
      (sym (fold_first seen (fragment_by lens px py x.face) (fragments_by lens px py xs))) rest)

  all_picked : AreRanked ps → IsPicked lens px py ps m₀ c₀ (length ps) (pieces_over lens ps px py m₀) (fold nearer (seen_as m₀ c₀) (fragments_by lens px py ps))
  all_picked ranks = subst (λ (n : ℕ). IsPicked lens px py ps m₀ c₀ n (pieces_over lens ps px py m₀) (fold nearer (seen_as m₀ c₀) (fragments_by lens px py ps))) (zero-add (length ps)) (pieces_more 0 m₀ (seen_as m₀ c₀) ps from (kept refl refl))
    where
      from : AreFrom 0 ps
      from = record {
        at = λ i p h. subst (λ (j : ℕ). slice_get ps j ≡ Some p) (sym (zero-add i)) h;
        rank = λ i p h. let same : get_or ps i p ≡ p = get_or_from_slice_get ps i p p h in omega (arith, ap (λ (q : Piece). q.face.rank) same, ranks i p (slice_get_within ps i p h));
      }

  -- the colours
  picked_seen : (back c : List ℕ) (n : ℕ) (m : Mark) (seen : Option Fragment) → IsPicked lens px py ps m₀ c₀ n m seen → IsColoured lens px py back ps m c₀ c → seen_as m c ≡ seen
  picked_seen back c n m seen (kept e s) is = ap (λ (n : Mark). seen_as n c) e ∙ by (nat_lt m₀.depth 2147483648) refl ∙ sym s
    where
      by : (t : Bool) → t ≡ nat_lt m₀.depth 2147483648 → cond t (Some (shown m₀.depth m₀.place m₀.number c)) None ≡ cond t (Some (shown m₀.depth m₀.place m₀.number c₀)) None
      by true below =
          let same : c ≡ c₀ = is.old (ap (λ (n : Mark). n.rank) e ∙ unranked) ∙ ap (λ (n : Mark). cond (nat_lt n.depth 2147483648) c₀ back) e ∙ ap (λ (s : Bool). cond s c₀ back) (sym below) in
          ap (λ (d : List ℕ). Some (shown m₀.depth m₀.place m₀.number d)) same
      by false below = refl
  picked_seen back c n m seen (picked k p h l at r hits e s) is =
      let below : nat_lt (h.depth - p.face.shift) 2147483648 ≡ true = let b = hit_small lens px py [] p.face.tri h hits in grind (arith, nat_tests) in
      let same : c ≡ h.colour = is.fresh k p h (ap (λ (n : Mark). n.rank) e ∙ r) at hits in
      ap (λ (n : Mark). seen_as n c) e
      ∙ ap (λ (t : Bool). cond t (Some (shown (h.depth - p.face.shift) p.face.place p.face.number c)) None) below
      ∙ ap (λ (d : List ℕ). Some (shown (h.depth - p.face.shift) p.face.place p.face.number d)) same
      ∙ sym s

  -- what is seen after pieces are drawn over marks of no rank, and coloured
  pub pieces_seen : (back c : List ℕ) → AreRanked ps → IsColoured lens px py back ps (pieces_over lens ps px py m₀) c₀ c →
      seen_as (pieces_over lens ps px py m₀) c ≡ fold nearer (seen_as m₀ c₀) (fragments_by lens px py ps)
  pieces_seen back c ranks is =
      picked_seen back c (length ps) (pieces_over lens ps px py m₀) (fold nearer (seen_as m₀ c₀) (fragments_by lens px py ps)) (all_picked ranks) is

  picked_blank : (back c : List ℕ) (n : ℕ) (m : Mark) (seen : Option Fragment) → IsPicked lens px py ps m₀ c₀ n m seen → IsColoured lens px py back ps m c₀ c → seen ≡ None → c ≡ back
  picked_blank back c n m seen (kept e s) is none =
      is.old (ap (λ (n : Mark). n.rank) e ∙ unranked) ∙ ap (λ (n : Mark). cond (nat_lt n.depth 2147483648) c₀ back) e ∙ by (nat_lt m₀.depth 2147483648) (sym s ∙ none)
    where
      by : (t : Bool) → cond t (Some (shown m₀.depth m₀.place m₀.number c₀)) None ≡ None → cond t c₀ back ≡ back
      by true h = cc
      by false h = refl
  picked_blank back c n m seen (picked k p h l at r hits e s) is none = let some = sym s ∙ none in cc

  -- where nothing is seen then, the colour is the background's
  pub pieces_blank : (back c : List ℕ) → AreRanked ps → IsColoured lens px py back ps (pieces_over lens ps px py m₀) c₀ c →
      fold nearer (seen_as m₀ c₀) (fragments_by lens px py ps) ≡ None → c ≡ back
  pieces_blank back c ranks is none =
      picked_blank back c (length ps) (pieces_over lens ps px py m₀) (fold nearer (seen_as m₀ c₀) (fragments_by lens px py ps)) (all_picked ranks) is none
