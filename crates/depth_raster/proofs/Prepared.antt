-- Triangles that wait, and become pieces at the eye: what is seen stays.
use Rattle.std.proofs.Common.{◌≡◌, ℕ, zero, suc, ◌+◌, ◌-◌, ◌<◌, ◌≤◌, Bool, List, [], ◌∷◌, ◌++◌, length, length-append, take, set, get_or, get_or-set_same, get_or-set_other, Option, option_map, refl, ap, sym, ◌∙◌, subst, arith, ⊎_elim}
use Rattle.std.specs.Prelude.{All, fold}
use Rattle.std.specs.List.{cons_option}
use Rattle.std.proofs.lemmas.Bool.{cases_eq, cases_lt}
use Rattle.std.proofs.lemmas.List.{get_or_append_left, get_or-append-add}
use Rattle.std.proofs.Math.Seq.{take-append_seam, take-append-add}
use Rattle.std.proofs.lemmas.List.Elements.{All-append, filter_map-append}
use Rattle.std.proofs.lemmas.List.Sums.{fold-append}
use Rattle.fx_math.specs.declared.lenses.Lens.{Lens}
use Rattle.tri_cover.specs.Hits.{hit}
use Rattle.tri_cover.specs.Picture.{Fragment, nearer}
use Rattle.draw_list.specs.Joints.{steps_at}
use Rattle.draw_list.specs.Lists.{Drawables}
use Rattle.depth_raster.specs.Canvas.{seen_from, drawn_with, drawn_after}
use Rattle.depth_raster.specs.Faces.{fragment_in, fragment_by, fragment_after}
use Rattle.depth_raster.specs.Pieces.{IsPieceOf, IsThere, AreThere, IsPrepared, ArePrepared, AreAppended, AreGathered, AreRanked, fragments_by, fragment_waiting, fragments_waiting}
use Rattle.depth_raster.specs.declared.faces.Face.{Face}
use Rattle.depth_raster.specs.declared.pieces.Piece.{Piece}
use Rattle.depth_raster.specs.declared.strip.Strip.{Strip}
use Rattle.depth_raster.specs.declared.waiting.Waiting.{Waiting}
use Rattle.depth_raster.proofs.Items.{waiting_is}

-- ---- what prepared pieces show
prepared_fragment : (d : Drawables) (lens : Lens) (w : Waiting) (p : Piece) (px py : ℕ) → IsPrepared d lens w p → fragment_by lens px py p.face ≡ fragment_waiting d lens w.item w.number px py
unfolding fragment_by fragment_after
prepared_fragment d lens w p px py is =
    let i = is.there.its_item in
    let t = is.there.its_tri in
    ap (option_map (fragment_in p.face)) (is.hits lens px py)
    ∙ ap (λ (f : Face). option_map (fragment_in f) (hit lens px py (steps_at d.joints.lists i.joint) t)) is.face
    ∙ sym (waiting_is d lens w.item w.number i t px py is.there.item_is is.there.tri_is)

prepared_fragments : (d : Drawables) (lens : Lens) (ws : List Waiting) (ps : List Piece) (px py : ℕ) → length ps ≡ length ws → ArePrepared d lens ws ps → fragments_by lens px py ps ≡ fragments_waiting d lens px py ws
unfolding ArePrepared
prepared_fragments d lens [] [] px py long are = refl
prepared_fragments d lens [] (p ∷ ps) px py long are = absurd (omega (arith, long))
prepared_fragments d lens (w ∷ ws) [] px py long are = absurd (omega (arith, long))
prepared_fragments d lens (w ∷ ws) (p ∷ ps) px py long are =
    ap (λ (o : Option Fragment). cons_option o (fragments_by lens px py ps)) (prepared_fragment d lens w p px py (are 0 w p (omega arith)))
    ∙ ap (λ (fs : List Fragment). cons_option (fragment_waiting d lens w.item w.number px py) fs)
    (prepared_fragments d lens ws ps px py (omega (arith, long)) (λ i v e l. are (suc i) v e (omega (arith, l))))

-- once triangles have become pieces, what is drawn by these is what was to come of them
pub drawn_appended : (d : Drawables) (lens : Lens) (first : Bool) (strips : List Strip) (ws : List Waiting) (before after : List Piece) (px py : ℕ) → AreAppended d lens ws before after → drawn_with lens first strips after px py ≡ drawn_after d lens first strips before ws px py
drawn_appended d lens first strips ws before after px py are =
    let seen : Option Fragment = seen_from first strips px py in
    ap (λ (ps : List Piece). drawn_with lens first strips ps px py) are.pieces
    ∙ ap (fold nearer seen) (filter_map-append (λ (p : Piece). fragment_by lens px py p.face) before are.fresh)
    ∙ fold-append nearer seen (fragments_by lens px py before) (fragments_by lens px py are.fresh)
    ∙ ap (fold nearer (drawn_with lens first strips before px py)) (prepared_fragments d lens ws are.fresh px py are.count are.prepared)

-- some element of a list that has some
pub some_of : {X : Type 0} (xs : List X) (i : ℕ) → i < length xs → X
some_of [] i l = absurd (omega (arith, l))
some_of (x ∷ xs) i l = x

pub appended_ready : (d : Drawables) (lens : Lens) (ws : List Waiting) (before after : List Piece) → AreAppended d lens ws before after → All (IsPieceOf lens) before → All (IsPieceOf lens) after
unfolding ArePrepared
appended_ready d lens ws before after are ready =
    subst (λ (ps : List Piece). All (IsPieceOf lens) ps) (sym are.pieces)
    (All-append (IsPieceOf lens) before are.fresh ready
    (λ i e l. let below : i < length ws = omega (arith, l, are.count) in (are.prepared i (some_of ws i below) e below).ready))

pub appended_ranked : (d : Drawables) (lens : Lens) (ws : List Waiting) (before after : List Piece) → AreAppended d lens ws before after → AreGathered d lens before ws → AreRanked before → AreRanked after
unfolding ArePrepared
appended_ranked d lens ws before after are gathered ranked =
    subst (λ (ps : List Piece). AreRanked ps) (sym are.pieces)
    (λ k e l. ⊎_elim
    (λ first. ap (λ (p : Piece). p.face.rank) (get_or_append_left before are.fresh e k first) ∙ ranked k e first)
    (λ later.
    let i : ℕ = k - length before in
    let at : k ≡ length before + i = omega (arith, later) in
    let below : i < length ws = omega (arith, l, at, length-append before are.fresh, are.count) in
    let v = some_of ws i below in
    ap (λ (m : ℕ). (get_or (before ++ are.fresh) m e).face.rank) at
    ∙ ap (λ (p : Piece). p.face.rank) (get_or-append-add before are.fresh i e)
    ∙ ap (λ (f : Face). f.rank) (are.prepared i v e below).face
    ∙ gathered.ranks i v below
    ∙ omega (arith, at))
    (cases_lt k (length before)))

-- no pieces are ready
pub none_ready : (lens : Lens) (ps : List Piece) → ps ≡ [] → All (IsPieceOf lens) ps
none_ready lens ps empty = subst (λ (qs : List Piece). All (IsPieceOf lens) qs) (sym empty) (λ i v l. absurd (omega (arith, l)))

-- ---- pieces in memory that is kept
pub first_part : (n : ℕ) (ps rest : List Piece) → length ps ≡ n → take n (ps ++ rest) ≡ ps
first_part n ps rest long = ap (λ (m : ℕ). take m (ps ++ rest)) (sym long) ∙ take-append_seam ps rest

pub two_parts : (n : ℕ) (ps qs rest : List Piece) → length ps + length qs ≡ n → take n (ps ++ (qs ++ rest)) ≡ ps ++ qs
two_parts n ps qs rest long =
    ap (λ (m : ℕ). take m (ps ++ (qs ++ rest))) (sym long)
    ∙ take-append-add ps (qs ++ rest) (length qs)
    ∙ ap (λ (rs : List Piece). ps ++ rs) (take-append_seam qs rest)

-- a triangle that waits, in place of one that a list lacks
abbrev pub no_waiting : Waiting
no_waiting = record { item = 0; number = 0; rank = 0 }

-- ---- pieces of triangles that waited, one after the other and in two parts
pub prepared_more : (d : Drawables) (lens : Lens) (ws : List Waiting) (ps : List Piece) (n : ℕ) (p : Piece) → n < length ps → ((v : Waiting) → IsPrepared d lens (get_or ws n v) p)
    → ((i : ℕ) (v : Waiting) (e : Piece) → i < n → IsPrepared d lens (get_or ws i v) (get_or ps i e)) → (i : ℕ) (v : Waiting) (e : Piece) → i < n + 1 → IsPrepared d lens (get_or ws i v) (get_or (set ps n p) i e)
prepared_more d lens ws ps n p below here so_far i v e l = ⊎_elim
    (λ same.
    subst (λ (k : ℕ). IsPrepared d lens (get_or ws k v) (get_or (set ps n p) k e)) (sym same)
    (subst (λ (q : Piece). IsPrepared d lens (get_or ws n v) q) (sym (get_or-set_same ps n p e below)) (here v)))
    (λ apart. subst (λ (q : Piece). IsPrepared d lens (get_or ws i v) q) (sym (get_or-set_other ps n i p e apart)) (so_far i v e (omega (arith, apart, l))))
    (cases_eq i n)

pub prepared_all : (d : Drawables) (lens : Lens) (ws : List Waiting) (ps : List Piece) (n : ℕ) → length ws ≤ n → ((i : ℕ) (v : Waiting) (e : Piece) → i < n → IsPrepared d lens (get_or ws i v) (get_or ps i e)) → ArePrepared d lens ws ps
unfolding ArePrepared
prepared_all d lens ws ps n all so_far i v e l = so_far i v e (omega (arith, l, all))

one_prepared : (d : Drawables) (lens : Lens) (w : Waiting) (p : Piece) (ws : List Waiting) (ps : List Piece) → IsPrepared d lens w p → ArePrepared d lens ws ps → ArePrepared d lens (w ∷ ws) (p ∷ ps)
unfolding ArePrepared
one_prepared d lens w p ws ps here rest zero v e l = here
one_prepared d lens w p ws ps here rest (suc i) v e l = rest i v e (omega (arith, l))

pub parts_prepared : (d : Drawables) (lens : Lens) (vs : List Waiting) (ps : List Piece) (ws : List Waiting) (qs : List Piece) → length ps ≡ length vs → ArePrepared d lens vs ps → ArePrepared d lens ws qs → ArePrepared d lens (vs ++ ws) (ps ++ qs)
unfolding ArePrepared
parts_prepared d lens [] [] ws qs long front rest = rest
parts_prepared d lens [] (p ∷ ps) ws qs long front rest = absurd (omega (arith, long))
parts_prepared d lens (c ∷ vs) [] ws qs long front rest = absurd (omega (arith, long))
parts_prepared d lens (c ∷ vs) (p ∷ ps) ws qs long front rest =
    one_prepared d lens c p (vs ++ ws) (ps ++ qs) (front 0 c p (omega arith))
    (parts_prepared d lens vs ps ws qs (omega (arith, long)) (λ i v e l. front (suc i) v e (omega (arith, l))) rest)

-- ---- triangles that wait
pub none_gathered : (d : Drawables) (lens : Lens) (ps : List Piece) (ws : List Waiting) → length ps ≤ 16384 → All (IsPieceOf lens) ps → ws ≡ [] → AreGathered d lens ps ws
none_gathered d lens ps ws few ready empty =
    subst (λ (vs : List Waiting). AreGathered d lens ps vs) (sym empty)
    (record { few = omega (arith, few); ready = ready; there = λ i v l. absurd (omega (arith, l)); ranks = λ k v l. absurd (omega (arith, l)) })

pub gathered_more : (d : Drawables) (lens : Lens) (ps : List Piece) (ws : List Waiting) (w : Waiting) → length ps + length ws < 16384 → IsThere d w.item w.number → w.rank ≡ length ps + length ws + 1 → AreGathered d lens ps ws → AreGathered d lens ps (ws ++ w ∷ [])
gathered_more d lens ps ws w room there rank are = record {
  few = omega (arith, room, length-append ws (w ∷ []));
  ready = are.ready;
  there = All-append (λ (v : Waiting). IsThere d v.item v.number) ws (w ∷ []) are.there one_there;
  ranks = λ k v l. ⊎_elim
      (λ first. ap (λ (u : Waiting). u.rank) (get_or_append_left ws (w ∷ []) v k first) ∙ are.ranks k v first)
      (λ later.
      let at : k ≡ length ws + 0 = omega (arith, later, l, length-append ws (w ∷ [])) in
      ap (λ (m : ℕ). (get_or (ws ++ w ∷ []) m v).rank) at
      ∙ ap (λ (u : Waiting). u.rank) (get_or-append-add ws (w ∷ []) 0 v)
      ∙ rank
      ∙ omega (arith, at))
      (cases_lt k (length ws));
}
  where
    one_there : AreThere d (w ∷ [])
    one_there zero v l = there
    one_there (suc i) v l = absurd (omega (arith, l))
