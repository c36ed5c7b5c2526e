-- What the loops over edits and over deleted nodes keep.
use Rattle.std.proofs.Common.{◌≡◌, ◌≢◌, ℕ, suc, ◌+◌, ◌<◌, ◌≤◌, Bool, true, false, cond, ◌&&◌, ◌||◌, nat_eq, List, [], ◌∷◌, ◌++◌, map, length, take, drop, get_or, Option, Some, None, refl, sym, ◌∙◌, ap, subst, arith, add-one}
use Rattle.std.proofs.Math.Seq.{drop-cons, take-suc}
use Rattle.std.proofs.lemmas.Bool.Decides.{nat_tests}
use Rattle.std.proofs.lemmas.List.{map-append, drop_all}
use Rattle.std.specs.List.{list_all, list_any}
use Rattle.std.specs.Option.{option_map}
use Rattle.pf_model.specs.declared.nodes.Node.{Node}
use Rattle.pf_model.specs.declared.nodes.Gone.{Gone}
use Rattle.pf_model.specs.declared.edits.Edit.{Edit}
use Rattle.pf_model.specs.declared.edits.Edit.TheVariants as edit
use Rattle.pf_model.specs.Fits.{fits}
use Rattle.pf_model.specs.Kinds.{is_geode}
use Rattle.pf_model.specs.Graphs.{SceneGraph, node_at}
use Rattle.pf_model.specs.Limits.{IsGraphWithinLimits}
use Rattle.pf_model.specs.Copies.{named_by, put_all, put_in}
use Rattle.update_lists.specs.Marks.{among}
use Rattle.update_lists.specs.Taking.{IsWritten, geode_serial}
use Rattle.update_lists.proofs.Rising.{put_all_push}
use Rattle.pf_scene.specs.Stock.{Written, serial_after, serial_behind, HasCycle, HaveCycles, IsSized}
use Rattle.pf_scene.proofs.Serials.{same_node}

-- One more element

pub rest_at : {X : Type 0} (xs : List X) (i : ℕ) (x : X) → i < length xs → x ≡ get_or xs i x → drop i xs ≡ x ∷ drop (i + 1) xs
rest_at {X} xs i x l is = drop-cons xs i x l ∙ ap (λ (y : X). y ∷ drop (suc i) xs) (sym is) ∙ ap (λ (n : ℕ). x ∷ drop n xs) (sym (add-one i))

pub front_at : {X : Type 0} (xs : List X) (i : ℕ) (x : X) → i < length xs → x ≡ get_or xs i x → take (i + 1) xs ≡ take i xs ++ x ∷ []
front_at {X} xs i x l is = ap (λ (n : ℕ). take n xs) (add-one i) ∙ take-suc xs i x l ∙ ap (λ (y : X). take i xs ++ y ∷ []) (sym is)

pub named_more : (es : List Edit) (i : ℕ) (e : Edit) → i < length es → e ≡ get_or es i e → map named_by (take (i + 1) es) ≡ map named_by (take i es) ++ named_by e ∷ []
named_more es i e l is = ap (map named_by) (front_at es i e l is) ∙ map-append named_by (take i es) (e ∷ [])

pub marked_more : (es : List Edit) (i : ℕ) (e : Edit) (ids : List ℕ) → i < length es → e ≡ get_or es i e → put_in (named_by e) (put_all (map named_by (take i es)) ids) ≡ put_all (map named_by (take (i + 1) es)) ids
marked_more es i e ids l is = sym (put_all_push (map named_by (take i es)) ids (named_by e)) ∙ ap (λ (ns : List ℕ). put_all ns ids) (sym (named_more es i e l is))

-- Cycles that are made

-- Of the first i edits, each geode has its cycle: where the others get theirs too, and these stay, all have one.
pub record IsPreparing (v w : Written) (first serial : ℕ) (es : List Edit) (i : ℕ) : Type 0 where
  pub made : (u : Written) → ((s : ℕ) → s < serial → u s ≡ w s) → HaveCycles u serial (drop i es) → HaveCycles u first es
  pub above : (s : ℕ) → serial ≤ s → w s ≡ None
  pub below : (s : ℕ) → s < first → w s ≡ v s
  pub behind : serial_behind serial (drop i es) ≡ serial_behind first es
  pub order : first ≤ serial
  pub bound : serial ≤ first + i
  pub fit : list_all fits (drop i es) ≡ true

pub behind_more : (serial : ℕ) (es : List Edit) → serial ≤ serial_behind serial es
behind_more serial [] = omega arith
behind_more serial (e ∷ es) = let one = after_more serial e in let rest = behind_more (serial_after serial e) es in omega (arith, one, rest)
  where
    after_more : (serial : ℕ) (e : Edit) → serial ≤ serial_after serial e
    after_more serial (edit.Make id kind) = omega arith
    after_more serial e = omega arith

first_half : (p q : Bool) → (p && q) ≡ true → p ≡ true
first_half true q h = refl
first_half false q h = absurd (cc)

second_half : (p q : Bool) → (p && q) ≡ true → q ≡ true
second_half true q h = h
second_half false q h = absurd (cc)

pub fits_here : (es : List Edit) (i : ℕ) (e : Edit) → i < length es → e ≡ get_or es i e → list_all fits (drop i es) ≡ true → fits e ≡ true
fits_here es i e l is h = first_half (fits e) (list_all fits (drop (i + 1) es)) (subst (λ (xs : List Edit). list_all fits xs ≡ true) (rest_at es i e l is) h)

pub preparing_more : (v w x : Written) (first serial : ℕ) (es : List Edit) (i : ℕ) (e : Edit) → i < length es → e ≡ get_or es i e → IsPreparing v w first serial es i
    → HasCycle x serial e → ((s : ℕ) → s ≢ serial → x s ≡ w s) → (serial_after serial e ≡ serial → (s : ℕ) → x s ≡ w s)
    → IsPreparing v x first (serial_after serial e) es (i + 1)
preparing_more v w x first serial es i e l is p cycle others same = record {
  made = λ u agree cycles. p.made u (λ s k. agree s (low e s k) ∙ others s (λ q. absurd (omega arith)))
      (subst (λ (xs : List Edit). HaveCycles u serial xs) (sym (rest_at es i e l is)) (here u agree, cycles));
  above = λ s k. over e same s k;
  below = λ s k. let o = p.order in others s (λ q. absurd (omega (arith, o))) ∙ p.below s k;
  behind = ap (λ (xs : List Edit). serial_behind serial xs) (sym (rest_at es i e l is)) ∙ p.behind;
  order = let o = p.order in let m = more e in omega (arith, o, m);
  bound = let b = p.bound in let m = most e in omega (arith, b, m);
  fit = second_half (fits e) (list_all fits (drop (i + 1) es)) (subst (λ (xs : List Edit). list_all fits xs ≡ true) (rest_at es i e l is) p.fit);
}
  where
    low : (e : Edit) (s : ℕ) → s < serial → s < serial_after serial e
    low (edit.Make id kind) s k = omega arith
    low e s k = k

    more : (e : Edit) → serial ≤ serial_after serial e
    more (edit.Make id kind) = omega arith
    more e = omega arith

    most : (e : Edit) → serial_after serial e ≤ serial + 1
    most (edit.Make id kind) = omega arith
    most e = omega arith

    there : (e : Edit) (u : Written) → ((s : ℕ) → s < serial_after serial e → u s ≡ x s) → HasCycle x serial e → HasCycle u serial e
    there (edit.Make id kind) u agree h = agree serial (omega arith) ∙ h
    there e u agree h = h

    here : (u : Written) → ((s : ℕ) → s < serial_after serial e → u s ≡ x s) → HasCycle u serial e
    here u agree = there e u agree cycle

    over : (e : Edit) → (serial_after serial e ≡ serial → (s : ℕ) → x s ≡ w s) → (s : ℕ) → serial_after serial e ≤ s → x s ≡ None
    over (edit.Make id kind) stays s k = others s (λ q. absurd (omega arith)) ∙ p.above s (omega arith)
    over e stays s k = stays refl s ∙ p.above s k

-- Geodes that are written

-- The geodes of these ids are written, and what was written of others is.
pub record IsSettling (v w : Written) (g : SceneGraph) (named : List ℕ) : Type 0 where
  pub named_are : (id : ℕ) → among id named ≡ true → IsWritten w (node_at g.nodes id)
  pub kept : (id : ℕ) → IsWritten v (node_at g.nodes id) → IsWritten w (node_at g.nodes id)
  pub lengths : (s : ℕ) → option_map length (w s) ≡ option_map length (v s)

pub settling_none : (v : Written) (g : SceneGraph) → IsSettling v v g []
settling_none v g = record { named_are = λ id h. absurd (cc); kept = λ id h. h; lengths = λ s. refl }

pub still_sized : (v w : Written) (o : Option Node) → ((s : ℕ) → option_map length (w s) ≡ option_map length (v s)) → IsSized v o → IsSized w o
still_sized v w None same h = tt
still_sized v w (Some n) same h = λ geode. same n.serial ∙ h geode

-- a node that is written stays so, where one more is
stays : (w x : Written) (g : SceneGraph) (at : ℕ) → IsGraphWithinLimits g → IsWritten x (node_at g.nodes at) → ((s : ℕ) → among s (geode_serial (node_at g.nodes at)) ≡ false → x s ≡ w s)
    → (id : ℕ) → IsWritten w (node_at g.nodes id) → IsWritten x (node_at g.nodes id)
stays w x g at within new others id old = by (node_at g.nodes id) refl (node_at g.nodes at) refl old new others
  where
    unequal : (a b : ℕ) → nat_eq a b ≡ false → (nat_eq a b || false) ≡ false
    unequal a b h = ap (λ t. t || false) h

    equal : (a b : ℕ) → nat_eq a b ≡ true → a ≡ b
    equal a b h = grind (arith, nat_tests)

    none_in : (s : ℕ) (m : Node) (t : Bool) → is_geode m.kind ≡ t → nat_eq s m.serial ≡ false → among s (cond t (m.serial ∷ []) []) ≡ false
    none_in s m true is h = unequal s m.serial h
    none_in s m false is h = refl

    by : (o : Option Node) → node_at g.nodes id ≡ o → (p : Option Node) → node_at g.nodes at ≡ p → IsWritten w o → IsWritten x p → ((s : ℕ) → among s (geode_serial p) ≡ false → x s ≡ w s) → IsWritten x o
    by None is p js old new others = tt
    by (Some n) is None js old new others = λ geode. others n.serial refl ∙ old geode
    by (Some n) is (Some m) js old new others = one (nat_eq n.serial m.serial) refl
      where
        one : (t : Bool) → nat_eq n.serial m.serial ≡ t → IsWritten x (Some n)
        one true e =
            let same : m ≡ n = same_node g.nodes within.serials_differ at id m n js is (sym (equal n.serial m.serial e)) in
            subst (λ (k : Node). IsWritten x (Some k)) same new
        one false e = λ geode. others n.serial (none_in n.serial m (is_geode m.kind) refl e) ∙ old geode

pub settling_more : (v w x : Written) (g : SceneGraph) (named : List ℕ) (at : ℕ) → IsGraphWithinLimits g → IsSettling v w g named
    → IsWritten x (node_at g.nodes at) → ((s : ℕ) → among s (geode_serial (node_at g.nodes at)) ≡ false → x s ≡ w s)
    → ((s : ℕ) → option_map length (x s) ≡ option_map length (w s)) → IsSettling v x g (named ++ at ∷ [])
settling_more v w x g named at within settling new others lengths = record {
  named_are = λ id h. one id (list_any (nat_eq id) named) refl (nat_eq id at) refl (sym (last id named) ∙ h);
  kept = λ id h. stays w x g at within new others id (settling.kept id h);
  lengths = λ s. lengths s ∙ settling.lengths s;
}
  where
    last : (id : ℕ) (ids : List ℕ) → among id (ids ++ at ∷ []) ≡ (among id ids || nat_eq id at)
    last id [] = or_none (nat_eq id at)
      where
        or_none : (t : Bool) → (t || false) ≡ t
        or_none true = refl
        or_none false = refl
    last id (y ∷ ys) = by (nat_eq id y) (last id ys)
      where
        by : (t : Bool) → among id (ys ++ at ∷ []) ≡ (among id ys || nat_eq id at) → (t || among id (ys ++ at ∷ [])) ≡ ((t || among id ys) || nat_eq id at)
        by true h = refl
        by false h = h

    equal : (a b : ℕ) → nat_eq a b ≡ true → a ≡ b
    equal a b h = grind (arith, nat_tests)

    one : (id : ℕ) (s : Bool) → among id named ≡ s → (t : Bool) → nat_eq id at ≡ t → (s || t) ≡ true → IsWritten x (node_at g.nodes id)
    one id true e t f h = stays w x g at within new others id (settling.named_are id e)
    one id false e true f h = subst (λ (k : ℕ). IsWritten x (node_at g.nodes k)) (sym (equal id at f)) new
    one id false e false f h = absurd (cc)

-- Cycles that go

-- The cycles of these deleted nodes are dropped, and no others.
pub record IsForgetting (v w : Written) (gone : List Gone) : Type 0 where
  pub others : (s : ℕ) → among s (map (λ (x : Gone). x.serial) gone) ≡ false → w s ≡ v s
  pub dropped : (s : ℕ) → among s (map (λ (x : Gone). x.serial) gone) ≡ true → w s ≡ None
  pub none : (s : ℕ) → v s ≡ None → w s ≡ None

pub forgetting_more : (v w x : Written) (gone : List Gone) (i : ℕ) (g : Gone) → i < length gone → g ≡ get_or gone i g → IsForgetting v w (take i gone)
    → x g.serial ≡ None → ((s : ℕ) → s ≢ g.serial → x s ≡ w s) → IsForgetting v x (take (i + 1) gone)
forgetting_more v w x gone i g l is f dropped others = subst (λ (gs : List Gone). IsForgetting v x gs) (sym (front_at gone i g l is)) (record {
  others = λ s h. let halves = apart s (take i gone) h in others s (λ e. differ s g.serial e halves.1) ∙ f.others s halves.0;
  dropped = λ s h. here s (nat_eq s g.serial) refl (last s (take i gone) h);
  none = λ s h. by s (nat_eq s g.serial) refl (f.none s h);
})
  where
    differ : (a b : ℕ) → a ≡ b → nat_eq a b ≡ false → ⊥
    differ a b e h = grind (arith, nat_tests)

    equal : (a b : ℕ) → nat_eq a b ≡ true → a ≡ b
    equal a b h = grind (arith, nat_tests)

    last : (s : ℕ) (gs : List Gone) → among s (map (λ (y : Gone). y.serial) (gs ++ g ∷ [])) ≡ true → nat_eq s g.serial ≡ false → among s (map (λ (y : Gone). y.serial) gs) ≡ true
    last s [] h apart = absurd (none (nat_eq s g.serial) h apart)
      where
        none : (t : Bool) → (t || false) ≡ true → t ≡ false → ⊥
        none true h e = absurd (cc)
        none false h e = absurd (cc)
    last s (y ∷ ys) h apart = one (nat_eq s y.serial) (λ k. last s ys k apart) h
      where
        one : (t : Bool) → (among s (map (λ (z : Gone). z.serial) (ys ++ g ∷ [])) ≡ true → among s (map (λ (z : Gone). z.serial) ys) ≡ true)
            → (t || among s (map (λ (z : Gone). z.serial) (ys ++ g ∷ []))) ≡ true → (t || among s (map (λ (z : Gone). z.serial) ys)) ≡ true
        one true rest h = refl
        one false rest h = rest h

    here : (s : ℕ) (t : Bool) → nat_eq s g.serial ≡ t → (nat_eq s g.serial ≡ false → among s (map (λ (y : Gone). y.serial) (take i gone)) ≡ true) → x s ≡ None
    here s true e h = ap x (equal s g.serial e) ∙ dropped
    here s false e h = others s (λ q. differ s g.serial q e) ∙ f.dropped s (h e)

    by : (s : ℕ) (t : Bool) → nat_eq s g.serial ≡ t → w s ≡ None → x s ≡ None
    by s true e h = ap x (equal s g.serial e) ∙ dropped
    by s false e h = others s (λ q. differ s g.serial q e) ∙ h

    apart : (s : ℕ) (gs : List Gone) → among s (map (λ (y : Gone). y.serial) (gs ++ g ∷ [])) ≡ false → (among s (map (λ (y : Gone). y.serial) gs) ≡ false) × (nat_eq s g.serial ≡ false)
    apart s [] h = (refl, first_no (nat_eq s g.serial) h)
      where
        first_no : (t : Bool) → (t || false) ≡ false → t ≡ false
        first_no true h = absurd (cc)
        first_no false h = refl
    apart s (y ∷ ys) h = one (nat_eq s y.serial) (apart s ys) h
      where
        one : (t : Bool) → (among s (map (λ (z : Gone). z.serial) (ys ++ g ∷ [])) ≡ false → (among s (map (λ (z : Gone). z.serial) ys) ≡ false) × (nat_eq s g.serial ≡ false))
            → (t || among s (map (λ (z : Gone). z.serial) (ys ++ g ∷ []))) ≡ false → ((t || among s (map (λ (z : Gone). z.serial) ys)) ≡ false) × (nat_eq s g.serial ≡ false)
        one true rest h = absurd (cc)
        one false rest h = rest h

-- The ends of the loop that makes cycles

pub preparing_none : (v : Written) (first : ℕ) (es : List Edit) → list_all fits es ≡ true → ((s : ℕ) → first ≤ s → v s ≡ None) → IsPreparing v v first first es 0
preparing_none v first es fit fresh = record {
  made = λ u agree h. h;
  above = fresh;
  below = λ s l. refl;
  behind = refl;
  order = omega arith;
  bound = omega arith;
  fit = fit;
}

pub preparing_made : (v w : Written) (first serial : ℕ) (es : List Edit) (i : ℕ) → IsPreparing v w first serial es i → length es ≤ i → HaveCycles w first es
preparing_made v w first serial es i p l = p.made w (λ s k. refl) (subst (λ (xs : List Edit). HaveCycles w serial xs) (sym (drop_all i es l)) tt)

pub preparing_above : (v w : Written) (first serial : ℕ) (es : List Edit) (i : ℕ) → IsPreparing v w first serial es i → (s : ℕ) → serial_behind first es ≤ s → w s ≡ None
preparing_above v w first serial es i p s l =
    let more = behind_more serial (drop i es) in
    let same = p.behind in
    p.above s (omega (arith, more, same))
