-- Parents noted without a link, and none of them.
use Rattle.std.proofs.Common.{◌≡◌, ℕ, ◌+◌, ◌<◌, Bool, true, false, cond, ◌||◌, ◌&&◌, ◌==◌, ◌⊎◌, inl, inr, List, [], ◌∷◌, length, get_or, take, reverse, Option, None, is_some, Result, Ok, Err, OnOk, OnErr, refl, sym, ◌∙◌, ap, subst}
use Rattle.std.specs.List.{list_any}
use Rattle.std.proofs.lemmas.Bool.{eqb-true, eq-eqb}
use Rattle.std.proofs.lemmas.List.Folds.{list_any-append, list_any_more, list_any_at}
use Rattle.pf_model.specs.declared.nodes.Node.{Node}
use Rattle.pf_model.specs.declared.edits.Edit.{Edit}
use Rattle.pf_model.specs.Graphs.{Look, SceneGraph, node_at}
use Rattle.pf_model.specs.Limits.{is_there, has_child}
use Rattle.pf_model.specs.Edits.{fault_of, effect}
use Rattle.pf_edits.specs.declared.undo.Undo.{Undo}
use Rattle.pf_edits.specs.declared.work.Work.{Work}
use Rattle.pf_edits.specs.Tables.{Slots, record_at}
use Rattle.pf_edits.specs.Ways.{is_in}
use Rattle.pf_edits.specs.Extents.{look_of, parents_of}
use Rattle.pf_edits.specs.Listed.{nodes_of}
use Rattle.pf_edits.specs.Working.{told, IsWorking}
use Rattle.pf_edits.specs.Undoing.{brings_back, frees, IsUndo, KeepsParents}
use Rattle.pf_edits.specs.Settling.{IsTight, IsTightBut, AreSettled, Grows, IsNoted, ComeFrom, asked_link, lost_link, is_link, loses, any_asks, any_takes, any_frees, any_loses, any_brings}
use Rattle.pf_edits.proofs.Ups.{head_or_rest, ahead, behind, not_true, no_true}
use Rattle.pf_edits.proofs.Listed.{looks}
use Rattle.pf_edits.proofs.LinkFates.{link_fate, asked_made}
use Rattle.pf_edits.proofs.Rollbacks.{one_more}
use Rattle.pf_edits.proofs.Works.{no_parents, no_record_of}

-- graphs that are told alike have the same links
pub same_links : (s t : Work) → told t ≡ told s → (y x : ℕ) → has_child (look_of t.records.slots) y x ≡ has_child (look_of s.records.slots) y x
same_links s t same y x =
    ap (λ (f : Look). has_child f y x) (sym (looks t.records.slots)) ∙ ap (λ (g : SceneGraph). has_child (node_at g.nodes) y x) same
    ∙ ap (λ (f : Look). has_child f y x) (looks s.records.slots)

-- where no more parents are noted, none is without a link
pub tight_still : (s t : Work) → told t ≡ told s → KeepsParents t s → IsTight s.records.slots → IsTight t.records.slots
tight_still s t same fewer tight y x h = same_links s t same y x ∙ tight y x (fewer x y h)

-- What calls make of the parents noted

-- the same parents
pub same_grows : (link : Option (ℕ × ℕ)) (s t : Slots) → ((b : ℕ) → parents_of t b ≡ parents_of s b) → Grows link s t
same_grows link s t same b p h = ahead (is_in p (parents_of s b)) (is_link link p b) (sym (ap (is_in p) (same b)) ∙ h)

-- one node put in with the parents noted of it
pub put_grows : (s t : Slots) (id : ℕ) (ps : List ℕ) → ((b : ℕ) → parents_of t b ≡ cond (b == id) ps (parents_of s b))
    → (b p : ℕ) → is_in p (parents_of t b) ≡ true → (is_in p (parents_of s b) || (id == b && is_in p ps)) ≡ true
put_grows s t id ps set b p h = by (b == id) refl (sym (ap (is_in p) (set b)) ∙ h)
  where
    by : (u : Bool) → (b == id) ≡ u → is_in p (cond u ps (parents_of s b)) ≡ true → (is_in p (parents_of s b) || (id == b && is_in p ps)) ≡ true
    by true e k = behind (is_in p (parents_of s b)) (id == b && is_in p ps) (ap (λ u. u && is_in p ps) (eq-eqb id b (sym (eqb-true b id e))) ∙ k)
    by false e k = ahead (is_in p (parents_of s b)) (id == b && is_in p ps) k

pub new_grows : (s t : Slots) (id : ℕ) (ps : List ℕ) → ps ≡ [] → ((b : ℕ) → parents_of t b ≡ cond (b == id) ps (parents_of s b)) → Grows None s t
new_grows s t id ps none set b p h = by (b == id) (sym (ap (is_in p) (set b ∙ ap (λ qs. cond (b == id) qs (parents_of s b)) none)) ∙ h)
  where
    by : (u : Bool) → is_in p (cond u [] (parents_of s b)) ≡ true → (is_in p (parents_of s b) || false) ≡ true
    by true k = absurd (cc)
    by false k = ahead (is_in p (parents_of s b)) false k

-- one node taken out
pub taken_grows : (s t : Slots) (id : ℕ) → ((b : ℕ) → look_of t b ≡ cond (b == id) None (look_of s b)) → ((b : ℕ) → (b == id) ≡ false → parents_of t b ≡ parents_of s b) → Grows None s t
taken_grows s t id nodes others b p h = by (b == id) refl
  where
    by : (u : Bool) → (b == id) ≡ u → (is_in p (parents_of s b) || false) ≡ true
    by true e = absurd (no_parents t b (no_record_of t b (ap (λ (o : Option Node). is_some o) (nodes b ∙ ap (λ u. cond u None (look_of s b)) e))) p h)
    by false e = ahead (is_in p (parents_of s b)) false (sym (ap (is_in p) (others b e)) ∙ h)

-- no parents noted at all
pub new_tight : (s t : Slots) (id : ℕ) (ps : List ℕ) → ((b : ℕ) → record_at s b ≡ None) → ps ≡ [] → ((b : ℕ) → parents_of t b ≡ cond (b == id) ps (parents_of s b)) → IsTight t
new_tight s t id ps none empty set y x h = absurd (by (head_or_rest (is_in y (parents_of s x)) false (new_grows s t id ps empty set x y h)))
  where
    by : (is_in y (parents_of s x) ≡ true) ⊎ (false ≡ true) → ⊥
    by (inl k) = no_parents s x (none x) y k
    by (inr k) = cc

-- An edit after its judgement, which changes nothing that is told

undo_after : (s m t : Work) (u : Undo) → told m ≡ told s → KeepsParents s m → KeepsParents m s → IsUndo u m t → IsUndo u s t
undo_after s m t u same kept fewer undo = record {
  can = undo.can;
  before = undo.before ∙ same;
  parents = λ b p h. undo.parents b p (kept b p h);
  back = λ y x h. fewer x y (undo.back y x h);
  freed = λ y x h gone. undo.freed y x (ap (λ (g : SceneGraph). has_child (node_at g.nodes) y x) same ∙ h) gone;
}

noted_after : (s m t : Work) (us vs : List Undo) → told m ≡ told s → KeepsParents s m → KeepsParents m s → IsNoted m t us vs → IsNoted s t us vs
noted_after s m t us vs same kept fewer noted = record { undo = noted.undo; is_undo = undo_after s m t noted.undo same kept fewer noted.is_undo; last = noted.last }

grows_after : (link : Option (ℕ × ℕ)) (s m t : Work) → KeepsParents m s → Grows link m.records.slots t.records.slots → Grows link s.records.slots t.records.slots
grows_after link s m t fewer grown b p h = by (head_or_rest (is_in p (parents_of m.records.slots b)) (is_link link p b) (grown b p h))
  where
    by : (is_in p (parents_of m.records.slots b) ≡ true) ⊎ (is_link link p b ≡ true) → (is_in p (parents_of s.records.slots b) || is_link link p b) ≡ true
    by (inl k) = ahead (is_in p (parents_of s.records.slots b)) (is_link link p b) (fewer b p k)
    by (inr k) = behind (is_in p (parents_of s.records.slots b)) (is_link link p b) k

pub on_ok : {A E P Q : Type 0} (r : Result A E) → (P → Q) → OnOk r P → OnOk r Q
on_ok (Ok x) f p = f p
on_ok (Err e) f p = tt

pub on_err : {A E P Q : Type 0} (r : Result A E) → (P → Q) → OnErr r P → OnErr r Q
on_err (Ok x) f p = tt
on_err (Err e) f p = f p

pub ok_noted : {A E : Type 0} (r : Result A E) (s m t : Work) (us vs : List Undo) → told m ≡ told s → KeepsParents s m → KeepsParents m s → OnOk r (IsNoted m t us vs) → OnOk r (IsNoted s t us vs)
ok_noted r s m t us vs same kept fewer noted = on_ok r (noted_after s m t us vs same kept fewer) noted

pub ok_grows : {A E : Type 0} (r : Result A E) (link : Option (ℕ × ℕ)) (s m t : Work) → KeepsParents m s → OnOk r (Grows link m.records.slots t.records.slots) → OnOk r (Grows link s.records.slots t.records.slots)
ok_grows r link s m t fewer grown = on_ok r (grows_after link s m t fewer) grown

pub err_fewer : {A E : Type 0} (r : Result A E) (s m t : Work) → KeepsParents m s → OnErr r (KeepsParents t m) → OnErr r (KeepsParents t s)
err_fewer r s m t fewer less = on_err r (λ (k : KeepsParents t m). λ b p h. fewer b p (k b p h)) less

-- Pairs settled

-- once these pairs are settled, none is left
pub settled_tight : (s t : Work) (pairs : ℕ → ℕ → Bool) → told t ≡ told s → KeepsParents t s → AreSettled t.records.slots pairs → IsTightBut s.records.slots pairs → IsTight t.records.slots
settled_tight s t pairs same fewer settled but y x h = by (has_child (look_of t.records.slots) y x) refl
  where
    left : (has_child (look_of s.records.slots) y x ≡ true) ⊎ (pairs y x ≡ true) → has_child (look_of t.records.slots) y x ≡ false → ⊥
    left (inl k) e = not_true (same_links s t same y x ∙ k) e
    left (inr k) e = not_true h (settled y x k e)

    by : (u : Bool) → has_child (look_of t.records.slots) y x ≡ u → has_child (look_of t.records.slots) y x ≡ true
    by true e = e
    by false e = absurd (left (head_or_rest (has_child (look_of s.records.slots) y x) (pairs y x) (but y x (fewer x y h))) e)

-- pairs that are settled stay so
settled_still : (s t : Work) (pairs : ℕ → ℕ → Bool) → told t ≡ told s → KeepsParents t s → AreSettled s.records.slots pairs → AreSettled t.records.slots pairs
settled_still s t pairs same fewer settled y x on out =
    no_true (is_in y (parents_of t.records.slots x)) (λ h. not_true (fewer x y h) (settled y x on (sym (same_links s t same y x) ∙ out)))

-- these and those pairs settled
pub settled_both : (s t : Work) (these those : ℕ → ℕ → Bool) → told t ≡ told s → KeepsParents t s → AreSettled s.records.slots these → AreSettled t.records.slots those
    → AreSettled t.records.slots (λ y x. these y x || those y x)
settled_both s t these those same fewer first second y x on out = by (head_or_rest (these y x) (those y x) on)
  where
    by : (these y x ≡ true) ⊎ (those y x ≡ true) → is_in y (parents_of t.records.slots x) ≡ false
    by (inl k) = settled_still s t these same fewer first y x k out
    by (inr k) = second y x k out

-- one more item's pairs settled
pub settled_more : {X : Type 0} (s t : Work) (pairs : X → ℕ → ℕ → Bool) (xs : List X) (i : ℕ) (d : X) → i < length xs → told t ≡ told s → KeepsParents t s
    → AreSettled t.records.slots (pairs (get_or xs i d)) → AreSettled s.records.slots (λ y x. list_any (λ e. pairs e y x) (take i xs))
    → AreSettled t.records.slots (λ y x. list_any (λ e. pairs e y x) (take (i + 1) xs))
settled_more s t pairs xs i d within same fewer here before y x on out =
    by (head_or_rest (list_any (λ e. pairs e y x) (take i xs)) (pairs (get_or xs i d) y x) (sym (list_any_more (λ e. pairs e y x) xs i d within) ∙ on))
  where
    by : (list_any (λ e. pairs e y x) (take i xs) ≡ true) ⊎ (pairs (get_or xs i d) y x ≡ true) → is_in y (parents_of t.records.slots x) ≡ false
    by (inl k) = settled_still s t (λ y x. list_any (λ e. pairs e y x) (take i xs)) same fewer before y x k out
    by (inr k) = here y x k out

-- An edit made

-- a link before an edit is one after it, or the edit took it away
kept_or_lost : (s t : Work) (e : Edit) (u : Undo) → IsWorking s → fault_of (told s) e ≡ None → told t ≡ effect (told s) e → IsUndo u s t
    → (y x : ℕ) → has_child (look_of s.records.slots) y x ≡ true → (has_child (look_of t.records.slots) y x || loses e u y x) ≡ true
kept_or_lost s t e u working none after undo y x h =
    subst (λ (f : Look). (has_child f y x || loses e u y x) ≡ true) (looks t.records.slots) (by (is_there (node_at (nodes_of t.records.slots)) y) refl)
  where
    link : has_child (node_at (told s).nodes) y x ≡ true
    link = ap (λ (f : Look). has_child f y x) (looks s.records.slots) ∙ h

    stays : is_there (node_at (nodes_of t.records.slots)) y ≡ true → (has_child (node_at (nodes_of t.records.slots)) y x || is_link (lost_link e) y x) ≡ true
    stays there =
        ap (λ (g : SceneGraph). has_child (node_at g.nodes) y x || is_link (lost_link e) y x) after
        ∙ link_fate (told s) e y x working.within (sym none) link (sym (ap (λ (g : SceneGraph). is_there (node_at g.nodes) y) after) ∙ there)

    widened : (has_child (node_at (nodes_of t.records.slots)) y x ≡ true) ⊎ (is_link (lost_link e) y x ≡ true) → (has_child (node_at (nodes_of t.records.slots)) y x || loses e u y x) ≡ true
    widened (inl k) = ahead (has_child (node_at (nodes_of t.records.slots)) y x) (loses e u y x) k
    widened (inr k) = behind (has_child (node_at (nodes_of t.records.slots)) y x) (loses e u y x) (ahead (is_link (lost_link e) y x) (frees u.id u.older y x) k)

    by : (v : Bool) → is_there (node_at (nodes_of t.records.slots)) y ≡ v → (has_child (node_at (nodes_of t.records.slots)) y x || loses e u y x) ≡ true
    by true there = widened (head_or_rest (has_child (node_at (nodes_of t.records.slots)) y x) (is_link (lost_link e) y x) (stays there))
    by false gone =
        behind (has_child (node_at (nodes_of t.records.slots)) y x) (loses e u y x) (behind (is_link (lost_link e) y x) (frees u.id u.older y x) (undo.freed y x link gone))

-- the link asked for is there
asked_there : (s t : Work) (e : Edit) → fault_of (told s) e ≡ None → told t ≡ effect (told s) e → (y x : ℕ) → is_link (asked_link e) y x ≡ true → has_child (look_of t.records.slots) y x ≡ true
asked_there s t e none after y x h =
    ap (λ (f : Look). has_child f y x) (sym (looks t.records.slots)) ∙ ap (λ (g : SceneGraph). has_child (node_at g.nodes) y x) after ∙ asked_made (told s) e y x (sym none) h

-- after an edit parents are noted without a link where it took the link away
pub lost_after : (s t : Work) (e : Edit) (u : Undo) → IsWorking s → IsTight s.records.slots → fault_of (told s) e ≡ None → told t ≡ effect (told s) e
    → Grows (asked_link e) s.records.slots t.records.slots → IsUndo u s t → IsTightBut t.records.slots (loses e u)
lost_after s t e u working tight none after grown undo y x h = by (head_or_rest (is_in y (parents_of s.records.slots x)) (is_link (asked_link e) y x) (grown x y h))
  where
    by : (is_in y (parents_of s.records.slots x) ≡ true) ⊎ (is_link (asked_link e) y x ≡ true) → (has_child (look_of t.records.slots) y x || loses e u y x) ≡ true
    by (inl k) = kept_or_lost s t e u working none after undo y x (tight y x k)
    by (inr k) = ahead (has_child (look_of t.records.slots) y x) (loses e u y x) (asked_there s t e none after y x k)

pub lost_judged : (s m t : Work) (e : Edit) (u : Undo) → IsWorking m → told m ≡ told s → KeepsParents m s → IsTight s.records.slots → fault_of (told s) e ≡ None → told t ≡ effect (told m) e
    → Grows (asked_link e) m.records.slots t.records.slots → IsUndo u m t → IsTightBut t.records.slots (loses e u)
lost_judged s m t e u working same fewer tight none after grown undo =
    lost_after m t e u working (tight_still s m same fewer tight) (ap (λ (g : SceneGraph). fault_of g e) same ∙ none) after grown undo

-- Edits of a list

-- before the first edit
pub none_lost : (s : Slots) (es : List Edit) (us : List Undo) → IsTight s → IsTightBut s (any_loses es us)
none_lost s es us tight y x h = ahead (has_child (look_of s) y x) (any_loses es us y x) (tight y x h)

pub none_asked : (w : Work) (es : List Edit) (us : List Undo) → us ≡ [] → IsTight w.records.slots → ComeFrom (told w) es w.records.slots (reverse us)
none_asked w es us none tight y x h =
    by (head_or_rest (is_in y (parents_of w.records.slots x)) (any_brings [] y x) (subst (λ (vs : List Undo). (is_in y (parents_of w.records.slots x) || any_brings (reverse vs) y x) ≡ true) none h))
  where
    by : (is_in y (parents_of w.records.slots x) ≡ true) ⊎ (any_brings [] y x ≡ true) → (has_child (node_at (told w).nodes) y x || any_asks es y x) ≡ true
    by (inl k) = ahead (has_child (node_at (told w).nodes) y x) (any_asks es y x) (ap (λ (f : Look). has_child f y x) (looks w.records.slots) ∙ tight y x k)
    by (inr k) = absurd (cc)

module _ (s t : Work) (es : List Edit) (i : ℕ) (d : Edit) (us vs : List Undo) (within : i < length es) (noted : IsNoted s t us vs)
    (grown : Grows (asked_link (get_or es i d)) s.records.slots t.records.slots) where
  -- after one more edit
  pub lost_next : IsWorking s → fault_of (told s) (get_or es i d) ≡ None → told t ≡ effect (told s) (get_or es i d) → IsTightBut s.records.slots (any_loses es us) → IsTightBut t.records.slots (any_loses es vs)
  lost_next working none after but y x h = by (head_or_rest (is_in y (parents_of s.records.slots x)) (is_link (asked_link (get_or es i d)) y x) (grown x y h))
    where
      all_freed : any_frees vs y x ≡ (any_frees us y x || any_frees (noted.undo ∷ []) y x)
      all_freed = ap (λ (ws : List Undo). any_frees ws y x) noted.last ∙ list_any-append (λ (u : Undo). frees u.id u.older y x) us (noted.undo ∷ [])

      lost : (is_link (lost_link (get_or es i d)) y x ≡ true) ⊎ (frees noted.undo.id noted.undo.older y x ≡ true) → any_loses es vs y x ≡ true
      lost (inl k) = ahead (any_takes es y x) (any_frees vs y x) (list_any_at (λ e. is_link (lost_link e) y x) es i d within k)
      lost (inr k) =
          behind (any_takes es y x) (any_frees vs y x)
          (all_freed ∙ behind (any_frees us y x) (any_frees (noted.undo ∷ []) y x) (ahead (frees noted.undo.id noted.undo.older y x) false k))

      was : (any_takes es y x ≡ true) ⊎ (any_frees us y x ≡ true) → any_loses es vs y x ≡ true
      was (inl k) = ahead (any_takes es y x) (any_frees vs y x) k
      was (inr k) = behind (any_takes es y x) (any_frees vs y x) (all_freed ∙ ahead (any_frees us y x) (any_frees (noted.undo ∷ []) y x) k)

      fate : (has_child (look_of t.records.slots) y x ≡ true) ⊎ (loses (get_or es i d) noted.undo y x ≡ true) → (has_child (look_of t.records.slots) y x || any_loses es vs y x) ≡ true
      fate (inl k) = ahead (has_child (look_of t.records.slots) y x) (any_loses es vs y x) k
      fate (inr k) =
          behind (has_child (look_of t.records.slots) y x) (any_loses es vs y x)
          (lost (head_or_rest (is_link (lost_link (get_or es i d)) y x) (frees noted.undo.id noted.undo.older y x) k))

      before : (has_child (look_of s.records.slots) y x ≡ true) ⊎ (any_loses es us y x ≡ true) → (has_child (look_of t.records.slots) y x || any_loses es vs y x) ≡ true
      before (inl k) =
          fate (head_or_rest (has_child (look_of t.records.slots) y x) (loses (get_or es i d) noted.undo y x) (kept_or_lost s t (get_or es i d) noted.undo working none after noted.is_undo y x k))
      before (inr k) = behind (has_child (look_of t.records.slots) y x) (any_loses es vs y x) (was (head_or_rest (any_takes es y x) (any_frees us y x) k))

      by : (is_in y (parents_of s.records.slots x) ≡ true) ⊎ (is_link (asked_link (get_or es i d)) y x ≡ true) → (has_child (look_of t.records.slots) y x || any_loses es vs y x) ≡ true
      by (inl k) = before (head_or_rest (has_child (look_of s.records.slots) y x) (any_loses es us y x) (but y x k))
      by (inr k) = ahead (has_child (look_of t.records.slots) y x) (any_loses es vs y x) (asked_there s t (get_or es i d) none after y x k)

  pub asked_next : (g : SceneGraph) → ComeFrom g es s.records.slots (reverse us) → ComeFrom g es t.records.slots (reverse vs)
  asked_next g from y x h =
      by (head_or_rest (is_in y (parents_of t.records.slots x)) (any_brings (noted.undo ∷ reverse us) y x)
      (subst (λ (ws : List Undo). (is_in y (parents_of t.records.slots x) || any_brings ws y x) ≡ true) (ap reverse noted.last ∙ one_more us noted.undo) h))
    where
      new : (is_in y (parents_of s.records.slots x) ≡ true) ⊎ (is_link (asked_link (get_or es i d)) y x ≡ true) → (has_child (node_at g.nodes) y x || any_asks es y x) ≡ true
      new (inl k) = from y x (ahead (is_in y (parents_of s.records.slots x)) (any_brings (reverse us) y x) k)
      new (inr k) = behind (has_child (node_at g.nodes) y x) (any_asks es y x) (list_any_at (λ e. is_link (asked_link e) y x) es i d within k)

      back : (brings_back noted.undo.id noted.undo.older y x ≡ true) ⊎ (any_brings (reverse us) y x ≡ true) → (has_child (node_at g.nodes) y x || any_asks es y x) ≡ true
      back (inl k) = from y x (ahead (is_in y (parents_of s.records.slots x)) (any_brings (reverse us) y x) (noted.is_undo.back y x k))
      back (inr k) = from y x (behind (is_in y (parents_of s.records.slots x)) (any_brings (reverse us) y x) k)

      by : (is_in y (parents_of t.records.slots x) ≡ true) ⊎ (any_brings (noted.undo ∷ reverse us) y x ≡ true) → (has_child (node_at g.nodes) y x || any_asks es y x) ≡ true
      by (inl k) = new (head_or_rest (is_in y (parents_of s.records.slots x)) (is_link (asked_link (get_or es i d)) y x) (grown x y k))
      by (inr k) = back (head_or_rest (brings_back noted.undo.id noted.undo.older y x) (any_brings (reverse us) y x) k)

-- where an edit was refused, no more parents are noted
pub asked_still : (s t : Work) (g : SceneGraph) (es : List Edit) (us vs : List Undo) → KeepsParents t s → vs ≡ us → ComeFrom g es s.records.slots (reverse us) → ComeFrom g es t.records.slots (reverse vs)
asked_still s t g es us vs fewer same from y x h =
    by (head_or_rest (is_in y (parents_of t.records.slots x)) (any_brings (reverse us) y x) (subst (λ (ws : List Undo). (is_in y (parents_of t.records.slots x) || any_brings (reverse ws) y x) ≡ true) same h))
  where
    by : (is_in y (parents_of t.records.slots x) ≡ true) ⊎ (any_brings (reverse us) y x ≡ true) → (has_child (node_at g.nodes) y x || any_asks es y x) ≡ true
    by (inl k) = from y x (ahead (is_in y (parents_of s.records.slots x)) (any_brings (reverse us) y x) (fewer x y k))
    by (inr k) = from y x (behind (is_in y (parents_of s.records.slots x)) (any_brings (reverse us) y x) k)

-- Edits undone

-- one more edit undone notes no more than it brings back
pub brought_rest : (s t : Slots) (u : Undo) (us vs : List Undo) → vs ≡ u ∷ us
    → ((b p : ℕ) → is_in p (parents_of t b) ≡ true → (is_in p (parents_of s b) || brings_back u.id u.older p b) ≡ true)
    → (y x : ℕ) → (is_in y (parents_of t x) || any_brings us y x) ≡ true → (is_in y (parents_of s x) || any_brings vs y x) ≡ true
brought_rest s t u us vs is entries y x h =
    subst (λ (ws : List Undo). (is_in y (parents_of s x) || any_brings ws y x) ≡ true) (sym is) (by (head_or_rest (is_in y (parents_of t x)) (any_brings us y x) h))
  where
    now : (is_in y (parents_of s x) ≡ true) ⊎ (brings_back u.id u.older y x ≡ true) → (is_in y (parents_of s x) || any_brings (u ∷ us) y x) ≡ true
    now (inl k) = ahead (is_in y (parents_of s x)) (any_brings (u ∷ us) y x) k
    now (inr k) = behind (is_in y (parents_of s x)) (any_brings (u ∷ us) y x) (ahead (brings_back u.id u.older y x) (any_brings us y x) k)

    by : (is_in y (parents_of t x) ≡ true) ⊎ (any_brings us y x ≡ true) → (is_in y (parents_of s x) || any_brings (u ∷ us) y x) ≡ true
    by (inl k) = now (head_or_rest (is_in y (parents_of s x)) (brings_back u.id u.older y x) (entries x y k))
    by (inr k) = behind (is_in y (parents_of s x)) (any_brings (u ∷ us) y x) (behind (brings_back u.id u.older y x) (any_brings us y x) k)

-- once all are undone, parents noted without a link are of links asked for
pub asked_left : (s t : Work) (g : SceneGraph) (es : List Edit) (us : List Undo) → told t ≡ g
    → ((y x : ℕ) → is_in y (parents_of t.records.slots x) ≡ true → (is_in y (parents_of s.records.slots x) || any_brings us y x) ≡ true)
    → ComeFrom g es s.records.slots us → IsTightBut t.records.slots (any_asks es)
asked_left s t g es us same entries from y x h =
    ap (λ (f : Look). has_child f y x || any_asks es y x) (sym (looks t.records.slots))
    ∙ ap (λ (k : SceneGraph). has_child (node_at k.nodes) y x || any_asks es y x) same ∙ from y x (entries y x h)
