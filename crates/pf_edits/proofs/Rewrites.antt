-- One record taken out, changed and put back.
use Rattle.std.proofs.Common.{◌≡◌, ℕ, Bool, true, false, cond, ◌==◌, List, [], ◌∷◌, ◌++◌, Option, Some, None, is_some, refl, sym, ◌∙◌, ap}
use Rattle.std.specs.Option.{option_map, option_map_or}
use Rattle.std.proofs.lemmas.Bool.{eqb-true, eq-eqb}
use Rattle.std.proofs.lemmas.List.Folds.{list_any-append}
use Rattle.pf_model.specs.declared.nodes.Node.{Node}
use Rattle.pf_edits.specs.declared.records.Record.{Record}
use Rattle.pf_edits.specs.declared.extents.Extent.{Extent}
use Rattle.pf_edits.specs.Tables.{Slots, record_at}
use Rattle.pf_edits.specs.Ways.{is_in}
use Rattle.pf_edits.specs.Extents.{look_of, parents_of, extent_at, leaf}
use Rattle.pf_edits.proofs.Ups.{ahead, behind}

pub rewritten : (old mid new : Slots) (id : ℕ) (r : Record) (f : Record → Record) → record_at old id ≡ Some r
    → ((b : ℕ) → record_at mid b ≡ cond (b == id) None (record_at old b))
    → ((b : ℕ) → record_at new b ≡ cond (b == id) (Some (f r)) (record_at mid b))
    → (b : ℕ) → record_at new b ≡ cond (b == id) (option_map f (record_at old b)) (record_at old b)
rewritten old mid new id r f here taken put b = put b ∙ by (b == id) refl
  where
    by : (t : Bool) → (b == id) ≡ t → cond t (Some (f r)) (record_at mid b) ≡ cond t (option_map f (record_at old b)) (record_at old b)
    by true e = sym (ap (option_map f) (ap (record_at old) (eqb-true b id e) ∙ here))
    by false e = taken b ∙ ap (λ t. cond t None (record_at old b)) e

-- where no record is under the id, nothing changes
pub not_there : (old new : Slots) (id : ℕ) (f : Record → Record) → record_at old id ≡ None → ((b : ℕ) → record_at new b ≡ cond (b == id) None (record_at old b))
    → (b : ℕ) → record_at new b ≡ cond (b == id) (option_map f (record_at old b)) (record_at old b)
not_there old new id f none taken b = taken b ∙ by (b == id) refl
  where
    by : (t : Bool) → (b == id) ≡ t → cond t None (record_at old b) ≡ cond t (option_map f (record_at old b)) (record_at old b)
    by true e = sym (ap (option_map f) (ap (record_at old) (eqb-true b id e) ∙ none))
    by false e = refl

module _ (old new : Slots) (id : ℕ) (f : Record → Record) (set : (b : ℕ) → record_at new b ≡ cond (b == id) (option_map f (record_at old b)) (record_at old b)) where
  pub look_kept : ((r : Record) → (f r).node ≡ r.node) → (b : ℕ) → look_of new b ≡ look_of old b
  look_kept keeps b = ap (option_map (λ (r : Record). r.node)) (set b) ∙ by (b == id) (record_at old b)
    where
      by : (t : Bool) (o : Option Record) → option_map (λ (r : Record). r.node) (cond t (option_map f o) o) ≡ option_map (λ (r : Record). r.node) o
      by true None = refl
      by true (Some r) = ap Some (keeps r)
      by false o = refl

  pub look_moved : (h : Node → Node) → ((r : Record) → (f r).node ≡ h r.node) → (b : ℕ) → look_of new b ≡ cond (b == id) (option_map h (look_of old b)) (look_of old b)
  look_moved h moves b = ap (option_map (λ (r : Record). r.node)) (set b) ∙ by (b == id) (record_at old b)
    where
      by : (t : Bool) (o : Option Record) → option_map (λ (r : Record). r.node) (cond t (option_map f o) o) ≡ cond t (option_map h (option_map (λ (r : Record). r.node) o)) (option_map (λ (r : Record). r.node) o)
      by true None = refl
      by true (Some r) = ap Some (moves r)
      by false o = refl

  pub parents_kept : ((r : Record) → (f r).parents ≡ r.parents) → (b : ℕ) → parents_of new b ≡ parents_of old b
  parents_kept keeps b = ap (λ o. option_map_or (λ (r : Record). r.parents) o []) (set b) ∙ by (b == id) (record_at old b)
    where
      by : (t : Bool) (o : Option Record) → option_map_or (λ (r : Record). r.parents) (cond t (option_map f o) o) [] ≡ option_map_or (λ (r : Record). r.parents) o []
      by true None = refl
      by true (Some r) = keeps r
      by false o = refl

  pub parents_more : (p : ℕ) → ((r : Record) → is_in p r.parents ≡ true → is_in p (f r).parents ≡ true) → (b : ℕ) → is_in p (parents_of old b) ≡ true → is_in p (parents_of new b) ≡ true
  parents_more p keeps b h = ap (λ o. is_in p (option_map_or (λ (r : Record). r.parents) o [])) (set b) ∙ by (b == id) (record_at old b) h
    where
      by : (t : Bool) (o : Option Record) → is_in p (option_map_or (λ (r : Record). r.parents) o []) ≡ true → is_in p (option_map_or (λ (r : Record). r.parents) (cond t (option_map f o) o) []) ≡ true
      by true None h = h
      by true (Some r) h = keeps r h
      by false o h = h

  pub extents_kept : ((r : Record) → (f r).extent ≡ r.extent) → (b : ℕ) → extent_at new b ≡ extent_at old b
  extents_kept keeps b = ap (λ o. option_map_or (λ (r : Record). r.extent) o leaf) (set b) ∙ by (b == id) (record_at old b)
    where
      by : (t : Bool) (o : Option Record) → option_map_or (λ (r : Record). r.extent) (cond t (option_map f o) o) leaf ≡ option_map_or (λ (r : Record). r.extent) o leaf
      by true None = refl
      by true (Some r) = keeps r
      by false o = refl

  pub extents_set : (e : Extent) → ((r : Record) → (f r).extent ≡ e) → is_some (record_at old id) ≡ true → (b : ℕ) → extent_at new b ≡ cond (b == id) e (extent_at old b)
  extents_set e sets there b = ap (λ o. option_map_or (λ (r : Record). r.extent) o leaf) (set b) ∙ by (b == id) refl (record_at old b) refl
    where
      by : (t : Bool) → (b == id) ≡ t → (o : Option Record) → record_at old b ≡ o → option_map_or (λ (r : Record). r.extent) (cond t (option_map f o) o) leaf ≡ cond t e (option_map_or (λ (r : Record). r.extent) o leaf)
      by true s None k = absurd (let n : is_some (record_at old id) ≡ false = ap (λ o. is_some o) (ap (record_at old) (sym (eqb-true b id s)) ∙ k) in let l : true ≡ false = sym there ∙ n in cc)
      by true s (Some r) k = sets r
      by false s o k = refl

  pub extents_none : (e : Extent) → record_at old id ≡ None → e ≡ leaf → (b : ℕ) → extent_at new b ≡ cond (b == id) e (extent_at old b)
  extents_none e none is b = ap (λ o. option_map_or (λ (r : Record). r.extent) o leaf) (set b) ∙ by (b == id) refl (record_at old b) refl
    where
      by : (t : Bool) → (b == id) ≡ t → (o : Option Record) → record_at old b ≡ o → option_map_or (λ (r : Record). r.extent) (cond t (option_map f o) o) leaf ≡ cond t e (option_map_or (λ (r : Record). r.extent) o leaf)
      by true s None k = sym is
      by true s (Some r) k = absurd (let n : None ≡ Some r = sym none ∙ ap (record_at old) (sym (eqb-true b id s)) ∙ k in cc)
      by false s o k = refl

-- one more parent noted
pub in_more : (p q : ℕ) (xs : List ℕ) → is_in p xs ≡ true → is_in p (xs ++ q ∷ []) ≡ true
in_more p q xs h = list_any-append (λ other. other == p) xs (q ∷ []) ∙ ahead (is_in p xs) (is_in p (q ∷ [])) h

pub in_last : (q : ℕ) (xs : List ℕ) → is_in q (xs ++ q ∷ []) ≡ true
in_last q xs = list_any-append (λ other. other == q) xs (q ∷ []) ∙ behind (is_in q xs) (is_in q (q ∷ [])) (ahead (q == q) false (eq-eqb q q refl))

-- One record put in or taken out

pub put_look : (old new : Slots) (id : ℕ) (r : Record) → ((b : ℕ) → record_at new b ≡ cond (b == id) (Some r) (record_at old b)) → (b : ℕ) → look_of new b ≡ cond (b == id) (Some r.node) (look_of old b)
put_look old new id r set b = ap (option_map (λ (q : Record). q.node)) (set b) ∙ by (b == id)
  where
    by : (t : Bool) → option_map (λ (q : Record). q.node) (cond t (Some r) (record_at old b)) ≡ cond t (Some r.node) (option_map (λ (q : Record). q.node) (record_at old b))
    by true = refl
    by false = refl

pub take_look : (old new : Slots) (id : ℕ) → ((b : ℕ) → record_at new b ≡ cond (b == id) None (record_at old b)) → (b : ℕ) → look_of new b ≡ cond (b == id) None (look_of old b)
take_look old new id set b = ap (option_map (λ (q : Record). q.node)) (set b) ∙ by (b == id)
  where
    by : (t : Bool) → option_map (λ (q : Record). q.node) (cond t None (record_at old b)) ≡ cond t None (option_map (λ (q : Record). q.node) (record_at old b))
    by true = refl
    by false = refl

pub other_record : (old new : Slots) (id : ℕ) (o : Option Record) → ((b : ℕ) → record_at new b ≡ cond (b == id) o (record_at old b)) → (b : ℕ) → (b == id) ≡ false → record_at new b ≡ record_at old b
other_record old new id o set b e = set b ∙ ap (λ t. cond t o (record_at old b)) e

pub this_record : (old new : Slots) (id : ℕ) (o : Option Record) → ((b : ℕ) → record_at new b ≡ cond (b == id) o (record_at old b)) → record_at new id ≡ o
this_record old new id o set = set id ∙ ap (λ t. cond t o (record_at old id)) (eq-eqb id id refl)
