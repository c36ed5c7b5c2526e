-- What an edit makes of the links from parents to children.
use Rattle.std.proofs.Common.{◌≡◌, ℕ, zero, suc, Bool, true, false, cond, not, ◌||◌, ◌&&◌, ◌==◌, ◌⊎◌, inl, inr, List, [], ◌∷◌, ◌++◌, Option, Some, None, is_some, refl, sym, ◌∙◌, ap, subst}
use Rattle.std.specs.List.{insert}
use Rattle.std.specs.Option.{option_map, option_map_or}
use Rattle.std.proofs.lemmas.Bool.{eqb-true, eq-eqb}
use Rattle.std.proofs.lemmas.List.Folds.{list_any-append}
use Rattle.pf_model.specs.declared.nodes.Node.{Node}
use Rattle.pf_model.specs.declared.edits.Edit.{Edit}
use Rattle.pf_model.specs.declared.edits.Edit.TheVariants as edit
use Rattle.pf_model.specs.declared.edits.Fault.TheVariants as fault
use Rattle.pf_model.specs.Children.{replace_first, drop_first}
use Rattle.pf_model.specs.Graphs.{Nodes, SceneGraph, node_at, change}
use Rattle.pf_model.specs.Limits.{is_there, has_child, IsGraphWithinLimits}
use Rattle.pf_model.specs.Copies.{named_by}
use Rattle.pf_model.specs.NodeEdits.{node_after}
use Rattle.pf_model.specs.Edits.{make_rules, add_rules, insert_rules, replace_rules, is_child, fault_of, effect}
use Rattle.pf_model.proofs.Rules.{all_passed, there_from, when_not}
use Rattle.pf_model.proofs.Finds.{node_at_change, node_at_without}
use Rattle.pf_model.proofs.Named.{node_at_put_any}
use Rattle.pf_edits.specs.Ways.{is_in}
use Rattle.pf_edits.specs.Settling.{asked_link, lost_link, is_link}
use Rattle.pf_edits.proofs.Ups.{head_or_rest, ahead, behind, not_true}
use Rattle.pf_edits.proofs.Settles.{both}
use Rattle.pf_edits.proofs.Ends.{add_passed, insert_passed, replace_passed}

-- Members of changed lists

carry : (p q r : Bool) → (q ≡ true → r ≡ true) → (p || q) ≡ true → (p || r) ≡ true
carry true q r f h = refl
carry false q r f h = f h

-- the rest carried under a head
under : (p q r s : Bool) → (q ≡ true → (r || s) ≡ true) → (p || q) ≡ true → ((p || r) || s) ≡ true
under true q r s f h = refl
under false q r s f h = f h

appended_stays : (x c : ℕ) (cs : List ℕ) → is_in x cs ≡ true → is_in x (cs ++ c ∷ []) ≡ true
appended_stays x c cs h = list_any-append (λ d. d == x) cs (c ∷ []) ∙ ahead (is_in x cs) (is_in x (c ∷ [])) h

appended_in : (c : ℕ) (cs : List ℕ) → is_in c (cs ++ c ∷ []) ≡ true
appended_in c cs = list_any-append (λ d. d == c) cs (c ∷ []) ∙ behind (is_in c cs) (is_in c (c ∷ [])) (ahead (c == c) false (eq-eqb c c refl))

inserted_stays : (x c i : ℕ) (cs : List ℕ) → is_in x cs ≡ true → is_in x (insert cs i c) ≡ true
inserted_stays x c zero cs h = behind (c == x) (is_in x cs) h
inserted_stays x c (suc i) [] h = absurd (cc)
inserted_stays x c (suc i) (y ∷ ys) h = carry (y == x) (is_in x ys) (is_in x (insert ys i c)) (inserted_stays x c i ys) h

inserted_in : (c i : ℕ) (cs : List ℕ) → is_in c (insert cs i c) ≡ true
inserted_in c zero cs = ahead (c == c) (is_in c cs) (eq-eqb c c refl)
inserted_in c (suc i) [] = ahead (c == c) false (eq-eqb c c refl)
inserted_in c (suc i) (y ∷ ys) = behind (y == c) (is_in c (insert ys i c)) (inserted_in c i ys)

replaced_stays : (x c b : ℕ) (cs : List ℕ) → is_in x cs ≡ true → (is_in x (replace_first c b cs) || c == x) ≡ true
replaced_stays x c b [] h = absurd (cc)
replaced_stays x c b (y ∷ ys) h = by (replaced_stays x c b ys) (y == c) refl
  where
    here : (y == c) ≡ true → ((y == x) ≡ true) ⊎ (is_in x ys ≡ true) → (is_in x (b ∷ ys) || c == x) ≡ true
    here e (inl k) = behind (is_in x (b ∷ ys)) (c == x) (subst (λ (z : ℕ). (z == x) ≡ true) (eqb-true y c e) k)
    here e (inr k) = ahead (is_in x (b ∷ ys)) (c == x) (behind (b == x) (is_in x ys) k)

    by : (is_in x ys ≡ true → (is_in x (replace_first c b ys) || c == x) ≡ true) → (t : Bool) → (y == c) ≡ t → (is_in x (cond t (b ∷ ys) (y ∷ replace_first c b ys)) || c == x) ≡ true
    by rest true e = here e (head_or_rest (y == x) (is_in x ys) h)
    by rest false e = under (y == x) (is_in x ys) (is_in x (replace_first c b ys)) (c == x) rest h

replaced_in : (c b : ℕ) (cs : List ℕ) → is_in c cs ≡ true → is_in b (replace_first c b cs) ≡ true
replaced_in c b [] h = absurd (cc)
replaced_in c b (y ∷ ys) h = by (replaced_in c b ys) (y == c) refl
  where
    there : (y == c) ≡ false → (is_in c ys ≡ true → is_in b (replace_first c b ys) ≡ true) → ((y == c) ≡ true) ⊎ (is_in c ys ≡ true) → is_in b (y ∷ replace_first c b ys) ≡ true
    there e rest (inl k) = absurd (not_true k e)
    there e rest (inr k) = behind (y == b) (is_in b (replace_first c b ys)) (rest k)

    by : (is_in c ys ≡ true → is_in b (replace_first c b ys) ≡ true) → (t : Bool) → (y == c) ≡ t → is_in b (cond t (b ∷ ys) (y ∷ replace_first c b ys)) ≡ true
    by rest true e = ahead (b == b) (is_in b ys) (eq-eqb b b refl)
    by rest false e = there e rest (head_or_rest (y == c) (is_in c ys) h)

dropped_stays : (x c : ℕ) (cs : List ℕ) → is_in x cs ≡ true → (is_in x (drop_first c cs) || c == x) ≡ true
dropped_stays x c [] h = absurd (cc)
dropped_stays x c (y ∷ ys) h = by (dropped_stays x c ys) (y == c) refl
  where
    here : (y == c) ≡ true → ((y == x) ≡ true) ⊎ (is_in x ys ≡ true) → (is_in x ys || c == x) ≡ true
    here e (inl k) = behind (is_in x ys) (c == x) (subst (λ (z : ℕ). (z == x) ≡ true) (eqb-true y c e) k)
    here e (inr k) = ahead (is_in x ys) (c == x) k

    by : (is_in x ys ≡ true → (is_in x (drop_first c ys) || c == x) ≡ true) → (t : Bool) → (y == c) ≡ t → (is_in x (cond t ys (y ∷ drop_first c ys)) || c == x) ≡ true
    by rest true e = here e (head_or_rest (y == x) (is_in x ys) h)
    by rest false e = under (y == x) (is_in x ys) (is_in x (drop_first c ys)) (c == x) rest h

-- Links after a change of one node

-- a link of which the change keeps the child, or which it loses
kept_or : (nodes : Nodes) (id : ℕ) (f : Node → Node) (y x : ℕ) (lost : Bool) → (y ≡ id → (n : Node) → is_in x n.children ≡ true → (is_in x (f n).children || lost) ≡ true)
    → has_child (node_at nodes) y x ≡ true → (has_child (node_at (change id f nodes)) y x || lost) ≡ true
kept_or nodes id f y x lost keeps h =
    ap (λ (o : Option Node). is_in x (option_map_or (λ n. n.children) o []) || lost) (node_at_change f id nodes y) ∙ by (y == id) refl (node_at nodes y) h
  where
    by : (t : Bool) → (y == id) ≡ t → (o : Option Node) → is_in x (option_map_or (λ n. n.children) o []) ≡ true
        → (is_in x (option_map_or (λ n. n.children) (cond t (option_map f o) o) []) || lost) ≡ true
    by true e None k = absurd (cc)
    by true e (Some n) k = keeps (eqb-true y id e) n k
    by false e o k = ahead (is_in x (option_map_or (λ n. n.children) o [])) lost k

-- a link that the change makes
made_by : (nodes : Nodes) (id : ℕ) (f : Node → Node) (c : ℕ) → is_there (node_at nodes) id ≡ true → ((n : Node) → node_at nodes id ≡ Some n → is_in c (f n).children ≡ true)
    → has_child (node_at (change id f nodes)) id c ≡ true
made_by nodes id f c there makes =
    ap (λ (o : Option Node). is_in c (option_map_or (λ n. n.children) o []))
    (node_at_change f id nodes id ∙ ap (λ t. cond t (option_map f (node_at nodes id)) (node_at nodes id)) (eq-eqb id id refl)) ∙ by (node_at nodes id) refl there
  where
    by : (o : Option Node) → node_at nodes id ≡ o → is_some o ≡ true → is_in c (option_map_or (λ n. n.children) (option_map f o) []) ≡ true
    by None e k = absurd (cc)
    by (Some n) e k = makes n e

both_true : (p q : Bool) → p ≡ true → q ≡ true → (p && q) ≡ true
both_true true q h k = k
both_true false q h k = absurd (cc)

-- a link to a child that may go
gone_or : (p c y x : ℕ) (still : Bool) → y ≡ p → (still || c == x) ≡ true → (still || (p == y && c == x)) ≡ true
gone_or p c y x still same h = by (head_or_rest still (c == x) h)
  where
    by : (still ≡ true) ⊎ ((c == x) ≡ true) → (still || (p == y && c == x)) ≡ true
    by (inl k) = ahead still (p == y && c == x) k
    by (inr k) = behind still (p == y && c == x) (both_true (p == y) (c == x) (eq-eqb p y (sym same)) k)

childless : (o : Option Node) (x : ℕ) → is_some o ≡ false → is_in x (option_map_or (λ n. n.children) o []) ≡ true → ⊥
childless None x e h = cc
childless (Some n) x e h = cc

-- a link of a node that an edit leaves there is kept, or it is the link that the edit takes away
pub link_fate : (g : SceneGraph) (e : Edit) (y x : ℕ) → IsGraphWithinLimits g → None ≡ fault_of g e → has_child (node_at g.nodes) y x ≡ true → is_there (node_at (effect g e).nodes) y ≡ true
    → (has_child (node_at (effect g e).nodes) y x || is_link (lost_link e) y x) ≡ true
link_fate g (edit.Make id kind) y x within none h there =
    ahead (has_child (node_at (effect g (edit.Make id kind)).nodes) y x) false (by (y == id) refl (node_at_put_any (record { serial = g.next_serial; born = g.time; kind = kind; children = [] }) id g.nodes y))
  where
    free : is_some (node_at g.nodes id) ≡ false
    free = when_not (is_some (node_at g.nodes id)) (fault.Taken id) (all_passed (make_rules g.nodes id) none).0

    by : (t : Bool) → (y == id) ≡ t → node_at (effect g (edit.Make id kind)).nodes y ≡ cond t (Some (record { serial = g.next_serial; born = g.time; kind = kind; children = [] })) (node_at g.nodes y)
        → has_child (node_at (effect g (edit.Make id kind)).nodes) y x ≡ true
    by true e is = absurd (childless (node_at g.nodes id) x free (subst (λ (z : ℕ). has_child (node_at g.nodes) z x ≡ true) (eqb-true y id e) h))
    by false e is = ap (λ (o : Option Node). is_in x (option_map_or (λ n. n.children) o [])) is ∙ h
link_fate g (edit.Delete id) y x within none h there =
    ahead (has_child (node_at (effect g (edit.Delete id)).nodes) y x) false (by (y == id) (node_at_without id g.nodes y within.rising))
  where
    by : (t : Bool) → node_at (effect g (edit.Delete id)).nodes y ≡ cond t None (node_at g.nodes y) → has_child (node_at (effect g (edit.Delete id)).nodes) y x ≡ true
    by true is = absurd (not_true there (ap (λ (o : Option Node). is_some o) is))
    by false is = ap (λ (o : Option Node). is_in x (option_map_or (λ n. n.children) o [])) is ∙ h
link_fate g (edit.Add p c) y x within none h there =
    kept_or g.nodes p (node_after g.time (edit.Add p c)) y x false (λ same n k. ahead (is_in x (n.children ++ c ∷ [])) false (appended_stays x c n.children k)) h
link_fate g (edit.Insert p i c) y x within none h there =
    kept_or g.nodes p (node_after g.time (edit.Insert p i c)) y x false (λ same n k. ahead (is_in x (insert n.children i c)) false (inserted_stays x c i n.children k)) h
link_fate g (edit.Replace p c b) y x within none h there =
    kept_or g.nodes p (node_after g.time (edit.Replace p c b)) y x (p == y && c == x)
    (λ same n k. gone_or p c y x (is_in x (replace_first c b n.children)) same (replaced_stays x c b n.children k)) h
link_fate g (edit.Remove p c) y x within none h there =
    kept_or g.nodes p (node_after g.time (edit.Remove p c)) y x (p == y && c == x)
    (λ same n k. gone_or p c y x (is_in x (drop_first c n.children)) same (dropped_stays x c n.children k)) h
link_fate g e y x within none h there =
    kept_or g.nodes (named_by e) (node_after g.time e) y x false (λ same n k. ahead (is_in x n.children) false k) h

no_not : (t : Bool) → not t ≡ false → t ≡ true
no_not true h = refl
no_not false h = absurd (cc)

moved : (f : ℕ → ℕ → Bool) (p c y x : ℕ) → (p == y && c == x) ≡ true → f p c ≡ true → f y x ≡ true
moved f p c y x h is = by (both (p == y) (c == x) h)
  where
    by : ((p == y) ≡ true) × ((c == x) ≡ true) → f y x ≡ true
    by k = subst (λ (z : ℕ). f z x ≡ true) (eqb-true p y k.0) (subst (λ (z : ℕ). f p z ≡ true) (eqb-true c x k.1) is)

-- the link that an edit asks for is there after it
pub asked_made : (g : SceneGraph) (e : Edit) (y x : ℕ) → None ≡ fault_of g e → is_link (asked_link e) y x ≡ true → has_child (node_at (effect g e).nodes) y x ≡ true
asked_made g (edit.Add p c) y x none h =
    moved (has_child (node_at (effect g (edit.Add p c)).nodes)) p c y x h
    (made_by g.nodes p (node_after g.time (edit.Add p c)) c (there_from g.nodes p (all_passed (add_rules g.nodes p c) (add_passed g p c none)).0) (λ n e. appended_in c n.children))
asked_made g (edit.Insert p i c) y x none h =
    moved (has_child (node_at (effect g (edit.Insert p i c)).nodes)) p c y x h
    (made_by g.nodes p (node_after g.time (edit.Insert p i c)) c (there_from g.nodes p (all_passed (insert_rules g.nodes p i c) (insert_passed g p i c none)).0) (λ n e. inserted_in c i n.children))
asked_made g (edit.Replace p c b) y x none h =
    let passed = all_passed (replace_rules g.nodes p c b) (replace_passed g p c b none) in
    let child : is_child g.nodes p c ≡ true = no_not (is_child g.nodes p c) (when_not (not (is_child g.nodes p c)) (fault.NotChild p c) passed.1.1.1.1.1.0) in
    moved (has_child (node_at (effect g (edit.Replace p c b)).nodes)) p b y x h
    (made_by g.nodes p (node_after g.time (edit.Replace p c b)) b (there_from g.nodes p passed.0)
    (λ n e. replaced_in c b n.children (sym (ap (λ (o : Option Node). is_in c (option_map_or (λ m. m.children) o [])) e) ∙ child)))
asked_made g e y x none h = absurd (cc)
