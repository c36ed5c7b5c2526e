-- A copy after some entries of an update list.
use Rattle.std.proofs.Common.{◌≡◌, ℕ, zero, suc, ◌+◌, ◌<◌, Bool, true, false, cond, ◌||◌, ◌==◌, List, [], ◌∷◌, ◌++◌, map, length, set, take, Option, Some, None, refl, sym, ◌∙◌, ap, subst, arith}
use Rattle.std.specs.List.{AllByRecursion, fold}
use Rattle.std.proofs.lemmas.Bool.Decides.{nat_tests}
use Rattle.std.proofs.lemmas.List.{take_more}
use Rattle.std.proofs.lemmas.List.Sums.{fold-append}
use Rattle.std.proofs.lemmas.List.Folds.{list_any_more}
use Rattle.std.proofs.Math.Seq.{take-length}
use Rattle.fx_math.specs.Plain.{Bounds}
use Rattle.pf_model.specs.declared.nodes.Node.{Node}
use Rattle.pf_model.specs.Graphs.{Look, Nodes, node_at, scene_node}
use Rattle.pf_model.specs.Limits.{IsRising, KeepsLimits}
use Rattle.pf_model.specs.Copies.{UpdateList, updated, updated_by, updates_of, copy_of}
use Rattle.pf_model.proofs.Places.{node_at_step}
use Rattle.pf_model.proofs.Histories.{limits_empty}
use Rattle.bound_cache.specs.Caches.{CacheState, box_at, touched_at, noted_at, AreBoxesOf, ChangesAreTouched, AreNoted, IsCalm}
use Rattle.bound_cache.proofs.Parts.{none_box}
use Rattle.multibuffer.specs.StageCopies.{HasRightBoxes, IsTended, entry_at, is_named}
use Rattle.multibuffer.proofs.Handing.{handed, handed_entry, handed_more, handed_all}

-- the first entries taken
pub record TakenSome (us : UpdateList) (was : Nodes) (kept : ℕ → Option Bounds) (first : ℕ → Bool) (i : ℕ) (left : UpdateList) (nodes : Nodes) (boxes : ℕ → Option Bounds) (touched noted : ℕ → Bool) : Type 0 where
  pub handed_back : left ≡ handed (node_at was) i us
  pub nodes_are : nodes ≡ updated_by was (take i us)
  pub looks : (k : ℕ) → is_named k (take i us) ≡ false → node_at nodes k ≡ node_at was k
  pub boxes_are : (k : ℕ) → boxes k ≡ kept k
  pub touched_are : (k : ℕ) → touched k ≡ is_named k (take i us)
  pub grows : (k : ℕ) → noted k ≡ false → first k ≡ false

pub taken_none : (us : UpdateList) (was : Nodes) (boxes : ℕ → Option Bounds) (touched noted : ℕ → Bool) → ((k : ℕ) → touched k ≡ false) → TakenSome us was boxes noted 0 us was boxes touched noted
taken_none us was boxes touched noted none = record {
  handed_back = refl;
  nodes_are = refl;
  looks = λ k n. refl;
  boxes_are = λ k. refl;
  touched_are = none;
  grows = λ k e. e;
}

all_at : (P : ℕ → Type 0) (us : UpdateList) (i : ℕ) → AllByRecursion P (map (λ e. e.0) us) → i < length us → P (entry_at us i).0
all_at P [] i h l = absurd (omega arith)
all_at P (u ∷ us) zero h l = h.0
all_at P (u ∷ us) (suc i) h l = all_at P us i h.1 (omega arith)

-- in a rising list no entry before names the id
rising_before : (us : UpdateList) (i : ℕ) → IsRising (map (λ e. e.0) us) → i < length us → is_named (entry_at us i).0 (take i us) ≡ false
rising_before [] i rising l = absurd (omega arith)
rising_before (u ∷ us) zero rising l = refl
rising_before (u ∷ us) (suc i) rising l =
    ap (λ b. b || is_named (entry_at us i).0 (take i us)) (other u.0 (entry_at us i).0 (all_at (λ y. u.0 < y) us i rising.0 (omega arith)))
    ∙ rising_before us i rising.1 (omega arith)
  where
    other : (a b : ℕ) → a < b → (a == b) ≡ false
    other a b k = grind (arith, nat_tests)

or_false : (a b : Bool) → (a || b) ≡ false → (a ≡ false) × (b ≡ false)
or_false true b h = absurd (cc)
or_false false b h = (refl, h)

or_turned : (a b : Bool) → (a || b) ≡ (b || a)
or_turned true true = refl
or_turned true false = refl
or_turned false true = refl
or_turned false false = refl

eq_turned : (a b : ℕ) → (a == b) ≡ (b == a)
eq_turned a b = grind (arith, nat_tests)

named_more : (us : UpdateList) (i k : ℕ) → i < length us → is_named k (take (i + 1) us) ≡ (is_named k (take i us) || (entry_at us i).0 == k)
named_more us i k l = list_any_more (λ (e : ℕ × Option Node). e.0 == k) us i (0, None) l

pub taken_more : (us : UpdateList) (was : Nodes) (kept : ℕ → Option Bounds) (first : ℕ → Bool) (i id : ℕ) (left next : UpdateList) (nodes after : Nodes) (boxes boxes' : ℕ → Option Bounds) (touched touched' noted noted' : ℕ → Bool)
    → IsRising (map (λ e. e.0) us) → i < length us → TakenSome us was kept first i left nodes boxes touched noted
    → id ≡ (entry_at left i).0 → after ≡ updated nodes (entry_at left i) → ((k : ℕ) → node_at after k ≡ cond (k == id) (entry_at left i).1 (node_at nodes k)) → next ≡ set left i (id, node_at nodes id)
    → ((k : ℕ) → boxes' k ≡ boxes k) → ((k : ℕ) → touched' k ≡ (k == id || touched k)) → ((k : ℕ) → noted' k ≡ (k == id || noted k))
    → TakenSome us was kept first (i + 1) next after boxes' touched' noted'
taken_more us was kept first i id left next nodes after boxes boxes' touched touched' noted noted' rising l some id_is after_is looks next_is boxes_same touches notes = record {
  handed_back =
      next_is
      ∙ ap (λ (x : List (ℕ × Option Node)). set x i (id, node_at nodes id)) some.handed_back
      ∙ ap (λ (e : ℕ × Option Node). set (handed (node_at was) i us) i e) (λ j. (own j, node_is j))
      ∙ handed_more (node_at was) i us l;
  nodes_are =
      after_is
      ∙ ap (λ (e : ℕ × Option Node). updated nodes e) entry
      ∙ ap (λ (ns : Nodes). updated ns (entry_at us i)) some.nodes_are
      ∙ sym (fold-append updated was (take i us) (entry_at us i ∷ []))
      ∙ ap (λ (xs : UpdateList). fold updated was xs) (sym (take_more us i (0, None) l));
  looks = λ k n.
      let both : (is_named k (take i us) ≡ false) × (((entry_at us i).0 == k) ≡ false) = or_false (is_named k (take i us)) ((entry_at us i).0 == k) (sym (named_more us i k l) ∙ n) in
      looks k
      ∙ ap (λ b. cond b (entry_at left i).1 (node_at nodes k)) (ap (λ x. k == x) own ∙ eq_turned k (entry_at us i).0 ∙ both.1)
      ∙ some.looks k both.0;
  boxes_are = λ k. boxes_same k ∙ some.boxes_are k;
  touched_are = λ k.
      touches k
      ∙ ap (λ b. k == id || b) (some.touched_are k)
      ∙ ap (λ x. k == x || is_named k (take i us)) own
      ∙ ap (λ b. b || is_named k (take i us)) (eq_turned k (entry_at us i).0)
      ∙ or_turned ((entry_at us i).0 == k) (is_named k (take i us))
      ∙ sym (named_more us i k l);
  grows = λ k e. some.grows k (or_false (k == id) (noted k) (sym (notes k) ∙ e)).1;
}
  where
    entry : entry_at left i ≡ entry_at us i
    entry = ap (λ (x : UpdateList). entry_at x i) some.handed_back ∙ handed_entry (node_at was) i us

    own : id ≡ (entry_at us i).0
    own = id_is ∙ ap (λ (e : ℕ × Option Node). e.0) entry

    node_is : node_at nodes id ≡ node_at was (entry_at us i).0
    node_is = ap (node_at nodes) own ∙ some.looks (entry_at us i).0 (rising_before us i rising l)

whole : (us : UpdateList) (i : ℕ) → i ≡ length us → take i us ≡ us
whole us i e = ap (λ n. take n us) e ∙ take-length us

-- all entries taken
pub record TakenAll (us : UpdateList) (was : Nodes) (kept : ℕ → Option Bounds) (first : ℕ → Bool) (left : UpdateList) (nodes : Nodes) (boxes : ℕ → Option Bounds) (touched noted : ℕ → Bool) : Type 0 where
  pub back : left ≡ updates_of (node_at was) (map (λ e. e.0) us)
  pub nodes_are : nodes ≡ updated_by was us
  pub looks : (k : ℕ) → is_named k us ≡ false → node_at nodes k ≡ node_at was k
  pub boxes_are : (k : ℕ) → boxes k ≡ kept k
  pub touched_are : (k : ℕ) → touched k ≡ is_named k us
  pub grows : (k : ℕ) → noted k ≡ false → first k ≡ false

pub taken_all : (us : UpdateList) (was : Nodes) (kept : ℕ → Option Bounds) (first : ℕ → Bool) (i : ℕ) (left : UpdateList) (nodes : Nodes) (boxes : ℕ → Option Bounds) (touched noted : ℕ → Bool) → i ≡ length us
    → TakenSome us was kept first i left nodes boxes touched noted → TakenAll us was kept first left nodes boxes touched noted
taken_all us was kept first i left nodes boxes touched noted e some = record {
  back = some.handed_back ∙ ap (λ n. handed (node_at was) n us) e ∙ handed_all (node_at was) us;
  nodes_are = some.nodes_are ∙ ap (λ (xs : UpdateList). updated_by was xs) (whole us i e);
  looks = λ k n. some.looks k (ap (λ (xs : UpdateList). is_named k xs) (whole us i e) ∙ n);
  boxes_are = some.boxes_are;
  touched_are = λ k. some.touched_are k ∙ ap (λ (xs : UpdateList). is_named k xs) (whole us i e);
  grows = some.grows;
}

-- one more list of a copy
pub copy_more : (lists : List UpdateList) (us : UpdateList) (was nodes : Nodes) → nodes ≡ updated_by was us → was ≡ copy_of lists → nodes ≡ copy_of (lists ++ us ∷ [])
copy_more lists us was nodes after before =
    after ∙ ap (λ (ns : Nodes). updated_by ns us) before ∙ sym (fold-append updated_by ((0, scene_node) ∷ []) lists (us ∷ []))

-- the changes of a copy are those of what the list names
pub changes_named : (us : UpdateList) (was nodes : Nodes) (touched : ℕ → Bool) → ((k : ℕ) → is_named k us ≡ false → node_at nodes k ≡ node_at was k) → ((k : ℕ) → touched k ≡ is_named k us) → ChangesAreTouched (node_at was) (node_at nodes) touched
changes_named us was nodes touched looks touches = record { same = λ k none. looks k (sym (touches k) ∙ none) }

-- what the list leaves alone is what a clean after it leaves alone
pub calm_named : (look : Look) (us : UpdateList) (touched calm : ℕ → Bool) → ((k : ℕ) → touched k ≡ is_named k us) → IsCalm look (λ k. is_named k us) calm → IsCalm look touched calm
calm_named look us touched calm touches is = record { untouched = λ k h. touches k ∙ is.untouched k h; below = is.below }

pub boxes_still : (was : Nodes) (kept boxes : ℕ → Option Bounds) → AreBoxesOf (node_at was) kept → ((k : ℕ) → boxes k ≡ kept k) → AreBoxesOf (node_at was) boxes
boxes_still was kept boxes right same = record { each = λ k. same k ∙ right.each k }

-- what was noted before some ids were touched is noted
pub noted_still : (look : Look) (before taken : ℕ → Bool) → ((k : ℕ) → taken k ≡ false → before k ≡ false) → AreNoted look before → AreNoted look taken
noted_still look before taken grows are = record { none = λ id e. are.none id (grows id e) }

-- the boxes of a cache that was cleaned after a list was taken
pub boxes_after : (was nodes : Nodes) (before taken clean : CacheState) → AreNoted (node_at was) (noted_at taken) → AreBoxesOf (node_at was) (box_at before)
    → ((k : ℕ) → box_at taken k ≡ box_at before k) → ChangesAreTouched (node_at was) (node_at nodes) (touched_at taken)
    → (AreBoxesOf (node_at was) (box_at taken) → ChangesAreTouched (node_at was) (node_at nodes) (touched_at taken) → AreNoted (node_at was) (noted_at taken) → AreBoxesOf (node_at nodes) (box_at clean))
    → HasRightBoxes (record { nodes = nodes; boxes = clean.boxes })
boxes_after was nodes before taken clean noted right same told cleans = record { each = (cleans (boxes_still was (box_at before) (box_at taken) right same) told noted).each }

-- the copy before the first list: its one node is touched, and the boxes are brought to it
pub record Opened (nodes : Nodes) (clean : CacheState) : Type 0 where
  pub right : HasRightBoxes (record { nodes = nodes; boxes = clean.boxes })
  pub tended : IsTended nodes clean

pub opened : (nodes : Nodes) (fresh touched clean : CacheState) → nodes ≡ ((0, scene_node) ∷ []) → ((k : ℕ) → box_at fresh k ≡ None) → ((k : ℕ) → box_at touched k ≡ box_at fresh k)
    → ((k : ℕ) → touched_at touched k ≡ (k == 0 || touched_at fresh k))
    → ((was : Look) → AreBoxesOf was (box_at touched) → ChangesAreTouched was (node_at nodes) (touched_at touched) → AreNoted was (noted_at touched) → KeepsLimits (node_at nodes) → AreBoxesOf (node_at nodes) (box_at clean))
    → ((was : Look) → ChangesAreTouched was (node_at nodes) (touched_at touched) → AreNoted was (noted_at touched) → AreNoted (node_at nodes) (noted_at clean))
    → ((k : ℕ) → touched_at clean k ≡ false) → Opened nodes clean
opened nodes fresh touched clean lone none same touches cleans notes untouched = record {
  right =
      boxes_after [] nodes fresh touched clean bare (record { each = λ k. none k ∙ sym (none_box (node_at []) k refl) }) same told
      (λ right changed noted. cleans (node_at []) right changed noted limits);
  tended = record { untouched = untouched; noted = notes (node_at []) told bare };
}
  where
    bare : AreNoted (node_at []) (noted_at touched)
    bare = record { none = λ k e. refl }

    looks : (k : ℕ) → node_at nodes k ≡ cond (k == 0) (Some scene_node) None
    looks k = ap (λ (ns : Nodes). node_at ns k) lone ∙ node_at_step k (0, scene_node) [] ∙ ap (λ b. cond b (Some scene_node) None) (eq_turned 0 k)

    told : ChangesAreTouched (node_at []) (node_at nodes) (touched_at touched)
    told = record { same = λ k untouched. looks k ∙ ap (λ b. cond b (Some scene_node) None) (or_false (k == 0) (touched_at fresh k) (sym (touches k) ∙ untouched)).0 }

    limits : KeepsLimits (node_at nodes)
    limits = subst (λ (ns : Nodes). KeepsLimits (node_at ns)) (sym lone) limits_empty.within.limits
