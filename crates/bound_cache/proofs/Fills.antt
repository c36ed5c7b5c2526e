-- Lists that give the same item everywhere, and what is read after a write.
use Rattle.std.proofs.Common.{◌≡◌, ℕ, zero, suc, ◌+◌, ◌<◌, ◌≤◌, max, Bool, true, false, cond, ◌==◌, List, [], ◌∷◌, Option, None, ◌++◌, map, length, get_or, set, refl, sym, ◌∙◌, ap, subst, arith, get_or-set_same, get_or-set_other, length-set, below_more, nat_lt}
use Rattle.std.proofs.Math.Nat.{le-max_left, le-max_right, max-le}
use Rattle.std.proofs.lemmas.Bool.{eqb-true}
use Rattle.std.proofs.lemmas.Bool.Decides.{nat_tests}
use Rattle.std.specs.Option.{option_map}
use Rattle.fx_math.specs.declared.boxes.Box3.{Box3}
use Rattle.fx_math.specs.Views.{bounds_of}
use Rattle.bound_cache.specs.declared.marks.Mark.{Mark}
use Rattle.bound_cache.specs.declared.marks.Mark.TheVariants.{Clean, Noted, Touched, Same, Changed}
use Rattle.bound_cache.specs.Sizes.{AreCleanFrom}
use Rattle.pf_model.specs.Graphs.{Look}
use Rattle.bound_cache.specs.Tables.{TableState, with_mark, with_box, is_under_way, rested}

-- one more of the same
pub same_more : {X : Type 0} (xs : List X) (x : X) → ((k : ℕ) → get_or xs k x ≡ x) → (k : ℕ) → get_or (xs ++ x ∷ []) k x ≡ x
same_more [] x h zero = refl
same_more [] x h (suc k) = refl
same_more (y ∷ ys) x h zero = h 0
same_more (y ∷ ys) x h (suc k) = same_more ys x (λ j. h (suc j)) k

pub same_past : {X : Type 0} (xs : List X) (x : X) → ((k : ℕ) → k < length xs → get_or xs k x ≡ x) → (k : ℕ) → get_or xs k x ≡ x
same_past [] x h k = refl
same_past (y ∷ ys) x h zero = h 0 (omega arith)
same_past (y ∷ ys) x h (suc k) = same_past ys x (λ j l. h (suc j) (omega arith)) k

differ : (k i : ℕ) → (k == i) ≡ false → k ≡ i → ⊥
differ k i e s = absurd (grind (arith, nat_tests))

-- what is read of a list in which one place was written
pub read_set : {X : Type 0} (xs : List X) (i : ℕ) (x d : X) (k : ℕ) → i < length xs → get_or (set xs i x) k d ≡ cond (k == i) x (get_or xs k d)
read_set xs i x d k l = by (k == i) refl
  where
    by : (b : Bool) → (k == i) ≡ b → get_or (set xs i x) k d ≡ cond b x (get_or xs k d)
    by true e = subst (λ (j : ℕ). get_or (set xs i x) j d ≡ x) (sym (eqb-true k i e)) (get_or-set_same xs i x d l)
    by false e = get_or-set_other xs i k x d (differ k i e)

pub read_map : {X Y : Type 0} (f : X → Y) (b : Bool) (x y : X) → f (cond b x y) ≡ cond b (f x) (f y)
read_map f true x y = refl
read_map f false x y = refl

-- what is read of a list whose items were all taken by f
pub read_each : {X Y : Type 0} (f : X → Y) (xs : List X) (k : ℕ) (d : X) → get_or (map f xs) k (f d) ≡ f (get_or xs k d)
read_each f [] k d = refl
read_each f (x ∷ xs) zero d = refl
read_each f (x ∷ xs) (suc k) d = read_each f xs k d

-- the table of two lists
abbrev pub table : List (Option Box3) → List Mark → TableState
table bs ms = record { boxes = λ k. option_map bounds_of (get_or bs k None); marks = λ k. get_or ms k Clean }

pub marked_table : (bs : List (Option Box3)) (ms : List Mark) (id : ℕ) (m : Mark) → id < length ms → table bs (set ms id m) ≡ with_mark id m (table bs ms)
marked_table bs ms id m l = λ i. record { boxes = λ k. option_map bounds_of (get_or bs k None); marks = λ k. read_set ms id m Clean k l i }

pub boxed_table : (bs : List (Option Box3)) (ms : List Mark) (id : ℕ) (b : Option Box3) → id < length bs → table (set bs id b) ms ≡ with_box id (option_map bounds_of b) (table bs ms)
boxed_table bs ms id b l = λ i. record {
  boxes = λ k. (ap (λ x. option_map bounds_of x) (read_set bs id b None k l) ∙ read_map (λ x. option_map bounds_of x) (k == id) b (get_or bs k None)) i;
  marks = λ k. get_or ms k Clean;
}

-- the same where the boxes have had further entries
pub boxed_longer : (bs longer : List (Option Box3)) (ms : List Mark) (id : ℕ) (b : Option Box3) → id < length longer → ((k : ℕ) → get_or longer k None ≡ get_or bs k None) → table (set longer id b) ms ≡ with_box id (option_map bounds_of b) (table bs ms)
boxed_longer bs longer ms id b l same =
    boxed_table longer ms id b l
    ∙ (λ i. with_box id (option_map bounds_of b) (record { boxes = λ k. option_map bounds_of (same k i); marks = λ k. get_or ms k Clean }))

-- marks of which the first are those that are kept when a clean has ended
pub record RestedBelow (look : Look) (count : ℕ) (was marks : List Mark) : Type 0 where
  pub same_length : length marks ≡ length was
  pub before : (k : ℕ) → k < count → get_or marks k Clean ≡ rested (look k) (get_or was k Clean)
  pub after : (k : ℕ) → count ≤ k → get_or marks k Clean ≡ get_or was k Clean

pub rested_none : (look : Look) (marks : List Mark) → RestedBelow look 0 marks marks
rested_none look marks = record { same_length = refl; before = λ k below. absurd (omega arith); after = λ k above. refl }

pub rested_more : (look : Look) (place : ℕ) (m : Mark) (was marks : List Mark) → place < length marks → m ≡ rested (look place) (get_or marks place Clean) → RestedBelow look place was marks → RestedBelow look (place + 1) was (set marks place m)
rested_more look place m was marks l e some = record {
  same_length = length-set marks place m ∙ some.same_length;
  before = below_more (λ k. get_or (set marks place m) k Clean ≡ rested (look k) (get_or was k Clean)) place
      (λ k below. get_or-set_other marks place k m Clean (λ s. absurd (omega arith)) ∙ some.before k below)
      (get_or-set_same marks place m Clean l ∙ e ∙ ap (λ w. rested (look place) w) (some.after place (omega arith)));
  after = λ k above. get_or-set_other marks place k m Clean (λ s. absurd (omega arith)) ∙ some.after k (omega arith);
}

-- a mark that is kept as it is
pub rested_already : (look : Look) (place : ℕ) (was marks : List Mark) → is_under_way (get_or marks place Clean) ≡ false → RestedBelow look place was marks → RestedBelow look (place + 1) was marks
rested_already look place was marks still some = record {
  same_length = some.same_length;
  before = below_more (λ k. get_or marks k Clean ≡ rested (look k) (get_or was k Clean)) place some.before
      (same (get_or marks place Clean) still ∙ ap (λ w. rested (look place) w) (some.after place (omega arith)));
  after = λ k above. some.after k (omega arith);
}
  where
    same : (m : Mark) → is_under_way m ≡ false → m ≡ rested (look place) m
    same Clean h = refl
    same Noted h = refl
    same Touched h = absurd (cc)
    same Same h = absurd (cc)
    same Changed h = absurd (cc)

-- all marks, where those from a number on were clean
pub rested_all : (look : Look) (first : ℕ) (was marks : List Mark) → ((k : ℕ) → k < first → get_or marks k Clean ≡ rested (look k) (get_or was k Clean)) → ((k : ℕ) → first ≤ k → get_or marks k Clean ≡ get_or was k Clean)
    → AreCleanFrom first was → (id : ℕ) → get_or marks id Clean ≡ rested (look id) (get_or was id Clean)
rested_all look first was marks before after clean id = by (nat_lt id first) refl
  where
    by : (b : Bool) → nat_lt id first ≡ b → get_or marks id Clean ≡ rested (look id) (get_or was id Clean)
    by true e = let l : id < first = grind (arith, nat_tests) in before id l
    by false e =
        let l : first ≤ id = grind (arith, nat_tests) in
        let none : get_or was id Clean ≡ Clean = clean.clean id l in
        after id l ∙ none ∙ sym (ap (λ w. rested (look id) w) none)

pub rested_from : (first : ℕ) (was marks : List Mark) → ((k : ℕ) → first ≤ k → get_or marks k Clean ≡ get_or was k Clean) → AreCleanFrom first was → AreCleanFrom first marks
rested_from first was marks after clean = record { narrow = clean.narrow; clean = λ k l. after k l ∙ clean.clean k l }

-- a mark moves up where marks are clean from
pub clean_above : (marks : List Mark) (first id : ℕ) (m : Mark) → id < 65536 → AreCleanFrom first marks → AreCleanFrom (max first (id + 1)) (set marks id m)
clean_above marks first id m l from =
    let left : first ≤ max first (id + 1) = le-max_left first (id + 1) in
    let right : id + 1 ≤ max first (id + 1) = le-max_right first (id + 1) in
    record {
      narrow = max-le from.narrow (omega arith);
      clean = λ k above. get_or-set_other marks id k m Clean (λ e. absurd (omega arith)) ∙ from.clean k (omega arith);
    }

pub all_clean : (marks : List Mark) → ((k : ℕ) → get_or marks k Clean ≡ Clean) → AreCleanFrom 0 marks
all_clean marks clean = record { narrow = omega arith; clean = λ k l. clean k }
