-- A visit goes through the parts of a node and then settles it.
use Rattle.std.proofs.Common.{◌≡◌, ℕ, ◌+◌, ◌-◌, ◌<◌, ◌≤◌, Bool, true, false, nat_lt, List, length, get_or, refl, sym, ◌∙◌, ap, subst, arith}
use Rattle.std.proofs.lemmas.Bool.Decides.{nat_tests}
use Rattle.std.specs.List.{AllByRecursion}
use Rattle.pf_model.specs.Graphs.{Look}
use Rattle.pf_model.specs.Laws.{AreLow}
use Rattle.bound_cache.specs.declared.marks.Mark.TheVariants.{Clean}
use Rattle.bound_cache.specs.Tables.{TableState, is_done, parts, settled, StaysHalfway, Proceeds, FitsLevels}
use Rattle.bound_cache.proofs.Parts.{parts_fit, some_level, all_at, all_from}
use Rattle.bound_cache.proofs.Marking.{moves_same, moves_trans, moves_done}
use Rattle.bound_cache.proofs.Settling.{settled_right, settled_done, settled_proceeds}
use borrow.Author.Count.{below_more}

pub proceeds_same : (look : Look) (t : TableState) → Proceeds look t t
proceeds_same look t = record { on = λ k. moves_same (t.marks k); kept = λ calm is k h. refl; still = λ calm is. is }

pub proceeds_trans : (look : Look) (t u v : TableState) → Proceeds look t u → Proceeds look u v → Proceeds look t v
proceeds_trans look t u v p q = record {
  on = λ k. moves_trans (t.marks k) (u.marks k) (v.marks k) (p.on k) (q.on k);
  kept = λ calm is k h. q.kept calm (p.still calm is) k h ∙ p.kept calm is k h;
  still = λ calm is. q.still calm (p.still calm is);
}

-- the first of the parts of a node visited, each with so many levels
pub record VisitedSome (look : Look) (levels : ℕ) (ids : List ℕ) (count : ℕ) (t u : TableState) : Type 0 where
  pub proceeds : Proceeds look t u
  pub right : AreLow look → AllByRecursion (FitsLevels look levels) ids → StaysHalfway look t u
  pub done : 0 < levels → (k : ℕ) → k < count → is_done (u.marks (get_or ids k 0)) ≡ true

pub visited_none : (look : Look) (levels : ℕ) (ids : List ℕ) (t : TableState) → VisitedSome look levels ids 0 t t
visited_none look levels ids t = record { proceeds = proceeds_same look t; right = λ low fit was half. half; done = λ l k below. absurd (omega arith) }

pub visited_more : (look : Look) (levels : ℕ) (ids : List ℕ) (i : ℕ) (t u v : TableState) → i < length ids → VisitedSome look levels ids i t u
    → (0 < levels → is_done (v.marks (get_or ids i 0)) ≡ true) → Proceeds look u v
    → (AreLow look → FitsLevels look levels (get_or ids i 0) → StaysHalfway look u v)
    → VisitedSome look levels ids (i + 1) t v
visited_more look levels ids i t u v below some done proceeds right = record {
  proceeds = proceeds_trans look t u v some.proceeds proceeds;
  right = λ low fit was half. right low (all_at (FitsLevels look levels) ids i fit below) was (some.right low fit was half);
  done = λ l. below_more (λ k. is_done (v.marks (get_or ids k 0)) ≡ true) i (λ k b. moves_done (u.marks (get_or ids k 0)) (v.marks (get_or ids k 0)) (some.done l k b) (proceeds.on (get_or ids k 0))) (done l);
}

-- a part at which there was nothing to do
pub visited_already : (look : Look) (levels : ℕ) (ids : List ℕ) (i : ℕ) (t u : TableState) → i < length ids → VisitedSome look levels ids i t u → is_done (u.marks (get_or ids i 0)) ≡ true → VisitedSome look levels ids (i + 1) t u
visited_already look levels ids i t u below some done = visited_more look levels ids i t u u below some (λ l. done) (proceeds_same look u) (λ low fit was half. half)

pub visited_proceeds : (look : Look) (id : ℕ) (t u v : TableState) → Proceeds look t u → v ≡ settled look id u → Proceeds look t v
visited_proceeds look id t u v proceeds e =
    subst (λ (w : TableState). Proceeds look t w) (sym e) (proceeds_trans look t u (settled look id u) proceeds (settled_proceeds look u id))

pub visited_done : (look : Look) (id : ℕ) (u v : TableState) → v ≡ settled look id u → is_done (v.marks id) ≡ true
visited_done look id u v e = subst (λ (w : TableState). is_done (w.marks id) ≡ true) (sym e) (settled_done look u id)

-- a node of which all parts were visited
all_visited : (look : Look) (levels id done : ℕ) (t u : TableState) → 0 < levels → length (parts (look id)) ≤ done → VisitedSome look (levels - 1) (parts (look id)) done t u
    → AreLow look → FitsLevels look levels id → StaysHalfway look t (settled look id u)
all_visited look levels id done t u some_levels all some low fits was half =
    let fit : AllByRecursion (FitsLevels look (levels - 1)) (parts (look id)) = parts_fit look levels id some_levels fits in
    settled_right was look u id low
    (all_from (λ c. is_done (u.marks c) ≡ true) (parts (look id)) (λ k l. some.done (some_level look (levels - 1) (get_or (parts (look id)) k 0) (all_at (FitsLevels look (levels - 1)) (parts (look id)) k fit l)) k (omega arith)))
    (some.right low fit was half)

pub visited_right : (look : Look) (levels id done : ℕ) (ids : List ℕ) (t u v : TableState) → 0 < levels → ids ≡ parts (look id) → length ids ≤ done → VisitedSome look (levels - 1) ids done t u → v ≡ settled look id u
    → AreLow look → FitsLevels look levels id → StaysHalfway look t v
visited_right look levels id done ids t u v some_levels are all some e low fits =
    subst (λ (w : TableState). StaysHalfway look t w) (sym e)
    (all_visited look levels id done t u some_levels (subst (λ (qs : List ℕ). length qs ≤ done) are all) (subst (λ (qs : List ℕ). VisitedSome look (levels - 1) qs done t u) are some) low fits)

-- the ids below a number reached
pub record ReachedBelow (look : Look) (count : ℕ) (t u : TableState) : Type 0 where
  pub done : (id : ℕ) → id < count → is_done (u.marks id) ≡ true
  pub proceeds : Proceeds look t u
  pub right : AreLow look → StaysHalfway look t u

pub reached_none : (look : Look) (t : TableState) → ReachedBelow look 0 t t
reached_none look t = record { done = λ id below. absurd (omega arith); proceeds = proceeds_same look t; right = λ low was half. half }

pub reached_more : (look : Look) (id : ℕ) (t u v : TableState) → ReachedBelow look id t u → is_done (v.marks id) ≡ true → Proceeds look u v → (AreLow look → StaysHalfway look u v) → ReachedBelow look (id + 1) t v
reached_more look id t u v some done proceeds right = record {
  done = below_more (λ k. is_done (v.marks k) ≡ true) id (λ k below. moves_done (u.marks k) (v.marks k) (some.done k below) (proceeds.on k)) done;
  proceeds = proceeds_trans look t u v some.proceeds proceeds;
  right = λ low was half. right low was (some.right low was half);
}

-- from a number on all were clean, so there was nothing to do
pub reached_all : (look : Look) (count first : ℕ) (t u : TableState) → first ≤ count → ((id : ℕ) → first ≤ id → t.marks id ≡ Clean) → ReachedBelow look count t u → (id : ℕ) → is_done (u.marks id) ≡ true
reached_all look count first t u all clean some id = by (nat_lt id count) refl
  where
    by : (b : Bool) → nat_lt id count ≡ b → is_done (u.marks id) ≡ true
    by true e = let l : id < count = grind (arith, nat_tests) in some.done id l
    by false e =
        let l : count ≤ id = grind (arith, nat_tests) in
        let was : is_done (t.marks id) ≡ true = ap is_done (clean id (omega arith)) in
        moves_done (t.marks id) (u.marks id) was (some.proceeds.on id)
