-- The rule of the table of claims. Each item has a word, which is 0 until somebody claims the item.
use Rattle.std.specs.Prelude.{◌≡◌, ◌≢◌, ℕ, ◌+◌, ◌<◌, List, [], ◌∷◌, length, slice_get, slice_index, Some, None}
use mathlib.Core.Option.{none, some}
use lib.ListN.{get_elem?}
use Rattle.atomic_table.specs.Table.{State}
use Rattle.self_scheduling.specs.declared.view.View.{View}

-- the threads for which all these seats answer
abbrev pub threads_of : List View → ℕ
threads_of [] = 0
threads_of (v ∷ views) = v.threads + threads_of views

module _ {T : Type 0} (items : List T) (leaves : ℕ → T → T → Type 0) where
  pub record AreClaimed (threads : ℕ) (s : State T View) : Type 0 where
    pub words : length s.words ≡ length items
    pub homes : length s.homes ≡ length items
    -- an item that nobody claimed is as it was
    pub unclaimed : (k : ℕ) (x : T) → slice_get items k ≡ Some x → slice_index s.words k ≡ 0 → get_elem? s.homes k ≡ some (some x)
    -- one that was claimed and given back is what the call leaves
    pub called : (k : ℕ) (x y : T) → slice_get items k ≡ Some x → slice_index s.words k ≢ 0 → get_elem? s.homes k ≡ some (some y)
        → leaves k x y
    -- one that is out is held by a seat, and what a seat holds is out; no other seat holds it
    pub out : (k : ℕ) → get_elem? s.homes k ≡ some none → (slice_index s.words k ≢ 0)
        × ((id : ℕ) × (v : View) × (get_elem? s.views id ≡ some v) × (v.held ≡ Some k))
    pub held : (id : ℕ) (v : View) (k : ℕ) → get_elem? s.views id ≡ some v → v.held ≡ Some k → get_elem? s.homes k ≡ some none
    pub once : (id other : ℕ) (v w : View) (k : ℕ) → get_elem? s.views id ≡ some v → get_elem? s.views other ≡ some w
        → v.held ≡ Some k → w.held ≡ Some k → id ≡ other
    -- a seat that answers for no thread holds nothing
    pub idle : (id : ℕ) (v : View) → get_elem? s.views id ≡ some v → v.threads ≡ 0 → v.held ≡ None
    pub all : threads_of s.views ≡ threads
    pub past : (id : ℕ) (v : View) (k : ℕ) → get_elem? s.views id ≡ some v → k < v.past → slice_index s.words k ≢ 0
