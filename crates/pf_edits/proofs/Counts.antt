-- The number of triangles of all records.
use Rattle.std.proofs.Common.{◌≡◌, ℕ, suc, zero-add, ◌+◌, ◌-◌, ◌*◌, ◌<◌, ◌≤◌, List, [], ◌∷◌, map, sum, length, set, Option, Some, None, is_some, true, refl, sym, ◌∙◌, ap, subst, arith}
use Rattle.std.specs.List.{AllByRecursion}
use Rattle.std.specs.Option.{option_and_then, option_map}
use Rattle.std.proofs.lemmas.List.Elements.{All-set, All-get_or, All-from_get_or}
use Rattle.std.proofs.lemmas.List.Sums.{sum_by-set, sum_by-cons, sum_by-le}
use Rattle.std.proofs.Math.ListN.{length-map}
use Rattle.slab.specs.Slab.{Slab, get}
use Rattle.pf_model.specs.declared.nodes.Kind.{Kind}
use Rattle.pf_model.specs.declared.nodes.Node.{Node}
use Rattle.pf_model.specs.Graphs.{node_at}
use Rattle.pf_model.specs.Totals.{triangles_of, triangle_count}
use Rattle.pf_model.proofs.Totals.{triangles_counted}
use Rattle.pf_edits.specs.declared.records.Record.{Record}
use Rattle.pf_edits.specs.Tables.{Slots, record_at, slots_of, slot_triangles, triangles_in, AreCounted}
use Rattle.pf_edits.specs.Extents.{kind_in, with_other_kind}
use Rattle.pf_edits.specs.Listed.{nodes_from, nodes_of}
use Rattle.pf_edits.proofs.Listed.{rising}

-- the number is far below what 32 bits hold
pub total_small : (slots : Slots) (t : ℕ) → AreCounted slots t → length slots ≡ 65536 → t ≤ 268435456
total_small slots t k wide =
    let l : triangles_in slots ≤ length slots * 4096 = sum_by-le slot_triangles 4096 slots k.light in
    let m : triangles_in slots ≤ 65536 * 4096 = subst (λ (n : ℕ). triangles_in slots ≤ n * 4096) wide l in
    let e : t ≡ triangles_in slots = k.total in
    omega (arith, m, e)

pub put_counted : (slots : Slots) (id t m : ℕ) (r : Record) → id < length slots → AreCounted slots t → record_at slots id ≡ None → m ≡ triangles_of r.node.kind → m ≤ 4096
    → AreCounted (set slots id (Some r)) (t + m)
put_counted slots id t m r within k absent is few = record {
  light = All-set (λ s. slot_triangles s ≤ 4096) slots id (Some r) (subst (λ (n : ℕ). n ≤ 4096) is few) k.light;
  total = total;
}
  where
    total : t + m ≡ triangles_in (set slots id (Some r))
    total =
        let e : triangles_in (set slots id (Some r)) + slot_triangles (record_at slots id) ≡ triangles_in slots + triangles_of r.node.kind = sum_by-set slot_triangles slots id (Some r) None within in
        let none : slot_triangles (record_at slots id) ≡ 0 = ap slot_triangles absent in
        let f : t ≡ triangles_in slots = k.total in
        omega (arith, e, none, f, is)

-- a record that is there counts
pub taken_few : (slots : Slots) (id t m : ℕ) (r : Record) → id < length slots → AreCounted slots t → record_at slots id ≡ Some r → m ≡ triangles_of r.node.kind → m ≤ t
taken_few slots id t m r within k there is =
    let e : triangles_in (set slots id None) + slot_triangles (record_at slots id) ≡ triangles_in slots + 0 = sum_by-set slot_triangles slots id None None within in
    let some : slot_triangles (record_at slots id) ≡ triangles_of r.node.kind = ap slot_triangles there in
    let f : t ≡ triangles_in slots = k.total in
    omega (arith, e, some, f, is)

pub take_counted : (slots : Slots) (id t m : ℕ) (r : Record) → id < length slots → AreCounted slots t → record_at slots id ≡ Some r → m ≡ triangles_of r.node.kind
    → AreCounted (set slots id None) (t - m)
take_counted slots id t m r within k there is = record {
  light = All-set (λ s. slot_triangles s ≤ 4096) slots id None (omega arith) k.light;
  total = total;
}
  where
    total : t - m ≡ triangles_in (set slots id None)
    total =
        let e : triangles_in (set slots id None) + slot_triangles (record_at slots id) ≡ triangles_in slots + 0 = sum_by-set slot_triangles slots id None None within in
        let some : slot_triangles (record_at slots id) ≡ triangles_of r.node.kind = ap slot_triangles there in
        let f : t ≡ triangles_in slots = k.total in
        omega (arith, e, some, f, is)

-- a record changed that has as many triangles
pub changed_counted : (slots : Slots) (id t : ℕ) (f : Record → Record) → ((r : Record) → triangles_of (f r).node.kind ≡ triangles_of r.node.kind) → id < length slots → AreCounted slots t
    → (o : Option Record) → record_at slots id ≡ o → AreCounted (set slots id (option_map f o)) t
changed_counted slots id t f keeps within k o there = record {
  light = All-set (λ s. slot_triangles s ≤ 4096) slots id (option_map f o)
      (subst (λ (n : ℕ). n ≤ 4096) (ap slot_triangles there ∙ sym (same o)) (All-get_or (λ s. slot_triangles s ≤ 4096) slots id None within k.light)) k.light;
  total = total;
}
  where
    same : (o : Option Record) → slot_triangles (option_map f o) ≡ slot_triangles o
    same None = refl
    same (Some r) = keeps r

    total : t ≡ triangles_in (set slots id (option_map f o))
    total =
        let e : triangles_in (set slots id (option_map f o)) + slot_triangles (record_at slots id) ≡ triangles_in slots + slot_triangles (option_map f o) = sum_by-set slot_triangles slots id (option_map f o) None within in
        let g : slot_triangles (record_at slots id) ≡ slot_triangles (option_map f o) = ap slot_triangles there ∙ sym (same o) in
        let h : t ≡ triangles_in slots = k.total in
        omega (arith, e, g, h)

-- A record with another kind of node

pub kind_counts : (o : Option Record) (k : Kind) → option_map kind_in o ≡ Some k → slot_triangles o ≡ triangles_of k
kind_counts None k e = absurd (cc)
kind_counts (Some r) k e = let s : r.node.kind ≡ k = cc in ap triangles_of s

-- what stands under an id counts
pub counted_few : (slots : Slots) (id t m : ℕ) (o : Option Record) → id < length slots → AreCounted slots t → record_at slots id ≡ o → m ≡ slot_triangles o → m ≤ t
counted_few slots id t m o within k there is =
    let e : triangles_in (set slots id None) + slot_triangles (record_at slots id) ≡ triangles_in slots + 0 = sum_by-set slot_triangles slots id None None within in
    let some : slot_triangles (record_at slots id) ≡ slot_triangles o = ap slot_triangles there in
    let f : t ≡ triangles_in slots = k.total in
    omega (arith, e, some, f, is)

pub swapped_counted : (slots : Slots) (id t m n : ℕ) (kind : Kind) (o : Option Record) → id < length slots → AreCounted slots t → record_at slots id ≡ o → is_some o ≡ true
    → m ≡ slot_triangles o → n ≡ triangles_of kind → n ≤ 4096 → AreCounted (set slots id (option_map (with_other_kind kind) o)) (t - m + n)
swapped_counted slots id t m n kind o within k there some was is few = record {
  light = All-set (λ s. slot_triangles s ≤ 4096) slots id (option_map (with_other_kind kind) o) (subst (λ (x : ℕ). x ≤ 4096) (is ∙ sym (new o some)) few) k.light;
  total = total;
}
  where
    new : (o : Option Record) → is_some o ≡ true → slot_triangles (option_map (with_other_kind kind) o) ≡ triangles_of kind
    new None h = absurd (cc)
    new (Some r) h = refl

    total : t - m + n ≡ triangles_in (set slots id (option_map (with_other_kind kind) o))
    total =
        let e : triangles_in (set slots id (option_map (with_other_kind kind) o)) + slot_triangles (record_at slots id) ≡ triangles_in slots + slot_triangles (option_map (with_other_kind kind) o) =
        sum_by-set slot_triangles slots id (option_map (with_other_kind kind) o) None within in
        let f : slot_triangles (record_at slots id) ≡ slot_triangles o = ap slot_triangles there in
        let g : slot_triangles (option_map (with_other_kind kind) o) ≡ triangles_of kind = new o some in
        let h : t ≡ triangles_in slots = k.total in
        let l : m ≤ t = counted_few slots id t m o within k there was in
        omega (arith, e, f, g, h, l, was, is)

no_triangles : (slots : Slots) → ((b : ℕ) → record_at slots b ≡ None) → triangles_in slots ≡ 0
no_triangles [] none = refl
no_triangles (x ∷ xs) none =
    sum_by-cons slot_triangles x xs ∙ ap (λ o. slot_triangles o + triangles_in xs) (none 0) ∙ zero-add (triangles_in xs) ∙ no_triangles xs (λ b. none (suc b))

pub none_counted : (slots : Slots) → ((b : ℕ) → record_at slots b ≡ None) → AreCounted slots 0
none_counted slots none = record {
  light = All-from_get_or (λ s. slot_triangles s ≤ 4096) slots None (λ i l. subst (λ (o : Option Record). slot_triangles o ≤ 4096) (sym (none i)) (omega arith));
  total = sym (no_triangles slots none);
}

-- The same number node by node

listed_sum : (k : ℕ) (slots : Slots) → sum (map (λ (e : ℕ × Node). triangles_of e.1.kind) (nodes_from k slots)) ≡ triangles_in slots
listed_sum k [] = refl
listed_sum k (None ∷ rest) = listed_sum (k + 1) rest ∙ sym (sum_by-cons slot_triangles None rest ∙ zero-add (triangles_in rest))
listed_sum k (Some r ∷ rest) =
    sum_by-cons (λ (n : ℕ). n) (triangles_of r.node.kind) (map (λ (e : ℕ × Node). triangles_of e.1.kind) (nodes_from (k + 1) rest))
    ∙ ap (λ n. triangles_of r.node.kind + n) (listed_sum (k + 1) rest) ∙ sym (sum_by-cons slot_triangles (Some r) rest)

listed_below : (k m : ℕ) (slots : Slots) → k + length slots ≤ m → AllByRecursion (λ (e : ℕ × Node). e.0 < m) (nodes_from k slots)
listed_below k m [] l = tt
listed_below k m (None ∷ rest) l = listed_below (k + 1) m rest (omega arith)
listed_below k m (Some r ∷ rest) l = (omega arith, listed_below (k + 1) m rest (omega arith))

pub triangles_are : (slots : Slots) → length slots ≤ 65536 → triangles_in slots ≡ triangle_count (node_at (nodes_of slots))
triangles_are slots l = sym (triangles_counted (nodes_of slots) (rising slots) (listed_below 0 65536 slots (omega (arith, l))) ∙ listed_sum 0 slots)

pub slots_wide : (slab : Slab Record) (keys : List (Option ℕ)) → length keys ≡ 65536 → length (slots_of slab keys) ≡ 65536
slots_wide slab keys wide = length-map keys (option_and_then (get slab)) ∙ wide
