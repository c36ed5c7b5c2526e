-- Packets and loads with one more at their end.
use Rattle.std.proofs.Common.{◌≡◌, ◌⊎◌, ℕ, zero, suc, ◌+◌, ◌≤◌, Bool, true, false, ◌||◌, List, [], ◌∷◌, ◌++◌, length, slice_get, Option, Some, None, refl, sym, ap, ◌∙◌, arith, inl, inr}
use Rattle.std.proofs.lemmas.List.{append-nil, take_all, take-append-le, length_push}
use Rattle.std.proofs.lemmas.Option.{same_Some}
use Rattle.std.specs.List.{fold}
use Rattle.pf_model.specs.Graphs.{Nodes}
use Rattle.pf_model.specs.Copies.{copy_of, updated_by}
use Rattle.stage_parts.specs.declared.packets.Packet.{Packet}
use Rattle.stage_parts.specs.declared.packets.Packet.TheVariants.{Frame, End}
use Rattle.stage_parts.specs.Loads.{LoadState}
use Rattle.stage_parts.specs.Packets.{is_end, has_end, loads_in, updates_in, copy_at}
use Rattle.stage_parts.specs.Parts.{sent_and_held, handed_back, passed_on}
use Rattle.stage_parts.proofs.Sent.{loads_append}

pub loads_push : (ps : List Packet) (l : LoadState) → loads_in (ps ++ Frame l ∷ []) ≡ loads_in ps ++ l ∷ []
loads_push ps l = loads_append ps (Frame l ∷ [])

pub loads_end : (ps : List Packet) → loads_in (ps ++ End ∷ []) ≡ loads_in ps
loads_end ps = loads_append ps (End ∷ []) ∙ append-nil (loads_in ps)

or_false : (b : Bool) → (b || false) ≡ b
or_false true = refl
or_false false = refl

pub has_end_push : (ps : List Packet) (p : Packet) → has_end (ps ++ p ∷ []) ≡ (has_end ps || is_end p)
has_end_push [] p = or_false (is_end p)
has_end_push (q ∷ ps) p = by (is_end q) (has_end_push ps p)
  where
    by : (t : Bool) → has_end (ps ++ p ∷ []) ≡ (has_end ps || is_end p) → (t || has_end (ps ++ p ∷ [])) ≡ ((t || has_end ps) || is_end p)
    by true rest = refl
    by false rest = rest

-- what is held is sent
pub passed_same : (sent : List Packet) (p : Packet) (held : Option Packet) → held ≡ Some p → sent_and_held (sent ++ p ∷ []) None ≡ sent_and_held sent held
passed_same sent p held same = append-nil (sent ++ p ∷ []) ∙ ap (sent_and_held sent) (sym same)

-- nothing is held
pub passed_bare : (sent : List Packet) (held : Option Packet) → held ≡ None → sent_and_held sent held ≡ sent
passed_bare sent held none = ap (sent_and_held sent) none ∙ append-nil sent

-- where an element of a list with one more stands
pub get_push : {X : Type 0} (xs : List X) (x : X) (i : ℕ) (y : X) → slice_get (xs ++ x ∷ []) i ≡ Some y →
    (slice_get xs i ≡ Some y) ⊎ ((i ≡ length xs) × (x ≡ y))
get_push [] x zero y at = inr (refl, same_Some x y at)
get_push [] x (suc i) y at = absurd (cc)
get_push (z ∷ xs) x zero y at = inl at
get_push (z ∷ xs) x (suc i) y at = by (get_push xs x i y at)
  where
    by : (slice_get xs i ≡ Some y) ⊎ ((i ≡ length xs) × (x ≡ y)) → (slice_get xs i ≡ Some y) ⊎ ((suc i ≡ suc (length xs)) × (x ≡ y))
    by (inl there) = inl there
    by (inr last) = inr (ap suc last.0, last.1)

-- Copies

-- the copy that all update lists of loads keep
abbrev pub whole_copy : List LoadState → Nodes
whole_copy ls = copy_of (updates_in ls)

pub copy_whole : (ls : List LoadState) → copy_at ls (length ls) ≡ whole_copy ls
copy_whole ls = ap whole_copy (take_all (length ls) ls (omega arith))

folded_push : (nodes : Nodes) (ls : List LoadState) (l : LoadState) →
    fold updated_by nodes (updates_in (ls ++ l ∷ [])) ≡ updated_by (fold updated_by nodes (updates_in ls)) l.cut.updates
folded_push nodes [] l = refl
folded_push nodes (m ∷ ls) l = folded_push (updated_by nodes m.cut.updates) ls l

pub whole_push : (ls : List LoadState) (l : LoadState) → whole_copy (ls ++ l ∷ []) ≡ updated_by (whole_copy ls) l.cut.updates
whole_push ls l = folded_push (copy_of []) ls l

pub copy_push : (ls : List LoadState) (l : LoadState) → copy_at (ls ++ l ∷ []) (length ls + 1) ≡ updated_by (whole_copy ls) l.cut.updates
copy_push ls l = ap (copy_at (ls ++ l ∷ [])) (sym (length_push ls l)) ∙ copy_whole (ls ++ l ∷ []) ∙ whole_push ls l

pub copy_front : (ls more : List LoadState) (k : ℕ) → k ≤ length ls → copy_at (ls ++ more) k ≡ copy_at ls k
copy_front ls more k l = ap whole_copy (take-append-le k ls more l)

pub passed_on_push : (nodes : Nodes) (ls : List LoadState) (l : LoadState) →
    passed_on nodes (ls ++ l ∷ []) ≡ passed_on nodes ls ++ handed_back (fold updated_by nodes (updates_in ls)) l ∷ []
passed_on_push nodes [] l = refl
passed_on_push nodes (m ∷ ls) l = ap (λ xs. handed_back nodes m ∷ xs) (passed_on_push (updated_by nodes m.cut.updates) ls l)

pub passed_on_length : (nodes : Nodes) (ls : List LoadState) → length (passed_on nodes ls) ≡ length ls
passed_on_length nodes [] = refl
passed_on_length nodes (l ∷ ls) = ap suc (passed_on_length (updated_by nodes l.cut.updates) ls)
