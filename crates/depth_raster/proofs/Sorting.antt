-- The slots of pieces, as they are made and sorted.
use Rattle.std.proofs.Common.{◌≡◌, ℕ, zero, suc, ◌+◌, ◌-◌, ◌<◌, ◌≤◌, List, [], ◌∷◌, ◌++◌, length, length-append, take, set, get_or, get_or-set_same, get_or-set_other, Option, Some, refl, ap, sym, ◌∙◌, subst, arith, ⊎_elim}
use Rattle.std.specs.Prelude.{option_and_then}
use Rattle.std.specs.List.{All, slice_get}
use Rattle.std.specs.List.Sorted.{IsPermutation}
use Rattle.std.proofs.lemmas.Bool.{cases_eq, cases_lt}
use Rattle.std.proofs.lemmas.List.{length-take, take_more, take_all, get_or_default, get_or-take, get_or_append_left, get_or-append-add}
use Rattle.std.proofs.lemmas.List.Elements.{All-nil, All-push}
use Rattle.std.proofs.lemmas.List.Sorted.{All-permutation}
use Rattle.std.proofs.lemmas.List.Sums.{fold-append}
use Rattle.std.proofs.lemmas.Option.{slice_get-get_or, get_or_from_slice_get}
use Rattle.fx_math.specs.declared.lenses.Lens.{Lens}
use Rattle.depth_raster.specs.Marks.{mark_by, mark_with, mark_over}
use Rattle.depth_raster.specs.Pieces.{pieces_over}
use Rattle.depth_raster.specs.Shares.{AreSlotsFor}
use Rattle.depth_raster.specs.Slots.{mark_in_slot, slot_over, slots_over, IsSlotFor, IsSlotOf, IsTaken, AreTaken, AreNumbered, AreSlotted, AreSlotsOf}
use Rattle.depth_raster.specs.declared.blocks.Block.{Block}
use Rattle.depth_raster.specs.declared.marks.Mark.{Mark}
use Rattle.depth_raster.specs.declared.pieces.Piece.{Piece}
use Rattle.depth_raster.specs.StripSlots.{mark_in_strip, IsStripSlotOf}
use Rattle.depth_raster.specs.declared.slots.Slot.{Slot}
use Rattle.depth_raster.specs.declared.strip_slots.StripSlot.{StripSlot}
use Rattle.depth_raster.proofs.MarkOrder.{nearest_permuted}
use Rattle.depth_raster.proofs.Prepared.{some_of}
use Rattle.depth_raster.proofs.Slotted.{no_slot}

-- the slots of the first n pieces
pub record SlotsSoFar (ps : List Piece) (ss : List Slot) (n : ℕ) : Type 0 where
  pub rows : All (IsSlotOf ps) ss
  pub over : (lens : Lens) (px py : ℕ) (m : Mark) → slots_over lens ps ss px py m ≡ pieces_over lens (take n ps) px py m

pub slots_begun : (ps : List Piece) → SlotsSoFar ps [] 0
slots_begun ps = record { rows = All-nil (IsSlotOf ps); over = λ lens px py m. refl }

pub slot_more : (ps : List Piece) (ss : List Slot) (n : ℕ) (p : Piece) (s : Slot) → SlotsSoFar ps ss n → n < length ps → p ≡ get_or ps n p → s.index ≡ n → IsSlotFor p s → SlotsSoFar ps (ss ++ s ∷ []) (n + 1)
unfolding mark_over
slot_more ps ss n p s so_far below is index slot = record {
  rows = All-push (IsSlotOf ps) ss s so_far.rows (λ q h. subst (λ (r : Piece). IsSlotFor r s) (same_piece q h) slot);
  over = λ lens px py m.
      fold-append (λ (k : Mark) (t : Slot). slot_over lens ps t px py k) m ss (s ∷ [])
      ∙ ap (λ (k : Mark). slot_over lens ps s px py k) (so_far.over lens px py m)
      ∙ ap (λ (o : Option Piece). mark_with (pieces_over lens (take n ps) px py m) (option_and_then (λ q. mark_by lens px py q.face) o)) here
      ∙ sym (fold-append (λ (k : Mark) (q : Piece). mark_over lens px py q.face k) m (take n ps) (get_or ps n p ∷ []))
      ∙ ap (λ (qs : List Piece). pieces_over lens qs px py m) (sym (take_more ps n p below));
}
  where
    here : slice_get ps s.index ≡ Some (get_or ps n p)
    here = ap (slice_get ps) index ∙ slice_get-get_or ps n p below

    same_piece : (q : Piece) → slice_get ps s.index ≡ Some q → p ≡ q
    same_piece q h = is ∙ sym (get_or_from_slice_get ps n (get_or ps n p) q (slice_get-get_or ps n p below)) ∙ get_or_from_slice_get ps n q q (ap (slice_get ps) (sym index) ∙ h)

first_so_far : (ps : List Piece) (ss : List Slot) → AreSlotted ps ss → (n : ℕ) → n ≤ length ss → SlotsSoFar ps (take n ss) n
first_so_far ps ss are zero within = slots_begun ps
first_so_far ps ss are (suc n) within =
    let below : n < length ss = omega (arith, within) in
    let there : n < length ps = omega (arith, below, are.few) in
    let s = get_or ss n no_slot in
    let p = get_or ps n (some_of ps n there) in
    subst (λ (m : ℕ). SlotsSoFar ps (take m ss) m) (omega arith)
    (subst (λ (ts : List Slot). SlotsSoFar ps ts (n + 1)) (sym (take_more ss n no_slot below))
    (slot_more ps (take n ss) n p s (first_so_far ps ss are n (omega (arith, within))) there (get_or_default ps n (some_of ps n there) p there) (are.numbered n no_slot below) (are.slots n (some_of ps n there) no_slot below)))

pub slots_all : (ps : List Piece) (ss : List Slot) → AreSlotted ps ss → length ss ≡ length ps → (lens : Lens) → AreSlotsOf lens ps ss
slots_all ps ss are long lens =
    let n = length ss in
    let so_far = subst (λ (ts : List Slot). SlotsSoFar ps ts n) (take_all n ss (omega arith)) (first_so_far ps ss are n (omega arith)) in
    record {
      rows = so_far.rows;
      over = λ px py m. so_far.over lens px py m ∙ ap (λ (qs : List Piece). pieces_over lens qs px py m) (take_all n ps (omega (arith, long)));
    }

-- ---- the slots of the first pieces
pub none_slotted : (ps : List Piece) (ss : List Slot) → ss ≡ [] → AreSlotted ps ss
none_slotted ps ss empty = subst (λ (ts : List Slot). AreSlotted ps ts) (sym empty)
    (record { few = omega arith; numbered = λ k e l. absurd (omega (arith, l)); slots = λ k d e l. absurd (omega (arith, l)) })

pub numbered_more : (ss : List Slot) (s : Slot) → AreNumbered ss → s.index ≡ length ss → AreNumbered (ss ++ s ∷ [])
numbered_more ss s are index k e l = ⊎_elim
    (λ first. ap (λ (t : Slot). t.index) (get_or_append_left ss (s ∷ []) e k first) ∙ are k e first)
    (λ later.
    let at : k ≡ length ss + 0 = omega (arith, later, l, length-append ss (s ∷ [])) in
    ap (λ (m : ℕ). (get_or (ss ++ s ∷ []) m e).index) at ∙ ap (λ (t : Slot). t.index) (get_or-append-add ss (s ∷ []) 0 e) ∙ index ∙ omega (arith, at))
    (cases_lt k (length ss))

pub numbered_first : (ss : List Slot) (n : ℕ) → AreNumbered ss → AreNumbered (take n ss)
numbered_first ss n are k e l = let within = length-take n ss in ap (λ (t : Slot). t.index) (get_or-take n ss k e (omega (arith, l, within))) ∙ are k e (omega (arith, l, within))

pub slotted_more : (ps : List Piece) (ss : List Slot) (p : Piece) (s : Slot) → AreSlotted ps ss → length ss < length ps → s.index ≡ length ss → ((d : Piece) → get_or ps (length ss) d ≡ p) → IsSlotFor p s → AreSlotted ps (ss ++ s ∷ [])
slotted_more ps ss p s are room index is slot = record {
  few = omega (arith, room, length-append ss (s ∷ []));
  numbered = numbered_more ss s are.numbered index;
  slots = λ k d e l. ⊎_elim
      (λ first. subst (λ (t : Slot). IsSlotFor (get_or ps k d) t) (sym (get_or_append_left ss (s ∷ []) e k first)) (are.slots k d e first))
      (λ later.
      let at : k ≡ length ss + 0 = omega (arith, later, l, length-append ss (s ∷ [])) in
      let here : get_or ps k d ≡ p = ap (λ (m : ℕ). get_or ps m d) (omega (arith, at)) ∙ is d in
      let last : get_or (ss ++ s ∷ []) k e ≡ s = ap (λ (m : ℕ). get_or (ss ++ s ∷ []) m e) at ∙ get_or-append-add ss (s ∷ []) 0 e in
      subst (λ (t : Slot). IsSlotFor (get_or ps k d) t) (sym last) (subst (λ (q : Piece). IsSlotFor q s) (sym here) slot))
      (cases_lt k (length ss));
}

-- more pieces come
pub slotted_kept : (ps qs : List Piece) (ss : List Slot) → AreSlotted ps ss → AreSlotted (ps ++ qs) ss
slotted_kept ps qs ss are = record {
  few = omega (arith, are.few, length-append ps qs);
  numbered = are.numbered;
  slots = λ k d e l. subst (λ (p : Piece). IsSlotFor p (get_or ss k e)) (sym (get_or_append_left ps qs d k (omega (arith, l, are.few)))) (are.slots k d e l);
}

-- slots that waited have taken their pieces
pub slotted_then : (ps fresh : List Piece) (ss waiting taken : List Slot) → length ss ≡ length ps → length waiting ≡ length fresh → length taken ≡ length fresh → AreSlotted ps ss → AreNumbered (ss ++ waiting) → AreTaken fresh waiting taken → AreSlotted (ps ++ fresh) (ss ++ taken)
slotted_then ps fresh ss waiting taken all waits takes are numbered each = record {
  few = omega (arith, length-append ps fresh, length-append ss taken, all, takes);
  numbered = λ k e l. ⊎_elim
      (λ first. ap (λ (t : Slot). t.index) (get_or_append_left ss taken e k first) ∙ are.numbered k e first)
      (λ later.
      let i : ℕ = k - length ss in
      let at : k ≡ length ss + i = omega (arith, later) in
      let below : i < length fresh = omega (arith, l, at, length-append ss taken, takes) in
      ap (λ (m : ℕ). (get_or (ss ++ taken) m e).index) at
      ∙ ap (λ (t : Slot). t.index) (get_or-append-add ss taken i e)
      ∙ (each i (some_of fresh i below) e below).index
      ∙ ap (λ (t : Slot). t.index) (sym (get_or-append-add ss waiting i e))
      ∙ numbered (length ss + i) e (omega (arith, below, length-append ss waiting, waits))
      ∙ sym at)
      (cases_lt k (length ss));
  slots = λ k d e l. ⊎_elim
      (λ first.
      subst (λ (p : Piece). IsSlotFor p (get_or (ss ++ taken) k e)) (sym (get_or_append_left ps fresh d k (omega (arith, first, all))))
      (subst (λ (t : Slot). IsSlotFor (get_or ps k d) t) (sym (get_or_append_left ss taken e k first)) (are.slots k d e first)))
      (λ later.
      let i : ℕ = k - length ss in
      let at : k ≡ length ss + i = omega (arith, later) in
      let of_pieces : k ≡ length ps + i = omega (arith, at, all) in
      let below : i < length fresh = omega (arith, l, at, length-append ss taken, takes) in
      let piece : get_or (ps ++ fresh) k d ≡ get_or fresh i d = ap (λ (m : ℕ). get_or (ps ++ fresh) m d) of_pieces ∙ get_or-append-add ps fresh i d in
      let slot : get_or (ss ++ taken) k e ≡ get_or taken i e = ap (λ (m : ℕ). get_or (ss ++ taken) m e) at ∙ get_or-append-add ss taken i e in
      subst (λ (p : Piece). IsSlotFor p (get_or (ss ++ taken) k e)) (sym piece)
      (subst (λ (t : Slot). IsSlotFor (get_or fresh i d) t) (sym slot) (each i d e below).slot))
      (cases_lt k (length ss));
}

-- ---- slots that take their pieces, one after the other and in two parts
pub record TakenSoFar (ps : List Piece) (before after : List Slot) (n : ℕ) : Type 0 where
  pub done : (k : ℕ) (d : Piece) (e : Slot) → k < n → IsTaken (get_or ps k d) (get_or before k e) (get_or after k e)
  pub ahead : (k : ℕ) (e : Slot) → n ≤ k → get_or after k e ≡ get_or before k e

pub taken_none : (ps : List Piece) (before : List Slot) → TakenSoFar ps before before 0
taken_none ps before = record { done = λ k d e l. absurd (omega (arith, l)); ahead = λ k e l. refl }

pub taken_more : (ps : List Piece) (before now : List Slot) (n : ℕ) (p : Piece) (old new : Slot) → TakenSoFar ps before now n → n < length ps → n < length now → length now ≡ length before → old ≡ get_or now n old → IsTaken p old new → TakenSoFar (set ps n p) before (set now n new) (n + 1)
taken_more ps before now n p old new so_far there below long is taken = record {
  done = λ k d e l. ⊎_elim
      (λ same.
      subst (λ (m : ℕ). IsTaken (get_or (set ps n p) m d) (get_or before m e) (get_or (set now n new) m e)) (sym same)
      (subst (λ (q : Piece). IsTaken q (get_or before n e) (get_or (set now n new) n e)) (sym (get_or-set_same ps n p d there))
      (subst (λ (t : Slot). IsTaken p t (get_or (set now n new) n e)) (sym (was e))
      (subst (λ (t : Slot). IsTaken p old t) (sym (get_or-set_same now n new e below)) taken))))
      (λ apart.
      subst (λ (q : Piece). IsTaken q (get_or before k e) (get_or (set now n new) k e)) (sym (get_or-set_other ps n k p d apart))
      (subst (λ (t : Slot). IsTaken (get_or ps k d) (get_or before k e) t) (sym (get_or-set_other now n k new e apart)) (so_far.done k d e (omega (arith, apart, l)))))
      (cases_eq k n);
  ahead = λ k e l. get_or-set_other now n k new e (λ same. omega (arith, l, same)) ∙ so_far.ahead k e (omega (arith, l));
}
  where
    was : (e : Slot) → get_or before n e ≡ old
    was e = get_or_default before n e old (omega (arith, long, below)) ∙ sym (so_far.ahead n old (omega arith)) ∙ sym is

one_taken : (p : Piece) (s t : Slot) (ps : List Piece) (ss ts : List Slot) → IsTaken p s t → AreTaken ps ss ts → AreTaken (p ∷ ps) (s ∷ ss) (t ∷ ts)
one_taken p s t ps ss ts here rest zero d e l = here
one_taken p s t ps ss ts here rest (suc k) d e l = rest k d e (omega (arith, l))

pub parts_taken : (ps qs : List Piece) (ss ss' ts ts' : List Slot) → length ss ≡ length ps → length ss' ≡ length ps → AreTaken ps ss ss' → AreTaken qs ts ts' → AreTaken (ps ++ qs) (ss ++ ts) (ss' ++ ts')
parts_taken [] qs [] [] ts ts' long long' front rest = rest
parts_taken [] qs (s ∷ ss) ss' ts ts' long long' front rest = absurd (omega (arith, long))
parts_taken [] qs [] (s ∷ ss') ts ts' long long' front rest = absurd (omega (arith, long'))
parts_taken (p ∷ ps) qs [] ss' ts ts' long long' front rest = absurd (omega (arith, long))
parts_taken (p ∷ ps) qs (s ∷ ss) [] ts ts' long long' front rest = absurd (omega (arith, long'))
parts_taken (p ∷ ps) qs (s ∷ ss) (t ∷ ss') ts ts' long long' front rest =
    one_taken p s t (ps ++ qs) (ss ++ ts) (ss' ++ ts') (front 0 p s (omega arith))
    (parts_taken ps qs ss ss' ts ts' (omega (arith, long)) (omega (arith, long')) (λ k d e l. front (suc k) d e (omega (arith, l))) rest)

-- ---- slots in order
pub slots_sorted : (lens : Lens) (ps : List Piece) (b : Block) (before after : List StripSlot) → IsPermutation before after → AreSlotsFor lens ps b before → AreSlotsFor lens ps b after
slots_sorted lens ps b before after moved are = record {
  rows = All-permutation (IsStripSlotOf ps) before after moved are.rows;
  over = λ px r m column row. nearest_permuted (mark_in_strip lens ps px (b.first + r)) m before after moved ∙ are.over px r m column row;
}

pub all_sorted : (lens : Lens) (ps : List Piece) (before after : List Slot) → IsPermutation before after → AreSlotsOf lens ps before → AreSlotsOf lens ps after
all_sorted lens ps before after moved are = record {
  rows = All-permutation (IsSlotOf ps) before after moved are.rows;
  over = λ px py m. nearest_permuted (mark_in_slot lens ps px py) m before after moved ∙ are.over px py m;
}
