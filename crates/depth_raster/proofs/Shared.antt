-- Slots given to the strips whose rows they reach.
use Rattle.std.proofs.Common.{◌≡◌, ℕ, ◌+◌, ◌*◌, ◌/◌, ◌<◌, ◌≤◌, Bool, true, false, cond, List, [], ◌∷◌, ◌++◌, length, take, drop, set, get_or, get_or-set_same, get_or-set_other, Option, Some, None, refl, ap, sym, ◌∙◌, subst, arith, ⊎_elim, inl, inr, ◌⊎◌}
use Rattle.std.specs.List.{All, slice_get, filter}
use Rattle.std.specs.Prelude.{map, min}
use Rattle.std.specs.Int.{div_ceil}
use Rattle.std.proofs.lemmas.Grind.{div_ceil_times}
use Rattle.std.proofs.lemmas.Bool.{both_ways, cases_eq, cases_lt}
use Rattle.std.proofs.lemmas.Bool.Decides.{nat_tests}
use Rattle.std.proofs.lemmas.List.{append-nil, drop_all, take_all, get_or_default, length-take-le, length-map, map-append}
use Rattle.std.proofs.lemmas.List.Elements.{All-filter, All-head, All-map, All-tail, filter_more}
use Rattle.std.proofs.lemmas.List.Sums.{length-filter, count_by-le-length}
use Rattle.fx_math.specs.declared.lenses.Lens.{Lens}
use Rattle.depth_raster.specs.Blocks.{IsBlockOf}
use Rattle.depth_raster.specs.Pieces.{IsPieceOf, pieces_over}
use Rattle.depth_raster.specs.Shares.{meets, AreStacked, HasSlots, Gains, EachGains, HasShare, AreShared, AreSlotsFor, HasSlotsFor}
use Rattle.depth_raster.specs.Slots.{slot_over, slots_over, IsSlotOf, AreSlotsOf}
use Rattle.depth_raster.specs.StripSlots.{in_strip, strip_slots_over, IsStripSlotOf}
use Rattle.depth_raster.specs.Strips.{tile_block, AreTilesOf, TilesRelate, IsStripOf, StripRelates, StripsRelate, AreStrips}
use Rattle.depth_raster.specs.declared.blocks.Block.{Block}
use Rattle.depth_raster.specs.declared.marks.Mark.{Mark}
use Rattle.depth_raster.specs.declared.pieces.Piece.{Piece}
use Rattle.depth_raster.specs.declared.strip.Strip.{Strip}
use Rattle.depth_raster.specs.declared.slots.Slot.{Slot}
use Rattle.depth_raster.specs.declared.strip_slots.StripSlot.{StripSlot}
use Rattle.depth_raster.specs.declared.tile.Tile.{Tile}
use Rattle.depth_raster.proofs.Drawn.{AreOver}
use Rattle.depth_raster.proofs.Skipped.{mark_missed}
use Rattle.depth_raster.proofs.Slotted.{slot_is, slot_none, ready_piece}

-- ---- elements written one by one
-- as many elements as there were, written over them
pub written : {X : Type 0} (n : ℕ) (new old : List X) → length new ≡ n → length old ≡ n → take n (new ++ drop (length new) old) ≡ new
written {X} n new old long whole =
    ap (λ (xs : List X). take n (new ++ xs)) (drop_all (length new) old (omega (arith, long, whole)))
    ∙ ap (take n) (append-nil new)
    ∙ take_all n new (omega (arith, long))

-- what a strip has is replaced
pub slots_then : (xs ys : List StripSlot) (a b c : Strip) → HasSlots xs a b → HasSlots ys b c → HasSlots ys a c
slots_then xs ys a b c h k = record {
  band = k.band ∙ h.band;
  tiles = k.tiles ∙ h.tiles;
  rows = k.rows ∙ h.rows;
  slots = k.slots;
}

-- the strips before n have the slot besides, the others are as they were
pub record GainsSoFar (s : Slot) (before after : List Strip) (n : ℕ) : Type 0 where
  pub done : (i : ℕ) (d : Strip) → i < n → i < length before → Gains s (get_or before i d) (get_or after i d)
  pub ahead : (i : ℕ) (d : Strip) → n ≤ i → get_or after i d ≡ get_or before i d

pub gains_more : (s : Slot) (before now : List Strip) (n : ℕ) (old new : Strip) → GainsSoFar s before now n → length now ≡ length before → n < length now → old ≡ get_or now n old → Gains s old new → GainsSoFar s before (set now n new) (n + 1)
gains_more s before now n old new so_far long below is gained = record {
  done = λ i d l in_list. ⊎_elim
      (λ same.
      let was : get_or before n d ≡ old = get_or_default before n d old (omega (arith, long)) ∙ sym (so_far.ahead n old (omega arith)) ∙ sym is in
      let here : get_or (set now n new) n d ≡ new = get_or-set_same now n new d below in
      subst (λ (k : ℕ). Gains s (get_or before k d) (get_or (set now n new) k d)) (sym same)
      (subst (λ (t : Strip). Gains s t (get_or (set now n new) n d)) (sym was) (subst (λ (t : Strip). Gains s old t) (sym here) gained)))
      (λ apart. subst (λ (t : Strip). Gains s (get_or before i d) t) (sym (get_or-set_other now n i new d apart)) (so_far.done i d (omega (arith, apart, l)) in_list))
      (cases_eq i n);
  ahead = λ i d l. get_or-set_other now n i new d (λ same. omega (arith, l, same)) ∙ so_far.ahead i d (omega (arith, l));
}

-- ---- which strips a slot reaches
reached : (b : Block) (s : Slot) → s.top < b.first + 16 → b.first < s.bottom → meets b s ≡ true
reached b s above below = grind (arith, nat_tests)

outside : (b : Block) (s : Slot) → meets b s ≡ false → (s.bottom ≤ b.first) ⊎ (b.first + 16 ≤ s.top)
outside b s h = ⊎_elim
    (λ below. ⊎_elim
    (λ above. absurd (both_ways (meets b s) h (reached b s above below)))
    (λ beyond. inr beyond)
    (cases_lt s.top (b.first + 16)))
    (λ beyond. inl beyond)
    (cases_lt b.first s.bottom)

not_reached_above : (b : Block) (s : Slot) → b.first + 16 ≤ s.top → meets b s ≡ false
not_reached_above b s above = grind (arith, nat_tests)

not_reached_below : (b : Block) (s : Slot) → s.bottom ≤ b.first → meets b s ≡ false
not_reached_below b s below = grind (arith, nat_tests)

pub gained_not : (s : Slot) (t : Strip) → meets t.band s ≡ false → Gains s t t
gained_not s t misses = record {
  band = refl;
  tiles = refl;
  rows = refl;
  slots = sym (ap (λ (b : Bool). t.slots.items ++ cond b (in_strip s ∷ []) []) misses ∙ append-nil t.slots.items);
}

-- the rows of strips against the end of a slot's
strip_begins : (bottom n i : ℕ) → n ≡ div_ceil bottom 16 → i < n → 16 * i < bottom
strip_begins bottom n i count below = let bound : (bottom ≤ div_ceil bottom 16 * 16) × (div_ceil bottom 16 * 16 < bottom + 16) = div_ceil_times bottom 16 (omega arith) in omega (arith, bound.1, count)

strip_passed : (bottom i : ℕ) → div_ceil bottom 16 ≤ i → bottom ≤ 16 * i
strip_passed bottom i l = let bound : (bottom ≤ div_ceil bottom 16 * 16) × (div_ceil bottom 16 * 16 < bottom + 16) = div_ceil_times bottom 16 (omega arith) in omega (arith, bound.0, l)

pub gained : (s : Slot) (i n : ℕ) (before after : Strip) → before.band.first ≡ 16 * i → s.top / 16 ≤ i → n ≡ div_ceil s.bottom 16 → i < n → HasSlots (before.slots.items ++ in_strip s ∷ []) before after → Gains s before after
gained s i n before after at from count below has =
    subst (λ (b : Bool). HasSlots (before.slots.items ++ cond b (in_strip s ∷ []) []) before after)
    (sym (reached before.band s (omega (arith, at, from)) (omega (arith, at, strip_begins s.bottom n i count below)))) has

pub gains_none : (s : Slot) (before : List Strip) (n : ℕ) → AreStacked before → n ≡ s.top / 16 → GainsSoFar s before before n
gains_none s before n lie is = record {
  done = λ i d l in_list. gained_not s (get_or before i d) (not_reached_above (get_or before i d).band s (omega (arith, l, is, lie i d in_list)));
  ahead = λ i d l. refl;
}

pub gains_all : (s : Slot) (before after : List Strip) (n : ℕ) → AreStacked before → GainsSoFar s before after n → ((i : ℕ) → n ≤ i → i < length before → div_ceil s.bottom 16 ≤ i) → EachGains s before after
gains_all s before after n lie so_far rest i d in_list = ⊎_elim
    (λ below. so_far.done i d below in_list)
    (λ beyond.
    let passed = strip_passed s.bottom i (rest i beyond in_list) in
    subst (λ (t : Strip). Gains s (get_or before i d) t) (sym (so_far.ahead i d beyond))
    (gained_not s (get_or before i d) (not_reached_below (get_or before i d).band s (omega (arith, passed, lie i d in_list)))))
    (cases_lt i n)

-- ---- slot after slot
pub shared_lie : (ss : List Slot) (before after : List Strip) → length after ≡ length before → AreShared ss before after → AreStacked before → AreStacked after
shared_lie ss before after long shared lie i d below =
    let in_list : i < length before = omega (arith, below, long) in ap (λ (b : Block). b.first) (shared i d in_list).band ∙ lie i d in_list

one_in_strip : (c : Bool) (s : Slot) → map in_strip (cond c (s ∷ []) []) ≡ cond c (in_strip s ∷ []) []
one_in_strip true s = refl
one_in_strip false s = refl

pub share_more : (ss : List Slot) (n : ℕ) (e : Slot) (first before after : Strip) → n < length ss → HasShare (take n ss) first before → Gains (get_or ss n e) before after → HasShare (take (n + 1) ss) first after
share_more ss n e first before after below had gains =
    let s = get_or ss n e in
    let b = first.band in
    let met = filter (meets b) (take n ss) in
    let has = subst (λ (c : Block). HasSlots (before.slots.items ++ cond (meets c s) (in_strip s ∷ []) []) before after) had.band gains in
    let more =
    ap (λ (xs : List StripSlot). xs ++ cond (meets b s) (in_strip s ∷ []) []) had.slots
    ∙ ap (λ (xs : List StripSlot). map in_strip met ++ xs) (sym (one_in_strip (meets b s) s))
    ∙ sym (map-append in_strip met (cond (meets b s) (s ∷ []) []))
    ∙ ap (map in_strip) (sym (filter_more (meets b) ss n e below)) in
    subst (λ (xs : List StripSlot). HasSlots xs first after) more
    (slots_then (map in_strip met) (before.slots.items ++ cond (meets b s) (in_strip s ∷ []) []) first before after had has)

pub shared_more : (ss : List Slot) (n : ℕ) (e : Slot) (first before after : List Strip) → n < length ss → length before ≡ length first → AreShared (take n ss) first before → EachGains (get_or ss n e) before after → AreShared (take (n + 1) ss) first after
shared_more ss n e first before after below long so_far gains i d in_list =
    share_more ss n e (get_or first i d) (get_or before i d) (get_or after i d) below (so_far i d in_list) (gains i d (omega (arith, in_list, long)))

pub slots_few : (b : Block) (n : ℕ) (ss : List Slot) (xs : List StripSlot) → n < length ss → length ss ≤ 16384 → xs ≡ map in_strip (filter (meets b) (take n ss)) → length xs < 16384
slots_few b n ss xs below few is =
    omega (arith, ap length is, length-map (filter (meets b) (take n ss)) in_strip, length-filter (meets b) (take n ss), count_by-le-length (meets b) (take n ss), length-take-le n ss (omega arith))

-- ---- what the slots of a strip make of marks
-- the row of the picture is one of the sixteen from the first of a block on
record IsRowOf (b : Block) (py : ℕ) : Type 0 where
  from : b.first ≤ py
  to : py < b.first + 16

slot_unmet : (lens : Lens) (ps : List Piece) (s : Slot) (b : Block) (px py : ℕ) (m : Mark) → All (IsPieceOf lens) ps → IsSlotOf ps s → px < lens.w → py < lens.h → IsRowOf b py → meets b s ≡ false → slot_over lens ps s px py m ≡ m
slot_unmet lens ps s b px py m ready is column row at misses = by (slice_get ps s.index) refl (outside b s misses)
  where
    by : (o : Option Piece) → slice_get ps s.index ≡ o → (s.bottom ≤ b.first) ⊎ (b.first + 16 ≤ s.top) → slot_over lens ps s px py m ≡ m
    by None e out = sym (slot_none lens ps s e px py m)
    by (Some p) e (inl h) =
        let unhit = (ready_piece lens ps s ready p e).extent.below px py column row (omega (arith, (is p e).bottom, h, at.from)) in
        sym (slot_is lens ps s p e px py m) ∙ mark_missed lens px py p.face m unhit
    by (Some p) e (inr h) =
        let unhit = (ready_piece lens ps s ready p e).extent.above px py column row (omega (arith, (is p e).top, h, at.to)) in
        sym (slot_is lens ps s p e px py m) ∙ mark_missed lens px py p.face m unhit

share_step : (lens : Lens) (ps : List Piece) (b : Block) (px py : ℕ) (s : Slot) (ss : List Slot) (m : Mark) → ((n : Mark) → slots_over lens ps (filter (meets b) ss) px py n ≡ slots_over lens ps ss px py n) → (meets b s ≡ false → slot_over lens ps s px py m ≡ m)
    → slots_over lens ps (filter (meets b) (s ∷ ss)) px py m ≡ slots_over lens ps (s ∷ ss) px py m
share_step lens ps b px py s ss m rest unmet = by (meets b s) refl
  where
    here : Bool → Mark
    here c = slots_over lens ps (cond c (s ∷ filter (meets b) ss) (filter (meets b) ss)) px py m

    by : (c : Bool) → meets b s ≡ c → here (meets b s) ≡ slots_over lens ps ss px py (slot_over lens ps s px py m)
    by true e = ap here e ∙ rest (slot_over lens ps s px py m)
    by false e = ap here e ∙ rest m ∙ ap (λ (n : Mark). slots_over lens ps ss px py n) (sym (unmet e))

share_over : (lens : Lens) (ps : List Piece) (b : Block) (px py : ℕ) → All (IsPieceOf lens) ps → px < lens.w → py < lens.h → IsRowOf b py → (ss : List Slot) → All (IsSlotOf ps) ss → (m : Mark) → slots_over lens ps (filter (meets b) ss) px py m ≡ slots_over lens ps ss px py m
share_over lens ps b px py ready column row at [] all m = refl
share_over lens ps b px py ready column row at (s ∷ ss) all m =
    share_step lens ps b px py s ss m
    (λ n. share_over lens ps b px py ready column row at ss (All-tail (IsSlotOf ps) s ss all) n)
    (λ misses. slot_unmet lens ps s b px py m ready (All-head (IsSlotOf ps) s ss all) column row at misses)

-- the slots of a strip make the same of marks as those that it was given
same_in_strip : (lens : Lens) (ps : List Piece) (ss : List Slot) (px py : ℕ) (m : Mark) → strip_slots_over lens ps (map in_strip ss) px py m ≡ slots_over lens ps ss px py m
same_in_strip lens ps [] px py m = refl
same_in_strip lens ps (s ∷ ss) px py m = same_in_strip lens ps ss px py (slot_over lens ps s px py m)

slot_in_strip : (ps : List Piece) (s : Slot) → IsSlotOf ps s → IsStripSlotOf ps (in_strip s)
slot_in_strip ps s is p at = let slot = is p at in record {
  least = slot.least;
  start = ap (λ (n : ℕ). min 255 (n / 16)) slot.left;
  end = ap (λ (n : ℕ). min 255 (div_ceil n 16)) slot.right;
}

slots_in_strip : (ps : List Piece) (ss : List Slot) → All (IsSlotOf ps) ss → All (IsStripSlotOf ps) (map in_strip ss)
slots_in_strip ps ss all = All-map (IsStripSlotOf ps) in_strip ss (λ i d below. slot_in_strip ps (get_or ss i d) (all i d below))

pub share_for : (lens : Lens) (ps : List Piece) (ss : List Slot) (before after : Strip) → All (IsPieceOf lens) ps → AreSlotsOf lens ps ss → IsStripOf lens before → HasShare ss before after → HasSlotsFor lens ps after
share_for lens ps ss before after ready are strip has = record {
  rows = subst (λ (ts : List StripSlot). All (IsStripSlotOf ps) ts) (sym has.slots)
      (slots_in_strip ps (filter (meets before.band) ss) (All-filter (meets before.band) (IsSlotOf ps) ss are.rows));
  over = λ px r m column row.
      let b = before.band in
      let py = after.band.first + r in
      let first : after.band.first ≡ b.first = ap (λ (c : Block). c.first) has.band in
      let rows : after.band.rows ≡ b.rows = ap (λ (c : Block). c.rows) has.band in
      let at : IsRowOf b py = record { from = omega (arith, first); to = omega (arith, first, rows, row, strip.most) } in
      ap (λ (ts : List StripSlot). strip_slots_over lens ps ts px py m) has.slots
      ∙ same_in_strip lens ps (filter (meets b) ss) px py m
      ∙ share_over lens ps b px py ready column (omega (arith, first, rows, row, strip.band.rows)) at ss are.rows m
      ∙ are.over px py m;
}

pub shared_slots : (lens : Lens) (ps : List Piece) (ss : List Slot) (before after : List Strip) → All (IsPieceOf lens) ps → AreSlotsOf lens ps ss → All (IsStripOf lens) before → length after ≡ length before → AreShared ss before after → All (HasSlotsFor lens ps) after
shared_slots lens ps ss before after ready are strips long shared i d below =
    let in_list : i < length before = omega (arith, below, long) in
    share_for lens ps ss (get_or before i d) (get_or after i d) ready are (strips i d in_list) (shared i d in_list)

-- ---- strips with their slots are the same strips
pub shared_strip : (lens : Lens) (ss : List Slot) (before after : Strip) → IsStripOf lens before → HasShare ss before after → IsStripOf lens after
shared_strip lens ss before after strip has = record {
  band = subst (λ (b : Block). IsBlockOf lens b) (sym has.band) strip.band;
  begins = omega (arith, strip.begins, ap (λ (b : Block). b.first) has.band);
  most = omega (arith, strip.most, ap (λ (b : Block). b.rows) has.band);
  tiles = subst (λ (b : Block). AreTilesOf b after.tiles.items) (sym has.band) (subst (λ (ts : List Tile). AreTilesOf before.band ts) (sym has.tiles) strip.tiles);
}

pub shared_strips : (lens : Lens) (ss : List Slot) (before after : List Strip) → All (IsStripOf lens) before → length after ≡ length before → AreShared ss before after → All (IsStripOf lens) after
shared_strips lens ss before after strips long shared i d below =
    let in_list : i < length before = omega (arith, below, long) in
    shared_strip lens ss (get_or before i d) (get_or after i d) (strips i d in_list) (shared i d in_list)

-- what holds of the tiles from there on holds of them from before
pub shared_before : (P : Tile → Tile → Type 0) (ss : List StripSlot) (a b c : Strip) → HasSlots ss a b → StripRelates P b c → StripRelates P a c
shared_before P ss a b c has h = record {
  band = h.band ∙ has.band;
  count = h.count ∙ ap (λ (ts : List Tile). length ts) has.tiles;
  tiles = subst (λ (ts : List Tile). TilesRelate P ts c.tiles.items) has.tiles h.tiles;
}

pub shared_relate : (P : Tile → Tile → Type 0) (ss : List Slot) (before shared after : List Strip) → length shared ≡ length before → AreShared ss before shared → StripsRelate P shared after → StripsRelate P before after
shared_relate P ss before shared after long are each i d below =
    shared_before P (map in_strip (filter (meets (get_or before i d).band) ss)) (get_or before i d) (get_or shared i d) (get_or after i d) (are i d below) (each i d (omega (arith, below, long)))

-- ---- strips one below the other
pub picture_lies : (lens : Lens) (strips : List Strip) → AreStrips lens strips → AreStacked strips
picture_lies lens strips are i d below = ap (λ (b : Block). b.first) (are.bands i d below)

-- the tiles of a band
pub tile_over : (lens : Lens) (ps : List Piece) (b : Block) (ss : List StripSlot) (j : ℕ) (t : Tile) → AreSlotsFor lens ps b ss → t.block ≡ tile_block b j → IsBlockOf lens t.block → AreOver lens ps ss t
tile_over lens ps b ss j t slots is within q r at m =
    let first : t.block.first ≡ b.first = ap (λ (c : Block). c.first) is in
    let row : r < b.rows = omega (arith, at.row, ap (λ (c : Block). c.rows) is) in
    subst (λ (y : ℕ). strip_slots_over lens ps ss (t.block.left + q) (y + r) m ≡ pieces_over lens ps (t.block.left + q) (y + r) m) (sym first)
    (slots.over (t.block.left + q) r m (omega (arith, at.column, within.columns)) row)
