-- Frames whose pieces are all there: where they stand, and that they stay where more comes.
use Rattle.std.proofs.Common.{◌≡◌, ◌∙◌, ℕ, zero, suc, ◌≤◌, Bool, true, false, List, [], ◌∷◌, ◌++◌, map, take, drop, length, slice_get, Some, refl, sym, ap, subst, arith, append_assoc, length-append}
use Rattle.std.specs.Prelude.{nat_lt}
use Rattle.std.specs.List.{fold}
use Rattle.std.proofs.lemmas.Bool.{ltb-false, le-ltb}
use Rattle.std.proofs.lemmas.List.{append-nil, length-take-le, take-append-le, drop-append-le}
use Rattle.std.proofs.lemmas.List.Sums.{fold-append}
use Rattle.std.proofs.lemmas.Option.{same_Some}
use Rattle.pf_model.specs.Graphs.{Nodes}
use Rattle.pf_model.specs.Copies.{updated_by}
use Rattle.stage_parts.specs.Loads.{LoadState}
use Rattle.stage_parts.specs.Parts.{carried, passed_on}
use Rattle.stream_stages.specs.Cuts.{Cut}
use Rattle.stream_stages.specs.PieceFrames.{PieceLists, with_piece, lists_in, channels_of, PieceFrame, frames_in}
use Rattle.stream_stages.specs.CullParts.{with_stood, handed_on}
use Rattle.stream_stages.proofs.Dealing.{with_on, with_end, this_frame, short_frames, full_frames}

-- Lists

-- the lists that are whole stay, whatever pieces come behind
record GoesOn (before after : List (List Cut)) : Type 0 where
  more : List (List Cut)
  on : after ≡ before ++ more

one_on : (l : PieceLists) (p : Cut) → GoesOn l.whole (with_piece l p).whole
one_on l p = by p.last refl
  where
    by : (t : Bool) → p.last ≡ t → GoesOn l.whole (with_piece l p).whole
    by true mark = record { more = (l.begun ++ p ∷ []) ∷ []; on = ap (λ (x : PieceLists). x.whole) (with_end l p mark) }
    by false mark =
        record { more = []; on = ap (λ (x : PieceLists). x.whole) (with_on l p mark) ∙ sym (append-nil l.whole) }

all_on : (l : PieceLists) (ps : List Cut) → GoesOn l.whole (fold with_piece l ps).whole
all_on l [] = record { more = []; on = sym (append-nil l.whole) }
all_on l (p ∷ ps) =
    let here = one_on l p in
    let rest = all_on (with_piece l p) ps in
    record {
      more = here.more ++ rest.more;
      on = rest.on ∙ ap (λ (ls : List (List Cut)). ls ++ rest.more) here.on ∙ append_assoc l.whole here.more rest.more;
    }

lists_go_on : (ps qs : List Cut) → GoesOn (lists_in ps).whole (lists_in (ps ++ qs)).whole
lists_go_on ps qs =
    let rest = all_on (lists_in ps) qs in
    record {
      more = rest.more;
      on =
          ap (λ (l : PieceLists). l.whole) (fold-append with_piece (record { whole = []; begun = [] }) ps qs) ∙ rest.on;
    }

-- Frames

-- what stands at a place of frames stands there in the same ones
same_there : (fs gs : List PieceFrame) (i : ℕ) (f : PieceFrame) → fs ≡ gs → slice_get fs i ≡ Some f →
    slice_get gs i ≡ Some f
same_there fs gs i f same at = sym (ap (λ (hs : List PieceFrame). slice_get hs i) same) ∙ at

-- nothing stands where there are none
none_there : (fs : List PieceFrame) (i : ℕ) (f : PieceFrame) → fs ≡ [] → slice_get fs i ≡ Some f → ⊥
none_there fs i f none at = let there = same_there fs [] i f none at in cc

-- a load that has its lists keeps them
still_full : (l : LoadState) (lists more : List (List Cut)) → nat_lt (length lists) (channels_of l) ≡ false →
    nat_lt (length (lists ++ more)) (channels_of l) ≡ false
still_full l lists more e =
    let enough : channels_of l ≤ length lists = ltb-false (length lists) (channels_of l) e in
    le-ltb (length (lists ++ more)) (channels_of l) (omega (arith, enough, length-append lists more))

more_frames : (loads ls : List LoadState) (lists more : List (List Cut)) (i : ℕ) (f : PieceFrame) →
    slice_get (frames_in loads lists) i ≡ Some f →
    slice_get (frames_in (loads ++ ls) (lists ++ more)) i ≡ Some f
more_frames [] ls lists more i f at = absurd (cc)
more_frames (l ∷ loads) ls lists more i f at =
    by (nat_lt (length lists) (channels_of l)) refl
    (λ j there. more_frames loads ls (drop (channels_of l) lists) more j f there)
  where
    Stays : Type 0
    Stays = (j : ℕ) → slice_get (frames_in loads (drop (channels_of l) lists)) j ≡ Some f →
        slice_get (frames_in (loads ++ ls) (drop (channels_of l) lists ++ more)) j ≡ Some f

    next : Stays → (j : ℕ) → slice_get (this_frame l lists ∷ frames_in loads (drop (channels_of l) lists)) j ≡ Some f →
        slice_get (this_frame l lists ∷ frames_in (loads ++ ls) (drop (channels_of l) lists ++ more)) j ≡ Some f
    next rest zero here = here
    next rest (suc j) there = rest j there

    by : (t : Bool) → nat_lt (length lists) (channels_of l) ≡ t → Stays →
        slice_get (frames_in (l ∷ loads ++ ls) (lists ++ more)) i ≡ Some f
    by true e rest = absurd (none_there (frames_in (l ∷ loads) lists) i f (short_frames l loads lists e) at)
    by false e rest =
        let enough : channels_of l ≤ length lists = ltb-false (length lists) (channels_of l) e in
        let same : this_frame l (lists ++ more) ≡ this_frame l lists =
        ap (λ (xs : List (List Cut)). record { load = l; lists = xs })
        (take-append-le (channels_of l) lists more enough) in
        ap (λ (fs : List PieceFrame). slice_get fs i)
        (full_frames l (loads ++ ls) (lists ++ more) (still_full l lists more e)
        ∙ ap (λ (g : PieceFrame). g ∷ frames_in (loads ++ ls) (drop (channels_of l) (lists ++ more))) same
        ∙ ap (λ (xs : List (List Cut)). this_frame l lists ∷ frames_in (loads ++ ls) xs)
        (drop-append-le (channels_of l) lists more enough))
        ∙ next rest i (same_there (frames_in (l ∷ loads) lists) _ i f (full_frames l loads lists e) at)

-- a frame whose pieces are there stays the same, whatever loads and pieces come behind
pub frames_go_on : (loads ls : List LoadState) (ps qs : List Cut) (i : ℕ) (f : PieceFrame) →
    slice_get (frames_in loads (lists_in ps).whole) i ≡ Some f →
    slice_get (frames_in (loads ++ ls) (lists_in (ps ++ qs)).whole) i ≡ Some f
frames_go_on loads ls ps qs i f at =
    let whole = lists_go_on ps qs in
    ap (λ (lists : List (List Cut)). slice_get (frames_in (loads ++ ls) lists) i) whole.on
    ∙ more_frames loads ls (lists_in ps).whole whole.more i f at

-- A frame at a place has the load there, and as many lists as this has channels.
pub record IsFrameAt (loads : List LoadState) (i : ℕ) (f : PieceFrame) : Type 0 where
  pub load : slice_get loads i ≡ Some f.load
  pub many : length f.lists ≡ channels_of f.load

pub frame_at : (loads : List LoadState) (lists : List (List Cut)) (i : ℕ) (f : PieceFrame) →
    slice_get (frames_in loads lists) i ≡ Some f →
    IsFrameAt loads i f
frame_at [] lists i f at = absurd (cc)
frame_at (l ∷ loads) lists i f at =
    by (nat_lt (length lists) (channels_of l)) refl (λ j there. frame_at loads (drop (channels_of l) lists) j f there)
  where
    Stands : Type 0
    Stands = (j : ℕ) → slice_get (frames_in loads (drop (channels_of l) lists)) j ≡ Some f → IsFrameAt loads j f

    next : Stands → (j : ℕ) → channels_of l ≤ length lists →
        slice_get (this_frame l lists ∷ frames_in loads (drop (channels_of l) lists)) j ≡ Some f →
        IsFrameAt (l ∷ loads) j f
    next rest zero enough here =
        subst (IsFrameAt (l ∷ loads) 0) (same_Some (this_frame l lists) f here)
        (record { load = refl; many = length-take-le (channels_of l) lists enough })
    next rest (suc j) enough there = record { load = (rest j there).load; many = (rest j there).many }

    by : (t : Bool) → nat_lt (length lists) (channels_of l) ≡ t → Stands → IsFrameAt (l ∷ loads) i f
    by true e rest = absurd (none_there (frames_in (l ∷ loads) lists) i f (short_frames l loads lists e) at)
    by false e rest =
        next rest i (ltb-false (length lists) (channels_of l) e)
        (same_there (frames_in (l ∷ loads) lists) _ i f (full_frames l loads lists e) at)

pub few_frames : (loads : List LoadState) (lists : List (List Cut)) → length (frames_in loads lists) ≤ length loads
few_frames [] lists = omega arith
few_frames (l ∷ loads) lists =
    by (nat_lt (length lists) (channels_of l)) refl (few_frames loads (drop (channels_of l) lists))
  where
    by : (t : Bool) → nat_lt (length lists) (channels_of l) ≡ t →
        length (frames_in loads (drop (channels_of l) lists)) ≤ length loads →
        length (frames_in (l ∷ loads) lists) ≤ suc (length loads)
    by true e rest = omega (arith, ap length (short_frames l loads lists e))
    by false e rest = omega (arith, ap length (full_frames l loads lists e), rest)

-- What CULL passes on

-- A frame over loads that were passed on, and the load that was received for it.
pub record IsHanded (loads : List LoadState) (lists : List (List Cut)) (i : ℕ) (f : PieceFrame) : Type 0 where
  pub old : LoadState
  pub nodes : Nodes
  pub stands : slice_get (frames_in loads lists) i ≡ Some (record { load = old; lists = f.lists })
  pub same : f.load ≡ with_stood nodes old

pub handed_frame : (nodes : Nodes) (loads : List LoadState) (lists : List (List Cut)) (i : ℕ) (f : PieceFrame) →
    slice_get (frames_in (handed_on nodes loads) lists) i ≡ Some f → IsHanded loads lists i f
handed_frame nodes [] lists i f at = absurd (cc)
handed_frame nodes (l ∷ loads) lists i f at =
    by (nat_lt (length lists) (channels_of l)) refl
    (λ j there. handed_frame (updated_by nodes l.cut.updates) loads (drop (channels_of l) lists) j f there)
  where
    later : List LoadState
    later = handed_on (updated_by nodes l.cut.updates) loads

    Comes : Type 0
    Comes = (j : ℕ) → slice_get (frames_in later (drop (channels_of l) lists)) j ≡ Some f →
        IsHanded loads (drop (channels_of l) lists) j f

    next : Comes → (j : ℕ) → nat_lt (length lists) (channels_of l) ≡ false →
        slice_get (this_frame (with_stood nodes l) lists ∷ frames_in later (drop (channels_of l) lists)) j ≡ Some f →
        IsHanded (l ∷ loads) lists j f
    next rest zero e here =
        subst (IsHanded (l ∷ loads) lists 0) (same_Some (this_frame (with_stood nodes l) lists) f here)
        (record {
          old = l;
          nodes = nodes;
          stands = ap (λ (fs : List PieceFrame). slice_get fs 0) (full_frames l loads lists e);
          same = refl;
        })
    next rest (suc j) e there =
        let h = rest j there in
        record {
          old = h.old;
          nodes = h.nodes;
          stands = ap (λ (fs : List PieceFrame). slice_get fs (suc j)) (full_frames l loads lists e) ∙ h.stands;
          same = h.same;
        }

    by : (t : Bool) → nat_lt (length lists) (channels_of l) ≡ t → Comes → IsHanded (l ∷ loads) lists i f
    by true e rest =
        absurd
        (none_there (frames_in (with_stood nodes l ∷ later) lists) i f
        (short_frames (with_stood nodes l) later lists e) at)
    by false e rest =
        next rest i e
        (same_there (frames_in (with_stood nodes l ∷ later) lists) _ i f
        (full_frames (with_stood nodes l) later lists e) at)

pub handed_length : (nodes : Nodes) (loads : List LoadState) → length (handed_on nodes loads) ≡ length loads
handed_length nodes [] = refl
handed_length nodes (l ∷ loads) = ap suc (handed_length (updated_by nodes l.cut.updates) loads)

-- the first loads that were passed on are what an ordinary cull passes on of the first ones
pub handed_front : (n : ℕ) (nodes : Nodes) (loads : List LoadState) →
    map carried (take n (handed_on nodes loads)) ≡ passed_on nodes (take n loads)
handed_front zero nodes loads = refl
handed_front (suc n) nodes [] = refl
handed_front (suc n) nodes (l ∷ loads) =
    ap (λ cs. carried (with_stood nodes l) ∷ cs) (handed_front n (updated_by nodes l.cut.updates) loads)
