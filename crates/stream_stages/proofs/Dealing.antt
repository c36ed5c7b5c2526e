-- Pieces cut into lists, and lists dealt to loads.
use Rattle.std.proofs.Common.{◌≡◌, suc, ◌<◌, ◌≤◌, Bool, true, false, if◌then◌else◌, List, [], ◌∷◌, ◌++◌, length, take, drop, refl, sym, ap, ◌∙◌, arith}
use Rattle.std.specs.Prelude.{nat_lt}
use Rattle.std.proofs.lemmas.Bool.{ltb-false, lt-ltb, le-ltb}
use Rattle.std.proofs.lemmas.List.{length_push, take_all, drop_all, take-append-le, drop-append-le}
use Rattle.std.proofs.lemmas.List.Sums.{fold-append}
use Rattle.stage_parts.specs.Loads.{LoadState}
use Rattle.stream_stages.specs.Cuts.{Cut}
use Rattle.stream_stages.specs.PieceFrames.{PieceLists, with_piece, lists_in, channels_of, PieceFrame, frames_in, left_in}

-- Lists

pub lists_more : (ps : List Cut) (p : Cut) → lists_in (ps ++ p ∷ []) ≡ with_piece (lists_in ps) p
lists_more ps p = fold-append with_piece (record { whole = []; begun = [] }) ps (p ∷ [])

abbrev with_last : PieceLists → Cut → PieceLists
with_last l p = record { whole = l.whole ++ (l.begun ++ p ∷ []) ∷ []; begun = [] }

abbrev with_next : PieceLists → Cut → PieceLists
with_next l p = record { whole = l.whole; begun = l.begun ++ p ∷ [] }

pub with_on : (l : PieceLists) (p : Cut) → p.last ≡ false → with_piece l p ≡ record { whole = l.whole; begun = l.begun ++ p ∷ [] }
with_on l p mark = ap (λ (t : Bool). if t then with_last l p else with_next l p) mark

pub with_end : (l : PieceLists) (p : Cut) → p.last ≡ true →
    with_piece l p ≡ record { whole = l.whole ++ (l.begun ++ p ∷ []) ∷ []; begun = [] }
with_end l p mark = ap (λ (t : Bool). if t then with_last l p else with_next l p) mark

-- a piece without the mark goes to the list that is under way
pub lists_on : (ps : List Cut) (p : Cut) → p.last ≡ false →
    lists_in (ps ++ p ∷ []) ≡ record { whole = (lists_in ps).whole; begun = (lists_in ps).begun ++ p ∷ [] }
lists_on ps p mark = lists_more ps p ∙ with_on (lists_in ps) p mark

-- a piece with the mark ends it
pub lists_end : (ps : List Cut) (p : Cut) → p.last ≡ true →
    lists_in (ps ++ p ∷ []) ≡ record { whole = (lists_in ps).whole ++ ((lists_in ps).begun ++ p ∷ []) ∷ []; begun = [] }
lists_end ps p mark = lists_more ps p ∙ with_end (lists_in ps) p mark

-- Frames

abbrev no_frames : List PieceFrame
no_frames = []

abbrev a_frame : LoadState → List (List Cut) → PieceFrame
a_frame l lists = record { load = l; lists = lists }

abbrev pub this_frame : LoadState → List (List Cut) → PieceFrame
this_frame l lists = a_frame l (take (channels_of l) lists)

-- the first load has too few lists
pub short_frames : (l : LoadState) (loads : List LoadState) (lists : List (List Cut)) → nat_lt (length lists) (channels_of l) ≡ true →
    frames_in (l ∷ loads) lists ≡ []
short_frames l loads lists e =
    ap (λ (t : Bool). if t then no_frames else this_frame l lists ∷ frames_in loads (drop (channels_of l) lists)) e

short_left : (l : LoadState) (loads : List LoadState) (lists : List (List Cut)) → nat_lt (length lists) (channels_of l) ≡ true →
    left_in (l ∷ loads) lists ≡ lists
short_left l loads lists e = ap (λ (t : Bool). if t then lists else left_in loads (drop (channels_of l) lists)) e

-- the first load has its lists
pub full_frames : (l : LoadState) (loads : List LoadState) (lists : List (List Cut)) → nat_lt (length lists) (channels_of l) ≡ false →
    frames_in (l ∷ loads) lists ≡ this_frame l lists ∷ frames_in loads (drop (channels_of l) lists)
full_frames l loads lists e =
    ap (λ (t : Bool). if t then no_frames else this_frame l lists ∷ frames_in loads (drop (channels_of l) lists)) e

full_left : (l : LoadState) (loads : List LoadState) (lists : List (List Cut)) → nat_lt (length lists) (channels_of l) ≡ false →
    left_in (l ∷ loads) lists ≡ left_in loads (drop (channels_of l) lists)
full_left l loads lists e = ap (λ (t : Bool). if t then lists else left_in loads (drop (channels_of l) lists)) e

-- where all loads but the first have their lists, so has the first
rest_whole : (l : LoadState) (loads : List LoadState) (lists : List (List Cut)) → nat_lt (length lists) (channels_of l) ≡ false →
    length (frames_in (l ∷ loads) lists) ≡ suc (length loads) → length (frames_in loads (drop (channels_of l) lists)) ≡ length loads
rest_whole l loads lists e all =
    let here = ap length (full_frames l loads lists e) in
    omega (arith, here, all)

not_short : (l : LoadState) (loads : List LoadState) (lists : List (List Cut)) → nat_lt (length lists) (channels_of l) ≡ true →
    length (frames_in (l ∷ loads) lists) ≡ suc (length loads) → ⊥
not_short l loads lists e all =
    let here = ap length (short_frames l loads lists e) in
    omega (arith, here, all)

-- What one load more makes of lists, where all before it have theirs.
pub record IsDealtOn (loads : List LoadState) (l : LoadState) (lists : List (List Cut)) : Type 0 where
  pub frames : frames_in (loads ++ l ∷ []) lists ≡ frames_in loads lists ++ frames_in (l ∷ []) (left_in loads lists)
  pub left : left_in (loads ++ l ∷ []) lists ≡ left_in (l ∷ []) (left_in loads lists)

pub dealt_on : (loads : List LoadState) (l : LoadState) (lists : List (List Cut)) → length (frames_in loads lists) ≡ length loads →
    IsDealtOn loads l lists
dealt_on [] l lists all = record { frames = refl; left = refl }
dealt_on (k ∷ loads) l lists all = by (nat_lt (length lists) (channels_of k)) refl (dealt_on loads l (drop (channels_of k) lists))
  where
    by : (t : Bool) → nat_lt (length lists) (channels_of k) ≡ t →
        (length (frames_in loads (drop (channels_of k) lists)) ≡ length loads → IsDealtOn loads l (drop (channels_of k) lists)) →
        IsDealtOn (k ∷ loads) l lists
    by true e next = absurd (not_short k loads lists e all)
    by false e next =
        let rest = next (rest_whole k loads lists e all) in
        record {
          frames =
              full_frames k (loads ++ l ∷ []) lists e ∙ ap (λ (fs : List PieceFrame). this_frame k lists ∷ fs) rest.frames
              ∙ sym (ap (λ (fs : List PieceFrame). fs ++ frames_in (l ∷ []) (left_in (k ∷ loads) lists)) (full_frames k loads lists e)
              ∙ ap (λ (ls : List (List Cut)). this_frame k lists ∷ (frames_in loads (drop (channels_of k) lists) ++ frames_in (l ∷ []) ls))
              (full_left k loads lists e));
          left =
              full_left k (loads ++ l ∷ []) lists e ∙ rest.left
              ∙ ap (λ (ls : List (List Cut)). left_in (l ∷ []) ls) (sym (full_left k loads lists e));
        }

-- What one list more is, where all loads have theirs.
pub record IsLeftOver (loads : List LoadState) (lists : List (List Cut)) (list : List Cut) : Type 0 where
  pub frames : frames_in loads (lists ++ list ∷ []) ≡ frames_in loads lists
  pub left : left_in loads (lists ++ list ∷ []) ≡ left_in loads lists ++ list ∷ []

pub left_over : (loads : List LoadState) (lists : List (List Cut)) (list : List Cut) → length (frames_in loads lists) ≡ length loads →
    IsLeftOver loads lists list
left_over [] lists list all = record { frames = refl; left = refl }
left_over (l ∷ loads) lists list all =
    by (nat_lt (length lists) (channels_of l)) refl (left_over loads (drop (channels_of l) lists) list)
  where
    by : (t : Bool) → nat_lt (length lists) (channels_of l) ≡ t →
        (length (frames_in loads (drop (channels_of l) lists)) ≡ length loads → IsLeftOver loads (drop (channels_of l) lists) list) →
        IsLeftOver (l ∷ loads) lists list
    by true e next = absurd (not_short l loads lists e all)
    by false e next =
        let enough : channels_of l ≤ length lists = ltb-false (length lists) (channels_of l) e in
        let longer : length lists ≤ length (lists ++ list ∷ []) = omega (arith, length_push lists list) in
        let still : nat_lt (length (lists ++ list ∷ [])) (channels_of l) ≡ false =
        le-ltb (length (lists ++ list ∷ [])) (channels_of l) (omega (arith, enough, longer)) in
        let dropped = drop-append-le (channels_of l) lists (list ∷ []) enough in
        let taken = take-append-le (channels_of l) lists (list ∷ []) enough in
        let rest = next (rest_whole l loads lists e all) in
        record {
          frames =
              full_frames l loads (lists ++ list ∷ []) still
              ∙ ap (λ (ls : List (List Cut)). a_frame l ls ∷ frames_in loads (drop (channels_of l) (lists ++ list ∷ []))) taken
              ∙ ap (λ (ls : List (List Cut)). this_frame l lists ∷ frames_in loads ls) dropped
              ∙ ap (λ (fs : List PieceFrame). this_frame l lists ∷ fs) rest.frames
              ∙ sym (full_frames l loads lists e);
          left =
              full_left l loads (lists ++ list ∷ []) still
              ∙ ap (λ (ls : List (List Cut)). left_in loads ls) dropped ∙ rest.left
              ∙ ap (λ (ls : List (List Cut)). ls ++ list ∷ []) (sym (full_left l loads lists e));
        }

-- one load, too few lists
pub one_short : (l : LoadState) (lists : List (List Cut)) → length lists < channels_of l → frames_in (l ∷ []) lists ≡ []
one_short l lists few = short_frames l [] lists (lt-ltb (length lists) (channels_of l) few)

pub one_short_left : (l : LoadState) (lists : List (List Cut)) → length lists < channels_of l → left_in (l ∷ []) lists ≡ lists
one_short_left l lists few = short_left l [] lists (lt-ltb (length lists) (channels_of l) few)

-- one load, just its lists
pub one_full : (l : LoadState) (lists : List (List Cut)) → length lists ≡ channels_of l →
    frames_in (l ∷ []) lists ≡ record { load = l; lists = lists } ∷ []
one_full l lists just =
    full_frames l [] lists (le-ltb (length lists) (channels_of l) (omega (arith, just)))
    ∙ ap (λ (ls : List (List Cut)). a_frame l ls ∷ []) (take_all (channels_of l) lists (omega (arith, just)))

pub one_full_left : (l : LoadState) (lists : List (List Cut)) → length lists ≡ channels_of l → left_in (l ∷ []) lists ≡ []
one_full_left l lists just =
    full_left l [] lists (le-ltb (length lists) (channels_of l) (omega (arith, just)))
    ∙ drop_all (channels_of l) lists (omega (arith, just))
