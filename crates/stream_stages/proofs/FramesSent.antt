-- The pieces of one frame after the other.
use Rattle.std.proofs.Common.{◌≡◌, ◌⊎◌, ℕ, zero, suc, ◌+◌, ◌<◌, ◌≤◌, min, true, false, List, [], ◌∷◌, ◌++◌, length, slice_get, Option, Some, None, refl, sym, ap, ◌∙◌, subst, arith, inl, inr}
use Rattle.std.specs.Prelude.{slice_index_or}
use Rattle.std.proofs.lemmas.List.{append-nil, length_push}
use Rattle.std.proofs.lemmas.Option.{same_Some}
use Rattle.fx_math.specs.declared.lenses.Lens.{Lens}
use Rattle.pf_model.specs.Angles.{Viewpoint}
use Rattle.pf_model.specs.Graphs.{Look, Nodes, node_at}
use Rattle.pf_model.specs.Limits.{KeepsLimits, IsWithinLimits}
use Rattle.multibuffer.specs.StageCopies.{CopyState, boxes_of}
use Rattle.stage_parts.specs.Loads.{LoadState}
use Rattle.stage_parts.specs.Packets.{copy_at}
use Rattle.stage_parts.proofs.Places.{get_length}
use Rattle.stage_parts.proofs.Pushes.{get_push, copy_front}
use Rattle.stream_stages.specs.Cuts.{Cut}
use Rattle.stream_stages.specs.Routes.{Walking}
use Rattle.stream_stages.specs.Underway.{IsStreamable}
use Rattle.stream_stages.specs.declared.sending.Sending.{Sending}
use Rattle.stream_stages.specs.PieceFrames.{PieceLists, with_piece, channels_of, PieceFrame, frames_in, left_in}
use Rattle.stream_stages.specs.CullParts.{IsCopyOf, AreAllWithin, CanStream, IsListOf, AreListsOf, AreStreamed, IsSentTo, first_four, AreAllSent, SendsPieces}
use Rattle.stream_stages.specs.CullSteps.{IsReadyToSend, FillsOne}
use Rattle.stream_stages.proofs.Dealing.{with_on, with_end, dealt_on, left_over, one_short, one_full, one_full_left}
use Rattle.stream_stages.proofs.ListsSent.{StartsAt, none_sent, one_sent, list_sent}

-- Frames that were sent wholly

-- What can be exact could be before one more load came.
before_of : (before : List LoadState) (last : LoadState) (i : ℕ) (l : LoadState) → suc i ≤ length before →
    CanStream (before ++ last ∷ []) i l → CanStream before i l
before_of before last i l below can =
    record {
      limits = λ k m. subst (λ (n : Nodes). KeepsLimits (node_at n)) (copy_front before (last ∷ []) k (omega (arith, m, below)))
          (can.limits k m);
      within = subst (λ (n : Nodes). IsWithinLimits (node_at n) l.cut.frame)
          (copy_front before (last ∷ []) (i + 1) (omega (arith, below))) can.within;
    }

-- It can still be where one more load comes.
still_of : (before : List LoadState) (last : LoadState) (i : ℕ) (l : LoadState) → suc i ≤ length before →
    CanStream before i l → CanStream (before ++ last ∷ []) i l
still_of before last i l below can =
    record {
      limits = λ k m. subst (λ (n : Nodes). KeepsLimits (node_at n)) (sym (copy_front before (last ∷ []) k (omega (arith, m, below))))
          (can.limits k m);
      within = subst (λ (n : Nodes). IsWithinLimits (node_at n) l.cut.frame)
          (sym (copy_front before (last ∷ []) (i + 1) (omega (arith, below)))) can.within;
    }

frame_within : (loads : List LoadState) (whole : List (List Cut)) (i : ℕ) (f : PieceFrame) → length (frames_in loads whole) ≡ length loads →
    slice_get (frames_in loads whole) i ≡ Some f → suc i ≤ length loads
frame_within loads whole i f all at =
    let below = get_length (frames_in loads whole) i f at in
    omega (arith, below, all)

-- the frames before the last load
streamed_on : (lens : Lens) (limit : ℕ) (before : List LoadState) (last : LoadState) (whole : List (List Cut)) →
    length (frames_in before whole) ≡ length before → frames_in (before ++ last ∷ []) whole ≡ frames_in before whole →
    AreStreamed lens limit before whole → AreStreamed lens limit (before ++ last ∷ []) whole
streamed_on lens limit before last whole all same streamed i f at can =
    let here = ap (λ (fs : List PieceFrame). slice_get fs i) (sym same) ∙ at in
    let below = frame_within before whole i f all here in
    subst (λ (n : Nodes). AreListsOf lens limit (node_at n) f.load f.lists) (sym (copy_front before (last ∷ []) (i + 1) (omega (arith, below))))
    (streamed i f here (before_of before last i f.load below can))

streamed_before : (lens : Lens) (limit : ℕ) (before : List LoadState) (last : LoadState) (whole : List (List Cut)) →
    length (frames_in before whole) ≡ length before → frames_in (before ++ last ∷ []) whole ≡ frames_in before whole →
    AreStreamed lens limit (before ++ last ∷ []) whole → AreStreamed lens limit before whole
streamed_before lens limit before last whole all same streamed i f at can =
    let below = frame_within before whole i f all at in
    subst (λ (n : Nodes). AreListsOf lens limit (node_at n) f.load f.lists) (copy_front before (last ∷ []) (i + 1) (omega (arith, below)))
    (streamed i f (ap (λ (fs : List PieceFrame). slice_get fs i) same ∙ at) (still_of before last i f.load below can))

abbrev IsRight : Lens → (limit : ℕ) → List LoadState → ℕ → PieceFrame → Type 0
IsRight lens limit loads i f =
    CanStream loads i f.load → AreListsOf lens limit (node_at (copy_at loads (i + 1))) f.load f.lists

-- and the frame of the last load
streamed_last : (lens : Lens) (limit : ℕ) (before : List LoadState) (last : LoadState) (whole : List (List Cut)) (lists : List (List Cut)) →
    length (frames_in before whole) ≡ length before →
    frames_in (before ++ last ∷ []) whole ≡ frames_in before whole ++ record { load = last; lists = lists } ∷ [] →
    AreStreamed lens limit before whole →
    IsRight lens limit (before ++ last ∷ []) (length before) (record { load = last; lists = lists }) →
    AreStreamed lens limit (before ++ last ∷ []) whole
streamed_last lens limit before last whole lists all same streamed right i f at =
    by (get_push (frames_in before whole) this i f (ap (λ (fs : List PieceFrame). slice_get fs i) (sym same) ∙ at))
  where
    this : PieceFrame
    this = record { load = last; lists = lists }

    by : (slice_get (frames_in before whole) i ≡ Some f) ⊎ ((i ≡ length (frames_in before whole)) × (this ≡ f)) →
        IsRight lens limit (before ++ last ∷ []) i f
    by (inl here) = λ can.
        let below = frame_within before whole i f all here in
        subst (λ (n : Nodes). AreListsOf lens limit (node_at n) f.load f.lists)
        (sym (copy_front before (last ∷ []) (i + 1) (omega (arith, below))))
        (streamed i f here (before_of before last i f.load below can))
    by (inr end) =
        subst (λ (j : ℕ). IsRight lens limit (before ++ last ∷ []) j f) (sym (end.0 ∙ all))
        (subst (IsRight lens limit (before ++ last ∷ []) (length before)) end.1 right)

-- The copy

last_copy : (copy : CopyState) (loads before : List LoadState) (last : LoadState) → loads ≡ before ++ last ∷ [] → IsCopyOf copy loads →
    copy.nodes ≡ copy_at (before ++ last ∷ []) (length before + 1)
last_copy copy loads before last all copied =
    copied.nodes ∙ ap (λ (ls : List LoadState). copy_at ls (length ls)) all ∙ ap (copy_at (before ++ last ∷ [])) (length_push before last)

-- where the pieces of the last load can be exact, its walk is
can_walk : (copy : CopyState) (loads before : List LoadState) (last : LoadState) (time : ℕ) → loads ≡ before ++ last ∷ [] → IsCopyOf copy loads →
    time ≡ last.cut.frame → CanStream (before ++ last ∷ []) (length before) last → IsStreamable (node_at copy.nodes) (boxes_of copy) time
can_walk copy loads before last time all copied is can =
    let within : AreAllWithin (before ++ last ∷ []) = λ k few. can.limits k (omega (arith, few, length_push before last)) in
    record {
      limits =
          subst (λ (t : ℕ). IsWithinLimits (node_at copy.nodes) t) (sym is)
          (subst (λ (n : Nodes). IsWithinLimits (node_at n) last.cut.frame) (sym (last_copy copy loads before last all copied)) can.within);
      boxes_are = (copied.boxes (subst AreAllWithin (sym all) within)).each;
    }

-- Views

view_at : (vs : List Viewpoint) (i : ℕ) → i < 4 → slice_index_or (first_four vs) i None ≡ slice_get vs i
view_at vs zero l = refl
view_at vs (suc zero) l = refl
view_at vs (suc (suc zero)) l = refl
view_at vs (suc (suc (suc zero))) l = refl
view_at vs (suc (suc (suc (suc i)))) l = absurd (omega (arith, l))

none_past : (vs : List Viewpoint) (i : ℕ) → slice_get vs i ≡ None → length vs ≤ i
none_past [] i none = omega arith
none_past (v ∷ vs) zero none = absurd (cc)
none_past (v ∷ vs) (suc i) none = let rest = none_past vs i none in omega (arith, rest)

none_left : (vs : List Viewpoint) (i : ℕ) → (i < 4 → slice_index_or (first_four vs) i None ≡ None) → min (length vs) 4 ≤ i
none_left vs zero none = let past = none_past vs 0 (none (omega arith)) in omega (arith, past)
none_left vs (suc zero) none = let past = none_past vs 1 (none (omega arith)) in omega (arith, past)
none_left vs (suc (suc zero)) none = let past = none_past vs 2 (none (omega arith)) in omega (arith, past)
none_left vs (suc (suc (suc zero))) none = let past = none_past vs 3 (none (omega arith)) in omega (arith, past)
none_left vs (suc (suc (suc (suc i)))) none = omega arith

-- Beginning a channel

-- it is begun
pub channel_begun : (lens : Lens) (limit : ℕ) (copy : CopyState) (walk : Walking) (loads : List LoadState) (lists : PieceLists) (s : Sending)
    (v : Viewpoint) → s.channel < 4 → Some v ≡ slice_index_or s.views s.channel None → StartsAt s.time v lens walk →
    IsReadyToSend lens limit copy loads lists s → SendsPieces lens limit copy (Some s) walk loads lists
channel_begun lens limit copy walk loads lists s v low is starts ready =
    let before = ready.before in
    let last = ready.last in
    let up_to = ready.up_to in
    let found : slice_get last.cut.views s.channel ≡ Some v =
    sym (view_at last.cut.views s.channel low) ∙ ap (λ (vs : List (Option Viewpoint)). slice_index_or vs s.channel None) (sym up_to.views) ∙ sym is in
    let there = get_length last.cut.views s.channel v found in
    let more : s.channel < channels_of last = omega (arith, there, low) in
    let few : length (left_in before lists.whole) < channels_of last = omega (arith, more, up_to.channel) in
    let same : frames_in (before ++ last ∷ []) lists.whole ≡ frames_in before lists.whole =
    (dealt_on before last lists.whole up_to.frames).frames
    ∙ ap (λ (fs : List PieceFrame). frames_in before lists.whole ++ fs) (one_short last (left_in before lists.whole) few)
    ∙ append-nil (frames_in before lists.whole) in
    record {
      streamed = subst (λ (ls : List LoadState). AreStreamed lens limit ls lists.whole) (sym ready.all)
          (streamed_on lens limit before last lists.whole up_to.frames same ready.streamed);
      under_way = record {
        before = before;
        last = last;
        all = ready.all;
        up_to = up_to;
        more = more;
        begun = λ can w at.
            subst (IsSentTo lens limit copy s.time w walk) (sym ready.begun)
            (subst (λ (u : Viewpoint). IsSentTo lens limit copy s.time u walk []) (same_Some v w (sym found ∙ at))
            (none_sent lens limit copy s.time v walk starts
            (can_walk copy loads before last s.time ready.all ready.copied up_to.time can)));
      };
    }

-- none is left
pub channels_over : (lens : Lens) (limit : ℕ) (copy : CopyState) (walk : Walking) (loads : List LoadState) (lists : PieceLists) (s : Sending) →
    (s.channel < 4 → None ≡ slice_index_or s.views s.channel None) → IsReadyToSend lens limit copy loads lists s →
    SendsPieces lens limit copy None walk loads lists
channels_over lens limit copy walk loads lists s is ready =
    let before = ready.before in
    let last = ready.last in
    let up_to = ready.up_to in
    let left = left_in before lists.whole in
    let past : channels_of last ≤ s.channel =
    none_left last.cut.views s.channel
    (λ low. ap (λ (vs : List (Option Viewpoint)). slice_index_or vs s.channel None) (sym up_to.views) ∙ sym (is low)) in
    let just : length left ≡ channels_of last = omega (arith, past, up_to.channel, ready.few) in
    let this : PieceFrame = record { load = last; lists = left } in
    let dealt = dealt_on before last lists.whole up_to.frames in
    let same : frames_in (before ++ last ∷ []) lists.whole ≡ frames_in before lists.whole ++ this ∷ [] =
    dealt.frames ∙ ap (λ (fs : List PieceFrame). frames_in before lists.whole ++ fs) (one_full last left just) in
    let right : IsRight lens limit (before ++ last ∷ []) (length before) this =
    λ can.
    subst (λ (n : Nodes). AreListsOf lens limit (node_at n) last left) (last_copy copy loads before last ready.all ready.copied)
    (up_to.lists can) in
    record {
      streamed = subst (λ (ls : List LoadState). AreStreamed lens limit ls lists.whole) (sym ready.all)
          (streamed_last lens limit before last lists.whole left up_to.frames same ready.streamed right);
      under_way = subst (λ (ls : List LoadState). AreAllSent ls lists) (sym ready.all)
          (record {
            frames =
                let here = ap length same in
                let push = length_push (frames_in before lists.whole) this in
                let more = length_push before last in
                omega (arith, here, push, more, up_to.frames);
            left = dealt.left ∙ one_full_left last left just;
            begun = ready.begun;
          });
    }

-- A piece is filled

-- it is not the last one of its list
pub piece_on : (lens : Lens) (limit : ℕ) (copy : CopyState) (before after : Walking) (loads : List LoadState) (lists : PieceLists) (s : Sending)
    (old p : Cut) → old.limit ≡ limit → FillsOne copy before after old p → p.last ≡ false →
    SendsPieces lens limit copy (Some s) before loads lists →
    SendsPieces lens limit copy (Some s) after loads (with_piece lists p)
piece_on lens limit copy before after loads lists s old p same fills mark sends =
    let way = sends.under_way in
    subst (SendsPieces lens limit copy (Some s) after loads) (sym (with_on lists p mark))
    (record {
      streamed = sends.streamed;
      under_way = record {
        before = way.before;
        last = way.last;
        all = way.all;
        up_to = way.up_to;
        more = way.more;
        begun = λ can v at. one_sent lens limit copy s.time v before after lists.begun old p same fills mark (way.begun can v at);
      };
    })

lists_more : (lens : Lens) (limit : ℕ) (look : Look) (l : LoadState) (lists : List (List Cut)) (ps : List Cut) → AreListsOf lens limit look l lists →
    ((v : Viewpoint) → slice_get l.cut.views (length lists) ≡ Some v → IsListOf lens limit look l.cut.frame v ps) →
    AreListsOf lens limit look l (lists ++ ps ∷ [])
lists_more lens limit look l lists ps are here j v qs at_view at_list = by (get_push lists ps j qs at_list)
  where
    by : (slice_get lists j ≡ Some qs) ⊎ ((j ≡ length lists) × (ps ≡ qs)) → IsListOf lens limit look l.cut.frame v qs
    by (inl old) = are j v qs at_view old
    by (inr end) =
        subst (IsListOf lens limit look l.cut.frame v) end.1
        (here v (ap (slice_get l.cut.views) (sym end.0) ∙ at_view))

-- it is the last one, and the next channel may begin
pub piece_ends : (lens : Lens) (limit : ℕ) (copy : CopyState) (before after : Walking) (loads : List LoadState) (lists : PieceLists) (s t : Sending)
    (old p : Cut) → old.limit ≡ limit → FillsOne copy before after old p → p.last ≡ true → t ≡ record s { channel = s.channel + 1 } →
    IsCopyOf copy loads → SendsPieces lens limit copy (Some s) before loads lists →
    IsReadyToSend lens limit copy loads (with_piece lists p) t
piece_ends lens limit copy before after loads lists s t old p same fills mark is copied sends =
    let way = sends.under_way in
    let front = way.before in
    let last = way.last in
    let up_to = way.up_to in
    let list = lists.begun ++ p ∷ [] in
    let left = left_in front lists.whole in
    let over = left_over front lists.whole list up_to.frames in
    let few : length left < channels_of last = omega (arith, way.more, up_to.channel) in
    let short : frames_in (front ++ last ∷ []) lists.whole ≡ frames_in front lists.whole =
    (dealt_on front last lists.whole up_to.frames).frames
    ∙ ap (λ (fs : List PieceFrame). frames_in front lists.whole ++ fs) (one_short last left few)
    ∙ append-nil (frames_in front lists.whole) in
    let at_front : AreStreamed lens limit front lists.whole =
    streamed_before lens limit front last lists.whole up_to.frames short
    (subst (λ (ls : List LoadState). AreStreamed lens limit ls lists.whole) way.all sends.streamed) in
    let channel : t.channel ≡ s.channel + 1 = ap (λ (x : Sending). x.channel) is in
    subst (λ (ls : PieceLists). IsReadyToSend lens limit copy loads ls t) (sym (with_end lists p mark))
    (record {
      before = front;
      last = last;
      all = way.all;
      streamed = λ i f at can. at_front i f (ap (λ (fs : List PieceFrame). slice_get fs i) (sym over.frames) ∙ at) can;
      up_to = record {
        frames = ap length over.frames ∙ up_to.frames;
        time = ap (λ (x : Sending). x.time) is ∙ up_to.time;
        views = ap (λ (x : Sending). x.views) is ∙ up_to.views;
        channel =
            let push = length_push left list in
            let many = ap length over.left in
            omega (arith, channel, up_to.channel, push, many);
        lists = λ can.
            subst (AreListsOf lens limit (node_at copy.nodes) last) (sym over.left)
            (lists_more lens limit (node_at copy.nodes) last left list (up_to.lists can)
            (λ v at.
            subst (λ (time : ℕ). IsListOf lens limit (node_at copy.nodes) time v list) up_to.time
            (list_sent lens limit copy s.time v before after lists.begun old p same fills mark
            (way.begun can v (ap (slice_get last.cut.views) up_to.channel ∙ at)))));
      };
      few = let more = way.more in omega (arith, channel, more);
      begun = refl;
      copied = copied;
    })

-- A load came

-- its frame may begin
pub ready_came : (lens : Lens) (limit : ℕ) (copy copy' : CopyState) (walk : Walking) (loads loads' : List LoadState) (lists : PieceLists) (l : LoadState)
    (s : Sending) → loads' ≡ loads ++ l ∷ [] → s.time ≡ l.cut.frame → s.views ≡ first_four l.cut.views → s.channel ≡ 0 → IsCopyOf copy' loads' →
    SendsPieces lens limit copy None walk loads lists → IsReadyToSend lens limit copy' loads' lists s
ready_came lens limit copy copy' walk loads loads' lists l s more time views channel copied sends =
    let all_sent = sends.under_way in
    record {
      before = loads;
      last = l;
      all = more;
      streamed = sends.streamed;
      up_to = record {
        frames = all_sent.frames;
        time = time;
        views = views;
        channel = channel ∙ sym (ap length all_sent.left);
        lists = λ can. subst (AreListsOf lens limit (node_at copy'.nodes) l) (sym all_sent.left) (λ j v ps at_view at_list. absurd (cc));
      };
      few = omega (arith, channel);
      begun = all_sent.begun;
      copied = copied;
    }
