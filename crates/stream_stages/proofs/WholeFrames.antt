-- A pipe whose draw lists are streamed, seen as an ordinary one.
use Rattle.std.proofs.Common.{◌≡◌, ◌∙◌, ℕ, zero, suc, ◌+◌, ◌≤◌, Bool, true, false, List, [], ◌∷◌, ◌++◌, map, take, drop, length, slice_get, Some, None, refl, sym, ap, subst, arith, length-append}
use Rattle.std.specs.List.{AllZip}
use Rattle.std.specs.Option.{option_to_list}
use Rattle.std.proofs.lemmas.List.{append-nil, length-map, length-take-le, length-take, take-append-le, take-append-drop}
use Rattle.std.proofs.lemmas.Option.{same_Some}
use Rattle.fx_math.specs.declared.lenses.Lens.{Lens}
use Rattle.pf_model.specs.Graphs.{Nodes, node_at, empty_scene}
use Rattle.pf_model.specs.Limits.{KeepsLimits, IsWithinLimits}
use Rattle.pf_model.specs.Copies.{copy_of}
use Rattle.pf_history.specs.Cuts.{Cutting}
use Rattle.pf_history.specs.Logs.{Log}
use Rattle.stage_parts.specs.declared.packets.Packet.{Packet}
use Rattle.stage_parts.specs.declared.packets.Packet.TheVariants.{Frame, End}
use Rattle.stage_parts.specs.Loads.{LoadState, AreImages}
use Rattle.stage_parts.specs.Packets.{is_end, has_end, loads_in, updates_in, copy_at, LinkPart}
use Rattle.stage_parts.specs.Frames.{frames_of}
use Rattle.stage_parts.specs.Pictures.{painted}
use Rattle.stage_parts.specs.States.{Setup, AppState}
use Rattle.stage_parts.specs.Parts.{sent_and_held, end_once, AppPart, carried, passed_on, IsCulled, AreCulled, ArePainted, CullPart, kept, DrawPart}
use Rattle.stage_parts.proofs.Places.{get_take, front_of, IsMapped, get_mapped, get_length, map_take, take_front, map_map}
use Rattle.stage_parts.proofs.Sent.{loads_append, sent_load}
use Rattle.stream_stages.specs.Cuts.{Cut}
use Rattle.stream_stages.specs.PieceFrames.{lists_in, channels_of, PieceFrame, frames_in}
use Rattle.stream_stages.specs.CullParts.{handed_on, CanStream, AreListsOf, piece_lists, StreamCullPart}
use Rattle.stream_stages.specs.DrawParts.{IsDrawn}
use Rattle.stream_stages.specs.WholeFrames.{Streams, AreStreams, WholeFramesLaw}
use Rattle.stream_stages.proofs.Channels.{RightPieces}
use Rattle.stream_stages.proofs.DealtFrames.{frames_go_on, few_frames, IsFrameAt, frame_at, IsHanded, handed_frame, handed_length, handed_front}
use Rattle.stream_stages.proofs.Streamable.{all_can_stream}
use Rattle.stream_stages.proofs.WholeLoads.{whole_load, whole_culled, all_right, whole_painted, whole_kept}

-- Packets without an End

abbrev packed : List LoadState → List Packet
packed ls = map (λ l. Frame l) ls

loads_packed : (ls : List LoadState) → loads_in (packed ls) ≡ ls
loads_packed [] = refl
loads_packed (l ∷ ls) = ap (λ (xs : List LoadState). l ∷ xs) (loads_packed ls)

bare_packed : (ls : List LoadState) → loads_in (sent_and_held (packed ls) None) ≡ ls
bare_packed ls = ap loads_in (append-nil (packed ls)) ∙ loads_packed ls

no_end_packed : (ls : List LoadState) → has_end (packed ls) ≡ false
no_end_packed [] = refl
no_end_packed (l ∷ ls) = no_end_packed ls

ends_packed : (xs ys : List LoadState) → length xs ≡ length ys → map is_end (packed xs) ≡ map is_end (packed ys)
ends_packed [] [] many = refl
ends_packed [] (y ∷ ys) many = absurd (omega (arith, many))
ends_packed (x ∷ xs) [] many = absurd (omega (arith, many))
ends_packed (x ∷ xs) (y ∷ ys) many = ap (λ (ends : List Bool). false ∷ ends) (ends_packed xs ys (omega (arith, many)))

-- the first packets of what the application sent are Frames, as many as there are loads
first_packets : (closed : Bool) (frames : List Cutting) (ps : List Packet) (n : ℕ) →
    map is_end ps ≡ map (λ _. false) frames ++ end_once closed →
    n ≤ length (loads_in ps) → packed (take n (loads_in ps)) ≡ take n ps
first_packets closed frames ps zero ends few = refl
first_packets closed frames [] (suc n) ends few = absurd (omega (arith, few))
first_packets closed (c ∷ frames) (Frame l ∷ ps) (suc n) ends few =
    ap (λ (qs : List Packet). Frame l ∷ qs) (first_packets closed frames ps n (cc) (omega (arith, few)))
first_packets closed (c ∷ frames) (End ∷ ps) (suc n) ends few = absurd (cc)
first_packets true [] (Frame l ∷ ps) (suc n) ends few = absurd (cc)
first_packets false [] (Frame l ∷ ps) (suc n) ends few = absurd (cc)
first_packets true [] (End ∷ []) (suc n) ends few = absurd (omega (arith, few))
first_packets true [] (End ∷ p ∷ ps) (suc n) ends few = absurd (cc)
first_packets false [] (End ∷ ps) (suc n) ends few = absurd (cc)

fewer_loads : (ps : List Packet) → length (loads_in ps) ≤ length ps
fewer_loads [] = omega arith
fewer_loads (Frame l ∷ ps) = let rest = fewer_loads ps in omega (arith, rest)
fewer_loads (End ∷ ps) = let rest = fewer_loads ps in omega (arith, rest)

-- what follows what was received
rest_of : {X : Type 0} (sent taken : List X) → taken ≡ take (length taken) sent →
    sent ≡ taken ++ drop (length taken) sent
rest_of {X} sent taken front =
    sym (take-append-drop (length taken) sent) ∙ ap (λ (xs : List X). xs ++ drop (length taken) sent) (sym front)

-- first loads of what was received over A came in the first packets that were sent
first_of_link : (g : Setup) (seat : ℕ) (app : AppState) (log : Log) (sent taken : List Packet) (n : ℕ) →
    AppPart g seat app log sent →
    LinkPart sent taken → n ≤ length (loads_in taken) → LinkPart sent (packed (take n (loads_in taken)))
first_of_link g seat app log sent taken n part link few =
    let all = sent_and_held sent app.held in
    let loads = loads_in taken in
    let front : loads ≡ take (length loads) (loads_in all) =
    front_of loads (loads_in all) (sent_load sent taken app.held link) in
    let same : take n loads ≡ take n (loads_in all) =
    ap (take n) front ∙ take_front n (length loads) (loads_in all) few in
    let long : length sent ≡ length taken + length (drop (length taken) sent) =
    ap length (rest_of sent taken link.front) ∙ length-append taken (drop (length taken) sent) in
    let many : length (take n (loads_in all)) ≡ n = ap length (sym same) ∙ length-take-le n loads few in
    let within : n ≤ length (loads_in all) = omega (arith, many, length-take n (loads_in all)) in
    let short : length (packed (take n loads)) ≡ n =
    length-map (take n loads) (λ l. Frame l) ∙ length-take-le n loads few in
    record {
      front =
          ap packed same ∙ first_packets app.closed (frames_of g.channels seat log) all n part.ends within
          ∙ take-append-le n sent (option_to_list app.held) (omega (arith, few, fewer_loads taken, long))
          ∙ ap (λ (k : ℕ). take k sent) (sym short);
    }

-- Frames that were sent wholly, and those that came wholly

abbrev frames_sent : Streams → List PieceFrame
frames_sent s = frames_in (loads_in s.b_sent) (lists_in s.p_sent).whole

abbrev frames_came : Streams → List PieceFrame
frames_came s = frames_in (loads_in s.b_taken) (lists_in s.p_taken).whole

-- all loads that were received over A, as CULL passes them on
abbrev all_handed : Streams → List LoadState
all_handed s = handed_on empty_scene.nodes (loads_in s.a_taken)

-- all lists whose pieces were sent or are held
abbrev all_lists : Streams → List (List Cut)
all_lists s = (piece_lists s.p_sent s.cull.piece).whole

loads_handed : (lens : Lens) (limit : ℕ) (s : Streams) → StreamCullPart lens limit s.cull s.a_taken s.b_sent s.p_sent →
    loads_in s.b_sent ++ loads_in (option_to_list s.cull.held) ≡ all_handed s
loads_handed lens limit s part = sym (loads_append s.b_sent (option_to_list s.cull.held)) ∙ part.packets.loads

sent_in_all : (lens : Lens) (limit : ℕ) (s : Streams) → StreamCullPart lens limit s.cull s.a_taken s.b_sent s.p_sent →
    (i : ℕ) (f : PieceFrame) →
    slice_get (frames_sent s) i ≡ Some f → slice_get (frames_in (all_handed s) (all_lists s)) i ≡ Some f
sent_in_all lens limit s part i f at =
    subst (λ (ls : List LoadState). slice_get (frames_in ls (all_lists s)) i ≡ Some f) (loads_handed lens limit s part)
    (frames_go_on (loads_in s.b_sent) (loads_in (option_to_list s.cull.held)) s.p_sent (option_to_list s.cull.piece)
    i f at)

sent_frame : (lens : Lens) (limit : ℕ) (s : Streams) → StreamCullPart lens limit s.cull s.a_taken s.b_sent s.p_sent →
    (i : ℕ) (f : PieceFrame) →
    slice_get (frames_sent s) i ≡ Some f → IsHanded (loads_in s.a_taken) (all_lists s) i f
sent_frame lens limit s part i f at =
    handed_frame empty_scene.nodes (loads_in s.a_taken) (all_lists s) i f (sent_in_all lens limit s part i f at)

came_frame : (s : Streams) → LinkPart s.b_sent s.b_taken → s.p_taken ≡ take (length s.p_taken) s.p_sent →
    (i : ℕ) (f : PieceFrame) →
    slice_get (frames_came s) i ≡ Some f → slice_get (frames_sent s) i ≡ Some f
came_frame s link_b link_p i f at =
    let later = drop (length s.b_taken) s.b_sent in
    let pieces = drop (length s.p_taken) s.p_sent in
    let loads : loads_in s.b_sent ≡ loads_in s.b_taken ++ loads_in later =
    ap loads_in (rest_of s.b_sent s.b_taken link_b.front) ∙ loads_append s.b_taken later in
    subst (λ (ls : List LoadState). slice_get (frames_in ls (lists_in s.p_sent).whole) i ≡ Some f) (sym loads)
    (subst
    (λ (ps : List Cut). slice_get (frames_in (loads_in s.b_taken ++ loads_in later) (lists_in ps).whole) i ≡ Some f)
    (sym (rest_of s.p_sent s.p_taken link_p))
    (frames_go_on (loads_in s.b_taken) (loads_in later) s.p_taken pieces i f at))

few_sent : (lens : Lens) (limit : ℕ) (s : Streams) → StreamCullPart lens limit s.cull s.a_taken s.b_sent s.p_sent →
    length (frames_sent s) ≤ length (loads_in s.a_taken)
few_sent lens limit s part =
    let held = loads_in (option_to_list s.cull.held) in
    omega (
      arith,
      few_frames (loads_in s.b_sent) (lists_in s.p_sent).whole,
      length-append (loads_in s.b_sent) held,
      ap length (loads_handed lens limit s part),
      handed_length empty_scene.nodes (loads_in s.a_taken),
    )

-- The ordinary cull

-- the first loads that were received over A, one for each frame that was sent wholly
abbrev loads_whole : Streams → List LoadState
loads_whole s = take (length (frames_sent s)) (loads_in s.a_taken)

frame_loads : (lens : Lens) (limit : ℕ) (s : Streams) → StreamCullPart lens limit s.cull s.a_taken s.b_sent s.p_sent →
    map (λ (f : PieceFrame). f.load) (frames_sent s) ≡ take (length (frames_sent s)) (all_handed s)
frame_loads lens limit s part =
    let frames = frames_sent s in
    let loads = map (λ (f : PieceFrame). f.load) frames in
    front_of loads (all_handed s)
    (λ i l at.
    let m = get_mapped (λ (f : PieceFrame). f.load) frames i l at in
    (frame_at (all_handed s) (all_lists s) i m.from (sent_in_all lens limit s part i m.from m.stands)).load
    ∙ ap Some m.same)
    ∙ ap (λ (k : ℕ). take k (all_handed s)) (length-map frames (λ (f : PieceFrame). f.load))

carried_whole : (lens : Lens) (limit : ℕ) (s : Streams) → StreamCullPart lens limit s.cull s.a_taken s.b_sent s.p_sent →
    map carried (map whole_load (frames_sent s)) ≡ passed_on empty_scene.nodes (loads_whole s)
carried_whole lens limit s part =
    map_map whole_load carried (frames_sent s)
    ∙ sym (map_map (λ (f : PieceFrame). f.load) carried (frames_sent s))
    ∙ ap (map carried) (frame_loads lens limit s part)
    ∙ handed_front (length (frames_sent s)) empty_scene.nodes (loads_in s.a_taken)

culled_whole : RightPieces → (lens : Lens) (limit : ℕ) (s : Streams) →
    StreamCullPart lens limit s.cull s.a_taken s.b_sent s.p_sent →
    AreCulled lens (loads_whole s) (map whole_load (frames_sent s))
culled_whole law lens limit s part i old new at_old at_new can =
    subst (IsCulled lens (node_at (copy_at (loads_whole s) (i + 1))) old.cut) m.same
    (whole_culled law lens limit (node_at (copy_at (loads_whole s) (i + 1))) can.within.limits old m.from can.few
    (there.many ∙ ap channels_of same)
    (subst (λ (n : Nodes). AreListsOf lens limit (node_at n) old m.from.lists) (sym (copies (i + 1) (omega arith)))
    (subst (λ (l : LoadState). AreListsOf lens limit (node_at (copy_at loads (i + 1))) l m.from.lists) same
    (part.pieces.streamed i received h.stands (subst (CanStream loads i) (sym same) exact)))))
  where
    loads : List LoadState
    loads = loads_in s.a_taken

    m : IsMapped whole_load (frames_sent s) i new
    m = get_mapped whole_load (frames_sent s) i new at_new

    h : IsHanded loads (all_lists s) i m.from
    h = sent_frame lens limit s part i m.from m.stands

    received : PieceFrame
    received = record { load = h.old; lists = m.from.lists }

    there : IsFrameAt loads i received
    there = frame_at loads (all_lists s) i received h.stands

    same : h.old ≡ old
    same = same_Some h.old old (sym there.load ∙ get_take (length (frames_sent s)) loads i old at_old)

    copies : (k : ℕ) → k ≤ i + 1 → copy_at (loads_whole s) k ≡ copy_at loads k
    copies k below =
        ap (λ (ls : List LoadState). copy_of (updates_in ls))
        (take_front k (length (frames_sent s)) loads
        (omega (arith, below, get_length (frames_sent s) i m.from m.stands)))

    exact : CanStream loads i old
    exact = record {
      limits = λ k below. subst (λ (n : Nodes). KeepsLimits (node_at n)) (copies k below) (can.limits k below);
      within =
          subst (λ (n : Nodes). IsWithinLimits (node_at n) old.cut.frame) (copies (i + 1) (omega arith)) can.within;
    }

cull_whole : RightPieces → (lens : Lens) (limit : ℕ) (s : Streams) →
    StreamCullPart lens limit s.cull s.a_taken s.b_sent s.p_sent →
    CullPart lens (record { nodes = copy_at (loads_whole s) (length (loads_whole s)); ended = false; held = None })
    (packed (loads_whole s)) (packed (map whole_load (frames_sent s)))
cull_whole law lens limit s part =
    let sent = map whole_load (frames_sent s) in
    let taken = loads_packed (loads_whole s) in
    let many : length sent ≡ length (loads_whole s) =
    length-map (frames_sent s) whole_load
    ∙ sym (length-take-le (length (frames_sent s)) (loads_in s.a_taken) (few_sent lens limit s part)) in
    record {
      loads =
          ap (map carried) (bare_packed sent) ∙ carried_whole lens limit s part
          ∙ ap (passed_on empty_scene.nodes) (sym taken);
      ends = ap (map is_end) (append-nil (packed sent)) ∙ ends_packed sent (loads_whole s) many;
      copy = ap (λ (ls : List LoadState). copy_at ls (length ls)) (sym taken);
      ended = sym (no_end_packed sent);
      culled =
          subst (λ (ls : List LoadState). AreCulled lens ls (loads_in (sent_and_held (packed sent) None))) (sym taken)
          (subst (AreCulled lens (loads_whole s)) (sym (bare_packed sent)) (culled_whole law lens limit s part));
    }

-- The ordinary draw

get_zip : {X Y : Type 0} (R : X → Y → Type 0) (xs : List X) (ys : List Y) → AllZip R xs ys → (i : ℕ) (x : X) (y : Y) →
    slice_get xs i ≡ Some x →
    slice_get ys i ≡ Some y → R x y
get_zip R [] ys all i x y at_x at_y = absurd (cc)
get_zip R (u ∷ us) [] all i x y at_x at_y = absurd all
get_zip R (u ∷ us) (w ∷ ws) all zero x y at_x at_y =
    subst (λ z. R z y) (same_Some u x at_x) (subst (R u) (same_Some w y at_y) all.0)
get_zip R (u ∷ us) (w ∷ ws) all (suc i) x y at_x at_y = get_zip R us ws all.1 i x y at_x at_y

painted_whole : RightPieces → (lens : Lens) (back : List ℕ) (limit : ℕ) (s : Streams) → AreStreams lens back limit s →
    ((i : ℕ) (l : LoadState) → slice_get (loads_in s.a_taken) i ≡ Some l → CanStream (loads_in s.a_taken) i l) →
    ArePainted lens back (map whole_load (frames_came s)) (loads_in (sent_and_held s.c_sent s.draw.held))
painted_whole law lens back limit s are can i old new at_old at_new =
    let m = get_mapped whole_load (frames_came s) i old at_old in
    let sent = loads_in (sent_and_held s.c_sent s.draw.held) in
    let drawn = get_zip (IsDrawn lens back) (frames_came s) sent are.draw.drawn i m.from new m.stands at_new in
    let loads = loads_in s.a_taken in
    let h = sent_frame lens limit s are.cull i m.from (came_frame s are.link_b are.link_p i m.from m.stands) in
    let received : PieceFrame = record { load = h.old; lists = m.from.lists } in
    let there = frame_at loads (all_lists s) i received h.stands in
    let here = frame_at (loads_in s.b_taken) (lists_in s.p_taken).whole i m.from m.stands in
    let look = node_at (copy_at loads (i + 1)) in
    let right = all_right lens limit look h.old m.from.lists there.many
    (are.cull.pieces.streamed i received h.stands (can i h.old there.load)) in
    subst (λ (l : LoadState). AreImages lens (length l.lists) l.images → new.bytes ≡ painted lens back l.lists) m.same
    (whole_painted law lens back limit look h.old.cut.frame m.from new here.many right drawn)

draw_whole : RightPieces → (lens : Lens) (back : List ℕ) (limit : ℕ) (s : Streams) → AreStreams lens back limit s →
    ((i : ℕ) (l : LoadState) → slice_get (loads_in s.a_taken) i ≡ Some l → CanStream (loads_in s.a_taken) i l) →
    DrawPart lens back (record { ended = false; held = s.draw.held }) (packed (map whole_load (frames_came s))) s.c_sent
draw_whole law lens back limit s are can =
    let came = map whole_load (frames_came s) in
    let sent = loads_in (sent_and_held s.c_sent s.draw.held) in
    record {
      loads = whole_kept lens back (frames_came s) sent are.draw.drawn ∙ ap (map kept) (sym (loads_packed came));
      ends = are.draw.ends;
      ended = sym (no_end_packed came);
      painted =
          subst (λ (ls : List LoadState). ArePainted lens back ls sent) (sym (loads_packed came))
          (painted_whole law lens back limit s are can);
    }

-- Both

link_whole : (s : Streams) → LinkPart s.b_sent s.b_taken → s.p_taken ≡ take (length s.p_taken) s.p_sent →
    LinkPart (packed (map whole_load (frames_sent s))) (packed (map whole_load (frames_came s)))
link_whole s link_b link_p =
    let sent = frames_sent s in
    let came = frames_came s in
    let front : came ≡ take (length came) sent = front_of came sent (came_frame s link_b link_p) in
    let many : length (packed (map whole_load came)) ≡ length came =
    length-map (map whole_load came) (λ l. Frame l) ∙ length-map came whole_load in
    record {
      front =
          ap (λ (fs : List PieceFrame). packed (map whole_load fs)) front
          ∙ ap packed (map_take whole_load (length came) sent)
          ∙ map_take (λ l. Frame l) (length came) (map whole_load sent)
          ∙ ap (λ (k : ℕ). take k (packed (map whole_load sent))) (sym many);
    }

pub whole_frames : RightPieces → WholeFramesLaw
whole_frames law g seat limit app log a_sent s four fit own part link are = (
  record {
    cull = record { nodes = copy_at (loads_whole s) (length (loads_whole s)); ended = false; held = None };
    draw = record { ended = false; held = s.draw.held };
    a_taken = packed (loads_whole s);
    b_sent = packed (map whole_load (frames_sent s));
    b_taken = packed (map whole_load (frames_came s));
  },
  record {
    link_a =
        first_of_link g seat app log a_sent s.a_taken (length (frames_sent s)) part link
        (few_sent g.lens limit s are.cull);
    link_b = link_whole s are.link_b are.link_p;
    cull = cull_whole law g.lens limit s are.cull;
    draw = draw_whole law g.lens g.back limit s are (all_can_stream g seat app log a_sent s.a_taken fit own part link);
  },
)
