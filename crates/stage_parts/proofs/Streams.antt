-- The stream is a front of the pictures of the history.
use Rattle.std.proofs.Common.{◌≡◌, ℕ, zero, suc, ◌+◌, ◌≤◌, true, List, [], ◌∷◌, ◌++◌, map, take, length, slice_get, Option, Some, None, refl, sym, ap, ◌∙◌, subst, arith, add-one}
use Rattle.std.specs.Prelude.{slice_index_or}
use Rattle.std.specs.List.{concat, flat_map}
use Rattle.std.proofs.lemmas.Option.{same_Some}
use Rattle.std.proofs.lemmas.List.{append-nil, take_all, length-map}
use Rattle.fx_math.specs.declared.lenses.Lens.{Lens}
use Rattle.ppm_out.specs.Pixmap.{Pixmap}
use Rattle.pf_model.specs.declared.lines.BaseLine.{BaseLine}
use Rattle.pf_model.specs.Angles.{Viewpoint}
use Rattle.pf_model.specs.Graphs.{Look, Nodes, node_at, size_of, empty_scene}
use Rattle.pf_model.specs.Limits.{KeepsLimits, IsWithinLimits}
use Rattle.pf_model.specs.Copies.{copy_of, UpdateList, updated_by}
use Rattle.pf_model.specs.Totals.{triangle_count}
use Rattle.pf_model.specs.Walks.{instances}
use Rattle.draw_list.specs.declared.stats.Stats.{Stats}
use Rattle.draw_list.specs.Lists.{instances_in}
use Rattle.draw_list.specs.Shown.{stats_of}
use Rattle.pf_history.specs.declared.commands.Entry.{Entry}
use Rattle.update_lists.specs.declared.cuts.Cut.{Cut}
use Rattle.pf_history.specs.declared.commands.Caller.TheVariants.{App}
use Rattle.pf_history.specs.Objects.{FrameState, opening_state}
use Rattle.pf_history.specs.Logs.{Log, state_of, is_by}
use Rattle.pf_history.specs.Fits.{turns_at}
use Rattle.pf_history.specs.Cuts.{Cutting, cuttings, found_by_frames, cut_at, cuts_of, copy_after}
use Rattle.pf_history.proofs.Copying.{copy_law}
use Rattle.pf_history.proofs.Cutting.{cuts_law}
use Rattle.pf_history.proofs.Reach.{limits_law}
use Rattle.pf_history.proofs.Turns.{seat_law}
use Rattle.stage_parts.specs.Loads.{LoadState, Each, AreImages, HasRoomFor, IsReady}
use Rattle.stage_parts.specs.Packets.{loads_in, bytes_in, updates_in, copy_at}
use Rattle.stage_parts.specs.Frames.{frames_of, cut_of_frame, last_sync}
use Rattle.stage_parts.specs.Pictures.{picture_of_list, painted, picture_of_state, pictures, streamed, sums, numbers_of_state, frame_numbers}
use Rattle.stage_parts.specs.States.{Setup, Seats, PipeState}
use Rattle.stage_parts.specs.Parts.{sent_and_held, cut_short, Carried, carried, handed_back, passed_on, CanCull, IsCulled, Kept, kept}
use Rattle.stage_parts.specs.Pipes.{PipeFits}
use Rattle.stage_parts.specs.Laws.{CullingKeepsPictures, HasEditsInRange, StreamLaw}
use Rattle.stage_parts.proofs.Places.{front_of, get_map, get_match, get_mapped, get_below, get_length, map_take, take_front, map_map, each_all}
use Rattle.stage_parts.proofs.Sent.{sent_load, no_end_taken, all_loads, many_loads}
use Rattle.stage_parts.proofs.Founds.{frames_are_all, frames_found}
use Rattle.stage_parts.proofs.Retiring.{retired_is_last_sync}
use Rattle.stage_parts.proofs.Shown.{painted_culled}

-- What the cull of a load gives, from what was received

-- The loads that were received have the first update lists of a history, so that their copies are those of its cuts.
pub record AreOfCuts (channels : ℕ) (log : Log) (loads : List LoadState) : Type 0 where
  pub cuts : (k : ℕ) → k ≤ length loads → copy_at loads k ≡ copy_after channels log k

pub loads_of_cuts : (channels : ℕ) (log : Log) (sent taken : List LoadState) →
    map (λ l. l.cut) sent ≡ map cut_of_frame (cuttings [] (opening_state channels) log) →
    ((i : ℕ) (l : LoadState) → slice_get taken i ≡ Some l → slice_get sent i ≡ Some l) → AreOfCuts channels log taken
loads_of_cuts channels log sent taken cuts stand =
    let frames = cuttings [] (opening_state channels) log in
    let lists : updates_in sent ≡ cuts_of channels log =
    sym (map_map (λ (l : LoadState). l.cut) (λ (c : Cut). c.updates) sent)
    ∙ ap (map (λ (c : Cut). c.updates)) cuts ∙ map_map cut_of_frame (λ (c : Cut). c.updates) frames in
    record {
      cuts = λ k l.
          ap (λ (ls : List LoadState). copy_of (updates_in (take k ls))) (front_of taken sent stand)
          ∙ ap (λ (ls : List LoadState). copy_of (updates_in ls)) (take_front k (length taken) sent l)
          ∙ ap copy_of (map_take (λ (l : LoadState). l.cut.updates) k sent)
          ∙ ap (λ (us : List UpdateList). copy_of (take k us)) lists;
    }

-- each copy of a history's cuts is within the limits, up to one that a Frame found
copies_keep_limits : (channels : ℕ) (log : Log) → HasEditsInRange log → (i : ℕ) (x : FrameState) →
    slice_get (found_by_frames channels log) i ≡ Some x →
    (k : ℕ) → k ≤ i + 1 → KeepsLimits (node_at (copy_after channels log k))
copies_keep_limits channels log fit i x at zero l = (limits_law channels [] tt).within.limits
copies_keep_limits channels log fit i x at (suc j) l =
    let y = get_below (found_by_frames channels log) i j x at (omega (arith, l)) in
    let copied : copy_after channels log (suc j) ≡ y.0.graph.nodes =
    ap (copy_after channels log) (sym (add-one j)) ∙ copy_law channels log j y.0 y.1 in
    subst (λ (n : Nodes). KeepsLimits (node_at n)) (sym copied) (frames_found channels log fit j y.0 y.1).limits.within.limits

-- the copy that was received for a Frame has the nodes that the Frame found
copied_at : (channels : ℕ) (log : Log) (loads : List LoadState) → AreOfCuts channels log loads → (i : ℕ) (l : LoadState) (c : Cutting) →
    slice_get loads i ≡ Some l → slice_get (cuttings [] (opening_state channels) log) i ≡ Some c →
    copy_at loads (i + 1) ≡ c.found.graph.nodes
copied_at channels log loads of_cuts i l c at framed =
    let long = get_length loads i l at in
    of_cuts.cuts (i + 1) (omega (arith, long))
    ∙ copy_law channels log i c.found (get_map (λ (d : Cutting). d.found) (cuttings [] (opening_state channels) log) i c framed)

-- the load that a Frame sent can be culled exactly where it was received
can_cull : (channels : ℕ) (lens : Lens) (log : Log) → channels ≤ 4 → HasEditsInRange log → (loads : List LoadState) → AreOfCuts channels log loads →
    (i : ℕ) (l : LoadState) (c : Cutting) → slice_get loads i ≡ Some l → slice_get (cuttings [] (opening_state channels) log) i ≡ Some c →
    l.cut ≡ cut_of_frame c → IsReady lens l → CanCull loads i l
can_cull channels lens log four fit loads of_cuts i l c at framed same ready =
    let found = get_map (λ (d : Cutting). d.found) (cuttings [] (opening_state channels) log) i c framed in
    let is = frames_found channels log fit i c.found found in
    let long = get_length loads i l at in
    let copied = copied_at channels log loads of_cuts i l c at framed in
    let time : c.found.graph.time ≡ l.cut.frame = is.time ∙ ap (λ (d : Cut). d.frame) (sym same) in
    record {
      limits = λ k below.
          subst (λ (n : Nodes). KeepsLimits (node_at n)) (sym (of_cuts.cuts k (omega (arith, below, long))))
          (copies_keep_limits channels log fit i c.found found k below);
      within =
          subst (λ (n : Nodes). IsWithinLimits (node_at n) l.cut.frame) (sym copied)
          (subst (λ (t : ℕ). IsWithinLimits (node_at c.found.graph.nodes) t) time is.limits.within);
      few = subst (λ (d : Cut). length d.views ≤ 4) (sym same) (subst (λ (n : ℕ). n ≤ 4) (sym is.views) four);
      many = ready.many;
      room =
          subst (λ (n : Nodes). Each (HasRoomFor (size_of (node_at n) 0) (triangle_count (node_at n))) l.lists) (sym copied)
          (subst (λ (d : Cut). Each (HasRoomFor d.size d.tris) l.lists) same ready.room);
    }

-- Facts of a pipe that fits

-- the Frames of APP's desk are all Frames
all_frames : (g : Setup) (dbase : List BaseLine) (seats : Seats) (s : PipeState) → PipeFits g dbase seats s →
    frames_of g.channels seats.app s.log ≡ cuttings [] (opening_state g.channels) s.log
all_frames g dbase seats s fits =
    frames_are_all seats.app [] (opening_state g.channels) s.log fits.history.legal
    (each_all (λ (e : ℕ × Entry). is_by App e ≡ true → e.0 ≡ seats.app) s.log fits.history.app_entries)

frames_many : (g : Setup) (dbase : List BaseLine) (seats : Seats) (s : PipeState) → PipeFits g dbase seats s →
    s.app.frames ≡ length (pictures g.channels g.lens g.back s.log)
frames_many g dbase seats s fits =
    let frames = cuttings [] (opening_state g.channels) s.log in
    fits.app.frames ∙ ap length (all_frames g dbase seats s fits)
    ∙ sym (length-map (map (λ (c : Cutting). c.found) frames) (picture_of_state g.lens g.back)
    ∙ length-map frames (λ (c : Cutting). c.found))

pub frames_begun : (g : Setup) (dbase : List BaseLine) (seats : Seats) (s : PipeState) → PipeFits g dbase seats s →
    s.app.frames ≡ (state_of g.channels s.log).frames
frames_begun g dbase seats s fits =
    let frames = cuttings [] (opening_state g.channels) s.log in
    fits.app.frames ∙ ap length (all_frames g dbase seats s fits) ∙ sym (length-map frames cut_at) ∙ (cuts_law g.channels s.log).many

pub last_is_retired : (g : Setup) (dbase : List BaseLine) (seats : Seats) (s : PipeState) → PipeFits g dbase seats s →
    last_sync (turns_at g.channels seats.app App s.log) ≡ (state_of g.channels s.log).retired
last_is_retired g dbase seats s fits =
    let only = each_all (λ (e : ℕ × Entry). is_by App e ≡ true → e.0 ≡ seats.app) s.log fits.history.app_entries in
    ap last_sync ((seat_law g.channels seats.app App s.log).all only) ∙ retired_is_last_sync g.channels s.log fits.history.legal

-- the pictures of channels
abbrev channels_shown : Setup → Look → ℕ → List Viewpoint → List ℕ
channels_shown g look time views = flat_map (λ v. picture_of_list g.lens g.back (instances look time v)) views

-- the numbers of channels
abbrev channels_counted : Setup → Look → ℕ → List Viewpoint → Stats
channels_counted g look time views = sums (map (λ v. stats_of look time v g.lens) views)

-- What CULL passed on at a place, and the load that it received there.
record Handed (ls : List LoadState) (i : ℕ) (x : LoadState) : Type 0 where
  pub was : LoadState
  pub nodes : Nodes
  pub stands : slice_get ls i ≡ Some was
  pub alike : carried x ≡ handed_back nodes was

get_handed : (nodes : Nodes) (xs ls : List LoadState) → map carried xs ≡ passed_on nodes ls → (i : ℕ) (x : LoadState) →
    slice_get xs i ≡ Some x → Handed ls i x
get_handed nodes [] ls e i x at = absurd (cc)
get_handed nodes (y ∷ xs) [] e i x at = absurd (cc)
get_handed nodes (y ∷ xs) (l ∷ ls) e zero x at =
    let head : carried y ≡ handed_back nodes l = cc in
    record { was = l; nodes = nodes; stands = refl; alike = ap carried (sym (same_Some y x at)) ∙ head }
get_handed nodes (y ∷ xs) (l ∷ ls) e (suc i) x at =
    let tail : map carried xs ≡ passed_on (updated_by nodes l.cut.updates) ls = cc in
    let h = get_handed (updated_by nodes l.cut.updates) xs ls tail i x at in
    record { was = h.was; nodes = h.nodes; stands = h.stands; alike = h.alike }

-- A load that came back: what a Frame found, what APP sent of it, and what CULL made of that.
record CameFrom (g : Setup) (s : PipeState) (i : ℕ) (l : LoadState) : Type 0 where
  pub frame : Cutting
  pub framed : slice_get (cuttings [] (opening_state g.channels) s.log) i ≡ Some frame
  pub sent : LoadState
  pub cut : sent.cut ≡ cut_of_frame frame
  pub copied : copy_at (loads_in s.a.taken) (i + 1) ≡ frame.found.graph.nodes
  pub made : LoadState
  pub culled : IsCulled g.lens (node_at (copy_at (loads_in s.a.taken) (i + 1))) sent.cut made
  pub images : AreImages g.lens (length sent.cut.views) made.images
  pub numbers : l.stats ≡ made.stats
  pub paints : AreImages g.lens (length made.lists) made.images → l.bytes ≡ painted g.lens g.back made.lists

came_from : (g : Setup) (dbase : List BaseLine) (seats : Seats) (s : PipeState) → g.channels ≤ 4 → PipeFits g dbase seats s → HasEditsInRange s.log →
    (i : ℕ) (l : LoadState) → slice_get (loads_in s.c.taken) i ≡ Some l → CameFrom g s i l
came_from g dbase seats s four fits fit i l at =
    let log = s.log in
    let m = sent_load s.c.sent s.c.taken s.draw.held fits.link_c i l at in
    let d = get_match kept kept (loads_in (sent_and_held s.c.sent s.draw.held)) (loads_in s.b.taken) fits.draw.loads i l m in
    let q = sent_load s.b.sent s.b.taken s.cull.held fits.link_b i d.other d.stands in
    let w = get_handed empty_scene.nodes (loads_in (sent_and_held s.b.sent s.cull.held)) (loads_in s.a.taken) fits.cull.loads i d.other q in
    let r = sent_load s.a.sent s.a.taken s.app.held fits.link_a i w.was w.stands in
    let f = get_match (λ (x : LoadState). x.cut) cut_of_frame (loads_in (sent_and_held s.a.sent s.app.held))
    (frames_of g.channels seats.app log) fits.app.cuts i w.was r in
    let all = all_frames g dbase seats s fits in
    let framed = subst (λ (cs : List Cutting). slice_get cs i ≡ Some f.other) all f.stands in
    let ready = fits.app.ready i w.was r in
    let of_cuts = loads_of_cuts g.channels log (loads_in (sent_and_held s.a.sent s.app.held)) (loads_in s.a.taken)
    (fits.app.cuts ∙ ap (map cut_of_frame) all) (sent_load s.a.sent s.a.taken s.app.held fits.link_a) in
    let can = can_cull g.channels g.lens log four fit (loads_in s.a.taken) of_cuts i w.was f.other w.stands framed f.alike ready in
    record {
      frame = f.other;
      framed = framed;
      sent = w.was;
      cut = f.alike;
      copied = copied_at g.channels log (loads_in s.a.taken) of_cuts i w.was f.other w.stands framed;
      made = d.other;
      culled = fits.cull.culled i w.was d.other w.stands q can;
      images = subst (λ (images : List Pixmap). AreImages g.lens (length w.was.cut.views) images)
          (sym (ap (λ (k : Carried). k.images) w.alike)) ready.images;
      numbers = ap (λ (k : Kept). k.stats) d.alike;
      paints = fits.draw.painted i d.other l d.stands m;
    }

-- its pictures are those of the state that the Frame found
shows : CullingKeepsPictures → (g : Setup) (s : PipeState) (i : ℕ) (l : LoadState) → HasEditsInRange s.log → CameFrom g s i l →
    slice_get (pictures g.channels g.lens g.back s.log) i ≡ Some l.bytes
shows culling g s i l fit c =
    let x = c.frame.found in
    let found = get_map (λ (d : Cutting). d.found) (cuttings [] (opening_state g.channels) s.log) i c.frame c.framed in
    let is = frames_found g.channels s.log fit i x found in
    let many : length c.made.lists ≡ length c.sent.cut.views =
    sym (length-map c.made.lists instances_in) ∙ ap length c.culled.lists ∙ length-map c.sent.cut.views _ in
    let images = subst (λ (n : ℕ). AreImages g.lens n c.made.images) (sym many) c.images in
    let walked =
    painted_culled culling g.lens g.back
    (node_at (copy_at (loads_in s.a.taken) (i + 1))) c.sent.cut.frame c.sent.cut.views c.made.lists c.culled.lists in
    let shown : l.bytes ≡ picture_of_state g.lens g.back x =
    c.paints images ∙ walked
    ∙ ap (λ (n : Nodes). channels_shown g (node_at n) c.sent.cut.frame c.sent.cut.views) c.copied
    ∙ ap (λ (d : Cut). channels_shown g (node_at x.graph.nodes) d.frame d.views) c.cut
    ∙ ap (λ (t : ℕ). channels_shown g (node_at x.graph.nodes) t x.views) (sym is.time) in
    get_map (picture_of_state g.lens g.back) (found_by_frames g.channels s.log) i x found ∙ ap Some (sym shown)

-- and its numbers are those of that state
counts : (g : Setup) (s : PipeState) (i : ℕ) (l : LoadState) → HasEditsInRange s.log → CameFrom g s i l →
    slice_get (frame_numbers g.channels g.lens s.log) i ≡ Some l.stats
counts g s i l fit c =
    let x = c.frame.found in
    let found = get_map (λ (d : Cutting). d.found) (cuttings [] (opening_state g.channels) s.log) i c.frame c.framed in
    let is = frames_found g.channels s.log fit i x found in
    let counted : l.stats ≡ numbers_of_state g.lens x =
    c.numbers ∙ c.culled.stats
    ∙ ap (λ (n : Nodes). channels_counted g (node_at n) c.sent.cut.frame c.sent.cut.views) c.copied
    ∙ ap (λ (d : Cut). channels_counted g (node_at x.graph.nodes) d.frame d.views) c.cut
    ∙ ap (λ (t : ℕ). channels_counted g (node_at x.graph.nodes) t x.views) (sym is.time) in
    get_map (numbers_of_state g.lens) (found_by_frames g.channels s.log) i x found ∙ ap Some (sym counted)

-- The stream

at_front : (b n : ℕ) (shown : List (List ℕ)) → suc b ≤ n → slice_index_or (take n shown) b [] ≡ slice_index_or shown b []
at_front b zero shown l = absurd (omega arith)
at_front b (suc n) [] l = refl
at_front zero (suc n) (x ∷ shown) l = refl
at_front (suc b) (suc n) (x ∷ shown) l = at_front b n shown (omega arith)

-- what is streamed of a front is what is streamed of the whole
streamed_front : (b n : ℕ) (fault : Option ℕ) (shown : List (List ℕ)) → b + cut_short fault ≡ n →
    streamed b fault (take n shown) ≡ streamed b fault shown
streamed_front b n None shown e = ap (λ (x : List (List ℕ)). concat x ++ []) (take_front b n shown (omega (arith, e)))
streamed_front b n (Some k) shown e =
    ap (λ (x : List (List ℕ)). concat x ++ take k (slice_index_or (take n shown) b [])) (take_front b n shown (omega (arith, e)))
    ∙ ap (λ (x : List ℕ). concat (take b shown) ++ take k x) (at_front b n shown (omega (arith, e)))

-- where all are written, no fault cut one short
all_streamed : (b n : ℕ) (fault : Option ℕ) (shown : List (List ℕ)) → b + cut_short fault ≤ n → b ≡ n → length shown ≤ n →
    streamed b fault shown ≡ concat shown
all_streamed b n None shown l e m = append-nil (concat (take b shown)) ∙ ap concat (take_all b shown (omega (arith, e, m)))
all_streamed b n (Some k) shown l e m = absurd (omega (arith, l, e))

stream_is : CullingKeepsPictures → (g : Setup) (dbase : List BaseLine) (seats : Seats) (s : PipeState) → g.channels ≤ 4 → PipeFits g dbase seats s →
    HasEditsInRange s.log →
    s.stream ≡ streamed s.app.written s.app.fault (pictures g.channels g.lens g.back s.log)
stream_is culling g dbase seats s four fits fit =
    let none = no_end_taken s.c.sent s.c.taken s.draw.held fits.link_c fits.draw.ends in
    let shown = pictures g.channels g.lens g.back s.log in
    let loads = loads_in s.c.taken in
    let front : map (λ (l : LoadState). l.bytes) loads ≡ take (length (map (λ (l : LoadState). l.bytes) loads)) shown =
    front_of (map (λ (l : LoadState). l.bytes) loads) shown
    (λ i x at.
    let l = get_mapped (λ (l : LoadState). l.bytes) loads i x at in
    shows culling g s i l.from fit (came_from g dbase seats s four fits fit i l.from l.stands) ∙ ap Some l.same) in
    let many : length (map (λ (l : LoadState). l.bytes) loads) ≡ length s.c.taken = length-map loads _ ∙ many_loads s.c.taken none in
    let received : map bytes_in s.c.taken ≡ take (length s.c.taken) shown =
    all_loads s.c.taken none ∙ front ∙ ap (λ (n : ℕ). take n shown) many in
    fits.stream.bytes ∙ ap (streamed s.app.written s.app.fault) received
    ∙ streamed_front s.app.written (length s.c.taken) s.app.fault shown fits.stream.all

numbers_are : (g : Setup) (dbase : List BaseLine) (seats : Seats) (s : PipeState) → g.channels ≤ 4 → PipeFits g dbase seats s → HasEditsInRange s.log →
    s.app.stats ≡ take (length s.c.taken) (frame_numbers g.channels g.lens s.log)
numbers_are g dbase seats s four fits fit =
    let none = no_end_taken s.c.sent s.c.taken s.draw.held fits.link_c fits.draw.ends in
    let loads = loads_in s.c.taken in
    let counted = map (λ (l : LoadState). l.stats) loads in
    let front : counted ≡ take (length counted) (frame_numbers g.channels g.lens s.log) =
    front_of counted (frame_numbers g.channels g.lens s.log)
    (λ i x at.
    let l = get_mapped (λ (l : LoadState). l.stats) loads i x at in
    counts g s i l.from fit (came_from g dbase seats s four fits fit i l.from l.stands) ∙ ap Some l.same) in
    let many : length counted ≡ length s.c.taken = length-map loads _ ∙ many_loads s.c.taken none in
    fits.stream.numbers ∙ front ∙ ap (λ (n : ℕ). take n (frame_numbers g.channels g.lens s.log)) many

pub stream_law : StreamLaw
stream_law culling g dbase seats s four fits fit =
    let front = stream_is culling g dbase seats s four fits fit in
    let begun = frames_begun g dbase seats s fits in
    let shown = pictures g.channels g.lens g.back s.log in
    let many : length shown ≡ s.app.frames = sym (frames_many g dbase seats s fits) in
    let found = found_by_frames g.channels s.log in
    let long : length (frame_numbers g.channels g.lens s.log) ≡ s.app.frames =
    length-map found (numbers_of_state g.lens) ∙ sym (length-map found (picture_of_state g.lens g.back)) ∙ many in
    let counted = numbers_are g dbase seats s four fits fit in
    record {
      front = front;
      written = omega (arith, begun, fits.stream.all, fits.stream.begun);
      retired = subst (λ (r : ℕ). r ≤ s.app.written) (last_is_retired g dbase seats s fits) fits.stream.retired;
      whole = λ closed.
          front ∙ all_streamed s.app.written s.app.frames s.app.fault shown (omega (arith, fits.stream.all, fits.stream.begun))
          (fits.app.late closed) (omega (arith, many));
      numbers = counted;
      all_numbers = λ closed.
          let late = fits.app.late closed in
          counted ∙ take_all (length s.c.taken) (frame_numbers g.channels g.lens s.log) (omega (arith, late, long, fits.stream.all));
    }
