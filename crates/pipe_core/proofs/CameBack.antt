-- The update lists that came back over the link from DRAW to APP are the first of those that come back of the history.
use Rattle.std.proofs.Common.{◌≡◌, ℕ, zero, suc, ◌+◌, ◌-◌, ◌≤◌, false, List, [], ◌∷◌, map, take, drop, length, slice_get, Some, None, true, refl, sym, ap, ◌∙◌, subst, arith}
use Rattle.std.proofs.lemmas.List.{length-map, drop-take}
use Rattle.pf_model.specs.declared.lines.BaseLine.{BaseLine}
use Rattle.pf_model.specs.Graphs.{Nodes, empty_scene}
use Rattle.pf_model.specs.Copies.{UpdateList, updated_by}
use Rattle.update_lists.specs.declared.cuts.Cut.{Cut}
use Rattle.pf_history.specs.declared.commands.Caller.TheVariants.{App}
use Rattle.pf_history.specs.declared.commands.Entry.{Entry}
use Rattle.pf_history.specs.Objects.{opening_state}
use Rattle.pf_history.specs.Logs.{state_of, is_by}
use Rattle.pf_history.specs.Fits.{turns_at}
use Rattle.pf_history.specs.Cuts.{cuttings, cuts_of}
use Rattle.pf_history.specs.Away.{replaced, replaced_by_all, came_back, came_back_between}
use Rattle.play_format.specs.Plays.{Script}
use Rattle.pf_scene.specs.Scenes.{AreOfRetired}
use Rattle.stage_parts.specs.declared.packets.Packet.{Packet}
use Rattle.stage_parts.specs.declared.packets.Packet.TheVariants.{Frame, End}
use Rattle.stage_parts.specs.Loads.{LoadState}
use Rattle.stage_parts.specs.Packets.{has_end, loads_in, updates_in}
use Rattle.stage_parts.specs.Frames.{frames_of, cut_of_frame, last_sync}
use Rattle.stage_parts.specs.States.{Setup, Seats, PipeState}
use Rattle.stage_parts.specs.Parts.{sent_and_held, cut_short, Carried, carried, passed_on, Kept, kept}
use Rattle.stage_parts.specs.Pipes.{PipeFits}
use Rattle.stage_parts.proofs.Places.{front_of, get_take, get_map, get_mapped, map_map, each_all}
use Rattle.stage_parts.proofs.Sent.{sent_load, no_end_taken, many_loads}
use Rattle.stage_parts.proofs.Founds.{frames_are_all}
use Rattle.stage_parts.proofs.Streams.{last_is_retired}
use Rattle.pipe_plays.specs.Plays.{setup_of}
use Rattle.pipe_core.specs.Cores.{one_seat}
use Rattle.pipe_core.specs.Pipes.{PipeWork, core_of, PipeKeeps}

-- Lists

-- where elements stand at the same places in another list, so do their images
mapped_stand : {X Y : Type 0} (f : X → Y) (xs ys : List X) →
    ((i : ℕ) (x : X) → slice_get xs i ≡ Some x → slice_get ys i ≡ Some x) →
    (i : ℕ) (y : Y) → slice_get (map f xs) i ≡ Some y → slice_get (map f ys) i ≡ Some y
mapped_stand f xs ys stand i y at =
    let m = get_mapped f xs i y at in
    get_map f ys i m.from (stand i m.from m.stands) ∙ ap Some m.same

map_drop : {X Y : Type 0} (f : X → Y) (r : ℕ) (xs : List X) → map f (drop r xs) ≡ drop r (map f xs)
map_drop f zero xs = refl
map_drop f (suc r) [] = refl
map_drop f (suc r) (x ∷ xs) = map_drop f r xs

behind : {X : Type 0} (r n : ℕ) (xs : List X) → r ≤ n → drop r (take n xs) ≡ take (n - r) (drop r xs)
behind r n xs l =
    let whole : r + (n - r) ≡ n = omega arith in
    subst (λ (k : ℕ). drop r (take k xs) ≡ take (n - r) (drop r xs)) whole (drop-take r (n - r) xs)

loads_behind : (r : ℕ) (ps : List Packet) → has_end ps ≡ false → loads_in (drop r ps) ≡ drop r (loads_in ps)
loads_behind zero ps none = refl
loads_behind (suc r) [] none = refl
loads_behind (suc r) (Frame l ∷ ps) none = loads_behind r ps none
loads_behind (suc r) (End ∷ ps) none = absurd (cc)

-- What CULL passes on

-- in place of each update list CULL passes on what it replaced
passed_updates : (nodes : Nodes) (ls : List LoadState) → map (λ k. k.cut.updates) (passed_on nodes ls) ≡ replaced_by_all nodes (updates_in ls)
passed_updates nodes [] = refl
passed_updates nodes (l ∷ ls) =
    ap (λ (lists : List UpdateList). replaced nodes l.cut.updates ∷ lists) (passed_updates (updated_by nodes l.cut.updates) ls)

replaced_front : (n : ℕ) (nodes : Nodes) (lists : List UpdateList) → replaced_by_all nodes (take n lists) ≡ take n (replaced_by_all nodes lists)
replaced_front zero nodes lists = refl
replaced_front (suc n) nodes [] = refl
replaced_front (suc n) nodes (us ∷ lists) =
    ap (λ (xs : List UpdateList). replaced nodes us ∷ xs) (replaced_front n (updated_by nodes us) lists)

-- Along the links of a pipe that fits

-- the update lists that APP sent or holds are those of the history's Frames
sent_lists : (g : Setup) (dbase : List BaseLine) (seats : Seats) (s : PipeState) → PipeFits g dbase seats s →
    updates_in (loads_in (sent_and_held s.a.sent s.app.held)) ≡ cuts_of g.channels s.log
sent_lists g dbase seats s fits =
    let frames = cuttings [] (opening_state g.channels) s.log in
    let all : frames_of g.channels seats.app s.log ≡ frames =
    frames_are_all seats.app [] (opening_state g.channels) s.log fits.history.legal
    (each_all (λ (e : ℕ × Entry). is_by App e ≡ true → e.0 ≡ seats.app) s.log fits.history.app_entries) in
    sym (map_map (λ (l : LoadState). l.cut) (λ (c : Cut). c.updates) (loads_in (sent_and_held s.a.sent s.app.held)))
    ∙ ap (map (λ (c : Cut). c.updates)) (fits.app.cuts ∙ ap (map cut_of_frame) all)
    ∙ map_map cut_of_frame (λ (c : Cut). c.updates) frames

-- those that CULL sent or holds are the first of those that come back of the history
culled_lists : (g : Setup) (dbase : List BaseLine) (seats : Seats) (s : PipeState) → PipeFits g dbase seats s →
    updates_in (loads_in (sent_and_held s.b.sent s.cull.held))
    ≡ take (length (updates_in (loads_in s.a.taken))) (came_back g.channels s.log)
culled_lists g dbase seats s fits =
    let taken = loads_in s.a.taken in
    let sent = loads_in (sent_and_held s.a.sent s.app.held) in
    let many = length (updates_in taken) in
    let front : updates_in taken ≡ take many (updates_in sent) =
    front_of (updates_in taken) (updates_in sent)
    (mapped_stand (λ (l : LoadState). l.cut.updates) taken sent (sent_load s.a.sent s.a.taken s.app.held fits.link_a)) in
    sym (map_map carried (λ (k : Carried). k.cut.updates) (loads_in (sent_and_held s.b.sent s.cull.held)))
    ∙ ap (map (λ (k : Carried). k.cut.updates)) fits.cull.loads
    ∙ passed_updates empty_scene.nodes taken
    ∙ ap (replaced_by_all empty_scene.nodes) (front ∙ ap (take many) (sent_lists g dbase seats s fits))
    ∙ replaced_front many empty_scene.nodes (cuts_of g.channels s.log)

-- those that DRAW sent or holds are those that it received
drawn_lists : (g : Setup) (dbase : List BaseLine) (seats : Seats) (s : PipeState) → PipeFits g dbase seats s →
    updates_in (loads_in (sent_and_held s.c.sent s.draw.held)) ≡ updates_in (loads_in s.b.taken)
drawn_lists g dbase seats s fits =
    sym (map_map kept (λ (k : Kept). k.cut.updates) (loads_in (sent_and_held s.c.sent s.draw.held)))
    ∙ ap (map (λ (k : Kept). k.cut.updates)) fits.draw.loads
    ∙ map_map kept (λ (k : Kept). k.cut.updates) (loads_in s.b.taken)

-- each update list that APP received stands at its place among those that come back of the history
back_stand : (g : Setup) (dbase : List BaseLine) (seats : Seats) (s : PipeState) → PipeFits g dbase seats s →
    (i : ℕ) (us : UpdateList) → slice_get (updates_in (loads_in s.c.taken)) i ≡ Some us →
    slice_get (came_back g.channels s.log) i ≡ Some us
back_stand g dbase seats s fits i us at =
    let many = length (updates_in (loads_in s.a.taken)) in
    let sent_c =
    mapped_stand (λ (l : LoadState). l.cut.updates) (loads_in s.c.taken) (loads_in (sent_and_held s.c.sent s.draw.held))
    (sent_load s.c.sent s.c.taken s.draw.held fits.link_c) i us at in
    let taken_b = subst (λ (lists : List UpdateList). slice_get lists i ≡ Some us) (drawn_lists g dbase seats s fits) sent_c in
    let sent_b =
    mapped_stand (λ (l : LoadState). l.cut.updates) (loads_in s.b.taken) (loads_in (sent_and_held s.b.sent s.cull.held))
    (sent_load s.b.sent s.b.taken s.cull.held fits.link_b) i us taken_b in
    get_take many (came_back g.channels s.log) i us
    (subst (λ (lists : List UpdateList). slice_get lists i ≡ Some us) (culled_lists g dbase seats s fits) sent_b)

-- What came back over the link from DRAW to APP: each packet is a load, and their update lists are the first of those that
-- come back of the history.
pub record IsBack (g : Setup) (s : PipeState) : Type 0 where
  pub loads : length (loads_in s.c.taken) ≡ length s.c.taken
  pub lists : updates_in (loads_in s.c.taken) ≡ take (length s.c.taken) (came_back g.channels s.log)

pub is_back : (g : Setup) (dbase : List BaseLine) (seats : Seats) (s : PipeState) → PipeFits g dbase seats s → IsBack g s
is_back g dbase seats s fits =
    let none = no_end_taken s.c.sent s.c.taken s.draw.held fits.link_c fits.draw.ends in
    let loads = loads_in s.c.taken in
    let many : length (updates_in loads) ≡ length s.c.taken =
    length-map loads (λ (l : LoadState). l.cut.updates) ∙ many_loads s.c.taken none in
    record {
      loads = many_loads s.c.taken none;
      lists =
          front_of (updates_in loads) (came_back g.channels s.log) (back_stand g dbase seats s fits)
          ∙ ap (λ (n : ℕ). take n (came_back g.channels s.log)) many;
    }

-- Where no fault cut a picture short, the update lists of the packets behind the last Sync are those that come back of the
-- Frames behind the retired ones, up to the last one whose pictures were written.
pub back_since_sync : (g : Setup) (dbase : List BaseLine) (seats : Seats) (s : PipeState) → PipeFits g dbase seats s → s.app.fault ≡ None →
    updates_in (loads_in (drop (last_sync (turns_at g.channels seats.app App s.log)) s.c.taken))
    ≡ came_back_between g.channels s.log (state_of g.channels s.log).retired s.app.written
back_since_sync g dbase seats s fits whole =
    let back = is_back g dbase seats s fits in
    let none = no_end_taken s.c.sent s.c.taken s.draw.held fits.link_c fits.draw.ends in
    let lists = came_back g.channels s.log in
    let r = last_sync (turns_at g.channels seats.app App s.log) in
    let short : cut_short s.app.fault ≡ 0 = ap cut_short whole in
    let many : length s.c.taken ≡ s.app.written = omega (arith, short, fits.stream.all) in
    let last = last_is_retired g dbase seats s fits in
    let early : r ≤ length s.c.taken = omega (arith, many, fits.stream.retired) in
    ap updates_in (loads_behind r s.c.taken none)
    ∙ map_drop (λ (l : LoadState). l.cut.updates) r (loads_in s.c.taken)
    ∙ ap (drop r) back.lists
    ∙ behind r (length s.c.taken) lists early
    ∙ ap (λ (n : ℕ). take (n - r) (drop r lists)) many
    ∙ ap (λ (k : ℕ). take (s.app.written - k) (drop k lists)) last

-- what APP is to bring home is what came back of the frames that its next Sync retires
pub brings_home : (play : Script) (ahead : ℕ) (p : PipeWork) → PipeKeeps play ahead p → p.app.state.fault ≡ None →
    AreOfRetired p.app.state.written p.scene.shared p.app.home
brings_home play ahead p keeps whole =
    let s = (core_of play p).pipe in
    let back : p.app.home ≡ came_back_between play.channels s.log (state_of play.channels s.log).retired p.app.state.written =
    keeps.home.lists ∙ back_since_sync (setup_of play ahead) play.dbase one_seat s keeps.core.pipe whole in
    subst (λ (n : ℕ). p.app.home ≡ came_back_between n s.log (state_of n s.log).retired p.app.state.written)
    (sym keeps.stages.channels) back
