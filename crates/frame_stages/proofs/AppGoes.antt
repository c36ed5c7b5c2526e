-- How the application goes on by its turns.
use Rattle.std.proofs.Common.{◌≡◌, ℕ, zero, suc, ◌+◌, ◌<◌, ◌≤◌, Bool, true, false, List, [], ◌∷◌, map, drop, length, Option, Some, None, refl, sym, ap, ◌∙◌, subst, arith}
use Rattle.std.proofs.lemmas.List.{length_push, length-map, length-set, length-replicate}
use Rattle.std.proofs.lemmas.Option.{same_Some, slice_get_within}
use Rattle.std.specs.List.{All}
use Rattle.std.specs.Prelude.{if◌then◌else◌, slice_get, slice_index_or}
use Rattle.fx_math.specs.declared.lenses.Lens.{Lens}
use Rattle.pf_model.specs.declared.edits.Edit.{Edit}
use Rattle.pf_model.specs.Angles.{Viewpoint, home_view}
use Rattle.pf_model.specs.declared.lines.AppLine.{AppLine}
use Rattle.pf_model.specs.declared.lines.AppStep.{AppStep}
use Rattle.pf_model.specs.declared.lines.AppStep.TheVariants as app
use Rattle.pf_history.specs.declared.commands.Caller.TheVariants.{App}
use Rattle.pf_history.specs.declared.commands.Command.{Command}
use Rattle.pf_history.specs.declared.commands.Command.TheVariants as command
use Rattle.pf_history.specs.Commands.{caller_of}
use Rattle.pf_history.specs.Objects.{FrameState, opening_state, next_state}
use Rattle.pf_history.specs.Logs.{Log, state_of, state_after}
use Rattle.pf_history.specs.Laws.{own_entry}
use Rattle.pf_history.specs.Asks.{Ask, Meets, asked_from}
use Rattle.pf_history.specs.Asks.{WantEdit, WantView, WantSync, WantFrame, WantClose}
use Rattle.update_lists.specs.declared.cuts.Cut.{Cut}
use Rattle.draw_list.specs.Lists.{Drawables}
use Rattle.pf_scene.specs.Scenes.{Shared, state_in}
use Rattle.pf_scene.specs.Frames.{IsCutOf, HasRoom, AllHaveRoom, Drawn, drawn}
use Rattle.pf_scene.specs.Acts.{MayFrame}
use Rattle.stage_parts.specs.declared.packets.Packet.TheVariants.{Frame, End}
use Rattle.stage_parts.specs.Loads.{LoadState, Each, HasRoomFor, AreImages, IsReady}
use Rattle.stage_parts.specs.Frames.{AreOwnFrames, cut_of_frame}
use Rattle.stage_parts.specs.States.{Setup, still_asked}
use Rattle.stage_parts.specs.Parts.{AppKeeps}
use Rattle.stage_parts.specs.Steps.{next_frame}
use Rattle.stage_parts.specs.AppSteps.{IsOwnTurn}
use Rattle.stage_parts.specs.Grows.{synced_by}
use Rattle.stage_parts.proofs.AppSteps.{app_law}
use Rattle.frame_stages.specs.Scripts.{next_step, SyncIsNext, own_lines}
use Rattle.frame_stages.specs.Flights.{HaveFirst, IsFitFor}
use Rattle.frame_stages.specs.AppWorks.{AppWork, IsGiven, merges_in, with_load}
use Rattle.frame_stages.specs.AppAnswers.{Ends}
use Rattle.frame_stages.proofs.AppLogs.{own_frames, merges_are, own_is_at}
use Rattle.frame_stages.proofs.AppAsks.{steps, asked_at, asked_next, next_is, none_is, given_passed}
use Rattle.frame_stages.proofs.AppPolled.{GoesOnBy}
use Rattle.frame_stages.proofs.AppHome.{home_turn, home_synced}

-- a turn of its own by the object's own entry
own_turn : (g : Setup) (k : ℕ) (found : Shared) (c : Command) (before after : List Ask) (ask : Ask) → caller_of c ≡ App →
    before ≡ ask ∷ after → Meets g.ahead g.merges ask.wanted (state_of g.channels found.log) c → ask.need ≤ merges_in found.log →
    IsOwnTurn g k found.log (own_entry found.channels found.log k c) before after
own_turn g k found c before after ask by_app first meets enough =
    let many = merges_are g.channels found.log in
    record { own = own_is_at found.channels found.log k c by_app; ask = ask; first = first; meets = meets; waited = omega (arith, enough, many) }

-- the next line is passed
abbrev pub past : AppWork → AppWork
past w = record w { rest = drop 1 w.rest; state = record w.state { at = w.state.at + 1 } }

given_past : (g : Setup) (w : AppWork) (step : AppStep) → IsGiven g w → next_step w.rest ≡ Some step →
    synced_by w.state.synced (steps (drop 1 w.rest)) ≡ synced_by w.state.synced (step ∷ steps (drop 1 w.rest)) → IsGiven g (past w)
given_past g w step given next on = given_passed g w (past w) step given next refl refl on

-- how many lines the next entry passes, by the next step
lines_of : (w : AppWork) (step : Option AppStep) → next_step w.rest ≡ step →
    own_lines (next_step w.rest) w.state.synced ≡ own_lines step w.state.synced
lines_of w step next = ap (λ (s : Option AppStep). own_lines s w.state.synced) next

-- an edit is made
pub edit_goes : (k : ℕ) (e : Edit) (ends : Ends) (w : AppWork) (found : Shared) → w.state.closed ≡ false →
    next_step w.rest ≡ Some (app.Edit e) → w.state.need ≤ merges_in found.log → GoesOnBy k (command.Edit e) ends w (past w) found
edit_goes k e ends w found going next enough =
    record {
      app = refl;
      retires = tt;
      at = omega arith;
      line = let lines : own_lines (next_step w.rest) w.state.synced ≡ 1 = lines_of w (Some (app.Edit e)) next in omega (arith, lines);
      need = refl;
      passes = λ enough. omega (arith, enough);
      fault = refl;
      told = refl;
      stays_open = λ some. refl;
      given = λ g given. given_past g w (app.Edit e) given next refl;
      part = λ g stream given own keeps.
          (app_law g k w.state found.log ends.taken ends.sent stream keeps).edits (own_entry found.channels found.log k (command.Edit e))
          (w.state.at + 1) (omega arith) refl (λ r. refl)
          (own_turn g k found (command.Edit e) (still_asked g w.state) (still_asked g (past w).state)
          (record { need = w.state.need; wanted = WantEdit e }) refl
          (asked_next g w (app.Edit e) given going next
          ∙ ap (λ (asks : List Ask). record { need = w.state.need; wanted = WantEdit e } ∷ asks)
          (sym (asked_at g (past w) (given_past g w (app.Edit e) given next refl) going)))
          refl enough);
      home = λ g stream given keeps has.
          home_turn g k found (command.Edit e) w (past w) ends.taken refl (λ r. refl) refl has.few has;
    }

-- a view is set
pub view_goes : (k channel : ℕ) (v : Viewpoint) (ends : Ends) (w : AppWork) (found : Shared) → w.state.closed ≡ false →
    next_step w.rest ≡ Some (app.View channel v) → w.state.need ≤ merges_in found.log →
    GoesOnBy k (command.View channel v) ends w (past w) found
view_goes k channel v ends w found going next enough =
    record {
      app = refl;
      retires = tt;
      at = omega arith;
      line = let lines : own_lines (next_step w.rest) w.state.synced ≡ 1 = lines_of w (Some (app.View channel v)) next in omega (arith, lines);
      need = refl;
      passes = λ enough. omega (arith, enough);
      fault = refl;
      told = refl;
      stays_open = λ some. refl;
      given = λ g given. given_past g w (app.View channel v) given next refl;
      part = λ g stream given own keeps.
          (app_law g k w.state found.log ends.taken ends.sent stream keeps).edits (own_entry found.channels found.log k (command.View channel v))
          (w.state.at + 1) (omega arith) refl (λ r. refl)
          (own_turn g k found (command.View channel v) (still_asked g w.state) (still_asked g (past w).state)
          (record { need = w.state.need; wanted = WantView channel v }) refl
          (asked_next g w (app.View channel v) given going next
          ∙ ap (λ (asks : List Ask). record { need = w.state.need; wanted = WantView channel v } ∷ asks)
          (sym (asked_at g (past w) (given_past g w (app.View channel v) given next refl) going)))
          refl enough);
      home = λ g stream given keeps has.
          home_turn g k found (command.View channel v) w (past w) ends.taken refl (λ r. refl) refl has.few has;
    }

-- its own frames are all that were begun
frames_begun : (g : Setup) (k : ℕ) (w : AppWork) (log : Log) (ends : Ends) (stream : List ℕ) → AreOwnFrames k log →
    AppKeeps g k w.state log ends.taken ends.sent stream → (state_of g.channels log).frames ≡ w.state.frames
frames_begun g k w log ends stream own keeps = own_frames g.channels k log own ∙ sym keeps.part.frames

-- a Sync was made, for a line of its own or before a Frame
abbrev pub synced_work : Bool → AppWork → AppWork
synced_work true w = record w { rest = drop 1 w.rest; state = record w.state { at = w.state.at + 1; synced = true }; home = [] }
synced_work false w = record w { state = record w.state { synced = true }; home = [] }

pub sync_goes : (asked : Bool) (k : ℕ) (ends : Ends) (w : AppWork) (found : Shared) → w.state.closed ≡ false → w.state.fault ≡ None →
    SyncIsNext asked w.state.synced (next_step w.rest) → w.state.need ≤ merges_in found.log → w.state.frames < w.state.written + w.ahead →
    GoesOnBy k (command.Sync w.state.written) ends w (synced_work asked w) found
sync_goes true k ends w found going whole next enough room =
    record {
      app = refl;
      retires = refl;
      at = omega arith;
      line = let lines : own_lines (next_step w.rest) w.state.synced ≡ 1 = lines_of w (Some app.Sync) next in omega (arith, lines);
      need = refl;
      passes = λ enough. omega (arith, enough);
      fault = refl;
      told = refl;
      stays_open = λ some. refl;
      given = λ g given. given_passed g w (synced_work true w) app.Sync given next refl refl refl;
      part = λ g stream given own keeps.
          let ahead = given.ahead in
          let begun = frames_begun g k w found.log ends stream own keeps in
          (app_law g k w.state found.log ends.taken ends.sent stream keeps).syncs (own_entry found.channels found.log k (command.Sync w.state.written))
          (w.state.at + 1) (omega arith) refl (omega (arith, room, ahead))
          (own_turn g k found (command.Sync w.state.written) (still_asked g w.state) (still_asked g (synced_work true w).state)
          (record { need = w.state.need; wanted = WantSync }) refl
          (asked_next g w app.Sync given going next
          ∙ ap (λ (asks : List Ask). record { need = w.state.need; wanted = WantSync } ∷ asks)
          (sym (asked_at g (synced_work true w) (given_passed g w (synced_work true w) app.Sync given next refl refl refl) going)))
          (omega (arith, room, ahead, begun)) enough);
      home = λ g stream given keeps has.
          let ahead = given.ahead in
          home_synced g k found w (synced_work true w) ends.taken ends.sent stream whole refl (omega (arith, room, ahead)) keeps;
    }
sync_goes false k ends w found going whole next enough room =
    record {
      app = refl;
      retires = refl;
      at = omega arith;
      line = let lines : own_lines (next_step w.rest) w.state.synced ≡ 0 = lines_of w (Some app.Frame) next.0 ∙ ap (λ t. if t then 1 else 0) next.1 in omega (arith, lines);
      need = refl;
      passes = λ enough. enough;
      fault = refl;
      told = refl;
      stays_open = λ some. refl;
      given = given_same;
      part = λ g stream given own keeps.
          let ahead = given.ahead in
          let begun = frames_begun g k w found.log ends stream own keeps in
          (app_law g k w.state found.log ends.taken ends.sent stream keeps).syncs (own_entry found.channels found.log k (command.Sync w.state.written))
          w.state.at (omega arith) refl (omega (arith, room, ahead))
          (own_turn g k found (command.Sync w.state.written) (still_asked g w.state) (still_asked g (synced_work false w).state)
          (record { need = w.state.need; wanted = WantSync }) refl
          (asked_next g w app.Frame given going next.0 ∙ ap (λ t. asked_from w.state.need t (app.Frame ∷ steps (drop 1 w.rest))) next.1
          ∙ ap (λ (asks : List Ask). record { need = w.state.need; wanted = WantSync } ∷ asks)
          (sym (asked_next g (synced_work false w) app.Frame (given_same g given) going next.0)))
          (omega (arith, room, ahead, begun)) enough);
      home = λ g stream given keeps has.
          let ahead = given.ahead in
          home_synced g k found w (synced_work false w) ends.taken ends.sent stream whole refl (omega (arith, room, ahead)) keeps;
    }
  where
    given_same : (g : Setup) → IsGiven g w → IsGiven g (synced_work false w)
    given_same g given =
        record {
          within = given.within;
          rest = given.rest;
          merges = given.merges;
          lens = given.lens;
          back = given.back;
          ahead = given.ahead;
          channels = given.channels;
          stands =
              ap (synced_by true) (next_is w.rest app.Frame next.0)
              ∙ sym (ap (synced_by w.state.synced) (next_is w.rest app.Frame next.0)) ∙ given.stands;
        }

-- the closing Sync was made, and the End is held
abbrev pub closed_work : AppWork → AppWork
closed_work w = record w { state = record w.state { closed = true; held = Some End }; home = [] }

pub close_goes : (k : ℕ) (ends : Ends) (w : AppWork) (found : Shared) → w.state.closed ≡ false → w.state.fault ≡ None → w.state.held ≡ None →
    next_step w.rest ≡ None → w.state.need ≤ merges_in found.log → w.state.frames ≤ w.state.written → w.state.frames < w.state.written + w.ahead →
    w.merges ≤ merges_in found.log → GoesOnBy k (command.Sync w.state.written) ends w (closed_work w) found
close_goes k ends w found going whole bare next enough back room all =
    record {
      app = refl;
      retires = refl;
      at = omega arith;
      line = let lines : own_lines (next_step w.rest) w.state.synced ≡ 0 = lines_of w None next in omega (arith, lines);
      need = refl;
      passes = λ enough. enough;
      fault = refl;
      told = refl;
      stays_open = λ some. absurd (some next);
      given = λ g given.
          record {
            within = given.within;
            rest = given.rest;
            merges = given.merges;
            lens = given.lens;
            back = given.back;
            ahead = given.ahead;
            channels = given.channels;
            stands = given.stands;
          };
      part = λ g stream given own keeps.
          let ahead = given.ahead in
          let merges = given.merges in
          let begun = frames_begun g k w found.log ends stream own keeps in
          let came = keeps.streams.begun in
          let wrote = keeps.streams.all in
          let same : w.state.written ≡ w.state.frames = omega (arith, came, wrote, back) in
          let many = merges_are g.channels found.log in
          (app_law g k w.state found.log ends.taken ends.sent stream keeps).closes (own_entry found.channels found.log k (command.Sync w.state.written))
          refl bare going same (omega (arith, room, ahead, same))
          (own_turn g k found (command.Sync w.state.written) (still_asked g w.state) []
          (record { need = w.state.need; wanted = WantClose }) refl
          (asked_at g w given going ∙ ap (λ (lines : List AppLine). asked_from w.state.need w.state.synced (steps lines)) (none_is w.rest next))
          (same ∙ sym begun, omega (arith, merges, all, many)) enough);
      home = λ g stream given keeps has.
          let ahead = given.ahead in
          home_synced g k found w (closed_work w) ends.taken ends.sent stream whole refl (omega (arith, room, ahead)) keeps;
    }

-- A frame

views_kept : (s : FrameState) (c : Command) → length (next_state s c).views ≡ length s.views
views_kept s (command.Edit e) = refl
views_kept s (command.Merge m) = refl
views_kept s (command.View channel v) = length-set s.views channel v
views_kept s (command.Sync r) = refl
views_kept s command.Frame = refl

views_kept_by : (s : FrameState) (log : Log) → length (state_after s log).views ≡ length s.views
views_kept_by s [] = refl
views_kept_by s (e ∷ es) = views_kept_by (next_state s e.1.command) es ∙ views_kept s e.1.command

views_many : (channels : ℕ) (log : Log) → length (state_of channels log).views ≡ channels
views_many channels log = views_kept_by (opening_state channels) log ∙ length-replicate channels home_view

-- a list that was made room in has as many joints as before
pub first_kept : (new old : List Drawables) → map drawn new ≡ map drawn old → HaveFirst old → HaveFirst new
first_kept [] old same first i d at = absurd (cc)
first_kept (x ∷ new) [] same first i d at = absurd (cc)
first_kept (x ∷ new) (y ∷ old) same first zero d at =
    let here : drawn x ≡ drawn y = cc (same) in
    let this = first 0 y refl in
    let many : length x.joints.lists ≡ length y.joints.lists = ap (λ (v : Drawn). length v.joints) here in
    let one : 0 < length x.joints.lists = omega (arith, this, many) in
    subst (λ (v : Drawables). 0 < length v.joints.lists) (same_Some x d at) one
first_kept (x ∷ new) (y ∷ old) same first (suc i) d at =
    let rest : map drawn new ≡ map drawn old = cc (same) in
    first_kept new old rest (λ j v there. first (suc j) v there) i d at

room_for : (size tris : ℕ) (lists : List Drawables) → All (HasRoom size tris) lists → HaveFirst lists → Each (HasRoomFor size tris) lists
room_for size tris lists room first i d at =
    let here : HasRoom size tris d = subst (HasRoom size tris) (get_there lists i d at) (room i d (slice_get_within lists i d at)) in
    let one = first i d at in
    let items = here.items in
    let joints = here.joints in
    let kept = here.tris in
    record { items = omega (arith, items); joints = omega (arith, joints, one); triangles = omega (arith, kept) }
  where
    get_there : (lists : List Drawables) (i : ℕ) (d : Drawables) → slice_get lists i ≡ Some d → slice_index_or lists i d ≡ d
    get_there [] i d at = absurd (cc)
    get_there (x ∷ lists) zero d at = same_Some x d at
    get_there (x ∷ lists) (suc i) d at = get_there lists i d at

room_of : (cut : Cut) (found : Shared) (lists : List Drawables) → IsCutOf cut found → AllHaveRoom (state_in found).graph lists →
    All (HasRoom cut.size cut.tris) lists
room_of cut found lists is room k d l =
    let here = room k d l in
    let items = here.items in
    let joints = here.joints in
    let tris = here.tris in
    let size = is.size in
    let many = is.tris in
    record { items = omega (arith, items, size); joints = omega (arith, joints, size); tris = omega (arith, tris, many) }

-- the load of a frame that was begun is ready
ready : (lens : Lens) (channels ahead : ℕ) (found : Shared) (load load' : LoadState) → IsFitFor lens channels load →
    MayFrame found ahead (length load.lists) → IsCutOf load'.cut found → AllHaveRoom (state_in found).graph load'.lists →
    map drawn load'.lists ≡ map drawn load.lists → load' ≡ record load { cut = load'.cut; lists = load'.lists } → IsReady lens load'
ready lens channels ahead found load load' fit may cut room lists same =
    let many : length load'.lists ≡ length load.lists =
    sym (length-map load'.lists drawn) ∙ ap length lists ∙ length-map load.lists drawn in
    let views : length load'.cut.views ≡ found.channels = ap length cut.views ∙ views_many found.channels found.log in
    let images : length load'.cut.views ≡ channels = views ∙ sym may.many ∙ fit.lists in
    let all : Each (HasRoomFor load'.cut.size load'.cut.tris) load'.lists =
    room_for load'.cut.size load'.cut.tris load'.lists (room_of load'.cut found load'.lists cut room)
    (first_kept load'.lists load.lists lists fit.first) in
    record {
      many = many ∙ may.many ∙ sym views;
      room = all;
      images = subst (λ n. AreImages lens n load'.images) (sym images)
          (subst (λ (v : LoadState). AreImages lens channels v.images) (sym same) fit.images);
    }

-- the cut is that of the next frame
cut_is : (channels : ℕ) (found : Shared) (cut : Cut) → found.channels ≡ channels → IsCutOf cut found → cut ≡ cut_of_frame (next_frame channels found.log)
cut_is channels found cut same is =
    (λ i. record { frame = is.frame i; views = is.views i; size = is.size i; tris = is.tris i; updates = is.updates i })
    ∙ ap (λ n. cut_of_frame (next_frame n found.log)) same

-- a frame was begun with a load, and it is held
abbrev pub begun_work : LoadState → AppWork → AppWork
begun_work load' w =
    record w {
      rest = drop 1 w.rest;
      state = record w.state {
        at = w.state.at + 1;
        synced = false;
        frames = w.state.frames + 1;
        held = Some (Frame load');
      };
    }

pub frame_goes : (k : ℕ) (old load load' : LoadState) (ends : Ends) (w : AppWork) (found : Shared) → w.state.closed ≡ false → w.state.held ≡ None →
    w.state.synced ≡ true → next_step w.rest ≡ Some app.Frame → w.state.need ≤ merges_in found.log → IsFitFor w.lens w.channels load →
    MayFrame found w.ahead (length load.lists) → IsCutOf load'.cut found → AllHaveRoom (state_in found).graph load'.lists →
    map drawn load'.lists ≡ map drawn load.lists → load' ≡ record load { cut = load'.cut; lists = load'.lists } →
    GoesOnBy k command.Frame ends (with_load old w) (begun_work load' w) found
frame_goes k old load load' ends w found going bare synced next enough fit may cut room lists same =
    record {
      app = refl;
      retires = tt;
      at = omega arith;
      line = let lines : own_lines (next_step w.rest) w.state.synced ≡ 1 = lines_of w (Some app.Frame) next ∙ ap (λ t. if t then 1 else 0) synced in omega (arith, lines);
      need = refl;
      passes = λ enough. omega (arith, enough);
      fault = refl;
      told = refl;
      stays_open = λ some. refl;
      given = given_begun;
      part = λ g stream given own keeps.
          let a = (with_load old w).state in
          let channels : found.channels ≡ g.channels = sym may.many ∙ fit.lists ∙ given.channels in
          let free : (state_of g.channels found.log).frames < (state_of g.channels found.log).retired + g.ahead =
          subst (λ n. (state_of n found.log).frames < (state_of n found.log).retired + g.ahead) channels
          (subst (λ n. (state_of found.channels found.log).frames < (state_of found.channels found.log).retired + n) given.ahead may.free) in
          (app_law g k a found.log ends.taken ends.sent stream keeps).begins (own_entry found.channels found.log k command.Frame)
          (w.state.at + 1) load' w.state.spare (omega arith) refl bare going synced (sym (length_push w.state.spare old))
          (cut_is g.channels found load'.cut channels cut)
          (subst (λ (l : Lens). IsReady l load') given.lens (ready w.lens w.channels w.ahead found load load' fit may cut room lists same))
          (own_turn g k found command.Frame (still_asked g a) (still_asked g (begun_work load' w).state)
          (record { need = w.state.need; wanted = WantFrame }) refl
          (asked_next g (with_load old w) app.Frame given going next
          ∙ ap (λ t. asked_from w.state.need t (app.Frame ∷ steps (drop 1 w.rest))) synced
          ∙ ap (λ (asks : List Ask). record { need = w.state.need; wanted = WantFrame } ∷ asks)
          (sym (asked_at g (begun_work load' w) (given_begun g given) going)))
          free enough);
      home = λ g stream given keeps has.
          let fresh = keeps.part.fresh synced in
          home_turn g k found command.Frame (with_load old w) (begun_work load' w) ends.taken refl (λ r. refl) refl (omega (arith, fresh)) has;
    }
  where
    given_begun : (g : Setup) → IsGiven g (with_load old w) → IsGiven g (begun_work load' w)
    given_begun g given = given_passed g (with_load old w) (begun_work load' w) app.Frame given next refl refl refl
