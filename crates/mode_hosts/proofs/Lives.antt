-- What a live pipe keeps while lines are given and while it settles, and what it leaves.
use Rattle.std.proofs.Common.{◌≡◌, ℕ, ◌+◌, ◌≤◌, ◌<◌, false, List, [], ◌∷◌, ◌++◌, take, length, Option, None, Some, Result, Ok, Err, OnErr, inl, inr, refl, sym, ap, ◌∙◌, subst, arith, length-drop}
use Rattle.std.proofs.lemmas.List.{map-append, append-nil, length-append}
use Rattle.std.specs.Arc.{arc_value}
use mathlib.Core.List.{IsPrefix}
use Rattle.seat_lock.specs.Tokens.{lock_id}
use Rattle.seat_lock.proofs.Logs.{prefix_self}
use Rattle.nearest_hit.specs.declared.segment.Segment.{Segment}
use Rattle.pf_model.specs.declared.lines.AppLine.{AppLine}
use Rattle.pf_model.specs.declared.lines.AppStep.{AppStep}
use Rattle.pf_model.specs.declared.lines.AppStep.TheVariants as app
use Rattle.pf_model.specs.declared.lines.BaseLine.{BaseLine}
use Rattle.pf_model.specs.declared.lines.BaseStep.{BaseStep}
use Rattle.pf_model.specs.declared.lines.BaseStep.TheVariants as base
use Rattle.pf_history.specs.Logs.{Log}
use Rattle.pf_history.specs.Asks.{asked_dbase}
use Rattle.pf_scene.specs.declared.outcomes.Told.{Told}
use Rattle.play_format.specs.Plays.{Script}
use Rattle.play_check.specs.Lines.{app_given, app_marks, base_given, base_marks, given_by, total}
use Rattle.stage_parts.specs.declared.answers.Did.{Did}
use Rattle.stage_parts.specs.declared.answers.Did.TheVariants as did
use Rattle.stage_parts.specs.declared.answers.StageError.{StageError}
use Rattle.stage_parts.specs.declared.packets.Packet.{Packet}
use Rattle.stage_parts.specs.States.{Setup}
use Rattle.stage_parts.specs.Parts.{AppKeeps}
use Rattle.stage_parts.specs.Grows.{with_lines}
use Rattle.frame_stages.specs.Scripts.{most_lines}
use Rattle.frame_stages.specs.AppWorks.{AppWork, IsGiven}
use Rattle.frame_stages.specs.DbaseWorks.{DbaseWork, DbaseHolds}
use Rattle.pipe_plays.specs.Plays.{CanRun, setup_of}
use Rattle.pipe_plays.specs.Played.{Blames, StaysWhole}
use Rattle.pipe_plays.proofs.Counts.{merges_given, total_append}
use Rattle.mode_hosts.specs.declared.live.LivePipe.{LivePipe}
use Rattle.mode_hosts.specs.declared.modes.Mode.{Mode}
use Rattle.mode_hosts.specs.declared.modes.Mode.TheVariants as mode
use Rattle.mode_hosts.specs.declared.modes.Crews.{Crews}
use Rattle.mode_hosts.specs.declared.posts.Posts.{Posts}
use Rattle.mode_hosts.specs.declared.seats.AppSeat.{AppSeat}
use Rattle.mode_hosts.specs.declared.seats.DbaseSeat.{DbaseSeat}
use Rattle.mode_hosts.specs.declared.seats.AllSeats.{AllSeats}
use Rattle.mode_hosts.specs.Works.{AnyCullWork, AnyDrawWork}
use Rattle.mode_hosts.specs.Sites.{Site, DbaseSite, ProbeSite, CrewState, AppGoes, DbaseGoes, CrewGoes, Gains}
use Rattle.mode_hosts.specs.Seats.{app_site, cull_site, draw_site, dbase_site, probe_site}
use Rattle.mode_hosts.specs.Crews.{CrewsState, CrewsGo, divided, full_crew, all_of}
use Rattle.mode_hosts.specs.Posts.{crews_state, ArePosts}
use Rattle.mode_hosts.specs.Homes.{all_sites}
use Rattle.mode_hosts.specs.Probes.{AllSites, AreAllTogether, AllKeep, AllGo}
use Rattle.mode_hosts.specs.Lives.{with_app, with_dbase, live_setup, frames_in, AppRests, DbaseRests, BaseSays, crew_but_dbase, seen_of, live_sites, IsLive, LiveKeeps, LiveRests, TellsEntries}
use Rattle.mode_hosts.proofs.Goes.{dbase_self, crew_self}
use Rattle.mode_hosts.proofs.Crews.{all_go}
use Rattle.mode_hosts.proofs.Telling.{few_on, first_on, told_within}
use Rattle.mode_hosts.proofs.Ends.{crew_in, seats_go}
use Rattle.mode_hosts.proofs.Keeping.{all_keep, all_stay_together}
use Rattle.mode_hosts.proofs.Given.{given_seats, together_given, app_seat_given, all_given}

-- The crews without the database process

pub apart_there : (m : Mode) (cull : Site AnyCullWork) (draw : Site AnyDrawWork) (dbase : DbaseSite) (probe : ProbeSite) →
    (divided m false cull draw dbase probe).caller.dbase ≡ Some dbase
apart_there mode.Appculldraw cull draw dbase probe = refl
apart_there mode.AppCulldraw cull draw dbase probe = refl
apart_there mode.AppcullDraw cull draw dbase probe = refl
apart_there mode.AppCullDraw cull draw dbase probe = refl

-- the crews, of which the caller's has no database process
abbrev pub crews_apart : CrewsState → CrewsState
crews_apart crews = record crews { caller = record crews.caller { dbase = None } }

pub apart_all : (m : Mode) (cull : Site AnyCullWork) (draw : Site AnyDrawWork) (dbase : DbaseSite) (probe : ProbeSite) →
    all_of (crews_apart (divided m false cull draw dbase probe)) ≡ crew_but_dbase cull draw probe
apart_all mode.Appculldraw cull draw dbase probe = refl
apart_all mode.AppCulldraw cull draw dbase probe = refl
apart_all mode.AppcullDraw cull draw dbase probe = refl
apart_all mode.AppCullDraw cull draw dbase probe = refl

-- Settling

-- where it did nothing, nothing is left to do for it
pub base_rests : (d : Did) (s : DbaseSite) → BaseSays d s → (d ≡ did.Did → ⊥) → DbaseRests s
base_rests did.Did s says idle = absurd (idle refl)
base_rests did.NotYet s says idle = inr says
base_rests did.Over s says idle = inl says

-- what polls came to behind others that came to no error
pub whole_on : {A B : Type 0} (came : Result A StageError) (result : Result B StageError) (old new : Option ℕ) → OnErr came ⊥ →
    StaysWhole came None old → StaysWhole result old new → StaysWhole result None new
whole_on (Ok x) result old new fine whole on = subst (λ (f : Option ℕ). StaysWhole result f new) whole on
whole_on (Err e) result old new fine whole on = absurd fine

pub blames_on : {A : Type 0} (result : Result A StageError) (before old now : ℕ) (at_fault bytes : Option (List ℕ)) → old ≡ before →
    Blames result old now at_fault bytes → Blames result before now at_fault bytes
blames_on result before old now at_fault bytes is on = subst (λ (n : ℕ). Blames result n now at_fault bytes) is on

pub blamed_on : {A B : Type 0} (came : Result A StageError) (result : Result B StageError) (before old now : ℕ) (at_fault bytes at_fault' bytes' : Option (List ℕ)) →
    OnErr came ⊥ → Blames came before old at_fault bytes → Blames result old now at_fault' bytes' → Blames result before now at_fault' bytes'
blamed_on (Ok x) result before old now at_fault bytes at_fault' bytes' fine calm on = blames_on result before old now at_fault' bytes' calm on
blamed_on (Err e) result before old now at_fault bytes at_fault' bytes' fine calm on = absurd fine

-- polls of the application and of the database process leave all other seats
pub still_go : (s : AllSites) (app : Site AppWork) (dbase : DbaseSite) (a b : Option (List ℕ)) → AppGoes s.four.app app a b →
    DbaseGoes s.four.dbase dbase → AllGo s (record s { four = record s.four { app = app; dbase = dbase } }) a b
still_go s app dbase a b goes base_goes =
    let same = crew_self (full_crew s.four.cull s.four.draw s.four.dbase s.probe) in
    record {
      four = record { app = goes; cull = same.cull; draw = same.draw; dbase = base_goes };
      probe = same.probe;
    }

-- the log that a seat of the application has seen
abbrev pub seen_at : {R : Type 0} → AppSeat R → Log
seen_at seat = (app_site seat).place.seen

module _ {R G : Type 0} where
  abbrev pub live_goes : (p q : LivePipe R G) (a b : Option (List ℕ)) → AppGoes (app_site p.app) (app_site q.app) a b →
      DbaseGoes (dbase_site p.dbase) (dbase_site q.dbase) → ((crews : Crews R) → ArePosts crews p.posts → ArePosts crews q.posts) →
      q.lock ≡ p.lock → (p.told ≤ length (seen_of p) → q.told ≤ length (seen_of q)) → IsLive p → IsLive q
  live_goes p q a b goes base_goes posts lock few live =
      record {
        crews = live.crews;
        cull = live.cull;
        draw = live.draw;
        probe = live.probe;
        sent = live.sent;
        posts = posts live.crews live.posts;
        together = subst (λ l. AreAllTogether (lock_id (arc_value l)) (live_sites q live.cull live.draw live.probe)) (sym lock)
            (all_stay_together (lock_id (arc_value p.lock)) (live_sites p live.cull live.draw live.probe)
            (live_sites q live.cull live.draw live.probe) a b
            (still_go (live_sites p live.cull live.draw live.probe) (app_site q.app) (dbase_site q.dbase) a b goes base_goes)
            live.together);
        few = few live.few;
      }

  pub keeps_goes : (play : Script) (ahead : ℕ) (asked : Option Segment) (p q : LivePipe R G) (a b c : Option (List ℕ)) →
      (goes : AppGoes (app_site p.app) (app_site q.app) b c) → (base_goes : DbaseGoes (dbase_site p.dbase) (dbase_site q.dbase)) →
      (posts : (crews : Crews R) → ArePosts crews p.posts → ArePosts crews q.posts) → (lock : q.lock ≡ p.lock) → q.frames ≡ p.frames →
      (few : p.told ≤ length (seen_of p) → q.told ≤ length (seen_of q)) → StaysWhole q.came None q.app.stage.state.fault →
      LiveKeeps play ahead asked a b p → LiveKeeps play ahead asked a c q
  keeps_goes play ahead asked p q a b c goes base_goes posts lock frames few whole keeps =
      let live = keeps.live in
      record {
        live = live_goes p q b c goes base_goes posts lock few live;
        keeps = all_keep (live_setup play ahead) play.dbase asked (live_sites p live.cull live.draw live.probe)
            (live_sites q live.cull live.draw live.probe) a b c
            (still_go (live_sites p live.cull live.draw live.probe) (app_site q.app) (dbase_site q.dbase) b c goes base_goes) keeps.keeps;
        frames = frames ∙ keeps.frames;
        whole = whole;
      }

  pub live_keeps : (play : Script) (ahead : ℕ) (asked : Option Segment) (p q : LivePipe R G) (a b c : Option (List ℕ)) →
      (goes : AppGoes (app_site p.app) (app_site q.app) b c) → (base_goes : DbaseGoes (dbase_site p.dbase) (dbase_site q.dbase)) →
      (posts : (crews : Crews R) → ArePosts crews p.posts → ArePosts crews q.posts) → (lock : q.lock ≡ p.lock) → q.frames ≡ p.frames →
      (few : p.told ≤ length (seen_of p) → q.told ≤ length (seen_of q)) → OnErr p.came ⊥ →
      StaysWhole q.came p.app.stage.state.fault q.app.stage.state.fault → LiveKeeps play ahead asked a b p → LiveKeeps play ahead asked a c q
  live_keeps play ahead asked p q a b c goes base_goes posts lock frames few fine on keeps =
      keeps_goes play ahead asked p q a b c goes base_goes posts lock frames few
      (whole_on p.came q.came p.app.stage.state.fault q.app.stage.state.fault fine keeps.whole on) keeps

-- Telling

given_telling : (g : Setup) (w : AppWork) (n : ℕ) → IsGiven g w → IsGiven g (record w { told = n })
given_telling g w n given =
    record {
      within = given.within;
      rest = given.rest;
      merges = given.merges;
      lens = given.lens;
      back = given.back;
      ahead = given.ahead;
      channels = given.channels;
      stands = given.stands;
    }

rests_telling : (frames : ℕ) (w : AppWork) (n : ℕ) → AppRests frames w → AppRests frames (record w { told = n })
rests_telling frames w n rests =
    record {
      passed = rests.passed;
      bare = rests.bare;
      going = rests.going;
      alive = rests.alive;
      shown = rests.shown;
    }

module _ {R G : Type 0} where
  -- a live pipe of which so many entries were told, after a turn of the application
  abbrev pub after_turn : LivePipe R G → AppSeat R → ℕ → LivePipe R G
  after_turn p a n = record p { app = a; told = n }

  -- no entry was told
  pub tells_none : (p : LivePipe R G) (block : Told) → TellsEntries block p p block
  tells_none p block =
      let none : p.told ≡ p.told + 0 = omega arith in
      record {
        more = [];
        entries = sym (append-nil block.entries.items);
        told = none;
        first = sym (append-nil (take p.told (seen_of p)));
        front = prefix_self (seen_of p);
        room = refl;
      }

  pub tells_some : (p : LivePipe R G) (block reply : Told) (a : AppSeat R) (n : ℕ) (gains : Gains p.told block (seen_at a) reply) →
      IsPrefix (seen_of p) (seen_at a) → n ≡ p.told + length gains.more → IsLive p → TellsEntries block p (after_turn p a n) reply
  tells_some p block reply a n gains front is live =
      record {
        more = gains.more;
        entries = gains.entries;
        told = is;
        first = ap (λ (k : ℕ). take k (seen_at a)) is ∙ (gains.next
            ∙ ap (λ (es : Log). es ++ gains.more) (first_on p.told (seen_of p) (seen_at a) front live.few));
        front = front;
        room = gains.room;
      }

  -- what was told, the desk has seen
  pub few_told : (p : LivePipe R G) (block reply : Told) (a : AppSeat R) (n : ℕ) (gains : Gains p.told block (seen_at a) reply) →
      IsPrefix (seen_of p) (seen_at a) → n ≡ p.told + length gains.more → p.told ≤ length (seen_of p) → n ≤ length (seen_at a)
  few_told p block reply a n gains front is few =
      let within = told_within p.told gains.more (seen_at a) gains.next (few_on p.told (seen_of p) (seen_at a) front few) in
      omega (arith, is, within)

  pub turn_live : (p : LivePipe R G) (a : AppSeat R) (n : ℕ) (bytes : Option (List ℕ)) → AppGoes (app_site p.app) (app_site a) bytes bytes →
      (p.told ≤ length (seen_of p) → n ≤ length (seen_at a)) → IsLive p → IsLive (after_turn p a n)
  turn_live p a n bytes goes few live =
      live_goes p (after_turn p a n) bytes bytes goes (dbase_self (dbase_site p.dbase)) (λ crews are. are) refl few live

  pub turn_keeps : (play : Script) (ahead : ℕ) (asked : Option Segment) (p : LivePipe R G) (a : AppSeat R) (n : ℕ) (b c : Option (List ℕ)) →
      a.stage ≡ p.app.stage → AppGoes (app_site p.app) (app_site a) c c → (p.told ≤ length (seen_of p) → n ≤ length (seen_at a)) →
      LiveKeeps play ahead asked b c p → LiveKeeps play ahead asked b c (after_turn p a n)
  turn_keeps play ahead asked p a n b c stage goes few keeps =
      keeps_goes play ahead asked p (after_turn p a n) b c c goes (dbase_self (dbase_site p.dbase)) (λ crews are. are) refl refl few
      (subst (λ (w : AppWork). StaysWhole p.came None w.state.fault) (sym stage) keeps.whole) keeps

  pub turn_rests : (p : LivePipe R G) (a : AppSeat R) (n : ℕ) → a.stage ≡ p.app.stage → LiveRests p → LiveRests (after_turn p a n)
  turn_rests p a n stage rests =
      record { app = subst (AppRests p.frames) (sym stage) rests.app; dbase = rests.dbase }

-- Lines

few_frames : (s : AppStep) → given_by (app_given s) ≤ 1
few_frames (app.Edit e) = omega arith
few_frames (app.View channel v) = omega arith
few_frames app.Sync = omega arith
few_frames app.Frame = omega arith
few_frames (app.Wait n) = omega arith

few_begun : (lines : List AppLine) → frames_in lines ≤ length lines
few_begun [] = omega arith
few_begun (l ∷ ls) = let one = few_frames l.step in let rest = few_begun ls in omega (arith, one, rest)

-- the frames that one line more begins
frames_more : (lines : List AppLine) (l : AppLine) → frames_in (lines ++ l ∷ []) ≡ frames_in lines + given_by (app_given l.step)
frames_more lines l =
    let all = ap total (map-append _ lines (l ∷ [])) ∙ total_append (app_marks lines) (app_marks (l ∷ [])) in
    omega (arith, all)

-- the count of frames goes on, since there is room for the line
pub frames_on : (g : Setup) (w : AppWork) (l : AppLine) (before after : ℕ) → IsGiven g w → w.state.at + length w.rest < most_lines →
    before ≡ frames_in g.lines → (before + given_by (app_given l.step) < 4294967296 → after ≡ before + given_by (app_given l.step)) →
    after ≡ frames_in (g.lines ++ l ∷ [])
frames_on g w l before after given room is added =
    let left = ap length given.rest ∙ length-drop w.state.at g.lines in
    let few = few_begun g.lines in
    let one = few_frames l.step in
    let sum = added (omega (arith, left, few, one, room, is, given.within)) in
    let all = frames_more g.lines l in
    omega (arith, sum, all, is)

module _ {R G : Type 0} where
  -- a live pipe whose application has this state and began so many frames
  abbrev pub with_work : LivePipe R G → AppWork → ℕ → LivePipe R G
  with_work p w n = record p { app = record p.app { stage = w }; frames = n }

  -- its seats belong together as before
  abbrev pub live_given : (p : LivePipe R G) (w : AppWork) (d : DbaseWork) (n : ℕ) → IsLive p →
      IsLive (record p { app = record p.app { stage = w }; dbase = record p.dbase { stage = d }; frames = n })
  live_given p w d n live =
      record {
        crews = live.crews;
        cull = live.cull;
        draw = live.draw;
        probe = live.probe;
        sent = live.sent;
        posts = live.posts;
        together = together_given w d (lock_id (arc_value p.lock)) (live_sites p live.cull live.draw live.probe) live.together;
        few = live.few;
      }

  pub line_given : (play : Script) (ahead : ℕ) (asked : Option Segment) (p : LivePipe R G) (line : AppLine) (w : AppWork) (n : ℕ)
      (a b : Option (List ℕ)) → LiveKeeps play ahead asked a b p →
      ((g : Setup) → IsGiven g p.app.stage → IsGiven (with_lines g (line ∷ []) g.merges) w) →
      ((g : Setup) (seat : ℕ) (log : Log) (taken sent : List Packet) (stream : List ℕ) → IsGiven g p.app.stage →
      AppKeeps g seat p.app.stage.state log taken sent stream → AppKeeps (with_lines g (line ∷ []) g.merges) seat w.state log taken sent stream) →
      n ≡ frames_in (play.app ++ line ∷ []) → w.state.fault ≡ p.app.stage.state.fault →
      LiveKeeps (with_app play (line ∷ [])) ahead asked a b (with_work p w n)
  line_given play ahead asked p line w n a b keeps given part frames fault =
      let live = keeps.live in
      let g = live_setup play ahead in
      let s = live_sites p live.cull live.draw live.probe in
      let was = keeps.keeps.four.app.given in
      record {
        live = live_given p w p.dbase.stage n live;
        keeps = all_given g (g.lines ++ line ∷ []) g.merges play.dbase play.dbase asked s w s.four.dbase.work a b keeps.keeps
            (app_seat_given g (with_lines g (line ∷ []) g.merges) s.four.app w a b (given g was)
            (λ seat log taken sent stream old. part g seat log taken sent stream was old) keeps.keeps.four.app)
            keeps.keeps.four.dbase;
        frames = frames;
        whole = subst (λ (f : Option ℕ). StaysWhole p.came None f) (sym fault) keeps.whole;
      }

-- The numbers of frames

module _ {R G : Type 0} where
  -- a live pipe of which so many numbers were told
  abbrev with_told : LivePipe R G → ℕ → LivePipe R G
  with_told p n = record p { app = record p.app { stage = record p.app.stage { told = n } } }

  told_keeps : (play : Script) (ahead : ℕ) (asked : Option Segment) (p : LivePipe R G) (n : ℕ) (a b : Option (List ℕ)) →
      LiveKeeps play ahead asked a b p → LiveKeeps play ahead asked a b (with_told p n)
  told_keeps play ahead asked p n a b keeps =
      let live = keeps.live in
      let g = live_setup play ahead in
      let s = live_sites p live.cull live.draw live.probe in
      let w = record p.app.stage { told = n } in
      let app = keeps.keeps.four.app in
      record {
        live = live_given p w p.dbase.stage p.frames live;
        keeps = all_given g g.lines g.merges play.dbase play.dbase asked s w s.four.dbase.work a b keeps.keeps
            (app_seat_given g g s.four.app w a b (given_telling g p.app.stage n app.given) (λ seat log taken sent stream old. old) app)
            keeps.keeps.four.dbase;
        frames = keeps.frames;
        whole = keeps.whole;
      }

  -- what a live pipe keeps, and that nothing is left to do, does not depend on which numbers were told
  pub numbers_keep : (play : Script) (ahead : ℕ) (asked : Option Segment) (p : LivePipe R G) (w : AppWork) (a b : Option (List ℕ)) →
      w ≡ record p.app.stage { told = w.told } → LiveKeeps play ahead asked a b p →
      LiveKeeps play ahead asked a b (record p { app = record p.app { stage = w } })
  numbers_keep play ahead asked p w a b is keeps =
      subst (λ (v : AppWork). LiveKeeps play ahead asked a b (record p { app = record p.app { stage = v } })) (sym is)
      (told_keeps play ahead asked p w.told a b keeps)

  pub numbers_rest : (p : LivePipe R G) (w : AppWork) → w ≡ record p.app.stage { told = w.told } → LiveRests p →
      LiveRests (record p { app = record p.app { stage = w } })
  numbers_rest p w is rests =
      record {
        app = subst (AppRests p.frames) (sym is) (rests_telling p.frames p.app.stage w.told rests.app);
        dbase = rests.dbase;
      }

-- Blocks

-- the merges of a section with a block behind it
merges_more : (dbase more : List BaseLine) → length (asked_dbase (dbase ++ more)) ≡ length (asked_dbase dbase) + length (asked_dbase more)
merges_more dbase more =
    let all = merges_given 0 [] (dbase ++ more)
    ∙ ap total (map-append _ dbase more) ∙ total_append (base_marks dbase) (base_marks more) in
    let first = merges_given 0 [] dbase in
    let second = merges_given 0 [] more in
    omega (arith, all, first, second)

-- a section asks for no more merges than it has lines
few_given : (s : BaseStep) → given_by (base_given s) ≤ 1
few_given base.Buffer = omega arith
few_given (base.Edit e) = omega arith
few_given (base.Ask e) = omega arith
few_given base.Merge = omega arith
few_given (base.Await n) = omega arith

few_marks : (lines : List BaseLine) → total (base_marks lines) ≤ length lines
few_marks [] = omega arith
few_marks (l ∷ ls) = let one = few_given l.step in let rest = few_marks ls in omega (arith, one, rest)

pub few_merges : (lines : List BaseLine) → length (asked_dbase lines) ≤ length lines
few_merges lines = let same = merges_given 0 [] lines in let few = few_marks lines in omega (arith, same, few)

-- so many merges does the application wait for, where those of the block were counted
pub block_many : (play : Script) (ahead : ℕ) (more : List BaseLine) (own count merges : ℕ) → CanRun (with_dbase play more) ahead →
    own ≡ length (asked_dbase play.dbase) + 1 → count ≡ length (asked_dbase more) → (own + count < 4294967296 → merges ≡ own + count) →
    merges ≡ length (asked_dbase (play.dbase ++ more)) + 1
block_many play ahead more own count merges can all some added =
    let few = few_merges play.dbase in
    let few_more = few_merges more in
    let long = length-append play.dbase more in
    let sum = added (omega (arith, all, some, few, few_more, long, can.is_play.steps)) in
    let parts = merges_more play.dbase more in
    omega (arith, sum, parts, all, some)

module _ {R G : Type 0} where
  pub block_given : (play : Script) (ahead : ℕ) (asked : Option Segment) (p : LivePipe R G) (more : List BaseLine) (merges : ℕ) (w : AppWork)
      (d : DbaseWork) (a b : Option (List ℕ)) → LiveKeeps play ahead asked a b p →
      merges ≡ length (asked_dbase (play.dbase ++ more)) + 1 →
      ((g : Setup) → IsGiven g p.app.stage → IsGiven (record g { merges = merges }) w) →
      ((g : Setup) (seat : ℕ) (log : Log) (taken sent : List Packet) (stream : List ℕ) → IsGiven g p.app.stage →
      AppKeeps g seat p.app.stage.state log taken sent stream → AppKeeps (record g { merges = merges }) seat w.state log taken sent stream) →
      ((lines : List BaseLine) (channels seat : ℕ) (log : Log) → DbaseHolds lines channels seat p.dbase.stage log →
      DbaseHolds (lines ++ more) channels seat d log) →
      w.state.fault ≡ p.app.stage.state.fault →
      LiveKeeps (with_dbase play more) ahead asked a b (record p { app = record p.app { stage = w }; dbase = record p.dbase { stage = d } })
  block_given play ahead asked p more merges w d a b keeps many given part holds fault =
      let live = keeps.live in
      let g = live_setup play ahead in
      let s = live_sites p live.cull live.draw live.probe in
      let was = keeps.keeps.four.app.given in
      let base_keeps = keeps.keeps.four.dbase in
      record {
        live = live_given p w d p.frames live;
        keeps =
            subst (λ (n : ℕ). AllKeep (record g { merges = n }) (play.dbase ++ more) asked
            (live_sites (record p { app = record p.app { stage = w }; dbase = record p.dbase { stage = d } }) live.cull live.draw live.probe) a b) many
            (all_given g g.lines merges play.dbase (play.dbase ++ more) asked s w d a b keeps.keeps
            (app_seat_given g (record g { merges = merges }) s.four.app w a b (given g was)
            (λ seat log taken sent stream old. part g seat log taken sent stream was old) keeps.keeps.four.app)
            (record {
              holds = holds play.dbase g.channels s.four.dbase.place.number s.four.dbase.place.seen base_keeps.holds;
              own = base_keeps.own;
            }));
        frames = keeps.frames;
        whole = subst (λ (f : Option ℕ). StaysWhole p.came None f) (sym fault) keeps.whole;
      }

-- The end

module _ {R : Type 0} where
  abbrev pub crews_with : Crews R → DbaseSeat R → Crews R
  crews_with crews d = record crews { caller = record crews.caller { dbase = Some d } }

  abbrev pub posts_with : Posts R → DbaseSeat R → Posts R
  posts_with posts d = record posts { caller = record posts.caller { dbase = Some d } }

  -- the caller's crew has the database process again
  pub are_with : (crews : Crews R) (posts : Posts R) (d : DbaseSeat R) → ArePosts crews posts → ArePosts (crews_with crews d) (posts_with posts d)
  are_with crews posts d are =
      record {
        caller = record {
          cull = are.caller.cull;
          draw = are.caller.draw;
          dbase = dbase_self (dbase_site d);
          probe = are.caller.probe;
        };
        cull = are.cull;
        draw = are.draw;
        dbase = are.dbase;
        probe = are.probe;
      }

  -- all crews came back, after polls
  pub all_back : (crews : Crews R) (posts mid : Posts R) (back : Crews R) (d : DbaseSeat R) (cull : Site AnyCullWork) (draw : Site AnyDrawWork) (probe : ProbeSite) →
      ArePosts crews posts → all_of (crews_state crews) ≡ crew_but_dbase cull draw probe →
      ((cs : Crews R) → ArePosts cs (posts_with posts d) → ArePosts cs mid) →
      ((cs : Crews R) → ArePosts cs mid → CrewsGo (crews_state cs) (crews_state back)) →
      CrewGoes (full_crew cull draw (dbase_site d) probe) (all_of (crews_state back))
  all_back crews posts mid back d cull draw probe are sent runs home =
      let go = home (crews_with crews d) (runs (crews_with crews d) (are_with crews posts d are)) in
      subst (λ (s : CrewState). CrewGoes s (all_of (crews_state back)))
      (ap (λ (s : CrewState). record s { dbase = Some (dbase_site d) }) sent)
      (all_go (crews_state (crews_with crews d)) (crews_state back) go)

  -- the application and all crews at home, after polls
  pub home_go : (s : AllSites) (w : AppWork) (seats : AllSeats R) (app : AppSeat R) (back : Crews R) (a b : Option (List ℕ)) →
      AppGoes (record s.four.app { work = w }) (app_site app) a b →
      CrewGoes (full_crew s.four.cull s.four.draw s.four.dbase s.probe) (all_of (crews_state back)) → seats.app ≡ app →
      crew_in (all_sites seats) ≡ all_of (crews_state back) → AllGo (given_seats w s.four.dbase.work s) (all_sites seats) a b
  home_go s w seats app back a b goes crews is last =
      seats_go (given_seats w s.four.dbase.work s) (all_sites seats) (crew_in s) (all_of (crews_state back)) a b
      (subst (λ (x : AppSeat R). AppGoes (record s.four.app { work = w }) (app_site x) a b) (sym is) goes) refl last crews

-- The opening

whole_new : {A : Type 0} (came : Result A StageError) (fault : Option ℕ) → OnErr came ⊥ → fault ≡ None → StaysWhole came None fault
whole_new (Ok x) fault fine whole = whole
whole_new (Err e) fault fine whole = absurd fine

module _ {R G : Type 0} where
  -- A live pipe before its first step, of these seats: its crews are those of a mode without the database process.
  pub record IsOpened (play : Script) (seats : AllSeats R) (crews : Crews R) (n : ℕ) (p : LivePipe R G) : Type 0 where
    pub together : AreAllTogether (lock_id (arc_value p.lock)) (all_sites seats)
    pub dbase : dbase_site p.dbase ≡ dbase_site seats.dbase
    pub all : all_of (crews_state crews) ≡ crew_but_dbase (cull_site seats.cull) (draw_site seats.draw) (probe_site seats.probe)
    pub posts : ArePosts crews p.posts
    pub app : p.app ≡ record seats.app { stage = p.app.stage }
    pub merges : n ≡ length (asked_dbase play.dbase) + 1
    pub none : play.app ≡ []
    pub frames : p.frames ≡ 0
    pub told : p.told ≡ 0
    pub fine : OnErr p.came ⊥
    pub whole : p.app.stage.state.fault ≡ None

  pub live_opens : (play : Script) (ahead : ℕ) (asked : Option Segment) (seats : AllSeats R) (crews : Crews R) (n : ℕ)
      (p : LivePipe R G) (bytes : Option (List ℕ)) → IsOpened play seats crews n p →
      AllKeep (setup_of play ahead) play.dbase asked (all_sites seats) bytes bytes →
      ((g : Setup) → IsGiven g seats.app.stage → IsGiven (record g { merges = n }) p.app.stage) →
      ((g : Setup) (seat : ℕ) (log : Log) (taken sent : List Packet) (stream : List ℕ) → IsGiven g seats.app.stage →
      AppKeeps g seat seats.app.stage.state log taken sent stream →
      AppKeeps (record g { merges = n }) seat p.app.stage.state log taken sent stream) →
      LiveKeeps play ahead asked bytes bytes p
  live_opens play ahead asked seats crews n p bytes is keeps given part =
      let s = all_sites seats in
      let w = p.app.stage in
      let g = setup_of play ahead in
      let was = keeps.four.app.given in
      let now = given_seats w s.four.dbase.work s in
      let at : now ≡ live_sites p s.four.cull s.four.draw s.probe =
      λ i.
      record {
        four = record {
          app = app_site (sym is.app i);
          cull = s.four.cull;
          draw = s.four.draw;
          dbase = sym is.dbase i;
        };
        probe = s.probe;
      } in
      record {
        live = record {
          crews = crews;
          cull = s.four.cull;
          draw = s.four.draw;
          probe = s.probe;
          sent = is.all;
          posts = is.posts;
          together = subst (AreAllTogether (lock_id (arc_value p.lock))) at
              (together_given w s.four.dbase.work (lock_id (arc_value p.lock)) s is.together);
          few = omega (arith, is.told);
        };
        keeps = subst (λ (x : AllSites). AllKeep (live_setup play ahead) play.dbase asked x bytes bytes) at
            (subst (λ (k : ℕ). AllKeep (record g { merges = k }) play.dbase asked now bytes bytes) is.merges
            (all_given g g.lines n play.dbase play.dbase asked s w s.four.dbase.work bytes bytes keeps
            (app_seat_given g (record g { merges = n }) s.four.app w bytes bytes (given g was)
            (λ seat log taken sent stream old. part g seat log taken sent stream was old) keeps.four.app)
            keeps.four.dbase));
        frames = is.frames ∙ sym (ap frames_in is.none);
        whole = whole_new p.came w.state.fault is.fine is.whole;
      }
