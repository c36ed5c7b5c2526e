-- The poll of APP keeps what the pipe keeps.
use Rattle.std.proofs.Common.{◌≡◌, ◌⊎◌, ℕ, zero, suc, ◌+◌, ◌<◌, ◌≤◌, ◌==◌, Bool, true, false, ◌&&◌, ◌||◌, List, [], ◌∷◌, ◌++◌, drop, length, is_some, slice_get, Option, Some, None, Result, Ok, Err, inl, inr, refl, sym, ap, ◌∙◌, subst, append_assoc, arith}
use Rattle.std.proofs.lemmas.Bool.{or_parts}
use Rattle.std.proofs.lemmas.List.{append-nil, append_cancel_left, length_push}
use Rattle.std.proofs.lemmas.Option.{same_Some}
use Rattle.std.specs.Option.{option_map, MatchOption}
use Rattle.std.specs.List.{AllByRecursion}
use Rattle.seat_lock.specs.Log.{of}
use Rattle.pf_model.specs.declared.lines.AppLine.{AppLine}
use Rattle.pf_model.specs.declared.lines.AppStep.{AppStep}
use Rattle.pf_model.specs.declared.lines.AppStep.TheVariants as app
use Rattle.pf_history.specs.declared.commands.Caller.{Caller}
use Rattle.pf_history.specs.declared.commands.Caller.TheVariants.{App, Dbase}
use Rattle.pf_history.specs.declared.commands.Entry.{Entry}
use Rattle.pf_history.specs.Objects.{opening_state}
use Rattle.pf_history.specs.Logs.{Log, state_of, IsLegal, is_caller}
use Rattle.pf_history.specs.Asks.{asked_dbase, is_at}
use Rattle.pf_history.proofs.Counting.{never_fall_law, counts_law}
use Rattle.play_format.specs.Plays.{Script}
use Rattle.pf_scene.specs.Scenes.{Shared, SceneState}
use Rattle.stage_parts.specs.declared.packets.Packet.{Packet}
use Rattle.stage_parts.specs.Packets.{LinkPart}
use Rattle.stage_parts.specs.Frames.{RetiresJust}
use Rattle.stage_parts.specs.Parts.{AppKeeps, DbaseKeeps}
use Rattle.stage_parts.proofs.Gathering.{gathering_law}
use Rattle.stage_parts.proofs.DbaseSteps.{dbase_law}
use Rattle.stage_parts.proofs.Numbers.{own_by_number}
use Rattle.stage_parts.specs.declared.answers.Did.{Did}
use Rattle.stage_parts.specs.declared.answers.Did.TheVariants as did
use Rattle.stage_parts.specs.declared.answers.StageError.{StageError}
use Rattle.stage_parts.specs.declared.answers.StageError.TheVariants as error
use Rattle.stage_parts.specs.Answers.{is_over}
use Rattle.frame_stages.specs.Flights.{SinkSide}
use Rattle.frame_stages.specs.Scripts.{next_step}
use Rattle.frame_stages.specs.Looks.{FoundMark}
use Rattle.frame_stages.specs.AppTurns.{Tells, IsMarked}
use Rattle.frame_stages.specs.AppWorks.{AppWork, is_done, merges_in}
use Rattle.frame_stages.specs.AppAnswers as stage
use Rattle.frame_stages.specs.AppAnswers.{Around, around, AppAdds, AppAnswers, IsKeptBy, Polled, IsLonger}
use Rattle.frame_stages.specs.DbaseWorks.{dbase_state}
use Rattle.frame_stages.proofs.Spares.{none_in_hand}
use Rattle.pipe_core.specs.declared.events.Event.TheVariants as event
use Rattle.pipe_plays.specs.Plays.{setup_of}
use Rattle.pipe_core.specs.Cores.{CoreFits, one_seat}
use Rattle.pipe_core.specs.Waits.{SyncMustWait, FrameMustWait, CloseMustWait, StepMustWait, MustWait, IsLineFull, IsOver, shared_of}
use Rattle.stage_parts.specs.Moves.{moved}
use Rattle.pipe_core.specs.Pipes.{PipeWork, core_of, PipeKeeps, Answers, polled_caller, AddsAtMostOne, IsWritten, AppLifted}
use Rattle.pipe_core.proofs.Sides.{never_both}
use Rattle.pipe_core.proofs.StillOpen.{still_open}
use Rattle.pipe_core.proofs.Lifting.{opened, not_over, found_mark}
use Rattle.pipe_core.proofs.BaseLifts.{grown_entries}
use Rattle.pipe_core.proofs.CameBack.{brings_home}

-- The log

-- nothing was added, or one entry of the application
abbrev pub AddsOne : Log → Log → Type 0
AddsOne before after = (after ≡ before) ⊎ ((entry : Entry) × (polled_caller event.App ≡ Some entry.caller) × (after ≡ before ++ (0, entry) ∷ []))

-- What the scene has become: its log has one more entry of the application at most, and the stop mark stays where it was
-- set.
pub record Grown (old new : SceneState) : Type 0 where
  pub more : Log
  pub is : new.shared.log ≡ old.shared.log ++ more
  pub adds : AddsOne old.shared.log new.shared.log
  pub dbase : AllByRecursion (λ e. is_at 0 Dbase e ≡ false) more
  pub zeros : AllByRecursion (λ e. e.0 ≡ 0) more
  pub stops : old.shared.stopped ≡ true → new.shared.stopped ≡ true
  pub ahead : new.shared.ahead ≡ old.shared.ahead
  pub channels : new.shared.channels ≡ old.shared.channels

pub still : (old new : SceneState) → new ≡ old → Grown old new
still old new same =
    record {
      more = [];
      is = ap (λ (x : SceneState). x.shared.log) same ∙ sym (append-nil old.shared.log);
      adds = inl (ap (λ (x : SceneState). x.shared.log) same);
      dbase = tt;
      zeros = tt;
      stops = λ set. ap (λ (x : SceneState). x.shared.stopped) same ∙ set;
      ahead = ap (λ (x : SceneState). x.shared.ahead) same;
      channels = ap (λ (x : SceneState). x.shared.channels) same;
    }

-- the scene that was left is told
pub told_left : (P : Shared → Shared → Type 0) (old new : SceneState) → Tells P (Some old) (Some new) → P old.shared new.shared
told_left P old new tells = subst (λ (x : SceneState). P old.shared x.shared) (sym (same_Some new tells.0 tells.1)) tells.2

pub marked_scene : (old new : SceneState) → IsMarked old.shared new.shared → Grown old new
marked_scene old new marks =
    record {
      more = [];
      is = marks.log ∙ sym (append-nil old.shared.log);
      adds = inl marks.log;
      dbase = tt;
      zeros = tt;
      stops = λ set. marks.stopped;
      ahead = marks.ahead;
      channels = marks.channels;
    }

entered_scene : (old new : SceneState) → IsLonger 0 old.shared new.shared → Grown old new
entered_scene old new longer =
    record {
      more = (0, longer.entry) ∷ [];
      is = longer.log;
      adds = inr (longer.entry, ap Some (sym longer.app), longer.log);
      dbase = (ap (λ (c : Caller). (0 == 0) && is_caller Dbase c) longer.app, tt);
      zeros = (refl, tt);
      stops = λ set. longer.stopped ∙ set;
      ahead = longer.ahead;
      channels = longer.channels;
    }

-- around the application's stage

abbrev pub before_poll : PipeWork → SinkSide → Around
before_poll p sink =
    around p.scene.shared.log (Some p.scene)
    (record {
      taken = p.c.line.taken;
      sent = p.a.line.sent;
      told_sent = Some p.c.line.sent;
      told_taken = Some p.a.line.taken;
      room = p.a.room;
      sink = sink;
    })

abbrev pub after_poll : PipeWork → SceneState → (sent taken : List Packet) → SinkSide → Around
after_poll p scene sent taken sink =
    around scene.shared.log (Some scene)
    (record {
      taken = taken;
      sent = sent;
      told_sent = Some p.c.line.sent;
      told_taken = Some p.a.line.taken;
      room = p.a.room;
      sink = sink;
    })

scene_grows : (p : PipeWork) (w : AppWork) (scene : SceneState) (sent taken : List Packet) (sink sink' : SinkSide) (result : Result Did StageError) →
    AppAnswers result 0 p.app w (before_poll p sink) (after_poll p scene sent taken sink') → Grown p.scene scene
scene_grows p w scene sent taken sink sink' (Ok did.Did) (inl sends) = still p.scene scene (same_Some scene p.scene sends.told)
scene_grows p w scene sent taken sink sink' (Ok did.Did) (inr (inl takes)) = still p.scene scene (same_Some scene p.scene takes.told)
scene_grows p w scene sent taken sink sink' (Ok did.Did) (inr (inr (inl passes))) = still p.scene scene (same_Some scene p.scene passes.told)
scene_grows p w scene sent taken sink sink' (Ok did.Did) (inr (inr (inr makes))) =
    entered_scene p.scene scene (told_left (IsLonger 0) p.scene scene makes.told)
scene_grows p w scene sent taken sink sink' (Ok did.NotYet) answer = still p.scene scene (same_Some scene p.scene answer.0.told)
scene_grows p w scene sent taken sink sink' (Ok did.Over) answer = still p.scene scene (same_Some scene p.scene answer.told)
scene_grows p w scene sent taken sink sink' (Err error.FrameFault) answer = marked_scene p.scene scene (told_left IsMarked p.scene scene answer.told)
scene_grows p w scene sent taken sink sink' (Err error.NoMemory) answer = marked_scene p.scene scene (told_left IsMarked p.scene scene answer.told)

-- What is added

abbrev first_or : Entry → Log → Entry
first_or other [] = other
first_or other (x ∷ xs) = x.1

-- one entry alone is the last of those that it ends
last_alone : (rest : Log) (entry e : Entry) → (0, entry) ∷ [] ≡ rest ++ (0, e) ∷ [] → entry ≡ e
last_alone [] entry e same = ap (first_or entry) same
last_alone (x ∷ xs) entry e same = let l : 1 ≡ suc (length (xs ++ (0, e) ∷ [])) = ap length same in absurd (omega (arith, l, length_push xs (0, e)))

-- the entry that was added retires just the frames that are written, where it is a Sync
just_retires : (written : ℕ) (seen seen' : Log) → AppAdds 0 written seen seen' → AddsOne seen seen' →
    AddsAtMostOne event.App written seen seen'
just_retires written seen seen' adds (inl same) = inl same
just_retires written seen seen' adds (inr (entry, caller, is)) = inr (entry, caller, by adds.adds, is)
  where
    rest : Log
    rest = adds.goes_on.0

    by : (seen' ≡ adds.found) ⊎ ((e : Entry) × (e.caller ≡ App) × RetiresJust written e.command × (seen' ≡ adds.found ++ (0, e) ∷ [])) →
        RetiresJust written entry.command
    by (inl same) =
        let alone : (0, entry) ∷ [] ≡ rest = append_cancel_left seen ((0, entry) ∷ []) rest (sym is ∙ same ∙ adds.goes_on.1) in
        let none : entry ∷ [] ≡ [] = ap (of 0) alone ∙ adds.goes_on.2 in
        absurd (cc)
    by (inr (e, app, retires, longer)) =
        let alone : (0, entry) ∷ [] ≡ rest ++ (0, e) ∷ [] =
        append_cancel_left seen ((0, entry) ∷ []) (rest ++ (0, e) ∷ [])
        (sym is ∙ longer ∙ ap (λ (l : Log). l ++ (0, e) ∷ []) adds.goes_on.1 ∙ append_assoc seen rest ((0, e) ∷ [])) in
        subst (λ (x : Entry). RetiresJust written x.command) (sym (last_alone rest entry e alone)) retires

-- What is kept

-- the pipe where the application and the scene are these, and this was sent and received
abbrev pub applied : PipeWork → AppWork → SceneState → (sent taken : List Packet) → PipeWork
applied p w scene sent taken =
    record p {
      app = w;
      scene = scene;
      a = record p.a { line = record p.a.line { sent = sent } };
      c = record p.c { line = record p.c.line { taken = taken } };
    }

pub record AppKept (play : Script) (ahead : ℕ) (p q : PipeWork) (bytes bytes' : Option (List ℕ)) : Type 0 where
  pub keeps : PipeKeeps play ahead q
  pub adds : AddsAtMostOne event.App q.app.state.written p.scene.shared.log q.scene.shared.log
  pub wrote : IsWritten bytes bytes' (core_of play p) (core_of play q)

pub app_kept : (play : Script) (ahead : ℕ) (p : PipeWork) (w : AppWork) (scene : SceneState) (sent taken : List Packet) (sink sink' : SinkSide) →
    PipeKeeps play ahead p → IsLegal play.channels scene.shared.log → LinkPart sent p.a.line.taken → LinkPart p.c.line.sent taken →
    IsKeptBy 0 p.app w (before_poll p sink) (after_poll p scene sent taken sink') → Grown p.scene scene →
    ((n : ℕ) → w.state.fault ≡ Some n → scene.shared.stopped ≡ true) →
    AppKept play ahead p (applied p w scene sent taken) sink.bytes sink'.bytes
app_kept play ahead p w scene sent taken sink sink' keeps legal link_a link_c kept grown marked =
    let g = setup_of play ahead in
    let old = opened play ahead (core_of play p) keeps.core in
    let log = p.scene.shared.log in
    let app_entries = grown_entries App log scene.shared.log grown.more grown.is old.app_entries grown.zeros in
    let own =
    own_by_number 0 (opening_state play.channels) scene.shared.log legal app_entries in
    let given = kept.given g keeps.stages.app in
    let on = kept.part g (core_of play p).pipe.stream keeps.stages.app own old.app in
    let stream = on.keeps.streams.bytes in
    let base = (dbase_law play.dbase play.channels 0 (dbase_state play.dbase p.dbase) log keeps.dbase.keeps).stays grown.more grown.dbase in
    let holds : DbaseKeeps play.dbase play.channels 0 (dbase_state play.dbase p.dbase) scene.shared.log =
    subst (λ (es : Log). DbaseKeeps play.dbase play.channels 0 (dbase_state play.dbase p.dbase) es) (sym grown.is) base in
    let later = (never_fall_law play.channels log grown.more).frames in
    let longer = ap (λ (es : Log). (state_of play.channels es).frames) grown.is in
    let counts = (counts_law play.channels log).merges in
    let counts' = (counts_law play.channels scene.shared.log).merges in
    let waited = kept.waited (omega (arith, keeps.waited, counts)) in
    record {
      keeps = record {
        core = record {
          pipe = (gathering_law g play.dbase one_seat (core_of play (applied p w scene sent taken)).pipe).fits
              (record {
                merges = old.merges;
                legal = legal;
                app_entries = app_entries;
                dbase_entries = grown_entries Dbase log scene.shared.log grown.more grown.is old.dbase_entries grown.zeros;
                link_a = link_a;
                link_b = old.link_b;
                link_c = link_c;
                app = subst (λ (bytes : List ℕ). AppKeeps g 0 w.state scene.shared.log taken sent bytes) stream on.keeps;
                cull = old.cull;
                draw = old.draw;
                base = holds;
              });
          app_lines = given.within;
          dbase_lines = keeps.core.dbase_lines;
          marked = marked;
        };
        stages = record {
          app = given;
          cull = keeps.stages.cull;
          draw_lens = keeps.stages.draw_lens;
          draw_back = keeps.stages.draw_back;
          in_flight = grown.ahead ∙ keeps.stages.in_flight;
          channels = grown.channels ∙ keeps.stages.channels;
        };
        room = record { a = keeps.room.a; b = keeps.room.b; c = keeps.room.c };
        waited = omega (arith, waited, counts');
        cull = keeps.cull;
        dbase = record {
          keeps = holds;
          awaited = omega (arith, keeps.dbase.awaited, later, longer);
          stands = keeps.dbase.stands;
          stands_in = keeps.dbase.stands_in;
        };
        failed = λ fails. grown.stops (keeps.failed fails);
        home = kept.home g (core_of play p).pipe.stream keeps.stages.app own old.app keeps.home;
        copies = kept.counted keeps.copies (λ whole. brings_home play ahead p keeps whole);
      };
      adds = just_retires w.state.written log scene.shared.log kept.adds grown.adds;
      wrote = record { more = on.more; stream = sym stream; wrote = on.wrote };
    }

-- Over

app_over : (play : Script) (p : PipeWork) (result : Result Did StageError) → (is_done p.app.state ≡ true → result ≡ Ok did.Over) →
    (is_done p.app.state ≡ false → is_over result ≡ p.scene.shared.stopped) → IsOver play event.App (core_of play p) → is_over result ≡ true
app_over play p result done looked over = by (is_done p.app.state) refl over
  where
    by : (b : Bool) → is_done p.app.state ≡ b → IsOver play event.App (core_of play p) → is_over result ≡ true
    by true is over = ap is_over (done is)
    by false is (inl ended) = absurd (never_both p.app.state.ended ended (or_parts p.app.state.ended (is_some p.app.state.fault) is).0)
    by false is (inr set) = looked is ∙ set

app_is_over : (play : Script) (ahead : ℕ) (p : PipeWork) (result : Result Did StageError) → PipeKeeps play ahead p →
    (is_done p.app.state ≡ false → is_over result ≡ p.scene.shared.stopped) → is_over result ≡ true → IsOver play event.App (core_of play p)
app_is_over play ahead p result keeps looked over = by p.app.state.ended refl p.app.state.fault refl
  where
    by : (b : Bool) → p.app.state.ended ≡ b → (f : Option ℕ) → p.app.state.fault ≡ f → IsOver play event.App (core_of play p)
    by true is f fault = inl is
    by false is (Some n) fault = inr (keeps.core.marked n fault)
    by false is None fault =
        let alive : is_done p.app.state ≡ false = ap (λ b. b || is_some p.app.state.fault) is ∙ ap is_some fault in
        inr (sym (looked alive) ∙ over)

-- Waiting

next_is : (lines : List AppLine) (n : ℕ) → next_step (drop n lines) ≡ option_map (λ l. l.step) (slice_get lines n)
next_is [] zero = refl
next_is [] (suc n) = refl
next_is (l ∷ lines) zero = refl
next_is (l ∷ lines) (suc n) = next_is lines n

sync_waits : (play : Script) (ahead : ℕ) (p : PipeWork) (sink : SinkSide) (seen' : Log) → 1 ≤ ahead → PipeKeeps play ahead p →
    stage.SyncWaits p.app (Some p.scene) (before_poll p sink).ends seen' → SyncMustWait (shared_of play ahead (core_of play p)) (core_of play p).pipe
sync_waits play ahead p sink seen' some keeps (inl (dry, behind)) =
    let same = keeps.stages.app.ahead in
    inl (dry (omega (arith, behind, same, some)), omega (arith, behind, same))
sync_waits play ahead p sink seen' some keeps (inr bars) =
    inr
    (λ may.
    bars
    (record {
      back = subst (λ (n : ℕ). (state_of n p.scene.shared.log).retired ≤ p.app.state.written) (sym keeps.stages.channels) may.back;
      begun = subst (λ (n : ℕ). p.app.state.written ≤ (state_of n p.scene.shared.log).frames) (sym keeps.stages.channels) may.begun;
      light = may.light;
    }))

frame_waits : (play : Script) (ahead : ℕ) (p : PipeWork) (sink : SinkSide) (seen' : Log) → 1 ≤ ahead → PipeKeeps play ahead p → (synced : Bool) →
    stage.FrameWaits synced p.app (Some p.scene) (before_poll p sink).ends seen' →
    FrameMustWait synced (shared_of play ahead (core_of play p)) (core_of play p).pipe
frame_waits play ahead p sink seen' some keeps false waits = sync_waits play ahead p sink seen' some keeps waits
frame_waits play ahead p sink seen' some keeps true (inr none) =
    λ may.
    let all = none_in_hand (setup_of play ahead) play.dbase one_seat (core_of play p).pipe keeps.core.pipe none in
    let free = may.free in
    omega (arith, all, free)
frame_waits play ahead p sink seen' some keeps true (inl waits) =
    λ may.
    let stages = keeps.stages in
    let same = stages.app.ahead in
    let free : (state_of p.scene.shared.channels p.scene.shared.log).frames < (state_of p.scene.shared.channels p.scene.shared.log).retired + ahead =
    subst (λ (n : ℕ). (state_of n p.scene.shared.log).frames < (state_of n p.scene.shared.log).retired + ahead) (sym stages.channels) may.free in
    waits
    (record {
      agreed = same ∙ sym stages.in_flight;
      free = omega (arith, free, same);
      many = stages.app.channels ∙ sym stages.channels;
      light = may.light;
    })

step_waits : (play : Script) (ahead : ℕ) (p : PipeWork) (sink : SinkSide) (seen' : Log) → 1 ≤ ahead → PipeKeeps play ahead p →
    merges_in seen' ≡ (state_of play.channels p.scene.shared.log).merges → (step : Option AppStep) →
    stage.StepWaits step p.app (Some p.scene) (before_poll p sink).ends seen' →
    StepMustWait (length (asked_dbase play.dbase)) (shared_of play ahead (core_of play p)) (core_of play p).pipe step
step_waits play ahead p sink seen' some keeps counts (Some (app.Edit e)) waits = λ may. waits (record { fit = may.fit; light = may.light })
step_waits play ahead p sink seen' some keeps counts (Some (app.View channel v)) waits =
    λ may. waits (record { there = subst (λ (n : ℕ). channel < n) (sym keeps.stages.channels) may.there; light = may.light })
step_waits play ahead p sink seen' some keeps counts (Some app.Sync) waits = sync_waits play ahead p sink seen' some keeps waits
step_waits play ahead p sink seen' some keeps counts (Some app.Frame) waits = frame_waits play ahead p sink seen' some keeps p.app.state.synced waits
step_waits play ahead p sink seen' some keeps counts (Some (app.Wait n)) waits = omega (arith, waits, counts)
step_waits play ahead p sink seen' some keeps counts None (inl (dry, behind)) = inr (inl (dry, behind))
step_waits play ahead p sink seen' some keeps counts None (inr (inl few)) =
    let merges = keeps.stages.app.merges in
    inl (omega (arith, few, counts, merges))
step_waits play ahead p sink seen' some keeps counts None (inr (inr waits)) = by (sync_waits play ahead p sink seen' some keeps waits)
  where
    by : SyncMustWait (shared_of play ahead (core_of play p)) (core_of play p).pipe →
        CloseMustWait (length (asked_dbase play.dbase)) (shared_of play ahead (core_of play p)) (core_of play p).pipe
    by (inl (dry, behind)) = inr (inl (dry, omega (arith, behind, some)))
    by (inr barred) = inr (inr barred)

app_waits : (play : Script) (ahead : ℕ) (p : PipeWork) (sink : SinkSide) (seen' : Log) → 1 ≤ ahead → PipeKeeps play ahead p →
    seen' ≡ p.scene.shared.log → stage.AppWaits p.app (Some p.scene) (before_poll p sink).ends seen' → MustWait play ahead event.App (core_of play p)
app_waits play ahead p sink seen' some keeps seen waits = by p.app.state.held waits
  where
    counts : merges_in seen' ≡ (state_of play.channels p.scene.shared.log).merges
    counts = ap merges_in seen ∙ sym (counts_law play.channels p.scene.shared.log).merges

    Step : Type 0
    Step = StepMustWait (length (asked_dbase play.dbase)) (shared_of play ahead (core_of play p)) (core_of play p).pipe
        (option_map (λ (l : AppLine). l.step) (slice_get play.app p.app.state.at))

    step : (merges_in seen' < p.app.state.need) ⊎ stage.StepWaits (next_step p.app.rest) p.app (Some p.scene) (before_poll p sink).ends seen' → Step
    step (inl few) = let waited = keeps.waited in absurd (omega (arith, few, counts, waited))
    step (inr waits) =
        let next = ap next_step keeps.stages.app.rest ∙ next_is play.app p.app.state.at in
        step_waits play ahead p sink seen' some keeps counts (option_map (λ (l : AppLine). l.step) (slice_get play.app p.app.state.at))
        (subst (λ (o : Option AppStep). stage.StepWaits o p.app (Some p.scene) (before_poll p sink).ends seen') next waits)

    by : (held : Option Packet) →
        MatchOption held ((merges_in seen' < p.app.state.need) ⊎ stage.StepWaits (next_step p.app.rest) p.app (Some p.scene) (before_poll p sink).ends seen')
        (λ _. length p.a.line.taken + p.a.room ≤ length p.a.line.sent) → MatchOption held Step (λ _. IsLineFull ahead p.a.line)
    by None waits = step waits
    by (Some packet) waits = let room = keeps.room.a in omega (arith, waits, room)

-- What it did

app_moves : (play : Script) (p : PipeWork) (w : AppWork) (scene : SceneState) (sent taken : List Packet) (sink sink' : SinkSide) →
    AppAnswers (Ok did.Did) 0 p.app w (before_poll p sink) (after_poll p scene sent taken sink') → Grown p.scene scene →
    moved (core_of play p).pipe < moved (core_of play (applied p w scene sent taken)).pipe
app_moves play p w scene sent taken sink sink' (inl sends) grown =
    let log = ap (λ (x : SceneState). length x.shared.log) (same_Some scene p.scene sends.told) in
    let back = ap (λ (x : stage.Ends). length x.taken) sends.ends in
    omega (arith, log, back, sends.at, sends.many)
app_moves play p w scene sent taken sink sink' (inr (inl takes)) grown =
    let log = ap (λ (x : SceneState). length x.shared.log) (same_Some scene p.scene takes.told) in
    let gone = ap (λ (x : stage.Ends). length x.sent) takes.ends in
    omega (arith, log, gone, takes.at, takes.many)
app_moves play p w scene sent taken sink sink' (inr (inr (inl passes))) grown =
    let log = ap (λ (x : SceneState). length x.shared.log) (same_Some scene p.scene passes.told) in
    let gone = ap (λ (x : stage.Ends). length x.sent) passes.ends in
    let back = ap (λ (x : stage.Ends). length x.taken) passes.ends in
    omega (arith, log, gone, back, passes.at)
app_moves play p w scene sent taken sink sink' (inr (inr (inr makes))) grown =
    let longer = told_left (IsLonger 0) p.scene scene makes.told in
    let log = ap (λ (es : Log). length es) longer.log in
    let pushed = length_push p.scene.shared.log (0, longer.entry) in
    let gone = ap (λ (x : stage.Ends). length x.sent) makes.ends in
    let back = ap (λ (x : stage.Ends). length x.taken) makes.ends in
    omega (arith, log, pushed, gone, back, makes.at)

app_mark : (play : Script) (p : PipeWork) (w : AppWork) (scene : SceneState) (sent taken : List Packet) (sink sink' : SinkSide) →
    AppAnswers (Ok did.Did) 0 p.app w (before_poll p sink) (after_poll p scene sent taken sink') → scene.shared.stopped ≡ p.scene.shared.stopped
app_mark play p w scene sent taken sink sink' (inl sends) = ap (λ (x : SceneState). x.shared.stopped) (same_Some scene p.scene sends.told)
app_mark play p w scene sent taken sink sink' (inr (inl takes)) = ap (λ (x : SceneState). x.shared.stopped) (same_Some scene p.scene takes.told)
app_mark play p w scene sent taken sink sink' (inr (inr (inl passes))) = ap (λ (x : SceneState). x.shared.stopped) (same_Some scene p.scene passes.told)
app_mark play p w scene sent taken sink sink' (inr (inr (inr makes))) = (told_left (IsLonger 0) p.scene scene makes.told).stopped

-- nothing changed
app_rests : (play : Script) (p : PipeWork) (w : AppWork) (scene : SceneState) (sent taken : List Packet) (sink sink' : SinkSide) →
    stage.IsIdle 0 p.app w (before_poll p sink) (after_poll p scene sent taken sink') → core_of play (applied p w scene sent taken) ≡ core_of play p
app_rests play p w scene sent taken sink sink' idle =
    let still = same_Some scene p.scene idle.told in
    let gone = ap (λ (x : stage.Ends). x.sent) idle.ends in
    let back = ap (λ (x : stage.Ends). x.taken) idle.ends in
    λ i. core_of play (applied p (idle.work i) (still i) (gone i) (back i))

-- Closing

no_rest : (lines : List AppLine) → next_step lines ≡ None → lines ≡ []
no_rest [] none = refl
no_rest (l ∷ lines) none = absurd (let clash : Some l.step ≡ None = none in cc)

-- it does not close unless its close is due
app_stays : (play : Script) (ahead : ℕ) (p : PipeWork) (w : AppWork) (scene : SceneState) (sent taken : List Packet) (sink sink' : SinkSide) (result : Result Did StageError) →
    CoreFits play ahead (core_of play p) → CoreFits play ahead (core_of play (applied p w scene sent taken)) →
    AppAnswers result 0 p.app w (before_poll p sink) (after_poll p scene sent taken sink') →
    (is_over result ≡ false → IsOver play event.App (core_of play p) → ⊥) → p.app.state.closed ≡ false →
    (p.app.rest ≡ [] → p.app.state.held ≡ None → IsOver play event.App (core_of play p)) → w.state.closed ≡ false
app_stays play ahead p w scene sent taken sink sink' (Ok did.Did) fits later (inl sends) alive going due =
    still_open play ahead (core_of play p) (core_of play (applied p w scene sent taken)) fits later
    (ap (λ (x : SceneState). x.shared.log) (same_Some scene p.scene sends.told)) going
app_stays play ahead p w scene sent taken sink sink' (Ok did.Did) fits later (inr (inl takes)) alive going due =
    still_open play ahead (core_of play p) (core_of play (applied p w scene sent taken)) fits later
    (ap (λ (x : SceneState). x.shared.log) (same_Some scene p.scene takes.told)) going
app_stays play ahead p w scene sent taken sink sink' (Ok did.Did) fits later (inr (inr (inl passes))) alive going due =
    still_open play ahead (core_of play p) (core_of play (applied p w scene sent taken)) fits later
    (ap (λ (x : SceneState). x.shared.log) (same_Some scene p.scene passes.told)) going
app_stays play ahead p w scene sent taken sink sink' (Ok did.Did) fits later (inr (inr (inr makes))) alive going due =
    makes.stays_open (λ none. alive refl (due (no_rest p.app.rest none) makes.bare)) ∙ going
app_stays play ahead p w scene sent taken sink sink' (Ok did.NotYet) fits later answer alive going due =
    ap (λ (x : AppWork). x.state.closed) answer.0.work ∙ going
app_stays play ahead p w scene sent taken sink sink' (Ok did.Over) fits later answer alive going due =
    ap (λ (x : AppWork). x.state.closed) answer.work ∙ going
app_stays play ahead p w scene sent taken sink sink' (Err error.FrameFault) fits later answer alive going due =
    still_open play ahead (core_of play p) (core_of play (applied p w scene sent taken)) fits later (told_left IsMarked p.scene scene answer.told).log going
app_stays play ahead p w scene sent taken sink sink' (Err error.NoMemory) fits later answer alive going due =
    still_open play ahead (core_of play p) (core_of play (applied p w scene sent taken)) fits later (told_left IsMarked p.scene scene answer.told).log going

pub app_lifts : (play : Script) (ahead : ℕ) (p : PipeWork) (w : AppWork) (scene : SceneState) (sent taken : List Packet) (sink sink' : SinkSide) (result : Result Did StageError) →
    1 ≤ ahead → PipeKeeps play ahead p → IsLegal scene.shared.channels scene.shared.log → LinkPart sent p.a.line.taken → LinkPart p.c.line.sent taken →
    Polled 0 result p.app w (before_poll p sink) (after_poll p scene sent taken sink') →
    (is_done p.app.state ≡ true → result ≡ Ok did.Over) →
    (is_done p.app.state ≡ false → FoundMark 0 p.scene.shared.log (Some p.scene) (is_over result)) →
    AppLifted play ahead result p (applied p w scene sent taken) sink.bytes sink'.bytes
app_lifts play ahead p w scene sent taken sink sink' result some keeps legal link_a link_c polled done looked =
    by result polled (app_over play p result done found) (app_is_over play ahead p result keeps found)
  where
    found : is_done p.app.state ≡ false → is_over result ≡ p.scene.shared.stopped
    found alive = found_mark p.scene.shared.log p.scene (is_over result) (looked alive)

    kept : (answer : Result Did StageError) → Polled 0 answer p.app w (before_poll p sink) (after_poll p scene sent taken sink') →
        (grown : Grown p.scene scene) → ((n : ℕ) → w.state.fault ≡ Some n → scene.shared.stopped ≡ true) →
        AppKept play ahead p (applied p w scene sent taken) sink.bytes sink'.bytes
    kept answer polled grown marked =
        app_kept play ahead p w scene sent taken sink sink' keeps
        (subst (λ (n : ℕ). IsLegal n scene.shared.log) (grown.channels ∙ keeps.stages.channels) legal) link_a link_c
        (record {
          given = polled.given;
          part = polled.part;
          home = polled.home;
          counted = polled.counted;
          passes = polled.passes;
          told = polled.told;
          waited = polled.waited;
          adds = polled.adds;
        })
        grown marked

    grows : (answer : Result Did StageError) → Polled 0 answer p.app w (before_poll p sink) (after_poll p scene sent taken sink') → Grown p.scene scene
    grows answer polled = scene_grows p w scene sent taken sink sink' answer polled.answer

    as_before : Grown p.scene scene → w.state.fault ≡ p.app.state.fault → (n : ℕ) → w.state.fault ≡ Some n → scene.shared.stopped ≡ true
    as_before grown same n fault = grown.stops (keeps.core.marked n (sym same ∙ fault))

    lifted : (answer : Result Did StageError) → Polled 0 answer p.app w (before_poll p sink) (after_poll p scene sent taken sink') →
        (is_over answer ≡ false → IsOver play event.App (core_of play p) → ⊥) →
        AppKept play ahead p (applied p w scene sent taken) sink.bytes sink'.bytes →
        Answers play ahead event.App answer (core_of play p) (core_of play (applied p w scene sent taken)) →
        AppLifted play ahead answer p (applied p w scene sent taken) sink.bytes sink'.bytes
    lifted answer polled alive kept says =
        record {
          lifted = record { keeps = kept.keeps; adds = kept.adds; told = polled.told; answer = says };
          wrote = kept.wrote;
          going = app_stays play ahead p w scene sent taken sink sink' answer keeps.core kept.keeps.core polled.answer alive;
        }

    by : (result : Result Did StageError) → Polled 0 result p.app w (before_poll p sink) (after_poll p scene sent taken sink') →
        (IsOver play event.App (core_of play p) → is_over result ≡ true) → (is_over result ≡ true → IsOver play event.App (core_of play p)) →
        AppLifted play ahead result p (applied p w scene sent taken) sink.bytes sink'.bytes
    by (Ok did.Did) polled over is =
        let grown = grows (Ok did.Did) polled in
        lifted (Ok did.Did) polled (not_over (Ok did.Did) (IsOver play event.App (core_of play p)) over) (kept (Ok did.Did) polled grown (as_before grown (polled.whole refl)))
        (record {
          alive = not_over (Ok did.Did) (IsOver play event.App (core_of play p)) over refl;
          moves = app_moves play p w scene sent taken sink sink' polled.answer grown;
          mark = app_mark play p w scene sent taken sink sink' polled.answer;
        })
    by (Ok did.NotYet) polled over is =
        let grown = grows (Ok did.NotYet) polled in
        let log = ap (λ (x : SceneState). x.shared.log) (same_Some scene p.scene polled.answer.0.told) in
        lifted (Ok did.NotYet) polled (not_over (Ok did.NotYet) (IsOver play event.App (core_of play p)) over) (kept (Ok did.NotYet) polled grown (as_before grown (polled.whole refl))) (
          app_rests play p w scene sent taken sink sink' polled.answer.0,
          not_over (Ok did.NotYet) (IsOver play event.App (core_of play p)) over refl,
          app_waits play ahead p sink scene.shared.log some keeps log polled.answer.1,
        )
    by (Ok did.Over) polled over is =
        let grown = grows (Ok did.Over) polled in
        lifted (Ok did.Over) polled (not_over (Ok did.Over) (IsOver play event.App (core_of play p)) over) (kept (Ok did.Over) polled grown (as_before grown (polled.whole refl)))
        (app_rests play p w scene sent taken sink sink' polled.answer, is refl)
    by (Err error.FrameFault) polled over is =
        let grown = grows (Err error.FrameFault) polled in
        let marks = told_left IsMarked p.scene scene polled.answer.told in
        lifted (Err error.FrameFault) polled (not_over (Err error.FrameFault) (IsOver play event.App (core_of play p)) over) (kept (Err error.FrameFault) polled grown (λ n fault. marks.stopped))
        (not_over (Err error.FrameFault) (IsOver play event.App (core_of play p)) over refl, tt, marks.log, marks.stopped)
    by (Err error.NoMemory) polled over is =
        let grown = grows (Err error.NoMemory) polled in
        let marks = told_left IsMarked p.scene scene polled.answer.told in
        lifted (Err error.NoMemory) polled (not_over (Err error.NoMemory) (IsOver play event.App (core_of play p)) over) (kept (Err error.NoMemory) polled grown (λ n fault. marks.stopped))
        (not_over (Err error.NoMemory) (IsOver play event.App (core_of play p)) over refl, tt, marks.log, marks.stopped)
