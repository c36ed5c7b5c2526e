-- The poll of DBASE keeps what the pipe keeps.
use Rattle.std.proofs.Common.{◌≡◌, ℕ, zero, suc, ◌+◌, ◌≤◌, Bool, true, false, List, [], ◌∷◌, ◌++◌, drop, length, slice_get, Option, Some, Result, Ok, Err, inl, inr, refl, sym, ap, ◌∙◌, subst, arith}
use Rattle.std.proofs.lemmas.List.{append-nil, drop_all, length-drop, length_push}
use Rattle.std.proofs.lemmas.Option.{same_Some, slice_get_within}
use Rattle.std.specs.Option.{option_map}
use Rattle.std.specs.List.{AllByRecursion}
use Rattle.pf_model.specs.declared.lines.BaseLine.{BaseLine}
use Rattle.pf_model.specs.declared.lines.BaseStep.{BaseStep}
use Rattle.pf_model.specs.declared.lines.BaseStep.TheVariants as base
use Rattle.pf_history.specs.declared.commands.Caller.{Caller}
use Rattle.pf_history.specs.declared.commands.Caller.TheVariants.{App, Dbase}
use Rattle.pf_history.specs.declared.commands.Command.TheVariants as command
use Rattle.pf_history.specs.declared.commands.Entry.{Entry}
use Rattle.pf_history.specs.declared.commands.Merge.{Merge}
use Rattle.pf_history.specs.Logs.{Log, state_of, IsLegal, is_by}
use Rattle.pf_history.specs.Asks.{Turn, is_at, merge_of}
use Rattle.pf_history.specs.Fits.{turns_at}
use Rattle.pf_history.specs.Laws.{own_entry}
use Rattle.pf_history.proofs.Counting.{never_fall_law}
use Rattle.pf_history.proofs.Lists.{all_append}
use Rattle.play_format.specs.Plays.{Script}
use Rattle.pf_scene.specs.Scenes.{Shared, SceneState, KeepsCopies, entered, weight_of}
use Rattle.pf_scene.specs.Acts.{seated}
use Rattle.stage_parts.specs.declared.packets.Packet.{Packet}
use Rattle.stage_parts.specs.Loads.{Each}
use Rattle.stage_parts.specs.Packets.{loads_in, updates_in}
use Rattle.stage_parts.specs.Frames.{last_sync}
use Rattle.stage_parts.specs.Parts.{AppKeeps}
use Rattle.stage_parts.proofs.Gathering.{gathering_law}
use Rattle.stage_parts.proofs.AppSteps.{app_law}
use Rattle.stage_parts.proofs.SeatSteps.{seat_frames_law}
use Rattle.stage_parts.proofs.Places.{each_all}
use Rattle.stage_parts.specs.declared.answers.Did.{Did}
use Rattle.stage_parts.specs.declared.answers.Did.TheVariants as did
use Rattle.stage_parts.specs.declared.answers.StageError.{StageError}
use Rattle.stage_parts.specs.declared.answers.StageError.TheVariants as error
use Rattle.frame_stages.specs.declared.in_hand.InHand.{InHand}
use Rattle.frame_stages.specs.declared.in_hand.InHand.TheVariants as hand
use Rattle.stage_parts.specs.Answers.{is_over}
use Rattle.frame_stages.specs.AppWorks.{AppWork}
use Rattle.frame_stages.specs.Copies.{HasHome}
use Rattle.frame_stages.specs.DbaseWorks.{DbaseWork, StandsIn, DbaseHolds, HoldsBuffer, is_ended, buffer_at}
use Rattle.frame_stages.specs.DbaseAnswers.{Known, HasToWaitBefore, HasToWait, AddsNone, EntersMerge, DoesAt, Passes, IsDbaseAnswer}
use Rattle.pipe_core.specs.declared.events.Event.TheVariants as event
use Rattle.pipe_plays.specs.Plays.{setup_of}
use Rattle.pipe_core.specs.Cores.{CoreFits, one_seat}
use Rattle.pipe_core.specs.Waits.{BaseStepMustWait, MustWait, IsOver, shared_of}
use Rattle.pipe_core.specs.Pipes.{PipeWork, core_of, PipeKeeps, Answers, AddsAtMostOne, Lifted}
use Rattle.pipe_core.proofs.Lifting.{opened, not_over}

-- Lists

get_drop : {X : Type 0} (xs : List X) (i : ℕ) (x : X) (ys : List X) → drop i xs ≡ x ∷ ys → slice_get xs i ≡ Some x
get_drop [] zero x ys e = absurd (cc)
get_drop [] (suc i) x ys e = absurd (cc)
get_drop (z ∷ xs) zero x ys e = let head : z ≡ x = cc in ap Some head
get_drop (z ∷ xs) (suc i) x ys e = get_drop xs i x ys e

pub all_each : {X : Type 0} (P : X → Type 0) (xs : List X) → AllByRecursion P xs → Each P xs
all_each P [] all i x at = absurd (cc)
all_each P (y ∷ xs) all zero x at = subst P (same_Some y x at) all.0
all_each P (y ∷ xs) all (suc i) x at = all_each P xs all.1 i x at

-- A log grows by entries of the only seat, none of them the application's.
pub record GrowsBeside (before after : Log) : Type 0 where
  pub more : Log
  pub is : after ≡ before ++ more
  pub app : AllByRecursion (λ e. is_at 0 App e ≡ false) more
  pub zeros : AllByRecursion (λ e. e.0 ≡ 0) more

pub grown_entries : (caller : Caller) (before after more : Log) → after ≡ before ++ more → Each (λ e. is_by caller e ≡ true → e.0 ≡ 0) before →
    AllByRecursion (λ e. e.0 ≡ 0) more → Each (λ e. is_by caller e ≡ true → e.0 ≡ 0) after
grown_entries caller before after more is each zeros =
    let P : ℕ × Entry → Type 0 = λ e. is_by caller e ≡ true → e.0 ≡ 0 in
    subst (Each P) (sym is) (all_each P (before ++ more) (all_append P before more (each_all P before each) (by more zeros)))
  where
    by : (es : Log) → AllByRecursion (λ e. e.0 ≡ 0) es → AllByRecursion (λ e. is_by caller e ≡ true → e.0 ≡ 0) es
    by [] h = tt
    by (e ∷ es) h = (λ mine. h.0, by es h.1)

-- the pipe where the database process and the scene are these
abbrev pub based : PipeWork → DbaseWork → SceneState → PipeWork
based p d scene = record p { dbase = d; scene = scene }

base_core : (play : Script) (ahead : ℕ) (p : PipeWork) (d : DbaseWork) (scene : SceneState) → CoreFits play ahead (core_of play p) →
    IsLegal play.channels scene.shared.log → GrowsBeside p.scene.shared.log scene.shared.log →
    DbaseHolds play.dbase play.channels 0 d scene.shared.log → d.at ≤ length play.dbase →
    (p.scene.shared.stopped ≡ true → scene.shared.stopped ≡ true) → CoreFits play ahead (core_of play (based p d scene))
base_core play ahead p d scene fits legal grows holds within mark =
    let old = opened play ahead (core_of play p) fits in
    let s = (core_of play p).pipe in
    let app = (app_law (setup_of play ahead) 0 s.app s.log s.c.taken s.a.sent s.stream old.app).stays grows.more grows.app in
    record {
      pipe = (gathering_law (setup_of play ahead) play.dbase one_seat (core_of play (based p d scene)).pipe).fits
          (record {
            merges = old.merges;
            legal = legal;
            app_entries = grown_entries App s.log scene.shared.log grows.more grows.is old.app_entries grows.zeros;
            dbase_entries = grown_entries Dbase s.log scene.shared.log grows.more grows.is old.dbase_entries grows.zeros;
            link_a = old.link_a;
            link_b = old.link_b;
            link_c = old.link_c;
            app = subst (λ (log : Log). AppKeeps (setup_of play ahead) 0 s.app log s.c.taken s.a.sent s.stream) (sym grows.is) app;
            cull = old.cull;
            draw = old.draw;
            base = holds.keeps;
          });
      app_lines = fits.app_lines;
      dbase_lines = within;
      marked = λ n fault. mark (fits.marked n fault);
    }

-- other callers' entries leave the lists that APP is to bring home
home_beside : (play : Script) (ahead : ℕ) (w : AppWork) (before after : Log) (taken : List Packet) → GrowsBeside before after →
    HasHome (setup_of play ahead) 0 w before taken → HasHome (setup_of play ahead) 0 w after taken
home_beside play ahead w before after taken grows home =
    let turns : turns_at play.channels 0 App after ≡ turns_at play.channels 0 App before =
    ap (turns_at play.channels 0 App) grows.is ∙ (seat_frames_law play.channels 0 before).turns grows.more grows.app in
    record {
      lists = home.lists ∙ ap (λ (ts : List Turn). updates_in (loads_in (drop (last_sync ts) taken))) (sym turns);
      few = subst (λ (ts : List Turn). w.state.frames ≤ last_sync ts + ahead) (sym turns) home.few;
    }

base_keeps : (play : Script) (ahead : ℕ) (p : PipeWork) (d : DbaseWork) (scene : SceneState) → PipeKeeps play ahead p →
    IsLegal play.channels scene.shared.log → GrowsBeside p.scene.shared.log scene.shared.log →
    DbaseHolds play.dbase play.channels 0 d scene.shared.log → d.at ≤ length play.dbase →
    (p.scene.shared.stopped ≡ true → scene.shared.stopped ≡ true) → scene.shared.ahead ≡ p.scene.shared.ahead →
    scene.shared.channels ≡ p.scene.shared.channels → (d.failed ≡ true → scene.shared.stopped ≡ true) →
    KeepsCopies scene → PipeKeeps play ahead (based p d scene)
base_keeps play ahead p d scene keeps legal grows holds within mark same_ahead same_channels failed copies =
    let later = (never_fall_law play.channels p.scene.shared.log grows.more).merges in
    let longer = ap (λ (log : Log). (state_of play.channels log).merges) grows.is in
    record {
      core = base_core play ahead p d scene keeps.core legal grows holds within mark;
      stages = record {
        app = keeps.stages.app;
        cull = keeps.stages.cull;
        draw_lens = keeps.stages.draw_lens;
        draw_back = keeps.stages.draw_back;
        in_flight = same_ahead ∙ keeps.stages.in_flight;
        channels = same_channels ∙ keeps.stages.channels;
      };
      room = record { a = keeps.room.a; b = keeps.room.b; c = keeps.room.c };
      waited = omega (arith, keeps.waited, later, longer);
      cull = keeps.cull;
      dbase = holds;
      failed = failed;
      home = home_beside play ahead p.app p.scene.shared.log scene.shared.log p.c.line.taken grows keeps.home;
      copies = copies;
    }

-- Over

nothing_left : (rest : List BaseLine) → is_ended rest ≡ true → rest ≡ []
nothing_left [] is = refl
nothing_left (l ∷ ls) is = absurd (cc)

base_over : (play : Script) (ahead : ℕ) (p : PipeWork) (result : Result Did StageError) → PipeKeeps play ahead p →
    (is_ended p.dbase.rest ≡ true → result ≡ Ok did.Over) → (is_ended p.dbase.rest ≡ false → is_over result ≡ p.scene.shared.stopped) →
    IsOver play event.Dbase (core_of play p) → is_over result ≡ true
base_over play ahead p result keeps ended looked over = elim over [ inl past ↦ by_failed past p.dbase.failed refl | inr set ↦ marked set (is_ended p.dbase.rest) refl ]
  where
    marked : p.scene.shared.stopped ≡ true → (b : Bool) → is_ended p.dbase.rest ≡ b → is_over result ≡ true
    marked set true is = ap is_over (ended is)
    marked set false is = looked is ∙ set

    by_failed : length play.dbase ≤ p.dbase.at → (b : Bool) → p.dbase.failed ≡ b → is_over result ≡ true
    by_failed past true is = marked (keeps.failed is) (is_ended p.dbase.rest) refl
    by_failed past false is =
        let none : p.dbase.rest ≡ [] = sym (keeps.dbase.stands is).rest ∙ drop_all p.dbase.at play.dbase past in
        ap is_over (ended (ap is_ended none))

base_is_over : (play : Script) (ahead : ℕ) (p : PipeWork) (result : Result Did StageError) → PipeKeeps play ahead p →
    (is_ended p.dbase.rest ≡ false → is_over result ≡ p.scene.shared.stopped) →
    is_over result ≡ true → IsOver play event.Dbase (core_of play p)
base_is_over play ahead p result keeps looked over = by (is_ended p.dbase.rest) refl p.dbase.failed refl
  where
    by : (b : Bool) → is_ended p.dbase.rest ≡ b → (c : Bool) → p.dbase.failed ≡ c → IsOver play event.Dbase (core_of play p)
    by false is c fails = inr (sym (looked is) ∙ over)
    by true is true fails = inr (keeps.failed fails)
    by true is false fails =
        let none = (keeps.dbase.stands fails).rest ∙ nothing_left p.dbase.rest is in
        let long = ap length none in
        let behind = length-drop p.dbase.at play.dbase in
        inl (omega (arith, long, behind))

-- Waiting

base_waits : (play : Script) (ahead : ℕ) (p : PipeWork) → PipeKeeps play ahead p → p.dbase.failed ≡ false →
    HasToWait p.dbase.rest p.dbase.hand p.scene.shared.log → MustWait play ahead event.Dbase (core_of play p)
base_waits play ahead p keeps runs waits = by p.dbase.rest refl waits
  where
    stands : StandsIn play.dbase p.dbase
    stands = keeps.dbase.stands runs

    at_step : (step : BaseStep) (held : InHand) → HoldsBuffer held (buffer_at play.dbase p.dbase.at) → HasToWaitBefore step held p.scene.shared.log →
        BaseStepMustWait (shared_of play ahead (core_of play p)) (core_of play p).pipe (Some step)
    at_step (base.Await n) held buffer waits = waits play.channels
    at_step base.Merge (hand.Merge m) buffer waits =
        λ may.
        let same : weight_of (command.Merge m) ≡ weight_of (command.Merge (merge_of (buffer_at play.dbase p.dbase.at))) =
        ap (λ (x : Merge). weight_of (command.Merge x)) buffer in
        omega (arith, waits, same, may.light)
    at_step _ held buffer waits = absurd waits

    by : (rest : List BaseLine) → p.dbase.rest ≡ rest → HasToWait rest p.dbase.hand p.scene.shared.log → MustWait play ahead event.Dbase (core_of play p)
    by [] is waits = absurd waits
    by (l ∷ ls) is waits =
        let there = get_drop play.dbase p.dbase.at l ls (stands.rest ∙ is) in
        subst (λ (o : Option BaseLine). BaseStepMustWait (shared_of play ahead (core_of play p)) (core_of play p).pipe (option_map (λ (x : BaseLine). x.step) o)) (sym there)
        (at_step l.step p.dbase.hand stands.hand waits)

-- What it did

-- nothing was added
no_growth : (before after : Log) → after ≡ before → GrowsBeside before after
no_growth before after same = record { more = []; is = same ∙ sym (append-nil before); app = tt; zeros = tt }

-- a merge was added
merge_grows : (channels : ℕ) (before after : Log) (m : Merge) → after ≡ before ++ own_entry channels before 0 (command.Merge m) ∷ [] → GrowsBeside before after
merge_grows channels before after m is =
    record { more = own_entry channels before 0 (command.Merge m) ∷ []; is = is; app = (refl, tt); zeros = (refl, tt) }

-- What the scene has become: it is as it was, or it has one more merge.
record Stepped (old new : SceneState) : Type 0 where
  grows : GrowsBeside old.shared.log new.shared.log
  adds : (written : ℕ) → AddsAtMostOne event.Dbase written old.shared.log new.shared.log
  longer : length old.shared.log ≤ length new.shared.log
  stopped : new.shared.stopped ≡ old.shared.stopped
  ahead : new.shared.ahead ≡ old.shared.ahead
  channels : new.shared.channels ≡ old.shared.channels

stays_put : (old new : SceneState) → new ≡ old → Stepped old new
stays_put old new same =
    record {
      grows = no_growth old.shared.log new.shared.log (ap (λ (x : SceneState). x.shared.log) same);
      adds = λ written. inl (ap (λ (x : SceneState). x.shared.log) same);
      longer = let long = ap (λ (x : SceneState). length x.shared.log) same in omega (arith, long);
      stopped = ap (λ (x : SceneState). x.shared.stopped) same;
      ahead = ap (λ (x : SceneState). x.shared.ahead) same;
      channels = ap (λ (x : SceneState). x.shared.channels) same;
    }

abbrev pub known : SceneState → Known
known scene = record { seen = scene.shared.log; told = Some scene }

same_scene : (old new : SceneState) → AddsNone 0 (known old) (known new) → new ≡ old
same_scene old new adds = same_Some new old adds.told

merged : (old new : SceneState) (m : Merge) → EntersMerge 0 m (known old) (known new) → Stepped old new
merged old new m enters =
    let left : enters.left ≡ new = same_Some enters.left new (sym enters.told.1) in
    let found : enters.scene ≡ old = sym enters.told.0 in
    let shared = ap (λ (x : SceneState). x.shared) (sym left) ∙ enters.enters.shared
    ∙ ap (λ (x : SceneState). entered (command.Merge m) (seated 0 x.shared)) found in
    let log : new.shared.log ≡ old.shared.log ++ own_entry old.shared.channels old.shared.log 0 (command.Merge m) ∷ [] = ap (λ (x : Shared). x.log) shared in
    let long = ap length log in
    let one = length_push old.shared.log (own_entry old.shared.channels old.shared.log 0 (command.Merge m)) in
    record {
      grows = merge_grows old.shared.channels old.shared.log new.shared.log m log;
      adds = λ written. inr ((own_entry old.shared.channels old.shared.log 0 (command.Merge m)).1, refl, tt, log);
      longer = omega (arith, long, one);
      stopped = ap (λ (x : Shared). x.stopped) shared;
      ahead = ap (λ (x : Shared). x.ahead) shared;
      channels = ap (λ (x : Shared). x.channels) shared;
    }

stepped : (old new : SceneState) (step : BaseStep) (held : InHand) → DoesAt 0 step held (known old) (known new) → Stepped old new
stepped old new (base.Await n) held does = stays_put old new (same_scene old new does.0)
stepped old new base.Merge held does = merged old new does.0 does.2
stepped old new base.Buffer held does = stays_put old new (same_scene old new does)
stepped old new (base.Edit e) held does = stays_put old new (same_scene old new does)
stepped old new (base.Ask e) held does = stays_put old new (same_scene old new does)

-- one line was passed
base_passes : (play : Script) (ahead : ℕ) (p : PipeWork) (d : DbaseWork) (scene : SceneState) → PipeKeeps play ahead p →
    IsLegal play.channels scene.shared.log → DbaseHolds play.dbase play.channels 0 d scene.shared.log →
    (l : BaseLine) → Passes l p.dbase d → DoesAt 0 l.step p.dbase.hand (known p.scene) (known scene) →
    (IsOver play event.Dbase (core_of play p) → ⊥) → KeepsCopies scene → Lifted play ahead event.Dbase (Ok did.Did) p (based p d scene)
base_passes play ahead p d scene keeps legal holds l passes does alive copies =
    let step = stepped p.scene scene l.step p.dbase.hand does in
    let there = get_drop play.dbase p.dbase.at l d.rest ((keeps.dbase.stands passes.running).rest ∙ passes.line) in
    let within = slice_get_within play.dbase p.dbase.at l there in
    record {
      keeps = base_keeps play ahead p d scene keeps legal step.grows holds (omega (arith, within, passes.at)) (λ set. step.stopped ∙ set)
          step.ahead step.channels (λ fails. absurd (let clash : true ≡ false = sym fails ∙ passes.runs in cc)) copies;
      adds = step.adds p.app.state.written;
      told = refl;
      answer = record { alive = alive; moves = omega (arith, step.longer, passes.at); mark = step.stopped };
    }

-- nothing changed
base_rests : (play : Script) (p : PipeWork) (d : DbaseWork) (scene : SceneState) → d ≡ p.dbase → scene ≡ p.scene → p ≡ based p d scene
base_rests play p d scene same_base same_scene = λ i. based p ((sym same_base) i) ((sym same_scene) i)

pub base_lifts : (play : Script) (ahead : ℕ) (p : PipeWork) (d : DbaseWork) (scene : SceneState) (result : Result Did StageError) →
    PipeKeeps play ahead p → IsLegal scene.shared.channels scene.shared.log →
    ((lines : List BaseLine) (channels : ℕ) → DbaseHolds lines channels 0 p.dbase p.scene.shared.log → DbaseHolds lines channels 0 d scene.shared.log) →
    IsDbaseAnswer 0 result p.dbase d (known p.scene) (known scene) →
    (is_ended p.dbase.rest ≡ true → result ≡ Ok did.Over) →
    (is_ended p.dbase.rest ≡ false → is_over result ≡ p.scene.shared.stopped) → (KeepsCopies p.scene → KeepsCopies scene) →
    Lifted play ahead event.Dbase result p (based p d scene)
base_lifts play ahead p d scene result keeps legal part answer ended looked counted =
    by result answer (base_over play ahead p result keeps ended looked) (base_is_over play ahead p result keeps looked)
  where
    holds : DbaseHolds play.dbase play.channels 0 d scene.shared.log
    holds = part play.dbase play.channels keeps.dbase

    legal_at : scene.shared.channels ≡ p.scene.shared.channels → IsLegal play.channels scene.shared.log
    legal_at same = subst (λ (n : ℕ). IsLegal n scene.shared.log) (same ∙ keeps.stages.channels) legal

    resting : (answer : Result Did StageError) → d ≡ p.dbase → scene ≡ p.scene → Answers play ahead event.Dbase answer (core_of play p) (core_of play p) →
        Lifted play ahead event.Dbase answer p (based p d scene)
    resting answer same_base same_scene says =
        subst (Lifted play ahead event.Dbase answer p) (base_rests play p d scene same_base same_scene) (record { keeps = keeps; adds = inl refl; told = refl; answer = says })

    running : (b : Bool) → p.dbase.failed ≡ b → (p.scene.shared.stopped ≡ true → ⊥) → p.dbase.failed ≡ false
    running true is unset = absurd (unset (keeps.failed is))
    running false is unset = is

    by : (result : Result Did StageError) → IsDbaseAnswer 0 result p.dbase d (known p.scene) (known scene) →
        (IsOver play event.Dbase (core_of play p) → is_over result ≡ true) → (is_over result ≡ true → IsOver play event.Dbase (core_of play p)) →
        Lifted play ahead event.Dbase result p (based p d scene)
    by (Ok did.Did) (l, passes, does) over is =
        base_passes play ahead p d scene keeps (legal_at (stepped p.scene scene l.step p.dbase.hand does).channels) holds l passes does
        (not_over (Ok did.Did) (IsOver play event.Dbase (core_of play p)) over refl) (counted keeps.copies)
    by (Ok did.NotYet) (same, adds, waits) over is =
        let alive = not_over (Ok did.NotYet) (IsOver play event.Dbase (core_of play p)) over refl in
        let still = same_scene p.scene scene adds in
        let runs = running p.dbase.failed refl (λ set. alive (inr set)) in
        let here : HasToWait p.dbase.rest p.dbase.hand p.scene.shared.log =
        subst (λ (x : SceneState). HasToWait p.dbase.rest p.dbase.hand x.shared.log) still waits in
        resting (Ok did.NotYet) same still (refl, alive, base_waits play ahead p keeps runs here)
    by (Ok did.Over) (same, adds) over is = resting (Ok did.Over) same (same_scene p.scene scene adds) (refl, is refl)
    by (Err error.NoMemory) (gives, found, marks) over is =
        let new = marks.0 in
        let left : scene ≡ new = same_Some scene new marks.1 in
        let shared = ap (λ (x : SceneState). x.shared) left ∙ marks.2 in
        let log = ap (λ (x : Shared). x.log) shared in
        let set : scene.shared.stopped ≡ true = ap (λ (x : Shared). x.stopped) shared in
        let channels = ap (λ (x : Shared). x.channels) shared in
        record {
          keeps = base_keeps play ahead p d scene keeps (legal_at channels) (no_growth p.scene.shared.log scene.shared.log log) holds
              (let within = keeps.core.dbase_lines in omega (arith, within, gives.at)) (λ was. set)
              (ap (λ (x : Shared). x.ahead) shared) channels (λ fails. set) (counted keeps.copies);
          adds = inl log;
          told = refl;
          answer = (not_over (Err error.NoMemory) (IsOver play event.Dbase (core_of play p)) over refl, tt, log, set);
        }
    by (Err error.FrameFault) answer over is = absurd answer
