-- The steps of the application, outcome by outcome.
use Rattle.std.proofs.Common.{◌≡◌, ◌⊎◌, inl, inr, ℕ, ◌+◌, ◌<◌, ◌≤◌, max, Bool, true, false, not, ◌||◌, List, [], ◌∷◌, ◌++◌, length, Option, Some, None, Ok, Err, refl, sym, ap, ◌∙◌, subst, arith}
use Rattle.std.proofs.lemmas.List.{length_push}
use Rattle.std.specs.Prelude.{MatchOption}
use Rattle.seat_lock.specs.Log.{Found}
use Rattle.seat_lock.proofs.Logs.{found-self}
use Rattle.pf_model.specs.declared.edits.Edit.{Edit}
use Rattle.pf_model.specs.Angles.{Viewpoint}
use Rattle.pf_model.specs.Copies.{UpdateList}
use Rattle.pf_model.specs.declared.lines.AppStep.{AppStep}
use Rattle.pf_model.specs.declared.lines.AppStep.TheVariants as app
use Rattle.pf_history.specs.declared.commands.Command.TheVariants as command
use Rattle.pf_history.specs.Logs.{Log}
use Rattle.pf_scene.specs.Scenes.{Shared, SceneState}
use Rattle.pf_scene.specs.Acts.{MayEdit, MayView, MaySync, MayFrame}
use Rattle.stage_parts.specs.declared.packets.Packet.{Packet}
use Rattle.stage_parts.specs.declared.packets.Packet.TheVariants.{Frame, End}
use Rattle.stage_parts.specs.Loads.{LoadState}
use Rattle.stage_parts.specs.declared.answers.Did.TheVariants as did
use Rattle.stage_parts.specs.declared.answers.StageError.TheVariants as error
use Rattle.frame_stages.specs.declared.application.Application.{Application}
use Rattle.stage_parts.specs.Answers.{IsFull, IsDry}
use Rattle.frame_stages.specs.Scripts.{ScriptState, next_step, IsNext, is_sync_due, passed, SyncIsNext, synced_script}
use Rattle.frame_stages.specs.declared.script.Next.TheVariants as next
use Rattle.frame_stages.specs.Flights.{FlightState, IsFitFor, begun}
use Rattle.frame_stages.specs.AppTurns.{Bars, Made, Barred, Wanting, Marks, Begun}
use Rattle.frame_stages.specs.AppWorks.{AppWork, work_of, holds_end, holding, with_load, merges_in}
use Rattle.frame_stages.specs.Copies.{HoldsCopies, AreHomeward, IsHomeRight}
use Rattle.frame_stages.specs.AppAnswers.{Ends, around, MayWant, AppWaits, StepWaits, FrameWaits, SyncWaits, CloseWaits, Polled}
use Rattle.frame_stages.proofs.AppLogs.{merges_found}
use Rattle.frame_stages.proofs.AppPolled.{idle, out, IsRespared, marks_later, by_entry}
use Rattle.frame_stages.proofs.AppBack.{passes_wait}
use Rattle.frame_stages.proofs.AppGoes.{past, edit_goes, view_goes, synced_work, sync_goes, closed_work, close_goes, begun_work, frame_goes}

-- it has not closed
pub not_closed : (a : Application) → a.held ≡ None → a.ended ≡ false → (work_of a).state.closed ≡ false
not_closed a bare going = ap (λ t. t || holds_end a.held) going ∙ ap holds_end bare

later : (k need : ℕ) (seen log : Log) → Found k seen log → need ≤ merges_in seen → need ≤ merges_in log
later k need seen log found enough = let more = merges_found k seen log found in omega (arith, enough, more)

-- the next step has to wait
pub step_waits : (w : AppWork) (seen' : Log) (told : Option SceneState) (ends : Ends) (step : Option AppStep) →
    w.state.held ≡ None → next_step w.rest ≡ step → StepWaits step w told ends seen' →
    AppWaits w told ends seen'
step_waits w seen' told ends step bare next waits =
    held w.state.held bare
    (inr (subst (λ (s : Option AppStep). StepWaits s w told ends seen') (sym next) waits))
  where
    held : (h : Option Packet) → h ≡ None →
        (merges_in seen' < w.state.need) ⊎ StepWaits (next_step w.rest) w told ends seen' →
        MatchOption h
        ((merges_in seen' < w.state.need) ⊎ StepWaits (next_step w.rest) w told ends seen')
        (λ _. IsFull ends.room ends.told_taken ends.sent)
    held None is waits = waits
    held (Some p) is waits = absurd (cc)

-- merges are wanting that a wait asked for
pub need_waits : (k : ℕ) (w : AppWork) (seen : Log) (told : Option SceneState) (ends : Ends) → w.state.held ≡ None → merges_in seen < w.state.need →
    Polled k (Ok did.NotYet) w w (around seen told ends) (around seen told ends)
need_waits k w seen told ends bare fewer =
    idle k w w seen seen told told ends (found-self k seen) refl refl (held w.state.held bare (inl fewer))
  where
    held : (h : Option Packet) → h ≡ None →
        (merges_in seen < w.state.need) ⊎ StepWaits (next_step w.rest) w told ends seen →
        MatchOption h
        ((merges_in seen < w.state.need) ⊎ StepWaits (next_step w.rest) w told ends seen)
        (λ _. IsFull ends.room ends.told_taken ends.sent)
    held None is waits = waits
    held (Some p) is waits = absurd (cc)

-- a step that is barred
pub barred : (k : ℕ) (w w' : AppWork) (May : Shared → Type 0) (seen seen' : Log) (told told' : Option SceneState) (ends : Ends) (step : Option AppStep) →
    w.state.held ≡ None → next_step w.rest ≡ step → w' ≡ w → Barred k May seen told seen' told' →
    (Bars May told seen' → StepWaits step w told ends seen') →
    Polled k (Ok did.NotYet) w w' (around seen told ends) (around seen' told' ends)
barred k w w' May seen seen' told told' ends step bare next same b waits =
    idle k w w' seen seen' told told' ends b.goes_on same b.same
    (step_waits w seen' told ends step bare next (waits b.bars))

-- an edit may want memory
pub edit_wants : (step : Option AppStep) → IsNext next.Edit step → MayWant step
edit_wants step (e, is) = subst MayWant (sym is) tt

-- so may a Sync
pub sync_wants : (asked synced : Bool) (step : Option AppStep) → SyncIsNext asked synced step → MayWant step
sync_wants true synced step is = subst MayWant (sym is) tt
sync_wants false synced step is = subst MayWant (sym is.0) tt

-- a step that found no memory
pub wanting : (k : ℕ) (w w' : AppWork) (seen seen' seen'' : Log) (told told' told'' : Option SceneState) (ends : Ends) → MayWant (next_step w.rest) →
    w.state.held ≡ None → w' ≡ w →
    Wanting k seen told seen' told' → Marks k seen' told' seen'' told'' → (HoldsCopies told → IsHomeRight w told → HoldsCopies told'') →
    Polled k (Err error.NoMemory) w w' (around seen told ends) (around seen'' told'' ends)
wanting k w w' seen seen' seen'' told told' told'' ends wanted bare same want marks counted =
    out k w w' seen seen'' told told'' ends wanted bare (marks_later k seen seen' seen'' told told' told'' want marks) counted
    (subst (λ (v : AppWork). IsRespared w v) (sym same) (record { same = refl; many = refl }))

-- before this step no Sync is due
none_due : (step : AppStep) (synced : Bool) (next : Option AppStep) → next ≡ Some step → is_sync_due (Some step) synced ≡ false →
    is_sync_due next synced ≡ true → ⊥
none_due step synced next is none due =
    let same : is_sync_due next synced ≡ is_sync_due (Some step) synced = ap (λ (s : Option AppStep). is_sync_due s synced) is in cc

-- an edit was made
pub edited : (k : ℕ) (a : Application) (script : ScriptState) (e : Edit) (seen seen' : Log) (told told' : Option SceneState) (ends : Ends) →
    a.held ≡ None → a.ended ≡ false → next_step a.script.rest ≡ Some (app.Edit e) → a.script.need ≤ merges_in seen →
    script ≡ passed a.script → Made k (command.Edit e) (λ s. MayEdit s e) seen told seen' told' → (HoldsCopies told → HoldsCopies told') →
    Polled k (Ok did.Did) (work_of a) (work_of (record a { script = script })) (around seen told ends) (around seen' told' ends)
edited k a script e seen seen' told told' ends bare going next enough is m counted =
    subst (λ (s : ScriptState). Polled k (Ok did.Did) (work_of a) (work_of (record a { script = s })) (around seen told ends) (around seen' told' ends)) (sym is)
    (by_entry k (command.Edit e) (λ s. MayEdit s e) (work_of a) (past (work_of a)) seen seen' told told' ends m bare
    (λ due away. absurd (none_due (app.Edit e) a.synced (next_step a.script.rest) next refl due)) (λ holds right. counted holds)
    (edit_goes k e ends (work_of a) m.found (not_closed a bare going) next (later k a.script.need seen m.found.log m.goes_on enough)))

-- a view was set
pub viewed : (k : ℕ) (a : Application) (script : ScriptState) (channel : ℕ) (v : Viewpoint) (seen seen' : Log) (told told' : Option SceneState)
    (ends : Ends) → a.held ≡ None → a.ended ≡ false → next_step a.script.rest ≡ Some (app.View channel v) → a.script.need ≤ merges_in seen →
    script ≡ passed a.script → Made k (command.View channel v) (λ s. MayView s channel v) seen told seen' told' → (HoldsCopies told → HoldsCopies told') →
    Polled k (Ok did.Did) (work_of a) (work_of (record a { script = script })) (around seen told ends) (around seen' told' ends)
viewed k a script channel v seen seen' told told' ends bare going next enough is m counted =
    subst (λ (s : ScriptState). Polled k (Ok did.Did) (work_of a) (work_of (record a { script = s })) (around seen told ends) (around seen' told' ends)) (sym is)
    (by_entry k (command.View channel v) (λ s. MayView s channel v) (work_of a) (past (work_of a)) seen seen' told told' ends m bare
    (λ due away. absurd (none_due (app.View channel v) a.synced (next_step a.script.rest) next refl due)) (λ holds right. counted holds)
    (view_goes k channel v ends (work_of a) m.found (not_closed a bare going) next (later k a.script.need seen m.found.log m.goes_on enough)))

-- the lists were given back
emptied : (a : Application) (f : FlightState) → f ≡ record a.flight { home = f.home } → f.home ≡ [] → f ≡ record a.flight { home = [] }
emptied a f same none = same ∙ ap (λ (ls : List UpdateList). record a.flight { home = ls }) none

-- the lists that were to go home stay
pub unsent : (a : Application) (f : FlightState) → f ≡ record a.flight { home = f.home } → f.home ≡ a.flight.home →
    work_of (record a { flight = f }) ≡ work_of a
unsent a f same stay =
    ap (λ (v : FlightState). work_of (record a { flight = v })) same
    ∙ ap (λ (ls : List UpdateList). work_of (record a { flight = record a.flight { home = ls } })) stay

-- a Sync was made
pub synced : (asked : Bool) (k : ℕ) (a a' : Application) (f : FlightState) (seen seen' : Log) (told told' : Option SceneState) (ends : Ends) →
    (a.flight.written < a.flight.frames → IsDry ends.told_sent ends.taken) →
    a.held ≡ None → a.ended ≡ false → a.flight.fault ≡ None → SyncIsNext asked a.synced (next_step a.script.rest) → a.script.need ≤ merges_in seen →
    a.flight.frames < a.flight.written + a.flight.ahead → f ≡ record a.flight { home = f.home } → f.home ≡ [] →
    a' ≡ record a { flight = f; script = synced_script asked a.script; synced = true } →
    Made k (command.Sync a.flight.written) (λ s. MaySync s a.flight.written) seen told seen' told' →
    (AreHomeward a.flight.written told a.flight.home → HoldsCopies told → HoldsCopies told') →
    Polled k (Ok did.Did) (work_of a) (work_of a') (around seen told ends) (around seen' told' ends)
synced asked k a a' f seen seen' told told' ends back bare going whole next enough room same none is m counted =
    subst (λ (v : AppWork). Polled k (Ok did.Did) (work_of a) v (around seen told ends) (around seen' told' ends))
    (sym (ap work_of is ∙ ap (λ (v : FlightState). work_of (record a { flight = v; script = synced_script asked a.script; synced = true }))
    (emptied a f same none) ∙ work asked))
    (by_entry k (command.Sync a.flight.written) (λ s. MaySync s a.flight.written) (work_of a) (synced_work asked (work_of a)) seen seen' told told' ends m bare (λ due. back)
    (λ holds right. counted (right whole) holds)
    (sync_goes asked k ends (work_of a) m.found (not_closed a bare going) whole next (later k a.script.need seen m.found.log m.goes_on enough) room))
  where
    work : (t : Bool) →
        work_of (record a { flight = record a.flight { home = [] }; script = synced_script t a.script; synced = true }) ≡ synced_work t (work_of a)
    work true = refl
    work false = refl

or_true : (t : Bool) → (t || true) ≡ true
or_true true = refl
or_true false = refl

-- the closing Sync was made
pub closed : (k : ℕ) (a : Application) (f : FlightState) (seen seen' : Log) (told told' : Option SceneState) (ends : Ends) →
    a.held ≡ None → a.ended ≡ false → a.flight.fault ≡ None → next_step a.script.rest ≡ None → a.script.need ≤ merges_in seen →
    a.flight.frames ≤ a.flight.written → a.flight.frames < a.flight.written + a.flight.ahead → a.merges ≤ merges_in seen →
    f ≡ record a.flight { home = f.home } → f.home ≡ [] →
    Made k (command.Sync a.flight.written) (λ s. MaySync s a.flight.written) seen told seen' told' →
    (AreHomeward a.flight.written told a.flight.home → HoldsCopies told → HoldsCopies told') →
    Polled k (Ok did.Did) (work_of a) (work_of (record a { flight = f; held = Some End })) (around seen told ends) (around seen' told' ends)
closed k a f seen seen' told told' ends bare going whole next enough back room all same none m counted =
    subst (λ (v : AppWork). Polled k (Ok did.Did) (work_of a) v (around seen told ends) (around seen' told' ends)) (sym work)
    (by_entry k (command.Sync a.flight.written) (λ s. MaySync s a.flight.written) (work_of a) (closed_work (work_of a)) seen seen' told told' ends m bare
    (λ due away. absurd (omega (arith, back, away)))
    (λ holds right. counted (right whole) holds)
    (close_goes k ends (work_of a) m.found (not_closed a bare going) whole bare next (later k a.script.need seen m.found.log m.goes_on enough) back room
    (later k a.merges seen m.found.log m.goes_on all)))
  where
    work : work_of (record a { flight = f; held = Some End }) ≡ closed_work (work_of a)
    work =
        ap (λ (v : FlightState). work_of (record a { flight = v; held = Some End })) (emptied a f same none)
        ∙ ap (λ t. record (work_of a) { state = record (work_of a).state { closed = t; held = Some End }; home = [] }) (or_true a.ended)

-- a frame was begun with a load, in place of one that was in hand
pub frame_begun : (k ahead : ℕ) (a a' : Application) (old load load' : LoadState) (seen seen' : Log) (told told' : Option SceneState) (ends : Ends) →
    a.held ≡ None → a.ended ≡ false → a.synced ≡ true → next_step a.script.rest ≡ Some app.Frame → a.script.need ≤ merges_in seen →
    IsFitFor a.lens a.channels load →
    a' ≡ record a { script = passed a.script; flight = begun a.flight; synced = false; held = Some (Frame load') } →
    ahead ≡ a.flight.ahead → Begun k ahead load seen told load' seen' told' → (HoldsCopies told → HoldsCopies told') →
    Polled k (Ok did.Did) (with_load old (work_of a)) (work_of a') (around seen told ends) (around seen' told' ends)
frame_begun k ahead a a' old load load' seen seen' told told' ends bare going is_synced next enough fit is same b counted =
    let m = b.made in
    subst (λ (v : AppWork). Polled k (Ok did.Did) (with_load old (work_of a)) v (around seen told ends) (around seen' told' ends)) (sym work)
    (by_entry k command.Frame (λ s. MayFrame s ahead (length load.lists)) (with_load old (work_of a)) (begun_work load' (work_of a))
    seen seen' told told' ends m bare
    (λ due away. absurd (none_due app.Frame a.synced (next_step a.script.rest) next (ap not is_synced) due)) (λ holds right. counted holds)
    (frame_goes k old load load' ends (work_of a) m.found (not_closed a bare going) bare is_synced next
    (later k a.script.need seen m.found.log m.goes_on enough) fit
    (subst (λ n. MayFrame m.found n (length load.lists)) same m.may) b.cut b.room b.lists b.same))
  where
    work : work_of a' ≡ begun_work load' (work_of a)
    work =
        ap work_of is
        ∙ ap (λ t. record (begun_work load' (work_of a)) { state = record (begun_work load' (work_of a)).state { closed = a.ended || t } })
        (ap holds_end (sym bare))

-- a load that was taken out of hand was put back, or another one in its place
pub put_again : (a : Application) (f : FlightState) (load load' : LoadState) → f ≡ record a.flight { spare = a.flight.spare ++ load' ∷ [] } →
    IsRespared (with_load load (work_of a)) (work_of (record a { flight = f }))
put_again a f load load' is =
    subst (λ (v : FlightState). IsRespared (with_load load (work_of a)) (work_of (record a { flight = v }))) (sym is)
    (record { same = refl; many = length_push a.flight.spare load' ∙ sym (length_push a.flight.spare load) })

pub put_same : (a : Application) (f : FlightState) (load load' : LoadState) → load' ≡ load → f ≡ record a.flight { spare = a.flight.spare ++ load' ∷ [] } →
    work_of (record a { flight = f }) ≡ with_load load (work_of a)
put_same a f load load' same is =
    ap (λ (v : FlightState). work_of (record a { flight = v })) is ∙ ap (λ (l : LoadState). with_load l (work_of a)) same

-- a Sync has to wait
pub sync_step : (asked : Bool) (w : AppWork) (seen' : Log) (told : Option SceneState) (ends : Ends) → w.state.held ≡ None →
    SyncIsNext asked w.state.synced (next_step w.rest) → SyncWaits w told ends seen' → AppWaits w told ends seen'
sync_step true w seen' told ends bare next waits =
    step_waits w seen' told ends (Some app.Sync) bare next waits
sync_step false w seen' told ends bare next waits =
    step_waits w seen' told ends (Some app.Frame) bare next.0
    (subst (λ t. FrameWaits t w told ends seen') (sym next.1) waits)

pub sync_waits : (k : ℕ) (asked : Bool) (w : AppWork) (seen : Log) (told : Option SceneState) (ends : Ends) → w.state.held ≡ None →
    SyncIsNext asked w.state.synced (next_step w.rest) →
    (w.state.written < w.state.frames → IsDry ends.told_sent ends.taken) → w.state.written + w.ahead ≤ w.state.frames →
    Polled k (Ok did.NotYet) w w (around seen told ends) (around seen told ends)
sync_waits k asked w seen told ends bare next back away =
    idle k w w seen seen told told ends (found-self k seen) refl refl
    (sync_step asked w seen told ends bare next (inl (back, away)))

pub sync_barred : (k : ℕ) (asked : Bool) (w w' : AppWork) (seen seen' : Log) (told told' : Option SceneState) (ends : Ends) → w.state.held ≡ None →
    SyncIsNext asked w.state.synced (next_step w.rest) → w' ≡ w → Barred k (λ s. MaySync s w.state.written) seen told seen' told' →
    Polled k (Ok did.NotYet) w w' (around seen told ends) (around seen' told' ends)
sync_barred k asked w w' seen seen' told told' ends bare next same b =
    idle k w w' seen seen' told told' ends b.goes_on same b.same
    (sync_step asked w seen' told ends bare next (inr b.bars))

-- the close has to wait
pub close_waits : (k : ℕ) (w : AppWork) (seen : Log) (told : Option SceneState) (ends : Ends) → w.state.held ≡ None →
    next_step w.rest ≡ None → CloseWaits w told ends seen →
    Polled k (Ok did.NotYet) w w (around seen told ends) (around seen told ends)
close_waits k w seen told ends bare next waits =
    idle k w w seen seen told told ends (found-self k seen) refl refl (step_waits w seen told ends None bare next waits)

-- a frame has to wait
pub frame_waits : (k : ℕ) (w w' : AppWork) (seen seen' : Log) (told told' : Option SceneState) (ends : Ends) → w.state.held ≡ None →
    next_step w.rest ≡ Some app.Frame → w.state.synced ≡ true → w' ≡ w → Barred k (λ s. MayFrame s w.ahead w.channels) seen told seen' told' →
    Polled k (Ok did.NotYet) w w' (around seen told ends) (around seen' told' ends)
frame_waits k w w' seen seen' told told' ends bare next synced same b =
    barred k w w' (λ s. MayFrame s w.ahead w.channels) seen seen' told told' ends (Some app.Frame) bare next same b
    (λ bars. subst (λ t. FrameWaits t w told ends seen') (sym synced) (inl bars))

-- a frame that was barred, by the numbers of the stage
pub frame_barred : (k ahead ahead' : ℕ) (load : LoadState) (seen seen' : Log) (told told' : Option SceneState) (channels : ℕ) →
    ahead ≡ ahead' → length load.lists ≡ channels →
    Barred k (λ s. MayFrame s ahead (length load.lists)) seen told seen' told' → Barred k (λ s. MayFrame s ahead' channels) seen told seen' told'
frame_barred k ahead ahead' load seen seen' told told' channels same many b =
    subst (λ n. Barred k (λ s. MayFrame s n channels) seen told seen' told') same
    (subst (λ n. Barred k (λ s. MayFrame s ahead n) seen told seen' told') many b)

-- a frame has to wait for a load, after room was made
pub load_waits : (k : ℕ) (a : Application) (m f : FlightState) (seen : Log) (told : Option SceneState) (ends : Ends) → a.held ≡ None →
    next_step a.script.rest ≡ Some app.Frame → a.synced ≡ true → m ≡ record a.flight { room = m.room } → f ≡ m → m.spare ≡ [] →
    Polled k (Ok did.NotYet) (work_of a) (work_of (record a { flight = f })) (around seen told ends) (around seen told ends)
load_waits k a m f seen told ends bare next is_synced roomy same none =
    let empty : a.flight.spare ≡ [] = sym (ap (λ (v : FlightState). v.spare) roomy) ∙ none in
    idle k (work_of a) (work_of (record a { flight = f })) seen seen told told ends (found-self k seen)
    (ap (λ (v : FlightState). work_of (record a { flight = v })) (same ∙ roomy)) refl
    (step_waits (work_of a) seen told ends (Some app.Frame) bare next
    (subst (λ t. FrameWaits t (work_of a) told ends seen) (sym is_synced) (inr empty)))

-- room was made for the numbers of a frame, or not, and the loads in hand stay
pub taken_none : (a : Application) (f : FlightState) → f ≡ record a.flight { room = f.room } →
    IsRespared (work_of a) (work_of (record a { flight = f }))
taken_none a f is =
    subst (λ (v : FlightState). IsRespared (work_of a) (work_of (record a { flight = v }))) (sym is)
    (record { same = refl; many = refl })

-- a load was taken out of hand after room was made
pub taken_some : (a : Application) (m f : FlightState) (load : LoadState) → m ≡ record a.flight { room = m.room } → f ≡ record m { spare = f.spare } →
    m.spare ≡ f.spare ++ load ∷ [] → with_load load (work_of (record a { flight = f })) ≡ work_of a
taken_some a m f load roomy is spare =
    let w = work_of (record a { flight = m }) in
    ap (λ (v : FlightState). with_load load (work_of (record a { flight = v }))) is
    ∙ ap (λ (s : List LoadState). record w { state = record w.state { spare = s } }) (sym spare)
    ∙ ap (λ (v : FlightState). work_of (record a { flight = v })) roomy

-- the packet that was held is to be sent
pub held_again : (a : Application) (packet : Packet) → a.held ≡ Some packet → holding packet (work_of (record a { held = None })) ≡ work_of a
held_again a packet is = ap (λ (h : Option Packet). work_of (record a { held = h })) (sym is)

-- a wait has to wait
pub wait_waits : (k wanted : ℕ) (w : AppWork) (seen : Log) (told : Option SceneState) (ends : Ends) → w.state.held ≡ None →
    next_step w.rest ≡ Some (app.Wait wanted) → merges_in seen < wanted → Polled k (Ok did.NotYet) w w (around seen told ends) (around seen told ends)
wait_waits k wanted w seen told ends bare next fewer =
    idle k w w seen seen told told ends (found-self k seen) refl refl
    (step_waits w seen told ends (Some (app.Wait wanted)) bare next fewer)

-- a wait is passed
pub waited : (k wanted : ℕ) (a : Application) (script : ScriptState) (seen : Log) (told : Option SceneState) (ends : Ends) → a.held ≡ None →
    a.ended ≡ false → next_step a.script.rest ≡ Some (app.Wait wanted) → wanted ≤ merges_in seen → a.script.need ≤ merges_in seen →
    script ≡ record (passed a.script) { need = max a.script.need wanted } →
    Polled k (Ok did.Did) (work_of a) (work_of (record a { script = script })) (around seen told ends) (around seen told ends)
waited k wanted a script seen told ends bare going next here before is =
    subst (λ (s : ScriptState). Polled k (Ok did.Did) (work_of a) (work_of (record a { script = s })) (around seen told ends) (around seen told ends)) (sym is)
    (passes_wait k wanted (work_of a) seen told ends bare (not_closed a bare going) next here before)
