-- How the application goes on as packets come back and are sent, and as it passes a wait.
use Rattle.std.proofs.Common.{◌≡◌, inl, inr, ℕ, ◌+◌, ◌<◌, ◌≤◌, max, Bool, true, false, not, ◌||◌, List, [], ◌∷◌, ◌++◌, drop, take, length, Option, Some, None, Result, Ok, Err, refl, sym, ap, ◌∙◌, subst, arith}
use Rattle.std.proofs.lemmas.List.{length_push, append-nil}
use Rattle.seat_lock.proofs.Logs.{of_found, found-self}
use Rattle.pf_model.specs.declared.lines.AppStep.{AppStep}
use Rattle.pf_model.specs.declared.lines.AppStep.TheVariants as app
use Rattle.pf_history.specs.Logs.{Log}
use Rattle.pf_scene.specs.Scenes.{SceneState}
use Rattle.stage_parts.specs.declared.packets.Packet.{Packet}
use Rattle.stage_parts.specs.Packets.{is_end, bytes_in}
use Rattle.stage_parts.specs.States.{AppState}
use Rattle.stage_parts.specs.Parts.{sent_and_held, AppKeeps, cut_short}
use Rattle.stage_parts.proofs.AppSteps.{app_law}
use Rattle.stage_parts.specs.declared.answers.Did.{Did}
use Rattle.stage_parts.specs.declared.answers.Did.TheVariants as did
use Rattle.stage_parts.specs.declared.answers.StageError.{StageError}
use Rattle.stage_parts.specs.declared.answers.StageError.TheVariants as error
use Rattle.frame_stages.specs.declared.application.Application.{Application}
use Rattle.stage_parts.specs.Answers.{IsFull, IsDry}
use Rattle.frame_stages.specs.Scripts.{next_step, SyncIsNext, is_sync_due}
use Rattle.frame_stages.specs.Flights.{FlightState, SinkSide, CameBack, CameShort}
use Rattle.frame_stages.specs.AppTurns.{Marks}
use Rattle.frame_stages.specs.AppWorks.{AppWork, work_of, holds_end, holding, merges_in}
use Rattle.frame_stages.specs.Copies.{HoldsCopies, HasHome}
use Rattle.frame_stages.specs.AppAnswers.{Ends, around, with_back, with_sent, IsBackFrom, Polled}
use Rattle.frame_stages.proofs.AppLogs.{keeps_found, merges_found}
use Rattle.frame_stages.proofs.AppHome.{home_found, home_same, home_back}
use Rattle.frame_stages.proofs.AppAsks.{asked_at, asked_next, given_passed}
use Rattle.frame_stages.proofs.AppPolled.{kept_on, idle}
use Rattle.frame_stages.proofs.BroughtBack.{brought_back, brought_short}

-- a Sync is due that is to be made next, and at the end of the section
pub sync_due : (asked synced : Bool) (step : Option AppStep) → SyncIsNext asked synced step → is_sync_due step synced ≡ true
sync_due true synced step next = ap (λ (s : Option AppStep). is_sync_due s synced) next
sync_due false synced step next = ap (λ (s : Option AppStep). is_sync_due s synced) next.0 ∙ ap not next.1

pub end_due : (synced : Bool) (step : Option AppStep) → step ≡ None → is_sync_due step synced ≡ true
end_due synced step none = ap (λ (s : Option AppStep). is_sync_due s synced) none

-- a packet came back before a Sync, and its picture was wholly written
pub came_back : (k : ℕ) (a : Application) (f : FlightState) (packet : Packet) (seen : Log) (told : Option SceneState) (taken taken' : List Packet)
    (told_sent : Option (List Packet)) (sink sink' : SinkSide) (ends : Ends) → taken' ≡ taken ++ packet ∷ [] →
    a.held ≡ None → is_sync_due (next_step a.script.rest) a.synced ≡ true →
    a.flight.written < a.flight.frames → a.flight.fault ≡ None → CameBack packet a.flight f sink sink' →
    Polled k (Ok did.Did) (work_of a) (work_of (record a { flight = f }))
    (around seen told (with_back taken told_sent sink ends)) (around seen told (with_back taken' told_sent sink' ends))
came_back k a f packet seen told taken taken' told_sent sink sink' ends took bare due away whole came =
    let back = brought_back k a f packet seen told taken taken' told_sent sink sink' ends took away whole came in
    record {
      given = back.kept.given;
      part = back.kept.part;
      home = back.kept.home;
      counted = back.kept.counted;
      passes = back.kept.passes;
      told = back.kept.told;
      waited = back.kept.waited;
      whole = λ ok. back.says.fault;
      adds = back.kept.adds;
      answer = inr (inl (record {
        at = refl;
        own = refl;
        told = refl;
        ends = back.says.ends;
        many = back.many;
        written = back.says.written;
        bare = bare;
        due = due;
      }));
    }

-- a packet came back before a Sync, and a fault cut its picture short
pub came_short : (k : ℕ) (a : Application) (f : FlightState) (packet : Packet) (seen seen' : Log) (told told' : Option SceneState)
    (taken taken' : List Packet) (told_sent : Option (List Packet)) (sink sink' : SinkSide) (ends : Ends) → taken' ≡ taken ++ packet ∷ [] →
    a.held ≡ None → is_sync_due (next_step a.script.rest) a.synced ≡ true →
    a.flight.written < a.flight.frames → a.flight.fault ≡ None → CameShort packet a.flight f sink sink' → Marks k seen told seen' told' →
    (HoldsCopies told → HoldsCopies told') →
    Polled k (Err error.FrameFault) (work_of a) (work_of (record a { flight = f }))
    (around seen told (with_back taken told_sent sink ends)) (around seen' told' (with_back taken' told_sent sink' ends))
came_short k a f packet seen seen' told told' taken taken' told_sent sink sink' ends took bare due away whole came marks counted =
    let back =
    brought_short k a f packet seen seen' told told' taken taken' told_sent sink sink' ends took away whole came marks counted in
    record {
      given = back.kept.given;
      part = back.kept.part;
      home = back.kept.home;
      counted = back.kept.counted;
      passes = back.kept.passes;
      told = back.kept.told;
      waited = back.kept.waited;
      whole = λ ok. absurd (cc);
      adds = back.kept.adds;
      answer = record {
        at = refl;
        own = back.own;
        told = back.says.told;
        many = back.many;
        ends = back.says.ends;
        rose = back.says.rose;
        last = back.says.last;
        fault = back.says.fault;
        bare = bare;
        due = due;
      };
    }

or_false : (t : Bool) → (t || false) ≡ t
or_false true = refl
or_false false = refl

-- the packet that is held was sent
pub was_sent : (k : ℕ) (a : Application) (packet : Packet) (last : Bool) (seen : Log) (told : Option SceneState) (sent sent' : List Packet) (room : ℕ)
    (told_taken : Option (List Packet)) (ends : Ends) → a.held ≡ None → a.ended ≡ false → last ≡ is_end packet → sent' ≡ sent ++ packet ∷ [] →
    Polled k (Ok did.Did) (holding packet (work_of a)) (work_of (record a { ended = last }))
    (around seen told (with_sent sent room told_taken ends)) (around seen told (with_sent sent' room told_taken ends))
was_sent k a packet last seen told sent sent' room told_taken ends bare going last_is pushed =
    record {
      given = λ g given. record {
        within = given.within;
        rest = given.rest;
        merges = given.merges;
        lens = given.lens;
        back = given.back;
        ahead = given.ahead;
        channels = given.channels;
        stands = given.stands;
      };
      part = λ g stream given own keeps.
          kept_on g k (work_of (record a { ended = last })).state seen told (with_sent sent' room told_taken ends) stream
          (subst (λ (s : AppState). AppKeeps g k s seen ends.taken sent' stream) states
          (subst (λ (t : List Packet). AppKeeps g k
          (record (work_of a).state { closed = a.ended || is_end packet; ended = a.ended || is_end packet; held = None }) seen ends.taken t stream)
          (sym pushed)
          ((app_law g k (holding packet (work_of a)).state seen ends.taken sent stream keeps).sends packet refl)));
      home = λ g stream given own keeps has.
          home_same g k (holding packet (work_of a)) (work_of (record a { ended = last })) seen ends.taken refl refl has;
      counted = λ holds right. holds;
      passes = λ enough. enough;
      told = refl;
      waited = λ enough. enough;
      whole = λ ok. refl;
      adds = record { found = seen; goes_on = found-self k seen; adds = inl refl };
      answer = inl (record {
        at = refl;
        own = refl;
        told = refl;
        ends = refl;
        many = ap length pushed ∙ length_push sent packet;
        all = ap (λ (h : Option Packet). sent_and_held sent' h) bare ∙ append-nil sent' ∙ pushed;
      });
    }
  where
    ended : (a.ended || is_end packet) ≡ last
    ended = ap (λ t. t || is_end packet) going ∙ sym last_is

    closed : (a.ended || is_end packet) ≡ (last || holds_end a.held)
    closed = ended ∙ sym (or_false last) ∙ ap (λ (h : Option Packet). last || holds_end h) (sym bare)

    states : record (work_of a).state { closed = a.ended || is_end packet; ended = a.ended || is_end packet; held = None }
        ≡ (work_of (record a { ended = last })).state
    states = λ i. record (work_of a).state { closed = closed i; ended = ended i; held = (sym bare) i }

-- the packet that is held stays held
pub was_not_sent : (k : ℕ) (a : Application) (packet packet' : Packet) (seen : Log) (told : Option SceneState) (sent sent' : List Packet) (room : ℕ)
    (told_taken : Option (List Packet)) (ends : Ends) → packet' ≡ packet → sent' ≡ sent → IsFull room told_taken sent →
    Polled k (Ok did.NotYet) (holding packet (work_of a)) (work_of (record a { held = Some packet' }))
    (around seen told (with_sent sent room told_taken ends)) (around seen told (with_sent sent' room told_taken ends))
was_not_sent k a packet packet' seen told sent sent' room told_taken ends back same full =
    subst (λ (t : List Packet). Polled k (Ok did.NotYet) (holding packet (work_of a)) (work_of (record a { held = Some packet' }))
    (around seen told (with_sent sent room told_taken ends)) (around seen told (with_sent t room told_taken ends))) (sym same)
    (idle k (holding packet (work_of a)) (work_of (record a { held = Some packet' })) seen seen told told (with_sent sent room told_taken ends)
    (found-self k seen) (ap (λ (p : Packet). work_of (record a { held = Some p })) back) refl full)

-- a wait was passed
pub passes_wait : (k wanted : ℕ) (w : AppWork) (seen : Log) (told : Option SceneState) (ends : Ends) → w.state.held ≡ None → w.state.closed ≡ false →
    next_step w.rest ≡ Some (app.Wait wanted) → wanted ≤ merges_in seen → w.state.need ≤ merges_in seen →
    Polled k (Ok did.Did) w (record w { rest = drop 1 w.rest; state = record w.state { at = w.state.at + 1; need = max w.state.need wanted } })
    (around seen told ends) (around seen told ends)
passes_wait k wanted w seen told ends bare going next here before =
    let enough : max w.state.need wanted ≤ merges_in seen = omega (arith, here, before) in
    record {
      given = λ g given. given_passed g w after (app.Wait wanted) given next refl refl refl;
      part = λ g stream given own keeps.
          kept_on g k after.state seen told ends stream
          ((app_law g k w.state seen ends.taken ends.sent stream keeps).waits (w.state.at + 1) (max w.state.need wanted) (omega arith)
          (asked_at g after (given_passed g w after (app.Wait wanted) given next refl refl refl) going
          ∙ sym (asked_next g w (app.Wait wanted) given going next)));
      home = λ g stream given own keeps has. home_same g k w after seen ends.taken refl refl has;
      counted = λ holds right. holds;
      passes = λ fewer. omega (arith, fewer);
      told = refl;
      waited = λ old. enough;
      whole = λ ok. refl;
      adds = record { found = seen; goes_on = found-self k seen; adds = inl refl };
      answer = inr (inr (inl (record { at = refl; need = enough; own = refl; told = refl; ends = refl; bare = bare })));
    }
  where
    after : AppWork
    after = record w { rest = drop 1 w.rest; state = record w.state { at = w.state.at + 1; need = max w.state.need wanted } }

-- nothing came back, and the next step was taken
pub nothing_back : (r : Result Did StageError) (k : ℕ) (a : Application) (f : FlightState) (w' : AppWork) (seen seen' : Log) (told told' : Option SceneState)
    (taken taken' : List Packet) (told_sent : Option (List Packet)) (sink sink' : SinkSide) (ends : Ends) → f ≡ a.flight → taken' ≡ taken → sink' ≡ sink →
    (a.flight.written < a.flight.frames → IsDry told_sent taken) →
    ((ends : Ends) → IsBackFrom f ends → Polled k r (work_of (record a { flight = f })) w' (around seen told ends) (around seen' told' ends)) →
    Polled k r (work_of a) w' (around seen told (with_back taken told_sent sink ends)) (around seen' told' (with_back taken' told_sent sink' ends))
nothing_back r k a f w' seen seen' told told' taken taken' told_sent sink sink' ends same none still dry polled =
    subst (λ (t : List Packet). Polled k r (work_of a) w' (around seen told (with_back taken told_sent sink ends)) (around seen' told' (with_back t told_sent sink' ends))) (sym none)
    (subst (λ (s : SinkSide). Polled k r (work_of a) w' (around seen told (with_back taken told_sent sink ends)) (around seen' told' (with_back taken told_sent s ends))) (sym still)
    (subst (λ (v : FlightState). Polled k r (work_of (record a { flight = v })) w' (around seen told (with_back taken told_sent sink ends))
    (around seen' told' (with_back taken told_sent sink ends))) same
    (polled (with_back taken told_sent sink ends) (subst (λ (v : FlightState). v.written < v.frames → IsDry told_sent taken) (sym same) dry))))
