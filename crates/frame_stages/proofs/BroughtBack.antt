-- A packet comes back, wherever in its section the application stands.
use Rattle.std.proofs.Common.{◌≡◌, inl, ℕ, ◌+◌, ◌<◌, List, [], ◌∷◌, ◌++◌, take, length, Option, Some, None, Result, Ok, Err, refl, sym, ap, ◌∙◌, subst, arith}
use Rattle.std.proofs.lemmas.List.{length_push}
use Rattle.seat_lock.proofs.Logs.{of_found, found-self}
use Rattle.pf_history.specs.Logs.{Log}
use Rattle.pf_scene.specs.Scenes.{SceneState}
use Rattle.stage_parts.specs.declared.packets.Packet.{Packet}
use Rattle.stage_parts.specs.Packets.{bytes_in}
use Rattle.stage_parts.specs.States.{AppState}
use Rattle.stage_parts.specs.Parts.{AppKeeps, cut_short}
use Rattle.stage_parts.proofs.AppSteps.{app_law}
use Rattle.stage_parts.specs.declared.answers.Did.{Did}
use Rattle.stage_parts.specs.declared.answers.Did.TheVariants as did
use Rattle.stage_parts.specs.declared.answers.StageError.{StageError}
use Rattle.stage_parts.specs.declared.answers.StageError.TheVariants as error
use Rattle.stage_parts.specs.Answers.{IsDry}
use Rattle.frame_stages.specs.declared.application.Application.{Application}
use Rattle.frame_stages.specs.Flights.{FlightState, SinkSide, CameBack, CameShort}
use Rattle.frame_stages.specs.AppTurns.{Marks}
use Rattle.frame_stages.specs.AppWorks.{AppWork, PassesEnough, work_of}
use Rattle.frame_stages.specs.Copies.{HoldsCopies, HasHome}
use Rattle.frame_stages.specs.AppAnswers.{Ends, Around, around, with_back}
use Rattle.frame_stages.specs.AppBacks.{BringsBack, FindsNone, TakesOnly}
use Rattle.frame_stages.proofs.AppLogs.{keeps_found, merges_found}
use Rattle.frame_stages.proofs.AppHome.{home_found, home_back}

-- its picture was wholly written
pub brought_back : (k : ℕ) (a : Application) (f : FlightState) (packet : Packet) (seen : Log) (told : Option SceneState)
    (taken taken' : List Packet) (told_sent : Option (List Packet)) (sink sink' : SinkSide) (ends : Ends) → taken' ≡ taken ++ packet ∷ [] →
    a.flight.written < a.flight.frames → a.flight.fault ≡ None → CameBack packet a.flight f sink sink' →
    BringsBack k (Ok did.Did) (work_of a) (work_of (record a { flight = f }))
    (around seen told (with_back taken told_sent sink ends)) (around seen told (with_back taken' told_sent sink' ends))
brought_back k a f packet seen told taken taken' told_sent sink sink' ends took away whole came =
    subst (λ (v : FlightState). BringsBack k (Ok did.Did) (work_of a) (work_of (record a { flight = v }))
    (around seen told (with_back taken told_sent sink ends)) (around seen told (with_back taken' told_sent sink' ends))) (sym came.state)
    (record {
      kept = record {
        given = λ g given. record {
          within = given.within;
          rest = given.rest;
          merges = given.merges;
          lens = given.lens;
          back = given.back;
          ahead = given.ahead;
          channels = given.channels;
          stands = given.stands;
        };
        part = λ g stream given own keeps.
            let all = keeps.streams.all in
            let short : cut_short a.flight.fault ≡ 0 = ap cut_short whole in
            record {
              more = bytes_in packet;
              wrote = ap (λ (s : SinkSide). s.bytes) came.wrote;
              keeps = subst (λ (t : List Packet). AppKeeps g k
                  (record (work_of a).state { written = a.flight.written + 1; spare = f.spare; stats = f.stats }) seen t ends.sent
                  (stream ++ bytes_in packet)) (sym took)
                  ((app_law g k (work_of a).state seen taken ends.sent stream keeps).writes packet f.spare f.stats whole
                  (omega (arith, all, short, away)) came.kept.spare came.kept.stats);
            };
        home = λ g stream given own keeps has.
            let after : AppWork = record (work_of a) {
              state = record (work_of a).state { written = a.flight.written + 1; spare = f.spare; stats = f.stats };
              home = f.home;
            } in
            subst (λ (t : List Packet). HasHome g k after seen t) (sym took)
            (home_back g k (work_of a) after seen taken ends.sent stream packet given keeps away whole refl came.kept.home has);
        counted = λ holds right. holds;
        passes = λ enough. enough;
        told = refl;
        waited = λ enough. enough;
        adds = record { found = seen; goes_on = found-self k seen; adds = inl refl };
      };
      work = refl;
      away = away;
      own = refl;
      many = ap length took ∙ length_push taken packet;
      says = record {
        told = refl;
        ends = ap (λ (s : SinkSide). with_back taken' told_sent s ends)
            (came.wrote ∙ ap (λ (b : Option (List ℕ)). record sink { bytes = b }) (sym (ap (λ (s : SinkSide). s.bytes) came.wrote)));
        written = refl;
        fault = refl;
      };
    })

-- a fault cut its picture short
pub brought_short : (k : ℕ) (a : Application) (f : FlightState) (packet : Packet) (seen seen' : Log) (told told' : Option SceneState)
    (taken taken' : List Packet) (told_sent : Option (List Packet)) (sink sink' : SinkSide) (ends : Ends) → taken' ≡ taken ++ packet ∷ [] →
    a.flight.written < a.flight.frames → a.flight.fault ≡ None → CameShort packet a.flight f sink sink' → Marks k seen told seen' told' →
    (HoldsCopies told → HoldsCopies told') →
    BringsBack k (Err error.FrameFault) (work_of a) (work_of (record a { flight = f }))
    (around seen told (with_back taken told_sent sink ends)) (around seen' told' (with_back taken' told_sent sink' ends))
brought_short k a f packet seen seen' told told' taken taken' told_sent sink sink' ends took away whole came marks counted =
    subst (λ (v : FlightState). BringsBack k (Err error.FrameFault) (work_of a) (work_of (record a { flight = v }))
    (around seen told (with_back taken told_sent sink ends)) (around seen' told' (with_back taken' told_sent sink' ends))) (sym came.state)
    (record {
      kept = record {
        given = λ g given. record {
          within = given.within;
          rest = given.rest;
          merges = given.merges;
          lens = given.lens;
          back = given.back;
          ahead = given.ahead;
          channels = given.channels;
          stands = given.stands;
        };
        part = λ g stream given own keeps.
            let all = keeps.streams.all in
            let short : cut_short a.flight.fault ≡ 0 = ap cut_short whole in
            let next : AppState = record (work_of a).state { fault = Some came.bytes; spare = f.spare; stats = f.stats } in
            record {
              more = take came.bytes (bytes_in packet);
              wrote = came.wrote;
              keeps = subst (λ (t : List Packet). AppKeeps g k next seen' t ends.sent (stream ++ take came.bytes (bytes_in packet)))
                  (sym took)
                  (keeps_found g k next seen seen' (taken ++ packet ∷ []) ends.sent (stream ++ take came.bytes (bytes_in packet)) marks.goes_on
                  ((app_law g k (work_of a).state seen taken ends.sent stream keeps).fails packet came.bytes f.spare f.stats whole
                  (omega (arith, all, short, away)) came.kept.spare came.kept.stats));
            };
        home = λ g stream given own keeps has.
            let after : AppWork = record (work_of a) {
              state = record (work_of a).state { fault = Some came.bytes; spare = f.spare; stats = f.stats };
              home = f.home;
            } in
            subst (λ (t : List Packet). HasHome g k after seen' t) (sym took)
            (home_found g k after seen seen' (taken ++ packet ∷ []) marks.goes_on
            (home_back g k (work_of a) after seen taken ends.sent stream packet given keeps away whole refl came.kept.home has));
        counted = λ holds right. counted holds;
        passes = λ enough. enough;
        told = refl;
        waited = λ enough. let more = merges_found k seen seen' marks.goes_on in omega (arith, enough, more);
        adds = record { found = seen'; goes_on = marks.goes_on; adds = inl refl };
      };
      work = refl;
      away = away;
      own = of_found k seen seen' marks.goes_on;
      many = ap length took ∙ length_push taken packet;
      says = record {
        told = marks.tells;
        ends = refl;
        rose = came.rose;
        last = came.last;
        written = refl;
        fault = refl;
      };
    })

-- nothing came back
pub found_none : (k : ℕ) (a : Application) (f : FlightState) (seen : Log) (told : Option SceneState) (taken taken' : List Packet)
    (told_sent : Option (List Packet)) (sink sink' : SinkSide) (ends : Ends) → f ≡ a.flight → taken' ≡ taken → sink' ≡ sink →
    (a.flight.written < a.flight.frames → IsDry told_sent taken) →
    FindsNone k (work_of a) (work_of (record a { flight = f }))
    (around seen told (with_back taken told_sent sink ends)) (around seen told (with_back taken' told_sent sink' ends))
found_none k a f seen told taken taken' told_sent sink sink' ends same none still dry =
    record {
      idle = record {
        work = ap (λ (v : FlightState). work_of (record a { flight = v })) same;
        own = refl;
        told = refl;
        ends = ap (λ (t : List Packet). with_back t told_sent sink' ends) none ∙ ap (λ (s : SinkSide). with_back taken told_sent s ends) still;
      };
      seen = refl;
      dry = dry;
    }

-- whatever it answers, it passed a line for each frame
pub back_passes : (r : Result Did StageError) (k : ℕ) (w w' : AppWork) (before after : Around) → TakesOnly k r w w' before after →
    PassesEnough w.state → PassesEnough w'.state
back_passes (Ok did.Did) k w w' before after back enough = back.kept.passes enough
back_passes (Ok did.NotYet) k w w' before after back enough = subst (λ (v : AppWork). PassesEnough v.state) (sym back.idle.work) enough
back_passes (Ok did.Over) k w w' before after back enough = back.kept.passes enough
back_passes (Err error.FrameFault) k w w' before after back enough = back.kept.passes enough
back_passes (Err error.NoMemory) k w w' before after back enough = back.kept.passes enough

-- ends of which nothing is known
abbrev pub no_ends : Ends
no_ends =
    record {
      taken = [];
      sent = [];
      told_sent = None;
      told_taken = None;
      room = 0;
      sink = record { bytes = None; faults = 0; at_fault = None };
    }
