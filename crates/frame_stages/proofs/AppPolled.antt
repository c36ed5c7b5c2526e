-- What the outcomes of a step say of a poll.
use Rattle.std.proofs.Common.{◌≡◌, inl, inr, ℕ, ◌+◌, ◌<◌, ◌≤◌, true, List, [], ◌∷◌, ◌++◌, length, Option, Some, None, Result, Ok, Err, refl, sym, ap, ◌∙◌, subst, arith}
use Rattle.std.proofs.lemmas.List.{append-nil}
use Rattle.std.specs.Io.KnownBytes.{append_known}
use Rattle.seat_lock.specs.Log.{of, Found}
use Rattle.seat_lock.proofs.Logs.{of_found, found-trans}
use Rattle.pf_history.specs.declared.commands.Caller.TheVariants.{App}
use Rattle.pf_history.specs.declared.commands.Command.{Command}
use Rattle.pf_history.specs.declared.commands.Entry.{Entry}
use Rattle.pf_history.specs.Commands.{caller_of}
use Rattle.pf_history.specs.Logs.{Log, state_of, entry_of}
use Rattle.pf_history.specs.Laws.{own_entry}
use Rattle.pf_scene.specs.Scenes.{Shared, SceneState, entered}
use Rattle.pf_scene.specs.Acts.{seated}
use Rattle.stage_parts.specs.Loads.{LoadState}
use Rattle.stage_parts.specs.States.{Setup, AppState}
use Rattle.stage_parts.specs.Frames.{AreOwnFrames, RetiresJust}
use Rattle.stage_parts.specs.Parts.{AppKeeps}
use Rattle.stage_parts.proofs.Numbers.{own_front}
use Rattle.stage_parts.specs.Answers.{IsDry}
use Rattle.stage_parts.specs.declared.answers.Did.{Did}
use Rattle.stage_parts.specs.declared.answers.Did.TheVariants as did
use Rattle.stage_parts.specs.declared.answers.StageError.{StageError}
use Rattle.stage_parts.specs.declared.answers.StageError.TheVariants as error
use Rattle.frame_stages.specs.Scripts.{next_step, is_sync_due, own_lines}
use Rattle.frame_stages.specs.AppTurns.{Tells, Made, Wanting, IsMarked, Marks}
use Rattle.frame_stages.specs.AppWorks.{AppWork, IsGiven, PassesEnough, merges_in}
use Rattle.frame_stages.specs.Copies.{HoldsCopies, IsHomeRight, HasHome}
use Rattle.frame_stages.specs.AppAnswers.{Ends, Around, around, IsLonger, MayWant, AppWaits, AppAnswers, AppAdds, KeepsOn, IsKeptBy, Polled}
use Rattle.frame_stages.proofs.AppLogs.{keeps_found, merges_more, merges_found, one_more}
use Rattle.frame_stages.proofs.AppHome.{home_found, home_same}

append_none : (b : Option (List ℕ)) → append_known b [] ≡ b
append_none None = refl
append_none (Some xs) = ap Some (append-nil xs)

-- nothing was written
pub kept_on : (g : Setup) (k : ℕ) (a : AppState) (seen : Log) (told : Option SceneState) (ends : Ends) (stream : List ℕ) →
    AppKeeps g k a seen ends.taken ends.sent stream → KeepsOn g k a ends.sink.bytes (around seen told ends) stream
kept_on g k a seen told ends stream keeps =
    record {
      more = [];
      wrote = sym (append_none ends.sink.bytes);
      keeps = subst (λ (s : List ℕ). AppKeeps g k a seen ends.taken ends.sent s) (sym (append-nil stream)) keeps;
    }

tells_as : (P Q : Shared → Shared → Type 0) (told told' : Option SceneState) → ((old new : Shared) → P old new → Q old new) →
    Tells P told told' → Tells Q told told'
tells_as P Q None told' as_q tells = tells
tells_as P Q (Some scene) told' as_q (left, is, holds) = (left, is, as_q scene.shared left.shared holds)

-- nothing changed
pub idle : (k : ℕ) (w w' : AppWork) (seen seen' : Log) (told told' : Option SceneState) (ends : Ends) →
    Found k seen seen' → w' ≡ w → told' ≡ told → AppWaits w told ends seen' →
    Polled k (Ok did.NotYet) w w' (around seen told ends) (around seen' told' ends)
idle k w w' seen seen' told told' ends found same still waits =
    subst (λ (v : AppWork). Polled k (Ok did.NotYet) w v (around seen told ends) (around seen' told' ends)) (sym same)
    (subst (λ (t : Option SceneState). Polled k (Ok did.NotYet) w w (around seen told ends) (around seen' t ends)) (sym still)
    (record {
      given = λ g given. given;
      part = λ g stream given own keeps.
          kept_on g k w.state seen' told ends stream (keeps_found g k w.state seen seen' ends.taken ends.sent stream found keeps);
      home = λ g stream given own keeps has. home_found g k w seen seen' ends.taken found has;
      counted = λ holds right. holds;
      passes = λ enough. enough;
      told = refl;
      waited = λ enough. let more = merges_found k seen seen' found in omega (arith, enough, more);
      whole = λ ok. refl;
      adds = record { found = seen'; goes_on = found; adds = inl refl };
      answer = (record { work = refl; own = of_found k seen seen' found; told = refl; ends = refl }, waits);
    }))

-- it was over
pub over : (k : ℕ) (w : AppWork) (seen seen' : Log) (told told' : Option SceneState) (ends : Ends) → Found k seen seen' → told' ≡ told →
    Polled k (Ok did.Over) w w (around seen told ends) (around seen' told' ends)
over k w seen seen' told told' ends found still =
    subst (λ (t : Option SceneState). Polled k (Ok did.Over) w w (around seen told ends) (around seen' t ends)) (sym still)
    (record {
      given = λ g given. given;
      part = λ g stream given own keeps.
          kept_on g k w.state seen' told ends stream (keeps_found g k w.state seen seen' ends.taken ends.sent stream found keeps);
      home = λ g stream given own keeps has. home_found g k w seen seen' ends.taken found has;
      counted = λ holds right. holds;
      passes = λ enough. enough;
      told = refl;
      waited = λ enough. let more = merges_found k seen seen' found in omega (arith, enough, more);
      whole = λ ok. refl;
      adds = record { found = seen'; goes_on = found; adds = inl refl };
      answer = record { work = refl; own = of_found k seen seen' found; told = refl; ends = refl };
    })

-- The same with other loads in hand, as many.
pub record IsRespared (w w' : AppWork) : Type 0 where
  pub same : w' ≡ record w { state = record w.state { spare = w'.state.spare } }
  pub many : length w'.state.spare ≡ length w.state.spare

respare : (g : Setup) (k : ℕ) (a : AppState) (log : Log) (ends : Ends) (stream : List ℕ) (spare : List LoadState) → length spare ≡ length a.spare →
    AppKeeps g k a log ends.taken ends.sent stream → AppKeeps g k (record a { spare = spare }) log ends.taken ends.sent stream
respare g k a log ends stream spare many keeps =
    let p = keeps.part in
    let s = keeps.streams in
    let l = keeps.loads.all in
    record {
      follows = keeps.follows;
      part = record { cuts = p.cuts; ends = p.ends; ready = p.ready; ended = p.ended; frames = p.frames; few = p.few; fresh = p.fresh; late = p.late };
      streams = record { bytes = s.bytes; all = s.all; retired = s.retired; begun = s.begun; in_flight = s.in_flight; numbers = s.numbers };
      loads = record { all = omega (arith, l, many) };
    }

-- there was no memory, and the mark is set
pub out : (k : ℕ) (w w' : AppWork) (seen seen' : Log) (told told' : Option SceneState) (ends : Ends) → MayWant (next_step w.rest) → w.state.held ≡ None →
    Marks k seen told seen' told' → (HoldsCopies told → IsHomeRight w told → HoldsCopies told') → IsRespared w w' →
    Polled k (Err error.NoMemory) w w' (around seen told ends) (around seen' told' ends)
out k w w' seen seen' told told' ends wanted bare marks counted as_before =
    subst (λ (v : AppWork). Polled k (Err error.NoMemory) w v (around seen told ends) (around seen' told' ends)) (sym as_before.same)
    (record {
      given = λ g given. record {
        within = given.within;
        rest = given.rest;
        merges = given.merges;
        lens = given.lens;
        back = given.back;
        ahead = given.ahead;
        channels = given.channels;
        stands = given.stands;
      };
      part = λ g stream given own keeps.
          kept_on g k (record w.state { spare = w'.state.spare }) seen' told' ends stream
          (respare g k w.state seen' ends stream w'.state.spare as_before.many
          (keeps_found g k w.state seen seen' ends.taken ends.sent stream marks.goes_on keeps));
      home = λ g stream given own keeps has.
          home_same g k w (record w { state = record w.state { spare = w'.state.spare } }) seen' ends.taken refl refl
          (home_found g k w seen seen' ends.taken marks.goes_on has);
      counted = counted;
      passes = λ enough. enough;
      told = refl;
      waited = λ enough. let more = merges_found k seen seen' marks.goes_on in omega (arith, enough, more);
      whole = λ ok. refl;
      adds = record { found = seen'; goes_on = marks.goes_on; adds = inl refl };
      answer = record { wanted = wanted; at = refl; own = of_found k seen seen' marks.goes_on; told = marks.tells; ends = refl; bare = bare };
    })

marked_later : (k : ℕ) (told told' told'' : Option SceneState) → Tells (λ old new. new ≡ seated k old) told told' →
    Tells IsMarked told' told'' → Tells IsMarked told told''
marked_later k None told' told'' first second = subst (λ (t : Option SceneState). Tells IsMarked t told'') first second
marked_later k (Some scene) told' told'' (left, is, seat) second =
    by left seat (subst (λ (t : Option SceneState). Tells IsMarked t told'') is second)
  where
    by : (left : SceneState) → left.shared ≡ seated k scene.shared → Tells IsMarked (Some left) told'' → Tells IsMarked (Some scene) told''
    by left seat (last, is, m) = (
      last,
      is,
      record {
        stopped = m.stopped;
        log = m.log ∙ ap (λ (s : Shared). s.log) seat;
        ahead = m.ahead ∙ ap (λ (s : Shared). s.ahead) seat;
        channels = m.channels ∙ ap (λ (s : Shared). s.channels) seat;
      },
    )

-- the mark is set after want of memory
pub marks_later : (k : ℕ) (seen seen' seen'' : Log) (told told' told'' : Option SceneState) → Wanting k seen told seen' told' →
    Marks k seen' told' seen'' told'' → Marks k seen told seen'' told''
marks_later k seen seen' seen'' told told' told'' first second =
    record {
      goes_on = found-trans k seen seen' seen'' first.goes_on second.goes_on;
      tells = marked_later k told told' told'' first.tells second.tells;
    }

-- How the stage goes on by an entry of this command.
pub record GoesOnBy (k : ℕ) (c : Command) (ends : Ends) (w w' : AppWork) (found : Shared) : Type 0 where
  pub app : caller_of c ≡ App
  pub retires : RetiresJust w'.state.written c
  pub at : w.state.at ≤ w'.state.at
  pub line : w'.state.at ≡ w.state.at + own_lines (next_step w.rest) w.state.synced
  pub need : w'.state.need ≡ w.state.need
  pub passes : PassesEnough w.state → PassesEnough w'.state
  pub fault : w'.state.fault ≡ w.state.fault
  pub told : w'.told ≡ w.told
  pub stays_open : (next_step w.rest ≡ None → ⊥) → w'.state.closed ≡ w.state.closed
  pub given : (g : Setup) → IsGiven g w → IsGiven g w'
  pub part : (g : Setup) (stream : List ℕ) → IsGiven g w → AreOwnFrames k found.log →
      AppKeeps g k w.state found.log ends.taken ends.sent stream →
      AppKeeps g k w'.state (found.log ++ own_entry found.channels found.log k c ∷ []) ends.taken ends.sent stream
  pub home : (g : Setup) (stream : List ℕ) → IsGiven g w → AppKeeps g k w.state found.log ends.taken ends.sent stream →
      HasHome g k w found.log ends.taken → HasHome g k w' (found.log ++ own_entry found.channels found.log k c ∷ []) ends.taken

longer : (k : ℕ) (c : Command) → caller_of c ≡ App → (old new : Shared) → new ≡ entered c (seated k old) → IsLonger k old new
longer k c app old new is =
    record {
      entry = entry_of (state_of old.channels old.log) c;
      app = app;
      log = ap (λ (s : Shared). s.log) is;
      stopped = ap (λ (s : Shared). s.stopped) is;
      ahead = ap (λ (s : Shared). s.ahead) is;
      channels = ap (λ (s : Shared). s.channels) is;
    }

-- an entry was made
pub by_entry : (k : ℕ) (c : Command) (May : Shared → Type 0) (w w' : AppWork) (seen seen' : Log) (told told' : Option SceneState) (ends : Ends)
    (m : Made k c May seen told seen' told') → w.state.held ≡ None →
    (is_sync_due (next_step w.rest) w.state.synced ≡ true → w.state.written < w.state.frames → IsDry ends.told_sent ends.taken) →
    (HoldsCopies told → IsHomeRight w told → HoldsCopies told') → GoesOnBy k c ends w w' m.found →
    Polled k (Ok did.Did) w w' (around seen told ends) (around seen' told' ends)
by_entry k c May w w' seen seen' told told' ends m bare back counted by =
    let log = m.found.log in
    let e = own_entry m.found.channels log k c in
    record {
      given = by.given;
      part = λ g stream given own keeps.
          kept_on g k w'.state seen' told' ends stream
          (subst (λ (l : Log). AppKeeps g k w'.state l ends.taken ends.sent stream) (sym m.adds)
          (by.part g stream given (own_front k log (e ∷ []) (subst (AreOwnFrames k) m.adds own))
          (keeps_found g k w.state seen log ends.taken ends.sent stream m.goes_on keeps)));
      home = λ g stream given own keeps has.
          subst (λ (l : Log). HasHome g k w' l ends.taken) (sym m.adds)
          (by.home g stream given (keeps_found g k w.state seen log ends.taken ends.sent stream m.goes_on keeps)
          (home_found g k w seen log ends.taken m.goes_on has));
      counted = counted;
      passes = by.passes;
      told = by.told;
      waited = λ enough.
          let first = merges_found k seen log m.goes_on in
          let second : merges_in log ≤ merges_in seen' = subst (λ (l : Log). merges_in log ≤ merges_in l) (sym m.adds) (merges_more log (e ∷ [])) in
          let need = by.need in
          omega (arith, enough, first, second, need);
      whole = λ ok. by.fault;
      adds = record { found = log; goes_on = m.goes_on; adds = inr (entry_of (state_of m.found.channels log) c, by.app, by.retires, m.adds) };
      answer = inr (inr (inr (record {
        at = by.at;
        own = ap (λ (l : Log). length (of k l)) m.adds ∙ one_more k log e.1 ∙ ap (λ (es : List Entry). length es + 1) (of_found k seen log m.goes_on);
        told = tells_as (λ old new. new ≡ entered c (seated k old)) (IsLonger k) told told' (longer k c by.app) m.tells;
        ends = refl;
        bare = bare;
        line = by.line;
        stays_open = by.stays_open;
        back = back;
      })));
    }

looked_answer : (r : Result Did StageError) (k : ℕ) (w w' : AppWork) (first seen : Log) (told : Option SceneState) (ends : Ends) (after : Around) →
    of k seen ≡ of k first → AppAnswers r k w w' (around seen told ends) after → AppAnswers r k w w' (around first told ends) after
looked_answer (Ok did.Did) k w w' first seen told ends after own (inl s) =
    inl (record { at = s.at; own = s.own ∙ own; told = s.told; ends = s.ends; many = s.many; all = s.all })
looked_answer (Ok did.Did) k w w' first seen told ends after own (inr (inl s)) =
    inr (inl (record {
      at = s.at;
      own = s.own ∙ own;
      told = s.told;
      ends = s.ends;
      many = s.many;
      written = s.written;
      bare = s.bare;
      due = s.due;
    }))
looked_answer (Ok did.Did) k w w' first seen told ends after own (inr (inr (inl s))) =
    inr (inr (inl (record { at = s.at; need = s.need; own = s.own ∙ own; told = s.told; ends = s.ends; bare = s.bare })))
looked_answer (Ok did.Did) k w w' first seen told ends after own (inr (inr (inr s))) =
    inr (inr (inr (record {
      at = s.at;
      own = s.own ∙ ap (λ (es : List Entry). length es + 1) own;
      told = s.told;
      ends = s.ends;
      bare = s.bare;
      line = s.line;
      stays_open = s.stays_open;
      back = s.back;
    })))
looked_answer (Ok did.NotYet) k w w' first seen told ends after own (s, waits) =
    (record { work = s.work; own = s.own ∙ own; told = s.told; ends = s.ends }, waits)
looked_answer (Ok did.Over) k w w' first seen told ends after own s =
    record { work = s.work; own = s.own ∙ own; told = s.told; ends = s.ends }
looked_answer (Err error.FrameFault) k w w' first seen told ends after own s =
    record {
      at = s.at;
      own = s.own ∙ own;
      told = s.told;
      many = s.many;
      ends = s.ends;
      rose = s.rose;
      last = s.last;
      fault = s.fault;
      bare = s.bare;
      due = s.due;
    }
looked_answer (Err error.NoMemory) k w w' first seen told ends after own s =
    record { wanted = s.wanted; at = s.at; own = s.own ∙ own; told = s.told; ends = s.ends; bare = s.bare }

adds_later : (k written : ℕ) (first seen seen' : Log) → Found k first seen → AppAdds k written seen seen' → AppAdds k written first seen'
adds_later k written first seen seen' found adds =
    record { found = adds.found; goes_on = found-trans k first seen adds.found found adds.goes_on; adds = adds.adds }

-- after a look the same holds of what stood before the look
pub looked : (r : Result Did StageError) (k : ℕ) (w w' : AppWork) (first seen : Log) (told : Option SceneState) (ends : Ends) (after : Around) →
    Found k first seen → Polled k r w w' (around seen told ends) after → Polled k r w w' (around first told ends) after
looked r k w w' first seen told ends after found polled =
    record {
      given = polled.given;
      part = λ g stream given own keeps.
          polled.part g stream given own (keeps_found g k w.state first seen ends.taken ends.sent stream found keeps);
      home = λ g stream given own keeps has.
          polled.home g stream given own (keeps_found g k w.state first seen ends.taken ends.sent stream found keeps)
          (home_found g k w first seen ends.taken found has);
      counted = polled.counted;
      passes = polled.passes;
      told = polled.told;
      waited = λ enough.
          let more = merges_found k first seen found in
          polled.waited (omega (arith, enough, more));
      whole = polled.whole;
      adds = adds_later k w'.state.written first seen after.seen found polled.adds;
      answer = looked_answer r k w w' first seen told ends after (of_found k first seen found) polled.answer;
    }

-- what a poll keeps
pub polled_keeps : (r : Result Did StageError) (k : ℕ) (w w' : AppWork) (before after : Around) → Polled k r w w' before after →
    IsKeptBy k w w' before after
polled_keeps r k w w' before after polled =
    record {
      given = polled.given;
      part = polled.part;
      home = polled.home;
      counted = polled.counted;
      passes = polled.passes;
      told = polled.told;
      waited = polled.waited;
      adds = polled.adds;
    }
