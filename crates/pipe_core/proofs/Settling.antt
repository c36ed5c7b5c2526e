-- Settling a pipe whose play may still grow.
use Rattle.std.proofs.Common.{◌≡◌, ℕ, zero, suc, ◌+◌, ◌^◌, ◌<◌, ◌≤◌, Bool, true, false, ◌||◌, List, [], ◌∷◌, ◌++◌, drop, length, is_some, slice_get, Option, Some, None, Result, Ok, Err, inl, inr, refl, sym, ap, ◌∙◌, subst, append_assoc, arith}
use Rattle.std.proofs.lemmas.List.{append-nil}
use Rattle.std.specs.List.{AllByRecursion}
use Rattle.std.specs.Option.{option_map, MatchOption}
use Rattle.pf_model.specs.declared.lines.AppLine.{AppLine}
use Rattle.pf_model.specs.declared.lines.AppStep.{AppStep}
use Rattle.pf_history.specs.Asks.{asked_dbase}
use Rattle.pf_history.specs.Logs.{Log}
use Rattle.play_format.specs.Plays.{Script}
use Rattle.stage_parts.specs.declared.packets.Packet.{Packet}
use Rattle.stage_parts.specs.Moves.{moved}
use Rattle.stage_parts.specs.declared.answers.Did.{Did}
use Rattle.stage_parts.specs.declared.answers.Did.TheVariants as did
use Rattle.stage_parts.specs.declared.answers.StageError.{StageError}
use Rattle.frame_stages.specs.AppWorks.{is_done}
use Rattle.pipe_plays.specs.Plays.{CanRun}
use Rattle.pipe_plays.specs.Played.{Blames}
use Rattle.pipe_core.specs.declared.events.Event.{Event}
use Rattle.pipe_core.specs.declared.events.Event.TheVariants as event
use Rattle.pipe_core.specs.declared.live.LiveTurn.{LiveTurn}
use Rattle.pipe_core.specs.declared.live.LiveTurn.TheVariants as turn
use Rattle.pipe_core.specs.Cores.{CoreState, CoreFits}
use Rattle.pipe_core.specs.Waits.{IsLineFull, IsOver, StepMustWait, MustWait, IsIdleEvent, shared_of}
use Rattle.pipe_core.specs.Lives.{NextMustWait, AppMustWait, IsIdleOpen}
use Rattle.pipe_core.specs.Pipes.{PipeWork, core_of, PipeKeeps, Answers, AddsAtMostOne, Lifted, IsWritten, AppLifted}
use Rattle.pipe_core.specs.Settling.{GoesOnFrom, done_of, NoneIsBack, IsIdleTurn, AreIdle, TurnSays, TurnsGo, HaveGone, Settles, round_turns}
use Rattle.pipe_core.proofs.Sides.{never_both, ended_or_waits, counted, unheld, whole}
use Rattle.pipe_core.proofs.Lives.{not_ended, live_law}
use Rattle.pipe_core.proofs.Running.{bound}
use Rattle.pipe_core.proofs.Openings.{nothing_written, written_more}

-- Logs

pub no_further : (log : Log) → GoesOnFrom log log
no_further log = record { more = []; is = sym (append-nil log) }

pub further : (a b c : Log) → GoesOnFrom a b → GoesOnFrom b c → GoesOnFrom a c
further a b c first second =
    record {
      more = first.more ++ second.more;
      is = second.is ∙ ap (λ (l : Log). l ++ second.more) first.is ∙ append_assoc a first.more second.more;
    }

pub adds_further : (e : Event) (written : ℕ) (before after : Log) → AddsAtMostOne e written before after → GoesOnFrom before after
adds_further e written before after (inl same) = record { more = []; is = same ∙ sym (append-nil before) }
adds_further e written before after (inr adds) = record { more = (0, adds.0) ∷ []; is = adds.3 }

-- What a turn says

says_of : (play : Script) (ahead : ℕ) (e : Event) (result : Result Did StageError) (s t : CoreState) → Answers play ahead e result s t →
    TurnSays (IsIdleEvent play ahead e) (done_of result) s t
says_of play ahead e (Ok did.Did) s t answer = (answer.moves, answer.mark)
says_of play ahead e (Ok did.NotYet) s t answer = (answer.0, inr answer.2)
says_of play ahead e (Ok did.Over) s t answer = (answer.0, inl answer.1)
says_of play ahead e (Err error) s t answer = answer.3

pub idle_as : (I J : CoreState → Type 0) (result : Result Bool StageError) (s t : CoreState) → (I s → J s) → TurnSays I result s t → TurnSays J result s t
idle_as I J (Ok true) s t gives says = says
idle_as I J (Ok false) s t gives says = (says.0, gives says.1)
idle_as I J (Err error) s t gives says = says

-- nothing was done, for this cause
pub none_goes : (play : Script) (ahead : ℕ) (idle : CoreState → Type 0) (p : PipeWork) (bytes : Option (List ℕ)) → PipeKeeps play ahead p →
    idle (core_of play p) → TurnsGo play ahead idle (Ok false) p p bytes bytes
none_goes play ahead idle p bytes keeps cause =
    record {
      keeps = keeps;
      grows = no_further p.scene.shared.log;
      wrote = nothing_written bytes (core_of play p) (core_of play p) refl;
      going = λ going. going;
      says = (refl, cause);
    }

-- where none can be taken back
pub none_back : (play : Script) (p : PipeWork) → (is_done p.app.state ≡ false → p.app.state.held ≡ None → ⊥) → NoneIsBack (core_of play p)
none_back play p barred bare going whole away =
    absurd (barred (ap (λ (b : Bool). b || is_some p.app.state.fault) going ∙ ap is_some whole) bare)

-- a poll that leaves the application as it was
pub other_goes : (play : Script) (ahead : ℕ) (e : Event) (result : Result Did StageError) (p q : PipeWork) (bytes bytes' : Option (List ℕ)) →
    Lifted play ahead e result p q → IsWritten bytes bytes' (core_of play p) (core_of play q) → q.app ≡ p.app →
    TurnsGo play ahead (IsIdleEvent play ahead e) (done_of result) p q bytes bytes'
other_goes play ahead e result p q bytes bytes' lifted wrote same =
    record {
      keeps = lifted.keeps;
      grows = adds_further e q.app.state.written p.scene.shared.log q.scene.shared.log lifted.adds;
      wrote = wrote;
      going = λ going. ap (λ w. w.state.closed) same ∙ going;
      says = says_of play ahead e result (core_of play p) (core_of play q) lifted.answer;
    }

-- an application that waits for its next step waits for it, or for the next line
open_waits : (play : Script) (ahead : ℕ) (s : CoreState) → MustWait play ahead event.App s → AppMustWait play ahead s
open_waits play ahead s waits = by s.pipe.app.held waits
  where
    merges : ℕ
    merges = length (asked_dbase play.dbase)

    next : Option AppStep
    next = option_map (λ (l : AppLine). l.step) (slice_get play.app s.pipe.app.at)

    step : (o : Option AppStep) → StepMustWait merges (shared_of play ahead s) s.pipe o → NextMustWait merges (shared_of play ahead s) s.pipe o
    step None waits = tt
    step (Some x) waits = waits

    by : (held : Option Packet) → MatchOption held (StepMustWait merges (shared_of play ahead s) s.pipe next) (λ _. IsLineFull ahead s.pipe.a) →
        MatchOption held (NextMustWait merges (shared_of play ahead s) s.pipe next) (λ _. IsLineFull ahead s.pipe.a)
    by None waits = step next waits
    by (Some p) waits = waits

app_idle : (play : Script) (ahead : ℕ) (s : CoreState) → CoreFits play ahead s → IsIdleEvent play ahead event.App s → IsIdleTurn play ahead turn.App s
app_idle play ahead s fits (inl (inl ended)) going unset =
    absurd (never_both s.pipe.app.closed ((counted play ahead s fits).ends.app ended) going)
app_idle play ahead s fits (inl (inr set)) going unset = absurd (never_both s.stopped set unset)
app_idle play ahead s fits (inr waits) going unset = open_waits play ahead s waits

-- a poll of an application of which more is asked than the close
pub app_goes : (play : Script) (ahead : ℕ) (result : Result Did StageError) (p q : PipeWork) (bytes bytes' : Option (List ℕ)) →
    PipeKeeps play ahead p → AppLifted play ahead result p q bytes bytes' → (p.app.state.closed ≡ false → q.app.state.closed ≡ false) →
    TurnsGo play ahead (IsIdleTurn play ahead turn.App) (done_of result) p q bytes bytes'
app_goes play ahead result p q bytes bytes' keeps lifted going =
    record {
      keeps = lifted.lifted.keeps;
      grows = adds_further event.App q.app.state.written p.scene.shared.log q.scene.shared.log lifted.lifted.adds;
      wrote = lifted.wrote;
      going = going;
      says =
          idle_as (IsIdleEvent play ahead event.App) (IsIdleTurn play ahead turn.App) (done_of result) (core_of play p) (core_of play q)
          (app_idle play ahead (core_of play p) keeps.core)
          (says_of play ahead event.App result (core_of play p) (core_of play q) lifted.lifted.answer);
    }

-- behind the last line the application waits for the next one
past_idle : (play : Script) (ahead : ℕ) (s : CoreState) → s.pipe.app.held ≡ None → slice_get play.app s.pipe.app.at ≡ None →
    IsIdleTurn play ahead turn.App s
past_idle play ahead s bare past going unset =
    subst (λ (h : Option Packet). MatchOption h
    (NextMustWait (length (asked_dbase play.dbase)) (shared_of play ahead s) s.pipe (option_map (λ (l : AppLine). l.step) (slice_get play.app s.pipe.app.at)))
    (λ _. IsLineFull ahead s.pipe.a)) (sym bare)
    (subst (λ (o : Option AppLine). NextMustWait (length (asked_dbase play.dbase)) (shared_of play ahead s) s.pipe (option_map (λ (l : AppLine). l.step) o))
    (sym past) tt)

-- an application is over where it is done
done_over : (play : Script) (ahead : ℕ) (p : PipeWork) → PipeKeeps play ahead p → (is_done p.app.state ≡ false → ⊥) → IsOver play event.App (core_of play p)
done_over play ahead p keeps done = by p.app.state.ended refl p.app.state.fault refl
  where
    by : (b : Bool) → p.app.state.ended ≡ b → (f : Option ℕ) → p.app.state.fault ≡ f → IsOver play event.App (core_of play p)
    by true is f fault = inl is
    by false is (Some n) fault = inr (keeps.core.marked n fault)
    by false is None fault = absurd (done (ap (λ (b : Bool). b || is_some p.app.state.fault) is ∙ ap is_some fault))

-- an application that holds nothing, to which no line is left, is over where it does not want one
pub past_over : (play : Script) (ahead : ℕ) (p : PipeWork) → PipeKeeps play ahead p →
    (is_done p.app.state ≡ false → p.app.state.held ≡ None → 0 < length p.app.rest) → p.app.rest ≡ [] → p.app.state.held ≡ None →
    IsOver play event.App (core_of play p)
past_over play ahead p keeps left none bare =
    let long = ap (λ (ls : List AppLine). length ls) none in
    done_over play ahead p keeps (λ going. let some = left going bare in omega (arith, some, long))

drop_past : {X : Type 0} (xs : List X) (i : ℕ) → drop i xs ≡ [] → slice_get xs i ≡ None
drop_past [] zero past = refl
drop_past [] (suc i) past = refl
drop_past (x ∷ xs) zero past = absurd (cc)
drop_past (x ∷ xs) (suc i) past = drop_past xs i past

-- an application that wants a line waits for the next one
pub wants_idle : (play : Script) (ahead : ℕ) (p : PipeWork) → PipeKeeps play ahead p → p.app.state.held ≡ None → p.app.rest ≡ [] →
    IsIdleTurn play ahead turn.App (core_of play p)
wants_idle play ahead p keeps bare none =
    past_idle play ahead (core_of play p) bare (drop_past play.app p.app.state.at (sym keeps.stages.app.rest ∙ none))

-- what a poll says of the sink
pub done_blames : (result : Result Did StageError) (before now : ℕ) (at_fault bytes : Option (List ℕ)) → Blames result before now at_fault bytes →
    Blames (done_of result) before now at_fault bytes
done_blames (Ok did.Did) before now at_fault bytes h = h
done_blames (Ok did.NotYet) before now at_fault bytes h = h
done_blames (Ok did.Over) before now at_fault bytes h = h
done_blames (Err error) before now at_fault bytes h = h

-- Turns, one after the other

all_more : {X : Type 0} (P : X → Type 0) (xs : List X) (x : X) → AllByRecursion P xs → P x → AllByRecursion P (xs ++ x ∷ [])
all_more P [] x all here = (here, tt)
all_more P (y ∷ ys) x all here = (all.0, all_more P ys x all.1 here)

says_more : (play : Script) (ahead : ℕ) (turns : List LiveTurn) (t : LiveTurn) (some one : Bool) (s u v : CoreState) →
    TurnSays (AreIdle play ahead turns) (Ok some) s u → TurnSays (IsIdleTurn play ahead t) (Ok one) u v →
    TurnSays (AreIdle play ahead (turns ++ t ∷ [])) (Ok (some || one)) s v
says_more play ahead turns t true true s u v first second = (omega (arith, first.0, second.0), second.1 ∙ first.1)
says_more play ahead turns t true false s u v first second =
    let same : moved v.pipe ≡ moved u.pipe = ap (λ (x : CoreState). moved x.pipe) second.0 in
    (omega (arith, first.0, same), ap (λ (x : CoreState). x.stopped) second.0 ∙ first.1)
says_more play ahead turns t false true s u v first second =
    let same : moved u.pipe ≡ moved s.pipe = ap (λ (x : CoreState). moved x.pipe) first.0 in
    (omega (arith, second.0, same), second.1 ∙ ap (λ (x : CoreState). x.stopped) first.0)
says_more play ahead turns t false false s u v first second =
    (second.0 ∙ first.0, all_more (λ x. IsIdleTurn play ahead x s) turns t first.1 (subst (IsIdleTurn play ahead t) first.0 second.1))

pub goes_more : (play : Script) (ahead : ℕ) (turns : List LiveTurn) (t : LiveTurn) (some one : Bool) (p q r : PipeWork) (a b c : Option (List ℕ)) →
    TurnsGo play ahead (AreIdle play ahead turns) (Ok some) p q a b → TurnsGo play ahead (IsIdleTurn play ahead t) (Ok one) q r b c →
    TurnsGo play ahead (AreIdle play ahead (turns ++ t ∷ [])) (Ok (some || one)) p r a c
goes_more play ahead turns t some one p q r a b c first second =
    record {
      keeps = second.keeps;
      grows = further p.scene.shared.log q.scene.shared.log r.scene.shared.log first.grows second.grows;
      wrote = written_more a b c (core_of play p) (core_of play q) (core_of play r) first.wrote second.wrote;
      going = λ going. second.going (first.going going);
      says = says_more play ahead turns t some one (core_of play p) (core_of play q) (core_of play r) first.says second.says;
    }

pub goes_short : (play : Script) (ahead : ℕ) (I J K : CoreState → Type 0) (some : Bool) (error error' : StageError) (p q r : PipeWork) (a b c : Option (List ℕ)) →
    TurnsGo play ahead I (Ok some) p q a b → TurnsGo play ahead J (Err error) q r b c → TurnsGo play ahead K (Err error') p r a c
goes_short play ahead I J K some error error' p q r a b c first second =
    record {
      keeps = second.keeps;
      grows = further p.scene.shared.log q.scene.shared.log r.scene.shared.log first.grows second.grows;
      wrote = written_more a b c (core_of play p) (core_of play q) (core_of play r) first.wrote second.wrote;
      going = λ going. second.going (first.going going);
      says = second.says;
    }

-- Rounds

pub not_gone : (play : Script) (ahead : ℕ) (p : PipeWork) (bytes : Option (List ℕ)) → PipeKeeps play ahead p → HaveGone play ahead 0 p p bytes bytes
not_gone play ahead p bytes keeps =
    record {
      keeps = keeps;
      grows = no_further p.scene.shared.log;
      wrote = nothing_written bytes (core_of play p) (core_of play p) refl;
      going = λ going. going;
      mark = refl;
      moves = omega arith;
    }

-- one more round in which something was done
pub gone_more : (play : Script) (ahead n : ℕ) (idle : CoreState → Type 0) (p q r : PipeWork) (a b c : Option (List ℕ)) → HaveGone play ahead n p q a b →
    TurnsGo play ahead idle (Ok true) q r b c → HaveGone play ahead (n + 1) p r a c
gone_more play ahead n idle p q r a b c gone round =
    record {
      keeps = round.keeps;
      grows = further p.scene.shared.log q.scene.shared.log r.scene.shared.log gone.grows round.grows;
      wrote = written_more a b c (core_of play p) (core_of play q) (core_of play r) gone.wrote round.wrote;
      going = λ going. round.going (gone.going going);
      mark = round.says.1 ∙ gone.mark;
      moves = omega (arith, gone.moves, round.says.0);
    }

-- a round that answered an error
pub gone_short : {A : Type 0} (play : Script) (ahead n : ℕ) (idle : CoreState → Type 0) (error error' : StageError) (p q r : PipeWork) (a b c : Option (List ℕ)) →
    HaveGone play ahead n p q a b → TurnsGo play ahead idle (Err error) q r b c → Settles {A = A} play ahead (Err error') p r a c
gone_short play ahead n idle error error' p q r a b c gone round =
    record {
      keeps = round.keeps;
      grows = further p.scene.shared.log q.scene.shared.log r.scene.shared.log gone.grows round.grows;
      wrote = written_more a b c (core_of play p) (core_of play q) (core_of play r) gone.wrote round.wrote;
      settled = λ going unset. tt;
      stops = round.says;
    }

-- where no turn of a round can do anything, nothing can go on
idle_open : (play : Script) (ahead : ℕ) (s : CoreState) → CoreFits play ahead s → s.stopped ≡ false → s.pipe.app.closed ≡ false →
    AreIdle play ahead round_turns s → IsIdleOpen play ahead s
idle_open play ahead s fits unset going idle =
    let count = counted play ahead s fits in
    let app : AppMustWait play ahead s = idle.0 going unset in
    let alive = not_ended s.pipe.app.ended s.pipe.app.closed count.ends.app going in
    let bare =
    unheld ahead s.pipe.app.held
    (NextMustWait (length (asked_dbase play.dbase)) (shared_of play ahead s) s.pipe (option_map (λ (l : AppLine). l.step) (slice_get play.app s.pipe.app.at)))
    s.pipe.a count.room.a app in
    record {
      going = going;
      app = app;
      back = idle.1.0 bare.0 alive (whole play ahead s fits unset);
      cull = ended_or_waits play ahead event.Cull s unset idle.1.1.0;
      draw = ended_or_waits play ahead event.Draw s unset idle.1.1.1.0;
      dbase = ended_or_waits play ahead event.Dbase s unset idle.1.1.1.1.0;
    }

-- a round in which nothing was done: the pipe is settled
pub gone_settled : {A : Type 0} (play : Script) (ahead n : ℕ) (x : A) (p q r : PipeWork) (a b c : Option (List ℕ)) → CanRun play ahead →
    HaveGone play ahead n p q a b → TurnsGo play ahead (AreIdle play ahead round_turns) (Ok false) q r b c → Settles play ahead (Ok x) p r a c
gone_settled play ahead n x p q r a b c can gone round =
    record {
      keeps = round.keeps;
      grows = further p.scene.shared.log q.scene.shared.log r.scene.shared.log gone.grows round.grows;
      wrote = written_more a b c (core_of play p) (core_of play q) (core_of play r) gone.wrote round.wrote;
      settled = λ going unset.
          let stays = round.going (gone.going going) in
          let free : (core_of play r).stopped ≡ false = ap (λ (s : CoreState). s.stopped) round.says.0 ∙ gone.mark ∙ unset in
          let idle = subst (AreIdle play ahead round_turns) (sym round.says.0) round.says.1 in
          record {
            going = stays;
            unset = free;
            settled = live_law play ahead (core_of play r) can round.keeps.core free (idle_open play ahead (core_of play r) round.keeps.core free stays idle);
          };
      stops = tt;
    }

-- so many rounds in which the core moved are never made
pub never_so_many : {A : Type 0} (play : Script) (ahead n : ℕ) (x : A) (p q : PipeWork) (a b : Option (List ℕ)) → CanRun play ahead → HaveGone play ahead n p q a b →
    2 ^ 63 ≤ n → Settles play ahead (Ok x) p q a b
never_so_many play ahead n x p q a b can gone many =
    let most = bound play ahead (core_of play q) gone.keeps.core in
    absurd (omega (arith, many, gone.moves, most, can.is_play.steps))
