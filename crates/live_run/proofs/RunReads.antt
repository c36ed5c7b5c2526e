-- What reading a live text comes to.
use Rattle.std.proofs.Common.{◌≡◌, ℕ, ◌<◌, Bool, true, false, List, [], ◌∷◌, ◌++◌, length, take, Option, Some, None, inl, inr, refl, sym, ap, ◌∙◌, subst, arith}
use Rattle.std.specs.Prelude.{◌⊎◌, ◌≢◌, Result, Ok, Err, IfOk, IfErr, OnOk}
use Rattle.std.proofs.lemmas.Option.{same_Some}
use Rattle.std.specs.Io.KnownBytes.{prepend_known, IsAtEnd}
use Rattle.fx_math.specs.declared.lenses.Lens.{Lens}
use Rattle.nearest_hit.specs.declared.segment.Segment.{Segment}
use Rattle.play_format.specs.declared.refusal.Refusal.{Refusal}
use Rattle.live_text.specs.declared.given.Given.{Given}
use Rattle.live_text.specs.declared.given.Given.TheVariants as live
use Rattle.live_text.specs.LiveGrammar.{live_reading}
use Rattle.live_text.specs.LiveCommands.{LiveHeader, play_of}
use Rattle.live_feed.specs.declared.error.FeedError.{FeedError}
use Rattle.live_feed.specs.declared.error.FeedError.TheVariants as feed_error
use Rattle.live_feed.specs.Feeds.{FeedState, Fed, HasNoFeed, NextGives, EndsSo, IsGood, header_of, commands_of}
use Rattle.pf_io.specs.Causes.{Calm}
use Rattle.mode_hosts.specs.declared.modes.Setup.{Setup}
use Rattle.program_ends.specs.Told.{Bytes}
use Rattle.live_run.specs.declared.halt.Halt.{Halt}
use Rattle.live_run.specs.declared.halt.Halt.TheVariants as halt
use Rattle.live_run.specs.Halts.{halt_of_feed}
use Rattle.live_run.specs.Driven.{Driven, bare_play, IsDriven, told_log}
use Rattle.live_run.specs.LiveRuns.{Takes, IsWrong}
use Rattle.live_run.specs.Runs.{Start, NotYet, Opens, ReadBlames, ReadsOn, NextSo, EndsHere, BeginsNot, RunsOn, HasHeader, HasTold}
use Rattle.live_run.proofs.RunTexts.{takes_more}
use Rattle.live_run.proofs.RunReports.{told_none}
use Rattle.live_run.proofs.RunSteps.{header_stays}

-- what the feed answers, in the words of a run
pub next_ok : (text : List ℕ) (gs : List Given) (f : FeedState) (found : Option Given) → NextGives text gs f (Ok found) → NextSo text gs f (Ok found)
next_ok text gs f (Some g) gives = gives
next_ok text gs f None (fed, none, short) = (fed, none)

pub next_err : (text : List ℕ) (gs : List Given) (f : FeedState) (e : FeedError) → NextGives text gs f (Err e) → NextSo text gs f (Err (halt_of_feed e))
next_err text gs f (feed_error.Refused r) gives = gives
next_err text gs f feed_error.NoMemory fed = fed

-- a run goes on to be fed
pub next_fed : (text : List ℕ) (gs : List Given) (f : FeedState) (h : Halt) → NextSo text gs f (Err h) → Fed text gs f
next_fed text gs f (halt.Refused r) (fed, wrong) = fed
next_fed text gs f halt.Broken fed = fed
next_fed text gs f halt.ReadFault nay = absurd nay
next_fed text gs f halt.ReportFault nay = absurd nay
next_fed text gs f halt.Untold nay = absurd nay

pub next_calm : (text : List ℕ) (gs : List Given) (f : FeedState) (h : Halt) → NextSo text gs f (Err h) → h ≢ halt.ReadFault
next_calm text gs f (halt.Refused r) so e = absurd cc
next_calm text gs f halt.Broken so e = absurd cc
next_calm text gs f halt.ReadFault nay e = absurd nay
next_calm text gs f halt.ReportFault so e = absurd cc
next_calm text gs f halt.Untold so e = absurd cc

-- A header came

pub has_more : (text : List ℕ) (gs : List Given) (h : LiveHeader) (f : FeedState) (g : Given) → header_of gs ≡ Some h →
    NextSo text gs f (Ok (Some g)) → HasHeader f
has_more text gs h f g header (fed, good) = (text, gs ++ g ∷ [], h, fed, header_stays gs g h header)

pub has_none : (text : List ℕ) (gs : List Given) (h : LiveHeader) (f : FeedState) → header_of gs ≡ Some h → NextSo text gs f (Ok None) → HasHeader f
has_none text gs h f header (fed, none) = (text, gs, h, fed, header)

pub has_halt : (text : List ℕ) (gs : List Given) (h : LiveHeader) (f : FeedState) (e : Halt) → header_of gs ≡ Some h → NextSo text gs f (Err e) →
    HasHeader f
has_halt text gs h f e header so = (text, gs, h, next_fed text gs f e so, header)

pub is_good : (text : List ℕ) (gs : List Given) (h : LiveHeader) (f : FeedState) (g : Given) → header_of gs ≡ Some h →
    NextSo text gs f (Ok (Some g)) → IsGood (Some h) g
is_good text gs h f g header (fed, good) = subst (λ (o : Option LiveHeader). IsGood o g) header good

-- the text behind which reading goes on
pub has_read : (left left' : Bytes) (f g : FeedState) (more : Bool) → HasHeader f →
    ((text : List ℕ) (gs : List Given) → Fed text gs f → ReadsOn (prepend_known text left) left' text gs g (Ok more)) → HasHeader g
has_read left left' f g true (text, gs, h, fed, header) reads =
    let on = reads text gs fed in (text ++ on.0, gs, h, on.2, header)
has_read left left' f g false (text, gs, h, fed, header) reads =
    let on = reads text gs fed in (text, gs, h, on.2, header)

-- Before a header

pub not_halt : (left left' : Bytes) (f g : FeedState) (yet : NotYet left left' f) (h : Halt) → NextSo yet.text [] g (Err h) → BeginsNot left left' h
not_halt left left' f g yet (halt.Refused r) (fed, wrong) = (yet.text, yet.taken, inl wrong)
not_halt left left' f g yet halt.Broken fed = (yet.text, yet.taken)
not_halt left left' f g yet halt.ReadFault nay = absurd nay
not_halt left left' f g yet halt.ReportFault nay = absurd nay
not_halt left left' f g yet halt.Untold nay = absurd nay

pub not_unread : (left left' left'' : Bytes) (f g : FeedState) (yet : NotYet left left' f) (h : Halt) → ReadsOn left left'' yet.text [] g (Err h) →
    BeginsNot left left'' h
not_unread left left' left'' f g yet halt.ReadFault (taken, fed) = (yet.text, taken)
not_unread left left' left'' f g yet halt.Broken (piece, taken, fed) = (yet.text ++ piece, taken)
not_unread left left' left'' f g yet (halt.Refused r) nay = absurd nay
not_unread left left' left'' f g yet halt.ReportFault nay = absurd nay
not_unread left left' left'' f g yet halt.Untold nay = absurd nay

pub not_read : (left left' left'' : Bytes) (f g : FeedState) (yet : NotYet left left' f) → ReadsOn left left'' yet.text [] g (Ok true) → NotYet left left'' g
not_read left left' left'' f g yet (piece, taken, fed) = record { text = yet.text ++ piece; taken = taken; fed = fed }

pub not_end : (left left' left'' : Bytes) (f g : FeedState) (yet : NotYet left left' f) (h : Halt) → ReadsOn left left'' yet.text [] g (Ok false) →
    EndsHere yet.text [] (Err h) → BeginsNot left left'' h
not_end left left' left'' f g yet (halt.Refused r) (taken, at_end, fed) wrong = (yet.text, taken, inr (at_end, wrong))
not_end left left' left'' f g yet halt.ReadFault reads nay = absurd nay
not_end left left' left'' f g yet halt.ReportFault reads nay = absurd nay
not_end left left' left'' f g yet halt.Untold reads nay = absurd nay
not_end left left' left'' f g yet halt.Broken reads nay = absurd nay

-- a text without a header does not end
pub no_end : (text : List ℕ) (u : Unit {0}) → EndsHere text [] (Ok u) → ⊥
no_end text u ends = absurd (let header = ends.1 in cc)

-- what comes first is a header
pub first_is_header : (text : List ℕ) (f : FeedState) (g : Given) → NextSo text [] f (Ok (Some g)) → IsGood None g
first_is_header text f g (fed, good) = good

module _ {R G : Type 0} where
  -- a header came, and a pipe was opened
  pub opens : (text : List ℕ) (f : FeedState) (setup : Setup) (frames report : Bytes) (faults : ℕ) (lens : Lens) (back : List ℕ) (channels : ℕ) (l : Driven R G) →
      Fed text (live.Header lens back channels ∷ []) f → IsDriven (bare_play lens back channels) setup.ahead setup.probe frames frames l →
      l.blocks ≡ 0 → told_log l.pipe ≡ [] → l.frames ≡ 0 → Opens text f setup frames report faults l
  opens text f setup frames report faults lens back channels l fed driven blocks log shown =
      record {
        gs = live.Header lens back channels ∷ [];
        h = record { lens = lens; back = back; channels = channels };
        fed = fed;
        header = refl;
        plays = record { driven = driven; blocks = blocks };
        told = told_none report faults l log shown;
      }

  pub opened_on : (s : Start) (left' : Bytes) (text : List ℕ) (f : FeedState) (l : Driven R G) → Takes s.left left' text →
      Opens text f s.setup s.frames s.report s.faults l → RunsOn s left' s.frames s.report s.faults f l
  opened_on s left' text f l taken opened =
      record { text = text; gs = opened.gs; h = opened.h; taken = taken; fed = opened.fed; header = opened.header; plays = opened.plays; told = opened.told }

pub opens_header : (text : List ℕ) (f : FeedState) (g : Given) → IsGood None g → Fed text (g ∷ []) f → HasHeader f
opens_header text f (live.Header lens back channels) good fed =
    (text, live.Header lens back channels ∷ [], record { lens = lens; back = back; channels = channels }, fed, refl)
opens_header text f (live.Line l) bad fed = absurd bad
opens_header text f (live.Block ls) bad fed = absurd bad

halt_blames : (A : Type 0) (h : Halt) (before now : ℕ) → h ≢ halt.ReadFault → Calm before now → ReadBlames {A = A} (Err h) before now
halt_blames A (halt.Refused r) before now nay calm = calm
halt_blames A halt.ReadFault before now nay calm = absurd (nay refl)
halt_blames A halt.ReportFault before now nay calm = calm
halt_blames A halt.Untold before now nay calm = calm
halt_blames A halt.Broken before now nay calm = calm

-- an answer that is no failed read says that the count is as before
pub answer_blames : (A : Type 0) (r : Result A Halt) (before now : ℕ) → IfErr r (λ h. h ≢ halt.ReadFault) → Calm before now → ReadBlames r before now
answer_blames A (Ok x) before now nay calm = calm
answer_blames A (Err h) before now nay calm = halt_blames A h before now nay calm

pub broken_blames : (A : Type 0) (r : Result A Halt) (before now : ℕ) → IfErr r (λ h. h ≡ halt.Broken) → Calm before now → ReadBlames r before now
broken_blames A (Ok x) before now is calm = calm
broken_blames A (Err h) before now is calm =
    halt_blames A h before now (λ e. absurd (let clash : halt.Broken ≡ halt.ReadFault = sym is ∙ e in cc)) calm

-- what holds of what an answer holds
pub ok_map : {A E : Type 0} (r : Result A E) (P Q : A → Type 0) → ((x : A) → P x → Q x) → IfOk r P → IfOk r Q
ok_map (Ok x) P Q f h = f x h
ok_map (Err e) P Q f h = h

pub err_map : {A E : Type 0} (r : Result A E) (P Q : E → Type 0) → ((x : E) → P x → Q x) → IfErr r P → IfErr r Q
err_map (Ok x) P Q f h = h
err_map (Err e) P Q f h = f e h

pub on_ok : {A E : Type 0} (r : Result A E) (P : Type 0) → P → OnOk r P
on_ok (Ok x) P h = h
on_ok (Err e) P h = tt

pub broken_not : (left left' : Bytes) (text : List ℕ) (h : Halt) → Takes left left' text → h ≡ halt.Broken → BeginsNot left left' h
broken_not left left' text h taken is = subst (λ (x : Halt). BeginsNot left left' x) (sym is) (text, taken)
