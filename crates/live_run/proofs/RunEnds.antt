-- What a live run leaves that was closed.
use Rattle.std.proofs.Common.{◌≡◌, ℕ, ◌+◌, true, false, List, [], ◌++◌, length, take, drop, Option, Some, None, inl, inr, refl, sym, ap, ◌∙◌, subst, arith}
use Rattle.std.specs.Prelude.{◌≢◌, ◌⊎◌, Result, Ok, Err, IfSome}
use Rattle.std.specs.Io.KnownBytes.{append_known, IsAtEnd}
use Rattle.std.proofs.lemmas.List.{take-append-drop}
use mathlib.Core.List.{IsPrefix}
use Rattle.pf_io.specs.Causes.{Calm, Rose}
use Rattle.draw_list.specs.declared.stats.Stats.{Stats}
use Rattle.nearest_hit.specs.declared.segment.Segment.{Segment}
use Rattle.play_format.specs.declared.refusal.Refusal.{Refusal}
use Rattle.play_format.specs.Plays.{Script}
use Rattle.pf_history.specs.Logs.{Log}
use Rattle.stage_parts.specs.Pictures.{frame_numbers}
use Rattle.live_text.specs.LiveCommands.{LiveCommand, LiveHeader, SpellsLive, play_of}
use Rattle.pipe_plays.specs.declared.played.PlayEnd.{PlayEnd}
use Rattle.pipe_plays.specs.declared.played.PlayEnd.TheVariants as end
use Rattle.pipe_plays.specs.declared.played.Played.{Played}
use Rattle.pipe_plays.specs.Played.{AddsFront}
use Rattle.pipe_plays.specs.Laws.{IsLeft}
use Rattle.mode_hosts.specs.Lives.{LiveLeaves, numbers_told}
use Rattle.program_ends.specs.declared.stop.Stop.{Stop}
use Rattle.program_ends.specs.declared.stop.Stop.TheVariants as stop
use Rattle.program_ends.specs.Statuses.{status_of, refusal_of}
use Rattle.program_ends.specs.Messages.{message_of}
use Rattle.program_ends.specs.Told.{Bytes, IsTold}
use Rattle.program_ends.specs.Played.{IsPart}
use Rattle.program_ends.specs.Laws.{LeftLaw, IsPartOf}
use Rattle.live_run.specs.declared.halt.Halt.{Halt}
use Rattle.live_run.specs.declared.halt.Halt.TheVariants as halt
use Rattle.live_run.specs.Reports.{ReportItem, entries_in, report_lines, IsLiveReport}
use Rattle.live_run.specs.Driven.{Driven, IsDriven, told_log}
use Rattle.live_run.specs.LiveRuns.{Takes, Begins, IsDrivenOut, IsReportOf, IsLiveDone, IsLiveCut, LeavesCut, IsWrong, IsLiveRefused, IsLiveUnread, IsLivePart, IsLiveBegun, IsLiveStopped}
use Rattle.live_run.specs.Runs.{Start, Plays, PlaysSome, HasTold, HaltTold, ToldAt, ReportsFront, ReportsCut, RunsSome, RunsCut, RunsOut, HaltMade, MadeAt}
use Rattle.live_run.specs.Closing.{end_of_told, end_at, is_quiet, TellsAll, ToldOut, TellsRest, Says, StatusBlames, EndsLive}
use Rattle.live_run.proofs.RunTexts.{told_behind, told_cut, told_whole}
use Rattle.live_run.proofs.RunReports.{told_out, told_out_to, told_so_far, front_out, cut_out, prefix_take, prefix_self}
use Rattle.live_run.proofs.RunSteps.{begins_all, some_plays}

-- Statuses

-- a status is not two
pub unlike : {A : Type 0} (status n m : ℕ) → status ≡ n → status ≡ m → n ≢ m → A
unlike status n m is other nay = absurd (nay (sym is ∙ other))

module _ {R G : Type 0} where
  -- Of what a closed pipe leaves

  driven_out : LeftLaw → (play : Script) (ahead : ℕ) (asked : Option Segment) (l : Driven R G) (bytes bytes' : Bytes) (played : Played) →
      LiveLeaves play ahead asked l.pipe bytes bytes' played → played.end ≡ end.Done →
      IsDrivenOut ahead play played.history.entries bytes bytes'
  driven_out law play ahead asked l bytes bytes' played leaves done =
      let left = leaves.left in
      let part = law play ahead played.end played.history.entries leaves.numbers bytes bytes' left in
      let all = left.all done in
      record {
        legal = left.now.legal;
        fits = all.wholly;
        stream = all.whole;
        retired = subst (λ (e : PlayEnd). AddsFront play e played.history.entries bytes bytes') done left.now.front;
        freed = part.part.freed;
      }

  part_at : LeftLaw → (play : Script) (ahead : ℕ) (asked : Option Segment) (l : Driven R G) (bytes bytes' : Bytes) (played : Played) (other : PlayEnd) →
      LiveLeaves play ahead asked l.pipe bytes bytes' played → (other ≡ played.end) ⊎ (played.end ≢ end.FrameFault) →
      IsPart ahead play other played.history.entries bytes bytes'
  part_at law play ahead asked l bytes bytes' played other leaves (inl same) =
      let part = law play ahead played.end played.history.entries leaves.numbers bytes bytes' leaves.left in
      subst (λ (e : PlayEnd). IsPart ahead play e played.history.entries bytes bytes') (sym same) part.part
  part_at law play ahead asked l bytes bytes' played other leaves (inr calm) =
      let part = law play ahead played.end played.history.entries leaves.numbers bytes bytes' leaves.left in
      part.elsewhere calm other

  -- A run that was closed

  cut_some : (s : Start) (text : List ℕ) (left frames : Bytes) (l : Driven R G) → RunsCut s text left frames l → RunsSome s left frames l
  cut_some s text left frames l cut =
      record {
        text = text;
        h = cut.h;
        cs = cut.cs;
        taken = cut.taken;
        begins = cut.begins;
        plays = some_plays cut.h cut.cs s.setup.ahead s.setup.probe s.frames frames l cut.plays.driven;
      }

  -- whatever it came to, it was given commands that the text begins with
  pub made_some : (s : Start) (left frames : Bytes) (l : Driven R G) (came : Result Unit Halt) → MadeAt came s left frames l → RunsSome s left frames l
  made_some s left frames l (Ok u) out =
      record {
        text = out.text;
        h = out.h;
        cs = out.cs;
        taken = out.taken;
        begins = begins_all out.text out.h out.cs out.spelled;
        plays = some_plays out.h out.cs s.setup.ahead s.setup.probe s.frames frames l out.plays.driven;
      }
  made_some s left frames l (Err (halt.Refused r)) (text, cut, wrong) = cut_some s text left frames l cut
  made_some s left frames l (Err halt.ReadFault) (text, cut) = cut_some s text left frames l cut
  made_some s left frames l (Err halt.ReportFault) some = some
  made_some s left frames l (Err halt.Untold) some = some
  made_some s left frames l (Err halt.Broken) some = some

  -- its pipe leaves this of each play that it was driven by
  abbrev pub Leaving : Start → (frames frames' : Bytes) → Driven R G → Played → Type 0
  Leaving s frames frames' l played =
      (play : Script) → IsDriven play s.setup.ahead s.setup.probe s.frames frames l →
      LiveLeaves play s.setup.ahead s.setup.probe l.pipe s.frames frames' played

  begun_at : LeftLaw → (s : Start) (left frames frames' : Bytes) (l : Driven R G) (played : Played) (other : PlayEnd) → RunsSome s left frames l →
      Leaving s frames frames' l played → (other ≡ played.end) ⊎ (played.end ≢ end.FrameFault) →
      IsLiveBegun (Some s.setup) s.left left other played.history.entries s.frames frames'
  begun_at law s left frames frames' l played other some leaving at =
      record {
        setup = s.setup;
        meaning = refl;
        text = some.text;
        taken = some.taken;
        part = inr (record {
          header = some.h;
          commands = some.cs;
          begins = some.begins;
          play = some.plays.play;
          is_play = some.plays.is_play;
          part = part_at law some.plays.play s.setup.ahead s.setup.probe l s.frames frames' played other
              (leaving some.plays.play some.plays.driven) at;
        });
      }

  -- the entries that were told are the first of the history
  pub first_told : LeftLaw → (s : Start) (left frames frames' : Bytes) (l : Driven R G) (played : Played) → RunsSome s left frames l →
      Leaving s frames frames' l played → take l.pipe.told played.history.entries ≡ told_log l.pipe
  first_told law s left frames frames' l played some leaving = (leaving some.plays.play some.plays.driven).told

  done_at : LeftLaw → (s : Start) (left frames frames' report report' : Bytes) (before now : ℕ) (l : Driven R G) (played : Played) →
      RunsOut s left frames l → Leaving s frames frames' l played → played.end ≡ end.Done →
      TellsAll played.history.entries s.report report' before now →
      IsLiveDone (Some s.setup) s.left left played.history.entries s.frames frames' s.report report'
  done_at law s left frames frames' report report' before now l played out leaving done tells =
      let play = play_of out.h out.cs in
      let leaves = leaving play out.plays.driven in
      record {
        setup = s.setup;
        meaning = refl;
        text = out.text;
        taken = out.taken;
        at_end = out.at_end;
        header = out.h;
        commands = out.cs;
        spelled = out.spelled;
        played = driven_out law play s.setup.ahead s.setup.probe l s.frames frames' played leaves done;
        told = tells.0;
        is_report = tells.1;
        reported = tells.2;
      }

  -- commands before what ended the run were played, and told
  cut_at : LeftLaw → (s : Start) (text : List ℕ) (left frames frames' report' : Bytes) (before now : ℕ) (l : Driven R G) (played : Played) →
      RunsCut s text left frames l → Leaving s frames frames' l played → played.end ≡ end.Done →
      TellsAll played.history.entries s.report report' before now →
      (told : List ℕ) × LeavesCut s.setup.ahead text played.history.entries s.frames frames' told × (report' ≡ append_known s.report told) × Calm before now
  cut_at law s text left frames frames' report' before now l played cut leaving done tells =
      let play = play_of cut.h cut.cs in
      let leaves = leaving play cut.plays.driven in (
        tells.0,
        inr (record {
          header = cut.h;
          commands = cut.cs;
          begins = cut.begins;
          played = driven_out law play s.setup.ahead s.setup.probe l s.frames frames' played leaves done;
          is_report = tells.1;
        }),
        tells.2,
        tells.3,
      )

-- The message

-- the message behind a text that was told wholly
message_at : (report mid report' : Bytes) (before then now : ℕ) (told message : List ℕ) → mid ≡ append_known report told → Calm before then →
    IsTold mid report' then now message → IsTold (append_known report told) report' before now message
message_at report mid report' before then now told message is calm said =
    subst (λ (n : ℕ). IsTold (append_known report told) report' n now message) calm
    (subst (λ (b : Bytes). IsTold b report' then now message) is said)

stops_front : (status : ℕ) (refusal : Option Refusal) (why : Stop) (log : Log) (report mid report' : Bytes) (before then now : ℕ) →
    status ≡ status_of why → refusal ≡ refusal_of why → ReportsFront log report mid before then → IsTold mid report' then now (message_of why) →
    IsLiveStopped status refusal log report report' before now
stops_front status refusal why log report mid report' before then now at with_refusal front said =
    record {
      why = why;
      at_status = at;
      with_refusal = with_refusal;
      items = front.items;
      front = front.front;
      told = told_behind report mid report' before then now (report_lines 1 front.items) (message_of why) front.lines front.calm said;
    }

stops_cut : (status : ℕ) (refusal : Option Refusal) (why : Stop) (log : Log) (report report' : Bytes) (before now : ℕ) →
    status ≡ status_of why → refusal ≡ refusal_of why → ReportsCut log report report' before now →
    IsLiveStopped status refusal log report report' before now
stops_cut status refusal why log report report' before now at with_refusal cut =
    record {
      why = why;
      at_status = at;
      with_refusal = with_refusal;
      items = cut.items;
      front = cut.front;
      told = told_cut report report' before now (report_lines 1 cut.items) (message_of why) cut.lines cut.rose;
    }

-- The report

module _ {R G : Type 0} where
  -- what stands on the report sink once the rest was told, or was to be
  pub told_rest : (report mid report' : Bytes) (before then now n : ℕ) (l : Driven R G) (log : Log) (rest : List Stats) (told : Result Unit Halt) →
      HasTold report mid before then l → TellsRest l.frames n log rest mid report' then now told → take n log ≡ told_log l.pipe →
      ToldOut told log report report' before now
  told_rest report mid report' before then now n l log rest (Ok u) told (text, lists, wrote, calm) first =
      told_out report mid report' before then now n l log rest text told lists first wrote calm
  told_rest report mid report' before then now n l log rest (Err halt.ReportFault) told (text, lists, wrote, rose) first =
      told_out_to report mid report' before then now n l log rest text told lists first wrote rose
  told_rest report mid report' before then now n l log rest (Err halt.Broken) told (same, calm) first =
      let so_far = told_so_far report mid before then n l log told first in
      record { items = so_far.items; front = so_far.front; lines = same ∙ so_far.lines; calm = calm ∙ so_far.calm }
  told_rest report mid report' before then now n l log rest (Err (halt.Refused r)) told nay first = absurd nay
  told_rest report mid report' before then now n l log rest (Err halt.ReadFault) told nay first = absurd nay
  told_rest report mid report' before then now n l log rest (Err halt.Untold) told nay first = absurd nay

-- a front that stands there
front_of_all : (log : Log) (report report' : Bytes) (before now : ℕ) → TellsAll log report report' before now →
    ReportsFront log report report' before now
front_of_all log report report' before now (text, (stats, is), wrote, calm) =
    record {
      items = is.items;
      front = subst (λ (es : Log). IsPrefix (entries_in is.items) es) is.entries (prefix_self (entries_in is.items));
      lines = wrote ∙ ap (append_known report) is.lines;
      calm = calm;
    }

front_told : (told : Result Unit Halt) (log : Log) (report report' : Bytes) (before now : ℕ) → told ≢ Err halt.ReportFault →
    ToldOut told log report report' before now → ReportsFront log report report' before now
front_told (Ok u) log report report' before now nay all = front_of_all log report report' before now all
front_told (Err halt.ReportFault) log report report' before now nay out = absurd (nay refl)
front_told (Err (halt.Refused r)) log report report' before now nay out = out
front_told (Err halt.ReadFault) log report report' before now nay out = out
front_told (Err halt.Untold) log report report' before now nay out = out
front_told (Err halt.Broken) log report report' before now nay out = out

-- The statuses

module _ (s : Start) (left' : Bytes) (status : ℕ) (refusal : Option Refusal) (log : Log) (frames' report' : Bytes) (faults' : ℕ) where
  -- the run didn't stop at 5 or 7
  no_stop : {A : Type 0} (n : ℕ) → status ≡ n → (n ≡ 5 → ⊥) → (n ≡ 7 → ⊥) → (status ≡ 5) ⊎ (status ≡ 7) → A
  no_stop n is five seven (inl q) = absurd (five (sym is ∙ q))
  no_stop n is five seven (inr q) = absurd (seven (sym is ∙ q))

  pub ends_done : status ≡ 0 → IsLiveDone (Some s.setup) s.left left' log s.frames frames' s.report report' → Calm s.faults faults' →
      EndsLive s left' status refusal log frames' report' faults'
  ends_done is done calm =
      record {
        done = λ q. done;
        refused = λ q. absurd (omega (arith, is, q));
        unread = λ q. absurd (omega (arith, is, q));
        begun = λ q. absurd (omega (arith, is, q));
        untold = λ q. absurd (omega (arith, is, q));
        part = λ q. absurd (omega (arith, is, q));
        calm = λ q. calm;
        fault = λ q. absurd (omega (arith, is, q));
        stopped = λ q. no_stop 0 is (λ e. absurd (omega (arith, e))) (λ e. absurd (omega (arith, e))) q;
      }

  pub ends_refused : status ≡ 2 → (r : Refusal) → refusal ≡ Some r →
      IsLiveRefused (Some s.setup) s.left left' r log s.frames frames' s.report report' s.faults faults' →
      EndsLive s left' status refusal log frames' report' faults'
  ends_refused is r some refused =
      record {
        done = λ q. absurd (omega (arith, is, q));
        refused = λ q.
            subst (λ (o : Option Refusal). IfSome o (λ x. IsLiveRefused (Some s.setup) s.left left' x log s.frames frames' s.report report' s.faults faults'))
            (sym some) refused;
        unread = λ q. absurd (omega (arith, is, q));
        begun = λ q. absurd (omega (arith, is, q));
        untold = λ q. absurd (omega (arith, is, q));
        part = λ q. absurd (omega (arith, is, q));
        calm = λ q. absurd (omega (arith, is, q));
        fault = λ q. absurd (omega (arith, is, q));
        stopped = λ q. no_stop 2 is (λ e. absurd (omega (arith, e))) (λ e. absurd (omega (arith, e))) q;
      }

  pub ends_unread : status ≡ 4 → IsLiveUnread (Some s.setup) s.left left' log s.frames frames' s.report report' s.faults faults' →
      EndsLive s left' status refusal log frames' report' faults'
  ends_unread is unread =
      record {
        done = λ q. absurd (omega (arith, is, q));
        refused = λ q. absurd (omega (arith, is, q));
        unread = λ q. unread;
        begun = λ q. absurd (omega (arith, is, q));
        untold = λ q. absurd (omega (arith, is, q));
        part = λ q. absurd (omega (arith, is, q));
        calm = λ q. absurd (omega (arith, is, q));
        fault = λ q. absurd (omega (arith, is, q));
        stopped = λ q. no_stop 4 is (λ e. absurd (omega (arith, e))) (λ e. absurd (omega (arith, e))) q;
      }

  pub ends_frame : status ≡ 5 → IsLiveBegun (Some s.setup) s.left left' end.FrameFault log s.frames frames' →
      IsLiveStopped status refusal log s.report report' s.faults faults' → EndsLive s left' status refusal log frames' report' faults'
  ends_frame is begun stopped =
      record {
        done = λ q. absurd (omega (arith, is, q));
        refused = λ q. absurd (omega (arith, is, q));
        unread = λ q. absurd (omega (arith, is, q));
        begun = λ q. begun;
        untold = λ q. absurd (omega (arith, is, q));
        part = λ q. absurd (omega (arith, is, q));
        calm = λ q. absurd (omega (arith, is, q));
        fault = λ q. absurd (omega (arith, is, q));
        stopped = λ q. stopped;
      }

  pub ends_untold : status ≡ 6 → IsLiveBegun (Some s.setup) s.left left' end.Done log s.frames frames' → Rose s.faults faults' →
      EndsLive s left' status refusal log frames' report' faults'
  ends_untold is begun rose =
      record {
        done = λ q. absurd (omega (arith, is, q));
        refused = λ q. absurd (omega (arith, is, q));
        unread = λ q. absurd (omega (arith, is, q));
        begun = λ q. absurd (omega (arith, is, q));
        untold = λ q. begun;
        part = λ q. absurd (omega (arith, is, q));
        calm = λ q. absurd (omega (arith, is, q));
        fault = λ q. rose;
        stopped = λ q. no_stop 6 is (λ e. absurd (omega (arith, e))) (λ e. absurd (omega (arith, e))) q;
      }

  pub ends_memory : status ≡ 7 → IsLiveBegun (Some s.setup) s.left left' end.NoMemory log s.frames frames' →
      IsLiveStopped status refusal log s.report report' s.faults faults' → EndsLive s left' status refusal log frames' report' faults'
  ends_memory is part stopped =
      record {
        done = λ q. absurd (omega (arith, is, q));
        refused = λ q. absurd (omega (arith, is, q));
        unread = λ q. absurd (omega (arith, is, q));
        begun = λ q. absurd (omega (arith, is, q));
        untold = λ q. absurd (omega (arith, is, q));
        part = λ q. part;
        calm = λ q. absurd (omega (arith, is, q));
        fault = λ q. absurd (omega (arith, is, q));
        stopped = λ q. stopped;
      }

-- All of it

module _ {R G : Type 0} (law : LeftLaw) (s : Start) (left frames frames' report' report'' : Bytes) (faults' faults'' : ℕ) (l : Driven R G)
    (played : Played) (status : ℕ) (refusal : Option Refusal) (leaving : Leaving s frames frames' l played) where
  abbrev log : Log
  log = played.history.entries

  abbrev Ends : Type 0
  Ends = EndsLive s left status refusal log frames' report'' faults''

  abbrev Tells : Result Unit Halt → Type 0
  Tells told = ToldOut told log s.report report' s.faults faults'

  abbrev Says' : ℕ → Option Stop → Type 0
  Says' n why = Says n why status refusal report' report'' faults' faults''

  frame_cut : RunsSome s left frames l → played.end ≡ end.FrameFault → Tells (Err halt.ReportFault) → Says' 5 None → Ends
  frame_cut some is tells (at, none, same, calm) =
      let cut = tells in
      ends_frame s left status refusal log frames' report'' faults'' at
      (begun_at law s left frames frames' l played end.FrameFault some leaving (inl (sym is)))
      (stops_cut status refusal stop.FrameFault log s.report report'' s.faults faults'' at none
      (record {
        items = cut.items;
        front = cut.front;
        lines = subst (λ (n : ℕ). IsTold s.report report'' s.faults n (report_lines 1 cut.items)) (sym calm)
            (subst (λ (b : Bytes). IsTold s.report b s.faults faults' (report_lines 1 cut.items)) (sym same) cut.lines);
        rose = calm ∙ cut.rose;
      }))

  frame_said : (told : Result Unit Halt) → told ≢ Err halt.ReportFault → RunsSome s left frames l → played.end ≡ end.FrameFault → Tells told →
      Says' 5 (Some stop.FrameFault) → Ends
  frame_said told nay some is tells (at, none, said) =
      ends_frame s left status refusal log frames' report'' faults'' at
      (begun_at law s left frames frames' l played end.FrameFault some leaving (inl (sym is)))
      (stops_front status refusal stop.FrameFault log s.report report' report'' s.faults faults' faults'' at none
      (front_told told log s.report report' s.faults faults' nay tells) said)

  memory_said : (told : Result Unit Halt) → told ≢ Err halt.ReportFault → RunsSome s left frames l → played.end ≢ end.FrameFault → Tells told →
      Says' 7 (Some stop.NoMemory) → Ends
  memory_said told nay some is tells (at, none, said) =
      ends_memory s left status refusal log frames' report'' faults'' at
      (begun_at law s left frames frames' l played end.NoMemory some leaving (inr is))
      (stops_front status refusal stop.NoMemory log s.report report' report'' s.faults faults' faults'' at none
      (front_told told log s.report report' s.faults faults' nay tells) said)

  report_cut : RunsSome s left frames l → played.end ≢ end.FrameFault → Tells (Err halt.ReportFault) → Says' 6 None → Ends
  report_cut some is tells (at, none, same, calm) =
      ends_untold s left status refusal log frames' report'' faults'' at
      (begun_at law s left frames frames' l played end.Done some leaving (inr is))
      (calm ∙ tells.rose)

  all_done : (v : Unit {0}) → RunsOut s left frames l → played.end ≡ end.Done → Tells (Ok v) → Says' 0 None → Ends
  all_done v out is tells (at, none, same, calm) =
      ends_done s left status refusal log frames' report'' faults'' at
      (subst (λ (b : Bytes). IsLiveDone (Some s.setup) s.left left log s.frames frames' s.report b) (sym same)
      (done_at law s left frames frames' s.report report' s.faults faults' l played out leaving is tells))
      (calm ∙ tells.3)

  all_refused : (v : Unit {0}) → (r : Refusal) (text : List ℕ) → RunsCut s text left frames l → IsWrong text left r → played.end ≡ end.Done → Tells (Ok v) →
      Says' 2 (Some (stop.Refused r)) → Ends
  all_refused v r text cut wrong is tells (at, some, said) =
      let leaves = cut_at law s text left frames frames' report' s.faults faults' l played cut leaving is tells in
      ends_refused s left status refusal log frames' report'' faults'' at r some
      (record {
        setup = s.setup;
        meaning = refl;
        text = text;
        taken = cut.taken;
        refused = wrong;
        told = leaves.0;
        cut = leaves.1;
        message = message_at s.report report' report'' s.faults faults' faults'' leaves.0 (message_of (stop.Refused r)) leaves.2 leaves.3 said;
      })

  all_unread : (v : Unit {0}) → (text : List ℕ) → RunsCut s text left frames l → played.end ≡ end.Done → Tells (Ok v) → Says' 4 (Some stop.ReadFault) → Ends
  all_unread v text cut is tells (at, none, said) =
      let leaves = cut_at law s text left frames frames' report' s.faults faults' l played cut leaving is tells in
      ends_unread s left status refusal log frames' report'' faults'' at
      (record {
        setup = s.setup;
        meaning = refl;
        text = text;
        taken = cut.taken;
        told = leaves.0;
        cut = leaves.1;
        message = message_at s.report report' report'' s.faults faults' faults'' leaves.0 (message_of stop.ReadFault) leaves.2 leaves.3 said;
      })

  -- all was told
  ends_told : (v : Unit {0}) → (came : Result Unit Halt) → MadeAt came s left frames l → came ≢ Err halt.ReportFault → played.end ≡ end.Done → Tells (Ok v) →
      Says' (end_of_told came).0 (end_of_told came).1 → Ends
  ends_told v (Ok u) made nay is tells says = all_done v made is tells says
  ends_told v (Err (halt.Refused r)) (text, cut, wrong) nay is tells says = all_refused v r text cut wrong is tells says
  ends_told v (Err halt.ReadFault) (text, cut) nay is tells says = all_unread v text cut is tells says
  ends_told v (Err halt.ReportFault) some nay is tells says = absurd (nay refl)
  ends_told v (Err halt.Untold) some nay is tells says = memory_said (Ok v) (λ e. absurd cc) some (λ e. absurd cc) tells says
  ends_told v (Err halt.Broken) some nay is tells says = memory_said (Ok v) (λ e. absurd cc) some (λ e. absurd cc) tells says

  -- by the end of the pipe, and how the rest was told
  pub ends_live : (e : PlayEnd) → played.end ≡ e → (came told : Result Unit Halt) → MadeAt came s left frames l →
      (came ≡ Err halt.ReportFault → told ≡ Err halt.ReportFault) → Tells told → Says' (end_at e came told).0 (end_at e came told).1 → Ends
  ends_live end.FrameFault is came (Ok u) made quiet tells says =
      frame_said (Ok u) (λ e. absurd cc) (made_some s left frames l came made) is tells says
  ends_live end.FrameFault is came (Err halt.ReportFault) made quiet tells says = frame_cut (made_some s left frames l came made) is tells says
  ends_live end.FrameFault is came (Err (halt.Refused r)) made quiet tells says =
      frame_said (Err (halt.Refused r)) (λ e. absurd cc) (made_some s left frames l came made) is tells says
  ends_live end.FrameFault is came (Err halt.ReadFault) made quiet tells says =
      frame_said (Err halt.ReadFault) (λ e. absurd cc) (made_some s left frames l came made) is tells says
  ends_live end.FrameFault is came (Err halt.Untold) made quiet tells says =
      frame_said (Err halt.Untold) (λ e. absurd cc) (made_some s left frames l came made) is tells says
  ends_live end.FrameFault is came (Err halt.Broken) made quiet tells says =
      frame_said (Err halt.Broken) (λ e. absurd cc) (made_some s left frames l came made) is tells says
  ends_live end.NoMemory is came (Ok u) made quiet tells says =
      memory_said (Ok u) (λ e. absurd cc) (made_some s left frames l came made) (λ e. absurd cc) tells says
  ends_live end.NoMemory is came (Err halt.ReportFault) made quiet tells says =
      report_cut (made_some s left frames l came made) (λ e. absurd cc) tells says
  ends_live end.NoMemory is came (Err (halt.Refused r)) made quiet tells says =
      memory_said (Err (halt.Refused r)) (λ e. absurd cc) (made_some s left frames l came made) (λ e. absurd cc) tells says
  ends_live end.NoMemory is came (Err halt.ReadFault) made quiet tells says =
      memory_said (Err halt.ReadFault) (λ e. absurd cc) (made_some s left frames l came made) (λ e. absurd cc) tells says
  ends_live end.NoMemory is came (Err halt.Untold) made quiet tells says =
      memory_said (Err halt.Untold) (λ e. absurd cc) (made_some s left frames l came made) (λ e. absurd cc) tells says
  ends_live end.NoMemory is came (Err halt.Broken) made quiet tells says =
      memory_said (Err halt.Broken) (λ e. absurd cc) (made_some s left frames l came made) (λ e. absurd cc) tells says
  ends_live end.Done is came (Ok u) made quiet tells says =
      ends_told u came made (λ e. absurd (let clash : Ok u ≡ Err halt.ReportFault = quiet e in cc)) is tells says
  ends_live end.Done is came (Err halt.ReportFault) made quiet tells says =
      report_cut (made_some s left frames l came made) (λ e. absurd cc) tells says
  ends_live end.Done is came (Err (halt.Refused r)) made quiet tells says =
      memory_said (Err (halt.Refused r)) (λ e. absurd cc) (made_some s left frames l came made) (λ e. absurd cc) tells says
  ends_live end.Done is came (Err halt.ReadFault) made quiet tells says =
      memory_said (Err halt.ReadFault) (λ e. absurd cc) (made_some s left frames l came made) (λ e. absurd cc) tells says
  ends_live end.Done is came (Err halt.Untold) made quiet tells says =
      memory_said (Err halt.Untold) (λ e. absurd cc) (made_some s left frames l came made) (λ e. absurd cc) tells says
  ends_live end.Done is came (Err halt.Broken) made quiet tells says =
      memory_said (Err halt.Broken) (λ e. absurd cc) (made_some s left frames l came made) (λ e. absurd cc) tells says

-- Telling the rest, by what came before
module _ {R G : Type 0} where
  pub tells_of : (report mid report' : Bytes) (before then now n : ℕ) (l : Driven R G) (log : Log) (rest : List Stats) (came told : Result Unit Halt) →
      ToldAt came report mid before then l →
      (is_quiet came ≡ false → TellsRest l.frames n log rest mid report' then now told) →
      (is_quiet came ≡ true → (told ≡ came) × (report' ≡ mid) × (now ≡ then)) →
      take n log ≡ told_log l.pipe → ToldOut told log report report' before now
  tells_of report mid report' before then now n l log rest (Ok u) told at tells none first =
      told_rest report mid report' before then now n l log rest told at (tells refl) first
  tells_of report mid report' before then now n l log rest (Err (halt.Refused r)) told at tells none first =
      told_rest report mid report' before then now n l log rest told at (tells refl) first
  tells_of report mid report' before then now n l log rest (Err halt.ReadFault) told at tells none first =
      told_rest report mid report' before then now n l log rest told at (tells refl) first
  tells_of report mid report' before then now n l log rest (Err halt.Broken) told at tells none first =
      told_rest report mid report' before then now n l log rest told at (tells refl) first
  tells_of report mid report' before then now n l log rest (Err halt.ReportFault) told at tells none first =
      let is = none refl in
      let cut = cut_out (told_log l.pipe) log report mid before then (subst (λ (es : Log). IsPrefix es log) first (prefix_take n log)) at in
      subst (λ (r : Result Unit Halt). ToldOut r log report report' before now) (sym is.0)
      (record {
        items = cut.items;
        front = cut.front;
        lines = subst (λ (k : ℕ). IsTold report report' before k (report_lines 1 cut.items)) (sym is.2)
            (subst (λ (b : Bytes). IsTold report b before then (report_lines 1 cut.items)) (sym is.1) cut.lines);
        rose = is.2 ∙ cut.rose;
      })
  tells_of report mid report' before then now n l log rest (Err halt.Untold) told at tells none first =
      let is = none refl in
      let front = front_out (told_log l.pipe) log report mid before then (subst (λ (es : Log). IsPrefix es log) first (prefix_take n log)) at in
      subst (λ (r : Result Unit Halt). ToldOut r log report report' before now) (sym is.0)
      (record { items = front.items; front = front.front; lines = is.1 ∙ front.lines; calm = is.2 ∙ front.calm })
