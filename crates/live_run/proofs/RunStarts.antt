-- What a live run leaves that stops before its pipe was opened.
use Rattle.std.proofs.Common.{◌≡◌, ℕ, ◌≤◌, List, [], ◌++◌, Option, Some, None, inl, inr, refl, sym, ap, ◌∙◌, subst, arith, rules}
use Rattle.std.specs.Prelude.{◌≢◌, ◌⊎◌, ◌↔◌, Result, Ok, Err, IsSome, IfSome}
use Rattle.std.specs.Io.KnownBytes.{append_known}
use Rattle.pf_io.specs.Causes.{Calm, Rose}
use Rattle.pf_io.specs.Streams.{TakesFront}
use Rattle.pf_io.proofs.Known.{append_known-nil}
use Rattle.play_format.specs.declared.refusal.Refusal.{Refusal}
use Rattle.pf_history.specs.Logs.{Log}
use Rattle.pipe_plays.specs.declared.played.PlayEnd.{PlayEnd}
use Rattle.pipe_plays.specs.declared.played.PlayEnd.TheVariants as end
use Rattle.program_ends.specs.declared.stop.Stop.{Stop}
use Rattle.program_ends.specs.declared.stop.Stop.TheVariants as stop
use Rattle.program_ends.specs.Statuses.{status_of, refusal_of}
use Rattle.program_ends.specs.Messages.{message_of}
use Rattle.program_ends.specs.Told.{Bytes, IsTold}
use Rattle.live_run.specs.declared.halt.Halt.{Halt}
use Rattle.live_run.specs.declared.halt.Halt.TheVariants as halt
use Rattle.live_run.specs.Halts.{stop_of}
use Rattle.live_run.specs.LiveRuns.{Takes, IsUnopened, LeavesCut, IsWrong, IsLiveRefused, IsLiveUnread, IsLiveBegun, IsLiveStopped}
use Rattle.live_run.specs.Runs.{Start, ReadBlames, BeginsNot}
use Rattle.live_run.specs.Closing.{StatusBlames, StatusReads, EndsLive}
use Rattle.live_run.proofs.RunReports.{prefix_self}
use Rattle.live_run.proofs.RunEnds.{ends_refused, ends_unread, ends_memory}

none_is_some : IsSome {T = Refusal} None → ⊥
none_is_some is = absurd cc

unopened : (log : Log) (frames : Bytes) → log ≡ [] → IsUnopened log frames frames
unopened log frames none = record { no_entry = none; undrawn = refl }

-- a message behind nothing
behind_none : (report report' : Bytes) (before now : ℕ) (message : List ℕ) → IsTold report report' before now message →
    IsTold (append_known report []) report' before now message
behind_none report report' before now message told =
    subst (λ (b : Bytes). IsTold b report' before now message) (sym (append_known-nil report)) told

-- the run said why it stops, and nothing before
pub stops_bare : (status : ℕ) (refusal : Option Refusal) (why : Stop) (log : Log) (report report' : Bytes) (before now : ℕ) →
    status ≡ status_of why → refusal ≡ refusal_of why → log ≡ [] → IsTold report report' before now (message_of why) →
    IsLiveStopped status refusal log report report' before now
stops_bare status refusal why log report report' before now at with_refusal none told =
    record {
      why = why;
      at_status = at;
      with_refusal = with_refusal;
      items = [];
      front = (log, refl);
      told = told;
    }

pub begun_bare : (s : Start) (left' : Bytes) (other : PlayEnd) (log : Log) (text : List ℕ) → Takes s.left left' text → log ≡ [] →
    IsLiveBegun (Some s.setup) s.left left' other log s.frames s.frames
begun_bare s left' other log text taken none =
    record { setup = s.setup; meaning = refl; text = text; taken = taken; part = inl (unopened log s.frames none) }

pub not_begun : (s : Start) (left' : Bytes) (h : Halt) (status : ℕ) (refusal : Option Refusal) (log : Log) (report' : Bytes) (faults' : ℕ) →
    BeginsNot s.left left' h → status ≡ status_of (stop_of h) → refusal ≡ refusal_of (stop_of h) → log ≡ [] →
    IsTold s.report report' s.faults faults' (message_of (stop_of h)) → EndsLive s left' status refusal log s.frames report' faults'
not_begun s left' (halt.Refused r) status refusal log report' faults' (text, taken, wrong) at some none told =
    ends_refused s left' status refusal log s.frames report' faults' at r some
    (record {
      setup = s.setup;
      meaning = refl;
      text = text;
      taken = taken;
      refused = wrong;
      told = [];
      cut = inl (unopened log s.frames none, refl);
      message = behind_none s.report report' s.faults faults' (message_of (stop.Refused r)) told;
    })
not_begun s left' halt.ReadFault status refusal log report' faults' (text, taken) at some none told =
    ends_unread s left' status refusal log s.frames report' faults' at
    (record {
      setup = s.setup;
      meaning = refl;
      text = text;
      taken = taken;
      told = [];
      cut = inl (unopened log s.frames none, refl);
      message = behind_none s.report report' s.faults faults' (message_of stop.ReadFault) told;
    })
not_begun s left' halt.Broken status refusal log report' faults' (text, taken) at some none told =
    ends_memory s left' status refusal log s.frames report' faults' at (begun_bare s left' end.NoMemory log text taken none)
    (stops_bare status refusal stop.NoMemory log s.report report' s.faults faults' at some none told)
not_begun s left' halt.ReportFault status refusal log report' faults' nay at some none told = absurd nay
not_begun s left' halt.Untold status refusal log report' faults' nay at some none told = absurd nay

-- a front was taken
pub took_front : (left left' : Bytes) (h : Halt) → BeginsNot left left' h → TakesFront left left'
took_front left left' (halt.Refused r) (text, taken, wrong) = (text, taken)
took_front left left' halt.ReadFault (text, taken) = (text, taken)
took_front left left' halt.Broken (text, taken) = (text, taken)
took_front left left' halt.ReportFault nay = absurd nay
took_front left left' halt.Untold nay = absurd nay

-- what is said of some holds of one, where there is one
pub some_of : {A : Type 0} (o : Option A) (P : A → Type 0) → IsSome o → IfSome o P → (x : A) × P x
some_of None P some h = absurd cc
some_of (Some x) P some h = (x, h)

-- The statuses of a run that stops before its pipe was opened

bare_status : (h : Halt) → (status_of (stop_of h) ≡ 2) ⊎ (status_of (stop_of h) ≡ 4) ⊎ (status_of (stop_of h) ≡ 7)
bare_status (halt.Refused r) = inl refl
bare_status halt.ReadFault = inr (inl refl)
bare_status halt.ReportFault = inr (inr refl)
bare_status halt.Untold = inr (inr refl)
bare_status halt.Broken = inr (inr refl)

pub bare_one_of : (h : Halt) (status : ℕ) → status ≡ status_of (stop_of h) → (status ≡ 0) ⊎ (status ≡ 2) ⊎ ((4 ≤ status) × (status ≤ 7))
bare_one_of h status is = by (bare_status h)
  where
    by : (status_of (stop_of h) ≡ 2) ⊎ (status_of (stop_of h) ≡ 4) ⊎ (status_of (stop_of h) ≡ 7) →
        (status ≡ 0) ⊎ (status ≡ 2) ⊎ ((4 ≤ status) × (status ≤ 7))
    by (inl q) = inr (inl (is ∙ q))
    by (inr (inl q)) = inr (inr (omega (arith, is, q), omega (arith, is, q)))
    by (inr (inr q)) = inr (inr (omega (arith, is, q), omega (arith, is, q)))

pub bare_blames : (h : Halt) (status n : ℕ) (at_fault bytes : Bytes) → status ≡ status_of (stop_of h) → StatusBlames status n n at_fault bytes
bare_blames h status n at_fault bytes is = by (bare_status h)
  where
    by : (status_of (stop_of h) ≡ 2) ⊎ (status_of (stop_of h) ≡ 4) ⊎ (status_of (stop_of h) ≡ 7) → StatusBlames status n n at_fault bytes
    by (inl q) = record { fault = λ e. absurd (omega (arith, is, q, e)); last = λ e. absurd (omega (arith, is, q, e)); calm = λ nay. refl }
    by (inr (inl q)) = record { fault = λ e. absurd (omega (arith, is, q, e)); last = λ e. absurd (omega (arith, is, q, e)); calm = λ nay. refl }
    by (inr (inr q)) = record { fault = λ e. absurd (omega (arith, is, q, e)); last = λ e. absurd (omega (arith, is, q, e)); calm = λ nay. refl }

pub bare_refusal : (h : Halt) (status : ℕ) (refusal : Option Refusal) → status ≡ status_of (stop_of h) → refusal ≡ refusal_of (stop_of h) →
    IsSome refusal ↔ status ≡ 2
bare_refusal (halt.Refused r) status refusal is some = ((λ q. is), (λ q. subst (λ (o : Option Refusal). IsSome o) (sym some) (search rules)))
bare_refusal halt.ReadFault status refusal is none =
    ((λ some. absurd (none_is_some (subst (λ (o : Option Refusal). IsSome o) none some))), (λ q. absurd (omega (arith, is, q))))
bare_refusal halt.ReportFault status refusal is none =
    ((λ some. absurd (none_is_some (subst (λ (o : Option Refusal). IsSome o) none some))), (λ q. absurd (omega (arith, is, q))))
bare_refusal halt.Untold status refusal is none =
    ((λ some. absurd (none_is_some (subst (λ (o : Option Refusal). IsSome o) none some))), (λ q. absurd (omega (arith, is, q))))
bare_refusal halt.Broken status refusal is none =
    ((λ some. absurd (none_is_some (subst (λ (o : Option Refusal). IsSome o) none some))), (λ q. absurd (omega (arith, is, q))))

-- what a count says at an answer
pub reads_fault : {A : Type 0} (r : Result A Halt) (before now : ℕ) → r ≡ Err halt.ReadFault → ReadBlames r before now → Rose before now
reads_fault (Ok x) before now is blames = absurd cc
reads_fault (Err halt.ReadFault) before now is blames = blames
reads_fault (Err (halt.Refused r)) before now is blames = absurd cc
reads_fault (Err halt.ReportFault) before now is blames = absurd cc
reads_fault (Err halt.Untold) before now is blames = absurd cc
reads_fault (Err halt.Broken) before now is blames = absurd cc

pub reads_calm : {A : Type 0} (r : Result A Halt) (before now : ℕ) → r ≢ Err halt.ReadFault → ReadBlames r before now → Calm before now
reads_calm (Ok x) before now nay blames = blames
reads_calm (Err halt.ReadFault) before now nay blames = absurd (nay refl)
reads_calm (Err (halt.Refused r)) before now nay blames = blames
reads_calm (Err halt.ReportFault) before now nay blames = blames
reads_calm (Err halt.Untold) before now nay blames = blames
reads_calm (Err halt.Broken) before now nay blames = blames

reads_either : {A : Type 0} (r : Result A Halt) (before now : ℕ) → ReadBlames r before now → Calm before now ⊎ Rose before now
reads_either (Ok x) before now blames = inl blames
reads_either (Err halt.ReadFault) before now blames = inr blames
reads_either (Err (halt.Refused r)) before now blames = inl blames
reads_either (Err halt.ReportFault) before now blames = inl blames
reads_either (Err halt.Untold) before now blames = inl blames
reads_either (Err halt.Broken) before now blames = inl blames

pub closed_reads : (status before now : ℕ) (came : Result Unit Halt) → (status ≡ 4 → came ≡ Err halt.ReadFault) → (status ≤ 2 → came ≢ Err halt.ReadFault) →
    ReadBlames came before now → StatusReads status before now
closed_reads status before now came fault calm blames =
    record {
      fault = λ q. reads_fault came before now (fault q) blames;
      calm = λ few. reads_calm came before now (calm few) blames;
      counts = reads_either came before now blames;
    }

pub bare_reads : {A : Type 0} (r : Result A Halt) (h : Halt) (status before now : ℕ) → r ≡ Err h → status ≡ status_of (stop_of h) →
    ReadBlames r before now → StatusReads status before now
bare_reads r h status before now is at blames =
    record {
      fault = λ q. reads_fault r before now (is ∙ ap Err (four h (sym at ∙ q))) blames;
      calm = λ few. reads_calm r before now (λ e. absurd (let same : h ≡ halt.ReadFault = cc in
          let status_is : status ≡ 4 = at ∙ ap (λ (x : Halt). status_of (stop_of x)) same in omega (arith, status_is, few))) blames;
      counts = reads_either r before now blames;
    }
  where
    four : (h : Halt) → status_of (stop_of h) ≡ 4 → h ≡ halt.ReadFault
    four (halt.Refused r) q = absurd (omega (arith, q))
    four halt.ReadFault q = refl
    four halt.ReportFault q = absurd (omega (arith, q))
    four halt.Untold q = absurd (omega (arith, q))
    four halt.Broken q = absurd (omega (arith, q))
