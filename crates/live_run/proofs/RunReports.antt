-- What stands on the report sink, step by step.
use Rattle.std.proofs.Common.{◌≡◌, ℕ, ◌+◌, List, [], ◌++◌, length, take, drop, Option, refl, sym, ap, ◌∙◌, append_assoc, append-nil, subst, arith}
use Rattle.std.proofs.lemmas.List.{length-append, take-append-drop}
use Rattle.std.specs.Io.KnownBytes.{append_known}
use mathlib.Core.List.{IsPrefix}
use Rattle.pf_io.specs.Causes.{Calm, Rose}
use Rattle.pf_io.proofs.Known.{append_known-append, append_known-nil}
use Rattle.draw_list.specs.declared.stats.Stats.{Stats}
use Rattle.pf_history.specs.Logs.{Log}
use Rattle.program_ends.specs.Told.{Bytes, IsTold}
use Rattle.live_run.specs.Reports.{ReportItem, entries_in, frames_in, report_lines, IsLiveReport}
use Rattle.live_run.specs.Driven.{Driven, told_log}
use Rattle.live_run.specs.Telling.{Lists, Tells, TellsFront}
use Rattle.live_run.specs.Runs.{HasTold, ReportsFront, ReportsCut}
use Rattle.live_run.specs.Closing.{TellsAll}
use Rattle.live_run.proofs.ReportLemmas.{entries-append, frames-append, lines-append}
use Rattle.live_run.proofs.RunTexts.{told_behind}

-- the lines of items, and of items that are numbered from behind these on
pub lines_on : (n : ℕ) (xs ys : List ReportItem) → n ≡ length (frames_in xs) →
    report_lines 1 xs ++ report_lines (n + 1) ys ≡ report_lines 1 (xs ++ ys)
lines_on n xs ys is =
    let same : 1 + length (frames_in xs) ≡ n + 1 = omega (arith, is) in
    ap (λ (k : ℕ). report_lines 1 xs ++ report_lines k ys) (sym same) ∙ sym (lines-append 1 xs ys)

pub prefix_self : {A : Type 0} (xs : List A) → IsPrefix xs xs
prefix_self xs = ([], append-nil xs)

pub prefix_of : {A : Type 0} (xs ys whole : List A) → whole ≡ xs ++ ys → IsPrefix xs whole
prefix_of xs ys whole is = (ys, sym is)

pub prefix_on : {A : Type 0} (xs ys zs : List A) → IsPrefix xs ys → IsPrefix ys zs → IsPrefix xs zs
prefix_on xs ys zs (r, is) (s, more) = (r ++ s, sym (append_assoc xs r s) ∙ ap (λ t. t ++ s) is ∙ more)

pub prefix_take : {A : Type 0} (n : ℕ) (xs : List A) → IsPrefix (take n xs) xs
prefix_take n xs = (drop n xs, take-append-drop n xs)

module _ {R G : Type 0} where
  -- nothing was told yet
  pub told_none : (report : Bytes) (faults : ℕ) (l : Driven R G) → told_log l.pipe ≡ [] → l.frames ≡ 0 →
      HasTold report report faults faults l
  told_none report faults l log frames =
      record {
        items = [];
        log = sym log;
        count = frames;
        lines = sym (append_known-nil report);
        calm = refl;
      }

  -- what was told stays
  pub told_stays : (report report' : Bytes) (before now : ℕ) (l m : Driven R G) → told_log m.pipe ≡ told_log l.pipe →
      m.frames ≡ l.frames → HasTold report report' before now l → HasTold report report' before now m
  told_stays report report' before now l m log frames told =
      record {
        items = told.items;
        log = told.log ∙ sym log;
        count = frames ∙ told.count;
        lines = told.lines;
        calm = told.calm;
      }

  -- more was told, and written
  pub told_on : (report mid report' : Bytes) (before then now : ℕ) (l m : Driven R G) (text : List ℕ) → HasTold report mid before then l →
      Tells l.frames m.frames l.pipe m.pipe [] text → report' ≡ append_known mid text → Calm then now → HasTold report report' before now m
  told_on report mid report' before then now l m text told tells wrote calm =
      record {
        items = told.items ++ tells.items;
        log = entries-append told.items tells.items ∙ ap (λ (es : Log). es ++ entries_in tells.items) told.log ∙ sym tells.log;
        count = tells.frames ∙ ap (λ (n : ℕ). n + length (frames_in tells.items)) told.count
            ∙ sym (length-append (frames_in told.items) (frames_in tells.items)) ∙ ap length (sym (frames-append told.items tells.items));
        lines = wrote ∙ ap (λ (b : Bytes). append_known b text) told.lines ∙ append_known-append report (report_lines 1 told.items) text
            ∙ ap (append_known report)
            (ap (λ (t : List ℕ). report_lines 1 told.items ++ t) tells.lines ∙ lines_on l.frames told.items tells.items told.count);
        calm = calm ∙ told.calm;
      }

  -- more was told, and written up to a fault
  pub told_to : (report mid report' : Bytes) (before then now : ℕ) (l m : Driven R G) (text : List ℕ) → HasTold report mid before then l →
      Tells l.frames m.frames l.pipe m.pipe [] text → IsTold mid report' then now text → Rose then now →
      ReportsCut (told_log m.pipe) report report' before now
  told_to report mid report' before then now l m text told tells wrote rose =
      let all : entries_in (told.items ++ tells.items) ≡ told_log m.pipe =
      entries-append told.items tells.items ∙ ap (λ (es : Log). es ++ entries_in tells.items) told.log ∙ sym tells.log in
      let lines : report_lines 1 told.items ++ text ≡ report_lines 1 (told.items ++ tells.items) =
      ap (λ (t : List ℕ). report_lines 1 told.items ++ t) tells.lines ∙ lines_on l.frames told.items tells.items told.count in
      record {
        items = told.items ++ tells.items;
        front = subst (λ (es : Log). IsPrefix (entries_in (told.items ++ tells.items)) es) all (prefix_self (entries_in (told.items ++ tells.items)));
        lines = subst (λ (t : List ℕ). IsTold report report' before now t) lines
            (told_behind report mid report' before then now (report_lines 1 told.items) text told.lines told.calm wrote);
        rose = subst (λ (n : ℕ). Rose n now) told.calm rose;
      }

  -- more was told, of which some is lost, and nothing is written
  pub told_lost : (report report' : Bytes) (before now : ℕ) (l m : Driven R G) (text : List ℕ) → HasTold report report' before now l →
      TellsFront l.frames l.pipe m.pipe [] text → ReportsFront (told_log m.pipe) report report' before now
  told_lost report report' before now l m text told tells =
      record {
        items = told.items;
        front = prefix_of (entries_in told.items) (entries_in tells.items ++ tells.lost) (told_log m.pipe)
            (tells.log ∙ ap (λ (es : Log). es ++ (entries_in tells.items ++ tells.lost)) (sym told.log));
        lines = told.lines;
        calm = told.calm;
      }

  -- all that was told of a history, and its rest
  pub told_out : (report mid report' : Bytes) (before then now n : ℕ) (l : Driven R G) (log : Log) (rest : List Stats) (text : List ℕ) →
      HasTold report mid before then l → Lists l.frames (drop n log) rest [] text → take n log ≡ told_log l.pipe →
      report' ≡ append_known mid text → Calm then now → TellsAll log report report' before now
  told_out report mid report' before then now n l log rest text told lists first wrote calm =
      let items = told.items ++ lists.items in
      let entries : entries_in items ≡ log =
      entries-append told.items lists.items ∙ ap (λ (es : Log). es ++ entries_in lists.items) (told.log ∙ sym first)
      ∙ ap (λ (es : Log). take n log ++ es) lists.entries ∙ take-append-drop n log in (
        report_lines 1 items,
        (frames_in items, record { items = items; entries = entries; frames = refl; lines = refl }),
        wrote ∙ ap (λ (b : Bytes). append_known b text) told.lines ∙ append_known-append report (report_lines 1 told.items) text
            ∙ ap (append_known report)
            (ap (λ (t : List ℕ). report_lines 1 told.items ++ t) lists.lines ∙ lines_on l.frames told.items lists.items told.count),
        calm ∙ told.calm,
      )

  -- all that was told, and the rest up to a fault
  pub told_out_to : (report mid report' : Bytes) (before then now n : ℕ) (l : Driven R G) (log : Log) (rest : List Stats) (text : List ℕ) →
      HasTold report mid before then l → Lists l.frames (drop n log) rest [] text → take n log ≡ told_log l.pipe →
      IsTold mid report' then now text → Rose then now → ReportsCut log report report' before now
  told_out_to report mid report' before then now n l log rest text told lists first wrote rose =
      let items = told.items ++ lists.items in
      let entries : entries_in items ≡ log =
      entries-append told.items lists.items ∙ ap (λ (es : Log). es ++ entries_in lists.items) (told.log ∙ sym first)
      ∙ ap (λ (es : Log). take n log ++ es) lists.entries ∙ take-append-drop n log in
      let lines : report_lines 1 told.items ++ text ≡ report_lines 1 items =
      ap (λ (t : List ℕ). report_lines 1 told.items ++ t) lists.lines ∙ lines_on l.frames told.items lists.items told.count in
      record {
        items = items;
        front = subst (λ (es : Log). IsPrefix (entries_in items) es) entries (prefix_self (entries_in items));
        lines = subst (λ (t : List ℕ). IsTold report report' before now t) lines
            (told_behind report mid report' before then now (report_lines 1 told.items) text told.lines told.calm wrote);
        rose = subst (λ (n : ℕ). Rose n now) told.calm rose;
      }

  -- what was told, where nothing more is
  pub told_so_far : (report report' : Bytes) (before now n : ℕ) (l : Driven R G) (log : Log) → HasTold report report' before now l →
      take n log ≡ told_log l.pipe → ReportsFront log report report' before now
  told_so_far report report' before now n l log told first =
      record {
        items = told.items;
        front = subst (λ (es : Log). IsPrefix es log) (first ∙ sym told.log) (prefix_take n log);
        lines = told.lines;
        calm = told.calm;
      }

-- a front of what was told is a front of the whole history
pub front_out : (part log : Log) (report report' : Bytes) (before now : ℕ) → IsPrefix part log → ReportsFront part report report' before now →
    ReportsFront log report report' before now
front_out part log report report' before now front told =
    record { items = told.items; front = prefix_on (entries_in told.items) part log told.front front; lines = told.lines; calm = told.calm }

pub cut_out : (part log : Log) (report report' : Bytes) (before now : ℕ) → IsPrefix part log → ReportsCut part report report' before now →
    ReportsCut log report report' before now
cut_out part log report report' before now front told =
    record { items = told.items; front = prefix_on (entries_in told.items) part log told.front front; lines = told.lines; rose = told.rose }
