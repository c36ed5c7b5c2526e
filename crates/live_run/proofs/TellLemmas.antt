-- What telling comes to, step by step.
use Rattle.std.proofs.Common.{◌≡◌, ℕ, ◌+◌, List, [], ◌∷◌, ◌++◌, take, length, Some, Result, Ok, Err, OnOk, OnErr, refl, sym, ap, ◌∙◌, append_assoc, arith}
use Rattle.std.proofs.lemmas.List.{append-nil, length-append}
use Rattle.draw_list.specs.declared.stats.Stats.{Stats}
use Rattle.pf_history.specs.Logs.{Log}
use Rattle.play_report.specs.Entries.{entry_texts}
use Rattle.play_report.specs.Frames.{frame_text, frame_texts}
use Rattle.frame_stages.specs.AppWorks.{AppWork}
use Rattle.frame_stages.specs.Flights.{TellsNext}
use Rattle.mode_hosts.specs.declared.live.LivePipe.{LivePipe}
use Rattle.mode_hosts.specs.Lives.{app_of, stats_of, numbers_told}
use Rattle.live_run.specs.Reports.{FrameItem, entries_in, frames_in, report_lines}
use Rattle.live_run.specs.Driven.{told_log, told_stats}
use Rattle.live_run.specs.Telling.{Lists, Tells, TellsFront, StaysLive}
use Rattle.live_run.proofs.ReportLemmas.{take_next, entries-append, frames-append, lines-append, entry_items, entries-entry_items, frames-entry_items, lines-entry_items, frame_items, entries-frame_items, frames-frame_items, lines-frame_items}

-- what holds, holds at an error
pub on_err : {A E : Type 0} (r : Result A E) (P : Type 0) → P → OnErr r P
on_err (Ok x) P holds = tt
on_err (Err e) P holds = holds

-- what follows from what holds at a success, or at an error
pub ok_then : {A E : Type 0} (r : Result A E) (P Q : Type 0) → (P → Q) → OnOk r P → OnOk r Q
ok_then (Ok x) P Q on holds = on holds
ok_then (Err e) P Q on holds = tt

pub err_then : {A E : Type 0} (r : Result A E) (P Q : Type 0) → (P → Q) → OnErr r P → OnErr r Q
err_then (Ok x) P Q on holds = tt
err_then (Err e) P Q on holds = on holds

-- the lines of entries, and behind them those of frames
pub rest_lists : (n : ℕ) (es : Log) (ss : List Stats) (t a b u : List ℕ) → a ≡ entry_texts es → b ≡ a ++ frame_texts (n + 1) ss → u ≡ t ++ b →
    Lists n es ss t u
rest_lists n es ss t a b u first second whole =
    let xs = entry_items es in
    let ys = frame_items ss in
    let none : length (frames_in xs) ≡ 0 = ap length (frames-entry_items es) in
    let same : n + 1 + length (frames_in xs) ≡ n + 1 = omega (arith, none) in
    let lines : report_lines (n + 1) (xs ++ ys) ≡ entry_texts es ++ frame_texts (n + 1) ss =
    lines-append (n + 1) xs ys ∙ ap (λ (x : List ℕ). x ++ report_lines (n + 1 + length (frames_in xs)) ys) (lines-entry_items (n + 1) es)
    ∙ ap (λ (k : ℕ). entry_texts es ++ report_lines k ys) same ∙ ap (λ (x : List ℕ). entry_texts es ++ x) (lines-frame_items (n + 1) ss) in
    record {
      items = xs ++ ys;
      entries = entries-append xs ys ∙ ap (λ (x : Log). x ++ entries_in ys) (entries-entry_items es)
          ∙ ap (λ (x : Log). es ++ x) (entries-frame_items ss) ∙ append-nil es;
      frames = frames-append xs ys ∙ ap (λ (x : List Stats). x ++ frames_in ys) (frames-entry_items es) ∙ frames-frame_items ss;
      lines = whole ∙ ap (λ (x : List ℕ). t ++ x) (second ∙ ap (λ (x : List ℕ). x ++ frame_texts (n + 1) ss) first ∙ sym lines);
    }

module _ {R G : Type 0} where
  -- Nothing, and one after the other

  pub stays_same : (p : LivePipe R G) → StaysLive p p
  stays_same p =
      record {
        keeps = λ play ahead asked bytes now h. h;
        live = λ h. h;
        rests = λ h. h;
        blamed = λ before now at_fault bytes h. h;
        stats = refl;
      }

  pub stays_more : (p q r : LivePipe R G) → StaysLive p q → StaysLive q r → StaysLive p r
  stays_more p q r first second =
      record {
        keeps = λ play ahead asked bytes now h. second.keeps play ahead asked bytes now (first.keeps play ahead asked bytes now h);
        live = λ h. second.live (first.live h);
        rests = λ h. second.rests (first.rests h);
        blamed = λ before now at_fault bytes h. second.blamed before now at_fault bytes (first.blamed before now at_fault bytes h);
        stats = second.stats ∙ first.stats;
      }

  pub tells_same : (n : ℕ) (p : LivePipe R G) (text : List ℕ) → Tells n n p p text text
  tells_same n p text =
      record {
        items = [];
        log = sym (append-nil (told_log p));
        stats = sym (append-nil (told_stats p));
        frames = omega arith;
        lines = sym (append-nil text);
      }

  pub tells_more : (n m k : ℕ) (p q r : LivePipe R G) (t u v : List ℕ) → Tells n m p q t u → Tells m k q r u v → Tells n k p r t v
  tells_more n m k p q r t u v first second =
      let long : length (frames_in (first.items ++ second.items)) ≡ length (frames_in first.items) + length (frames_in second.items) =
      ap length (frames-append first.items second.items) ∙ length-append (frames_in first.items) (frames_in second.items) in
      let next : m + 1 ≡ n + 1 + length (frames_in first.items) = let is = first.frames in omega (arith, is) in
      record {
        items = first.items ++ second.items;
        log = second.log ∙ ap (λ (es : Log). es ++ entries_in second.items) first.log
            ∙ append_assoc (told_log p) (entries_in first.items) (entries_in second.items)
            ∙ ap (λ (es : Log). told_log p ++ es) (sym (entries-append first.items second.items));
        stats = second.stats ∙ ap (λ (ss : List Stats). ss ++ frames_in second.items) first.stats
            ∙ append_assoc (told_stats p) (frames_in first.items) (frames_in second.items)
            ∙ ap (λ (ss : List Stats). told_stats p ++ ss) (sym (frames-append first.items second.items));
        frames = let one = first.frames in let two = second.frames in omega (arith, one, two, long);
        lines = second.lines ∙ ap (λ (x : List ℕ). x ++ report_lines (m + 1) second.items) first.lines
            ∙ append_assoc t (report_lines (n + 1) first.items) (report_lines (m + 1) second.items)
            ∙ ap (λ (x : List ℕ). t ++ x) (ap (λ (j : ℕ). report_lines (n + 1) first.items ++ report_lines j second.items) next
            ∙ sym (lines-append (n + 1) first.items second.items));
      }

  pub tells_then : (n m : ℕ) (p q r : LivePipe R G) (t u v : List ℕ) → Tells n m p q t u → TellsFront m q r u v → TellsFront n p r t v
  tells_then n m p q r t u v first second =
      let next : m + 1 ≡ n + 1 + length (frames_in first.items) = let is = first.frames in omega (arith, is) in
      record {
        items = first.items ++ second.items;
        lost = second.lost;
        lost_stats = second.lost_stats;
        log = second.log ∙ ap (λ (es : Log). es ++ (entries_in second.items ++ second.lost)) first.log
            ∙ append_assoc (told_log p) (entries_in first.items) (entries_in second.items ++ second.lost)
            ∙ ap (λ (es : Log). told_log p ++ es) (sym (append_assoc (entries_in first.items) (entries_in second.items) second.lost)
            ∙ ap (λ (es : Log). es ++ second.lost) (sym (entries-append first.items second.items)));
        stats = second.stats ∙ ap (λ (ss : List Stats). ss ++ (frames_in second.items ++ second.lost_stats)) first.stats
            ∙ append_assoc (told_stats p) (frames_in first.items) (frames_in second.items ++ second.lost_stats)
            ∙ ap (λ (ss : List Stats). told_stats p ++ ss) (sym (append_assoc (frames_in first.items) (frames_in second.items) second.lost_stats)
            ∙ ap (λ (ss : List Stats). ss ++ second.lost_stats) (sym (frames-append first.items second.items)));
        lines = second.lines ∙ ap (λ (x : List ℕ). x ++ report_lines (m + 1) second.items) first.lines
            ∙ append_assoc t (report_lines (n + 1) first.items) (report_lines (m + 1) second.items)
            ∙ ap (λ (x : List ℕ). t ++ x) (ap (λ (j : ℕ). report_lines (n + 1) first.items ++ report_lines j second.items) next
            ∙ sym (lines-append (n + 1) first.items second.items));
      }

  -- nothing is lost of what was told wholly
  pub tells_whole : (n m : ℕ) (p q : LivePipe R G) (t u : List ℕ) → Tells n m p q t u → TellsFront n p q t u
  tells_whole n m p q t u told =
      record {
        items = told.items;
        lost = [];
        lost_stats = [];
        log = told.log ∙ ap (λ (es : Log). told_log p ++ es) (sym (append-nil (entries_in told.items)));
        stats = told.stats ∙ ap (λ (ss : List Stats). told_stats p ++ ss) (sym (append-nil (frames_in told.items)));
        lines = told.lines;
      }

  -- Entries

  pub entries_told : (n : ℕ) (p q : LivePipe R G) (more : Log) (t u : List ℕ) → told_log q ≡ told_log p ++ more →
      told_stats q ≡ told_stats p → u ≡ t ++ entry_texts more → Tells n n p q t u
  entries_told n p q more t u log stats lines =
      record {
        items = entry_items more;
        log = log ∙ ap (λ (es : Log). told_log p ++ es) (sym (entries-entry_items more));
        stats = stats ∙ sym (append-nil (told_stats p)) ∙ ap (λ (ss : List Stats). told_stats p ++ ss) (sym (frames-entry_items more));
        frames = let none : length (frames_in (entry_items more)) ≡ 0 = ap length (frames-entry_items more) in omega (arith, none);
        lines = lines ∙ ap (λ (x : List ℕ). t ++ x) (sym (lines-entry_items (n + 1) more));
      }

  -- entries that were told, and for whose lines there was no memory
  pub entries_lost : (n : ℕ) (p q : LivePipe R G) (more : Log) (t u : List ℕ) → told_log q ≡ told_log p ++ more →
      told_stats q ≡ told_stats p → u ≡ t → TellsFront n p q t u
  entries_lost n p q more t u log stats lines =
      record {
        items = [];
        lost = more;
        lost_stats = [];
        log = log;
        stats = stats ∙ sym (append-nil (told_stats p));
        lines = lines ∙ sym (append-nil t);
      }

  -- A frame

  pub frame_told : (n : ℕ) (p q : LivePipe R G) (s : Stats) (t u : List ℕ) → told_log q ≡ told_log p →
      told_stats q ≡ told_stats p ++ s ∷ [] → u ≡ t ++ frame_text (n + 1) s → Tells n (n + 1) p q t u
  frame_told n p q s t u log stats lines =
      record {
        items = FrameItem s ∷ [];
        log = log ∙ sym (append-nil (told_log p));
        stats = stats;
        frames = refl;
        lines = lines ∙ ap (λ (x : List ℕ). t ++ x) (sym (append-nil (frame_text (n + 1) s)));
      }

  pub frame_lost : (n : ℕ) (p q : LivePipe R G) (s : Stats) (t u : List ℕ) → told_log q ≡ told_log p →
      told_stats q ≡ told_stats p ++ s ∷ [] → u ≡ t → TellsFront n p q t u
  frame_lost n p q s t u log stats lines =
      record {
        items = [];
        lost = [];
        lost_stats = s ∷ [];
        log = log ∙ sym (append-nil (told_log p));
        stats = stats;
        lines = lines ∙ sym (append-nil t);
      }

  -- what was told of numbers stays where the application does
  pub same_stats : (p q : LivePipe R G) → app_of q ≡ app_of p → told_stats q ≡ told_stats p
  same_stats p q is = ap (λ (w : AppWork). take w.told w.state.stats) is

  -- the numbers of one frame more
  pub next_stats : (p q : LivePipe R G) (s : Stats) → TellsNext (stats_of p) (numbers_told p) (numbers_told q) (Some s) → stats_of q ≡ stats_of p →
      told_stats q ≡ told_stats p ++ s ∷ []
  next_stats p q s (one, next) same =
      ap (λ (ss : List Stats). take (numbers_told q) ss) same ∙ ap (λ (k : ℕ). take k (stats_of p)) one
      ∙ take_next (numbers_told p) (stats_of p) s _ next
