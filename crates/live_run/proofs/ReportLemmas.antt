-- The lines of items: of entries alone, of frames alone, and of items one behind the other.
use Rattle.std.proofs.Common.{◌≡◌, ℕ, ◌+◌, ◌-◌, ◌<◌, List, [], ◌∷◌, ◌++◌, take, drop, length, refl, sym, ap, ◌∙◌, append_assoc, arith}
use Rattle.std.proofs.Math.Seq.{take-add}
use Rattle.std.proofs.lemmas.List.{append-nil, length-drop}
use Rattle.draw_list.specs.declared.stats.Stats.{Stats}
use Rattle.pf_history.specs.Logs.{Log}
use Rattle.play_report.specs.Entries.{entry_text, entry_texts}
use Rattle.play_report.specs.Frames.{frame_text, frame_texts}
use Rattle.live_run.specs.Reports.{ReportItem, EntryItem, FrameItem, entries_in, frames_in, report_lines}

-- Items one behind the other

pub entries-append : (xs ys : List ReportItem) → entries_in (xs ++ ys) ≡ entries_in xs ++ entries_in ys
entries-append [] ys = refl
entries-append (EntryItem e ∷ xs) ys = ap (λ (es : Log). e ∷ es) (entries-append xs ys)
entries-append (FrameItem s ∷ xs) ys = entries-append xs ys

pub frames-append : (xs ys : List ReportItem) → frames_in (xs ++ ys) ≡ frames_in xs ++ frames_in ys
frames-append [] ys = refl
frames-append (EntryItem e ∷ xs) ys = frames-append xs ys
frames-append (FrameItem s ∷ xs) ys = ap (λ (ss : List Stats). s ∷ ss) (frames-append xs ys)

pub lines-append : (n : ℕ) (xs ys : List ReportItem) →
    report_lines n (xs ++ ys) ≡ report_lines n xs ++ report_lines (n + length (frames_in xs)) ys
lines-append n [] ys = let same : n ≡ n + 0 = omega arith in ap (λ (k : ℕ). report_lines k ys) same
lines-append n (EntryItem e ∷ xs) ys =
    ap (λ (t : List ℕ). entry_text e.1 ++ t) (lines-append n xs ys)
    ∙ sym (append_assoc (entry_text e.1) (report_lines n xs) (report_lines (n + length (frames_in xs)) ys))
lines-append n (FrameItem s ∷ xs) ys =
    let next : n + 1 + length (frames_in xs) ≡ n + length (s ∷ frames_in xs) = omega arith in
    ap (λ (t : List ℕ). frame_text n s ++ t)
    (lines-append (n + 1) xs ys ∙ ap (λ (k : ℕ). report_lines (n + 1) xs ++ report_lines k ys) next)
    ∙ sym (append_assoc (frame_text n s) (report_lines (n + 1) xs) (report_lines (n + length (s ∷ frames_in xs)) ys))

-- Entries alone

abbrev pub entry_items : Log → List ReportItem
entry_items [] = []
entry_items (e ∷ es) = EntryItem e ∷ entry_items es

pub entries-entry_items : (es : Log) → entries_in (entry_items es) ≡ es
entries-entry_items [] = refl
entries-entry_items (e ∷ es) = ap (λ (rest : Log). e ∷ rest) (entries-entry_items es)

pub frames-entry_items : (es : Log) → frames_in (entry_items es) ≡ []
frames-entry_items [] = refl
frames-entry_items (e ∷ es) = frames-entry_items es

pub lines-entry_items : (n : ℕ) (es : Log) → report_lines n (entry_items es) ≡ entry_texts es
lines-entry_items n [] = refl
lines-entry_items n (e ∷ es) = ap (λ (t : List ℕ). entry_text e.1 ++ t) (lines-entry_items n es)

-- Frames alone

abbrev pub frame_items : List Stats → List ReportItem
frame_items [] = []
frame_items (s ∷ ss) = FrameItem s ∷ frame_items ss

pub frames-frame_items : (ss : List Stats) → frames_in (frame_items ss) ≡ ss
frames-frame_items [] = refl
frames-frame_items (s ∷ ss) = ap (λ (rest : List Stats). s ∷ rest) (frames-frame_items ss)

pub entries-frame_items : (ss : List Stats) → entries_in (frame_items ss) ≡ []
entries-frame_items [] = refl
entries-frame_items (s ∷ ss) = entries-frame_items ss

pub lines-frame_items : (n : ℕ) (ss : List Stats) → report_lines n (frame_items ss) ≡ frame_texts n ss
lines-frame_items n [] = refl
lines-frame_items n (s ∷ ss) = ap (λ (t : List ℕ). frame_text n s ++ t) (lines-frame_items (n + 1) ss)

-- the lines of frames, and of one frame more
pub texts_last : (n : ℕ) (ss : List Stats) (s : Stats) →
    frame_texts n (ss ++ s ∷ []) ≡ frame_texts n ss ++ frame_text (n + length ss) s
texts_last n [] s =
    let same : n ≡ n + 0 = omega arith in append-nil (frame_text n s) ∙ ap (λ (k : ℕ). frame_text k s) same
texts_last n (x ∷ ss) s =
    let next : n + 1 + length ss ≡ n + length (x ∷ ss) = omega arith in
    ap (λ (t : List ℕ). frame_text n x ++ t)
    (texts_last (n + 1) ss s ∙ ap (λ (k : ℕ). frame_texts (n + 1) ss ++ frame_text k s) next)
    ∙ sym (append_assoc (frame_text n x) (frame_texts (n + 1) ss) (frame_text (n + length (x ∷ ss)) s))

-- the lines of entries in two parts
pub texts-append : (xs ys : Log) → entry_texts (xs ++ ys) ≡ entry_texts xs ++ entry_texts ys
texts-append [] ys = refl
texts-append (x ∷ xs) ys =
    ap (λ (t : List ℕ). entry_text x.1 ++ t) (texts-append xs ys) ∙ sym (append_assoc (entry_text x.1) (entry_texts xs) (entry_texts ys))

-- Fronts of lists

-- one more of a list, where it is the next one
pub take_next : {A : Type 0} (n : ℕ) (xs : List A) (x : A) (rest : List A) → drop n xs ≡ x ∷ rest → take (n + 1) xs ≡ take n xs ++ x ∷ []
take_next {A = A} n xs x rest is = take-add n 1 xs ∙ ap (λ (ys : List A). take n xs ++ take 1 ys) is

-- where one is next, there are more
pub fewer : {A : Type 0} (n : ℕ) (xs : List A) (x : A) (rest : List A) → drop n xs ≡ x ∷ rest → n < length xs
fewer n xs x rest is =
    let long : length xs - n ≡ length rest + 1 = sym (length-drop n xs) ∙ ap length is ∙ (omega arith) in
    omega (arith, long)
