-- Plays worked by hand: the report of the one-thread object's own history.
use Rattle.std.proofs.Common.{◌≡◌, ℕ, ◌+◌, ◌/◌, ◌%◌, ◌^◌, ◌<◌, ◌≤◌, false, List, [], ◌∷◌, ◌++◌, Some, None, pos, refl, ap, ◌∙◌, arith}
use Rattle.std.specs.Prelude.{codes, count_by, decimal}
use Rattle.std.proofs.lemmas.Fmt.{decimal_digit, decimal_step}
use Rattle.fx_math.specs.Constants.{origin_vector}
use Rattle.fx_math.specs.declared.lenses.Lens.{Lens}
use Rattle.pf_model.specs.declared.edits.Edit.TheVariants as edit
use Rattle.pf_model.specs.declared.nodes.Kind.TheVariants.{Group, Geode}
use Rattle.pf_model.specs.Graphs.{height_in, size_in, below_in, levels}
use Rattle.pf_model.specs.Boxes.{box_in}
use Rattle.pf_model.specs.Walks.{walk_in}
use Rattle.pf_history.specs.declared.commands.Command.{Command}
use Rattle.pf_history.specs.declared.commands.Command.TheVariants as command
use Rattle.pf_history.specs.Objects.{FrameState, opening_state, next_state}
use Rattle.pf_history.specs.Logs.{Log, entry_of}
use Rattle.draw_list.specs.declared.stats.Stats.{Stats}
use Rattle.draw_list.specs.Order.{all_states}
use Rattle.play_report.specs.Entries.{entry_texts}
use Rattle.play_report.specs.Frames.{stats_of_frames}
use Rattle.play_report.specs.Probes.{probe_text}
use Rattle.play_report.specs.Reports.{report_text, report, summary_text}

-- the object's own entries for commands that are made one after the other
abbrev log_from : FrameState → List Command → Log
log_from s [] = []
log_from s (c ∷ cs) = (0, entry_of s c) ∷ log_from (next_state s c) cs

abbrev log_of : List Command → Log
log_of cs = log_from (opening_state 1) cs

abbrev lines : List Command → List ℕ
lines cs = entry_texts (log_of cs)

-- The texts of the numbers below

zero_text : decimal 0 ≡ codes "0"
zero_text = decimal_digit 0 (omega arith)

one_text : decimal 1 ≡ codes "1"
one_text = decimal_digit 1 (omega arith)

two_text : decimal 2 ≡ codes "2"
two_text = decimal_digit 2 (omega arith)

three_text : decimal 3 ≡ codes "3"
three_text = decimal_digit 3 (omega arith)

four_text : decimal 4 ≡ codes "4"
four_text = decimal_digit 4 (omega arith)

with_digit : (n d : ℕ) (ds : List ℕ) → 10 ≤ n → n < 2 ^ 64 → decimal (n / 10) ≡ ds → n % 10 ≡ d → decimal n ≡ ds ++ (48 + d) ∷ []
with_digit n d ds large small front last =
    decimal_step n large small ∙ ap (λ (t : List ℕ). t ++ (48 + n % 10) ∷ []) front ∙ ap (λ (k : ℕ). ds ++ (48 + k) ∷ []) last

eighteen_text : decimal 18 ≡ codes "18"
eighteen_text = with_digit 18 8 (codes "1") (omega arith) (omega arith) one_text refl

text_of_1800 : decimal 1800 ≡ codes "1800"
text_of_1800 =
    with_digit 1800 0 (codes "180") (omega arith) (omega arith) (with_digit 180 0 (codes "18") (omega arith) (omega arith) eighteen_text refl) refl

text_of_77 : decimal 77 ≡ codes "77"
text_of_77 = with_digit 77 7 (codes "7") (omega arith) (omega arith) (decimal_digit 7 (omega arith)) refl

text_of_32768 : decimal 32768 ≡ codes "32768"
text_of_32768 =
    with_digit 32768 8 (codes "3276") (omega arith) (omega arith)
    (with_digit 3276 6 (codes "327") (omega arith) (omega arith)
    (with_digit 327 7 (codes "32") (omega arith) (omega arith)
    (with_digit 32 2 (codes "3") (omega arith) (omega arith) three_text refl) refl) refl) refl

text_of_46 : decimal 46 ≡ codes "46"
text_of_46 = with_digit 46 6 (codes "4") (omega arith) (omega arith) four_text refl

-- Entries alone

group_and_no_frame : report_text (log_of (command.Edit (edit.Make 1 Group) ∷ command.Sync 0 ∷ [])) []
    ≡ codes "app group 1 : ok\napp sync 0 : freed 0\n"
group_and_no_frame = simp (zero_text, one_text)

cycle_by_a_second_add :
    lines
    (command.Edit (edit.Make 1 Group) ∷ command.Edit (edit.Make 2 Group) ∷ command.Edit (edit.Add 0 1) ∷ command.Edit (edit.Add 1 2)
    ∷ command.Edit (edit.Add 2 1) ∷ command.Sync 0 ∷ [])
    ≡ codes "app group 1 : ok\napp group 2 : ok\napp add 0 1 : ok\napp add 1 2 : ok\napp add 2 1 : fault Cycle 2 1\napp sync 0 : freed 0\n"
unfolding height_in size_in below_in levels
cycle_by_a_second_add = simp (zero_text, one_text, two_text)

-- A merge between two frames

abbrev merge_between : List Command
merge_between =
    command.Edit (edit.Make 1 Group) ∷ command.Edit (edit.Add 0 1) ∷ command.Sync 0 ∷ command.Frame
    ∷ command.Merge (record { edits = edit.Make 10 (Geode 0 []) ∷ edit.Add 1 10 ∷ []; dropped = 0 })
    ∷ command.Sync 1 ∷ command.Frame ∷ command.Sync 2 ∷ []

abbrev merge_between_stats : List Stats
merge_between_stats =
    record { shown = 0; states = 0; visited = 1 } ∷ record { shown = 1; states = 1; visited = 3 } ∷ []

merge_between_report :
    report_text (log_of merge_between) merge_between_stats
    ≡ codes "app group 1 : ok\napp add 0 1 : ok\napp sync 0 : freed 0\napp frame 1 : ok\n"
    ++ codes "dbase merge 2 0 : ok\napp sync 1 : freed 0\napp frame 2 : ok\napp sync 2 : freed 0\n"
    ++ codes "frame 1 shown 0 states 0 visited 1\nframe 2 shown 1 states 1 visited 3\n"
unfolding height_in size_in below_in levels
merge_between_report = simp (zero_text, one_text, two_text, three_text)

merge_between_summary :
    summary_text 1 (log_of merge_between) merge_between_stats 46
    ≡ codes "made 1 frames 2 merges 1 shown 1 states 1 visited 4 sum 46\n"
unfolding height_in size_in below_in levels
merge_between_summary = simp (one_text, two_text, four_text, text_of_46)

-- A refused merge: its buffer dropped one edit, and the third of the others has no parent

refused_merge :
    lines
    (command.Sync 0 ∷ command.Frame ∷ command.Merge (record { edits = edit.Make 10 (Geode 0 []) ∷ edit.Add 0 10 ∷ edit.Add 77 10 ∷ []; dropped = 1 }) ∷ [])
    ≡ codes "app sync 0 : freed 0\napp frame 1 : ok\ndbase merge 3 1 : at 3 fault Absent 77\n"
unfolding height_in size_in below_in levels
refused_merge = simp (zero_text, one_text, three_text, text_of_77)

-- A node that is some node's child is not deleted; once it is, the Sync after the next Frame frees it

delete_in_use :
    lines
    (command.Edit (edit.Make 1 (Geode 0 [])) ∷ command.Edit (edit.Add 0 1) ∷ command.Sync 0 ∷ command.Frame ∷ command.Edit (edit.Delete 1)
    ∷ command.Edit (edit.Remove 0 1) ∷ command.Edit (edit.Delete 1) ∷ command.Sync 1 ∷ command.Frame ∷ command.Sync 2 ∷ [])
    ≡ codes "app geode 1 0 0 : ok\napp add 0 1 : ok\napp sync 0 : freed 0\napp frame 1 : ok\napp delete 1 : fault InUse 1\n"
    ++ codes "app remove 0 1 : ok\napp delete 1 : ok\napp sync 1 : freed 1 1\napp frame 2 : ok\napp sync 2 : freed 0\n"
unfolding height_in size_in below_in levels
delete_in_use = simp (zero_text, one_text, two_text)

-- A view of a further channel

second_view :
    lines (command.View 1 (record { eye = origin_vector; h = pos 1800; p = pos 0; r = pos 0 }) ∷ [])
    ≡ codes "app cview 1 0 0 0 1800 0 0 : ok\n"
second_view = simp (zero_text, one_text, text_of_1800)

-- An empty scene and one frame, through any lens

abbrev empty_scene : List Command
empty_scene = command.Sync 0 ∷ command.Frame ∷ command.Sync 1 ∷ []

none_counted : (ns : List ℕ) → count_by (λ _. false) ns ≡ 0
none_counted [] = refl
none_counted (n ∷ ns) = none_counted ns

empty_scene_stats : (lens : Lens) → stats_of_frames lens 1 (log_of empty_scene) ≡ record { shown = 0; states = 0; visited = 1 } ∷ []
unfolding stats_of_frames box_in walk_in
empty_scene_stats lens = ap (λ (n : ℕ). record { shown = 0; states = 0 + n; visited = 1 } ∷ []) (none_counted all_states)

empty_scene_report : (lens : Lens) → report lens 1 (log_of empty_scene)
    ≡ codes "app sync 0 : freed 0\napp frame 1 : ok\napp sync 1 : freed 0\nframe 1 shown 0 states 0 visited 1\n"
empty_scene_report lens =
    ap (λ (stats : List Stats). report_text (log_of empty_scene) stats) (empty_scene_stats lens) ∙ simp (zero_text, one_text)

-- A probe that hits in the first frame, half way along its segment, and misses in the second

probe_of_two_frames :
    probe_text (Some (record { t = 32768; place = 0; tri = 0; id = 1 }) ∷ None ∷ []) ≡ codes "probe 1 32768 0 0 1\nprobe 2 none\n"
probe_of_two_frames = simp (zero_text, one_text, two_text, text_of_32768)
