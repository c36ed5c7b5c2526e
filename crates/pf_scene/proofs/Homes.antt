-- What came back of the Frames fits home, entry by entry.
use Rattle.std.proofs.Common.{◌≡◌, ℕ, ◌+◌, ◌<◌, ◌≤◌, Bool, true, false, cond, ◌&&◌, ◌==◌, nat_eq, List, [], ◌∷◌, ◌++◌, map, length, slice_get, Option, Some, None, refl, sym, ◌∙◌, ap, subst, arith}
use Rattle.std.proofs.lemmas.List.{take_all, length-append, length-map}
use Rattle.std.proofs.lemmas.List.Sums.{sum_by-cons}
use Rattle.std.proofs.lemmas.Option.{slice_get-get_or}
use Rattle.std.proofs.Math.Seq.{get_or-append_seam}
use Rattle.pf_model.specs.declared.nodes.Node.{Node}
use Rattle.pf_model.specs.Kinds.{geom_of, is_geode}
use Rattle.pf_model.specs.Graphs.{Nodes, SceneGraph, node_at}
use Rattle.pf_model.specs.Limits.{IsGraphWithinLimits}
use Rattle.pf_model.specs.Copies.{UpdateList, copy_of, updates_of}
use Rattle.pf_model.proofs.Finds.{turned_eq}
use Rattle.pf_model.proofs.Keeping.{all_found_have}
use Rattle.pf_history.specs.declared.commands.Command.{Command}
use Rattle.pf_history.specs.declared.commands.Command.TheVariants as command
use Rattle.pf_history.specs.declared.commands.Entry.{Entry}
use Rattle.pf_history.specs.Commands.{is_frame}
use Rattle.pf_history.specs.Objects.{FrameState, opening_state}
use Rattle.pf_history.specs.Logs.{Log, state_of, IsLegal}
use Rattle.pf_history.specs.Cuts.{Cutting, cuttings, cut_at, cuts_of, copy_after, next_cut, found_by_frames}
use Rattle.pf_history.specs.CutLaws.{with_last}
use Rattle.pf_history.specs.Away.{IsAway, came_back, replaced, arrays_of, arrays_in}
use Rattle.pf_history.proofs.Lists.{all_append}
use Rattle.pf_history.proofs.Away.{away_law}
use Rattle.pf_history.proofs.Cutting.{cuts_law}
use Rattle.pf_history.proofs.Copying.{copy_law}
use Rattle.update_lists.specs.Taking.{IsWritten, geode_serial, geode_serials, times_in}
use Rattle.pf_scene.specs.Stock.{Written, IsStocked}
use Rattle.pf_scene.specs.Counts.{IsAsLong, FitsHome, ListFits, ListsFit, FitHome}
use Rattle.pf_scene.proofs.Trimmed.{long_by, long_then}

-- What fits home still does, where cycles stay as long or go

-- each cycle that is still there is as long as it was
abbrev pub StayLong : ℕ → Written → Written → Type 0
StayLong next v w = (s : ℕ) → s < next → IsAsLong (w s) (v s)

fits_later : (v w : Written) (next later : ℕ) (o : Option Node) → next ≤ later → StayLong next v w → FitsHome v next o → FitsHome w later o
fits_later v w next later None l long h = tt
fits_later v w next later (Some n) l long h = λ geode.
    let k = h geode in
    let low = k.0 in
    (omega (arith, low, l), long_then (w n.serial) (v n.serial) (geom_of n.kind) (long n.serial low) k.1)

list_later : (v w : Written) (next later : ℕ) (us : UpdateList) → next ≤ later → StayLong next v w → ListFits v next us → ListFits w later us
list_later v w next later [] l long h = tt
list_later v w next later (u ∷ us) l long h = (fits_later v w next later u.1 l long h.0, list_later v w next later us l long h.1)

lists_later : (v w : Written) (next later : ℕ) (lists : List UpdateList) → next ≤ later → StayLong next v w → ListsFit v next lists → ListsFit w later lists
lists_later v w next later [] l long h = tt
lists_later v w next later (us ∷ lists) l long h = (list_later v w next later us l long h.0, lists_later v w next later lists l long h.1)

pub home_later : (channels : ℕ) (log : Log) (next later : ℕ) (v w : Written) → FitHome channels log next v → next ≤ later → StayLong next v w → FitHome channels log later w
home_later channels log next later v w home l long = record {
  back = lists_later v w next later (came_back channels log) l long home.back;
  behind = λ id. fits_later v w next later (node_at (copy_of (cuts_of channels log)) id) l long (home.behind id);
}

-- An entry that is no Frame

pub home_kept : (channels : ℕ) (log : Log) (e : ℕ × Entry) (next : ℕ) (w : Written) → IsAway channels log → is_frame e.1.command ≡ false → FitHome channels log next w
    → FitHome channels (log ++ e ∷ []) next w
home_kept channels log e next w is_away none home = record {
  back = subst (λ (lists : List UpdateList). ListsFit w next lists) (sym back) home.back;
  behind = λ id. subst (λ (lists : List UpdateList). FitsHome w next (node_at (copy_of lists) id)) (sym cuts) (home.behind id);
}
  where
    back : came_back channels (log ++ e ∷ []) ≡ came_back channels log
    back = (is_away.adds e).back ∙ ap (λ (t : Bool). with_last t (came_back channels log) (replaced (copy_after channels log (state_of channels log).frames) (next_cut channels log))) none

    cuts : cuts_of channels (log ++ e ∷ []) ≡ cuts_of channels log
    cuts = ((cuts_law channels log).adds e).cuts ∙ ap (λ (t : Bool). with_last t (cuts_of channels log) (next_cut channels log)) none

pub home_entered : (channels : ℕ) (log log' : Log) (seat : ℕ) (x : Entry) (k : Command) (next later : ℕ) (v w : Written) → IsLegal channels log
    → x.command ≡ k → is_frame k ≡ false → log' ≡ log ++ (seat, x) ∷ [] → next ≤ later → StayLong next v w → FitHome channels log next v → FitHome channels log' later w
home_entered channels log log' seat x k next later v w legal is none logs l long home =
    subst (λ (es : Log). FitHome channels es later w) (sym logs)
    (home_later channels (log ++ (seat, x) ∷ []) next later v w (home_kept channels log (seat, x) next v (away_law channels log legal) (ap is_frame is ∙ none) home) l long)

-- A Frame

-- the nodes of a stocked graph fit home
stocked_fits : (w : Written) (g : SceneGraph) → IsGraphWithinLimits g → IsStocked w g → (id : ℕ) → FitsHome w g.next_serial (node_at g.nodes id)
stocked_fits w g within stocked id = by (node_at g.nodes id) refl (stocked.contents id)
  where
    long : (n : Node) → w n.serial ≡ geom_of n.kind → IsAsLong (w n.serial) (geom_of n.kind)
    long n same = long_by (w n.serial) (geom_of n.kind) same

    by : (o : Option Node) → node_at g.nodes id ≡ o → IsWritten w o → FitsHome w g.next_serial o
    by None is h = tt
    by (Some n) is h = λ geode. (all_found_have (λ (e : ℕ × Node). e.1.serial < g.next_serial) g.nodes within.serials_given id n is, long n (h geode))

-- what stands under the ids of an update list fits, where all nodes do
replaced_fits : (w : Written) (next : ℕ) (nodes : Nodes) (ids : List ℕ) → ((id : ℕ) → FitsHome w next (node_at nodes id)) → ListFits w next (updates_of (node_at nodes) ids)
replaced_fits w next nodes [] h = tt
replaced_fits w next nodes (id ∷ ids) h = (h id, replaced_fits w next nodes ids h)

last_found : (channels : ℕ) (log : Log) (e : ℕ × Entry) → is_frame e.1.command ≡ true → slice_get (found_by_frames channels (log ++ e ∷ [])) (length (found_by_frames channels log)) ≡ Some (state_of channels log)
last_found channels log e frame =
    ap (λ (ss : List FrameState). slice_get ss (length found)) grown
    ∙ slice_get-get_or (found ++ s ∷ []) (length found) s (within (length found) (length (found ++ s ∷ [])) (length-append found (s ∷ [])))
    ∙ ap Some (get_or-append_seam found s [] s)
  where
    s : FrameState
    s = state_of channels log

    found : List FrameState
    found = found_by_frames channels log

    grown : found_by_frames channels (log ++ e ∷ []) ≡ found ++ s ∷ []
    grown = ((cuts_law channels log).adds e).found ∙ ap (λ (t : Bool). with_last t found s) frame

    within : (a b : ℕ) → b ≡ a + 1 → a < b
    within a b h = omega arith

pub home_framed : (channels : ℕ) (log : Log) (e : ℕ × Entry) (g : SceneGraph) (w : Written) → IsAway channels log → is_frame e.1.command ≡ true → (state_of channels log).graph ≡ g
    → IsGraphWithinLimits g → IsStocked w g → FitHome channels log g.next_serial w → FitHome channels (log ++ e ∷ []) g.next_serial w
home_framed channels log e g w is_away frame found within stocked home = record {
  back = subst (λ (lists : List UpdateList). ListsFit w g.next_serial lists) (sym back)
      (all_append (ListFits w g.next_serial) (came_back channels log) (replaced copy (next_cut channels log) ∷ []) home.back
      (replaced_fits w g.next_serial copy (map (λ u. u.0) (next_cut channels log)) copy_fits, tt));
  behind = λ id. subst (λ (nodes : Nodes). FitsHome w g.next_serial (node_at nodes id)) (sym behind) (stocked_fits w g within stocked id);
}
  where
    copy : Nodes
    copy = copy_after channels log (state_of channels log).frames

    cuts : List UpdateList
    cuts = cuts_of channels log

    low : (a b : ℕ) → a ≡ b → a ≤ b
    low a b h = omega arith

    all_cuts : copy ≡ copy_of cuts
    all_cuts = ap copy_of (take_all (state_of channels log).frames cuts (low (length cuts) (state_of channels log).frames (cuts_law channels log).many))

    copy_fits : (id : ℕ) → FitsHome w g.next_serial (node_at copy id)
    copy_fits id = subst (λ (nodes : Nodes). FitsHome w g.next_serial (node_at nodes id)) (sym all_cuts) (home.behind id)

    back : came_back channels (log ++ e ∷ []) ≡ came_back channels log ++ replaced copy (next_cut channels log) ∷ []
    back = (is_away.adds e).back ∙ ap (λ (t : Bool). with_last t (came_back channels log) (replaced copy (next_cut channels log))) frame

    later : List UpdateList
    later = cuts_of channels (log ++ e ∷ [])

    many : length later ≡ length cuts + 1
    many = ap length (((cuts_law channels log).adds e).cuts ∙ ap (λ (t : Bool). with_last t cuts (next_cut channels log)) frame) ∙ length-append cuts (next_cut channels log ∷ [])

    frames : List Cutting
    frames = cuttings [] (opening_state channels) log

    same_count : length (found_by_frames channels log) ≡ length cuts
    same_count = length-map frames (λ c. c.found) ∙ sym (length-map frames cut_at)

    high : (a b c : ℕ) → a ≡ b + 1 → c ≡ b → a ≤ c + 1
    high a b c h k = omega arith

    behind : copy_of later ≡ g.nodes
    behind =
        ap copy_of (sym (take_all (length (found_by_frames channels log) + 1) later (high (length later) (length cuts) (length (found_by_frames channels log)) many same_count)))
        ∙ copy_law channels (log ++ e ∷ []) (length (found_by_frames channels log)) (state_of channels log) (last_found channels log e frame)
        ∙ ap (λ (h : SceneGraph). h.nodes) found

pub home_begun : (channels : ℕ) (log log' : Log) (s : FrameState) (seat : ℕ) (x : Entry) (later : ℕ) (v w : Written) → IsLegal channels log → state_of channels log ≡ s
    → x.command ≡ command.Frame → log' ≡ log ++ (seat, x) ∷ [] → later ≡ s.graph.next_serial → IsGraphWithinLimits s.graph → IsStocked v s.graph → ((n : ℕ) → w n ≡ v n)
    → FitHome channels log s.graph.next_serial v → FitHome channels log' later w
home_begun channels log log' s seat x later v w legal after is logs same within stocked written home =
    subst (λ (es : Log). FitHome channels es later w) (sym logs)
    (home_later channels (log ++ (seat, x) ∷ []) s.graph.next_serial later v w
    (home_framed channels log (seat, x) s.graph v (away_law channels log legal) (ap is_frame is) (ap (λ (t : FrameState). t.graph) after) within stocked home)
    (low s.graph.next_serial later same) (λ n l. long_by (w n) (v n) (written n)))
  where
    low : (a b : ℕ) → b ≡ a → a ≤ b
    low a b h = omega arith

-- How many arrays a cut takes

taken_by : (s : ℕ) (o : Option Node) (xs : List ℕ) → times_in s (geode_serial o ++ xs) ≡ arrays_of s o + times_in s xs
taken_by s None xs = omega arith
taken_by s (Some n) xs = geode (is_geode n.kind)
  where
    one : (t : Bool) → cond t (1 + times_in s xs) (times_in s xs) ≡ cond t 1 0 + times_in s xs
    one true = omega arith
    one false = omega arith

    geode : (t : Bool) → times_in s (cond t (n.serial ∷ []) [] ++ xs) ≡ cond (t && (n.serial == s)) 1 0 + times_in s xs
    geode true = one (nat_eq s n.serial) ∙ ap (λ (t : Bool). cond t 1 0 + times_in s xs) (turned_eq s n.serial)
    geode false = omega arith

-- as many of a serial as the update list holds
pub cut_counts : (s : ℕ) (look : ℕ → Option Node) (ids : List ℕ) → times_in s (geode_serials look ids) ≡ arrays_in s (updates_of look ids)
cut_counts s look [] = refl
cut_counts s look (id ∷ ids) =
    let one = taken_by s (look id) (geode_serials look ids) in
    let sums = sum_by-cons (λ (u : ℕ × Option Node). arrays_of s u.1) (id, look id) (updates_of look ids) in
    let rest = cut_counts s look ids in
    omega (arith, one, sums, rest)
