-- What a scene keeps of its history, when an entry is added.
use Rattle.std.proofs.Common.{◌≡◌, ℕ, ◌+◌, ◌-◌, ◌^◌, ◌<◌, ◌≤◌, Bool, true, false, cond, List, [], ◌∷◌, ◌++◌, length, map, get_or, is_some, refl, sym, ◌∙◌, ap, subst, arith}
use Rattle.std.proofs.Math.Seq.{get_or-append_seam}
use Rattle.std.proofs.lemmas.List.{length-set, length-replicate, length-map}
use Rattle.std.proofs.lemmas.List.Sums.{sum_by_push, sum_by-cons, length-filter, count_by-le-length}
use Rattle.pf_model.specs.Angles.{home_view}
use Rattle.std.specs.List.{fold, filter}
use Rattle.pf_model.specs.declared.edits.Edit.{Edit}
use Rattle.pf_model.specs.declared.edits.Edit.TheVariants as edit
use Rattle.pf_model.specs.Graphs.{SceneGraph, node_at}
use Rattle.pf_model.specs.Edits.{fault_of, effect, after}
use Rattle.pf_model.specs.Merges.{merge_fault, after_all}
use Rattle.pf_model.specs.Limits.{IsRising}
use Rattle.pf_model.specs.Copies.{UpdateList, GraveState, grave_of, graves_kept, freed_by, is_due, updates_of}
use Rattle.pf_history.specs.declared.commands.Command.{Command}
use Rattle.pf_history.specs.declared.commands.Command.TheVariants as command
use Rattle.pf_history.specs.declared.commands.Entry.{Entry}
use Rattle.pf_history.specs.Objects.{FrameState, opening_state, next_state, reply_of, emptied, preparing}
use Rattle.pf_history.specs.declared.commands.Merge.{Merge}
use Rattle.pf_history.specs.declared.commands.Reply.{Reply}
use Rattle.pf_history.specs.Commands.{is_frame, caller_of}
use Rattle.pf_history.specs.Logs.{Log, state_of, state_after, CanMake, IsLegalEntry, entry_of}
use Rattle.pf_history.specs.Cuts.{cuts_of, cut_of, next_cut, marked, marks_after}
use Rattle.pf_history.specs.CutLaws.{with_last}
use Rattle.pf_history.proofs.Folds.{state_push, legal_push, own_entry_legal, kept_after, preparation_law}
use Rattle.pf_history.proofs.Counting.{counts_law}
use Rattle.pf_history.proofs.Cutting.{cuts_law}
use Rattle.pf_history.specs.Laws.{own_entry}
use Rattle.pf_scene.specs.Stock.{Written}
use Rattle.pf_scene.specs.Counts.{FitHome}
use Rattle.pf_scene.specs.Scenes.{SceneState, IsKept, IsScene, HasWeight, weight_of, weight_in}

-- Each command weighs what it adds to the numbers of a state

effect_serials : (g : SceneGraph) (e : Edit) → (effect g e).next_serial ≤ g.next_serial + 1
effect_serials g (edit.Make id kind) = omega arith
effect_serials g (edit.Delete id) = omega arith
effect_serials g e = omega arith

after_serials : (g : SceneGraph) (e : Edit) → (after g e).next_serial ≤ g.next_serial + 1
after_serials g e = by (is_some (fault_of g e))
  where
    by : (t : Bool) → (cond t g (effect g e)).next_serial ≤ g.next_serial + 1
    by true = omega arith
    by false = effect_serials g e

effects_serials : (g : SceneGraph) (es : List Edit) → (fold effect g es).next_serial ≤ g.next_serial + length es
effects_serials g [] = omega arith
effects_serials g (e ∷ es) =
    let one = effect_serials g e in
    let rest = effects_serials (effect g e) es in
    omega (arith, one, rest)

after_all_serials : (g : SceneGraph) (es : List Edit) → (after_all g es).next_serial ≤ g.next_serial + length es
after_all_serials g es = by (is_some (merge_fault g es))
  where
    by : (t : Bool) → (cond t g (fold effect g es)).next_serial ≤ g.next_serial + length es
    by true = omega arith
    by false = effects_serials g es

-- A graph's next serial never falls

effect_grows : (g : SceneGraph) (e : Edit) → g.next_serial ≤ (effect g e).next_serial
effect_grows g (edit.Make id kind) = omega arith
effect_grows g (edit.Delete id) = omega arith
effect_grows g e = omega arith

effects_grow : (g : SceneGraph) (es : List Edit) → g.next_serial ≤ (fold effect g es).next_serial
effects_grow g [] = omega arith
effects_grow g (e ∷ es) = let one = effect_grows g e in let rest = effects_grow (effect g e) es in omega (arith, one, rest)

pub after_grows : (g h : SceneGraph) (e : Edit) → h ≡ emptied (after g e) → g.next_serial ≤ h.next_serial
after_grows g h e is = subst (λ (k : SceneGraph). g.next_serial ≤ k.next_serial) (sym is) (by (is_some (fault_of g e)))
  where
    by : (t : Bool) → g.next_serial ≤ (cond t g (effect g e)).next_serial
    by true = omega arith
    by false = effect_grows g e

pub after_all_grows : (g h : SceneGraph) (es : List Edit) → h ≡ emptied (after_all g es) → g.next_serial ≤ h.next_serial
after_all_grows g h es is = subst (λ (k : SceneGraph). g.next_serial ≤ k.next_serial) (sym is) (by (is_some (merge_fault g es)))
  where
    by : (t : Bool) → g.next_serial ≤ (cond t g (fold effect g es)).next_serial
    by true = omega arith
    by false = effects_grow g es

-- The numbers of a state are at most so great.
record AreBelow (s : FrameState) (n : ℕ) : Type 0 where
  serials : s.graph.next_serial ≤ 1 + n
  frames : s.frames ≤ n
  merges : s.merges ≤ n

below_next : (s : FrameState) (n : ℕ) (c : Command) → AreBelow s n → AreBelow (next_state s c) (n + weight_of c)
below_next s n (command.Edit e) b =
    let one = after_serials s.graph e in
    let serials = b.serials in
    let frames = b.frames in
    let merges = b.merges in
    record { serials = omega (arith, one, serials); frames = omega (arith, frames); merges = omega (arith, merges) }
below_next s n (command.Merge m) b =
    let all = after_all_serials s.graph m.edits in
    let serials = b.serials in
    let frames = b.frames in
    let merges = b.merges in
    record { serials = omega (arith, all, serials); frames = omega (arith, frames); merges = omega (arith, merges) }
below_next s n (command.View channel v) b =
    let serials = b.serials in let frames = b.frames in let merges = b.merges in
    record { serials = omega (arith, serials); frames = omega (arith, frames); merges = omega (arith, merges) }
below_next s n (command.Sync r) b =
    let serials = b.serials in let frames = b.frames in let merges = b.merges in
    record { serials = omega (arith, serials); frames = omega (arith, frames); merges = omega (arith, merges) }
below_next s n command.Frame b =
    let serials = b.serials in let frames = b.frames in let merges = b.merges in
    record { serials = omega (arith, serials); frames = omega (arith, frames); merges = omega (arith, merges) }

below_after : (s : FrameState) (n : ℕ) (log : Log) → AreBelow s n → AreBelow (state_after s log) (n + weight_in log)
below_after s n [] b = subst (λ m. AreBelow s m) (none n) b
  where
    none : (n : ℕ) → n ≡ n + weight_in []
    none n = omega arith
below_after s n (e ∷ es) b =
    let rest = below_after (next_state s e.1.command) (n + weight_of e.1.command) es (below_next s n e.1.command b) in
    let sums = sum_by-cons (λ (x : ℕ × Entry). weight_of x.1.command) e es in
    let same : (n + weight_of e.1.command) + weight_in es ≡ n + weight_in (e ∷ es) = omega (arith, sums) in
    subst (λ m. AreBelow (state_after s (e ∷ es)) m) same rest

nothing_gone : (s : FrameState) (c : Command) → s.graph.gone ≡ [] → (next_state s c).graph.gone ≡ []
nothing_gone s (command.Edit e) h = refl
nothing_gone s (command.Merge m) h = refl
nothing_gone s (command.View channel v) h = h
nothing_gone s (command.Sync r) h = h
nothing_gone s command.Frame h = h

many_views : (channels : ℕ) (s : FrameState) (c : Command) → length s.views ≡ channels → length (next_state s c).views ≡ channels
many_views channels s (command.Edit e) h = h
many_views channels s (command.Merge m) h = h
many_views channels s (command.View channel v) h = length-set s.views channel v ∙ h
many_views channels s (command.Sync r) h = h
many_views channels s command.Frame h = h

-- What the history tells of the state and the marks.
pub record AreKnown (channels : ℕ) (s : FrameState) (marks : List ℕ) (weight : ℕ) : Type 0 where
  pub serials : s.graph.next_serial ≤ 1 + weight
  pub frames : s.frames ≤ weight
  pub merges : s.merges ≤ weight
  pub time : s.graph.time ≡ s.frames + 1
  pub empty : s.graph.gone ≡ []
  pub rising : IsRising marks
  pub retired : s.retired ≤ s.frames
  pub views : length s.views ≡ channels

pub known : (channels : ℕ) (log : Log) (s : FrameState) (marks : List ℕ) (weight : ℕ) → IsKept channels log s marks weight → AreKnown channels s marks weight
known channels log s marks weight k =
    let below : AreBelow (state_of channels log) (0 + weight_in log) = below_after (opening_state channels) 0 log (record { serials = omega arith; frames = omega arith; merges = omega arith }) in
    let here : AreBelow s (0 + weight_in log) = subst (λ (t : FrameState). AreBelow t (0 + weight_in log)) k.after below in
    let weighs = k.weighs in
    let serials = here.serials in
    let frames = here.frames in
    let merges = here.merges in
    record {
      serials = omega (arith, serials, weighs);
      frames = omega (arith, frames, weighs);
      merges = omega (arith, merges, weighs);
      time = subst (λ (t : FrameState). t.graph.time ≡ t.frames + 1) k.after (preparation_law channels log);
      empty = subst (λ (t : FrameState). t.graph.gone ≡ []) k.after (kept_after (λ (t : FrameState). t.graph.gone ≡ []) nothing_gone (opening_state channels) log refl);
      rising = subst (λ (ids : List ℕ). IsRising ids) k.marks_are (cuts_law channels log).marks_rising;
      retired = subst (λ (t : FrameState). t.retired ≤ t.frames) k.after ((counts_law channels log).retired k.legal);
      views = subst (λ (t : FrameState). length t.views ≡ channels) k.after
          (kept_after (λ (t : FrameState). length t.views ≡ channels) (many_views channels) (opening_state channels) log (length-replicate channels home_view));
    }

-- An entry is added

pub kept_entered : (channels : ℕ) (log : Log) (s : FrameState) (marks : List ℕ) (weight seat : ℕ) (c : Command)
    → IsKept channels log s marks weight → CanMake s c → weight + weight_of c < 2 ^ 31
    → IsKept channels (log ++ (seat, entry_of s c) ∷ []) (next_state s c) (marks_after marks s c) (weight + weight_of c)
kept_entered channels log s marks weight seat c k can light =
    let e : ℕ × Entry = (seat, entry_of s c) in
    let adds = (cuts_law channels log).adds e in
    let sums = sum_by_push (λ (x : ℕ × Entry). weight_of x.1.command) log e in
    let weighs = k.weighs in
    record {
      legal = legal_push (opening_state channels) log e k.legal (subst (λ (t : FrameState). IsLegalEntry t (entry_of s c)) (sym k.after) (own_entry_legal s c can));
      after = state_push (opening_state channels) log e ∙ ap (λ (t : FrameState). next_state t c) k.after;
      marks_are = adds.marks ∙ ap (λ (t : FrameState). marks_after (marked channels log) t c) k.after ∙ ap (λ (ids : List ℕ). marks_after ids s c) k.marks_are;
      weighs = omega (arith, sums, weighs);
      light = light;
    }

-- the entry is the object's own after the log
pub entry_same : (channels : ℕ) (log : Log) (s : FrameState) (c : Command) → state_of channels log ≡ s → entry_of (state_of channels log) c ≡ entry_of s c
entry_same channels log s c same = ap (λ (t : FrameState). entry_of t c) same

-- The update list of a Frame

pub cut_is_last : (channels : ℕ) (log : Log) (e : ℕ × Entry) → is_frame e.1.command ≡ true → cut_of channels (log ++ e ∷ []) ((state_of channels log).frames + 1) ≡ next_cut channels log
cut_is_last channels log e frame =
    let cuts = cuts_law channels log in
    let grown : cuts_of channels (log ++ e ∷ []) ≡ cuts_of channels log ++ next_cut channels log ∷ [] =
    (cuts.adds e).cuts ∙ ap (λ (t : Bool). with_last t (cuts_of channels log) (next_cut channels log)) frame in
    let place : (state_of channels log).frames + 1 - 1 ≡ length (cuts_of channels log) = let many = cuts.many in omega (arith, many) in
    let none : UpdateList = [] in
    ap (λ (us : List UpdateList). get_or us ((state_of channels log).frames + 1 - 1) none) grown
    ∙ ap (λ (i : ℕ). get_or (cuts_of channels log ++ next_cut channels log ∷ []) i none) place
    ∙ get_or-append_seam (cuts_of channels log) (next_cut channels log) [] none

-- A scene whose parts are those after an entry

pub scene_entered : (ahead channels : ℕ) (log log' : Log) (s s' : FrameState) (marks marks' : List ℕ) (weight weight' seat : ℕ) (c : Command) (e : Entry) (v w : Written)
    → IsScene ahead channels log s marks weight v → CanMake s c → weight + weight_of c < 2 ^ 31
    → log' ≡ log ++ (seat, e) ∷ [] → e ≡ entry_of s c → s' ≡ next_state s c → marks' ≡ marks_after marks s c → weight' ≡ weight + weight_of c
    → FitHome channels log' s'.graph.next_serial w → IsScene ahead channels log' s' marks' weight' w
scene_entered ahead channels log log' s s' marks marks' weight weight' seat c e v w scene can light logs entry states marks_same weights home = record {
  few_ahead = scene.few_ahead;
  few_channels = scene.few_channels;
  kept =
      subst (λ (w : ℕ). IsKept channels log' s' marks' w) (sym weights)
      (subst (λ (ids : List ℕ). IsKept channels log' s' ids (weight + weight_of c)) (sym marks_same)
      (subst (λ (t : FrameState). IsKept channels log' t (marks_after marks s c) (weight + weight_of c)) (sym states)
      (subst (λ (es : Log). IsKept channels es (next_state s c) (marks_after marks s c) (weight + weight_of c))
      (sym (logs ∙ ap (λ (x : Entry). log ++ (seat, x) ∷ []) entry)) (kept_entered channels log s marks weight seat c scene.kept can light))));
  home = home;
}

-- where other cycles fit what came back
pub scene_recycled : (ahead channels : ℕ) (log : Log) (s : FrameState) (marks : List ℕ) (weight : ℕ) (v w : Written) → IsScene ahead channels log s marks weight v
    → FitHome channels log s.graph.next_serial w → IsScene ahead channels log s marks weight w
scene_recycled ahead channels log s marks weight v w scene home = record { few_ahead = scene.few_ahead; few_channels = scene.few_channels; kept = scene.kept; home = home }

pub log_entered : (channels : ℕ) (log log' : Log) (s : FrameState) (seat : ℕ) (c : Command) (e : Entry)
    → state_of channels log ≡ s → log' ≡ log ++ (seat, e) ∷ [] → e ≡ entry_of s c → log' ≡ log ++ own_entry channels log seat c ∷ []
log_entered channels log log' s seat c e after logs entry =
    logs ∙ ap (λ (x : Entry). log ++ (seat, x) ∷ []) (entry ∙ sym (entry_same channels log s c after))

-- What each command does to a state whose parts are named

pub knows : (ahead channels : ℕ) (log : Log) (s : FrameState) (marks : List ℕ) (weight : ℕ) (w : Written) → IsScene ahead channels log s marks weight w → AreKnown channels s marks weight
knows ahead channels log s marks weight w scene = known channels log s marks weight scene.kept

pub light_enough : (v : SceneState) (log : Log) (weight : ℕ) (c : Command) → v.shared.log ≡ log → weight ≡ weight_in log → HasWeight v.shared c → weight + weight_of c < 2 ^ 31
light_enough v log weight c same weighs h = let e = ap weight_in same in omega (arith, e, weighs, h)

pub entry_is : (s : FrameState) (c : Command) (e : Entry) (r : Reply) → e ≡ record { caller = caller_of c; command = c; reply = r } → r ≡ reply_of s c → e ≡ entry_of s c
entry_is s c e r is same = is ∙ ap (λ (x : Reply). record { caller = caller_of c; command = c; reply = x }) same

pub edit_state : (s : FrameState) (e : Edit) (g : SceneGraph) (graves : List GraveState) → g ≡ emptied (after s.graph e) → graves ≡ s.graves ++ map (grave_of s.frames) (after s.graph e).gone
    → record s { graph = g; graves = graves } ≡ next_state s (command.Edit e)
edit_state s e g graves graph buried = λ i. record s { graph = graph i; graves = buried i }

pub merge_state : (s : FrameState) (m : Merge) (g : SceneGraph) (graves : List GraveState) → g ≡ emptied (after_all s.graph m.edits) → graves ≡ s.graves ++ map (grave_of s.frames) (after_all s.graph m.edits).gone
    → record s { graph = g; graves = graves; merges = s.merges + 1 } ≡ next_state s (command.Merge m)
merge_state s m g graves graph buried = λ i. record s { graph = graph i; graves = buried i; merges = s.merges + 1 }

pub sync_state : (s : FrameState) (r : ℕ) (g : SceneGraph) (graves : List GraveState) → g ≡ s.graph → graves ≡ graves_kept r s.graves
    → record s { graph = g; graves = graves; retired = r } ≡ next_state s (command.Sync r)
sync_state s r g graves graph kept = λ i. record s { graph = graph i; graves = kept i; retired = r }

-- the graph goes on to the frame after the next
pub next_graph : (g h k : SceneGraph) (frames : ℕ) → h ≡ g → k ≡ record h { time = h.time + 1 } → g.time ≡ frames + 1 → k ≡ preparing (frames + 2) g
next_graph g h k frames same next time =
    let two : g.time + 1 ≡ frames + 2 = omega (arith, time) in
    next ∙ ap (λ (x : SceneGraph). record x { time = x.time + 1 }) same ∙ ap (λ (n : ℕ). record g { time = n }) two

pub frame_state : (s : FrameState) (g : SceneGraph) (graves : List GraveState) → g ≡ preparing (s.frames + 2) s.graph → graves ≡ s.graves
    → record s { graph = g; graves = graves; frames = s.frames + 1 } ≡ next_state s command.Frame
frame_state s g graves graph same = λ i. record s { graph = graph i; graves = same i; frames = s.frames + 1 }

-- the update list of a Frame is the last of the history
pub frame_cut : (channels : ℕ) (log log' : Log) (s : FrameState) (marks : List ℕ) (weight seat : ℕ) (e : Entry) (us : UpdateList) → IsKept channels log s marks weight
    → log' ≡ log ++ (seat, e) ∷ [] → e ≡ entry_of s command.Frame → us ≡ updates_of (node_at s.graph.nodes) marks → us ≡ cut_of channels log' (s.frames + 1)
frame_cut channels log log' s marks weight seat e us k logs entry is =
    let last : cut_of channels (log ++ (seat, e) ∷ []) ((state_of channels log).frames + 1) ≡ next_cut channels log = cut_is_last channels log (seat, e) (ap (λ (x : Entry). is_frame x.command) entry) in
    let listed : next_cut channels log ≡ updates_of (node_at s.graph.nodes) marks =
    ap (λ (t : FrameState). updates_of (node_at t.graph.nodes) (marked channels log)) k.after ∙ ap (λ (ids : List ℕ). updates_of (node_at s.graph.nodes) ids) k.marks_are in
    is ∙ sym listed ∙ sym last ∙ ap (λ (t : FrameState). cut_of channels (log ++ (seat, e) ∷ []) (t.frames + 1)) k.after ∙ ap (λ (es : Log). cut_of channels es (s.frames + 1)) (sym logs)
