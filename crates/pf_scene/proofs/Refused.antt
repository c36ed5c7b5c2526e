-- What a call that was refused leaves of the scene, and what a new scene has.
use Rattle.std.proofs.Common.{◌≡◌, ℕ, ◌+◌, ◌≤◌, max, Bool, true, false, cond, ◌&&◌, ◌==◌, Option, List, [], map, Some, None, sym, ◌∙◌, ap, subst, arith}
use Rattle.std.proofs.lemmas.Bool.{le-leb}
use Rattle.std.specs.List.{range_with_len}
use Rattle.pf_model.specs.Angles.{Viewpoint}
use Rattle.pf_model.specs.declared.nodes.Node.{Node}
use Rattle.pf_model.specs.Graphs.{SceneGraph, scene_node}
use Rattle.pf_model.specs.Copies.{GraveState}
use Rattle.pf_model.proofs.Places.{node_at_step}
use Rattle.cycle_buffer.specs.Cycles.{CyclesState, written_at, out_at, most_of}
use Rattle.pf_history.specs.Objects.{FrameState}
use Rattle.pf_history.specs.Logs.{Log}
use Rattle.pf_scene.specs.Worlds.{WorldState}
use Rattle.pf_scene.specs.Stock.{Written}
use Rattle.pf_scene.specs.Counts.{are_accounted, outs, AreTrimmed, FitsHome, FitHome, AreCounted}
use Rattle.pf_scene.specs.Scenes.{SceneState, IsScene, KeepsScene, with_cycle}
use Rattle.pf_scene.proofs.Accounts.{AreKept, same_accounted, kept_trimmed}
use Rattle.pf_scene.proofs.Trimmed.{long_by}
use Rattle.pf_scene.proofs.Homes.{home_later}
use Rattle.pf_scene.proofs.Counted.{counted_refused}
use Rattle.pf_scene.proofs.Kept.{scene_recycled}

-- A refusal

-- the state in a scene of this world
abbrev pub state_with : WorldState → List Viewpoint → (frames retired merges : ℕ) → FrameState
state_with w views frames retired merges =
    record { graph = w.graph; views = views; frames = frames; retired = retired; merges = merges; graves = w.graves }

-- where the world is as before but for its cycles, which were trimmed
pub scene_refused : (ahead channels : ℕ) (log log' : Log) (w x : WorldState) (views : List Viewpoint) (frames retired merges weight copies : ℕ)
    → KeepsScene ahead channels log (state_with w views frames retired merges) w.marks weight copies w.cycles → log' ≡ log → x ≡ record w { cycles = x.cycles }
    → AreTrimmed w.graph.next_serial w.cycles x.cycles → ((s : ℕ) → w.graph.next_serial ≤ s → written_at x.cycles s ≡ None)
    → KeepsScene ahead channels log' (state_with x views frames retired merges) x.marks weight copies x.cycles
scene_refused ahead channels log log' w x views frames retired merges weight copies keeps logs is trimmed none = record {
  scene =
      subst (λ (y : WorldState). IsScene ahead channels log' (state_with y views frames retired merges) y.marks weight (written_at x.cycles)) (sym is)
      (subst (λ (es : Log). IsScene ahead channels es (state_with w views frames retired merges) w.marks weight (written_at x.cycles)) (sym logs)
      (scene_recycled ahead channels log (state_with w views frames retired merges) w.marks weight (written_at w.cycles) (written_at x.cycles) keeps.scene
      (home_later channels log w.graph.next_serial w.graph.next_serial (written_at w.cycles) (written_at x.cycles) keeps.scene.home (omega arith) trimmed.long)));
  counted = counted_refused ahead copies w.graph.next_serial w.cycles x.cycles keeps.counted trimmed none;
}

-- where a cut was refused, and the cycles may have more copies
pub scene_uncut : (ahead channels : ℕ) (log log' : Log) (w x : WorldState) (views : List Viewpoint) (frames retired merges weight copies copies' : ℕ)
    → KeepsScene ahead channels log (state_with w views frames retired merges) w.marks weight copies w.cycles → log' ≡ log → x.graph ≡ w.graph → x.graves ≡ w.graves → x.marks ≡ w.marks
    → ((s : ℕ) → written_at x.cycles s ≡ written_at w.cycles s) → AreCounted ahead copies' x.cycles
    → KeepsScene ahead channels log' (state_with x views frames retired merges) x.marks weight copies' x.cycles
scene_uncut ahead channels log log' w x views frames retired merges weight copies copies' keeps logs graph graves marks written counted = record {
  scene =
      subst (λ (m : List ℕ). IsScene ahead channels log' (state_with x views frames retired merges) m weight (written_at x.cycles)) (sym marks)
      (subst (λ (gs : List GraveState). IsScene ahead channels log' (record { graph = x.graph; views = views; frames = frames; retired = retired; merges = merges; graves = gs }) w.marks weight (written_at x.cycles)) (sym graves)
      (subst (λ (g : SceneGraph). IsScene ahead channels log' (record { graph = g; views = views; frames = frames; retired = retired; merges = merges; graves = w.graves }) w.marks weight (written_at x.cycles)) (sym graph)
      (subst (λ (es : Log). IsScene ahead channels es (state_with w views frames retired merges) w.marks weight (written_at x.cycles)) (sym logs)
      (scene_recycled ahead channels log (state_with w views frames retired merges) w.marks weight (written_at w.cycles) (written_at x.cycles) keeps.scene
      (home_later channels log w.graph.next_serial w.graph.next_serial (written_at w.cycles) (written_at x.cycles) keeps.scene.home (omega arith)
      (λ n l. long_by (written_at x.cycles n) (written_at w.cycles n) (written n)))))));
  counted = counted;
}

-- what clauses see of a scene
abbrev pub seen : (ahead channels : ℕ) → Log → (told seat : ℕ) → Bool → (next : ℕ) → CyclesState → ℕ → SceneState
seen ahead channels log told seat stopped next c copies = record {
  shared = record { log = log; seat = seat; stopped = stopped; ahead = ahead; channels = channels };
  copies = copies;
  out = outs next c;
  accounted = are_accounted ahead channels log c;
  told = told;
}

pub seen_same : (ahead channels : ℕ) (log log' : Log) (told told' seat : ℕ) (stopped : Bool) (w x : WorldState) (copies : ℕ) → log' ≡ log → told' ≡ told → x ≡ record w { cycles = x.cycles }
    → most_of x.cycles ≡ most_of w.cycles → ((s : ℕ) → out_at x.cycles s ≡ out_at w.cycles s)
    → seen ahead channels log' told' seat stopped x.graph.next_serial x.cycles copies ≡ seen ahead channels log told seat stopped w.graph.next_serial w.cycles copies
seen_same ahead channels log log' told told' seat stopped w x copies logs tells is most out = λ i. record {
  shared = record { log = logs i; seat = seat; stopped = stopped; ahead = ahead; channels = channels };
  copies = copies;
  out = map (λ s. out s i) (range_with_len 0 (next i));
  accounted = same i;
  told = tells i;
}
  where
    next : x.graph.next_serial ≡ w.graph.next_serial
    next = ap (λ (y : WorldState). y.graph.next_serial) is

    same : are_accounted ahead channels log' x.cycles ≡ are_accounted ahead channels log w.cycles
    same = ap (λ (es : Log). are_accounted ahead channels es x.cycles) logs ∙ same_accounted ahead channels log w.cycles x.cycles most out

pub kept_refused : (ahead channels : ℕ) (log log' : Log) (c d : CyclesState) (copies : ℕ) → log' ≡ log → ((s : ℕ) → out_at d s ≤ out_at c s) → most_of d ≡ most_of c
    → AreKept ahead channels log c copies → AreKept ahead channels log' d copies
kept_refused ahead channels log log' c d copies logs out most k =
    subst (λ (es : Log). AreKept ahead channels es d copies) (sym logs) (kept_trimmed ahead channels log c d copies out most k)

pub kept_same : (ahead channels : ℕ) (log log' : Log) (c : CyclesState) (copies : ℕ) → log' ≡ log → AreKept ahead channels log c copies → AreKept ahead channels log' c copies
kept_same ahead channels log log' c copies logs k = subst (λ (es : Log). AreKept ahead channels es c copies) (sym logs) k

-- An edit or a merge makes at most a cycle with as many copies as a new one gets

pub few_after : (n : ℕ) (t u : Bool) (ahead copies : ℕ) → n ≡ cond t copies (with_cycle u ahead copies) → n ≤ max copies (ahead + 1)
few_after n true u ahead copies h = omega (arith, h)
few_after n false true ahead copies h = omega (arith, h)
few_after n false false ahead copies h = omega (arith, h)

-- A new scene

pub new_home : (channels : ℕ) (w : Written) → FitHome channels [] 1 w
new_home channels w = record { back = tt; behind = λ id. subst (λ (o : Option Node). FitsHome w 1 o) (sym (node_at_step id (0, scene_node) [])) (by (0 == id)) }
  where
    by : (t : Bool) → FitsHome w 1 (cond t (Some scene_node) None)
    by true = λ geode. absurd (cc)
    by false = tt

pub new_accounted : (ahead channels copies : ℕ) → copies ≡ ahead + 1 → are_accounted ahead channels [] (record { cycles = []; copies = copies; most = 0 }) ≡ true
new_accounted ahead channels copies is = ap (λ (t : Bool). t && true) (le-leb (max 0 copies) (ahead + 1) (omega (arith, is)))
