-- The law of what is away of a geode's triangles.
use Rattle.std.proofs.Common.{◌≡◌, ℕ, zero, suc, ◌+◌, ◌-◌, ◌≤◌, Bool, true, false, cond, ◌==◌, ◌&&◌, List, [], ◌∷◌, ◌++◌, map, take, Some, refl, sym, ◌∙◌, ap, subst, arith}
use Rattle.std.proofs.lemmas.List.{take_all}
use Rattle.std.proofs.lemmas.List.Sums.{sum_by-cons}
use Rattle.std.specs.List.{AllByRecursion, fold}
use Rattle.pf_model.specs.declared.nodes.Node.{Node}
use Rattle.pf_model.specs.Kinds.{is_geode}
use Rattle.pf_model.specs.Graphs.{Nodes, empty_scene}
use Rattle.pf_model.specs.Limits.{IsRising}
use Rattle.pf_model.specs.Copies.{UpdateList, updated_by, put_all, copy_of}
use Rattle.pf_history.specs.declared.commands.Command.{Command}
use Rattle.pf_history.specs.declared.commands.Command.TheVariants as command
use Rattle.pf_history.specs.declared.commands.Entry.{Entry}
use Rattle.pf_history.specs.Objects.{FrameState, opening_state, next_state}
use Rattle.pf_history.specs.Commands.{is_frame}
use Rattle.pf_history.specs.Logs.{Log, state_of}
use Rattle.pf_history.specs.Cuts.{names, Cutting, cuttings, cut_at, cuts_of, copy_after, next_cut, marked}
use Rattle.pf_history.specs.CutLaws.{with_last}
use Rattle.pf_history.specs.Away.{arrays_of, arrays_in, arrays_at, replaced, replaced_by_all, came_back, away, AddsToAway, AwayLaw}
use Rattle.pf_history.proofs.Folds.{state_push, kept_after}
use Rattle.pf_history.proofs.Counting.{one, counts_law}
use Rattle.pf_history.proofs.Copying.{CopiesRight, copies_right, next_rising}
use Rattle.pf_history.proofs.Cutting.{put_all_rising, cuts_law}
use Rattle.pf_history.proofs.Freeing.{tags, times, noted, IsKept, kept_next, opening_kept}
use Rattle.pf_history.proofs.Arrays.{picked_held, away_of, taken_later, away_push, replaced_last, replaced_many, one_each}

-- States whose serials differ

record IsSound (s : FrameState) : Type 0 where
  pub found : List FrameState
  pub kept : IsKept found s
  pub rising : IsRising (map (λ e. e.0) s.graph.nodes)

sound_next : (s : FrameState) (c : Command) → IsSound s → IsSound (next_state s c)
sound_next s c h = record { found = noted h.found s c; kept = kept_next h.found s c h.kept; rising = next_rising s c h.rising }

sound_opening : (channels : ℕ) → IsSound (opening_state channels)
sound_opening channels = record { found = []; kept = opening_kept channels; rising = (tt, tt) }

-- a copy has no more geodes of a serial than nodes of it
arrays_few : (x : ℕ) (nodes : Nodes) → arrays_at x nodes ≤ times x (tags nodes)
arrays_few x [] = omega arith
arrays_few x (e ∷ es) = by (is_geode e.1.kind) (e.1.serial == x) (sum_by-cons (λ (e : ℕ × Node). arrays_of x (Some e.1)) e es) (arrays_few x es)
  where
    by : (g t : Bool) → arrays_at x (e ∷ es) ≡ cond (g && t) 1 0 + arrays_at x es → arrays_at x es ≤ times x (tags es) → arrays_at x (e ∷ es) ≤ one t + times x (tags es)
    by true true step rest = omega (arith, step, rest)
    by true false step rest = omega (arith, step, rest)
    by false true step rest = omega (arith, step, rest)
    by false false step rest = omega (arith, step, rest)

sound_once : (x : ℕ) (s : FrameState) → IsSound s → arrays_at x s.graph.nodes ≤ 1
sound_once x s h =
    let few = arrays_few x s.graph.nodes in
    let once = h.kept.kept.once x in
    omega (arith, few, once)

picked_once : (x : ℕ) (s : FrameState) (ids : List ℕ) → IsSound s → IsRising ids → arrays_in x (cut_at (record { ids = ids; found = s })) ≤ 1
picked_once x s ids h rising =
    let picked = picked_held (arrays_of x) refl s.graph.nodes ids h.rising rising in
    let once = sound_once x s h in
    omega (arith, picked, once)

-- Along a log

cuts_once : (x : ℕ) (ids : List ℕ) (s : FrameState) (log : Log) → IsRising ids → IsSound s → AllByRecursion (λ us. arrays_in x us ≤ 1) (map cut_at (cuttings ids s log))
cuts_once x ids s [] rising h = tt
cuts_once x ids s (e ∷ es) rising h =
    by (is_frame e.1.command) (cuts_once x [] (next_state s e.1.command) es tt (sound_next s e.1.command h))
    (cuts_once x (put_all (names s e.1.command) ids) (next_state s e.1.command) es (put_all_rising (names s e.1.command) ids rising) (sound_next s e.1.command h))
  where
    Once : List Cutting → Type 0
    Once cs = AllByRecursion (λ us. arrays_in x us ≤ 1) (map cut_at cs)

    by : (t : Bool) → Once (cuttings [] (next_state s e.1.command) es) → Once (cuttings (put_all (names s e.1.command) ids) (next_state s e.1.command) es) →
        Once (cond t (record { ids = ids; found = s } ∷ cuttings [] (next_state s e.1.command) es) (cuttings (put_all (names s e.1.command) ids) (next_state s e.1.command) es))
    by true framed passed = (picked_once x s ids h rising, framed)
    by false framed passed = passed

found_once : (x : ℕ) (ids : List ℕ) (s : FrameState) (log : Log) → IsSound s → AllByRecursion (λ c. arrays_at x c.found.graph.nodes ≤ 1) (cuttings ids s log)
found_once x ids s [] h = tt
found_once x ids s (e ∷ es) h =
    by (is_frame e.1.command) (found_once x [] (next_state s e.1.command) es (sound_next s e.1.command h))
    (found_once x (put_all (names s e.1.command) ids) (next_state s e.1.command) es (sound_next s e.1.command h))
  where
    Once : List Cutting → Type 0
    Once cs = AllByRecursion (λ c. arrays_at x c.found.graph.nodes ≤ 1) cs

    by : (t : Bool) → Once (cuttings [] (next_state s e.1.command) es) → Once (cuttings (put_all (names s e.1.command) ids) (next_state s e.1.command) es) →
        Once (cond t (record { ids = ids; found = s } ∷ cuttings [] (next_state s e.1.command) es) (cuttings (put_all (names s e.1.command) ids) (next_state s e.1.command) es))
    by true framed passed = (sound_once x s h, framed)
    by false framed passed = passed

copy_once : (x : ℕ) (copy : Nodes) (cs : List Cutting) (k : ℕ) → CopiesRight copy cs → AllByRecursion (λ c. arrays_at x c.found.graph.nodes ≤ 1) cs → arrays_at x copy ≤ 1 →
    arrays_at x (fold updated_by copy (take k (map cut_at cs))) ≤ 1
copy_once x copy cs zero right found once = once
copy_once x copy [] (suc k) right found once = once
copy_once x copy (c ∷ cs) (suc k) right found once =
    copy_once x (updated_by copy (cut_at c)) cs k right.1 found.1 (subst (λ (n : Nodes). arrays_at x n ≤ 1) (sym right.0) found.0)

copy_after_once : (channels : ℕ) (log : Log) (k x : ℕ) → arrays_at x (copy_after channels log k) ≤ 1
copy_after_once channels log k x =
    copy_once x empty_scene.nodes (cuttings [] (opening_state channels) log) k
    (copies_right empty_scene.nodes [] (opening_state channels) log (tt, tt) (tt, tt) (λ id none. refl))
    (found_once x [] (opening_state channels) log (sound_opening channels))
    (sound_once x (opening_state channels) (sound_opening channels))

next_once : (channels : ℕ) (log : Log) (x : ℕ) → arrays_in x (next_cut channels log) ≤ 1
next_once channels log x =
    picked_once x (state_of channels log) (marked channels log) (kept_after IsSound sound_next (opening_state channels) log (sound_opening channels))
    ((cuts_law channels log).marks_rising)

away_few : (channels : ℕ) (log : Log) (x : ℕ) → (state_of channels log).retired ≤ (state_of channels log).frames → away channels log x + (state_of channels log).retired ≤ (state_of channels log).frames + 1
away_few channels log x l =
    let many = (cuts_law channels log).many in
    let copy = copy_after_once channels log (state_of channels log).retired x in
    let lists = one_each (arrays_of x) (cuts_of channels log) (state_of channels log).retired (cuts_once x [] (opening_state channels) log tt (sound_opening channels)) (omega (arith, l, many)) in
    omega (arith, many, copy, lists)

-- What an entry adds

-- what is away where a command was made after a log
abbrev away_then : ℕ → Log → ℕ → Command → ℕ
away_then channels log x c =
    away_of (arrays_of x) empty_scene.nodes (with_last (is_frame c) (cuts_of channels log) (next_cut channels log)) (next_state (state_of channels log) c).retired

away_after : (channels : ℕ) (log : Log) (e : ℕ × Entry) (x : ℕ) → away channels (log ++ e ∷ []) x ≡ away_then channels log x e.1.command
away_after channels log e x = λ i. away_of (arrays_of x) empty_scene.nodes (((cuts_law channels log).adds e).cuts i) (state_push (opening_state channels) log e i).retired

away_frame : (channels : ℕ) (log : Log) (e : ℕ × Entry) (x : ℕ) → (state_of channels log).retired ≤ (state_of channels log).frames → e.1.command ≡ command.Frame → away channels (log ++ e ∷ []) x ≡ away channels log x + arrays_in x (next_cut channels log)
away_frame channels log e x l is =
    let many = (cuts_law channels log).many in
    away_after channels log e x ∙ ap (away_then channels log x) is
    ∙ away_push (arrays_of x) empty_scene.nodes (cuts_of channels log) (next_cut channels log) (state_of channels log).retired (omega (arith, l, many))

away_sync : (channels : ℕ) (log : Log) (e : ℕ × Entry) (x r : ℕ) → e.1.command ≡ command.Sync r → away channels (log ++ e ∷ []) x ≡ away_of (arrays_of x) empty_scene.nodes (cuts_of channels log) r
away_sync channels log e x r is = away_after channels log e x ∙ ap (away_then channels log x) is

other_then : (channels : ℕ) (log : Log) (x : ℕ) (c : Command) → is_frame c ≡ false → ((r : ℕ) → c ≡ command.Sync r → ⊥) → away_then channels log x c ≡ away channels log x
other_then channels log x (command.Edit e) still none = refl
other_then channels log x (command.Merge m) still none = refl
other_then channels log x (command.View channel v) still none = refl
other_then channels log x (command.Sync r) still none = absurd (none r refl)
other_then channels log x command.Frame still none = absurd (cc)

back : (channels : ℕ) (log : Log) (e : ℕ × Entry) → came_back channels (log ++ e ∷ []) ≡ with_last (is_frame e.1.command) (came_back channels log) (replaced (copy_after channels log (state_of channels log).frames) (next_cut channels log))
back channels log e =
    let many = (cuts_law channels log).many in
    ap (replaced_by_all empty_scene.nodes) (((cuts_law channels log).adds e).cuts)
    ∙ replaced_last (is_frame e.1.command) empty_scene.nodes (cuts_of channels log) (next_cut channels log)
    ∙ ap (λ (lists : List UpdateList). with_last (is_frame e.1.command) (came_back channels log) (replaced (copy_of lists) (next_cut channels log)))
    (sym (take_all (state_of channels log).frames (cuts_of channels log) (omega (arith, many))))

away_adds : (channels : ℕ) (log : Log) (e : ℕ × Entry) → (state_of channels log).retired ≤ (state_of channels log).frames → AddsToAway channels log e
away_adds channels log e l =
    record {
      frame = λ is x. away_frame channels log e x l is;
      sync = λ r is below above x.
          let moved = away_sync channels log e x r is in
          let taken = taken_later (arrays_of x) refl empty_scene.nodes (cuts_of channels log) (state_of channels log).retired r (r - (state_of channels log).retired) (omega (arith, below)) (tt, tt) ((cuts_law channels log).rising) in
          omega (arith, moved, taken);
      others = λ still none x. away_after channels log e x ∙ other_then channels log x e.1.command still none;
      back = back channels log e;
    }

pub away_law : AwayLaw
away_law channels log legal =
    let l : (state_of channels log).retired ≤ (state_of channels log).frames = (counts_law channels log).retired legal in
    record {
      many = replaced_many empty_scene.nodes (cuts_of channels log) ∙ (cuts_law channels log).many;
      once = λ x. next_once channels log x;
      few = λ x. away_few channels log x l;
      adds = λ e. away_adds channels log e l;
    }
