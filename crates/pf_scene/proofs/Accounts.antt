-- When the copies that are out are accounted for.
use Rattle.std.proofs.Common.{◌≡◌, ◌⊎◌, inl, inr, ℕ, ◌+◌, ◌-◌, ◌<◌, ◌≤◌, max, Bool, true, false, cond, ◌==◌, nat_lt, nat_le, is_eq, Less, Equal, Greater, List, [], ◌∷◌, ◌++◌, take, drop, suc, zero, Option, Some, None, refl, sym, ◌∙◌, ap, subst, arith}
use Rattle.std.proofs.lemmas.Bool.{and_parts, and_from, le-leb, leb-true, eqb-true, false≢true}
use Rattle.std.specs.Cmp.{both_ways}
use Rattle.std.specs.Map.{lookup}
use Rattle.std.specs.BTreeMap.{is_at}
use Rattle.std.specs.Ordering.{nat_cmp}
use Rattle.std.specs.List.{AllByRecursion, list_all}
use Rattle.std.specs.Option.{option_map_or}
use Rattle.pf_model.specs.Graphs.{node_at}
use Rattle.pf_model.specs.Copies.{UpdateList, updates_of}
use Rattle.cycle_buffer.specs.Cycles.{CycleState, CyclesState, cycle_at, written_at, out_at, out_of, most_of}
use Rattle.update_lists.specs.Taking.{geode_serials, times_in}
use Rattle.pf_history.specs.declared.commands.Command.{Command}
use Rattle.pf_history.specs.declared.commands.Command.TheVariants as command
use Rattle.pf_history.specs.declared.commands.Entry.{Entry}
use Rattle.pf_history.specs.Commands.{is_frame}
use Rattle.pf_history.specs.Objects.{FrameState}
use Rattle.pf_history.specs.Logs.{Log, state_of, IsLegal}
use Rattle.pf_history.specs.Cuts.{next_cut, marked}
use Rattle.pf_history.specs.Away.{away, arrays_in, arrays_in_all, came_back, came_back_between}
use Rattle.pf_history.proofs.Away.{away_law}
use Rattle.pf_history.proofs.Lists.{all_drop}
use Rattle.pf_scene.specs.Counts.{are_accounted, ListFits, ListsFit, FitHome}
use Rattle.pf_scene.proofs.Homes.{cut_counts}

-- no cycle has more copies than this, and no more are out than are away
pub record AreFew (b : ℕ) (f : ℕ → ℕ) (c : CyclesState) : Type 0 where
  pub most : most_of c ≤ b
  pub out : (s : ℕ) → out_at c s ≤ f s

here : (s k : ℕ) → is_at (nat_cmp s) k ≡ true → k ≡ s
here s k h = by (nat_lt s k) (s == k) refl h
  where
    by : (t u : Bool) → (s == k) ≡ u → is_eq (cond t Less (cond u Equal Greater)) ≡ true → k ≡ s
    by true u e f = absurd (false≢true f)
    by false true e f = sym (eqb-true s k e)
    by false false e f = absurd (false≢true f)

-- a serial that has a cycle passes what the serials of all cycles pass
passes : (p : ℕ → Bool) (s : ℕ) (xs : List (ℕ × CycleState)) → list_all (λ e. p e.0) xs ≡ true → (lookup (is_at (nat_cmp s)) xs ≡ None) ⊎ (p s ≡ true)
passes p s [] h = inl refl
passes p s (e ∷ es) h = by (is_at (nat_cmp s) e.0) refl (and_parts (p e.0) (list_all (λ x. p x.0) es) h) (λ k. passes p s es k)
  where
    by : (t : Bool) → is_at (nat_cmp s) e.0 ≡ t → (p e.0 ≡ true) × (list_all (λ x. p x.0) es ≡ true)
        → (list_all (λ x. p x.0) es ≡ true → (lookup (is_at (nat_cmp s)) es ≡ None) ⊎ (p s ≡ true))
        → (cond t (Some e.1) (lookup (is_at (nat_cmp s)) es) ≡ None) ⊎ (p s ≡ true)
    by true is h rest = inr (subst (λ (x : ℕ). p x ≡ true) (here s e.0 is) h.0)
    by false is h rest = rest h.1

all_pass : (p : ℕ → Bool) → ((s : ℕ) → p s ≡ true) → (xs : List (ℕ × CycleState)) → list_all (λ e. p e.0) xs ≡ true
all_pass p h [] = refl
all_pass p h (e ∷ es) = and_from (p e.0) (list_all (λ x. p x.0) es) (h e.0) (all_pass p h es)

pub few_accounted : (ahead channels : ℕ) (log : Log) (c : CyclesState) → are_accounted ahead channels log c ≡ true → AreFew (ahead + 1) (away channels log) c
few_accounted ahead channels log c h = record {
  most = leb-true (most_of c) (ahead + 1) halves.0;
  out = λ s. by s (passes p s c.cycles halves.1);
}
  where
    p : ℕ → Bool
    p s = nat_le (out_at c s) (away channels log s)

    halves : (nat_le (most_of c) (ahead + 1) ≡ true) × (list_all (λ e. p e.0) c.cycles ≡ true)
    halves = and_parts (nat_le (most_of c) (ahead + 1)) (list_all (λ e. p e.0) c.cycles) h

    nothing : (a b : ℕ) → a ≡ 0 → a ≤ b
    nothing a b h = omega arith

    by : (s : ℕ) → (cycle_at c s ≡ None) ⊎ (p s ≡ true) → out_at c s ≤ away channels log s
    by s (inl none) = nothing (out_at c s) (away channels log s) (ap (λ (o : Option CycleState). option_map_or out_of o 0) none)
    by s (inr h) = leb-true (out_at c s) (away channels log s) h

pub accounted_few : (ahead channels : ℕ) (log : Log) (c : CyclesState) → AreFew (ahead + 1) (away channels log) c → are_accounted ahead channels log c ≡ true
accounted_few ahead channels log c h =
    and_from (nat_le (most_of c) (ahead + 1)) (list_all (λ e. p e.0) c.cycles) (le-leb (most_of c) (ahead + 1) h.most)
    (all_pass p (λ s. le-leb (out_at c s) (away channels log s) (h.out s)) c.cycles)
  where
    p : ℕ → Bool
    p s = nat_le (out_at c s) (away channels log s)

-- the answer is the same where as many are out under each serial
pub same_accounted : (ahead channels : ℕ) (log : Log) (c d : CyclesState) → most_of d ≡ most_of c → ((s : ℕ) → out_at d s ≡ out_at c s)
    → are_accounted ahead channels log d ≡ are_accounted ahead channels log c
same_accounted ahead channels log c d most out =
    both_ways (are_accounted ahead channels log d) (are_accounted ahead channels log c)
    (λ h. accounted_few ahead channels log c (there d c (λ s. low (out_at d s) (out_at c s) (out s)) (low (most_of d) (most_of c) most) (few_accounted ahead channels log d h)))
    (λ h. accounted_few ahead channels log d (there c d (λ s. low (out_at c s) (out_at d s) (sym (out s))) (low (most_of c) (most_of d) (sym most)) (few_accounted ahead channels log c h)))
  where
    low : (a b : ℕ) → a ≡ b → b ≤ a
    low a b h = omega arith

    at_most : (a b x : ℕ) → b ≤ a → a ≤ x → b ≤ x
    at_most a b x h k = omega arith

    there : (x y : CyclesState) → ((s : ℕ) → out_at y s ≤ out_at x s) → most_of y ≤ most_of x → AreFew (ahead + 1) (away channels log) x → AreFew (ahead + 1) (away channels log) y
    there x y less most few = record {
      most = at_most (most_of x) (most_of y) (ahead + 1) most few.most;
      out = λ s. at_most (out_at x s) (out_at y s) (away channels log s) (less s) (few.out s);
    }

-- Each command

all_take : {X : Type 0} (P : X → Type 0) (k : ℕ) (xs : List X) → AllByRecursion P xs → AllByRecursion P (take k xs)
all_take P zero xs h = tt
all_take P (suc k) [] h = tt
all_take P (suc k) (x ∷ xs) h = (h.0, all_take P k xs h.1)

-- the copies are accounted for after this log, and not more than this
abbrev pub AreKept : (ahead channels : ℕ) → Log → CyclesState → ℕ → Type 0
AreKept ahead channels log c copies = (are_accounted ahead channels log c ≡ true) × (copies ≤ ahead + 1)

-- the cycles lost copies that were out, or none
pub kept_trimmed : (ahead channels : ℕ) (log : Log) (c d : CyclesState) (copies : ℕ) → ((s : ℕ) → out_at d s ≤ out_at c s) → most_of d ≡ most_of c
    → AreKept ahead channels log c copies → AreKept ahead channels log d copies
kept_trimmed ahead channels log c d copies out most k =
    let few = few_accounted ahead channels log c k.0 in (
      accounted_few ahead channels log d (record {
        most = subst (λ (m : ℕ). m ≤ ahead + 1) (sym most) few.most;
        out = λ s. at_most (out_at d s) (out_at c s) (away channels log s) (out s) (few.out s);
      }),
      k.1,
    )
  where
    at_most : (a b x : ℕ) → a ≤ b → b ≤ x → a ≤ x
    at_most a b x h k = omega arith

-- an entry that is no Frame and no Sync
pub kept_entered : (ahead channels : ℕ) (log log' : Log) (seat : ℕ) (x : Entry) (k : Command) (c d : CyclesState) (copies copies' : ℕ) → IsLegal channels log
    → x.command ≡ k → is_frame k ≡ false → ((r : ℕ) → k ≡ command.Sync r → ⊥) → log' ≡ log ++ (seat, x) ∷ []
    → ((s : ℕ) → out_at d s ≤ out_at c s) → most_of d ≡ most_of c → copies' ≤ max copies (ahead + 1)
    → AreKept ahead channels log c copies → AreKept ahead channels log' d copies'
kept_entered ahead channels log log' seat x k c d copies copies' legal is none no_sync logs out most few h =
    let old = few_accounted ahead channels log c h.0 in
    let low = h.1 in (
      accounted_few ahead channels log' d (record {
        most = subst (λ (m : ℕ). m ≤ ahead + 1) (sym most) old.most;
        out = λ s. at_most (out_at d s) (out_at c s) (away channels log s) (away channels log' s) (out s) (old.out s) (same s);
      }),
      omega (arith, few, low),
    )
  where
    at_most : (a b m n : ℕ) → a ≤ b → b ≤ m → n ≡ m → a ≤ n
    at_most a b m n h k e = omega arith

    same : (s : ℕ) → away channels log' s ≡ away channels log s
    same s =
        ap (λ (es : Log). away channels es s) logs
        ∙ ((away_law channels log legal).adds (seat, x)).others (ap is_frame is ∙ none) (λ r e. no_sync r (sym is ∙ e)) s

-- a Sync, where the lists that came home are those of the frames that it retires
pub kept_synced : (ahead channels : ℕ) (log log' : Log) (s : FrameState) (seat : ℕ) (x : Entry) (r : ℕ) (c d : CyclesState) (copies : ℕ) (lists : List UpdateList) → IsLegal channels log
    → state_of channels log ≡ s → x.command ≡ command.Sync r → s.retired ≤ r → r ≤ s.frames → log' ≡ log ++ (seat, x) ∷ []
    → ((next : ℕ) → ListsFit (written_at c) next lists → (n : ℕ) → out_at d n ≡ out_at c n - arrays_in_all n lists) → most_of d ≡ most_of c
    → FitHome channels log s.graph.next_serial (written_at c) → lists ≡ came_back_between channels log (state_of channels log).retired r
    → AreKept ahead channels log c copies → AreKept ahead channels log' d copies
kept_synced ahead channels log log' s seat x r c d copies lists legal after is back begun logs out most home came h =
    let old = few_accounted ahead channels log c h.0 in (
      accounted_few ahead channels log' d (record {
        most = subst (λ (m : ℕ). m ≤ ahead + 1) (sym most) old.most;
        out = λ n. less (out_at d n) (out_at c n) (arrays_in_all n lists) (away channels log n) (away channels log' n) (out s.graph.next_serial fit n) (old.out n) (given n);
      }),
      h.1,
    )
  where
    less : (a b k m n : ℕ) → a ≡ b - k → b ≤ m → n + k ≡ m → a ≤ n
    less a b k m n h i j = omega arith

    now : FrameState
    now = state_of channels log

    fit : ListsFit (written_at c) s.graph.next_serial lists
    fit =
        subst (λ (us : List UpdateList). ListsFit (written_at c) s.graph.next_serial us) (sym came)
        (all_take (ListFits (written_at c) s.graph.next_serial) (r - now.retired) (drop now.retired (came_back channels log))
        (all_drop (ListFits (written_at c) s.graph.next_serial) now.retired (came_back channels log) home.back))

    given : (n : ℕ) → away channels log' n + arrays_in_all n lists ≡ away channels log n
    given n =
        ap (λ (es : Log). away channels es n + arrays_in_all n lists) logs
        ∙ ap (λ (us : List UpdateList). away channels (log ++ (seat, x) ∷ []) n + arrays_in_all n us) came
        ∙ ((away_law channels log legal).adds (seat, x)).sync r is (subst (λ (t : FrameState). t.retired ≤ r) (sym after) back)
        (subst (λ (t : FrameState). r ≤ t.frames) (sym after) begun) n

-- where fewer frames are in flight than may be ahead, fewer copies are out than one more than those
pub out_few : (ahead channels : ℕ) (log : Log) (s : FrameState) (c : CyclesState) (copies : ℕ) → IsLegal channels log → state_of channels log ≡ s → s.frames < s.retired + ahead
    → AreKept ahead channels log c copies → (n : ℕ) → out_at c n < ahead + 1
out_few ahead channels log s c copies legal after room h n =
    below (out_at c n) (away channels log n) s.retired s.frames
    ((few_accounted ahead channels log c h.0).out n)
    (subst (λ (t : FrameState). away channels log n + t.retired ≤ t.frames + 1) after ((away_law channels log legal).few n)) room
  where
    below : (o a r f : ℕ) → o ≤ a → a + r ≤ f + 1 → f < r + ahead → o < ahead + 1
    below o a r f h i j = omega arith

-- a cut that was refused
pub kept_uncut : (ahead channels : ℕ) (log : Log) (s : FrameState) (c d : CyclesState) (copies copies' : ℕ) → IsLegal channels log → state_of channels log ≡ s → s.frames < s.retired + ahead
    → ((n : ℕ) → out_at d n ≡ out_at c n) → ((b : ℕ) → most_of c ≤ b → ((n : ℕ) → out_at c n < b) → most_of d ≤ b) → copies' ≤ max copies d.most
    → AreKept ahead channels log c copies → AreKept ahead channels log d copies'
kept_uncut ahead channels log s c d copies copies' legal after room out most is h =
    let old = few_accounted ahead channels log c h.0 in
    let few = most (ahead + 1) old.most (out_few ahead channels log s c copies legal after room h) in (
      accounted_few ahead channels log d (record {
        most = few;
        out = λ n. low (out_at d n) (out_at c n) (away channels log n) (out n) (old.out n);
      }),
      at_most copies d.most d.copies copies' h.1 few is,
    )
  where
    low : (a b m : ℕ) → a ≡ b → b ≤ m → a ≤ m
    low a b m h k = omega arith

    at_most : (a m k b : ℕ) → a ≤ ahead + 1 → max m k ≤ ahead + 1 → b ≤ max a m → b ≤ ahead + 1
    at_most a m k b h i e = omega arith

-- a Frame
pub kept_framed : (ahead channels : ℕ) (log log' : Log) (s : FrameState) (marks : List ℕ) (seat : ℕ) (x : Entry) (c d : CyclesState) (copies copies' : ℕ) → IsLegal channels log
    → state_of channels log ≡ s → marked channels log ≡ marks → s.frames < s.retired + ahead → x.command ≡ command.Frame → log' ≡ log ++ (seat, x) ∷ []
    → ((n : ℕ) → out_at d n ≡ out_at c n + times_in n (geode_serials (node_at s.graph.nodes) marks))
    → ((b : ℕ) → most_of c ≤ b → ((n : ℕ) → out_at c n < b) → most_of d ≤ b) → copies' ≤ max copies d.most
    → AreKept ahead channels log c copies → AreKept ahead channels log' d copies'
kept_framed ahead channels log log' s marks seat x c d copies copies' legal after marked_are room is logs out most copied h =
    let old = few_accounted ahead channels log c h.0 in
    let few = most (ahead + 1) old.most (out_few ahead channels log s c copies legal after room h) in (
      accounted_few ahead channels log' d (record {
        most = few;
        out = λ n. more (out_at d n) (out_at c n) (times_in n (geode_serials (node_at s.graph.nodes) marks)) (arrays_in n (next_cut channels log)) (away channels log n) (away channels log' n)
            (out n) (old.out n) (counted n) (added n);
      }),
      at_most copies d.most d.copies copies' h.1 few copied,
    )
  where
    more : (a b t k m n : ℕ) → a ≡ b + t → b ≤ m → t ≡ k → n ≡ m + k → a ≤ n
    more a b t k m n h i j e = omega arith

    at_most : (a m k b : ℕ) → a ≤ ahead + 1 → max m k ≤ ahead + 1 → b ≤ max a m → b ≤ ahead + 1
    at_most a m k b h i e = omega arith

    listed : next_cut channels log ≡ updates_of (node_at s.graph.nodes) marks
    listed =
        ap (λ (t : FrameState). updates_of (node_at t.graph.nodes) (marked channels log)) after
        ∙ ap (λ (ids : List ℕ). updates_of (node_at s.graph.nodes) ids) marked_are

    counted : (n : ℕ) → times_in n (geode_serials (node_at s.graph.nodes) marks) ≡ arrays_in n (next_cut channels log)
    counted n = cut_counts n (node_at s.graph.nodes) marks ∙ ap (arrays_in n) (sym listed)

    added : (n : ℕ) → away channels log' n ≡ away channels log n + arrays_in n (next_cut channels log)
    added n = ap (λ (es : Log). away channels es n) logs ∙ ((away_law channels log legal).adds (seat, x)).frame is n
