-- What the lines of the application ask for, line by line, without Syncs.
use Rattle.std.proofs.Common.{◌≡◌, ◌≢◌, ℕ, zero, suc, ◌+◌, ◌-◌, ◌<◌, ◌≤◌, max, nat_lt, Bool, true, false, cond, ◌||◌, Some, None, slice_get, List, [], ◌∷◌, map, refl, sym, ap, ◌∙◌, arith}
use Rattle.std.proofs.lemmas.Bool.{ltb-true, ltb-false}
use Rattle.std.proofs.lemmas.Grind.{common_steps}
use Rattle.std.specs.List.{AllByRecursion, filter, list_any}
use Rattle.std.specs.Ordering.{ord_max, nat_cmp}
use Rattle.pf_model.specs.declared.lines.AppStep.{AppStep}
use Rattle.pf_model.specs.declared.lines.AppStep.TheVariants as app
use Rattle.pf_model.specs.declared.lines.AppLine.{AppLine}
use Rattle.pf_model.specs.declared.lines.BaseStep.{BaseStep}
use Rattle.pf_model.specs.declared.lines.BaseStep.TheVariants as base
use Rattle.pf_model.specs.declared.lines.BaseLine.{BaseLine}
use Rattle.pf_history.specs.Asks.{Ask, WantEdit, WantView, asked_from, asked_base_from}
use Rattle.play_fences.specs.Fences.{is_own, wants_frame, own_asks, behind_frames, is_free, first_free, first_free_of}
use Rattle.play_fences.specs.Rests.{own_left, is_own_step, is_frame_step, waited_with, StandsAtOwn}

abbrev own_from : ℕ → Bool → List AppStep → List Ask
own_from need synced steps = filter (λ a. is_own a.wanted) (asked_from need synced steps)

-- a Sync before asks for nothing of the own commands
synced_same : (need : ℕ) (steps : List AppStep) → own_from need true steps ≡ own_from need false steps
synced_same need [] = refl
synced_same need (app.Edit e ∷ steps) = ap (λ (asks : List Ask). record { need = need; wanted = WantEdit e } ∷ asks) (synced_same need steps)
synced_same need (app.View channel v ∷ steps) = ap (λ (asks : List Ask). record { need = need; wanted = WantView channel v } ∷ asks) (synced_same need steps)
synced_same need (app.Sync ∷ steps) = refl
synced_same need (app.Frame ∷ steps) = refl
synced_same need (app.Wait n ∷ steps) = synced_same (max need n) steps

-- a line that asks for no own command
pub quiet_line : (waited : ℕ) (l : AppLine) (lines : List AppLine) → is_own_step l.step ≡ false → own_left (waited_with waited l.step) lines ≡ own_left waited (l ∷ lines)
quiet_line waited l lines quiet = by l.step quiet
  where
    steps : List AppStep
    steps = map (λ (l : AppLine). l.step) lines

    by : (s : AppStep) → is_own_step s ≡ false → own_from (waited_with waited s) false steps ≡ own_from waited false (s ∷ steps)
    by (app.Edit e) quiet = absurd (cc)
    by (app.View channel v) quiet = absurd (cc)
    by app.Sync quiet = sym (synced_same waited steps)
    by app.Frame quiet = absurd (cc)
    by (app.Wait n) quiet = refl

-- one line more is passed on the way behind Frames
pub passed_line : (k waited : ℕ) (l : AppLine) (lines : List AppLine) → behind_frames (cond (is_frame_step l.step) k (suc k)) (own_left (waited_with waited l.step) lines) ≡ behind_frames (suc k) (own_left waited (l ∷ lines))
passed_line k waited l lines = by l.step
  where
    steps : List AppStep
    steps = map (λ (l : AppLine). l.step) lines

    by : (s : AppStep) → behind_frames (cond (is_frame_step s) k (suc k)) (own_from (waited_with waited s) false steps) ≡ behind_frames (suc k) (own_from waited false (s ∷ steps))
    by (app.Edit e) = refl
    by (app.View channel v) = refl
    by app.Sync = ap (behind_frames (suc k)) (sym (synced_same waited steps))
    by app.Frame = refl
    by (app.Wait n) = refl

pub passed : (left less waited more : ℕ) (l : AppLine) (lines all : List AppLine) (is : Bool) → 0 < left → is_frame_step l.step ≡ is → less ≡ cond is (left - 1) left → more ≡ waited_with waited l.step → all ≡ l ∷ lines → behind_frames less (own_left more lines) ≡ behind_frames left (own_left waited all)
passed left less waited more l lines all is some frame fewer waits split =
    let k : ℕ = left - 1 in
    let one_more : suc k ≡ left = omega arith in
    ap (λ n. behind_frames n (own_left more lines)) (fewer ∙ ap (λ n. cond is (left - 1) n) (sym one_more) ∙ ap (λ b. cond b k (suc k)) (sym frame))
    ∙ ap (λ n. behind_frames (cond (is_frame_step l.step) k (suc k)) (own_left n lines)) waits
    ∙ passed_line k waited l lines
    ∙ ap (λ n. behind_frames n (own_left waited (l ∷ lines))) one_more
    ∙ ap (λ ls. behind_frames left (own_left waited ls)) (sym split)

-- needs only rise
rising : (need : ℕ) (synced : Bool) (steps : List AppStep) → AllByRecursion (λ a. need ≤ a.need) (own_from need synced steps)
rising need synced [] = tt
rising need synced (app.Edit e ∷ steps) = (omega arith, rising need synced steps)
rising need synced (app.View channel v ∷ steps) = (omega arith, rising need synced steps)
rising need synced (app.Sync ∷ steps) = rising need true steps
rising need true (app.Frame ∷ steps) = (omega arith, rising need false steps)
rising need false (app.Frame ∷ steps) = (omega arith, rising need false steps)
rising need synced (app.Wait n ∷ steps) = less (own_from (max need n) synced steps) (rising (max need n) synced steps)
  where
    less : (asks : List Ask) → AllByRecursion (λ a. max need n ≤ a.need) asks → AllByRecursion (λ a. need ≤ a.need) asks
    less [] h = tt
    less (a ∷ asks) h = let l : max need n ≤ a.need = h.0 in (omega arith, less asks h.1)

none_before : (need j : ℕ) (asks : List Ask) → j ≤ need → AllByRecursion (λ a. need ≤ a.need) asks → list_any (λ a. nat_lt a.need j) asks ≡ false
none_before need j [] late h = refl
none_before need j (a ∷ asks) late h = by (nat_lt a.need j) refl (none_before need j asks late h.1)
  where
    by : (t : Bool) → nat_lt a.need j ≡ t → list_any (λ a. nat_lt a.need j) asks ≡ false → (t || list_any (λ a. nat_lt a.need j) asks) ≡ false
    by true e rest = let l : a.need < j = ltb-true a.need j e in absurd (omega (arith, h.0))
    by false e rest = rest

-- the next own command tells whether one does not wait for a merge
pub next_tells : (waited j : ℕ) (next : AppLine) (lines : List AppLine) → Some next ≡ slice_get lines 0 → StandsAtOwn lines → nat_lt waited j ≡ list_any (λ a. nat_lt a.need j) (own_left waited lines)
next_tells waited j next [] some at = absurd (cc)
next_tells waited j next (l ∷ lines) some at = by l.step at (nat_lt waited j) refl
  where
    steps : List AppStep
    steps = map (λ (l : AppLine). l.step) lines

    late : nat_lt waited j ≡ false → false ≡ list_any (λ (a : Ask). nat_lt a.need j) (own_from waited false steps)
    late e = sym (none_before waited j (own_from waited false steps) (ltb-false waited j e) (rising waited false steps))

    by : (s : AppStep) → is_own_step s ≡ true → (t : Bool) → nat_lt waited j ≡ t → t ≡ list_any (λ a. nat_lt a.need j) (own_from waited false (s ∷ steps))
    by (app.Edit e) at true is = sym (ap (λ t. t || list_any (λ (a : Ask). nat_lt a.need j) (own_from waited false steps)) is)
    by (app.Edit e) at false is = late is ∙ sym (ap (λ t. t || list_any (λ (a : Ask). nat_lt a.need j) (own_from waited false steps)) is)
    by (app.View channel v) at true is = sym (ap (λ t. t || list_any (λ (a : Ask). nat_lt a.need j) (own_from waited false steps)) is)
    by (app.View channel v) at false is = late is ∙ sym (ap (λ t. t || list_any (λ (a : Ask). nat_lt a.need j) (own_from waited false steps)) is)
    by app.Sync at t is = absurd (cc)
    by app.Frame at true is = sym (ap (λ t. t || list_any (λ (a : Ask). nat_lt a.need j) (own_from waited false steps)) is)
    by app.Frame at false is = late is ∙ sym (ap (λ t. t || list_any (λ (a : Ask). nat_lt a.need j) (own_from waited false steps)) is)
    by (app.Wait n) at t is = absurd (cc)

-- behind some Frames and some more
behind_more : (k d : ℕ) (asks : List Ask) → behind_frames (k + d) asks ≡ behind_frames d (behind_frames k asks)
behind_more zero d asks = ap (λ n. behind_frames n asks) (omega arith)
behind_more (suc k) d [] = ap (λ n. behind_frames n []) (suc_add k d) ∙ sym (none d)
  where
    suc_add : (k d : ℕ) → suc k + d ≡ suc (k + d)
    suc_add k d = omega arith

    none : (d : ℕ) → behind_frames d [] ≡ []
    none zero = refl
    none (suc d) = refl
behind_more (suc k) d (a ∷ asks) = ap (λ n. behind_frames n (a ∷ asks)) (suc_add k d) ∙ by (wants_frame a.wanted) (behind_more k d asks) (ap (λ n. behind_frames n asks) (sym (suc_add k d)) ∙ behind_more (suc k) d asks)
  where
    suc_add : (k d : ℕ) → suc k + d ≡ suc (k + d)
    suc_add k d = omega arith

    by : (t : Bool) → behind_frames (k + d) asks ≡ behind_frames d (behind_frames k asks) → behind_frames (suc (k + d)) asks ≡ behind_frames d (behind_frames (suc k) asks) →
        cond t (behind_frames (k + d) asks) (behind_frames (suc (k + d)) asks) ≡ behind_frames d (cond t (behind_frames k asks) (behind_frames (suc k) asks))
    by true one more = one
    by false one more = more

-- how many frames the awaits before each merge of these lines ask for
abbrev pub awaits_from : ℕ → List BaseLine → List ℕ
awaits_from need lines = map (λ b. b.need) (asked_base_from need [] (map (λ l. l.step) lines))

-- what is in the buffer does not matter
since_same : (need : ℕ) (since : List BaseStep) (steps : List BaseStep) → map (λ b. b.need) (asked_base_from need since steps) ≡ map (λ b. b.need) (asked_base_from need [] steps)
since_same need since [] = refl
since_same need since (base.Buffer ∷ steps) = refl
since_same need since (base.Edit e ∷ steps) = since_same need _ steps ∙ sym (since_same need _ steps)
since_same need since (base.Ask e ∷ steps) = since_same need _ steps ∙ sym (since_same need _ steps)
since_same need since (base.Merge ∷ steps) = refl
since_same need since (base.Await n ∷ steps) = since_same (max need n) since steps

-- Where the pass over both sections has come to: the first free merge is still to be found among those of the lines
-- left, and the application's rest is what stands behind the Frames that were passed.
pub record IsPassed (app : List AppLine) (dbase left : List BaseLine) (waited : ℕ) (rest : List AppLine) (passed awaited merges : ℕ) : Type 0 where
  pub told : first_free (own_asks app) (merges + 1) (awaits_from awaited left) ≡ first_free_of app dbase
  pub behind : (d : ℕ) → behind_frames (passed + d) (own_asks app) ≡ behind_frames d (own_left waited rest)
  pub at_own : StandsAtOwn rest
  pub order : passed ≤ awaited

pub passed_opening : (app : List AppLine) (dbase : List BaseLine) (waited : ℕ) (rest : List AppLine) → own_left waited rest ≡ own_left 0 app → StandsAtOwn rest → IsPassed app dbase dbase waited rest 0 0 0
passed_opening app dbase waited rest same at_own =
    record { told = refl; behind = λ d. ap (λ n. behind_frames n (own_asks app)) (zero_add d) ∙ ap (behind_frames d) (sym same); at_own = at_own; order = omega arith }
  where
    zero_add : (d : ℕ) → 0 + d ≡ d
    zero_add d = omega arith

-- what the greater of two numbers is in the code
pub greater : (a b : ℕ) → ord_max nat_cmp a b ≡ max a b
greater a b = grind (arith, common_steps)

pub passed_await : (app : List AppLine) (dbase left : List BaseLine) (l : BaseLine) (waited : ℕ) (rest : List AppLine) (passed awaited merges n : ℕ) → l.step ≡ base.Await n → IsPassed app dbase (l ∷ left) waited rest passed awaited merges → IsPassed app dbase left waited rest passed (max awaited n) merges
passed_await app dbase left l waited rest passed awaited merges n is h =
    record {
      told = ap (λ s. first_free (own_asks app) (merges + 1) (map (λ b. b.need) (asked_base_from awaited [] (s ∷ map (λ (l : BaseLine). l.step) left)))) (sym is) ∙ h.told;
      behind = h.behind;
      at_own = h.at_own;
      order = let o = h.order in omega (arith, o);
    }

quiet_step : (need : ℕ) (step : BaseStep) (steps : List BaseStep) → step ≢ base.Merge → ((n : ℕ) → step ≢ base.Await n) → map (λ b. b.need) (asked_base_from need [] steps) ≡ map (λ b. b.need) (asked_base_from need [] (step ∷ steps))
quiet_step need (base.Await n) steps no_merge no_await = absurd (no_await n refl)
quiet_step need base.Merge steps no_merge no_await = absurd (no_merge refl)
quiet_step need base.Buffer steps no_merge no_await = refl
quiet_step need (base.Edit e) steps no_merge no_await = sym (since_same need _ steps)
quiet_step need (base.Ask e) steps no_merge no_await = sym (since_same need _ steps)

pub passed_quiet : (app : List AppLine) (dbase left : List BaseLine) (l : BaseLine) (waited : ℕ) (rest : List AppLine) (passed awaited merges : ℕ) → l.step ≢ base.Merge → ((n : ℕ) → l.step ≢ base.Await n) → IsPassed app dbase (l ∷ left) waited rest passed awaited merges → IsPassed app dbase left waited rest passed awaited merges
passed_quiet app dbase left l waited rest passed awaited merges no_merge no_await h =
    record {
      told = ap (first_free (own_asks app) (merges + 1)) (quiet_step awaited l.step (map (λ (l : BaseLine). l.step) left) no_merge no_await) ∙ h.told;
      behind = h.behind;
      at_own = h.at_own;
      order = h.order;
    }

-- What a merge comes to: it is free or not, by the rest of the application behind the Frames that it awaits.
pub record IsAtMerge (app : List AppLine) (dbase left : List BaseLine) (waited : ℕ) (rest : List AppLine) (awaited merges : ℕ) : Type 0 where
  pub free : list_any (λ a. nat_lt a.need (merges + 1)) (own_left waited rest) ≡ true → Some (merges + 1) ≡ first_free_of app dbase
  pub fenced : list_any (λ a. nat_lt a.need (merges + 1)) (own_left waited rest) ≡ false → IsPassed app dbase left waited rest awaited awaited (merges + 1)

pub passed_merge : (app : List AppLine) (dbase left : List BaseLine) (l : BaseLine) (waited more : ℕ) (rest less : List AppLine) (passed awaited merges : ℕ) → l.step ≡ base.Merge → own_left more less ≡ behind_frames (awaited - passed) (own_left waited rest) → StandsAtOwn less → IsPassed app dbase (l ∷ left) waited rest passed awaited merges → IsAtMerge app dbase left more less awaited merges
passed_merge app dbase left l waited more rest less passed awaited merges is same at_own h =
    record {
      free = λ e. ap (λ b. cond b (Some (merges + 1)) (first_free (own_asks app) (merges + 1 + 1) (awaits_from awaited left))) (sym (free_is e)) ∙ told;
      fenced = λ e. record {
        told = ap (λ b. cond b (Some (merges + 1)) (first_free (own_asks app) (merges + 1 + 1) (awaits_from awaited left))) (sym (free_is e)) ∙ told;
        behind = λ d.
            ap (λ n. behind_frames n (own_asks app)) (regrouped d)
            ∙ h.behind (awaited - passed + d)
            ∙ behind_more (awaited - passed) d (own_left waited rest)
            ∙ ap (behind_frames d) (sym same);
        at_own = at_own;
        order = omega arith;
      };
    }
  where
    told : first_free (own_asks app) (merges + 1) (awaited ∷ awaits_from awaited left) ≡ first_free_of app dbase
    told = ap (λ s. first_free (own_asks app) (merges + 1) (map (λ b. b.need) (asked_base_from awaited [] (s ∷ map (λ (l : BaseLine). l.step) left)))) (sym is) ∙ h.told

    regrouped : (d : ℕ) → awaited + d ≡ passed + (awaited - passed + d)
    regrouped d = let o = h.order in omega (arith, o)

    rejoined : passed + (awaited - passed) ≡ awaited
    rejoined = let o = h.order in omega (arith, o)

    -- what is left of the application is what stands behind the Frames that are awaited
    behind_awaited : behind_frames awaited (own_asks app) ≡ own_left more less
    behind_awaited = ap (λ n. behind_frames n (own_asks app)) (sym rejoined) ∙ h.behind (awaited - passed) ∙ sym same

    free_is : {b : Bool} → list_any (λ a. nat_lt a.need (merges + 1)) (own_left more less) ≡ b → is_free (own_asks app) (merges + 1) awaited ≡ b
    free_is e = ap (list_any (λ a. nat_lt a.need (merges + 1))) behind_awaited ∙ e

pub passed_all : (app : List AppLine) (dbase : List BaseLine) (waited : ℕ) (rest : List AppLine) (passed awaited merges : ℕ) → IsPassed app dbase [] waited rest passed awaited merges → None ≡ first_free_of app dbase
passed_all app dbase waited rest passed awaited merges h = h.told
