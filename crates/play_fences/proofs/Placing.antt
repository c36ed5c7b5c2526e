-- In a fenced play each merge stands right behind the Frame that it awaits.
use Rattle.std.proofs.Common.{◌≡◌, ℕ, suc, zero, ◌+◌, ◌<◌, ◌≤◌, nat_lt, nat_le, Bool, true, false, cond, not, ◌||◌, List, [], ◌∷◌, ◌++◌, map, length, drop, slice_get, Some, None, refl, sym, ap, subst, ◌∙◌, arith, append_assoc}
use Rattle.std.proofs.lemmas.List.{length-append}
use Rattle.std.proofs.lemmas.Bool.{leb-true, leb-false, ltb-false}
use Rattle.std.specs.List.{AllByRecursion, filter, list_any}
use Rattle.pf_model.specs.declared.lines.AppLine.{AppLine}
use Rattle.pf_model.specs.declared.lines.BaseLine.{BaseLine}
use Rattle.pf_history.specs.declared.commands.Caller.{Caller}
use Rattle.pf_history.specs.declared.commands.Caller.TheVariants.{App, Dbase}
use Rattle.pf_history.specs.declared.commands.Command.{Command}
use Rattle.pf_history.specs.declared.commands.Command.TheVariants as command
use Rattle.pf_history.specs.declared.commands.Merge.{Merge}
use Rattle.pf_history.specs.Commands.{caller_of, is_frame}
use Rattle.pf_history.specs.Objects.{FrameState, opening_state, next_state}
use Rattle.pf_history.specs.Logs.{Log, IsLegal, IsLegalFrom, is_by, is_caller}
use Rattle.pf_history.specs.Asks.{Ask, BaseAsk, Wanted, WantEdit, WantView, WantSync, WantFrame, WantClose, Turn, Meets, Follows, FollowsBase, turns_from, asked_app, asked_dbase}
use Rattle.pf_history.specs.Fits.{FitsWholly}
use Rattle.pf_history.proofs.Fitting.{fit_law}
use Rattle.pf_history.proofs.Lists.{all_drop_at}
use Rattle.play_fences.specs.Fences.{is_own, wants_frame, own_asks, awaited_frames, behind_frames, is_free, first_free, IsFenced}
use Rattle.play_fences.specs.Unsynced.{is_sync, places_from, merge_places}
use Rattle.play_fences.proofs.Bare.{commands_of}

-- how many stand up to the k-th Frame and with it, and all where there are fewer Frames
abbrev pub up_to : ℕ → List Ask → ℕ
up_to zero asks = 0
up_to (suc k) [] = 0
up_to (suc k) (a ∷ asks) = suc (cond (wants_frame a.wanted) (up_to k asks) (up_to (suc k) asks))

abbrev pub frames_in : List Ask → ℕ
frames_in [] = 0
frames_in (a ∷ asks) = cond (wants_frame a.wanted) 1 0 + frames_in asks

behind_drop : (k : ℕ) (asks : List Ask) → behind_frames k asks ≡ drop (up_to k asks) asks
behind_drop zero asks = refl
behind_drop (suc k) [] = refl
behind_drop (suc k) (a ∷ asks) = by (wants_frame a.wanted) (behind_drop k asks) (behind_drop (suc k) asks)
  where
    by : (t : Bool) → behind_frames k asks ≡ drop (up_to k asks) asks → behind_frames (suc k) asks ≡ drop (up_to (suc k) asks) asks →
        cond t (behind_frames k asks) (behind_frames (suc k) asks) ≡ drop (cond t (up_to k asks) (up_to (suc k) asks)) asks
    by true one more = one
    by false one more = more

-- the first k Frames stand in a front that has so many
up_to_front : (k : ℕ) (front rest : List Ask) → k ≤ frames_in front → up_to k (front ++ rest) ≤ length front
up_to_front zero front rest few = omega arith
up_to_front (suc k) [] rest few = absurd (omega (arith, few))
up_to_front (suc k) (a ∷ front) rest few = by (wants_frame a.wanted) (up_to_front k front rest) (up_to_front (suc k) front rest) few
  where
    by : (t : Bool) → (k ≤ frames_in front → up_to k (front ++ rest) ≤ length front) → (suc k ≤ frames_in front → up_to (suc k) (front ++ rest) ≤ length front) →
        suc k ≤ cond t 1 0 + frames_in front → suc (cond t (up_to k (front ++ rest)) (up_to (suc k) (front ++ rest))) ≤ suc (length front)
    by true one more few = let l = one (omega (arith, few)) in omega (arith, l)
    by false one more few = let l = more (omega (arith, few)) in omega (arith, l)

frames_more : (front : List Ask) (a : Ask) → frames_in (front ++ a ∷ []) ≡ frames_in front + cond (wants_frame a.wanted) 1 0
frames_more [] a = omega arith
frames_more (b ∷ front) a = let rest = frames_more front a in omega (arith, rest)

get_at : (front : List Ask) (a : Ask) (rest : List Ask) → slice_get (front ++ a ∷ rest) (length front) ≡ Some a
get_at [] a rest = refl
get_at (b ∷ front) a rest = get_at front a rest

-- Nothing that is behind a fence waits for fewer merges.

none_free : (test : Ask → Bool) (asks : List Ask) → list_any test asks ≡ false → AllByRecursion (λ a. test a ≡ false) asks
none_free test [] h = tt
none_free test (a ∷ asks) h = by (test a) refl (none_free test asks) h
  where
    by : (t : Bool) → test a ≡ t → (list_any test asks ≡ false → AllByRecursion (λ a. test a ≡ false) asks) → (t || list_any test asks) ≡ false → (test a ≡ false) × AllByRecursion (λ a. test a ≡ false) asks
    by true e rest h = absurd (cc)
    by false e rest h = (e, rest h)

record IsFence (own : List Ask) (j k : ℕ) (ks : List ℕ) : Type 0 where
  pub first : AllByRecursion (λ a. nat_lt a.need j ≡ false) (drop (up_to k own) own)
  pub rest : first_free own (j + 1) ks ≡ None

fence : (own : List Ask) (j k : ℕ) (ks : List ℕ) → first_free own j (k ∷ ks) ≡ None → IsFence own j k ks
fence own j k ks h = by (is_free own j k) refl h
  where
    by : (t : Bool) → is_free own j k ≡ t → cond t (Some j) (first_free own (j + 1) ks) ≡ None → IsFence own j k ks
    by true e h = absurd (cc)
    by false e h =
        record {
          first = subst (AllByRecursion (λ a. nat_lt a.need j ≡ false)) (behind_drop k own) (none_free (λ a. nat_lt a.need j) (behind_frames k own) e);
          rest = h;
        }

-- Each merge of these stands behind no fewer commands.
abbrev StandsBehind : List Ask → ℕ → List ℕ → Type 0
StandsBehind own n ks = AllByRecursion (λ k. n ≤ up_to k own) ks

-- a command that waits for fewer merges stands in front of the Frames that these merges await
one_more : (own : List Ask) (n : ℕ) (a : Ask) (j : ℕ) (ks : List ℕ) → slice_get own n ≡ Some a → a.need < j → first_free own j ks ≡ None → StandsBehind own n ks → StandsBehind own (n + 1) ks
one_more own n a j [] at early free h = tt
one_more own n a j (k ∷ ks) at early free h =
    let f = fence own j k ks free in
    (by f.first (nat_le (up_to k own) n) refl, one_more own n a (j + 1) ks at (omega arith) f.rest h.1)
  where
    by : AllByRecursion (λ a. nat_lt a.need j ≡ false) (drop (up_to k own) own) → (t : Bool) → nat_le (up_to k own) n ≡ t → n + 1 ≤ up_to k own
    by late true e =
        let waits : nat_lt a.need j ≡ false = all_drop_at (λ (a : Ask). nat_lt a.need j ≡ false) (up_to k own) own late n a at (leb-true (up_to k own) n e) in
        let l : j ≤ a.need = ltb-false a.need j waits in
        absurd (omega (arith, l, early))
    by late false e = let l : n < up_to k own = leb-false (up_to k own) n e in omega (arith, l)

stands_zero : (own : List Ask) (ks : List ℕ) → StandsBehind own 0 ks
stands_zero own [] = tt
stands_zero own (k ∷ ks) = (omega arith, stands_zero own ks)

-- The places along a log

abbrev pub own_in : List Ask → List Ask
own_in asks = filter (λ a. is_own a.wanted) asks

abbrev pub needs_of : List BaseAsk → List ℕ
needs_of bases = map (λ b. b.need) bases

-- Where a log has come to: these own commands stand in front, and these asks are left.
record IsThere (own front : List Ask) (asks : List Ask) (bases : List BaseAsk) (s : FrameState) : Type 0 where
  pub whole : own ≡ front ++ own_in asks
  pub frames : s.frames ≡ frames_in front
  pub fenced : first_free own (s.merges + 1) (needs_of bases) ≡ None
  pub behind : StandsBehind own (length front) (needs_of bases)

-- one more command of the application's own
there_own : (own front : List Ask) (a : Ask) (asks : List Ask) (bases : List BaseAsk) (s t : FrameState) → is_own a.wanted ≡ true → a.need ≤ s.merges → t.frames ≡ s.frames + cond (wants_frame a.wanted) 1 0 → t.merges ≡ s.merges → IsThere own front (a ∷ asks) bases s → IsThere own (front ++ a ∷ []) asks bases t
there_own own front a asks bases s t is_own_ask waited frames merges h =
    let split : own ≡ front ++ a ∷ own_in asks = h.whole ∙ ap (λ u. front ++ cond u (a ∷ own_in asks) (own_in asks)) is_own_ask in
    let at : slice_get own (length front) ≡ Some a = subst (λ (xs : List Ask). slice_get xs (length front) ≡ Some a) (sym split) (get_at front a (own_in asks)) in
    let early : a.need < s.merges + 1 = omega (arith, waited) in
    record {
      whole = split ∙ sym (append_assoc front (a ∷ []) (own_in asks));
      frames = frames ∙ ap (λ n. n + cond (wants_frame a.wanted) 1 0) h.frames ∙ sym (frames_more front a);
      fenced = subst (λ (m : ℕ). first_free own (m + 1) (needs_of bases) ≡ None) (sym merges) h.fenced;
      behind = subst (λ (n : ℕ). StandsBehind own n (needs_of bases)) (sym (length-append front (a ∷ []))) (one_more own (length front) a (s.merges + 1) (needs_of bases) at early h.fenced h.behind);
    }

-- what a command is that meets an ask
pub meets_own : (ahead merges : ℕ) (w : Wanted) (s : FrameState) (c : Command) → Meets ahead merges w s c → (is_own w ≡ not (is_sync c)) × (wants_frame w ≡ is_frame c)
meets_own ahead merges (WantEdit e) s c h = subst (λ (x : Command). (true ≡ not (is_sync x)) × (false ≡ is_frame x)) (sym h) (refl, refl)
meets_own ahead merges (WantView channel v) s c h = subst (λ (x : Command). (true ≡ not (is_sync x)) × (false ≡ is_frame x)) (sym h) (refl, refl)
meets_own ahead merges WantSync s (command.Sync r) h = (refl, refl)
meets_own ahead merges WantSync s _ h = absurd h
meets_own ahead merges WantFrame s command.Frame h = (refl, refl)
meets_own ahead merges WantFrame s _ h = absurd h
meets_own ahead merges WantClose s (command.Sync r) h = (refl, refl)
meets_own ahead merges WantClose s _ h = absurd h

abbrev Placed : List Ask → List Ask → List BaseAsk → List Command → Type 0
Placed own front bases cs = places_from (length front) cs ≡ map (λ k. up_to k own) (needs_of bases)

placed : (ahead merges : ℕ) (own front : List Ask) (s : FrameState) (log : Log) (asks : List Ask) (bases : List BaseAsk) → IsLegalFrom s log → Follows ahead merges asks (turns_from (is_by App) s log) [] → FollowsBase bases (turns_from (is_by Dbase) s log) [] → IsThere own front asks bases s → Placed own front bases (commands_of log)
placed ahead merges own front s [] asks bases legal h g there = sym (ap (λ bs. map (λ k. up_to k own) (needs_of bs)) g)
placed ahead merges own front s (e ∷ es) asks bases legal h g there =
    by e.1.command
    (λ front' asks' bases' h' g' there'. placed ahead merges own front' (next_state s e.1.command) es asks' bases' legal.1 h' g' there')
    (subst (λ (k : Caller). Follows ahead merges asks (cond (is_caller App k) (turn e.1.command ∷ app_turns e.1.command) (app_turns e.1.command)) []) legal.0.caller h)
    (subst (λ (k : Caller). FollowsBase bases (cond (is_caller Dbase k) (turn e.1.command ∷ base_turns e.1.command) (base_turns e.1.command)) []) legal.0.caller g)
  where
    turn : Command → Turn
    turn c = record { found = s; made = c }

    app_turns : Command → List Turn
    app_turns c = turns_from (is_by App) (next_state s c) es

    base_turns : Command → List Turn
    base_turns c = turns_from (is_by Dbase) (next_state s c) es

    More : Command → Type 0
    More c = (front' asks' : List Ask) (bases' : List BaseAsk) → Follows ahead merges asks' (app_turns c) [] → FollowsBase bases' (base_turns c) [] → IsThere own front' asks' bases' (next_state s c) → Placed own front' bases' (commands_of es)

    own_case : (c : Command) → is_sync c ≡ false → (next_state s c).frames ≡ s.frames + cond (is_frame c) 1 0 → (next_state s c).merges ≡ s.merges → More c → (asks : List Ask) → Follows ahead merges asks (turn c ∷ app_turns c) [] → FollowsBase bases (base_turns c) [] → IsThere own front asks bases s →
        places_from (length front + 1) (commands_of es) ≡ map (λ k. up_to k own) (needs_of bases)
    own_case c is frames merges_stay more [] h g there = absurd h
    own_case c is frames merges_stay more (a ∷ asks) h g there =
        let m = meets_own ahead merges a.wanted s c h.0 in
        let is_own_ask : is_own a.wanted ≡ true = m.0 ∙ ap not is in
        let counted : (next_state s c).frames ≡ s.frames + cond (wants_frame a.wanted) 1 0 = frames ∙ ap (λ b. s.frames + cond b 1 0) (sym m.1) in
        subst (λ (n : ℕ). places_from n (commands_of es) ≡ map (λ k. up_to k own) (needs_of bases)) (length-append front (a ∷ []))
        (more (front ++ a ∷ []) asks bases h.2 g (there_own own front a asks bases s (next_state s c) is_own_ask h.1 counted merges_stay there))

    sync_case : (r : ℕ) → More (command.Sync r) → (asks : List Ask) → Follows ahead merges asks (turn (command.Sync r) ∷ app_turns (command.Sync r)) [] → FollowsBase bases (base_turns (command.Sync r)) [] → IsThere own front asks bases s → Placed own front bases (commands_of es)
    sync_case r more [] h g there = absurd h
    sync_case r more (a ∷ asks) h g there =
        let m = meets_own ahead merges a.wanted s (command.Sync r) h.0 in
        more front asks bases h.2 g
        (record {
          whole = there.whole ∙ ap (λ b. front ++ cond b (a ∷ own_in asks) (own_in asks)) m.0;
          frames = there.frames;
          fenced = there.fenced;
          behind = there.behind;
        })

    merge_case : (m : Merge) → More (command.Merge m) → (bases : List BaseAsk) → Follows ahead merges asks (app_turns (command.Merge m)) [] → FollowsBase bases (turn (command.Merge m) ∷ base_turns (command.Merge m)) [] → IsThere own front asks bases s → Placed own front bases (command.Merge m ∷ commands_of es)
    merge_case m more [] h g there = absurd g
    merge_case m more (b ∷ bases) h g there =
        let f = fence own (s.merges + 1) b.need (needs_of bases) there.fenced in
        let awaited : b.need ≤ frames_in front = omega (arith, g.1, there.frames) in
        let most : up_to b.need own ≤ length front = subst (λ (xs : List Ask). up_to b.need xs ≤ length front) (sym there.whole) (up_to_front b.need front (own_in asks) awaited) in
        let here : length front ≡ up_to b.need own = omega (arith, most, there.behind.0) in
        let rest = more front asks bases h g.2 (record { whole = there.whole; frames = there.frames; fenced = f.rest; behind = there.behind.1 }) in
        λ i. here i ∷ rest i

    by : (c : Command) → More c → Follows ahead merges asks (cond (is_caller App (caller_of c)) (turn c ∷ app_turns c) (app_turns c)) [] → FollowsBase bases (cond (is_caller Dbase (caller_of c)) (turn c ∷ base_turns c) (base_turns c)) [] → Placed own front bases (c ∷ commands_of es)
    by (command.Edit e) more h g = own_case (command.Edit e) refl (omega arith) refl more asks h g there
    by (command.Merge m) more h g = merge_case m more bases h g there
    by (command.View channel v) more h g = own_case (command.View channel v) refl (omega arith) refl more asks h g there
    by (command.Sync r) more h g = sync_case r more asks h g there
    by command.Frame more h g = own_case command.Frame refl refl refl more asks h g there

-- the places of the merges in each whole history of a fenced play
pub fenced_places : (channels ahead : ℕ) (app : List AppLine) (dbase : List BaseLine) (log : Log) → IsFenced app dbase → IsLegal channels log → FitsWholly channels ahead app dbase log → merge_places log ≡ map (λ k. up_to k (own_asks app)) (awaited_frames dbase)
fenced_places channels ahead app dbase log fenced legal wholly =
    let follows = (fit_law channels ahead app dbase log).follows_wholly wholly in
    placed ahead (length (asked_dbase dbase)) (own_asks app) [] (opening_state channels) log (asked_app app) (asked_dbase dbase) legal follows.follows_app follows.follows_dbase
    (record { whole = refl; frames = refl; fenced = fenced; behind = stands_zero (own_asks app) (awaited_frames dbase) })
