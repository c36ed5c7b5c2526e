-- Turns: those of a seat, those along a longer log, and the Frames among them.
use Rattle.std.proofs.Common.{◌≡◌, ◌≢◌, ℕ, Bool, true, false, cond, ◌&&◌, ◌==◌, List, [], ◌∷◌, ◌++◌, map, refl, ◌∙◌, ap, eq-eqb}
use Rattle.std.proofs.lemmas.Bool.{ne_eqb}
use Rattle.std.proofs.lemmas.List.{append-nil}
use Rattle.std.specs.List.{AllByRecursion, filter}
use Rattle.pf_model.specs.Copies.{put_all}
use Rattle.pf_history.specs.declared.commands.Caller.{Caller}
use Rattle.pf_history.specs.declared.commands.Caller.TheVariants.{App}
use Rattle.pf_history.specs.declared.commands.Command.{Command}
use Rattle.pf_history.specs.declared.commands.Command.TheVariants as command
use Rattle.pf_history.specs.declared.commands.Entry.{Entry}
use Rattle.pf_history.specs.Commands.{is_frame, caller_of}
use Rattle.pf_history.specs.Objects.{FrameState, opening_state, next_state}
use Rattle.pf_history.specs.Logs.{Log, state_after, IsLegalFrom, is_caller, is_by, own}
use Rattle.pf_history.specs.Asks.{Turn, turns_from, is_at}
use Rattle.pf_history.specs.Cuts.{names, Cutting, cuttings}
use Rattle.pf_history.specs.FitLaws.{SeatLaw, found_by, FramesLaw}

pub turns_append : (test : ℕ × Entry → Bool) (s : FrameState) (xs ys : Log) → turns_from test s (xs ++ ys) ≡ turns_from test s xs ++ turns_from test (state_after s xs) ys
turns_append test s [] ys = refl
turns_append test s (x ∷ xs) ys = by (test x) (turns_append test (next_state s x.1.command) xs ys)
  where
    by : (t : Bool) → turns_from test (next_state s x.1.command) (xs ++ ys) ≡ turns_from test (next_state s x.1.command) xs ++ turns_from test (state_after (next_state s x.1.command) xs) ys →
        cond t (record { found = s; made = x.1.command } ∷ turns_from test (next_state s x.1.command) (xs ++ ys)) (turns_from test (next_state s x.1.command) (xs ++ ys))
        ≡ cond t (record { found = s; made = x.1.command } ∷ turns_from test (next_state s x.1.command) xs) (turns_from test (next_state s x.1.command) xs) ++ turns_from test (state_after (next_state s x.1.command) xs) ys
    by true rest = ap (λ ts. record { found = s; made = x.1.command } ∷ ts) rest
    by false rest = rest

-- entries that do not pass the test make no turns
pub turns_none : (test : ℕ × Entry → Bool) (s : FrameState) (xs : Log) → AllByRecursion (λ e. test e ≡ false) xs → turns_from test s xs ≡ []
turns_none test s [] none = refl
turns_none test s (x ∷ xs) none =
    ap (λ t. cond t (record { found = s; made = x.1.command } ∷ turns_from test (next_state s x.1.command) xs) (turns_from test (next_state s x.1.command) xs)) none.0
    ∙ turns_none test (next_state s x.1.command) xs none.1

-- the commands of the turns are the own ones
pub turns_own : (caller : Caller) (s : FrameState) (log : Log) → map (λ t. t.made) (turns_from (is_by caller) s log) ≡ own caller log
turns_own caller s [] = refl
turns_own caller s (x ∷ xs) = by (is_by caller x) (turns_own caller (next_state s x.1.command) xs)
  where
    by : (t : Bool) → map (λ t. t.made) (turns_from (is_by caller) (next_state s x.1.command) xs) ≡ own caller xs →
        map (λ t. t.made) (cond t (record { found = s; made = x.1.command } ∷ turns_from (is_by caller) (next_state s x.1.command) xs) (turns_from (is_by caller) (next_state s x.1.command) xs))
        ≡ map (λ e. e.1.command) (cond t (x ∷ filter (is_by caller) xs) (filter (is_by caller) xs))
    by true rest = ap (λ cs. x.1.command ∷ cs) rest
    by false rest = rest

-- Turns of a seat

-- tests that agree on each entry make the same turns
turns_same : (p q : ℕ × Entry → Bool) (s : FrameState) (log : Log) → AllByRecursion (λ e. p e ≡ q e) log → turns_from p s log ≡ turns_from q s log
turns_same p q s [] same = refl
turns_same p q s (x ∷ xs) same =
    ap (λ ts. cond (p x) (record { found = s; made = x.1.command } ∷ ts) ts) (turns_same p q (next_state s x.1.command) xs same.1)
    ∙ ap (λ t. cond t (record { found = s; made = x.1.command } ∷ turns_from q (next_state s x.1.command) xs) (turns_from q (next_state s x.1.command) xs)) same.0

both_or_none : (a b : Bool) → (b ≡ true → a ≡ true) → (a && b) ≡ b
both_or_none true b h = refl
both_or_none false true h = h refl
both_or_none false false h = refl

at_is_by : (seat : ℕ) (caller : Caller) (log : Log) → AllByRecursion (λ e. is_by caller e ≡ true → e.0 ≡ seat) log → AllByRecursion (λ e. is_at seat caller e ≡ is_by caller e) log
at_is_by seat caller [] h = tt
at_is_by seat caller (e ∷ es) h = (both_or_none (e.0 == seat) (is_by caller e) (λ is. eq-eqb e.0 seat (h.0 is)), at_is_by seat caller es h.1)

none_at : (seat : ℕ) (caller : Caller) (log : Log) → AllByRecursion (λ e. e.0 ≢ seat) log → AllByRecursion (λ e. is_at seat caller e ≡ false) log
none_at seat caller [] h = tt
none_at seat caller (e ∷ es) h = (ap (λ t. t && is_caller caller e.1.caller) (ne_eqb e.0 seat h.0), none_at seat caller es h.1)

pub seat_law : SeatLaw
seat_law channels seat caller log =
    record {
      all = λ only. turns_same (is_at seat caller) (is_by caller) (opening_state channels) log (at_is_by seat caller log only);
      stay = λ more others.
          turns_append (is_at seat caller) (opening_state channels) log more
          ∙ ap (λ ts. turns_from (is_at seat caller) (opening_state channels) log ++ ts) (turns_none (is_at seat caller) (state_after (opening_state channels) log) more (none_at seat caller more others))
          ∙ append-nil (turns_from (is_at seat caller) (opening_state channels) log);
    }

-- Frames among turns

frame_by_app : (caller : Caller) (c : Command) → caller ≡ caller_of c → is_frame c ≡ true → is_caller App caller ≡ true
frame_by_app caller (command.Edit e) same is = absurd (cc)
frame_by_app caller (command.Merge m) same is = absurd (cc)
frame_by_app caller (command.View channel v) same is = absurd (cc)
frame_by_app caller (command.Sync r) same is = absurd (cc)
frame_by_app caller command.Frame same is = ap (is_caller App) same

frames_found : (ids : List ℕ) (s : FrameState) (log : Log) → IsLegalFrom s log → found_by (turns_from (is_by App) s log) ≡ map (λ (c : Cutting). c.found) (cuttings ids s log)
frames_found ids s [] legal = refl
frames_found ids s (e ∷ es) legal =
    by (is_frame e.1.command) refl (is_by App e) refl
    (frames_found [] (next_state s e.1.command) es legal.1)
    (frames_found (put_all (names s e.1.command) ids) (next_state s e.1.command) es legal.1)
  where
    turns : List Turn
    turns = turns_from (is_by App) (next_state s e.1.command) es

    by : (t : Bool) → is_frame e.1.command ≡ t → (u : Bool) → is_by App e ≡ u →
        found_by turns ≡ map (λ (c : Cutting). c.found) (cuttings [] (next_state s e.1.command) es) →
        found_by turns ≡ map (λ (c : Cutting). c.found) (cuttings (put_all (names s e.1.command) ids) (next_state s e.1.command) es) →
        found_by (cond u (record { found = s; made = e.1.command } ∷ turns) turns)
        ≡ map (λ (c : Cutting). c.found) (cond t (record { ids = ids; found = s } ∷ cuttings [] (next_state s e.1.command) es) (cuttings (put_all (names s e.1.command) ids) (next_state s e.1.command) es))
    by true is true own framed passed =
        ap (λ t. map (λ (u : Turn). u.found) (cond t (record { found = s; made = e.1.command } ∷ filter (λ u. is_frame u.made) turns) (filter (λ u. is_frame u.made) turns))) is
        ∙ ap (λ ss. s ∷ ss) framed
    by true is false own framed passed = absurd (let app : is_by App e ≡ true = frame_by_app e.1.caller e.1.command legal.0.caller is in cc)
    by false is true own framed passed =
        ap (λ t. map (λ (u : Turn). u.found) (cond t (record { found = s; made = e.1.command } ∷ filter (λ u. is_frame u.made) turns) (filter (λ u. is_frame u.made) turns))) is
        ∙ passed
    by false is false own framed passed = passed

pub frames_law : FramesLaw
frames_law channels log legal = frames_found [] (opening_state channels) log legal
