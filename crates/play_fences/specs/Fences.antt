-- Free merges: those that a play lets stand at more than one place among the application's own commands.
use Rattle.std.specs.Prelude.{◌≡◌, ℕ, suc, zero, ◌+◌, Bool, true, false, nat_lt, if◌then◌else◌, List, [], ◌∷◌, map, Option, Some, None}
use Rattle.std.specs.List.{filter, list_any}
use Rattle.pf_model.specs.declared.lines.AppLine.{AppLine}
use Rattle.pf_model.specs.declared.lines.BaseLine.{BaseLine}
use Rattle.pf_history.specs.Asks.{Ask, Wanted, WantEdit, WantView, WantSync, WantFrame, WantClose, asked_app, asked_dbase}

-- whether a command is one of the application's own: an edit, a view or a Frame, and no Sync
abbrev pub is_own : Wanted → Bool
is_own (WantEdit e) = true
is_own (WantView channel v) = true
is_own WantFrame = true
is_own WantSync = false
is_own WantClose = false

-- whether a Frame is asked for
abbrev pub wants_frame : Wanted → Bool
wants_frame WantFrame = true
wants_frame _ = false

-- the application's own commands, in order, each with how many merges the waits before it ask for
abbrev pub own_asks : List AppLine → List Ask
own_asks app = filter (λ a. is_own a.wanted) (asked_app app)

-- how many frames the awaits before each merge ask for
abbrev pub awaited_frames : List BaseLine → List ℕ
awaited_frames dbase = map (λ b. b.need) (asked_dbase dbase)

-- what is asked for behind the first so many Frames
abbrev pub behind_frames : ℕ → List Ask → List Ask
behind_frames zero asks = asks
behind_frames (suc k) [] = []
behind_frames (suc k) (a ∷ asks) = if wants_frame a.wanted then behind_frames k asks else behind_frames (suc k) asks

-- Merge j, counted from 1, which awaits k frames, is free: behind the k-th Frame stands a command of the application's
-- own that does not wait for the merge, so that it may come before the merge or after it.
abbrev pub is_free : List Ask → (j k : ℕ) → Bool
is_free own j k = list_any (λ a. nat_lt a.need j) (behind_frames k own)

-- the first free one of merges that are numbered from j on and await so many frames each
abbrev pub first_free : List Ask → ℕ → List ℕ → Option ℕ
first_free own j [] = None
first_free own j (k ∷ ks) = if is_free own j k then Some j else first_free own (j + 1) ks

-- the first free merge of a play's two sections, counted from 1
abbrev pub first_free_of : List AppLine → List BaseLine → Option ℕ
first_free_of app dbase = first_free (own_asks app) 1 (awaited_frames dbase)

-- no merge is free
abbrev pub IsFenced : List AppLine → List BaseLine → Type 0
IsFenced app dbase = first_free_of app dbase ≡ None
