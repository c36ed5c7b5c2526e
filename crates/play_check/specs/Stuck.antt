-- Plays that could never end.
use Rattle.std.specs.Prelude.{◌≡◌, ℕ, ◌≤◌, ◌⊎◌, List, [], ◌∷◌}
use Rattle.pf_model.specs.declared.lines.AppLine.{AppLine}
use Rattle.pf_model.specs.declared.lines.BaseLine.{BaseLine}
use Rattle.pf_history.specs.declared.commands.Caller.{Caller}
use Rattle.play_check.specs.Lines.{Given, Gives, Waits, Mark, app_marks, base_marks}
use Rattle.play_check.specs.Orders.{Standing, IsOrder}

-- A `wait` or an `await`: its line, and how many Merges or Frames it waits for.
pub record Pause : Type 0 where
  pub line : ℕ
  pub count : ℕ

-- a line before the pauses behind it
abbrev pub pause_before : ℕ → Given → List Pause → List Pause
pause_before line (Waits n) pauses = record { line = line; count = n } ∷ pauses
pause_before line (Gives n) pauses = pauses

-- the pauses of a section
abbrev pub pauses_of : List Mark → List Pause
pauses_of [] = []
pauses_of (m ∷ ms) = pause_before m.line m.given (pauses_of ms)

-- A pause can be passed: some order comes to as many Merges, or Frames, as it waits for.
pub record CanPass (app : List AppLine) (dbase : List BaseLine) (reached : Standing → ℕ) (pause : Pause) : Type 0 where
  pub order : List Caller
  pub end : Standing
  pub is_order : IsOrder app dbase order end
  pub enough : pause.count ≤ reached end

-- a `wait n` can be passed: some order has n Merges
abbrev pub CanPassWait : List AppLine → List BaseLine → Pause → Type 0
CanPassWait app dbase pause = CanPass app dbase (λ s. s.merges) pause

-- an `await k` can be passed: some order has k Frames
abbrev pub CanPassAwait : List AppLine → List BaseLine → Pause → Type 0
CanPassAwait app dbase pause = CanPass app dbase (λ s. s.frames) pause

-- some of these pauses cannot be passed
abbrev pub IsSomeBarred : (Pause → Type 0) → List Pause → Type 0
IsSomeBarred Passable [] = ⊥
IsSomeBarred Passable (p ∷ ps) = (¬ Passable p) ⊎ IsSomeBarred Passable ps

-- A play is stuck: some wait or await can be passed by no order.
abbrev pub IsStuck : List AppLine → List BaseLine → Type 0
IsStuck app dbase =
    IsSomeBarred (CanPassWait app dbase) (pauses_of (app_marks app))
    ⊎ IsSomeBarred (CanPassAwait app dbase) (pauses_of (base_marks dbase))

-- the line of the first of these pauses that cannot be passed, and 0 where each can
abbrev pub IsFirstBarred : (Pause → Type 0) → List Pause → ℕ → Type 0
IsFirstBarred Passable [] line = line ≡ 0
IsFirstBarred Passable (p ∷ ps) line =
    (Passable p × IsFirstBarred Passable ps line) ⊎ ((¬ Passable p) × (line ≡ p.line))

-- The two lines of a stuck play: that of the first `wait` and that of the first `await` that cannot be passed.
pub record AreStuckLines (app : List AppLine) (dbase : List BaseLine) (wait_line await_line : ℕ) : Type 0 where
  pub wait : IsFirstBarred (CanPassWait app dbase) (pauses_of (app_marks app)) wait_line
  pub await : IsFirstBarred (CanPassAwait app dbase) (pauses_of (base_marks dbase)) await_line
