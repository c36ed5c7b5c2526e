-- How often a pipe can move.
use Rattle.std.specs.Prelude.{ℕ, ◌+◌, ◌*◌, ◌≤◌, List, length}
use Rattle.pf_model.specs.declared.lines.BaseLine.{BaseLine}
use Rattle.stage_parts.specs.States.{Setup, Seats, Line, PipeState}
use Rattle.stage_parts.specs.Pipes.{PipeFits}

-- how many packets crossed a link, counted where they are sent and where they are received
abbrev pub crossings : Line → ℕ
crossings l = length l.sent + length l.taken

-- the entries made, the lines passed, and the packets sent and received
abbrev pub moved : PipeState → ℕ
moved s = length s.log + s.app.at + s.dbase.at + (crossings s.a + crossings s.b + crossings s.c)

-- a pipe that fits moves at most nine times for each line, and five times besides
abbrev pub MovesLaw : Type 0
MovesLaw =
    (g : Setup) (dbase : List BaseLine) (seats : Seats) (s : PipeState) → PipeFits g dbase seats s →
    s.app.at ≤ length g.lines → s.dbase.at ≤ length dbase → moved s ≤ 9 * (length g.lines + length dbase) + 5
