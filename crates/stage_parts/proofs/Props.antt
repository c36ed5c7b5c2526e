-- Any two proofs that a pipe fits are equal, so that a type may keep one.
use Rattle.std.proofs.Common.{ℕ, List, [], ◌∷◌}
use Rattle.std.proofs.Props.{props}
use Rattle.fx_math.specs.declared.lenses.Lens.{Lens}
use Rattle.pf_model.specs.declared.lines.BaseLine.{BaseLine}
use Rattle.pf_history.specs.declared.commands.Command.{Command}
use Rattle.pf_history.specs.declared.commands.Command.TheVariants as command
use Rattle.pf_history.specs.Objects.{FrameState, next_state}
use Rattle.pf_history.specs.Logs.{Log, CanMake, IsLegalFrom}
use Rattle.pf_history.specs.Asks.{Wanted_set}
use Rattle.pf_history.proofs.Props.{follows_prop, follows_base_prop}
use Rattle.stage_parts.specs.declared.packets.Packet.{Packet}
use Rattle.stage_parts.specs.States.{Setup, Seats, PipeState, AppState, CullState, DrawState, DbaseState}
use Rattle.stage_parts.specs.Parts.{AppKeeps, CullPart, DrawPart, DbaseKeeps}
use Rattle.stage_parts.specs.Pipes.{PipeFits}
use Rattle.stage_parts.specs.Laws.{FactsLaw}

can_make_prop : (s : FrameState) (c : Command) → IsProp (CanMake s c)
can_make_prop s (command.Edit e) = hlevel props
can_make_prop s (command.Merge m) = hlevel props
can_make_prop s (command.View channel v) = hlevel props
can_make_prop s (command.Sync r) = hlevel props
can_make_prop s command.Frame = hlevel props

pub legal_prop : (s : FrameState) (log : Log) → IsProp (IsLegalFrom s log)
legal_prop s [] = hlevel props
legal_prop s (e ∷ es) = hlevel (props, can_make_prop s e.1.command, legal_prop (next_state s e.1.command) es)

pub ruleset pipe_props = (props, Wanted_set, legal_prop, follows_prop, follows_base_prop)

pub pipe_fits_prop : (g : Setup) (dbase : List BaseLine) (seats : Seats) (s : PipeState) → IsProp (PipeFits g dbase seats s)
pipe_fits_prop g dbase seats s = hlevel pipe_props

-- so does each stage's own part, for a type that keeps a stage with its ends and its log

pub app_keeps_prop : (g : Setup) (seat : ℕ) (a : AppState) (log : Log) (taken sent : List Packet) (stream : List ℕ) →
    IsProp (AppKeeps g seat a log taken sent stream)
app_keeps_prop g seat a log taken sent stream = hlevel pipe_props

pub cull_part_prop : (lens : Lens) (c : CullState) (taken sent : List Packet) → IsProp (CullPart lens c taken sent)
cull_part_prop lens c taken sent = hlevel pipe_props

pub draw_part_prop : (lens : Lens) (back : List ℕ) (d : DrawState) (taken sent : List Packet) → IsProp (DrawPart lens back d taken sent)
draw_part_prop lens back d taken sent = hlevel pipe_props

pub dbase_keeps_prop : (lines : List BaseLine) (channels seat : ℕ) (d : DbaseState) (log : Log) →
    IsProp (DbaseKeeps lines channels seat d log)
dbase_keeps_prop lines channels seat d log = hlevel pipe_props

pub facts_law : FactsLaw
facts_law g dbase seats s =
    record {
      fits = pipe_fits_prop g dbase seats s;
      app = app_keeps_prop g seats.app s.app s.log s.c.taken s.a.sent s.stream;
      cull = cull_part_prop g.lens s.cull s.a.taken s.b.sent;
      draw = draw_part_prop g.lens g.back s.draw s.b.taken s.c.sent;
      base = dbase_keeps_prop dbase g.channels seats.dbase s.dbase s.log;
    }
