-- What contracts see of the application's stage.
use Rattle.std.specs.Prelude.{◌≡◌, ℕ, ◌≤◌, true, false, Bool, ◌||◌, List, [], ◌∷◌, ◌++◌, map, drop, length, Option, None, Some, is_some}
use Rattle.std.specs.List.{AllByRecursion}
use Rattle.fx_math.specs.declared.lenses.Lens.{Lens}
use Rattle.pf_model.specs.declared.lines.AppLine.{AppLine}
use Rattle.pf_model.specs.Copies.{UpdateList}
use Rattle.pf_history.specs.declared.commands.Caller.TheVariants.{App}
use Rattle.pf_history.specs.Commands.{is_frame, is_merge}
use Rattle.pf_history.specs.Logs.{Log, how_many}
use Rattle.pf_history.specs.Asks.{is_at}
use Rattle.stage_parts.specs.declared.packets.Packet.{Packet}
use Rattle.stage_parts.specs.Loads.{LoadState}
use Rattle.stage_parts.specs.Packets.{is_end}
use Rattle.stage_parts.specs.States.{Setup, AppState}
use Rattle.stage_parts.specs.DbaseSteps.{opening_app}
use Rattle.stage_parts.specs.Grows.{synced_by}
use Rattle.frame_stages.specs.declared.application.Application.{Application}

-- The application's stage: the lines that are left, what else it is given, its state, how many frames' numbers were told
-- (the oldest ones of those in its state), and the update lists that go home with the next Sync, in the order in which they
-- came.
pub record AppWork : Type 0 where
  pub rest : List AppLine
  pub merges : ℕ
  pub lens : Lens
  pub back : List ℕ
  pub ahead : ℕ
  pub channels : ℕ
  pub state : AppState
  pub told : ℕ
  pub home : List UpdateList

-- the End is held
abbrev pub holds_end : Option Packet → Bool
holds_end None = false
holds_end (Some p) = is_end p

-- what contracts see of its parts: it has closed where the End is held or was sent
abbrev pub work_of : Application → AppWork
work_of a =
    record {
      rest = a.script.rest;
      merges = a.merges;
      lens = a.lens;
      back = a.back;
      ahead = a.flight.ahead;
      channels = a.channels;
      state = record {
        at = a.script.at;
        need = a.script.need;
        synced = a.synced;
        closed = a.ended || holds_end a.held;
        ended = a.ended;
        frames = a.flight.frames;
        written = a.flight.written;
        fault = a.flight.fault;
        held = a.held;
        spare = a.flight.spare;
        stats = a.flight.stats;
      };
      told = a.flight.told;
      home = a.flight.home;
    }

-- the same, where this packet is held
abbrev pub holding : Packet → AppWork → AppWork
holding p w = record w { state = record w.state { held = Some p; closed = w.state.ended || is_end p } }

-- the same, with one load more in hand
abbrev pub with_load : LoadState → AppWork → AppWork
with_load l w = record w { state = record w.state { spare = w.state.spare ++ l ∷ [] } }

-- What the stage was given so far: of the lines those are left that it did not pass, behind which a Sync stands since the
-- last Frame as the lines alone say.
pub record IsGiven (g : Setup) (w : AppWork) : Type 0 where
  pub within : w.state.at ≤ length g.lines
  pub rest : w.rest ≡ drop w.state.at g.lines
  pub merges : w.merges ≡ g.merges
  pub lens : w.lens ≡ g.lens
  pub back : w.back ≡ g.back
  pub ahead : w.ahead ≡ g.ahead
  pub channels : w.channels ≡ g.channels
  pub stands : synced_by w.state.synced (map (λ l. l.step) w.rest) ≡ synced_by false (map (λ l. l.step) g.lines)

-- the stage before its first step, with these loads in hand
abbrev pub opening_work : Setup → List LoadState → AppWork
opening_work g loads =
    record {
      rest = g.lines;
      merges = g.merges;
      lens = g.lens;
      back = g.back;
      ahead = g.ahead;
      channels = g.channels;
      state = opening_app loads;
      told = 0;
      home = [];
    }

-- the same, with more lines and of a play with so many merges
abbrev pub more_work : List AppLine → ℕ → AppWork → AppWork
more_work more merges w = record w { rest = w.rest ++ more; merges = merges }

-- it is over: the End was sent, or a fault cut a picture short
abbrev pub is_done : AppState → Bool
is_done a = a.ended || is_some a.fault

-- it passed a line for each frame that it began
abbrev pub PassesEnough : AppState → Type 0
PassesEnough a = a.frames ≤ a.at

-- how many merges stand in a log
abbrev pub merges_in : Log → ℕ
merges_in log = how_many is_merge log
