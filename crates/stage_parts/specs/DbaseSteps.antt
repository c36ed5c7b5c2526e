-- How what DBASE keeps goes on, and what the next line of a section asks.
use Rattle.std.specs.Prelude.{◌≡◌, ℕ, ◌+◌, ◌≤◌, true, false, List, [], ◌∷◌, ◌++◌, map, drop, length, slice_get, Some, None}
use Rattle.std.specs.List.{AllByRecursion}
use Rattle.pf_model.specs.declared.lines.AppLine.{AppLine}
use Rattle.pf_model.specs.declared.lines.BaseLine.{BaseLine}
use Rattle.pf_model.specs.Graphs.{empty_scene}
use Rattle.pf_model.specs.Merges.{BufferState, empty_buffer, buffer_after}
use Rattle.pf_history.specs.declared.commands.Caller.TheVariants.{Dbase}
use Rattle.pf_history.specs.declared.commands.Command.TheVariants as command
use Rattle.pf_history.specs.declared.commands.Entry.{Entry}
use Rattle.pf_history.specs.Logs.{Log, state_of}
use Rattle.pf_history.specs.Asks.{BaseAsk, asked_dbase, asked_from, asked_base_from, is_at}
use Rattle.stage_parts.specs.Loads.{LoadState}
use Rattle.stage_parts.specs.States.{Setup, AppState, CullState, DrawState, DbaseState, Line, Seats, PipeState, still_asked, still_asked_dbase, in_buffer, since_step}
use Rattle.stage_parts.specs.Parts.{DbaseKeeps}
use Rattle.stage_parts.specs.Gathering.{IsGathered}

-- All that DBASE keeps, it keeps: while others' entries come, as it passes a line of a buffer or an await, and as it makes
-- a merge.
pub record DbaseGoesOn (lines : List BaseLine) (channels seat : ℕ) (d : DbaseState) (log : Log) : Type 0 where
  pub stays : (more : Log) → AllByRecursion (λ e. is_at seat Dbase e ≡ false) more → DbaseKeeps lines channels seat d (log ++ more)
  pub passes : (next : DbaseState) → still_asked_dbase lines next ≡ still_asked_dbase lines d →
      next.buffer ≡ buffer_after (in_buffer lines next) → DbaseKeeps lines channels seat next log
  pub merges : (e : ℕ × Entry) (ask : BaseAsk) (next : DbaseState) → is_at seat Dbase e ≡ true →
      still_asked_dbase lines d ≡ ask ∷ still_asked_dbase lines next → e.1.command ≡ command.Merge ask.merge →
      ask.need ≤ (state_of channels log).frames → next.buffer ≡ buffer_after (in_buffer lines next) →
      DbaseKeeps lines channels seat next (log ++ e ∷ [])

abbrev pub DbaseLaw : Type 0
DbaseLaw =
    (lines : List BaseLine) (channels seat : ℕ) (d : DbaseState) (log : Log) →
    DbaseKeeps lines channels seat d log → DbaseGoesOn lines channels seat d log

-- What the next line of DBASE's section asks, and what it does to the open buffer.
pub record IsNextLine (lines : List BaseLine) (d : DbaseState) (l : BaseLine) : Type 0 where
  pub asks : still_asked_dbase lines d
      ≡ asked_base_from d.need (in_buffer lines d) (l.step ∷ drop (d.at + 1) (map (λ x. x.step) lines))
  pub buffer : (need : ℕ) (buffer : BufferState) →
      in_buffer lines (record { at = d.at + 1; need = need; buffer = buffer }) ≡ since_step (in_buffer lines d) l.step

-- The next line of each section, by which its asks and its buffer go on; behind the last one the application closes and
-- DBASE is over.
pub record LinesGoOn (g : Setup) (a : AppState) (lines : List BaseLine) (d : DbaseState) : Type 0 where
  pub app : (l : AppLine) → a.closed ≡ false → slice_get g.lines a.at ≡ Some l →
      still_asked g a ≡ asked_from a.need a.synced (l.step ∷ drop (a.at + 1) (map (λ x. x.step) g.lines))
  pub app_end : a.closed ≡ false → length g.lines ≤ a.at → still_asked g a ≡ asked_from a.need a.synced []
  pub dbase : (l : BaseLine) → slice_get lines d.at ≡ Some l → IsNextLine lines d l
  pub dbase_end : length lines ≤ d.at → still_asked_dbase lines d ≡ []

abbrev pub LinesLaw : Type 0
LinesLaw = (g : Setup) (a : AppState) (lines : List BaseLine) (d : DbaseState) → LinesGoOn g a lines d

-- The states before the first step

abbrev pub opening_app : List LoadState → AppState
opening_app loads =
    record {
      at = 0;
      need = 0;
      synced = false;
      closed = false;
      ended = false;
      frames = 0;
      written = 0;
      fault = None;
      held = None;
      spare = loads;
      stats = [];
    }

abbrev pub opening_cull : CullState
opening_cull = record { nodes = empty_scene.nodes; ended = false; held = None }

abbrev pub opening_draw : DrawState
opening_draw = record { ended = false; held = None }

abbrev pub opening_dbase : DbaseState
opening_dbase = record { at = 0; need = 0; buffer = empty_buffer }

abbrev pub empty_line : Line
empty_line = record { sent = []; taken = [] }

-- the pipe before the first step, with these loads in APP's hand
abbrev pub opening_pipe : List LoadState → PipeState
opening_pipe loads =
    record {
      log = [];
      app = opening_app loads;
      cull = opening_cull;
      draw = opening_draw;
      dbase = opening_dbase;
      a = empty_line;
      b = empty_line;
      c = empty_line;
      stream = [];
    }

-- before the first step the pipe's parts are gathered, where APP has as many loads as frames may be in flight
abbrev pub OpeningLaw : Type 0
OpeningLaw =
    (g : Setup) (dbase : List BaseLine) (seats : Seats) (loads : List LoadState) → g.merges ≡ length (asked_dbase dbase) →
    length loads ≡ g.ahead → IsGathered g dbase seats (opening_pipe loads)
