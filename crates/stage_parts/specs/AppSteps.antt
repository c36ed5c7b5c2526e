-- How the application's part goes on.
use Rattle.std.specs.Prelude.{◌≡◌, ℕ, suc, ◌+◌, ◌<◌, ◌≤◌, true, false, ◌||◌, List, [], ◌∷◌, ◌++◌, map, length, take, Some, None}
use Rattle.std.specs.List.{AllByRecursion}
use Rattle.draw_list.specs.declared.stats.Stats.{Stats}
use Rattle.pf_history.specs.declared.commands.Caller.TheVariants.{App}
use Rattle.pf_history.specs.declared.commands.Command.TheVariants as command
use Rattle.pf_history.specs.declared.commands.Entry.{Entry}
use Rattle.pf_history.specs.Commands.{is_frame}
use Rattle.pf_history.specs.Logs.{Log, state_of}
use Rattle.pf_history.specs.Asks.{Ask, is_at, Meets}
use Rattle.stage_parts.specs.declared.packets.Packet.{Packet}
use Rattle.stage_parts.specs.declared.packets.Packet.TheVariants.{Frame, End}
use Rattle.stage_parts.specs.Loads.{LoadState, IsReady}
use Rattle.stage_parts.specs.Packets.{is_end, loads_in, bytes_in}
use Rattle.stage_parts.specs.Frames.{cut_of_frame, retired_after}
use Rattle.stage_parts.specs.States.{Setup, AppState, still_asked}
use Rattle.stage_parts.specs.Parts.{AppKeeps}
use Rattle.stage_parts.specs.Steps.{next_frame}

-- The entry is a turn of the application at its desk, by which what is still asked before goes over into what is still
-- asked after: it is the first of it, made where it may be.
pub record IsOwnTurn (g : Setup) (seat : ℕ) (log : Log) (e : ℕ × Entry) (before after : List Ask) : Type 0 where
  pub own : is_at seat App e ≡ true
  pub ask : Ask
  pub first : before ≡ ask ∷ after
  pub meets : Meets g.ahead g.merges ask.wanted (state_of g.channels log) e.1.command
  pub waited : ask.need ≤ (state_of g.channels log).merges

-- All that APP keeps, it keeps:
pub record AppGoesOn (g : Setup) (seat : ℕ) (a : AppState) (log : Log) (taken sent : List Packet) (stream : List ℕ) : Type 0 where
  -- while others' entries come
  pub stays : (more : Log) → AllByRecursion (λ e. is_at seat App e ≡ false) more →
      AppKeeps g seat a (log ++ more) taken sent stream
  -- as it sends what it holds
  pub sends : (p : Packet) → a.held ≡ Some p →
      AppKeeps g seat (record a { ended = a.ended || is_end p; held = None }) log taken (sent ++ p ∷ []) stream
  -- as it passes a wait
  pub waits : (at need : ℕ) → a.at ≤ at → still_asked g (record a { at = at; need = need }) ≡ still_asked g a →
      AppKeeps g seat (record a { at = at; need = need }) log taken sent stream
  -- as it makes an edit or sets a view
  pub edits : (e : ℕ × Entry) (at : ℕ) → a.at ≤ at → is_frame e.1.command ≡ false → ((r : ℕ) → retired_after r e.1.command ≡ r) →
      IsOwnTurn g seat log e (still_asked g a) (still_asked g (record a { at = at })) →
      AppKeeps g seat (record a { at = at }) (log ++ e ∷ []) taken sent stream
  -- as it makes a Sync of the pictures written, after which a Frame may be begun
  pub syncs : (e : ℕ × Entry) (at : ℕ) → a.at ≤ at → e.1.command ≡ command.Sync a.written → a.frames < a.written + g.ahead →
      IsOwnTurn g seat log e (still_asked g a) (still_asked g (record a { at = at; synced = true })) →
      AppKeeps g seat (record a { at = at; synced = true }) (log ++ e ∷ []) taken sent stream
  -- as it begins a Frame behind a Sync, and holds its load
  pub begins : (e : ℕ × Entry) (at : ℕ) (l : LoadState) (spare : List LoadState) → suc a.at ≤ at → e.1.command ≡ command.Frame →
      a.held ≡ None → a.closed ≡ false → a.synced ≡ true → length spare + 1 ≡ length a.spare →
      l.cut ≡ cut_of_frame (next_frame g.channels log) → IsReady g.lens l →
      IsOwnTurn g seat log e (still_asked g a)
      (still_asked g (record a { at = at; synced = false; frames = a.frames + 1; held = Some (Frame l); spare = spare })) →
      AppKeeps g seat (record a { at = at; synced = false; frames = a.frames + 1; held = Some (Frame l); spare = spare })
      (log ++ e ∷ []) taken sent stream
  -- as it makes the closing Sync, once all pictures are written, and holds the End
  pub closes : (e : ℕ × Entry) → e.1.command ≡ command.Sync a.written → a.held ≡ None → a.closed ≡ false →
      a.written ≡ a.frames → 0 < g.ahead →
      IsOwnTurn g seat log e (still_asked g a) [] →
      AppKeeps g seat (record a { closed = true; held = Some End }) (log ++ e ∷ []) taken sent stream
  -- as it takes a packet back, while a frame is away, and writes its picture
  pub writes : (p : Packet) (spare : List LoadState) (stats : List Stats) → a.fault ≡ None → length taken < a.frames →
      length spare ≡ length a.spare + length (loads_in (p ∷ [])) → stats ≡ a.stats ++ map (λ l. l.stats) (loads_in (p ∷ [])) →
      AppKeeps g seat (record a { written = a.written + 1; spare = spare; stats = stats }) log (taken ++ p ∷ []) sent (stream ++ bytes_in p)
  -- or so many bytes of it before a fault
  pub fails : (p : Packet) (n : ℕ) (spare : List LoadState) (stats : List Stats) → a.fault ≡ None → length taken < a.frames →
      length spare ≡ length a.spare + length (loads_in (p ∷ [])) → stats ≡ a.stats ++ map (λ l. l.stats) (loads_in (p ∷ [])) →
      AppKeeps g seat (record a { fault = Some n; spare = spare; stats = stats }) log (taken ++ p ∷ []) sent (stream ++ take n (bytes_in p))

abbrev pub AppLaw : Type 0
AppLaw =
    (g : Setup) (seat : ℕ) (a : AppState) (log : Log) (taken sent : List Packet) (stream : List ℕ) →
    AppKeeps g seat a log taken sent stream → AppGoesOn g seat a log taken sent stream
