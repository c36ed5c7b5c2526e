-- Commands that come one by one.
use Rattle.std.proofs.Common.{◌≡◌, ◌⊎◌, ℕ, ◌≤◌, Bool, false, List, [], ◌∷◌, ◌++◌, map, length, Option, Some, None, Result, Ok, Err, OnOk, OnErr, inl, inr, refl, sym, ap, ◌∙◌, subst, append_assoc, arith}
use Rattle.std.proofs.lemmas.List.{append-nil, length-map, nil_from_length}
use Rattle.pf_history.specs.declared.commands.Command.{Command}
use Rattle.pf_history.specs.Cuts.{Cutting}
use Rattle.pf_history.specs.Logs.{Log}
use Rattle.play_format.specs.Plays.{Script}
use Rattle.play_check.specs.Stuck.{IsStuck}
use Rattle.stage_parts.specs.declared.packets.Packet.{Packet}
use Rattle.stage_parts.specs.declared.answers.StageError.{StageError}
use Rattle.stage_parts.specs.Frames.{frames_of}
use Rattle.stage_parts.specs.Gathering.{IsDrained}
use Rattle.stage_parts.specs.Packets.{bytes_in, is_end}
use Rattle.stage_parts.specs.Parts.{sent_and_held, end_once}
use Rattle.stage_parts.specs.Pictures.{streamed}
use Rattle.stage_parts.proofs.Counting.{are_many, held_some}
use Rattle.pipe_plays.specs.Plays.{CanRun, setup_of}
use Rattle.pipe_plays.specs.Orders.{IsMade, commands_of}
use Rattle.pipe_plays.specs.CaughtUp.{CaughtUpLaw}
use Rattle.pipe_core.specs.Cores.{one_seat}
use Rattle.pipe_core.specs.Pipes.{PipeWork, core_of, PipeKeeps, IsWritten}
use Rattle.pipe_core.specs.Settling.{IsSettledOpen, Settles}
use Rattle.pipe_core.specs.declared.commands.PipeCommand.{PipeCommand}
use Rattle.pipe_core.specs.Makes.{IsReady, HasMade, HasFailed, with_command, with_commands, command_makes, commands_make, EachMade, LiveRunsLaw}
use Rattle.pipe_core.proofs.Sides.{whole}
use Rattle.pipe_core.proofs.StillOpen.{begins_open}
use Rattle.pipe_core.proofs.Giving.{ok_as}
use Rattle.pipe_core.proofs.Openings.{nothing_written, written_more}

-- One command

-- a settled pipe of a play that is not stuck may be given the next command
settled_ready : CaughtUpLaw → (play : Script) (ahead : ℕ) (p : PipeWork) → CanRun play ahead → (IsStuck play.app play.dbase → ⊥) →
    PipeKeeps play ahead p → IsSettledOpen play p → IsReady play ahead p
settled_ready law play ahead p can free keeps settled = by settled.settled.done
  where
    by : ((length play.app ≤ p.app.state.at) × (length play.dbase ≤ p.dbase.at)) ⊎ IsStuck play.app play.dbase → IsReady play ahead p
    by (inl passed) =
        record {
          keeps = keeps;
          going = settled.going;
          unset = settled.unset;
          caught_up = law play ahead one_seat (core_of play p).pipe can keeps.core.pipe
              (record {
                going = settled.going;
                whole = whole play ahead (core_of play p) keeps.core settled.unset;
                app = passed.0;
                dbase = passed.1;
                drained = settled.settled.drained;
              });
        }
    by (inr stuck) = absurd (free stuck)

-- what was written behind the giving, which left the application's state and the pictures that came back, stands behind the
-- stream before it
wrote_behind : (play grown : Script) (p r q : PipeWork) (a b : Option (List ℕ)) → r.app.state ≡ p.app.state → r.c ≡ p.c →
    IsWritten a b (core_of grown r) (core_of grown q) → IsWritten a b (core_of play p) (core_of grown q)
wrote_behind play grown p r q a b app back wrote =
    let stream : (core_of grown r).pipe.stream ≡ (core_of play p).pipe.stream =
    λ i. streamed ((app i).written) ((app i).fault) (map bytes_in ((back i).line.taken)) in
    record {
      more = wrote.more;
      stream = wrote.stream ∙ ap (λ (bytes : List ℕ). bytes ++ wrote.more) stream;
      wrote = wrote.wrote;
    }

-- a pipe that was given more of its play, which left the scene, the application's state and the pictures that came back,
-- and then settled
pub made_more : {A : Type 0} → CaughtUpLaw → (play grown : Script) (ahead : ℕ) (commands : List Command) (result : Result A StageError)
    (p r q : PipeWork) (a b : Option (List ℕ)) → CanRun grown ahead → (IsStuck grown.app grown.dbase → ⊥) → IsReady play ahead p →
    r.scene ≡ p.scene → r.app.state ≡ p.app.state → r.c ≡ p.c → Settles grown ahead result r q a b →
    ((more : Log) → IsMade grown.channels ahead grown.app grown.dbase (p.scene.shared.log ++ more) →
    commands_of (p.scene.shared.log ++ more) ≡ commands_of p.scene.shared.log ++ commands) →
    OnOk result (HasMade play grown ahead commands p q a b)
made_more law play grown ahead commands result p r q a b can free ready scene app back settles order =
    ok_as result (IsSettledOpen grown q) (HasMade play grown ahead commands p q a b)
    (λ settled.
    let now = settled_ready law grown ahead q can free settles.keeps settled in
    let more = settles.grows.more in
    let log : q.scene.shared.log ≡ p.scene.shared.log ++ more =
    settles.grows.is ∙ ap (λ s. s.shared.log ++ more) scene in
    record {
      ready = now;
      made = ap commands_of log ∙ order more (subst (IsMade grown.channels ahead grown.app grown.dbase) log now.caught_up.made);
      wrote = wrote_behind play grown p r q a b app back settles.wrote;
    })
    (settles.settled (ap (λ s. s.closed) app ∙ ready.going) (ap (λ s. s.shared.stopped) scene ∙ ready.unset))

-- after an error behind the giving the pipe has stopped
pub failed_behind : {A : Type 0} (play grown : Script) (ahead : ℕ) (result : Result A StageError) (p r q : PipeWork) (a b : Option (List ℕ)) →
    r.app.state ≡ p.app.state → r.c ≡ p.c → Settles grown ahead result r q a b → OnErr result (HasFailed play grown ahead p q a b)
failed_behind play grown ahead (Ok x) p r q a b app back settles = tt
failed_behind play grown ahead (Err error) p r q a b app back settles =
    inr (record {
      keeps = settles.keeps;
      stopped = settles.stops;
      wrote = wrote_behind play grown p r q a b app back settles.wrote;
    })

-- Runs

pub none_made : (play : Script) (ahead : ℕ) (p : PipeWork) (bytes : Option (List ℕ)) → IsReady play ahead p → HasMade play play ahead [] p p bytes bytes
none_made play ahead p bytes ready =
    record {
      ready = ready;
      made = sym (append-nil (commands_of p.scene.shared.log));
      wrote = nothing_written bytes (core_of play p) (core_of play p) refl;
    }

runs : (play : Script) (ahead : ℕ) (cs : List PipeCommand) (p q : PipeWork) (bytes bytes' : Option (List ℕ)) → IsReady play ahead p →
    EachMade play ahead cs p q bytes bytes' → HasMade play (with_commands play cs) ahead (commands_make play cs) p q bytes bytes'
runs play ahead [] p q bytes bytes' ready each =
    subst (λ (x : PipeWork). HasMade play play ahead [] p x bytes bytes') (sym each.0)
    (subst (λ (x : Option (List ℕ)). HasMade play play ahead [] p p bytes x) (sym each.1) (none_made play ahead p bytes ready))
runs play ahead (c ∷ cs) p q bytes bytes' ready each =
    let r = each.0 in
    let first = each.2 in
    let rest = runs (with_command play c) ahead cs r q each.1 bytes' first.ready each.3 in
    let later = commands_make (with_command play c) cs in
    record {
      ready = rest.ready;
      made = rest.made ∙ ap (λ (l : List Command). l ++ later) first.made
          ∙ append_assoc (commands_of p.scene.shared.log) (command_makes play c) later;
      wrote =
          written_more bytes each.1 bytes' (core_of play p) (core_of (with_command play c) r) (core_of (with_commands (with_command play c) cs) q)
          first.wrote rest.wrote;
    }

-- Before the first command

none_held : (sent : List Packet) (held : Option Packet) → length (sent_and_held sent held) ≤ 0 → (held ≡ None) × (sent ≡ [])
none_held [] None none = (refl, refl)
none_held [] (Some p) none = absurd (omega arith)
none_held (x ∷ sent) held none = absurd (omega (arith, none))

-- no packet was sent before the first entry
nothing_sent : (play : Script) (ahead : ℕ) (p : PipeWork) → PipeKeeps play ahead p → p.scene.shared.log ≡ [] → p.app.state.closed ≡ false →
    IsDrained (core_of play p).pipe
nothing_sent play ahead p keeps log going =
    let s = (core_of play p).pipe in
    let many = are_many (setup_of play ahead) play.dbase one_seat s keeps.core.pipe in
    let begun : p.app.state.frames ≡ 0 =
    keeps.core.pipe.app.frames ∙ ap (λ (l : Log). length (frames_of play.channels 0 l)) log in
    let ends : length (sent_and_held s.a.sent s.app.held) ≡ 0 =
    sym (length-map (sent_and_held s.a.sent s.app.held) is_end) ∙ ap length keeps.core.pipe.app.ends
    ∙ ap (λ (l : Log). length (map (λ (_ : Cutting). false) (frames_of play.channels 0 l) ++ end_once p.app.state.closed)) log
    ∙ ap (λ (t : Bool). length (end_once t)) going in
    let a = none_held s.a.sent s.app.held (omega (arith, ends)) in
    let a_taken : s.a.taken ≡ [] = nil_from_length s.a.taken (let some = held_some s.a.sent s.app.held in omega (arith, ends, some, many.a_taken)) in
    let a_none = ap (λ (ps : List Packet). length ps) a_taken in
    let b = none_held s.b.sent s.cull.held (omega (arith, many.b, a_none)) in
    let b_none = ap (λ (ps : List Packet). length ps) b.1 in
    let b_taken : s.b.taken ≡ [] = nil_from_length s.b.taken (omega (arith, b_none, many.b_taken)) in
    let c = none_held s.c.sent s.draw.held (omega (arith, many.c, many.loads, begun)) in
    let c_none = ap (λ (ps : List Packet). length ps) c.1 in
    let c_taken : s.c.taken ≡ [] = nil_from_length s.c.taken (omega (arith, c_none, many.c_taken)) in
    record {
      app_held = a.0;
      cull_held = b.0;
      draw_held = c.0;
      a = a_taken ∙ sym a.1;
      b = b_taken ∙ sym b.1;
      c = c_taken ∙ sym c.1;
    }

begins : CaughtUpLaw → (play : Script) (ahead : ℕ) (p : PipeWork) → CanRun play ahead → PipeKeeps play ahead p → p.scene.shared.stopped ≡ false →
    p.scene.shared.log ≡ [] → play.app ≡ [] → play.dbase ≡ [] → IsReady play ahead p
begins law play ahead p can keeps unset log app dbase =
    let going = begins_open play ahead (core_of play p) keeps.core log in
    let app_lines = ap (λ ls. length ls) app in
    let dbase_lines = ap (λ ls. length ls) dbase in
    record {
      keeps = keeps;
      going = going;
      unset = unset;
      caught_up = law play ahead one_seat (core_of play p).pipe can keeps.core.pipe
          (record {
            going = going;
            whole = whole play ahead (core_of play p) keeps.core unset;
            app = omega (arith, app_lines);
            dbase = omega (arith, dbase_lines);
            drained = nothing_sent play ahead p keeps log going;
          });
    }

pub live_runs : CaughtUpLaw → LiveRunsLaw
live_runs law play ahead = record { runs = runs play ahead; begins = begins law play ahead }
