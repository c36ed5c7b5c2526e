-- What it tells of a core that an event changes nothing: of the stages that pass packets on, and of a Sync.
use Rattle.std.proofs.Common.{◌≡◌, ◌⊎◌, ℕ, ◌+◌, ◌*◌, ◌^◌, ◌<◌, ◌≤◌, Bool, true, false, ◌||◌, List, [], ◌∷◌, ◌++◌, map, length, Option, Some, None, inl, inr, refl, sym, ap, ◌∙◌, arith}
use Rattle.std.specs.Option.{MatchOption}
use Rattle.std.specs.List.{list_any}
use Rattle.pf_history.specs.Cuts.{Cutting}
use Rattle.play_format.specs.Plays.{Script}
use Rattle.pf_scene.specs.Scenes.{weight_in}
use Rattle.pf_scene.specs.Acts.{MaySync}
use Rattle.stage_parts.specs.declared.packets.Packet.{Packet}
use Rattle.stage_parts.specs.Packets.{is_end, has_end}
use Rattle.stage_parts.specs.Frames.{frames_of}
use Rattle.stage_parts.specs.States.{Line, PipeState, still_asked, still_asked_dbase}
use Rattle.stage_parts.specs.Parts.{sent_and_held, end_once}
use Rattle.stage_parts.specs.Gathering.{IsCounted, IsDrained}
use Rattle.stage_parts.proofs.Pushes.{passed_bare}
use Rattle.stage_parts.proofs.Counting.{counting_law}
use Rattle.pipe_core.specs.declared.events.Event.{Event}
use Rattle.pipe_core.specs.declared.events.Event.TheVariants as event
use Rattle.pipe_plays.specs.Plays.{CanRun, setup_of}
use Rattle.pipe_core.specs.Cores.{CoreState, CoreFits, HasEnded, one_seat}
use Rattle.pipe_core.specs.Waits.{IsLineFull, IsLineDry, SyncMustWait, MustWait, IsIdleEvent, shared_of}
use Rattle.pipe_core.proofs.Weights.{weights, asks_weight}

pub never_both : (b : Bool) → b ≡ true → b ≡ false → ⊥
never_both b is not = absurd (let clash : true ≡ false = sym is ∙ not in cc)

-- while the stop mark is not set, an event changes nothing where its stage has ended or has to wait
pub ended_or_waits : (play : Script) (ahead : ℕ) (e : Event) (s : CoreState) → s.stopped ≡ false → IsIdleEvent play ahead e s →
    HasEnded play e s.pipe ⊎ MustWait play ahead e s
ended_or_waits play ahead e s unset (inl (inl ended)) = inl ended
ended_or_waits play ahead e s unset (inl (inr set)) = absurd (never_both s.stopped set unset)
ended_or_waits play ahead e s unset (inr waits) = inr waits

pub counted : (play : Script) (ahead : ℕ) (s : CoreState) → CoreFits play ahead s → IsCounted (setup_of play ahead) one_seat s.pipe
counted play ahead s fits = counting_law (setup_of play ahead) play.dbase one_seat s.pipe fits.pipe

-- a stage whose link has room for what it holds, and that waits, holds nothing
pub unheld : (ahead : ℕ) (held : Option Packet) (P : Type 0) (to : Line) →
    ((p : Packet) → held ≡ Some p → length to.sent < length to.taken + (ahead + 1)) →
    MatchOption held P (λ _. IsLineFull ahead to) → (held ≡ None) × P
unheld ahead None P to room waits = (refl, waits)
unheld ahead (Some p) P to room waits = absurd (let r = room p refl in omega (arith, r, waits))

-- The End

any_end : (ps : List Packet) → has_end ps ≡ list_any (λ t. t) (map is_end ps)
any_end [] = refl
any_end (p ∷ ps) = ap (λ t. is_end p || t) (any_end ps)

ends_alike : (ps qs : List Packet) → map is_end ps ≡ map is_end qs → has_end ps ≡ has_end qs
ends_alike ps qs same = any_end ps ∙ ap (list_any (λ t. t)) same ∙ sym (any_end qs)

one_end : (frames : List Cutting) (closed : Bool) → list_any (λ t. t) (map (λ _. false) frames ++ end_once closed) ≡ closed
one_end [] true = refl
one_end [] false = refl
one_end (c ∷ frames) closed = one_end frames closed

-- an application that holds nothing has ended where it has closed
pub closed_is_ended : (play : Script) (ahead : ℕ) (s : CoreState) → CoreFits play ahead s → s.pipe.app.held ≡ None →
    s.pipe.app.ended ≡ s.pipe.app.closed
closed_is_ended play ahead s fits bare =
    let app = fits.pipe.app in
    app.ended ∙ ap has_end (sym (passed_bare s.pipe.a.sent s.pipe.app.held bare)) ∙ any_end (sent_and_held s.pipe.a.sent s.pipe.app.held)
    ∙ ap (list_any (λ t. t)) app.ends ∙ one_end (frames_of play.channels 0 s.pipe.log) s.pipe.app.closed

-- the cull ends behind the application, where it has nothing to do
pub cull_ends : (play : Script) (ahead : ℕ) (s : CoreState) → CoreFits play ahead s → s.pipe.app.ended ≡ true →
    HasEnded play event.Cull s.pipe ⊎ MustWait play ahead event.Cull s → s.pipe.cull.ended ≡ true
cull_ends play ahead s fits app_ended (inl ended) = ended
cull_ends play ahead s fits app_ended (inr waits) =
    let bare = unheld ahead s.pipe.cull.held (IsLineDry s.pipe.a) s.pipe.b (counted play ahead s fits).room.b waits in
    let cull = fits.pipe.cull in
    cull.ended ∙ ap has_end (sym (passed_bare s.pipe.b.sent s.pipe.cull.held bare.0))
    ∙ ends_alike (sent_and_held s.pipe.b.sent s.pipe.cull.held) s.pipe.a.taken cull.ends ∙ ap has_end (sym bare.1) ∙ sym fits.pipe.app.ended ∙ app_ended

pub draw_ends : (play : Script) (ahead : ℕ) (s : CoreState) → CoreFits play ahead s → s.pipe.cull.ended ≡ true →
    HasEnded play event.Draw s.pipe ⊎ MustWait play ahead event.Draw s → s.pipe.draw.ended ≡ true
draw_ends play ahead s fits cull_ended (inl ended) = ended
draw_ends play ahead s fits cull_ended (inr waits) =
    let bare = unheld ahead s.pipe.draw.held (IsLineDry s.pipe.b) s.pipe.c (counted play ahead s fits).room.c waits in
    fits.pipe.draw.ended ∙ ap has_end (sym bare.1) ∙ sym fits.pipe.cull.ended ∙ cull_ended

-- CULL and DRAW hold nothing and have nothing to take.
pub record PassersWait (s : PipeState) : Type 0 where
  pub cull_held : s.cull.held ≡ None
  pub draw_held : s.draw.held ≡ None
  pub a : IsLineDry s.a
  pub b : IsLineDry s.b

-- they do where they change nothing and the application has not ended
pub passers_wait : (play : Script) (ahead : ℕ) (s : CoreState) → CoreFits play ahead s → s.pipe.app.ended ≡ false →
    HasEnded play event.Cull s.pipe ⊎ MustWait play ahead event.Cull s →
    HasEnded play event.Draw s.pipe ⊎ MustWait play ahead event.Draw s → PassersWait s.pipe
passers_wait play ahead s fits alive (inl cull_ended) draw =
    absurd (never_both s.pipe.app.ended ((counted play ahead s fits).ends.cull cull_ended) alive)
passers_wait play ahead s fits alive (inr cull) (inl draw_ended) =
    let ends = (counted play ahead s fits).ends in
    absurd (never_both s.pipe.app.ended (ends.cull (ends.draw draw_ended)) alive)
passers_wait play ahead s fits alive (inr cull) (inr draw) =
    let room = (counted play ahead s fits).room in
    let cull_bare = unheld ahead s.pipe.cull.held (IsLineDry s.pipe.a) s.pipe.b room.b cull in
    let draw_bare = unheld ahead s.pipe.draw.held (IsLineDry s.pipe.b) s.pipe.c room.c draw in
    record { cull_held = cull_bare.0; draw_held = draw_bare.0; a = cull_bare.1; b = draw_bare.1 }

-- The scene can bear the weight

pub heavy : (play : Script) (ahead : ℕ) (s : CoreState) → CanRun play ahead → CoreFits play ahead s →
    weight_in s.pipe.log + asks_weight (still_asked_dbase play.dbase s.pipe.dbase) ≤ 2 * length play.app + 1 + length play.dbase
heavy play ahead s can fits =
    let follows = fits.pipe.history.follows in
    weights play.channels ahead _ play.app play.dbase s.pipe.log (still_asked (setup_of play ahead) s.pipe.app)
    (still_asked_dbase play.dbase s.pipe.dbase) follows.follows_app follows.follows_dbase

pub bears_one : (play : Script) (ahead : ℕ) (s : CoreState) → CanRun play ahead → CoreFits play ahead s → weight_in s.pipe.log + 1 < 2 ^ 31
bears_one play ahead s can fits = let most = heavy play ahead s can fits in omega (arith, most, can.is_play.steps)

-- A Sync

-- while the stop mark is not set, no picture was cut short
pub whole : (play : Script) (ahead : ℕ) (s : CoreState) → CoreFits play ahead s → s.stopped ≡ false → s.pipe.app.fault ≡ None
whole play ahead s fits unset = by s.pipe.app.fault refl
  where
    by : (f : Option ℕ) → s.pipe.app.fault ≡ f → f ≡ None
    by None is = refl
    by (Some n) is = absurd (never_both s.stopped (fits.marked n is) unset)

pub all_written : (play : Script) (ahead : ℕ) (s : CoreState) → CoreFits play ahead s → s.stopped ≡ false → PassersWait s.pipe →
    s.pipe.app.held ≡ None → IsLineDry s.pipe.c → s.pipe.app.written ≡ s.pipe.app.frames
all_written play ahead s fits unset passers bare dry =
    let drained : IsDrained s.pipe = record {
      app_held = bare;
      cull_held = passers.cull_held;
      draw_held = passers.draw_held;
      a = sym passers.a;
      b = sym passers.b;
      c = sym dry;
    } in
    ((counted play ahead s fits).drained drained).written (whole play ahead s fits unset)

pub may_sync : (play : Script) (ahead : ℕ) (s : CoreState) → CanRun play ahead → CoreFits play ahead s → MaySync (shared_of play ahead s) s.pipe.app.written
may_sync play ahead s can fits =
    let state = (counted play ahead s fits).state in
    let stream = fits.pipe.stream in
    record {
      back = omega (arith, state.retired, stream.retired);
      begun = omega (arith, state.frames, stream.all, stream.begun);
      light = bears_one play ahead s can fits;
    }

pub sync_goes : (play : Script) (ahead : ℕ) (s : CoreState) → CanRun play ahead → CoreFits play ahead s → s.stopped ≡ false →
    PassersWait s.pipe → s.pipe.app.held ≡ None → SyncMustWait (shared_of play ahead s) s.pipe → ⊥
sync_goes play ahead s can fits unset passers bare (inl (dry, behind)) =
    let all = all_written play ahead s fits unset passers bare dry in
    omega (arith, all, behind, can.few_ahead.0)
sync_goes play ahead s can fits unset passers bare (inr barred) = barred (may_sync play ahead s can fits)
