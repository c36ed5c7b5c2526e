-- What a pipe that fits its play tells of stages that have ended or wait, whatever its seats.
use Rattle.std.proofs.Common.{◌≡◌, ◌⊎◌, ℕ, ◌+◌, ◌*◌, ◌^◌, ◌<◌, ◌≤◌, Bool, true, false, cond, ◌||◌, List, [], ◌∷◌, ◌++◌, map, take, drop, length, Option, Some, None, inl, inr, refl, sym, ap, ◌∙◌, subst, arith}
use Rattle.std.proofs.lemmas.List.{drop_all, take-append-drop}
use Rattle.std.specs.Option.{MatchOption}
use Rattle.std.specs.List.{list_any}
use Rattle.pf_model.specs.declared.lines.AppLine.{AppLine}
use Rattle.pf_model.specs.declared.lines.BaseLine.{BaseLine}
use Rattle.pf_history.specs.Asks.{asked_app, asked_dbase, asked_from}
use Rattle.pf_history.specs.Cuts.{Cutting}
use Rattle.pf_history.specs.Objects.{opening_state}
use Rattle.pf_history.specs.Logs.{state_of}
use Rattle.play_format.specs.Plays.{Script}
use Rattle.play_check.specs.Lines.{app_marks, base_marks, total, Stands}
use Rattle.play_check.specs.Stuck.{IsStuck}
use Rattle.play_check.proofs.Ends.{waiting}
use Rattle.pf_scene.specs.Scenes.{weight_in}
use Rattle.stage_parts.specs.declared.packets.Packet.{Packet}
use Rattle.stage_parts.specs.Packets.{is_end, has_end}
use Rattle.stage_parts.specs.Frames.{frames_of}
use Rattle.stage_parts.specs.States.{Line, Seats, PipeState, still_asked, still_asked_dbase, in_buffer}
use Rattle.stage_parts.specs.Parts.{sent_and_held, end_once}
use Rattle.stage_parts.specs.Gathering.{IsCounted, IsDrained}
use Rattle.stage_parts.proofs.Pushes.{passed_bare}
use Rattle.stage_parts.proofs.Counting.{counting_law}
use Rattle.pipe_plays.specs.Plays.{CanRun, FitsItsPlay, setup_of}
use Rattle.pipe_plays.proofs.Counts.{AreMade, are_made, frames_asked, frames_given, merges_given, frames_left, merges_left, app_total, base_total}
use Rattle.mode_hosts.proofs.Weights.{weights, asks_weight}

pub never_both : (b : Bool) → b ≡ true → b ≡ false → ⊥
never_both b is not = absurd (let clash : true ≡ false = sym is ∙ not in cc)

-- A stage that passes packets on has ended, or has to wait: it holds a packet and the link, which has room for one packet more
-- than frames may be in flight, is full; or it holds none and none came.
abbrev pub HasPassed : ℕ → Bool → Option Packet → (from to : Line) → Type 0
HasPassed ahead ended held from to =
    (ended ≡ true) ⊎ MatchOption held (from.sent ≡ from.taken) (λ _. length to.taken + (ahead + 1) ≤ length to.sent)

-- a stage whose link has room for what it holds, and that waits, holds nothing
pub unheld : (ahead : ℕ) (held : Option Packet) (P : Type 0) (to : Line) →
    ((p : Packet) → held ≡ Some p → length to.sent < length to.taken + (ahead + 1)) →
    MatchOption held P (λ _. length to.taken + (ahead + 1) ≤ length to.sent) → (held ≡ None) × P
unheld ahead None P to room waits = (refl, waits)
unheld ahead (Some p) P to room waits = absurd (let r = room p refl in omega (arith, r, waits))

-- The End

any_end : (ps : List Packet) → has_end ps ≡ list_any (λ t. t) (map is_end ps)
any_end [] = refl
any_end (p ∷ ps) = ap (λ t. is_end p || t) (any_end ps)

ends_alike : (ps qs : List Packet) → map is_end ps ≡ map is_end qs → has_end ps ≡ has_end qs
ends_alike ps qs same = any_end ps ∙ ap (list_any (λ t. t)) same ∙ sym (any_end qs)

one_end : (frames : List Cutting) (closed : Bool) → list_any (λ t. t) (map (λ _. false) frames ++ end_once closed) ≡ closed
one_end [] true = refl
one_end [] false = refl
one_end (c ∷ frames) closed = one_end frames closed

-- CULL and DRAW hold nothing and have nothing to take.
pub record PassersWait (s : PipeState) : Type 0 where
  pub cull_held : s.cull.held ≡ None
  pub draw_held : s.draw.held ≡ None
  pub a : s.a.sent ≡ s.a.taken
  pub b : s.b.sent ≡ s.b.taken

-- The merges made are at least those that the lines passed give, and all that are asked for where all lines are passed.
pub record MergesOfPassed (play : Script) (s : PipeState) : Type 0 where
  pub given : total (base_marks (take s.dbase.at play.dbase)) ≤ (state_of play.channels s.log).merges
  pub all : length play.dbase ≤ s.dbase.at → (state_of play.channels s.log).merges ≡ length (asked_dbase play.dbase)

module _ (play : Script) (ahead : ℕ) (seats : Seats) (s : PipeState) (fits : FitsItsPlay play ahead seats s) where
  pub counted : IsCounted (setup_of play ahead) seats s
  counted = counting_law (setup_of play ahead) play.dbase seats s fits

  -- an application that holds nothing has ended where it has closed
  pub closed_is_ended : s.app.held ≡ None → s.app.ended ≡ s.app.closed
  closed_is_ended bare =
      let app = fits.app in
      app.ended ∙ ap has_end (sym (passed_bare s.a.sent s.app.held bare)) ∙ any_end (sent_and_held s.a.sent s.app.held)
      ∙ ap (list_any (λ t. t)) app.ends ∙ one_end (frames_of play.channels seats.app s.log) s.app.closed

  -- CULL ends behind the application, where it has nothing to do, and DRAW behind CULL
  pub cull_ends : s.app.ended ≡ true → HasPassed ahead s.cull.ended s.cull.held s.a s.b → s.cull.ended ≡ true
  cull_ends app_ended (inl ended) = ended
  cull_ends app_ended (inr waits) =
      let bare = unheld ahead s.cull.held (s.a.sent ≡ s.a.taken) s.b counted.room.b waits in
      let cull = fits.cull in
      cull.ended ∙ ap has_end (sym (passed_bare s.b.sent s.cull.held bare.0))
      ∙ ends_alike (sent_and_held s.b.sent s.cull.held) s.a.taken cull.ends ∙ ap has_end (sym bare.1) ∙ sym fits.app.ended ∙ app_ended

  pub draw_ends : s.cull.ended ≡ true → HasPassed ahead s.draw.ended s.draw.held s.b s.c → s.draw.ended ≡ true
  draw_ends cull_ended (inl ended) = ended
  draw_ends cull_ended (inr waits) =
      let bare = unheld ahead s.draw.held (s.b.sent ≡ s.b.taken) s.c counted.room.c waits in
      fits.draw.ended ∙ ap has_end (sym bare.1) ∙ sym fits.cull.ended ∙ cull_ended

  -- they wait where they do nothing and the application has not ended
  pub passers_wait : s.app.ended ≡ false → HasPassed ahead s.cull.ended s.cull.held s.a s.b →
      HasPassed ahead s.draw.ended s.draw.held s.b s.c → PassersWait s
  passers_wait alive (inl cull_ended) draw = absurd (never_both s.app.ended (counted.ends.cull cull_ended) alive)
  passers_wait alive (inr cull) (inl draw_ended) = absurd (never_both s.app.ended (counted.ends.cull (counted.ends.draw draw_ended)) alive)
  passers_wait alive (inr cull) (inr draw) =
      let cull_bare = unheld ahead s.cull.held (s.a.sent ≡ s.a.taken) s.b counted.room.b cull in
      let draw_bare = unheld ahead s.draw.held (s.b.sent ≡ s.b.taken) s.c counted.room.c draw in
      record { cull_held = cull_bare.0; draw_held = draw_bare.0; a = cull_bare.1; b = draw_bare.1 }

  -- then all pictures were written, but for one that a fault cut short
  pub all_written : s.app.fault ≡ None → PassersWait s → s.app.held ≡ None → s.c.sent ≡ s.c.taken → s.app.written ≡ s.app.frames
  all_written whole passers bare dry =
      let drained : IsDrained s = record {
        app_held = bare;
        cull_held = passers.cull_held;
        draw_held = passers.draw_held;
        a = sym passers.a;
        b = sym passers.b;
        c = sym dry;
      } in
      (counted.drained drained).written whole

  -- The scene can bear the weight of what is still asked for

  pub heavy : weight_in s.log + asks_weight (still_asked_dbase play.dbase s.dbase) ≤ 2 * length play.app + 1 + length play.dbase
  heavy =
      let follows = fits.history.follows in
      weights play.channels ahead (length (asked_dbase play.dbase)) play.app play.dbase s.log (still_asked (setup_of play ahead) s.app)
      (still_asked_dbase play.dbase s.dbase) follows.follows_app follows.follows_dbase

  pub bears_one : CanRun play ahead → weight_in s.log + 1 < 2 ^ 31
  bears_one can = let most = heavy in omega (arith, most, can.is_play.steps)

  -- The counts

  made : AreMade (opening_state play.channels) (state_of play.channels s.log) (asked_app play.app) (asked_dbase play.dbase)
      (still_asked (setup_of play ahead) s.app) (still_asked_dbase play.dbase s.dbase)
  made =
      let follows = fits.history.follows in
      are_made ahead (length (asked_dbase play.dbase)) s.log (opening_state play.channels) (asked_app play.app) (asked_dbase play.dbase)
      (still_asked (setup_of play ahead) s.app) (still_asked_dbase play.dbase s.dbase) follows.follows_app follows.follows_dbase

  -- the frames of an application that has not closed are those that the lines passed give
  pub frames_of_passed : s.app.closed ≡ false → total (app_marks (take s.app.at play.app)) ≤ (state_of play.channels s.log).frames
  frames_of_passed running =
      let a = s.app in
      let asks = asked_from a.need a.synced (drop a.at (map (λ (l : AppLine). l.step) play.app)) in
      let still : still_asked (setup_of play ahead) a ≡ asks = ap (λ t. cond t [] asks) running in
      let many = made in
      let left : frames_asked (still_asked (setup_of play ahead) a) ≡ total (app_marks (drop a.at play.app)) =
      ap frames_asked still ∙ frames_left a.need a.synced a.at play.app in
      let all = frames_given 0 false play.app in
      let parts = app_total a.at play.app in
      omega (arith, many.frames, left, all, parts)

  -- and those of one that has closed are those that all lines give
  pub frames_of_all : s.app.closed ≡ true → total (app_marks play.app) ≤ (state_of play.channels s.log).frames
  frames_of_all closed =
      let a = s.app in
      let asks = asked_from a.need a.synced (drop a.at (map (λ (l : AppLine). l.step) play.app)) in
      let still : frames_asked (still_asked (setup_of play ahead) a) ≡ 0 = ap (λ t. frames_asked (cond t [] asks)) closed in
      let many = made in
      let all = frames_given 0 false play.app in
      omega (arith, many.frames, still, all)

  pub merges_of_passed : MergesOfPassed play s
  merges_of_passed =
      let d = s.dbase in
      let many = made in
      let left = merges_left d.need (in_buffer play.dbase d) d.at play.dbase in
      let all = merges_given 0 [] play.dbase in
      let parts = base_total d.at play.dbase in
      record {
        given = omega (arith, many.merges, left, all, parts);
        all = λ past.
            let none : total (base_marks (drop d.at play.dbase)) ≡ 0 = ap (λ (ls : List BaseLine). total (base_marks ls)) (drop_all d.at play.dbase past) in
            omega (arith, many.merges, left, none);
      }

-- The play is stuck

pub stuck_at : (play : Script) (frames merges : ℕ) (n k : ℕ) →
    total (app_marks (take n play.app)) ≤ frames → total (base_marks (take k play.dbase)) ≤ merges →
    Stands merges (app_marks (drop n play.app)) → Stands frames (base_marks (drop k play.dbase)) →
    0 < length (drop n play.app) + length (drop k play.dbase) → IsStuck play.app play.dbase
stuck_at play frames merges n k many_frames many_merges app_stands base_stands some =
    let stuck =
    waiting (take n play.app) (drop n play.app) (take k play.dbase) (drop k play.dbase) frames merges many_frames many_merges app_stands base_stands some in
    subst (λ (ls : List AppLine). IsStuck ls play.dbase) (take-append-drop n play.app)
    (subst (λ (ls : List BaseLine). IsStuck (take n play.app ++ drop n play.app) ls) (take-append-drop k play.dbase) stuck)
