-- What came home, and what the seats keep, make a pipe that fits its play.
use Rattle.std.proofs.Common.{◌≡◌, ℕ, ◌≤◌, zero, suc, true, false, List, [], ◌∷◌, take, length, Option, refl, sym, ap, ◌∙◌, subst, arith}
use Rattle.std.specs.List.{AllByRecursion}
use Rattle.std.specs.Io.KnownBytes.{append_known}
use Rattle.fx_math.specs.declared.lenses.Lens.{Lens}
use Rattle.atomic_table.specs.Seated.{TableId}
use Rattle.seat_lock.specs.Log.{of, Found}
use Rattle.seat_lock.proofs.Logs.{of_found}
use Rattle.pf_model.specs.declared.lines.BaseLine.{BaseLine}
use Rattle.pf_history.specs.declared.commands.Caller.TheVariants.{App, Dbase}
use Rattle.pf_history.specs.declared.commands.Entry.{Entry}
use Rattle.pf_history.specs.Objects.{opening_state}
use Rattle.pf_history.specs.Logs.{Log, is_caller, is_by}
use Rattle.pf_history.specs.Asks.{asked_dbase}
use Rattle.play_format.specs.Plays.{Script}
use Rattle.stage_parts.specs.declared.packets.Packet.{Packet}
use Rattle.stage_parts.specs.Packets.{LinkPart}
use Rattle.stage_parts.specs.Frames.{AreOwnFrames}
use Rattle.stage_parts.specs.Laws.{HasEditsInRange}
use Rattle.stage_parts.specs.Loads.{Each}
use Rattle.stage_parts.specs.States.{Setup, AppState}
use Rattle.stage_parts.specs.Parts.{AppPart, AppKeeps, CullPart, DrawPart, DbaseKeeps}
use Rattle.stage_parts.specs.Pipes.{PipeFits}
use Rattle.stage_parts.proofs.Numbers.{not_own, own_front, own_by_number, each_number}
use Rattle.stage_parts.proofs.Gathering.{gathering_law}
use Rattle.frame_stages.specs.DbaseWorks.{DbaseWork, DbaseHolds, dbase_state}
use Rattle.frame_stages.specs.CullWorks.{cull_state}
use Rattle.frame_stages.proofs.AppLogs.{keeps_found}
use Rattle.frame_stages.proofs.DbaseSection.{holds_on}
use Rattle.stream_stages.specs.CullParts.{StreamCullPart}
use Rattle.stream_stages.specs.DrawParts.{StreamDrawPart}
use Rattle.stream_stages.specs.WholeFrames.{WholeFrames, AreWhole, WholeFramesLaw}
use Rattle.pipe_plays.specs.Plays.{setup_of, CanRun}
use Rattle.mode_hosts.specs.Works.{AnyCullWork, WholeCull, PiecesCull, AnyDrawWork, WholeDraw, PiecesDraw, cull_links, draw_links, cull_lens, draw_lens, draw_back, gone_over, came_over, KeepsCull, KeepsDraw}
use Rattle.mode_hosts.specs.Sites.{AreApp, AreBase}
use Rattle.mode_hosts.specs.Gathering.{own_seats, SitesOf, Sites, AreAtDesks, AppSeatKeeps, DbaseSeatKeeps, SeatsKeep, CameHome, IsPipeOf}
use Rattle.mode_hosts.specs.AnySeats.{AnySites, AnySeatsKeep, pipe_around, HavePipe}
use Rattle.mode_hosts.proofs.InRange.{edits_in_range}

-- Entries by their numbers

-- of no entries each is as it may be
of_none : (P : Entry → Type 0) (es : List Entry) → es ≡ [] → AllByRecursion P es
of_none P es is = subst (AllByRecursion P) (sym is) tt

all_are : (P Q : Entry → Type 0) (es : List Entry) → ((e : Entry) → P e → Q e) → AllByRecursion P es → AllByRecursion Q es
all_are P Q [] f all = tt
all_are P Q (e ∷ es) f all = (f e all.0, all_are P Q es f all.1)

-- where all Frames of a log are a seat's, they are in what a desk had seen of it
pub own_found : (seat k : ℕ) (seen log : Log) → Found k seen log → AreOwnFrames seat log → AreOwnFrames seat seen
own_found seat k seen log (rest, is, none) own = own_front seat seen rest (subst (AreOwnFrames seat) is own)

every : (P : Entry → Type 0) (es : List Entry) → ((e : Entry) → P e) → AllByRecursion P es
every P [] f = tt
every P (e ∷ es) f = (f e, every P es f)

-- Whose entries stand in a log that came home

not_app : (e : Entry) (k : ℕ) → e.caller ≡ Dbase → is_caller App e.caller ≡ true → k ≡ 0
not_app e k is app = absurd (let clash : false ≡ true = sym (ap (is_caller App) is) ∙ app in cc)

not_base : (e : Entry) (k : ℕ) → e.caller ≡ App → is_caller Dbase e.caller ≡ true → k ≡ 3
not_base e k is base = absurd (let clash : false ≡ true = sym (ap (is_caller Dbase) is) ∙ base in cc)

-- what holds of a number's entries in the log that a desk has seen holds of them in the closed log
closed_too : (P : Entry → Type 0) (k : ℕ) (seen log : Log) → Found k seen log → AllByRecursion P (of k seen) → AllByRecursion P (of k log)
closed_too P k seen log found all = subst (AllByRecursion P) (sym (of_found k seen log found)) all

-- What the seats keep of their own entries.
record AreOwn {X Y : Type 0} (s : SitesOf X Y) : Type 0 where
  app : AreApp (of 0 s.app.place.seen)
  cull : of 1 s.cull.place.seen ≡ []
  draw : of 2 s.draw.place.seen ≡ []
  dbase : AreBase (of 3 s.dbase.place.seen)

-- each entry of the application has its number
app_numbers : {X Y : Type 0} (s : SitesOf X Y) (log : Log) → CameHome s log → AreOwn s → (k : ℕ) →
    AllByRecursion (λ e. is_caller App e.caller ≡ true → k ≡ 0) (of k log)
app_numbers s log home own zero = every (λ e. is_caller App e.caller ≡ true → 0 ≡ 0) (of 0 log) (λ e is. refl)
app_numbers s log home own (suc zero) =
    of_none (λ e. is_caller App e.caller ≡ true → 1 ≡ 0) (of 1 log) (of_found 1 s.cull.place.seen log home.cull ∙ own.cull)
app_numbers s log home own (suc (suc zero)) =
    of_none (λ e. is_caller App e.caller ≡ true → 2 ≡ 0) (of 2 log) (of_found 2 s.draw.place.seen log home.draw ∙ own.draw)
app_numbers s log home own (suc (suc (suc zero))) =
    closed_too (λ e. is_caller App e.caller ≡ true → 3 ≡ 0) 3 s.dbase.place.seen log home.dbase
    (all_are (λ e. e.caller ≡ Dbase) (λ e. is_caller App e.caller ≡ true → 3 ≡ 0) (of 3 s.dbase.place.seen) (λ e is app. not_app e 3 is app) own.dbase)
app_numbers s log home own (suc (suc (suc (suc k)))) =
    let n : ℕ = suc (suc (suc (suc k))) in
    of_none (λ e. is_caller App e.caller ≡ true → n ≡ 0) (of n log) (home.within n (omega arith))

-- each entry of the database process has its number
dbase_numbers : {X Y : Type 0} (s : SitesOf X Y) (log : Log) → CameHome s log → AreOwn s → (k : ℕ) →
    AllByRecursion (λ e. is_caller Dbase e.caller ≡ true → k ≡ 3) (of k log)
dbase_numbers s log home own zero =
    closed_too (λ e. is_caller Dbase e.caller ≡ true → 0 ≡ 3) 0 s.app.place.seen log home.app
    (all_are (λ e. e.caller ≡ App) (λ e. is_caller Dbase e.caller ≡ true → 0 ≡ 3) (of 0 s.app.place.seen) (λ e is base. not_base e 0 is base) own.app)
dbase_numbers s log home own (suc zero) =
    of_none (λ e. is_caller Dbase e.caller ≡ true → 1 ≡ 3) (of 1 log) (of_found 1 s.cull.place.seen log home.cull ∙ own.cull)
dbase_numbers s log home own (suc (suc zero)) =
    of_none (λ e. is_caller Dbase e.caller ≡ true → 2 ≡ 3) (of 2 log) (of_found 2 s.draw.place.seen log home.draw ∙ own.draw)
dbase_numbers s log home own (suc (suc (suc zero))) = every (λ e. is_caller Dbase e.caller ≡ true → 3 ≡ 3) (of 3 log) (λ e is. refl)
dbase_numbers s log home own (suc (suc (suc (suc k)))) =
    let n : ℕ = suc (suc (suc (suc k))) in
    of_none (λ e. is_caller Dbase e.caller ≡ true → n ≡ 3) (of n log) (home.within n (omega arith))

-- all Frames of a log that came home are those of APP's desk
own_at_home : {X Y : Type 0} (s : SitesOf X Y) (log : Log) → CameHome s log → AreOwn s → AreOwnFrames 0 log
own_at_home s log home own =
    own_by_number 0 (opening_state 1) log (home.legal 1) (each_number (λ e. is_by App e ≡ true → e.0 ≡ 0) log (app_numbers s log home own))

-- The callers

-- what DBASE holds to in the log that it has seen it holds to in the closed log
held_at_home : (lines : List BaseLine) (channels : ℕ) (w : DbaseWork) (seen log : Log) → Found 3 seen log → DbaseHolds lines channels 3 w seen →
    DbaseHolds lines channels 3 w log
held_at_home lines channels w seen log (rest, is, none) holds =
    subst (DbaseHolds lines channels 3 w) (sym is) (holds_on lines channels 3 w seen rest holds (not_own 3 Dbase rest none))

-- What the two callers keep of the closed log, and what the frame sink was given: all Frames are APP's, and the entries of each
-- have its number.
pub record CallersKeep {X Y : Type 0} (g : Setup) (dbase : List BaseLine) (s : SitesOf X Y) (log : Log) (bytes bytes' : Option (List ℕ)) :
    Type 0 where
  pub stream : List ℕ
  pub wrote : bytes' ≡ append_known bytes stream
  pub app_entries : Each (λ e. is_by App e ≡ true → e.0 ≡ 0) log
  pub base_entries : Each (λ e. is_by Dbase e ≡ true → e.0 ≡ 3) log
  pub frames : AreOwnFrames 0 log
  pub app : AppKeeps g 0 s.app.work.state log s.app.taken s.app.sent stream
  pub base : DbaseKeeps dbase g.channels 3 (dbase_state dbase s.dbase.work) log

-- the desks have their numbers
numbers_own : {X Y : Type 0} (lock : TableId) (s : SitesOf X Y) → AreAtDesks lock s → AreApp (of s.app.place.number s.app.place.seen) →
    of s.cull.place.number s.cull.place.seen ≡ [] → of s.draw.place.number s.draw.place.seen ≡ [] →
    AreBase (of s.dbase.place.number s.dbase.place.seen) → AreOwn s
numbers_own lock s desks app cull draw dbase =
    record {
      app = subst (λ (k : ℕ). AreApp (of k s.app.place.seen)) desks.app.number app;
      cull = subst (λ (k : ℕ). of k s.cull.place.seen ≡ []) desks.cull.number cull;
      draw = subst (λ (k : ℕ). of k s.draw.place.seen ≡ []) desks.draw.number draw;
      dbase = subst (λ (k : ℕ). AreBase (of k s.dbase.place.seen)) desks.dbase.number dbase;
    }

callers_keep : {X Y : Type 0} (g : Setup) (dbase : List BaseLine) (lock : TableId) (s : SitesOf X Y) (log : Log) (bytes bytes' : Option (List ℕ)) →
    AreAtDesks lock s → AppSeatKeeps g s.app bytes bytes' → DbaseSeatKeeps dbase g.channels s.dbase → AreOwn s → CameHome s log →
    CallersKeep g dbase s log bytes bytes'
callers_keep g dbase lock s log bytes bytes' desks app_seat base_seat own home =
    let closed = own_at_home s log home own in
    let frames = own_found 0 0 s.app.place.seen log home.app closed in
    let wrote = app_seat.part (subst (λ (k : ℕ). AreOwnFrames k s.app.place.seen) (sym desks.app.number) frames) in
    let app = subst (λ (k : ℕ). AppKeeps g k s.app.work.state s.app.place.seen s.app.taken s.app.sent wrote.more) desks.app.number wrote.keeps in
    let holds = subst (λ (k : ℕ). DbaseHolds dbase g.channels k s.dbase.work s.dbase.place.seen) desks.dbase.number base_seat.holds in
    record {
      stream = wrote.more;
      wrote = wrote.wrote;
      app_entries = each_number (λ e. is_by App e ≡ true → e.0 ≡ 0) log (app_numbers s log home own);
      base_entries = each_number (λ e. is_by Dbase e ≡ true → e.0 ≡ 3) log (dbase_numbers s log home own);
      frames = closed;
      app = keeps_found g 0 s.app.work.state s.app.place.seen log s.app.taken s.app.sent wrote.more home.app app;
      base = (held_at_home dbase g.channels s.dbase.work s.dbase.place.seen log home.dbase holds).keeps;
    }

-- The pipe

-- where an ordinary CULL and DRAW may have handed on what went on between APP's links
pipe_fits : {X Y : Type 0} (g : Setup) (dbase : List BaseLine) (s : SitesOf X Y) (log : Log) (bytes bytes' : Option (List ℕ)) (w : WholeFrames) →
    g.merges ≡ length (asked_dbase dbase) → CameHome s log → (keeps : CallersKeep g dbase s log bytes bytes') →
    AreWhole g.lens g.back s.app.sent s.draw.sent w → PipeFits g dbase own_seats (pipe_around dbase s w log keeps.stream)
pipe_fits g dbase s log bytes bytes' w merges home keeps whole =
    (gathering_law g dbase own_seats (pipe_around dbase s w log keeps.stream)).fits (record {
      merges = merges;
      legal = home.legal g.channels;
      app_entries = keeps.app_entries;
      dbase_entries = keeps.base_entries;
      link_a = whole.link_a;
      link_b = whole.link_b;
      link_c = home.link_c;
      app = keeps.app;
      cull = whole.cull;
      draw = whole.draw;
      base = keeps.base;
    })

-- what CULL and DRAW of whole lists hand on
abbrev handed_on : Sites → WholeFrames
handed_on s =
    record {
      cull = cull_state s.cull.work;
      draw = s.draw.work.state;
      a_taken = s.cull.taken;
      b_sent = s.cull.sent;
      b_taken = s.draw.taken;
    }

pub gathers : (g : Setup) (dbase : List BaseLine) (lock : TableId) (s : Sites) (log : Log) (bytes bytes' : Option (List ℕ)) →
    g.merges ≡ length (asked_dbase dbase) → AreAtDesks lock s → SeatsKeep g dbase s bytes bytes' → CameHome s log → IsPipeOf g dbase s log bytes bytes'
gathers g dbase lock s log bytes bytes' merges desks keeps home =
    let own = numbers_own lock s desks keeps.app.own keeps.cull.own keeps.draw.own keeps.dbase.own in
    let callers = callers_keep g dbase lock s log bytes bytes' desks keeps.app keeps.dbase own home in
    record {
      stream = callers.stream;
      wrote = callers.wrote;
      fits = pipe_fits g dbase s log bytes bytes' (handed_on s) merges home callers (record {
        link_a = home.link_a;
        link_b = home.link_b;
        cull = subst (λ (lens : Lens). CullPart lens (cull_state s.cull.work) s.cull.taken s.cull.sent) keeps.cull.lens keeps.cull.keeps.part;
        draw = subst (λ (lens : Lens). DrawPart lens g.back s.draw.work.state s.draw.taken s.draw.sent) keeps.draw.lens
            (subst (λ (back : List ℕ). DrawPart s.draw.work.lens back s.draw.work.state s.draw.taken s.draw.sent) keeps.draw.back keeps.draw.part);
      });
    }

-- The same where draw lists go whole or in pieces.
module _ (law : WholeFramesLaw) (g : Setup) (app : AppState) (log : Log) (a_sent a_taken b_sent b_taken c_sent : List Packet)
    (few : g.channels ≤ 4) (fit : HasEditsInRange log) (own : AreOwnFrames 0 log) (part : AppPart g 0 app log a_sent)
    (link_a : LinkPart a_sent a_taken) (link_b : LinkPart b_sent b_taken) where
  -- an ordinary CULL and DRAW may have handed it on
  between : (cull : AnyCullWork) (draw : AnyDrawWork) → cull_lens cull ≡ g.lens → draw_lens draw ≡ g.lens → draw_back draw ≡ g.back →
      KeepsCull cull a_taken b_sent → KeepsDraw draw b_taken c_sent → draw_links draw ≡ cull_links cull →
      came_over draw ≡ take (length (came_over draw)) (gone_over cull) → (w : WholeFrames) × AreWhole g.lens g.back a_sent c_sent w
  between (WholeCull v) (WholeDraw w) lens draw_lens back cull draw linked came = (
    record { cull = cull_state v; draw = w.state; a_taken = a_taken; b_sent = b_sent; b_taken = b_taken },
    record {
      link_a = link_a;
      link_b = link_b;
      cull = subst (λ (l : Lens). CullPart l (cull_state v) a_taken b_sent) lens cull.part;
      draw = subst (λ (l : Lens). DrawPart l g.back w.state b_taken c_sent) draw_lens
          (subst (λ (c : List ℕ). DrawPart w.lens c w.state b_taken c_sent) back draw);
    },
  )
  between (WholeCull v) (PiecesDraw d) lens draw_lens back cull draw linked came = absurd (cc)
  between (PiecesCull c) (WholeDraw w) lens draw_lens back cull draw linked came = absurd (cc)
  between (PiecesCull c) (PiecesDraw d) lens draw_lens back cull (first, draw) linked came =
      law g 0 c.work.limit app log a_sent (record {
        cull = c.work.state;
        draw = d.work.state;
        a_taken = a_taken;
        b_sent = b_sent;
        b_taken = b_taken;
        c_sent = c_sent;
        p_sent = c.gone;
        p_taken = d.came;
        first = first;
        given_back = d.given;
      }) few fit own part link_a (record {
        cull = subst (λ (l : Lens). StreamCullPart l c.work.limit c.work.state a_taken b_sent c.gone) lens cull;
        draw = subst (λ (l : Lens). StreamDrawPart l g.back first d.work.state b_taken c_sent d.came d.given) draw_lens
            (subst (λ (b : List ℕ). StreamDrawPart d.work.lens b first d.work.state b_taken c_sent d.came d.given) back draw);
        link_b = link_b;
        link_p = came;
      })

-- The four seats came home, and the links of the pieces belong together.
pub record AreHome (lock : TableId) (s : AnySites) (log : Log) : Type 0 where
  pub desks : AreAtDesks lock s
  pub home : CameHome s log
  pub linked : draw_links s.draw.work ≡ cull_links s.cull.work
  pub pieces : came_over s.draw.work ≡ take (length (came_over s.draw.work)) (gone_over s.cull.work)

pub have_pipe : WholeFramesLaw → (play : Script) (ahead : ℕ) (lock : TableId) (s : AnySites) (log : Log) (bytes bytes' : Option (List ℕ)) →
    CanRun play ahead → AnySeatsKeep (setup_of play ahead) play.dbase s bytes bytes' → AreHome lock s log →
    HavePipe (setup_of play ahead) play.dbase s log bytes bytes'
have_pipe law play ahead lock s log bytes bytes' can keeps are =
    let g = setup_of play ahead in
    let home = are.home in
    let own = numbers_own lock s are.desks keeps.app.own keeps.cull.own keeps.draw.own keeps.dbase.own in
    let callers = callers_keep g play.dbase lock s log bytes bytes' are.desks keeps.app keeps.dbase own home in
    let fit = edits_in_range play ahead 0 3 s.app.work.state (dbase_state play.dbase s.dbase.work) log can.is_play
    (record {
      app_entries = callers.app_entries;
      base_entries = callers.base_entries;
      app_follows = callers.app.follows;
      base_follows = callers.base.follows;
    }) in
    let whole = between law g s.app.work.state log s.app.sent s.cull.taken s.cull.sent s.draw.taken s.draw.sent can.is_play.most_channels fit
    callers.frames callers.app.part home.link_a home.link_b s.cull.work s.draw.work keeps.cull.lens keeps.draw.lens keeps.draw.back
    keeps.cull.keeps keeps.draw.keeps are.linked are.pieces in
    record {
      between = whole.0;
      stream = callers.stream;
      wrote = callers.wrote;
      fits = pipe_fits g play.dbase s log bytes bytes' whole.0 refl home callers whole.1;
    }
