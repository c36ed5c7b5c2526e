-- The polls of CULL and DRAW keep what the pipe keeps.
use Rattle.std.proofs.Common.{◌≡◌, ℕ, ◌+◌, ◌≤◌, true, false, List, length, Option, Result, Ok, inl, refl, sym, ap, ◌∙◌, subst, arith}
use Rattle.std.specs.Option.{MatchOption}
use Rattle.play_format.specs.Plays.{Script}
use Rattle.stage_parts.specs.declared.packets.Packet.{Packet}
use Rattle.stage_parts.specs.Packets.{LinkPart}
use Rattle.stage_parts.specs.States.{DrawState}
use Rattle.stage_parts.specs.Parts.{DrawPart, CullPart}
use Rattle.stage_parts.proofs.Gathering.{gathering_law}
use Rattle.stage_parts.specs.declared.answers.Did.{Did}
use Rattle.stage_parts.specs.declared.answers.Did.TheVariants as did
use Rattle.stage_parts.specs.declared.answers.StageError.{StageError}
use Rattle.stage_parts.specs.Answers.{is_over, Placed, PassesOn, WaitsToPass as has_to_wait}
use Rattle.frame_stages.specs.CullWorks.{CullWork, CullKeeps, cull_state}
use Rattle.pipe_core.specs.declared.events.Event.TheVariants as event
use Rattle.pipe_plays.specs.Plays.{setup_of}
use Rattle.pipe_core.specs.Cores.{CoreFits, one_seat}
use Rattle.pipe_core.specs.Pipes.{PipeWork, core_of, PipeKeeps, Lifted}
use Rattle.pipe_core.proofs.Lifting.{opened, over_is, is_over_of, passes_answer}

-- the room of a link is that of the links of the pipe
roomy : (ahead room : ℕ) (held : Option Packet) (dry : Type 0) (taken sent : List Packet) → room ≡ ahead + 1 →
    MatchOption held dry (λ _. length taken + room ≤ length sent) → MatchOption held dry (λ _. length taken + (ahead + 1) ≤ length sent)
roomy ahead room held dry taken sent is waits =
    subst (λ (n : ℕ). MatchOption held dry (λ _. length taken + n ≤ length sent)) is waits

-- The draw

-- the pipe where the draw has this state, and this was received and sent
abbrev pub with_draw : PipeWork → DrawState → (taken sent : List Packet) → PipeWork
with_draw p d taken sent =
    record p {
      draw = record p.draw { state = d };
      b = record p.b { line = record p.b.line { taken = taken } };
      c = record p.c { line = record p.c.line { sent = sent } };
    }

draw_core : (play : Script) (ahead : ℕ) (p : PipeWork) (d : DrawState) (taken sent : List Packet) → CoreFits play ahead (core_of play p) →
    LinkPart p.b.line.sent taken → LinkPart sent p.c.line.taken → DrawPart play.lens play.back d taken sent →
    CoreFits play ahead (core_of play (with_draw p d taken sent))
draw_core play ahead p d taken sent fits link_b link_c part =
    let old = opened play ahead (core_of play p) fits in
    record {
      pipe = (gathering_law (setup_of play ahead) play.dbase one_seat (core_of play (with_draw p d taken sent)).pipe).fits
          (record {
            merges = old.merges;
            legal = old.legal;
            app_entries = old.app_entries;
            dbase_entries = old.dbase_entries;
            link_a = old.link_a;
            link_b = link_b;
            link_c = link_c;
            app = old.app;
            cull = old.cull;
            draw = part;
            base = old.base;
          });
      app_lines = fits.app_lines;
      dbase_lines = fits.dbase_lines;
      marked = fits.marked;
    }

pub draw_lifts : (play : Script) (ahead : ℕ) (p : PipeWork) (d : DrawState) (taken sent : List Packet) (result : Result Did StageError) →
    PipeKeeps play ahead p → LinkPart p.b.line.sent taken → LinkPart sent p.c.line.taken →
    (DrawPart p.draw.lens p.draw.back p.draw.state p.b.line.taken p.c.line.sent → DrawPart p.draw.lens p.draw.back d taken sent) →
    PassesOn result
    (record { state = p.draw.state; taken = p.b.line.taken; sent = p.c.line.sent })
    (record { state = d; taken = taken; sent = sent })
    (has_to_wait p.draw.state.held (p.b.line.sent ≡ p.b.line.taken) (length p.c.line.taken + p.c.room ≤ length p.c.line.sent)) →
    (p.draw.state.ended ≡ true → result ≡ Ok did.Over) →
    (p.draw.state.ended ≡ false → is_over result ≡ p.scene.shared.stopped) →
    Lifted play ahead event.Draw result p (with_draw p d taken sent)
draw_lifts play ahead p d taken sent result keeps link_b link_c part answer ended looked =
    let stages = keeps.stages in
    let before : Placed DrawState = record { state = p.draw.state; taken = p.b.line.taken; sent = p.c.line.sent } in
    let after : Placed DrawState = record { state = d; taken = taken; sent = sent } in
    let old : DrawPart p.draw.lens p.draw.back p.draw.state p.b.line.taken p.c.line.sent =
    subst (λ lens. DrawPart lens p.draw.back p.draw.state p.b.line.taken p.c.line.sent) (sym stages.draw_lens)
    (subst (λ (back : List ℕ). DrawPart play.lens back p.draw.state p.b.line.taken p.c.line.sent) (sym stages.draw_back) keeps.core.pipe.draw) in
    let new : DrawPart play.lens play.back d taken sent =
    subst (λ lens. DrawPart lens play.back d taken sent) stages.draw_lens
    (subst (λ (back : List ℕ). DrawPart p.draw.lens back d taken sent) stages.draw_back (part old)) in
    record {
      keeps = record {
        core = draw_core play ahead p d taken sent keeps.core link_b link_c new;
        stages = record {
          app = stages.app;
          cull = stages.cull;
          draw_lens = stages.draw_lens;
          draw_back = stages.draw_back;
          in_flight = stages.in_flight;
          channels = stages.channels;
        };
        room = record { a = keeps.room.a; b = keeps.room.b; c = keeps.room.c };
        waited = keeps.waited;
        cull = keeps.cull;
        dbase = keeps.dbase;
        failed = keeps.failed;
        home = keeps.home;
        copies = keeps.copies;
      };
      adds = inl refl;
      told = refl;
      answer = passes_answer play ahead event.Draw (core_of play p) (core_of play (with_draw p d taken sent)) result before after
          (has_to_wait p.draw.state.held (p.b.line.sent ≡ p.b.line.taken) (length p.c.line.taken + p.c.room ≤ length p.c.line.sent))
          answer
          (λ same. ap (λ (q : Placed DrawState). core_of play (with_draw p q.state q.taken q.sent)) same)
          (λ more. omega (arith, more))
          refl
          (over_is p.draw.state.ended p.scene.shared.stopped result ended looked)
          (is_over_of p.draw.state.ended p.scene.shared.stopped result looked)
          (roomy ahead p.c.room p.draw.state.held (p.b.line.sent ≡ p.b.line.taken) p.c.line.taken p.c.line.sent keeps.room.c);
    }

-- The cull

-- the pipe where the cull is this, and this was received and sent
abbrev pub culled : PipeWork → CullWork → (taken sent : List Packet) → PipeWork
culled p w taken sent =
    record p {
      cull = w;
      a = record p.a { line = record p.a.line { taken = taken } };
      b = record p.b { line = record p.b.line { sent = sent } };
    }

cull_core : (play : Script) (ahead : ℕ) (p : PipeWork) (w : CullWork) (taken sent : List Packet) → CoreFits play ahead (core_of play p) →
    LinkPart p.a.line.sent taken → LinkPart sent p.b.line.taken → CullPart play.lens (cull_state w) taken sent →
    CoreFits play ahead (core_of play (culled p w taken sent))
cull_core play ahead p w taken sent fits link_a link_b part =
    let old = opened play ahead (core_of play p) fits in
    record {
      pipe = (gathering_law (setup_of play ahead) play.dbase one_seat (core_of play (culled p w taken sent)).pipe).fits
          (record {
            merges = old.merges;
            legal = old.legal;
            app_entries = old.app_entries;
            dbase_entries = old.dbase_entries;
            link_a = link_a;
            link_b = link_b;
            link_c = old.link_c;
            app = old.app;
            cull = part;
            draw = old.draw;
            base = old.base;
          });
      app_lines = fits.app_lines;
      dbase_lines = fits.dbase_lines;
      marked = fits.marked;
    }

pub cull_lifts : (play : Script) (ahead : ℕ) (p : PipeWork) (w : CullWork) (taken sent : List Packet) (result : Result Did StageError) →
    PipeKeeps play ahead p → LinkPart p.a.line.sent taken → LinkPart sent p.b.line.taken → w.lens ≡ p.cull.lens →
    (CullKeeps p.cull p.a.line.taken p.b.line.sent → CullKeeps w taken sent) →
    PassesOn result
    (record { state = p.cull; taken = p.a.line.taken; sent = p.b.line.sent })
    (record { state = w; taken = taken; sent = sent })
    (has_to_wait p.cull.held (p.a.line.sent ≡ p.a.line.taken) (length p.b.line.taken + p.b.room ≤ length p.b.line.sent)) →
    (p.cull.ended ≡ true → result ≡ Ok did.Over) →
    (p.cull.ended ≡ false → is_over result ≡ p.scene.shared.stopped) →
    Lifted play ahead event.Cull result p (culled p w taken sent)
cull_lifts play ahead p w taken sent result keeps link_a link_b lens part answer ended looked =
    let stages = keeps.stages in
    let before : Placed CullWork = record { state = p.cull; taken = p.a.line.taken; sent = p.b.line.sent } in
    let after : Placed CullWork = record { state = w; taken = taken; sent = sent } in
    let new = part keeps.cull in
    let lens_is = lens ∙ stages.cull in
    record {
      keeps = record {
        core = cull_core play ahead p w taken sent keeps.core link_a link_b (subst (λ l. CullPart l (cull_state w) taken sent) lens_is new.part);
        stages = record {
          app = stages.app;
          cull = lens_is;
          draw_lens = stages.draw_lens;
          draw_back = stages.draw_back;
          in_flight = stages.in_flight;
          channels = stages.channels;
        };
        room = record { a = keeps.room.a; b = keeps.room.b; c = keeps.room.c };
        waited = keeps.waited;
        cull = new;
        dbase = keeps.dbase;
        failed = keeps.failed;
        home = keeps.home;
        copies = keeps.copies;
      };
      adds = inl refl;
      told = refl;
      answer = passes_answer play ahead event.Cull (core_of play p) (core_of play (culled p w taken sent)) result before after
          (has_to_wait p.cull.held (p.a.line.sent ≡ p.a.line.taken) (length p.b.line.taken + p.b.room ≤ length p.b.line.sent))
          answer
          (λ same. ap (λ (q : Placed CullWork). core_of play (culled p q.state q.taken q.sent)) same)
          (λ more. omega (arith, more))
          refl
          (over_is p.cull.ended p.scene.shared.stopped result ended looked)
          (is_over_of p.cull.ended p.scene.shared.stopped result looked)
          (roomy ahead p.b.room p.cull.held (p.a.line.sent ≡ p.a.line.taken) p.b.line.taken p.b.line.sent keeps.room.b);
    }
