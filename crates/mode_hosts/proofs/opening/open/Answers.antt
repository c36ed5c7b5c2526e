use Rattle.std.proofs.Common.{◌≡◌, [], length, Some, refl, ap, ◌∙◌, subst}
use Rattle.seat_lock.specs.declared.view.View.{View}
use Rattle.seat_lock.specs.Tokens.{lock_id}
use Rattle.std.specs.Arc.{arc_value}
use Rattle.pf_history.specs.declared.commands.Entry.{Entry}
use Rattle.pf_history.specs.Asks.{asked_dbase}
use Rattle.stage_parts.specs.States.{Setup}
use Rattle.frame_stages.specs.AppWorks as app
use Rattle.frame_stages.specs.AppWorks.{AppWork}
use Rattle.frame_stages.specs.DbaseWorks as base
use Rattle.frame_stages.specs.DbaseWorks.{DbaseHolds}
use Rattle.pipe_plays.specs.Plays.{setup_of}
use Rattle.mode_hosts.specs.Seats.{any_cull, any_draw}
use Rattle.mode_hosts.specs.Deals.{stands_at, AreNewWorks}
use Rattle.mode_hosts.proofs.Opens.{new_keeps, probe_new, of_ok, one_ok}
use Rattle.mode_hosts.proofs.opening.open.Goals as goal

pub returns-clause-together : goal.returns-clause-together
returns-clause-together g c =
    let made = c.in_ok-parts.ensures in
    let desks = c.new_desks.ensures in
    let app = of_ok _ made.desks desks.app in
    let cull = of_ok _ made.desks desks.cull in
    let draw = of_ok _ made.desks desks.draw in
    let dbase = of_ok _ made.desks desks.dbase in
    let probe = of_ok _ made.desks desks.probe in
    let links = c.new_links.ensures in
    rw (c.seated.ensures.lock, c.seated.ensures.seats)
    (record {
      desks = record {
        app = record { number = ap (λ (v : View Entry). v.number) app.1; lock = ap Some app.0 };
        cull = record { number = ap (λ (v : View Entry). v.number) cull.1; lock = ap Some cull.0 };
        draw = record { number = ap (λ (v : View Entry). v.number) draw.1; lock = ap Some draw.0 };
        dbase = record { number = ap (λ (v : View Entry). v.number) dbase.1; lock = ap Some dbase.0 };
        seats = ap (λ (v : View Entry). v.seats) app.1;
      };
      probe = record { number = ap (λ (v : View Entry). v.number) probe.1; lock = ap Some probe.0 };
      a = (of_ok _ made.links links.way).linked;
      b = (of_ok _ made.links links.to_draw).link;
      c = (of_ok _ made.links links.back).link;
      pieces = (of_ok _ made.works c.new_works.ensures).links;
    })

pub returns-clause-limit : goal.returns-clause-limit
returns-clause-limit g c =
    rw c.seated.ensures.seats ((of_ok _ c.in_ok-parts.ensures.works c.new_works.ensures).limited)

pub returns-clause-uncut : goal.returns-clause-uncut
returns-clause-uncut g c =
    rw c.seated.ensures.seats (ap (λ (w : AppWork). w.state.fault) (of_ok _ c.in_ok-parts.ensures.app c.new.ensures.opens))

pub returns-clause-untold : goal.returns-clause-untold
returns-clause-untold g c =
    rw c.seated.ensures.seats (ap (λ (w : AppWork). w.told) (of_ok _ c.in_ok-parts.ensures.app c.new.ensures.opens))

pub returns-clause-going : goal.returns-clause-going
returns-clause-going g c =
    rw c.seated.ensures.seats (ap (λ (w : AppWork). w.state.closed) (of_ok _ c.in_ok-parts.ensures.app c.new.ensures.opens))

pub returns-clause-keeps : goal.returns-clause-keeps
returns-clause-keeps g c = λ bytes.
    let play = c.args.play in
    let ahead = c.args.setup.now.ahead in
    let parts = c.in_ok-parts.parts in
    let made = c.in_ok-parts.ensures in
    let lists = c.into_lists-app_lines.ensures in
    let lens = c.lens-lens.ensures.value in
    let colour = c.back-back.ensures.value in
    let channels = c.channels-channels.ensures.value in
    let merges = c.count_merges-merges.ensures ∙ ap (λ lines. length (asked_dbase lines)) c.dbase.ensures.value in
    let given : record {
      lines = c.into_lists-app_lines.result.0.items;
      merges = c.count_merges-merges.result;
      lens = c.lens-lens.result;
      back = c.back-back.result;
      ahead = ahead;
      channels = c.channels-channels.result;
    } ≡ setup_of play ahead =
    λ i. record { lines = lists.app i; merges = merges i; lens = lens i; back = colour i; ahead = ahead; channels = channels i } in
    let desks = c.new_desks.ensures in
    let app_desk = of_ok _ made.desks desks.app in
    let cull_desk = of_ok _ made.desks desks.cull in
    let draw_desk = of_ok _ made.desks desks.draw in
    let dbase_desk = of_ok _ made.desks desks.dbase in
    let probe_desk = of_ok _ made.desks desks.probe in
    let links = c.new_links.ensures in
    let a = of_ok _ made.links links.way in
    let b = of_ok _ made.links links.to_draw in
    let d = of_ok _ made.links links.back in
    let works : AreNewWorks play.lens play.back c.args.setup.now.stream (any_cull parts.works.cull) (any_draw parts.works.draw) =
    rw (lens, colour) at (of_ok _ made.works c.new_works.ensures) in
    let lock = lock_id (arc_value parts.desks.lock) in
    rw c.seated.ensures.seats
    (record {
      four = new_keeps (setup_of play ahead) play.dbase lock _ bytes refl (record {
        app_work = of_ok _ made.app c.new.ensures.opens ∙ ap (λ (g : Setup). app.opening_work g parts.app.state.spare) given;
        loads = of_ok _ made.app c.new.ensures.loads;
        limit = c.args.setup.now.stream;
        works = works;
        dbase_work = one_ok made.dbase c.new-2.ensures.made ∙ ap base.opening_work lists.dbase;
        holds = subst (λ lines. DbaseHolds lines play.channels 3 (base.opening_work lines) []) lists.dbase (c.new-2.ensures.holds play.channels 3);
        app_place = λ i. stands_at (app_desk.0 i) (app_desk.1 i);
        cull_place = λ i. stands_at (cull_desk.0 i) (cull_desk.1 i);
        draw_place = λ i. stands_at (draw_desk.0 i) (draw_desk.1 i);
        dbase_place = λ i. stands_at (dbase_desk.0 i) (dbase_desk.1 i);
        app_sent = a.sent;
        app_taken = d.taken;
        cull_sent = b.sent;
        cull_taken = a.taken;
        draw_sent = d.sent;
        draw_taken = b.taken;
      });
      probe = probe_new c.args.setup.now.probe lock _ a.keeps (λ i. stands_at (probe_desk.0 i) (probe_desk.1 i));
    })
