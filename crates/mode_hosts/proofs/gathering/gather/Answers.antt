use Rattle.std.proofs.Common.{sym, subst}
use Rattle.pf_history.specs.Logs.{Log}
use Rattle.mode_hosts.specs.Probes.{AllCameHome}
use Rattle.mode_hosts.specs.Homes.{all_sites}
use Rattle.mode_hosts.proofs.Closed.{desk_found}
use Rattle.mode_hosts.proofs.gathering.gather.Goals as goal

pub returns-clause-home : goal.returns-clause-home
returns-clause-home g c =
    let desks = c.requires.desks in
    let home = c.all_home-scene.ensures in
    let app = c.into_pass.ensures in
    let cull = c.into_pass-2.ensures in
    let draw = c.into_pass-3.ensures in
    let dbase = c.into_pass-4.ensures in
    let probe = c.into_pass-5.ensures in
    subst (λ (log : Log). AllCameHome (all_sites c.args.seats) log) (sym c.into_history.ensures.entries)
    (record {
      legal = home.legal;
      within = home.within;
      app = desk_found 0 _ _ _ app.view desks.app.number app.sound home.app;
      cull = desk_found 1 _ _ _ cull.view desks.cull.number cull.sound home.cull;
      draw = desk_found 2 _ _ _ draw.view desks.draw.number draw.sound home.draw;
      dbase = desk_found 3 _ _ _ dbase.view desks.dbase.number dbase.sound home.dbase;
      probe = desk_found 4 _ _ _ probe.view c.requires.probe.number probe.sound home.probe;
      link_a = c.way_home-answers.ensures.home;
      link_b = c.link_home.ensures;
      link_c = c.link_home-2.ensures;
      pieces = c.pieces_home.ensures;
    })
