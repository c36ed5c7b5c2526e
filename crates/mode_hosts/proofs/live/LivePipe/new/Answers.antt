use Rattle.std.proofs.Common.{◌≡◌, Bool, Option, None, IsSome, false, refl, sym, ap, ◌∙◌, subst, arith}
use Rattle.std.proofs.lemmas.Option.{same_Some}
use Rattle.frame_stages.specs.AppWorks.{AppWork}
use Rattle.mode_hosts.specs.Sites.{DbaseSite}
use Rattle.mode_hosts.specs.Seats.{cull_site, draw_site, dbase_site, probe_site}
use Rattle.mode_hosts.specs.Crews.{CrewsState, divided, all_of}
use Rattle.mode_hosts.specs.Posts.{crews_state}
use Rattle.mode_hosts.specs.declared.modes.Crews.{Crews}
use Rattle.mode_hosts.proofs.Lives.{apart_there, apart_all, crews_apart, few_merges, live_opens}
use Rattle.mode_hosts.proofs.live.LivePipe.new.Goals as goal

pub take_dbase-taken-requires : goal.take_dbase-taken-requires
take_dbase-taken-requires g c =
    let setup = c.args.setup.now in
    let seats = c.in_ok-ready.ready.opened.seats in
    let is = ap (λ (s : CrewsState). s.caller.dbase) c.crews_of-all.ensures.divided
    ∙ ap (λ (own : Bool). (divided setup.mode own (cull_site seats.cull) (draw_site seats.draw) (dbase_site seats.dbase) (probe_site seats.probe)).caller.dbase) c.requires.here
    ∙ apart_there setup.mode (cull_site seats.cull) (draw_site seats.draw) (dbase_site seats.dbase) (probe_site seats.probe) in
    subst (λ (o : Option DbaseSite). IsSome o) (sym is) refl

pub returns-clause-keeps : goal.returns-clause-keeps
returns-clause-keeps g c = λ bytes.
    let play = c.args.play in
    let setup = c.args.setup.now in
    let ready = c.in_ok-ready.ensures in
    let seats = c.in_ok-ready.ready.opened.seats in
    let more = c.await_more-merges.ensures in
    let keeps = ready.keeps bytes in
    let is : divided setup.mode setup.dbase (cull_site seats.cull) (draw_site seats.draw) (dbase_site seats.dbase) (probe_site seats.probe)
    ≡ divided setup.mode false (cull_site seats.cull) (draw_site seats.draw) (dbase_site seats.dbase) (probe_site seats.probe) =
    ap (λ (own : Bool). divided setup.mode own (cull_site seats.cull) (draw_site seats.draw) (dbase_site seats.dbase) (probe_site seats.probe)) c.requires.here in
    let there = ap (λ (s : CrewsState). s.caller.dbase) (c.crews_of-all.ensures.divided ∙ is)
    ∙ apart_there setup.mode (cull_site seats.cull) (draw_site seats.draw) (dbase_site seats.dbase) (probe_site seats.probe) in
    let own = keeps.four.app.given.merges in
    let few = few_merges play.dbase in
    let merges = more.merges (omega (arith, own, few, ready.play.steps)) in
    live_opens play setup.ahead setup.probe seats c.take_dbase-taken.result.crews c.await_more-merges.result _ bytes
    (record {
      together = ready.together;
      dbase = same_Some _ _ (sym c.take_dbase-taken.ensures.dbase ∙ there);
      all = ap (λ (cs : Crews g.row.R.Denot). all_of (crews_state cs)) c.take_dbase-taken.ensures.crews
          ∙ ap (λ (cs : CrewsState). all_of (crews_apart cs)) (c.crews_of-all.ensures.divided ∙ is)
          ∙ apart_all setup.mode (cull_site seats.cull) (draw_site seats.draw) (dbase_site seats.dbase) (probe_site seats.probe);
      posts = c.posts_of-posts.ensures;
      app = refl;
      merges = omega (arith, merges, own);
      none = c.requires.bare;
      frames = refl;
      told = refl;
      fine = tt;
      whole = ap (λ (w : AppWork). w.state.fault) more.state ∙ ready.uncut;
    })
    keeps more.setup more.part

pub returns-clause-live : goal.returns-clause-live
returns-clause-live g c = (returns-clause-keeps g c None).live
