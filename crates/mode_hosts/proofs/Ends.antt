-- What comes back of the crews of a play.
use Rattle.std.proofs.Common.{◌≡◌, Bool, Option, List, ℕ, refl, sym, subst}
use Rattle.mode_hosts.specs.declared.modes.Mode.{Mode}
use Rattle.mode_hosts.specs.declared.modes.Crews.{Crews}
use Rattle.mode_hosts.specs.declared.seats.AppSeat.{AppSeat}
use Rattle.mode_hosts.specs.declared.seats.AllSeats.{AllSeats}
use Rattle.mode_hosts.specs.Sites.{CrewState, AppGoes, CrewGoes}
use Rattle.mode_hosts.specs.Seats.{app_site, cull_site, draw_site, dbase_site, probe_site}
use Rattle.mode_hosts.specs.Crews.{full_crew, all_of, divided, CrewsGo}
use Rattle.mode_hosts.specs.Posts.{crews_state}
use Rattle.mode_hosts.specs.Homes.{all_sites}
use Rattle.mode_hosts.specs.Probes.{AllSites, AllGo}
use Rattle.mode_hosts.proofs.Crews.{divided_go}

-- a crew with the stages of these seats but the application
abbrev pub crew_in : AllSites → CrewState
crew_in s = full_crew s.four.cull s.four.draw s.four.dbase s.probe

-- the application and all stages of a crew, after polls
pub seats_go : (old new : AllSites) (all crew : CrewState) (bytes bytes' : Option (List ℕ)) →
    AppGoes old.four.app new.four.app bytes bytes' → all ≡ crew_in old → crew_in new ≡ crew → CrewGoes all crew → AllGo old new bytes bytes'
seats_go old new all crew bytes bytes' app first last goes =
    let crews : CrewGoes (crew_in old) (crew_in new) =
    subst (λ (s : CrewState). CrewGoes s (crew_in new)) first (subst (λ (s : CrewState). CrewGoes all s) (sym last) goes) in
    record {
      four = record { app = app; cull = crews.cull; draw = crews.draw; dbase = crews.dbase };
      probe = crews.probe;
    }

-- the seats of a play whose crews came back, after polls
module _ {R : Type 0} where
  pub all_home : (m : Mode) (own : Bool) (old new : AllSeats R) (app : AppSeat R) (crews : Crews R) (bytes bytes' : Option (List ℕ)) →
      AppGoes (app_site old.app) (app_site app) bytes bytes' →
      CrewsGo (divided m own (cull_site old.cull) (draw_site old.draw) (dbase_site old.dbase) (probe_site old.probe)) (crews_state crews) →
      new.app ≡ app → crew_in (all_sites new) ≡ all_of (crews_state crews) → AllGo (all_sites old) (all_sites new) bytes bytes'
  all_home m own old new app crews bytes bytes' goes go is last =
      seats_go (all_sites old) (all_sites new) (crew_in (all_sites old)) (all_of (crews_state crews)) bytes bytes'
      (subst (λ (a : AppSeat R). AppGoes (app_site old.app) (app_site a) bytes bytes') (sym is) goes) refl last
      (divided_go m own (cull_site old.cull) (draw_site old.draw) (dbase_site old.dbase) (probe_site old.probe) (crews_state crews) go)
