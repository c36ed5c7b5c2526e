-- The edits of a history are in range where its two callers keep their parts, whatever became of the frames.
use Rattle.std.proofs.Common.{◌≡◌, ℕ, true, false, List, [], length, refl, subst}
use Rattle.pf_history.specs.declared.commands.Caller.TheVariants.{App, Dbase}
use Rattle.pf_history.specs.declared.commands.Entry.{Entry}
use Rattle.pf_history.specs.Objects.{opening_state}
use Rattle.pf_history.specs.Logs.{Log, is_by}
use Rattle.pf_history.specs.Asks.{Turn, asked_app, asked_dbase, Follows, FollowsBase}
use Rattle.pf_history.specs.Fits.{turns_at}
use Rattle.pf_history.proofs.Turns.{seat_law}
use Rattle.play_format.specs.Plays.{Script}
use Rattle.stage_parts.specs.States.{AppState, DbaseState, still_asked, still_asked_dbase}
use Rattle.stage_parts.specs.Loads.{Each}
use Rattle.stage_parts.specs.Laws.{HasEditsInRange}
use Rattle.stage_parts.proofs.Places.{each_all}
use Rattle.pipe_plays.specs.Plays.{setup_of, IsLivePlay}
use Rattle.pipe_plays.proofs.Ranges.{asked_right, merges_right, log_right}

-- Each entry of the application has the number of its seat, each merge that of DBASE's, and what was made of each section is
-- the first of what it asks.
pub record FollowBoth (play : Script) (ahead app_seat base_seat : ℕ) (app : AppState) (base : DbaseState) (log : Log) : Type 0 where
  pub app_entries : Each (λ e. is_by App e ≡ true → e.0 ≡ app_seat) log
  pub base_entries : Each (λ e. is_by Dbase e ≡ true → e.0 ≡ base_seat) log
  pub app_follows : Follows ahead (length (asked_dbase play.dbase)) (asked_app play.app) (turns_at play.channels app_seat App log)
      (still_asked (setup_of play ahead) app)
  pub base_follows : FollowsBase (asked_dbase play.dbase) (turns_at play.channels base_seat Dbase log) (still_asked_dbase play.dbase base)

pub edits_in_range : (play : Script) (ahead app_seat base_seat : ℕ) (app : AppState) (base : DbaseState) (log : Log) → IsLivePlay play →
    FollowBoth play ahead app_seat base_seat app base log → HasEditsInRange log
edits_in_range play ahead app_seat base_seat app base log is both =
    let all_app = (seat_law play.channels app_seat App log).all
    (each_all (λ (e : ℕ × Entry). is_by App e ≡ true → e.0 ≡ app_seat) log both.app_entries) in
    let all_base = (seat_law play.channels base_seat Dbase log).all
    (each_all (λ (e : ℕ × Entry). is_by Dbase e ≡ true → e.0 ≡ base_seat) log both.base_entries) in
    log_right ahead (length (asked_dbase play.dbase)) log (opening_state play.channels) (asked_app play.app) (asked_dbase play.dbase)
    (still_asked (setup_of play ahead) app) (still_asked_dbase play.dbase base)
    (subst (λ (ts : List Turn). Follows ahead (length (asked_dbase play.dbase)) (asked_app play.app) ts (still_asked (setup_of play ahead) app)) all_app both.app_follows)
    (subst (λ (ts : List Turn). FollowsBase (asked_dbase play.dbase) ts (still_asked_dbase play.dbase base)) all_base both.base_follows)
    (asked_right play.channels 0 false play.app is.app_steps) (merges_right 0 [] play.dbase refl is.base_steps)
