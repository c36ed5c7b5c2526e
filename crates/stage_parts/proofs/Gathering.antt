-- The pipe invariant and what the stages keep, both ways.
use Rattle.std.proofs.Common.{◌≡◌, ℕ, true, List, [], length, sym, subst}
use Rattle.pf_model.specs.declared.lines.BaseLine.{BaseLine}
use Rattle.pf_history.specs.declared.commands.Caller.TheVariants.{App, Dbase}
use Rattle.pf_history.specs.declared.commands.Entry.{Entry}
use Rattle.pf_history.specs.Logs.{is_by}
use Rattle.pf_history.specs.Asks.{Ask, BaseAsk, Turn, asked_app, asked_dbase, Follows, FollowsBase}
use Rattle.pf_history.specs.Fits.{turns_at, turns_of, FitsWholly}
use Rattle.pf_history.proofs.Fitting.{fit_law}
use Rattle.pf_history.proofs.Turns.{seat_law}
use Rattle.stage_parts.specs.States.{Setup, Seats, PipeState, still_asked, still_asked_dbase}
use Rattle.stage_parts.specs.Pipes.{PipeFits}
use Rattle.stage_parts.specs.Gathering.{IsGathered, GatheringLaw}
use Rattle.stage_parts.proofs.Places.{each_all}

fits_gathered : (g : Setup) (dbase : List BaseLine) (seats : Seats) (s : PipeState) → IsGathered g dbase seats s → PipeFits g dbase seats s
fits_gathered g dbase seats s is =
    let app =
    (seat_law g.channels seats.app App s.log).all
    (each_all (λ (e : ℕ × Entry). is_by App e ≡ true → e.0 ≡ seats.app) s.log is.app_entries) in
    let base =
    (seat_law g.channels seats.dbase Dbase s.log).all
    (each_all (λ (e : ℕ × Entry). is_by Dbase e ≡ true → e.0 ≡ seats.dbase) s.log is.dbase_entries) in
    record {
      merges = is.merges;
      history = record {
        legal = is.legal;
        follows = record {
          follows_app =
              subst (λ (n : ℕ). Follows g.ahead n (asked_app g.lines) (turns_of g.channels App s.log) (still_asked g s.app)) is.merges
              (subst (λ (ts : List Turn). Follows g.ahead g.merges (asked_app g.lines) ts (still_asked g s.app)) app is.app.follows);
          follows_dbase =
              subst (λ (ts : List Turn). FollowsBase (asked_dbase dbase) ts (still_asked_dbase dbase s.dbase)) base is.base.follows;
        };
        app_entries = is.app_entries;
        dbase_entries = is.dbase_entries;
      };
      link_a = is.link_a;
      link_b = is.link_b;
      link_c = is.link_c;
      app = is.app.part;
      cull = is.cull;
      draw = is.draw;
      stream = is.app.streams;
      loads = is.app.loads;
      buffer = is.base.part;
    }

gathered_fits : (g : Setup) (dbase : List BaseLine) (seats : Seats) (s : PipeState) → PipeFits g dbase seats s → IsGathered g dbase seats s
gathered_fits g dbase seats s fits =
    let history = fits.history in
    let app =
    (seat_law g.channels seats.app App s.log).all
    (each_all (λ (e : ℕ × Entry). is_by App e ≡ true → e.0 ≡ seats.app) s.log history.app_entries) in
    let base =
    (seat_law g.channels seats.dbase Dbase s.log).all
    (each_all (λ (e : ℕ × Entry). is_by Dbase e ≡ true → e.0 ≡ seats.dbase) s.log history.dbase_entries) in
    record {
      merges = fits.merges;
      legal = history.legal;
      app_entries = history.app_entries;
      dbase_entries = history.dbase_entries;
      link_a = fits.link_a;
      link_b = fits.link_b;
      link_c = fits.link_c;
      app = record {
        follows =
            subst (λ (n : ℕ). Follows g.ahead n (asked_app g.lines) (turns_at g.channels seats.app App s.log) (still_asked g s.app))
            (sym fits.merges)
            (subst (λ (ts : List Turn). Follows g.ahead (length (asked_dbase dbase)) (asked_app g.lines) ts (still_asked g s.app))
            (sym app) history.follows.follows_app);
        part = fits.app;
        streams = fits.stream;
        loads = fits.loads;
      };
      cull = fits.cull;
      draw = fits.draw;
      base = record {
        follows =
            subst (λ (ts : List Turn). FollowsBase (asked_dbase dbase) ts (still_asked_dbase dbase s.dbase))
            (sym base) history.follows.follows_dbase;
        part = fits.buffer;
      };
    }

wholly : (g : Setup) (dbase : List BaseLine) (seats : Seats) (s : PipeState) → PipeFits g dbase seats s → still_asked g s.app ≡ [] →
    still_asked_dbase dbase s.dbase ≡ [] →
    FitsWholly g.channels g.ahead g.lines dbase s.log
wholly g dbase seats s fits no_asks no_merges =
    (fit_law g.channels g.ahead g.lines dbase s.log).fits_wholly
    (record {
      follows_app =
          subst (λ (left : List Ask). Follows g.ahead (length (asked_dbase dbase)) (asked_app g.lines)
          (turns_of g.channels App s.log) left) no_asks fits.history.follows.follows_app;
      follows_dbase =
          subst (λ (left : List BaseAsk). FollowsBase (asked_dbase dbase)
          (turns_of g.channels Dbase s.log) left) no_merges fits.history.follows.follows_dbase;
    })

pub gathering_law : GatheringLaw
gathering_law g dbase seats s =
    record {
      fits = fits_gathered g dbase seats s;
      gathered = gathered_fits g dbase seats s;
      play = λ fits. (fit_law g.channels g.ahead g.lines dbase s.log).fits (still_asked g s.app)
          (still_asked_dbase dbase s.dbase) fits.history.follows;
      wholly = wholly g dbase seats s;
    }
