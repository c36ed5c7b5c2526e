-- What a play leaves whose seats came home.
use Rattle.std.proofs.Common.{◌≡◌, ℕ, ◌≤◌, Bool, true, false, not, List, [], ◌∷◌, length, drop, Option, None, Result, refl, sym, ap, ◌∙◌, arith, length-drop}
use Rattle.std.proofs.lemmas.Bool.{and_parts}
use Rattle.atomic_table.specs.Seated.{TableId}
use Rattle.draw_list.specs.declared.stats.Stats.{Stats}
use Rattle.pf_model.specs.declared.lines.BaseLine.{BaseLine}
use Rattle.pf_history.specs.Logs.{Log}
use Rattle.play_format.specs.Plays.{Script}
use Rattle.stage_parts.specs.declared.answers.StageError.{StageError}
use Rattle.frame_stages.specs.DbaseWorks.{DbaseWork, DbaseHolds, is_ended, has_ended}
use Rattle.pipe_plays.specs.declared.played.PlayEnd.{PlayEnd}
use Rattle.pipe_plays.specs.declared.played.PlayEnd.TheVariants as ends
use Rattle.pipe_plays.specs.Plays.{setup_of, CanRun}
use Rattle.pipe_plays.specs.Played.{Blames, StaysWhole, LeavesPipe, end_of}
use Rattle.pipe_plays.proofs.Ended.{faulted, unfaulted, uncut}
use Rattle.stream_stages.specs.WholeFrames.{WholeFramesLaw}
use Rattle.mode_hosts.specs.Gathering.{own_seats}
use Rattle.mode_hosts.specs.AnySeats.{AnySites, AnySeatsKeep, pipe_around}
use Rattle.mode_hosts.specs.Plays.{EndBlames}
use Rattle.mode_hosts.proofs.Gathers.{AreHome, have_pipe}

-- The database process at its end

none_left : (lines : List BaseLine) → is_ended lines ≡ true → lines ≡ []
none_left [] is = refl
none_left (l ∷ ls) is = absurd (cc)

not_true : (b : Bool) → not b ≡ true → b ≡ false
not_true true is = absurd (cc)
not_true false is = refl

all_passed : (lines : List BaseLine) (n : ℕ) → drop n lines ≡ [] → length lines ≤ n
all_passed lines n none =
    let left : length (drop n lines) ≡ 0 = ap length none in
    omega (arith, left, length-drop n lines)

pub dbase_done : (lines : List BaseLine) (channels seat : ℕ) (w : DbaseWork) (log : Log) → DbaseHolds lines channels seat w log → has_ended w ≡ true →
    length lines ≤ w.at
dbase_done lines channels seat w log holds ended =
    let parts = and_parts (is_ended w.rest) (not w.failed) ended in
    let stands = holds.stands (not_true w.failed parts.1) in
    all_passed lines w.at (stands.rest ∙ none_left w.rest parts.0)

-- The two stages that make entries have ended.
pub record HaveEnded (s : AnySites) : Type 0 where
  pub app : s.app.work.state.ended ≡ true
  pub dbase : has_ended s.dbase.work ≡ true

pub leaves_pipe : {A : Type 0} → WholeFramesLaw → (play : Script) (ahead : ℕ) (lock : TableId) (s : AnySites) (came : Result A StageError) (end : PlayEnd)
    (log : Log) (stats : List Stats) (bytes bytes' : Option (List ℕ)) → CanRun play ahead →
    AnySeatsKeep (setup_of play ahead) play.dbase s bytes bytes' → AreHome lock s log → stats ≡ s.app.work.state.stats → end ≡ end_of came →
    StaysWhole came None s.app.work.state.fault → (end ≡ ends.Done → HaveEnded s) →
    LeavesPipe play ahead own_seats end log stats bytes bytes'
leaves_pipe law play ahead lock s came end log stats bytes bytes' can keeps home is is_end whole ended =
    let pipe = have_pipe law play ahead lock s log bytes bytes' can keeps home in
    record {
      pipe = pipe_around play.dbase s pipe.between log pipe.stream;
      fits = pipe.fits;
      history = refl;
      numbers = sym is;
      stream = pipe.wrote;
      cut = uncut came end s.app.work.state.fault whole is_end;
      done = λ done.
          let have = ended done in
          record {
            app = have.app;
            dbase = dbase_done play.dbase play.channels s.dbase.place.number s.dbase.work s.dbase.place.seen keeps.dbase.holds have.dbase;
          };
    }

-- What the end says of the frame sink

pub end_blames : {A : Type 0} (came : Result A StageError) (end : PlayEnd) (before now : ℕ) (at_fault bytes : Option (List ℕ)) →
    Blames came before now at_fault bytes → end ≡ end_of came → EndBlames end before now at_fault bytes
end_blames came end before now at_fault bytes h is =
    record {
      fault = λ fault. (faulted came end before now at_fault bytes h is fault).0;
      last = λ fault. (faulted came end before now at_fault bytes h is fault).1;
      calm = unfaulted came end before now at_fault bytes h is;
    }
