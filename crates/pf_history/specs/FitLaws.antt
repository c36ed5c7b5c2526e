-- Laws of turns, and of the fit of a play.
use Rattle.std.specs.Prelude.{◌≡◌, ◌≢◌, ℕ, true, List, [], ◌++◌, length, drop, map}
use Rattle.std.specs.List.{AllByRecursion, filter}
use Rattle.pf_model.specs.declared.lines.AppLine.{AppLine}
use Rattle.pf_model.specs.declared.lines.BaseLine.{BaseLine}
use Rattle.pf_history.specs.declared.commands.Caller.{Caller}
use Rattle.pf_history.specs.declared.commands.Caller.TheVariants.{App, Dbase}
use Rattle.pf_history.specs.Commands.{is_frame}
use Rattle.pf_history.specs.Objects.{FrameState}
use Rattle.pf_history.specs.Logs.{Log, IsLegal, is_by, own}
use Rattle.pf_history.specs.Asks.{Ask, BaseAsk, Turn, asked_app, asked_dbase}
use Rattle.pf_history.specs.Fits.{turns_of, turns_at, FitsPlay, FitsWholly, FollowsPlay}
use Rattle.pf_history.specs.Cuts.{found_by_frames}

-- what is still asked of the application behind the commands that it made
abbrev pub left_of_app : List AppLine → Log → List Ask
left_of_app app log = drop (length (own App log)) (asked_app app)

-- what is still asked of the database process behind the merges that it made
abbrev pub left_of_dbase : List BaseLine → Log → List BaseAsk
left_of_dbase dbase log = drop (length (own Dbase log)) (asked_dbase dbase)

-- The relation of turns and asks says that a log fits, and that it fits wholly where nothing is still asked.
pub record FollowsAsFits (channels ahead : ℕ) (app : List AppLine) (dbase : List BaseLine) (log : Log) : Type 0 where
  pub fits : (left_app : List Ask) (left_dbase : List BaseAsk) →
      FollowsPlay channels ahead app dbase log left_app left_dbase → FitsPlay channels ahead app dbase log
  pub follows : FitsPlay channels ahead app dbase log →
      FollowsPlay channels ahead app dbase log (left_of_app app log) (left_of_dbase dbase log)
  pub fits_wholly : FollowsPlay channels ahead app dbase log [] [] → FitsWholly channels ahead app dbase log
  pub follows_wholly : FitsWholly channels ahead app dbase log → FollowsPlay channels ahead app dbase log [] []

abbrev pub FitLaw : Type 0
FitLaw =
    (channels ahead : ℕ) (app : List AppLine) (dbase : List BaseLine) (log : Log) →
    FollowsAsFits channels ahead app dbase log

-- The turns of a seat for a caller: they are the caller's where each of its entries has that seat, and entries of other
-- seats at the end add none.
pub record AreTurnsOfSeat (channels seat : ℕ) (caller : Caller) (log : Log) : Type 0 where
  pub all : AllByRecursion (λ e. is_by caller e ≡ true → e.0 ≡ seat) log →
      turns_at channels seat caller log ≡ turns_of channels caller log
  pub stay : (more : Log) → AllByRecursion (λ e. e.0 ≢ seat) more →
      turns_at channels seat caller (log ++ more) ≡ turns_at channels seat caller log

abbrev pub SeatLaw : Type 0
SeatLaw = (channels seat : ℕ) (caller : Caller) (log : Log) → AreTurnsOfSeat channels seat caller log

-- the states that the Frames among turns found
abbrev pub found_by : List Turn → List FrameState
found_by turns = map (λ t. t.found) (filter (λ t. is_frame t.made) turns)

-- the Frames of a legal log are those among the application's turns
abbrev pub FramesLaw : Type 0
FramesLaw =
    (channels : ℕ) (log : Log) →
    IsLegal channels log → found_by (turns_of channels App log) ≡ found_by_frames channels log
