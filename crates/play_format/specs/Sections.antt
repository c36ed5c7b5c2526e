-- What is read of a section, one step after the other.
use Rattle.std.specs.Prelude.{◌≡◌, ℕ, ◌+◌, ◌<◌, ◌≤◌, Bool, true, false, List, [], ◌∷◌, ◌++◌, length, map, ℤ, if◌then◌else◌, Option, Some, None, Result, Ok}
use Rattle.std.specs.List.{list_all, AllByRecursion}
use Rattle.fx_math.specs.declared.lenses.Lens.{Lens}
use Rattle.pf_model.specs.declared.geometry.Tri.{Tri}
use Rattle.pf_model.specs.declared.lines.AppLine.{AppLine}
use Rattle.pf_model.specs.declared.lines.BaseLine.{BaseLine}
use Rattle.play_format.specs.declared.refusal.Refusal.{Refusal}
use Rattle.play_format.specs.declared.commands.Command.{Command}
use Rattle.play_format.specs.declared.commands.Command.TheVariants as command
use Rattle.play_format.specs.declared.places.Place.{Place}
use Rattle.play_format.specs.declared.places.Place.TheVariants as place
use Rattle.play_format.specs.declared.sections.Turn.{Turn}
use Rattle.play_format.specs.declared.sections.Turn.TheVariants as turn
use Rattle.play_format.specs.Places.{next_spot, Fits}
use Rattle.play_format.specs.Commands.{Entry}
use Rattle.play_format.specs.declared.reader.Reader.{Reader}
use Rattle.play_format.specs.Rests.{Stand, stand, unread, with_front}
use Rattle.play_format.specs.Spelling.{app_lines, base_lines, tri_entry, app_entries, base_entries, AreAppNumbered, AreBaseNumbered, channels_entries, header_entries}
use Rattle.play_format.specs.Written.{AreTriangles, IsAppStep, IsBaseStep}
use Rattle.play_format.specs.Plays.{app_fits, base_fits, opened, open_after}

-- where a reader stands
abbrev pub stand_of : Reader → Stand
stand_of r = stand r.spot r.line r.rest.now

-- what is read of the text that it has left
abbrev pub unread_by : Reader → Result (List Entry) Refusal
unread_by r = unread r.spot r.line r.rest.now

-- lines were read between two stands
pub record Passes (a b : Stand) (es : List Entry) : Type 0 where
  pub told : unread a.spot a.line a.text ≡ with_front es (unread b.spot b.line b.text)
  pub line : b.line ≡ a.line + length es
  pub version : b.spot.version ≡ a.spot.version
  pub channels : b.spot.channels ≡ a.spot.channels

-- one line was read
pub record LineRead (a b : Stand) (c : Command) (zs : List ℤ) : Type 0 where
  pub told : unread a.spot a.line a.text ≡ with_front ((c, zs) ∷ []) (unread b.spot b.line b.text)
  pub fits : Fits a.spot c zs
  pub spot : b.spot ≡ next_spot a.spot c zs
  pub line : b.line ≡ a.line + 1
  pub shorter : length b.text < length a.text

-- a stand where no triangle line is due
pub record IsAt (p : Place) (a : Stand) : Type 0 where
  pub place : a.spot.place ≡ p
  pub settled : a.spot.due ≡ 0

-- a triangle line was read
pub record TriangleRead (a b : Stand) (t : Tri) : Type 0 where
  pub read : LineRead a b command.Triangle (tri_entry t).1
  pub written : AreTriangles (t ∷ [])

-- all triangle lines that were due
pub record TrianglesRead (a b : Stand) (ts : List Tri) : Type 0 where
  pub passes : Passes a b (map tri_entry ts)
  pub count : length ts ≡ a.spot.due
  pub place : b.spot.place ≡ a.spot.place
  pub settled : b.spot.due ≡ 0
  pub written : AreTriangles ts
  pub not_longer : length b.text ≤ length a.text

-- a step of the application
pub record AppStepRead (a b : Stand) (l : AppLine) : Type 0 where
  pub passes : Passes a b (app_lines l.step)
  pub line : l.line ≡ a.line
  pub place : IsAt place.App b
  pub written : IsAppStep l.step
  pub fitting : app_fits a.spot.channels l.step ≡ true
  pub shorter : length b.text < length a.text

-- a step of the application, the line `dbase`, or the end
abbrev pub AppTurn : Stand → Stand → Turn AppLine → Type 0
AppTurn a b (turn.Step l) = AppStepRead a b l
AppTurn a b turn.Section = Passes a b ((command.Dbase, []) ∷ []) × IsAt place.Dbase b
AppTurn a b turn.End = (unread a.spot a.line a.text ≡ Ok []) × (b.line ≡ a.line)

-- steps of the application
pub record AppRead (channels n : ℕ) (ls : List AppLine) : Type 0 where
  pub numbered : AreAppNumbered n ls
  pub written : AllByRecursion (λ l. IsAppStep l.step) ls
  pub fitting : list_all (λ l. app_fits channels l.step) ls ≡ true

-- the section of the application, up to the line `dbase` or to the end
abbrev pub AppSection : Stand → Stand → List AppLine → Bool → Type 0
AppSection a b ls true =
    Passes a b (app_entries ls ++ (command.Dbase, []) ∷ []) × IsAt place.Dbase b × AppRead a.spot.channels a.line ls
AppSection a b ls false =
    (unread a.spot a.line a.text ≡ Ok (app_entries ls)) × (b.line ≡ a.line + length (app_entries ls))
    × AppRead a.spot.channels a.line ls

abbrev pub is_buffer : Place → Bool
is_buffer place.Buffer = true
is_buffer _ = false

-- the place outside a buffer and inside
abbrev pub place_of : Bool → Place
place_of false = place.Dbase
place_of true = place.Buffer

-- a stand in the section of the database process
abbrev pub IsInBase : Stand → Type 0
IsInBase a = IsAt (place_of (is_buffer a.spot.place)) a

-- a step of the database process
pub record BaseStepRead (a b : Stand) (l : BaseLine) : Type 0 where
  pub passes : Passes a b (base_lines l.step)
  pub line : l.line ≡ a.line
  pub opens : opened (is_buffer a.spot.place) l.step ≡ Some (is_buffer b.spot.place)
  pub place : IsInBase b
  pub written : IsBaseStep l.step
  pub fitting : base_fits l.step ≡ true
  pub shorter : length b.text < length a.text

-- a step of the database process, or the end, which comes outside a buffer
abbrev pub BaseTurn : Stand → Stand → Option BaseLine → Type 0
BaseTurn a b (Some l) = BaseStepRead a b l
BaseTurn a b None = (unread a.spot a.line a.text ≡ Ok []) × (b.line ≡ a.line) × (is_buffer a.spot.place ≡ false)

-- steps of the database process
pub record BaseRead (n : ℕ) (ls : List BaseLine) : Type 0 where
  pub numbered : AreBaseNumbered n ls
  pub written : AllByRecursion (λ l. IsBaseStep l.step) ls
  pub fitting : list_all (λ l. base_fits l.step) ls ≡ true

-- the section of the database process
abbrev pub BaseSection : Stand → Stand → List BaseLine → Type 0
BaseSection a b ls =
    (unread a.spot a.line a.text ≡ Ok (base_entries ls)) × (b.line ≡ a.line + length (base_entries ls))
    × BaseRead a.line ls × (open_after false ls ≡ Some false)

-- The header

-- a size of a picture
pub record IsSize (w h : ℕ) : Type 0 where
  pub some_width : 1 ≤ w
  pub most_width : w ≤ 1024
  pub some_height : 1 ≤ h
  pub most_height : h ≤ 1024

-- the lines from the fifth up to `app`
pub record StartRead (a b : Stand) : Type 0 where
  pub says : Bool
  pub told : unread a.spot a.line a.text
      ≡ with_front (channels_entries says b.spot.channels ++ (command.App, []) ∷ []) (unread b.spot b.line b.text)
  pub line : b.line ≡ a.line + (if says then 2 else 1)
  pub version : b.spot.version ≡ a.spot.version
  pub one_channel : says ≡ false → b.spot.channels ≡ a.spot.channels
  pub place : IsAt place.App b

-- the header behind the first line
pub record HeaderRead (a b : Stand) (lens : Lens) (back : List ℕ) : Type 0 where
  pub says : Bool
  pub told : unread a.spot a.line a.text
      ≡ with_front (header_entries says lens back b.spot.channels) (unread b.spot b.line b.text)
  pub line : b.line ≡ a.line + (if says then 5 else 4)
  pub version : b.spot.version ≡ a.spot.version
  pub one_channel : says ≡ false → b.spot.channels ≡ 1
  pub place : IsAt place.App b
  pub back_three : length back ≡ 3
