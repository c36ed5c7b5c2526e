-- The texts of a play.
use Rattle.std.specs.Prelude.{◌≡◌, ℕ, ◌+◌, ◌<◌, ◌≤◌, Bool, true, false, IsTrue, if◌then◌else◌, List, [], ◌∷◌, ◌++◌, map, length, Result, Ok, Err, Option, Some}
use Rattle.std.specs.Result.{result_err}
use Rattle.std.specs.List.{AllByRecursion}
use Rattle.pf_model.specs.declared.lines.BaseLine.{BaseLine}
use Rattle.play_format.specs.declared.refusal.Refusal.{Refusal}
use Rattle.play_format.specs.declared.refusal.ParseError.{ParseError}
use Rattle.play_format.specs.declared.refusal.ParseError.TheVariants as parse_error
use Rattle.play_format.specs.declared.commands.Command.TheVariants as command
use Rattle.play_format.specs.declared.places.Version.{Version}
use Rattle.play_format.specs.declared.places.Spot.{Spot}
use Rattle.play_format.specs.Places.{may_end, next_spot, start, Fits}
use Rattle.play_format.specs.Grammar.{reading}
use Rattle.play_format.specs.Commands.{Entry}
use Rattle.play_format.specs.Spelling.{line_of, text_of_lines, version_line, header_entries, app_entries, base_entries, AreAppNumbered, AreBaseNumbered}
use Rattle.play_format.specs.Written.{IsAppStep, IsBaseStep}
use Rattle.play_format.specs.Plays.{Script}

-- What a play's text may choose: the version, whether the number of channels has a line, and whether the database process
-- has a section.
pub record Layout : Type 0 where
  pub version : Version
  pub says_channels : Bool
  pub has_dbase : Bool

-- the section of the database process
abbrev pub dbase_entries : Bool → List BaseLine → List Entry
dbase_entries false ls = []
dbase_entries true ls = (command.Dbase, []) ∷ base_entries ls

-- all lines of a play behind the first
abbrev pub entries_of : Layout → Script → List Entry
entries_of layout p =
    header_entries layout.says_channels p.lens p.back p.channels
    ++ (app_entries p.app ++ dbase_entries layout.has_dbase p.dbase)

-- the number of the first line behind the header
abbrev pub first_line : Bool → ℕ
first_line says = if says then 7 else 6

-- The steps of a play are as lines make them, and each has the number of its own line. What a layout leaves out has its
-- value without a line.
pub record IsLaidOut (layout : Layout) (p : Script) : Type 0 where
  pub app_numbers : AreAppNumbered (first_line layout.says_channels) p.app
  pub dbase_numbers : AreBaseNumbered (first_line layout.says_channels + length (app_entries p.app) + 1) p.dbase
  pub app_written : AllByRecursion (λ l. IsAppStep l.step) p.app
  pub dbase_written : AllByRecursion (λ l. IsBaseStep l.step) p.dbase
  pub back : length p.back ≡ 3
  pub one_channel : layout.says_channels ≡ false → p.channels ≡ 1
  pub no_dbase : layout.has_dbase ≡ false → p.dbase ≡ []

-- lines that may follow each other from a spot on, up to where a play may end
abbrev pub Follow : Spot → List Entry → Type 0
Follow s [] = IsTrue (may_end s)
Follow s (e ∷ es) = Fits s e.0 e.1 × Follow (next_spot s e.0 e.1) es

-- the text spells the play
pub record Reads (text : List ℕ) (p : Script) : Type 0 where
  pub layout : Layout
  pub laid_out : IsLaidOut layout p
  pub follow : Follow (start layout.version) (entries_of layout p)
  pub lines : length (entries_of layout p) < 262144
  pub few : length text ≤ 16777216
  pub spelled : text ≡ text_of_lines (version_line layout.version ∷ map line_of (entries_of layout p))

abbrev pub HasReading : List ℕ → Type 0
HasReading text = (p : Script) × Reads text p

-- the first wrong line of a text with the first cause against it, where a line is wrong
abbrev pub first_refusal : List ℕ → Option Refusal
first_refusal text = result_err (reading text)

-- a text that spells the play is read as it, unless memory runs out
abbrev pub Gives : Result Script ParseError → Script → Type 0
Gives (Ok q) p = q ≡ p
Gives (Err parse_error.NoMemory) p = Unit {0}
Gives (Err (parse_error.Refused r)) p = ⊥

-- a refusal comes where the text has no reading, and is its first one
abbrev pub IsRefusal : ParseError → List ℕ → Type 0
IsRefusal parse_error.NoMemory text = Unit {0}
IsRefusal (parse_error.Refused r) text = (first_refusal text ≡ Some r) × ¬ HasReading text
