-- Where a reader of a live text stands between two lines, and what a line makes whole.
use Rattle.std.specs.Prelude.{◌≡◌, ℕ, ◌+◌, ◌-◌, Bool, if◌then◌else◌, List, [], ◌∷◌, ◌++◌, length, Option, Some, None, Result, Ok}
use Rattle.play_format.specs.declared.refusal.Why.{Why}
use Rattle.play_format.specs.declared.places.Version.TheVariants as version
use Rattle.play_format.specs.declared.places.Spot.{Spot}
use Rattle.play_format.specs.Commands.{Entry}
use Rattle.play_format.specs.Places.{may_end, start}
use Rattle.play_format.specs.Grammar.{◌>>=◌}
use Rattle.live_text.specs.declared.given.Given.{Given}
use Rattle.live_text.specs.declared.given.Given.TheVariants as given
use Rattle.live_text.specs.LiveGrammar.{entries_at, spot_behind, live_judged}
use Rattle.live_text.specs.LiveCommands.{LiveCommand, Line, Block, LiveHeader, SpellsHeader, SpellsLine, SpellsBlock}

-- The number of the next line, the spot before it, and the lines that were read of what is not whole yet.
pub record LiveStand : Type 0 where
  pub line : ℕ
  pub spot : Spot
  pub begun : List Entry

-- before the first line
abbrev pub live_start : LiveStand
live_start = record { line = 1; spot = start version.Two; begun = [] }

-- the number of the first line that was read of what is not whole yet
abbrev pub begun_at : LiveStand → ℕ
begun_at s = s.line - length s.begun

-- The header, a command or a block is whole where a text may end: these lines are, or they wait for more.
abbrev pub whole_at : Spot → List Entry → List Entry
whole_at s es = if may_end s then es else []

abbrev pub left_at : Spot → List Entry → List Entry
left_at s es = if may_end s then [] else es

-- the stand behind a line with these entries, and the entries of what the line makes whole
abbrev pub stand_behind : LiveStand → List Entry → LiveStand × List Entry
stand_behind s es =
    let t = spot_behind s.spot es in
    (record { line = s.line + 1; spot = t; begun = left_at t (s.begun ++ es) }, whole_at t (s.begun ++ es))

-- what a line does, or the first cause against it
abbrev pub live_step : LiveStand → List ℕ → Result (LiveStand × List Entry) Why
live_step s line = live_judged s.line line (entries_at s.line s.spot line >>= λ es. Ok (stand_behind s es))

-- lines from number n on that spell what was given, in a text of so many channels; nothing where there are none
abbrev pub SpellsGiven : ℕ → ℕ → Option Given → List Entry → Type 0
SpellsGiven channels n None es = es ≡ []
SpellsGiven channels n (Some (given.Header lens back count)) es =
    SpellsHeader (record { lens = lens; back = back; channels = count }) es × (count ≡ channels)
SpellsGiven channels n (Some (given.Line l)) es = SpellsLine channels n l es
SpellsGiven channels n (Some (given.Block ls)) es = SpellsBlock n ls.items es

-- a line was read between two stands, and this was given
pub record LineGives (s : LiveStand) (line : List ℕ) (t : LiveStand) (found : Option Given) : Type 0 where
  pub whole : List Entry
  pub step : live_step s line ≡ Ok (t, whole)
  pub spelled : SpellsGiven t.spot.channels (begun_at s) found whole

-- lines were read between two stands, one after the other, and this was given at each
abbrev pub LinesGive : LiveStand → List (List ℕ) → List (Option Given) → LiveStand → Type 0
LinesGive s [] [] t = s ≡ t
LinesGive s (line ∷ lines) (found ∷ more) t = (u : LiveStand) × LineGives s line u found × LinesGive u lines more t
LinesGive s _ _ t = ⊥

-- the headers among what was given
abbrev pub headers_in : List (Option Given) → List LiveHeader
headers_in [] = []
headers_in (Some (given.Header lens back channels) ∷ more) = record { lens = lens; back = back; channels = channels } ∷ headers_in more
headers_in (found ∷ more) = headers_in more

-- the commands among what was given
abbrev pub commands_in : List (Option Given) → List LiveCommand
commands_in [] = []
commands_in (Some (given.Line l) ∷ more) = Line l ∷ commands_in more
commands_in (Some (given.Block ls) ∷ more) = Block ls.items ∷ commands_in more
commands_in (found ∷ more) = commands_in more
