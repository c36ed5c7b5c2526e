-- A live text that comes in pieces: what was read of it, what was given, and what comes next.
use Rattle.std.specs.Prelude.{◌≡◌, ◌≢◌, ℕ, ◌+◌, ◌<◌, ◌≤◌, Bool, true, false, List, [], ◌∷◌, ◌++◌, length, take, drop, Option, Some, None, Result, Ok, Err}
use Rattle.std.specs.List.{list_all, AllByRecursion}
use Rattle.play_format.specs.declared.refusal.Refusal.{Refusal}
use Rattle.play_format.specs.Plays.{app_fits, base_fits, open_after}
use Rattle.play_format.specs.Spelling.{text_of_lines}
use Rattle.live_text.specs.declared.given.Given.{Given}
use Rattle.live_text.specs.declared.given.Given.TheVariants as live
use Rattle.live_text.specs.LiveGrammar.{live_reading}
use Rattle.live_text.specs.LiveCommands.{LiveCommand, Line, Block, LiveHeader, is_wait, MergesOnce, SpellsLive}
use Rattle.live_text.specs.Stands.{LiveStand, live_start, live_step, LineGives, LinesGive}
use Rattle.live_feed.specs.declared.error.FeedError.{FeedError}
use Rattle.live_feed.specs.declared.error.FeedError.TheVariants as feed_error

-- where the reader stands, and the bytes that were not read yet
pub record FeedState : Type 0 where
  pub stand : LiveStand
  pub rest : List ℕ

abbrev pub HasNoFeed : List ℕ → Type 0
HasNoFeed bytes = AllByRecursion (λ b. b ≢ 10) bytes

-- what was given at some of the lines
abbrev pub somes : List (Option Given) → List Given
somes [] = []
somes (None ∷ found) = somes found
somes (Some g ∷ found) = g ∷ somes found

-- The text is whole lines and the rest; the lines were read, one after the other, and gave exactly this.
pub record Fed (text : List ℕ) (gs : List Given) (f : FeedState) : Type 0 where
  pub lines : List (List ℕ)
  pub found : List (Option Given)
  pub whole : text ≡ text_of_lines lines ++ f.rest
  pub cut : AllByRecursion HasNoFeed lines
  pub read : LinesGive live_start lines found f.stand
  pub gave : somes found ≡ gs

-- What was given, as a header and commands

-- the header, where it comes first
abbrev pub header_of : List Given → Option LiveHeader
header_of (live.Header lens back channels ∷ gs) = Some (record { lens = lens; back = back; channels = channels })
header_of gs = None

abbrev pub is_command : Given → Bool
is_command (live.Header lens back channels) = false
is_command g = true

abbrev pub commands_of : List Given → List LiveCommand
commands_of [] = []
commands_of (live.Header lens back channels ∷ gs) = commands_of gs
commands_of (live.Line l ∷ gs) = Line l ∷ commands_of gs
commands_of (live.Block ls ∷ gs) = Block ls.items ∷ commands_of gs

-- One header was given, and behind it commands; a front of the text spells them.
pub record IsSpelled (text : List ℕ) (gs : List Given) : Type 0 where
  pub h : LiveHeader
  pub header : header_of gs ≡ Some h
  pub others : list_all is_command (drop 1 gs) ≡ true
  pub front : List ℕ
  pub behind : List ℕ
  pub parts : text ≡ front ++ behind
  pub spelled : SpellsLive front h (commands_of gs)

-- What may be given behind a header, and what comes first
abbrev pub IsGood : Option LiveHeader → Given → Type 0
IsGood None (live.Header lens back channels) = (1 ≤ channels) × (channels ≤ 4)
IsGood None g = ⊥
IsGood (Some h) (live.Header lens back channels) = ⊥
IsGood (Some h) (live.Line l) = (app_fits h.channels l.step ≡ true) × (is_wait l.step ≡ false)
IsGood (Some h) (live.Block ls) =
    (list_all (λ l. base_fits l.step) ls.items ≡ true) × (open_after false ls.items ≡ Some false) × MergesOnce ls.items

-- The calls

-- what reading on from here gives: the text is refused whatever comes, or it goes on to be fed
abbrev pub NextGives : List ℕ → List Given → FeedState → Result (Option Given) FeedError → Type 0
NextGives text gs f (Ok (Some g)) = Fed text (gs ++ g ∷ []) f × IsGood (header_of gs) g
NextGives text gs f (Ok None) = Fed text gs f × HasNoFeed f.rest × (length f.rest ≤ 1024)
NextGives text gs f (Err (feed_error.Refused r)) = Fed text gs f × ((more : List ℕ) → live_reading (text ++ more) ≡ Err r)
NextGives text gs f (Err feed_error.NoMemory) = Fed text gs f

-- what the end of a text means that was read but for the bytes behind its last line feed
abbrev pub EndsSo : List ℕ → List Given → Result Unit Refusal → Type 0
EndsSo text gs (Ok _) =
    (h : LiveHeader) × (header_of gs ≡ Some h) × (list_all is_command (drop 1 gs) ≡ true)
    × SpellsLive text h (commands_of gs)
EndsSo text gs (Err r) = live_reading text ≡ Err r

-- Lines

-- the next line has n bytes
pub record IsLine (n : ℕ) (rest : List ℕ) : Type 0 where
  pub inside : n < length rest
  pub clear : HasNoFeed (take n rest)
  pub parts : rest ≡ take n rest ++ 10 ∷ drop (n + 1) rest

-- what is said against a line
abbrev pub Blames : FeedState → List ℕ → FeedError → Type 0
Blames f line (feed_error.Refused r) = (r.line ≡ f.stand.line) × (live_step f.stand line ≡ Err r.why)
Blames f line feed_error.NoMemory = Unit {0}

-- what reading a line of n bytes does
abbrev pub LineRead : FeedState → ℕ → FeedState → Result (Option Given) FeedError → Type 0
LineRead f n g (Ok found) = LineGives f.stand (take n f.rest) g.stand found × (g.rest ≡ drop (n + 1) f.rest)
LineRead f n g (Err e) = (g ≡ f) × Blames f (take n f.rest) e
