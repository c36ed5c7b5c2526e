-- What a reader of a live text holds of what is not whole yet. No public clause speaks of it.
use Rattle.std.specs.Prelude.{◌≡◌, ℕ, ◌+◌, ◌<◌, ◌≤◌, ◌==◌, Bool, true, false, if◌then◌else◌, nat_lt, List, [], ◌∷◌, ◌++◌, length, map, ℤ, pos, Option, Some, IsSome, Result, Ok, Err}
use Rattle.std.specs.List.{list_all, AllByRecursion}
use Rattle.fx_math.specs.declared.lenses.Lens.{Lens}
use Rattle.pf_model.specs.declared.lines.BaseStep.{BaseStep}
use Rattle.pf_model.specs.declared.lines.BaseLine.{BaseLine}
use Rattle.play_format.specs.declared.refusal.LineError.{LineError}
use Rattle.play_format.specs.declared.commands.Command.{Command}
use Rattle.play_format.specs.declared.commands.Command.TheVariants as command
use Rattle.play_format.specs.declared.places.Version.TheVariants as version
use Rattle.play_format.specs.declared.places.Place.{Place}
use Rattle.play_format.specs.declared.places.Place.TheVariants as place
use Rattle.play_format.specs.declared.places.Spot.{Spot}
use Rattle.play_format.specs.Commands.{Entry, limits_of}
use Rattle.play_format.specs.Places.{AreWithin, announced, is_ordered, has_room, is_triangle, stands_at, place_after, start}
use Rattle.play_format.specs.Spelling.{tri_entry, base_entries, AreBaseNumbered}
use Rattle.play_format.specs.Written.{AreTriangles, IsBaseStep}
use Rattle.play_format.specs.Plays.{base_fits, open_after}
use Rattle.play_format.specs.Making.{base_step_of}
use Rattle.play_format.specs.Outcomes.{Fails}
use Rattle.play_format.specs.Rests.{IsSound}
use Rattle.play_format.specs.Sections.{IsSize, is_buffer}
use Rattle.live_text.specs.declared.given.Given.{Given}
use Rattle.live_text.specs.declared.head.Head.{Head}
use Rattle.live_text.specs.declared.head.Head.TheVariants as head
use Rattle.live_text.specs.declared.opened.Opened.{Opened}
use Rattle.live_text.specs.declared.state.State.{State}
use Rattle.live_text.specs.LiveGrammar.{live_entry_at, live_next, back_in_app}
use Rattle.live_text.specs.LiveCommands.{is_merge, BeginsWithBuffer}
use Rattle.live_text.specs.Stands.{LiveStand, LineGives, live_step, stand_behind, left_at, whole_at, begun_at, SpellsGiven}

-- Lines

-- the commands of the application in a live text
abbrev pub live_app : Command → Bool
live_app command.View = true
live_app command.ChannelView = true
live_app command.Sync = true
live_app command.Frame = true
live_app (command.Edit f) = true
live_app _ = false

-- what may stand outside a block, and inside
abbrev pub live_outside : Command → Bool
live_outside command.Buffer = true
live_outside c = live_app c

abbrev pub live_inside : Command → Bool
live_inside command.BufferAdd = true
live_inside command.BufferRemove = true
live_inside command.Merge = true
live_inside (command.Edit f) = true
live_inside _ = false

-- the same, by whether a block is begun
abbrev pub stands_in : Bool → Command → Bool
stands_in false c = live_outside c
stands_in true c = live_inside c

abbrev pub live_stands : Place → Command → Bool
live_stands place.App c = live_outside c
live_stands place.Buffer c = live_inside c
live_stands p c = stands_at version.Two p c

-- a line that was read at a spot
pub record LiveFits (s : Spot) (c : Command) (zs : List ℤ) : Type 0 where
  pub stands : (if nat_lt 0 s.due then is_triangle c else live_stands s.place c) ≡ true
  pub within : AreWithin (limits_of s.channels c) zs
  pub ordered : is_ordered c zs ≡ true
  pub room : has_room s c zs ≡ true

-- The header

abbrev pub size_entry : ℕ → ℕ → Entry
size_entry w h = (command.Size, pos w ∷ pos h ∷ [])

abbrev pub lens_entry : Lens → Entry
lens_entry l = (command.Lens, pos l.f ∷ l.near ∷ l.far ∷ [])

abbrev pub back_entry : List ℕ → Entry
back_entry b = (command.Back, map pos b)

-- the lines that were read of it, in a text of so many channels
abbrev pub head_entries : Head → ℕ → List Entry
head_entries head.Nothing n = []
head_entries (head.Size w h) n = size_entry w h ∷ []
head_entries (head.Lens l) n = size_entry l.w l.h ∷ lens_entry l ∷ []
head_entries (head.Back l b) n = size_entry l.w l.h ∷ lens_entry l ∷ back_entry b ∷ []
head_entries (head.Channels l b) n =
    size_entry l.w l.h ∷ lens_entry l ∷ back_entry b ∷ (command.Channels, pos n ∷ []) ∷ []
head_entries head.Given n = []

-- what was read of it at a place
abbrev pub IsHead : Place → Head → Type 0
IsHead place.Size head.Nothing = Unit {0}
IsHead place.Lens (head.Size w h) = IsSize w h
IsHead place.Back (head.Lens l) = Unit {0}
IsHead place.Start (head.Back l b) = length b ≡ 3
IsHead place.Opening (head.Channels l b) = length b ≡ 3
IsHead place.App head.Given = Unit {0}
IsHead place.Buffer head.Given = Unit {0}
IsHead _ _ = ⊥

-- before the line of the number of channels there is one
abbrev pub is_early : Place → Bool
is_early place.Size = true
is_early place.Lens = true
is_early place.Back = true
is_early place.Start = true
is_early _ = false

abbrev pub is_header : Place → Bool
is_header place.Opening = true
is_header p = is_early p

-- a line of the header was read
pub record HeadLine (s : Spot) (h : Head) (c : Command) (zs : List ℤ) : Type 0 where
  pub place : is_header s.place ≡ true
  pub settled : s.due ≡ 0
  pub head : IsHead s.place h
  pub one : is_early s.place ≡ true → s.channels ≡ 1
  pub fits : LiveFits s c zs

-- what was read of the header is this behind a line, and this was given
pub record HeadAfter (s : Spot) (h : Head) (c : Command) (zs : List ℤ) (k : Head) (found : Option Given) : Type 0 where
  pub settled : (live_next s c zs).due ≡ 0
  pub head : IsHead (live_next s c zs).place k
  pub outside : is_buffer (live_next s c zs).place ≡ false
  pub one : is_early (live_next s c zs).place ≡ true → (live_next s c zs).channels ≡ 1
  pub lines : head_entries k (live_next s c zs).channels
      ≡ left_at (live_next s c zs) (head_entries h s.channels ++ (c, zs) ∷ [])
  pub spelled : (n : ℕ) → SpellsGiven (live_next s c zs).channels n found
      (whole_at (live_next s c zs) (head_entries h s.channels ++ (c, zs) ∷ []))

-- A command, and a block

-- a command and its triangle lines that were read
abbrev pub opened_entries : Opened → List Entry
opened_entries o = (o.command, o.numbers.items) ∷ map tri_entry o.tris.items

-- those that wait for more
abbrev pub due_entries : ℕ → Opened → List Entry
due_entries due o = if due == 0 then [] else opened_entries o

-- the steps of a block that is not closed
pub record BlockSoFar (n : ℕ) (ls : List BaseLine) : Type 0 where
  pub numbered : AreBaseNumbered n ls
  pub written : AllByRecursion (λ l. IsBaseStep l.step) ls
  pub fitting : list_all (λ l. base_fits l.step) ls ≡ true
  pub begins : BeginsWithBuffer ls
  pub opened : open_after false ls ≡ Some true
  pub none_merges : AllByRecursion (λ l. is_merge l.step ≡ false) ls

-- the steps of a block, by whether one is begun
abbrev pub IsBegun : Bool → ℕ → List BaseLine → Type 0
IsBegun false n ls = ls ≡ []
IsBegun true n ls = BlockSoFar n ls

-- a command of which triangle lines are due
pub record IsDue (n : ℕ) (w : State) : Type 0 where
  pub behind_header : is_header w.spot.place ≡ false
  pub stands : stands_in (is_buffer w.spot.place) w.opened.command ≡ true
  pub number : w.opened.line ≡ n + length (base_entries w.block.items)
  pub within : AreWithin (limits_of w.spot.channels w.opened.command) w.opened.numbers.items
  pub count : length w.opened.tris.items + w.spot.due ≡ announced w.opened.command w.opened.numbers.items
  pub written : AreTriangles w.opened.tris.items

-- The whole state

-- the lines that were read of what is not whole yet
abbrev pub begun_of : State → List Entry
begun_of w = head_entries w.head w.spot.channels ++ (base_entries w.block.items ++ due_entries w.spot.due w.opened)

abbrev pub stand_of : State → LiveStand
stand_of w = record { line = w.line; spot = w.spot; begun = begun_of w }

-- between two lines: n is the number of the first line of what is not whole yet
pub record Holds (n : ℕ) (w : State) : Type 0 where
  pub sound : IsSound w.spot
  pub version : w.spot.version ≡ version.Two
  pub some : 1 ≤ n
  pub few : w.line ≤ 536870912
  pub first : n + length (begun_of w) ≡ w.line
  pub opening : w.line ≡ 1 → w.spot ≡ start w.spot.version
  pub head : IsHead w.spot.place w.head
  pub one : is_early w.spot.place ≡ true → w.spot.channels ≡ 1
  pub block : IsBegun (is_buffer w.spot.place) n w.block.items
  pub settled : w.spot.due ≡ 0 → w.opened.tris.items ≡ []
  pub due : 0 < w.spot.due → IsDue n w

abbrev pub IsHeld : State → Type 0
IsHeld w = (n : ℕ) × Holds n w

-- the block and the command
abbrev pub full_of : State → List Entry
full_of w = base_entries w.block.items ++ opened_entries w.opened

abbrev pub place_in : Bool → Place
place_in false = place.App
place_in true = place.Buffer

-- The line of a command or of a triangle was read, and the command has not been put where it belongs; whether a block was
-- begun before it.
pub record HasMoved (n : ℕ) (was : Bool) (w : State) : Type 0 where
  pub sound : IsSound w.spot
  pub version : w.spot.version ≡ version.Two
  pub some : 1 ≤ n
  pub few : w.line ≤ 536870912
  pub later : 1 < w.line
  pub first : n + length (full_of w) ≡ w.line
  pub head : w.head ≡ head.Given
  pub place : w.spot.place ≡ back_in_app (place_after w.opened.command (place_in was))
  pub block : IsBegun was n w.block.items
  pub stands : stands_in was w.opened.command ≡ true
  pub number : w.opened.line ≡ n + length (base_entries w.block.items)
  pub within : AreWithin (limits_of w.spot.channels w.opened.command) w.opened.numbers.items
  pub count : length w.opened.tris.items + w.spot.due ≡ announced w.opened.command w.opened.numbers.items
  pub written : AreTriangles w.opened.tris.items

abbrev pub IsMoved : State → Type 0
IsMoved w = (n : ℕ) × (was : Bool) × HasMoved n was w

-- it has been put there
pub record Finishes (w v : State) (found : Option Given) : Type 0 where
  pub held : IsHeld v
  pub line : v.line ≡ w.line
  pub spot : v.spot ≡ w.spot
  pub begun : begun_of v ≡ left_at w.spot (full_of w)
  pub spelled : (n : ℕ) → n + length (full_of w) ≡ w.line
      → SpellsGiven w.spot.channels n found (whole_at w.spot (full_of w))

-- A line behind the first was read, and this was given.
pub record EntryGives (s : LiveStand) (line : List ℕ) (t : LiveStand) (found : Option Given) : Type 0 where
  pub entry : Entry
  pub whole : List Entry
  pub read : live_entry_at s.spot line ≡ Ok entry
  pub behind : stand_behind s (entry ∷ []) ≡ (t, whole)
  pub spelled : SpellsGiven t.spot.channels (begun_at s) found whole

-- what reading a line behind the first does
abbrev pub EntryRead : State → List ℕ → State → Result (Option Given) LineError → Type 0
EntryRead w line v (Ok found) = IsHeld v × EntryGives (stand_of w) line (stand_of v) found
EntryRead w line v (Err e) = IsHeld v × (stand_of v ≡ stand_of w) × Fails e (live_entry_at w.spot line)

-- The numbers of the header's lines

abbrev pub IsSizeRead : List ℤ → ℕ → ℕ → Type 0
IsSizeRead zs w h = (zs ≡ pos w ∷ pos h ∷ []) × IsSize w h

abbrev pub IsLensRead : List ℤ → ℕ → ℕ → Lens → Type 0
IsLensRead zs w h l = (zs ≡ pos l.f ∷ l.near ∷ l.far ∷ []) × (l.w ≡ w) × (l.h ≡ h)

abbrev pub IsBackRead : List ℤ → List ℕ → Type 0
IsBackRead zs b = (zs ≡ map pos b) × (length b ≡ 3)

-- A step of a block

-- the command that was read makes a step of a block
pub record MakesStep (w : State) : Type 0 where
  pub few : length w.opened.tris.items ≤ 4096
  pub some : IsSome (base_step_of w.opened.command w.opened.numbers.items w.opened.tris.items)

-- it was put behind the others
pub record AddsStep (w v : State) : Type 0 where
  pub line : v.line ≡ w.line
  pub spot : v.spot ≡ w.spot
  pub head : v.head ≡ w.head
  pub tris : v.opened.tris.items ≡ []
  pub step : BaseStep
  pub makes : base_step_of w.opened.command w.opened.numbers.items w.opened.tris.items ≡ Some step
  pub block : v.block.items ≡ w.block.items ++ (record { line = w.opened.line; step = step }) ∷ []

-- what reading a line does
abbrev pub LineRead : State → List ℕ → State → Result (Option Given) LineError → Type 0
LineRead w line v (Ok found) = IsHeld v × LineGives (stand_of w) line (stand_of v) found
LineRead w line v (Err e) = IsHeld v × (stand_of v ≡ stand_of w) × Fails e (live_step (stand_of w) line)
