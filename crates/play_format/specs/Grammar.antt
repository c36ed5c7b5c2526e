-- Reading a play by whole lines, with the first wrong line and the first cause in it.
use Rattle.std.specs.Prelude.{ℕ, ◌+◌, ◌==◌, ◌&&◌, Bool, if◌then◌else◌, nat_lt, List, [], ◌∷◌, length, drop, codes, ℤ, Option, None, Result, Ok, Err}
use Rattle.std.specs.List.{find}
use Rattle.std.specs.Option.{option_map, ok_or}
use Rattle.std.specs.Str.{bytes_eq}
use Rattle.play_format.specs.declared.refusal.Why.{Why}
use Rattle.play_format.specs.declared.refusal.Why.TheVariants as whys
use Rattle.play_format.specs.declared.refusal.Refusal.{Refusal}
use Rattle.play_format.specs.declared.numbers.Limits.{Limits}
use Rattle.play_format.specs.declared.commands.Form.{Form}
use Rattle.play_format.specs.declared.commands.Form.TheVariants as form
use Rattle.play_format.specs.declared.commands.Command.{Command}
use Rattle.play_format.specs.declared.commands.Command.TheVariants as command
use Rattle.play_format.specs.declared.places.Version.{Version}
use Rattle.play_format.specs.declared.places.Version.TheVariants as version
use Rattle.play_format.specs.declared.places.Spot.{Spot}
use Rattle.play_format.specs.Numbers.{number_at}
use Rattle.play_format.specs.Words.{words, pieces}
use Rattle.play_format.specs.Commands.{Entry, text_of, limits_of, words_in, all_commands}
use Rattle.play_format.specs.Places.{may_stand, may_end, is_ordered, has_room, next_spot, start}

infixl 10 ◌>>=◌
abbrev pub ◌>>=◌ : {A B E : Type 0} → Result A E → (A → Result B E) → Result B E
(Ok x) >>= f = f x
(Err e) >>= f = Err e

-- the numbers of words, from the left
unfoldable pub numbers_at : List Limits → List (List ℕ) → Result (List ℤ) Why
numbers_at [] ws = Ok []
numbers_at (r ∷ rs) [] = Err whys.Fields
numbers_at (r ∷ rs) (w ∷ ws) = do
  z ← number_at r w
  zs ← numbers_at rs ws
  Ok (z ∷ zs)

-- which form of `sw` its last word makes
abbrev pub switched : List ℕ → Form
switched v =
    if bytes_eq v (codes "on") then form.SwitchOn
    else (if bytes_eq v (codes "off") then form.SwitchOff else form.SwitchTo)

-- which form of `sw` these words behind it make
abbrev pub switch_form : List (List ℕ) → Form
switch_form (id ∷ v ∷ []) = switched v
switch_form _ = form.SwitchTo

abbrev pub picked : List (List ℕ) → Command → Command
picked ws (command.Edit form.SwitchTo) = command.Edit (switch_form ws)
picked ws c = c

-- the command that the first word names at this place
abbrev pub named : Spot → List ℕ → Option Command
named s w = find (λ c. bytes_eq (text_of c) w && may_stand s c) all_commands

abbrev pub command_at : Spot → List (List ℕ) → Option Command
command_at s [] = None
command_at s (w ∷ ws) = option_map (picked ws) (named s w)

-- the numbers of a line, of which there have to be as many as the command has
abbrev pub fields_at : Spot → Command → List (List ℕ) → Result (List ℤ) Why
fields_at s c ws =
    if length ws == words_in s.channels c then numbers_at (limits_of s.channels c) (drop 1 ws) else Err whys.Fields

-- what is judged of all numbers of a line
abbrev pub judged : Spot → Command → List ℤ → Result Entry Why
judged s c zs =
    if is_ordered c zs then (if has_room s c zs then Ok (c, zs) else Err whys.Count) else Err whys.Range

-- a line with its command and its numbers, or the first cause against it
unfoldable pub entry_at : Spot → List ℕ → Result Entry Why
entry_at s line = do
  c ← ok_or (command_at s (words line)) whys.Command
  zs ← fields_at s c (words line)
  judged s c zs

-- a line is wrong
abbrev pub at_line : {A : Type 0} → ℕ → Result A Why → Result A Refusal
at_line n (Ok x) = Ok x
at_line n (Err why) = Err (record { line = n; why = why })

-- line number n: it may not be the 262,145th, nor have more than 1,024 bytes
abbrev pub line_at : {A : Type 0} → ℕ → List ℕ → Result A Why → Result A Refusal
line_at n line read =
    at_line n (if nat_lt 262144 n then Err whys.Count
    else (if nat_lt 1024 (length line) then Err whys.Length else read))

-- what stands behind the last line feed: nothing, where the play may end there
abbrev pub end_at : Bool → ℕ → List ℕ → Result (List Entry) Refusal
end_at ends n rest =
    if length rest == 0 then (if ends then Ok [] else Err (record { line = n; why = whys.Count }))
    else Err (record { line = n; why = (if nat_lt 262144 n then whys.Count else whys.Length) })

-- the lines from number n on
unfoldable pub read_from : Spot → ℕ → List (List ℕ) → Result (List Entry) Refusal
read_from s n [] = Ok []
read_from s n (line ∷ more) =
    if length more == 0 then end_at (may_end s) n line
    else (line_at n line (entry_at s line) >>= λ e. read_from (next_spot s e.0 e.1) (n + 1) more >>= λ es. Ok (e ∷ es))

-- the first line
abbrev pub version_at : List ℕ → Result Version Why
version_at line =
    if bytes_eq line (codes "perfly 1") then Ok version.One
    else (if bytes_eq line (codes "perfly 2") then Ok version.Two else Err whys.Version)

abbrev pub judged_version : List ℕ → Result Version Why
judged_version line = if nat_lt 1024 (length line) then Err whys.Length else version_at line

-- a version with the lines behind it
abbrev pub with_version : Version → Result (List Entry) Refusal → Result (Version × List Entry) Refusal
with_version v read = read >>= λ es. Ok (v, es)

-- the version, and the lines behind the first
unfoldable pub lines_at : List (List ℕ) → Result (Version × List Entry) Refusal
lines_at [] = Err (record { line = 1; why = whys.Count })
lines_at (line ∷ more) =
    if length more == 0 then Err (record { line = 1; why = (if length line == 0 then whys.Count else whys.Length) })
    else (at_line 1 (judged_version line) >>= λ v. with_version v (read_from (start v) 2 more))

-- The lines of a text, or its first wrong line with the first cause against it. Line 0 stands for the whole text.
unfoldable pub reading : List ℕ → Result (Version × List Entry) Refusal
reading text =
    if nat_lt 16777216 (length text) then Err (record { line = 0; why = whys.Length }) else lines_at (pieces text)
