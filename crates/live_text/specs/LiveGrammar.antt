-- Reading a live text by whole lines, with the first wrong line and the first cause in it.
use Rattle.std.specs.Prelude.{ℕ, ◌+◌, ◌==◌, ◌||◌, Bool, if◌then◌else◌, nat_lt, List, [], ◌∷◌, ◌++◌, length, codes, ℤ, slice_index_or, Option, Some, None, Result, Ok, Err}
use Rattle.std.specs.Result.{result_err}
use Rattle.std.specs.Str.{bytes_eq}
use Rattle.play_format.specs.declared.refusal.Why.{Why}
use Rattle.play_format.specs.declared.refusal.Why.TheVariants as whys
use Rattle.play_format.specs.declared.refusal.Refusal.{Refusal}
use Rattle.play_format.specs.declared.commands.Command.{Command}
use Rattle.play_format.specs.declared.places.Version.TheVariants as version
use Rattle.play_format.specs.declared.places.Place.{Place}
use Rattle.play_format.specs.declared.places.Place.TheVariants as place
use Rattle.play_format.specs.declared.places.Spot.{Spot}
use Rattle.play_format.specs.Words.{words, pieces}
use Rattle.play_format.specs.Commands.{Entry}
use Rattle.play_format.specs.Places.{may_end, place_after, channels_after, due_after, start}
use Rattle.play_format.specs.Grammar.{◌>>=◌, entry_at, at_line}

abbrev pub first_word : List ℕ → List ℕ
first_word line = slice_index_or (words line) 0 []

-- the first words of a play that a live text has nowhere
abbrev pub is_barred : List ℕ → Bool
is_barred w = bytes_eq w (codes "wait") || bytes_eq w (codes "dbase")

-- where a play of version 2 has a line with this first word: `buffer` in the section dbase, others at the same place
abbrev pub place_for : Place → List ℕ → Place
place_for place.App w = if bytes_eq w (codes "buffer") then place.Dbase else place.App
place_for p w = p

abbrev pub spot_for : Spot → List ℕ → Spot
spot_for s w = record s { place = place_for s.place w }

-- a line with its command and its numbers, or the first cause against it
unfoldable pub live_entry_at : Spot → List ℕ → Result Entry Why
live_entry_at s line =
    if is_barred (first_word line) then Err whys.Command else entry_at (spot_for s (first_word line)) line

-- behind `merge` the application goes on
abbrev pub back_in_app : Place → Place
back_in_app place.Dbase = place.App
back_in_app p = p

-- The spot behind a line. The triangles of a whole live text have no limit, so none are counted.
abbrev pub live_next : Spot → Command → List ℤ → Spot
live_next s c zs = record {
  version = s.version;
  place = back_in_app (place_after c s.place);
  channels = channels_after c zs s.channels;
  due = due_after c zs s.due;
  triangles = 0;
}

-- the entry of line number n; the first line has none, and has to be `perfly live 1`
abbrev pub entries_at : ℕ → Spot → List ℕ → Result (List Entry) Why
entries_at n s line =
    if n == 1 then (if bytes_eq line (codes "perfly live 1") then Ok [] else Err whys.Version)
    else (live_entry_at s line >>= λ e. Ok (e ∷ []))

-- the spot behind lines
abbrev pub spot_behind : Spot → List Entry → Spot
spot_behind s [] = s
spot_behind s (e ∷ es) = spot_behind (live_next s e.0 e.1) es

-- line number n: it may not be the 536,870,912th, nor have more than 1,024 bytes
abbrev pub live_judged : {A : Type 0} → ℕ → List ℕ → Result A Why → Result A Why
live_judged n line read =
    if nat_lt 536870911 n then Err whys.Count else (if nat_lt 1024 (length line) then Err whys.Length else read)

-- what is wrong with what stands behind the last line feed: nothing, where it is empty and the text may end there
abbrev pub end_refusal : Spot → ℕ → List ℕ → Option Refusal
end_refusal s n rest =
    if length rest == 0 then (if may_end s then None else Some (record { line = n; why = whys.Count }))
    else Some (record { line = n; why = (if nat_lt 536870911 n then whys.Count else whys.Length) })

abbrev pub unless : {A : Type 0} → Option Refusal → A → Result A Refusal
unless None x = Ok x
unless (Some r) x = Err r

-- the lines from number n on
unfoldable pub live_from : Spot → ℕ → List (List ℕ) → Result (List Entry) Refusal
live_from s n [] = Ok []
live_from s n (line ∷ more) =
    if length more == 0 then unless (end_refusal s n line) []
    else (at_line n (live_judged n line (entries_at n s line))
    >>= λ es. live_from (spot_behind s es) (n + 1) more >>= λ fs. Ok (es ++ fs))

-- The lines of a live text behind the first, or its first wrong line with the first cause against it.
abbrev pub live_reading : List ℕ → Result (List Entry) Refusal
live_reading text = live_from (start version.Two) 1 (pieces text)

abbrev pub live_refusal : List ℕ → Option Refusal
live_refusal text = result_err (live_reading text)
