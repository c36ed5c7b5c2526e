-- Laws: what of a history its play determines.
use Rattle.std.specs.Prelude.{◌≡◌, ◌≢◌, ℕ, ◌-◌, ◌≤◌, List, [], slice_get, Some}
use Rattle.fx_math.specs.declared.lenses.Lens.{Lens}
use Rattle.pf_model.specs.declared.lines.AppLine.{AppLine}
use Rattle.pf_model.specs.declared.lines.BaseLine.{BaseLine}
use Rattle.pf_history.specs.Asks.{asked_dbase}
use Rattle.pf_history.specs.Fits.{FitsWholly}
use Rattle.pf_history.specs.Logs.{Log, IsLegal}
use Rattle.stage_parts.specs.Pictures.{pictures, frame_numbers}
use Rattle.play_fences.specs.Fences.{first_free_of, IsFenced}
use Rattle.play_fences.specs.Freed.{times_freed}
use Rattle.play_fences.specs.Unsynced.{entries_but_syncs, merge_places}

-- A legal history that fits a play's two sections wholly, with this many channels and frames in flight.
pub record IsWhole (channels ahead : ℕ) (app : List AppLine) (dbase : List BaseLine) (log : Log) : Type 0 where
  pub legal : IsLegal channels log
  pub wholly : FitsWholly channels ahead app dbase log

-- Two histories show the same: they have equal pictures, equal numbers of their Frames, and, but for Syncs, the same
-- commands with the same replies; and all Syncs of the one together free the same nodes as those of the other.
pub record ShowsSame (channels : ℕ) (lens : Lens) (back : List ℕ) (log other : Log) : Type 0 where
  pub same_pictures : pictures channels lens back log ≡ pictures channels lens back other
  pub same_numbers : frame_numbers channels lens log ≡ frame_numbers channels lens other
  pub same_entries : entries_but_syncs log ≡ entries_but_syncs other
  pub same_freed : (serial : ℕ) → times_freed serial log ≡ times_freed serial other

-- Two whole histories of one play, however many frames may be in flight in each, show the same where each merge stands
-- behind the same number of edits, views and Frames.
abbrev pub PlacesLaw : Type 0
PlacesLaw =
    (channels ahead other_ahead : ℕ) (lens : Lens) (back : List ℕ) (app : List AppLine) (dbase : List BaseLine)
    (log other : Log) → IsWhole channels ahead app dbase log → IsWhole channels other_ahead app dbase other →
    merge_places log ≡ merge_places other → ShowsSame channels lens back log other

-- all whole histories of a play show the same
abbrev pub DeterminesPictures : List AppLine → List BaseLine → Type 0
DeterminesPictures app dbase =
    (channels ahead other_ahead : ℕ) (lens : Lens) (back : List ℕ) (log other : Log) →
    IsWhole channels ahead app dbase log → IsWhole channels other_ahead app dbase other →
    ShowsSame channels lens back log other

-- a fenced play determines its pictures
abbrev pub FencedLaw : Type 0
FencedLaw = (app : List AppLine) (dbase : List BaseLine) → IsFenced app dbase → DeterminesPictures app dbase

-- a play that asks for no merges determines its pictures
abbrev pub NoMergesLaw : Type 0
NoMergesLaw = (app : List AppLine) (dbase : List BaseLine) → asked_dbase dbase ≡ [] → DeterminesPictures app dbase

-- a legal history frees each node at most once
abbrev pub FreedOnceLaw : Type 0
FreedOnceLaw = (channels serial : ℕ) (log : Log) → IsLegal channels log → times_freed serial log ≤ 1

-- in each whole history of a fenced play the merges stand at the same places
abbrev pub OnePlaceLaw : Type 0
OnePlaceLaw =
    (channels ahead other_ahead : ℕ) (app : List AppLine) (dbase : List BaseLine) (log other : Log) →
    IsFenced app dbase → IsWhole channels ahead app dbase log → IsWhole channels other_ahead app dbase other →
    merge_places log ≡ merge_places other

-- Another whole history of a play, in which merge j, counted from 1, stands at another place.
pub record HasMoved (channels ahead : ℕ) (app : List AppLine) (dbase : List BaseLine) (log : Log) (j : ℕ) : Type 0 where
  pub other : Log
  pub whole : IsWhole channels ahead app dbase other
  pub elsewhere : slice_get (merge_places other) (j - 1) ≢ slice_get (merge_places log) (j - 1)

-- a free merge has another place in another whole history, wherever it stands in this one
abbrev pub FreeLaw : Type 0
FreeLaw =
    (channels ahead : ℕ) (app : List AppLine) (dbase : List BaseLine) (log : Log) (j : ℕ) →
    IsWhole channels ahead app dbase log → first_free_of app dbase ≡ Some j → HasMoved channels ahead app dbase log j
