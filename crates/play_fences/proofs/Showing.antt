-- Whole histories with their merges at the same places show the same.
use Rattle.std.proofs.Common.{◌≡◌, ℕ, List, [], map, length, refl, sym, ap, ◌∙◌, arith}
use Rattle.pf_model.specs.declared.lines.AppLine.{AppLine}
use Rattle.pf_model.specs.declared.lines.BaseLine.{BaseLine}
use Rattle.pf_history.specs.declared.commands.Caller.TheVariants.{App, Dbase}
use Rattle.pf_history.specs.declared.commands.Command.{Command}
use Rattle.pf_history.specs.declared.commands.Command.TheVariants as command
use Rattle.pf_history.specs.Objects.{FrameState, opening_state}
use Rattle.pf_history.specs.Logs.{Log, state_of}
use Rattle.pf_history.specs.Asks.{BaseAsk, asked_app, asked_dbase}
use Rattle.pf_history.specs.Fits.{turns_of}
use Rattle.pf_history.specs.Cuts.{found_by_frames}
use Rattle.pf_history.proofs.Fitting.{fit_law}
use Rattle.pf_history.proofs.Turns.{turns_own}
use Rattle.pf_history.proofs.Freeing.{graves_of}
use Rattle.stage_parts.specs.Pictures.{picture_of_state, numbers_of_state}
use Rattle.play_fences.specs.Fences.{own_asks, first_free}
use Rattle.play_fences.specs.Freed.{times_freed}
use Rattle.play_fences.specs.Unsynced.{merge_places}
use Rattle.play_fences.specs.Laws.{IsWhole, PlacesLaw, FencedLaw, NoMergesLaw, OnePlaceLaw}
use Rattle.play_fences.proofs.Settling.{settled, map_settled}
use Rattle.play_fences.proofs.Bare.{commands_of, unsynced, found_along, entries_along, found_bare, entries_bare, places_bare}
use Rattle.play_fences.proofs.Making.{merges_in, others_in, own_commands, own_split, dbase_merges, app_others, merges_unsynced, others_unsynced, base_made, app_made}
use Rattle.play_fences.proofs.Weaving.{unsynced_none, woven}
use Rattle.play_fences.proofs.Placing.{fenced_places}
use Rattle.play_fences.proofs.Freed.{buried_along, freed_total}
use Rattle.play_fences.proofs.Closing.{no_graves}

-- a whole history's commands without Syncs
abbrev bare : Log → List Command
bare log = unsynced (commands_of log)

merges_asked : (channels ahead : ℕ) (app : List AppLine) (dbase : List BaseLine) (log : Log) → IsWhole channels ahead app dbase log → merges_in (bare log) ≡ map (λ b. command.Merge b.merge) (asked_dbase dbase)
merges_asked channels ahead app dbase log whole =
    let follows = (fit_law channels ahead app dbase log).follows_wholly whole.wholly in
    merges_unsynced (commands_of log)
    ∙ sym (own_split Dbase _ dbase_merges (opening_state channels) log whole.legal)
    ∙ sym (turns_own Dbase (opening_state channels) log)
    ∙ base_made (asked_dbase dbase) (turns_of channels Dbase log) follows.follows_dbase

others_asked : (channels ahead : ℕ) (app : List AppLine) (dbase : List BaseLine) (log : Log) → IsWhole channels ahead app dbase log → others_in (bare log) ≡ own_commands (asked_app app)
others_asked channels ahead app dbase log whole =
    let follows = (fit_law channels ahead app dbase log).follows_wholly whole.wholly in
    others_unsynced (commands_of log)
    ∙ ap unsynced (sym (own_split App _ app_others (opening_state channels) log whole.legal) ∙ sym (turns_own App (opening_state channels) log))
    ∙ app_made ahead (length (asked_dbase dbase)) (asked_app app) (turns_of channels App log) follows.follows_app

same_bare : (channels ahead other_ahead : ℕ) (app : List AppLine) (dbase : List BaseLine) (log other : Log) → IsWhole channels ahead app dbase log → IsWhole channels other_ahead app dbase other → merge_places log ≡ merge_places other → bare log ≡ bare other
same_bare channels ahead other_ahead app dbase log other whole whole' places =
    woven 0 (bare log) (bare other) (unsynced_none (commands_of log)) (unsynced_none (commands_of other))
    (merges_asked channels ahead app dbase log whole ∙ sym (merges_asked channels other_ahead app dbase other whole'))
    (others_asked channels ahead app dbase log whole ∙ sym (others_asked channels other_ahead app dbase other whole'))
    (sym (places_bare 0 (commands_of log)) ∙ places ∙ places_bare 0 (commands_of other))

-- what a function that reads neither graves nor retired frames gives of the states that the Frames found
of_bare : {B : Type 0} (f : FrameState → B) → ((s : FrameState) → f s ≡ f (settled s)) → (channels : ℕ) (log : Log) → map f (found_by_frames channels log) ≡ map f (found_along (opening_state channels) (bare log))
of_bare f same channels log =
    map_settled f same (found_by_frames channels log)
    ∙ ap (map f) (found_bare [] (opening_state channels) log)

-- what is freed in all is what was buried
freed_bare : (channels ahead : ℕ) (app : List AppLine) (dbase : List BaseLine) (log : Log) (x : ℕ) → IsWhole channels ahead app dbase log → times_freed x log ≡ buried_along x (opening_state channels) (bare log)
freed_bare channels ahead app dbase log x whole =
    let total = freed_total x (opening_state channels) log whole.legal in
    let none : graves_of x (state_of channels log).graves ≡ 0 = ap (graves_of x) (no_graves channels ahead app dbase log whole.legal whole.wholly) in
    omega (arith, total, none)

pub places_law : PlacesLaw
places_law channels ahead other_ahead lens back app dbase log other whole whole' places =
    let same = same_bare channels ahead other_ahead app dbase log other whole whole' places in
    record {
      same_pictures =
          of_bare (picture_of_state lens back) (λ s. refl) channels log
          ∙ ap (λ cs. map (picture_of_state lens back) (found_along (opening_state channels) cs)) same
          ∙ sym (of_bare (picture_of_state lens back) (λ s. refl) channels other);
      same_numbers =
          of_bare (numbers_of_state lens) (λ s. refl) channels log
          ∙ ap (λ cs. map (numbers_of_state lens) (found_along (opening_state channels) cs)) same
          ∙ sym (of_bare (numbers_of_state lens) (λ s. refl) channels other);
      same_entries =
          entries_bare (opening_state channels) log whole.legal
          ∙ ap (entries_along (opening_state channels)) same
          ∙ sym (entries_bare (opening_state channels) other whole'.legal);
      same_freed = λ serial.
          freed_bare channels ahead app dbase log serial whole
          ∙ ap (buried_along serial (opening_state channels)) same
          ∙ sym (freed_bare channels other_ahead app dbase other serial whole');
    }

pub one_place_law : OnePlaceLaw
one_place_law channels ahead other_ahead app dbase log other fenced whole whole' =
    fenced_places channels ahead app dbase log fenced whole.legal whole.wholly
    ∙ sym (fenced_places channels other_ahead app dbase other fenced whole'.legal whole'.wholly)

pub fenced_law : FencedLaw
fenced_law app dbase fenced channels ahead other_ahead lens back log other whole whole' =
    places_law channels ahead other_ahead lens back app dbase log other whole whole'
    (one_place_law channels ahead other_ahead app dbase log other fenced whole whole')

pub no_merges_law : NoMergesLaw
no_merges_law app dbase none = fenced_law app dbase (ap (λ asks. first_free (own_asks app) 1 (map (λ (b : BaseAsk). b.need) asks)) none)
