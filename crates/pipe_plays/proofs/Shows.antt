-- What a pipe that fits its play shows, and what the play leaves.
use Rattle.std.proofs.Common.{◌≡◌, ◌≢◌, ℕ, suc, ◌≤◌, false, cond, List, [], ◌∷◌, ◌++◌, map, take, drop, replicate, slice_get, Option, Some, None, refl, sym, ap, ◌∙◌, subst, arith}
use Rattle.std.proofs.lemmas.List.{take-append-drop, length-replicate}
use Rattle.std.specs.Io.KnownBytes.{append_known}
use Rattle.pf_io.proofs.Known.{append_known-nil}
use Rattle.pf_model.specs.declared.lines.AppLine.{AppLine}
use Rattle.pf_history.specs.declared.commands.Entry.{Entry}
use Rattle.pf_history.specs.Asks.{asked_app, asked_dbase, asked_from}
use Rattle.pf_history.specs.Objects.{opening_state}
use Rattle.pf_history.specs.CutLaws.{sync_entry}
use Rattle.pf_history.specs.Logs.{Log, state_of, IsLegal}
use Rattle.pf_history.proofs.Folds.{state_append}
use Rattle.pf_history.proofs.Counting.{never_fall_law}
use Rattle.pf_history.proofs.Freeing.{freed_law}
use Rattle.play_format.specs.Plays.{Script}
use Rattle.stage_parts.specs.Laws.{CullingKeepsPictures, HasEditsInRange, HasPictures}
use Rattle.stage_parts.specs.Pictures.{frame_numbers}
use Rattle.stage_parts.specs.States.{Seats, PipeState, still_asked}
use Rattle.stage_parts.specs.Gathering.{IsCounted}
use Rattle.stage_parts.specs.Loads.{LoadState}
use Rattle.stage_parts.specs.DbaseSteps.{opening_pipe}
use Rattle.stage_parts.proofs.DbaseSteps.{lines_law, take_get, opening_law}
use Rattle.stage_parts.proofs.Gathering.{gathering_law}
use Rattle.stage_parts.proofs.Counting.{counting_law}
use Rattle.stage_parts.proofs.Streams.{stream_law}
use Rattle.draw_list.specs.declared.stats.Stats.{Stats}
use Rattle.pipe_plays.specs.declared.played.PlayEnd.{PlayEnd}
use Rattle.pipe_plays.specs.declared.played.PlayEnd.TheVariants as ends
use Rattle.pipe_plays.specs.Plays.{setup_of, CanRun, FitsItsPlay, AreDone}
use Rattle.pipe_plays.specs.Played.{AddsFront}
use Rattle.pipe_plays.specs.Laws.{ShownLaw, IsLeft, LeavesLaw, NothingLaw, FreedLaw}
use Rattle.pipe_plays.proofs.Ranges.{asked_right, merges_right, log_right}

pub counted : (play : Script) (ahead : ℕ) (seats : Seats) (s : PipeState) → FitsItsPlay play ahead seats s → IsCounted (setup_of play ahead) seats s
counted play ahead seats s fits = counting_law (setup_of play ahead) play.dbase seats s fits

in_range : (play : Script) (ahead : ℕ) (seats : Seats) (s : PipeState) → CanRun play ahead → FitsItsPlay play ahead seats s → HasEditsInRange s.log
in_range play ahead seats s can fits =
    let follows = fits.history.follows in
    log_right ahead _ s.log (opening_state play.channels) (asked_app play.app) (asked_dbase play.dbase) _ _
    follows.follows_app follows.follows_dbase
    (asked_right play.channels 0 false play.app can.is_play.app_steps) (merges_right 0 [] play.dbase refl can.is_play.base_steps)

pub pictures_shown : CullingKeepsPictures → (play : Script) (ahead : ℕ) (seats : Seats) (s : PipeState) → CanRun play ahead → FitsItsPlay play ahead seats s →
    HasPictures (setup_of play ahead) s
pictures_shown culling play ahead seats s can fits =
    stream_law culling (setup_of play ahead) play.dbase seats s can.is_play.most_channels fits (in_range play ahead seats s can fits)

-- nothing is still asked of stages that are done
nothing_asked : (play : Script) (ahead : ℕ) (seats : Seats) (s : PipeState) → FitsItsPlay play ahead seats s → AreDone play s →
    still_asked (setup_of play ahead) s.app ≡ []
nothing_asked play ahead seats s fits done =
    let asks = asked_from s.app.need s.app.synced (drop s.app.at (map (λ (l : AppLine). l.step) play.app)) in
    ap (λ t. cond t [] asks) ((counted play ahead seats s fits).ends.app done.app)

pub shown_law : CullingKeepsPictures → ShownLaw
shown_law culling play ahead seats s can fits =
    let gathered = gathering_law (setup_of play ahead) play.dbase seats s in
    let shows = pictures_shown culling play ahead seats s can fits in
    record {
      now = record {
        legal = fits.history.legal;
        fits = gathered.play fits;
        in_range = in_range play ahead seats s can fits;
        shows = shows;
      };
      at_end = λ done.
          let closed = (counted play ahead seats s fits).ends.app done.app in
          record {
            wholly = gathered.wholly fits (nothing_asked play ahead seats s fits done)
                ((lines_law (setup_of play ahead) s.app play.dbase s.dbase).dbase_end done.dbase);
            stream = shows.whole closed;
            numbers = shows.all_numbers closed;
          };
    }

-- What a play leaves

-- what is left of a pipe that fits
left_of : CullingKeepsPictures → (play : Script) (ahead : ℕ) (seats : Seats) (end : PlayEnd) (s : PipeState) (old new : Option (List ℕ)) →
    CanRun play ahead → FitsItsPlay play ahead seats s → new ≡ append_known old s.stream → (end ≢ ends.FrameFault → s.app.fault ≡ None) →
    (end ≡ ends.Done → AreDone play s) → IsLeft play ahead end s.log s.app.stats old new
left_of culling play ahead seats end s old new can fits is cut done =
    let shown = shown_law culling play ahead seats s can fits in
    let shows = shown.now.shows in
    let many = fits.stream.all in
    let begun = fits.stream.begun in
    let frames = (counted play ahead seats s fits).state.frames in
    let front : AddsFront play end s.log old new =
    record {
      written = s.app.written;
      fault = s.app.fault;
      bytes = is ∙ ap (append_known old) shows.front;
      cut = cut;
      begun = shows.written;
      retired = shows.retired;
    } in
    record {
      now = record {
        legal = shown.now.legal;
        fits = shown.now.fits;
        front = front;
        numbers = record {
          front = front;
          begun = omega (arith, many, begun, frames);
          numbers = shows.numbers ∙ ap (λ (n : ℕ). take n (frame_numbers play.channels play.lens s.log)) (sym many);
        };
      };
      all = λ end_is.
          let all = shown.at_end (done end_is) in
          record { wholly = all.wholly; whole = is ∙ ap (append_known old) all.stream; all_numbers = all.numbers };
    }

pub leaves_law : CullingKeepsPictures → LeavesLaw
leaves_law culling play ahead seats end log stats old new can left =
    let s = left.pipe in
    subst (λ (l : Log). IsLeft play ahead end l stats old new) left.history
    (subst (λ (kept : List Stats). IsLeft play ahead end s.log kept old new) left.numbers
    (left_of culling play ahead seats end s old new can left.fits left.stream left.cut left.done))

-- a load of nothing
no_load : LoadState
no_load =
    record {
      cut = record { frame = 0; views = []; size = 0; tris = 0; updates = [] };
      lists = [];
      images = [];
      bytes = [];
      stats = record { shown = 0; states = 0; visited = 0 };
    }

pub nothing_law : NothingLaw
nothing_law play ahead seats bytes =
    let g = setup_of play ahead in
    let loads = replicate ahead no_load in
    record {
      pipe = opening_pipe loads;
      fits = (gathering_law g play.dbase seats (opening_pipe loads)).fits
          (opening_law g play.dbase seats loads refl (length-replicate ahead no_load));
      history = refl;
      numbers = refl;
      stream = sym (append_known-nil bytes);
      cut = λ other. refl;
      done = λ is. absurd (let clash : ends.NoMemory ≡ ends.Done = is in cc);
    }

-- Freed serials

-- no Sync of a legal history retires more frames than are retired at its end
retired_by : (channels : ℕ) (log : Log) (j seat r : ℕ) (serials : List ℕ) → IsLegal channels log →
    slice_get log j ≡ Some (seat, sync_entry r serials) → r ≤ (state_of channels log).retired
retired_by channels log j seat r serials legal at =
    let e : ℕ × Entry = (seat, sync_entry r serials) in
    let front = take (suc j) log in
    let whole = take-append-drop (suc j) log in
    let there : (state_of channels front).retired ≡ r =
    ap (λ (l : Log). (state_of channels l).retired) (take_get log j e at)
    ∙ ap (λ s. s.retired) (state_append (opening_state channels) (take j log) (e ∷ [])) in
    let later = (never_fall_law channels front (drop (suc j) log)).retired (subst (IsLegal channels) (sym whole) legal) in
    let same : (state_of channels (front ++ drop (suc j) log)).retired ≡ (state_of channels log).retired =
    ap (λ (l : Log). (state_of channels l).retired) whole in
    omega (arith, there, later, same)

pub freed_written : FreedLaw
freed_written play ahead seats s fits j seat r x serials at among =
    let legal = fits.history.legal in
    let retired = retired_by play.channels s.log j seat r serials legal at in
    let state = (counted play ahead seats s fits).state in
    record {
      frames = (freed_law play.channels s.log j r x).replied seat serials legal at among;
      written = omega (arith, retired, state.retired, fits.stream.retired);
    }
