-- What was made and shown once a pipe has caught up with the lines that were read of its play so far.
use Rattle.std.proofs.Common.{◌≡◌, ℕ, ◌≤◌, List, [], take, length, Option, None, sym, ap, ◌∙◌, subst, arith}
use Rattle.std.specs.List.{concat}
use Rattle.std.proofs.lemmas.List.{append-nil, take_all, length-map}
use Rattle.pf_history.specs.Asks.{Ask, BaseAsk}
use Rattle.pf_history.specs.Cuts.{Cutting, cuttings, cut_at, found_by_frames}
use Rattle.pf_history.specs.Fits.{FollowsPlay}
use Rattle.pf_history.specs.Objects.{opening_state}
use Rattle.pf_history.proofs.Cutting.{cuts_law}
use Rattle.play_format.specs.Plays.{Script}
use Rattle.stage_parts.specs.Laws.{CullingKeepsPictures}
use Rattle.stage_parts.specs.Pictures.{pictures, frame_numbers, picture_of_state, numbers_of_state, streamed}
use Rattle.stage_parts.specs.States.{Seats, PipeState, still_asked}
use Rattle.stage_parts.proofs.DbaseSteps.{lines_law}
use Rattle.pipe_plays.specs.Plays.{setup_of, FitsItsPlay}
use Rattle.pipe_plays.specs.Orders.{IsMade}
use Rattle.pipe_plays.specs.CaughtUp.{HasPassedAll, CaughtUpLaw}
use Rattle.pipe_plays.proofs.Shows.{counted, pictures_shown}

-- only the close is still asked
all_made : (play : Script) (ahead : ℕ) (seats : Seats) (s : PipeState) → FitsItsPlay play ahead seats s → HasPassedAll play s →
    IsMade play.channels ahead play.app play.dbase s.log
all_made play ahead seats s fits passed =
    let lines = lines_law (setup_of play ahead) s.app play.dbase s.dbase in
    record {
      need = s.app.need;
      follows =
          subst (λ (left : List Ask). FollowsPlay play.channels ahead play.app play.dbase s.log left []) (lines.app_end passed.going passed.app)
          (subst (λ (left : List BaseAsk). FollowsPlay play.channels ahead play.app play.dbase s.log (still_asked (setup_of play ahead) s.app) left)
          (lines.dbase_end passed.dbase) fits.history.follows);
    }

-- there are as many pictures, and as many numbers, as frames
many_found : (play : Script) (ahead : ℕ) (seats : Seats) (s : PipeState) → FitsItsPlay play ahead seats s →
    length (found_by_frames play.channels s.log) ≡ s.app.frames
many_found play ahead seats s fits =
    let frames = cuttings [] (opening_state play.channels) s.log in
    length-map frames (λ (c : Cutting). c.found) ∙ sym (length-map frames cut_at) ∙ (cuts_law play.channels s.log).many
    ∙ (counted play ahead seats s fits).state.frames

all_streamed : (b : ℕ) (fault : Option ℕ) (shown : List (List ℕ)) → fault ≡ None → length shown ≤ b → streamed b fault shown ≡ concat shown
all_streamed b fault shown none few =
    ap (λ (f : Option ℕ). streamed b f shown) none ∙ append-nil (concat (take b shown)) ∙ ap concat (take_all b shown few)

pub caught_up_law : CullingKeepsPictures → CaughtUpLaw
caught_up_law culling play ahead seats s can fits passed =
    let shows = pictures_shown culling play ahead seats s can fits in
    let back = (counted play ahead seats s fits).drained passed.drained in
    let written : s.app.written ≡ s.app.frames = back.written passed.whole in
    let found = found_by_frames play.channels s.log in
    let many : length found ≡ s.app.frames = many_found play ahead seats s fits in
    let shown = length-map found (picture_of_state play.lens play.back) in
    let told = length-map found (numbers_of_state play.lens) in
    record {
      made = all_made play ahead seats s fits passed;
      written = written;
      stream = shows.front
          ∙ all_streamed s.app.written s.app.fault (pictures play.channels play.lens play.back s.log) passed.whole (omega (arith, shown, many, written));
      numbers = shows.numbers
          ∙ take_all (length s.c.taken) (frame_numbers play.channels play.lens s.log) (omega (arith, told, many, back.back));
    }
