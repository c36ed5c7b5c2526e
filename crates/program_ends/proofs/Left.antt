-- What is left of a play, in the words of the headline.
use Rattle.std.proofs.Common.{◌≡◌, ◌≢◌, ◌∙◌, ℕ, List, Option, sym}
use Rattle.play_format.specs.Plays.{Script}
use Rattle.pf_history.specs.Logs.{Log, IsLegal}
use Rattle.pf_history.proofs.Freeing.{freed_law}
use Rattle.pipe_plays.specs.declared.played.PlayEnd.{PlayEnd}
use Rattle.pipe_plays.specs.declared.played.PlayEnd.TheVariants as end
use Rattle.pipe_plays.specs.Played.{AddsFront}
use Rattle.pipe_plays.specs.Laws.{LeavesLaw}
use Rattle.program_ends.specs.Played.{FreesLate}
use Rattle.program_ends.specs.Laws.{LeftLaw, PipeLeftLaw}

-- what a legal history frees stands in no later frame
freed_late : (channels : ℕ) (log : Log) → IsLegal channels log → FreesLate channels log
freed_late channels log legal = λ j seat r x serials at among. (freed_law channels log j r x).replied seat serials legal at among

-- a stream that was left is that of another end too, where no fault of the sink came
front_at : (play : Script) (ended other : PlayEnd) (log : Log) (old new : Option (List ℕ)) →
    ended ≢ end.FrameFault → AddsFront play ended log old new → AddsFront play other log old new
front_at play ended other log old new calm front =
    record {
      written = front.written;
      fault = front.fault;
      bytes = front.bytes;
      cut = λ no. front.cut calm;
      begun = front.begun;
      retired = front.retired;
    }

no_fault : {ended : PlayEnd} → ended ≡ end.Done → ended ≢ end.FrameFault
no_fault done fault = absurd (let clash : end.Done ≡ end.FrameFault = sym done ∙ fault in cc)

pub left_law : LeftLaw
left_law play ahead ended log stats frames frames' left =
    let now = left.now in
    let freed = freed_late play.channels log now.legal in
    record {
      part = record { legal = now.legal; fits = now.fits; front = now.front; freed = freed };
      elsewhere = λ calm other.
          record { legal = now.legal; fits = now.fits; front = front_at play ended other log frames frames' calm now.front; freed = freed };
      played = λ done can.
          let all = left.all done in
          record {
            can_end = can;
            legal = now.legal;
            fits = all.wholly;
            stream = all.whole;
            retired = front_at play ended end.Done log frames frames' (no_fault done) now.front;
            freed = freed;
          };
    }

pub pipe_left_law : LeavesLaw → PipeLeftLaw
pipe_left_law leaves play ahead seats ended log stats frames frames' can pipe =
    left_law play ahead ended log stats frames frames' (leaves play ahead seats ended log stats frames frames' can pipe)
