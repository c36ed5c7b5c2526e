use Rattle.std.proofs.Common.{refl}
use Rattle.stream_stages.proofs.draw_stage.StreamDrawStage.new.Goals as goal

pub returns-clause-part : goal.returns-clause-part
returns-clause-part c = λ first.
    record {
      drawn = tt;
      ends = refl;
      ended = refl;
      back_again = refl;
      frame = record { frames = refl; left = refl; begun = refl; drawn = c.begin.ensures.drawn };
    }
