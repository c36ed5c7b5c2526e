-- Plays that can be run.
use Rattle.std.proofs.Common.{arith}
use Rattle.play_format.specs.Plays.{Script, IsPlay}
use Rattle.pipe_plays.specs.Plays.{IsLivePlay}

-- a play that was read at once is one that may grow
pub may_grow : (play : Script) → IsPlay play → IsLivePlay play
may_grow play is =
    record {
      steps = omega (arith, is.steps);
      some_channel = is.some_channel;
      most_channels = is.most_channels;
      app_steps = is.app_steps;
      base_steps = is.base_steps;
      buffers = is.buffers;
    }
