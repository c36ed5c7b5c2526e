use Rattle.stream_stages.proofs.WholeFrames.{whole_frames}
use Rattle.stream_stages.proofs.laws.streamed_frames_are_whole_ones.Goals as goal

pub returns : goal.returns
returns c =
    whole_frames (record { list = c.right_pieces_keep_the_picture.ensures.list; order = c.right_pieces_keep_the_picture.ensures.order })
