use Rattle.std.proofs.Common.{Some, sym, subst}
use Rattle.std.proofs.lemmas.Result.{err_from_is_err_and}
use Rattle.live_text.specs.declared.given.Given.{Given}
use Rattle.live_text.specs.LiveCommands.{play_of}
use Rattle.live_feed.specs.Feeds.{IsGood}
use Rattle.live_run.specs.Driven.{Driven, IsDriven}
use Rattle.live_run.specs.Runs.{Plays, with_given}
use Rattle.live_run.proofs.RunSteps.{plays_line, plays_block, some_plays, block_plays}
use Rattle.live_run.proofs.driving.give.Goals as goal

pub returns-in_err-line-in-Line-clause-failed : goal.returns-in_err-line-in-Line-clause-failed
returns-in_err-line-in-Line-clause-failed g c =
    let p = err_from_is_err_and c.from_residual.result c.from_residual.ensures.1 in
    let frames = g.O.Sink.written c.args.frames.now in
    rw p.1 (λ h cs ahead asked bytes good plays.
    some_plays h cs ahead asked bytes frames c.line.new.self
    (subst (λ (l : Driven g.row.R.Denot g.row.G.Denot). IsDriven (play_of h cs) ahead asked bytes frames l) (sym c.in_err-line-in-Line.ensures.unchanged) plays.driven))

pub returns-in_err-block-in-Block-clause-failed : goal.returns-in_err-block-in-Block-clause-failed
returns-in_err-block-in-Block-clause-failed g c =
    let p = err_from_is_err_and c.from_residual-in_err-block-in-Block.result c.from_residual-in_err-block-in-Block.ensures.1 in
    rw p.1 (λ h cs ahead asked bytes good plays.
    block_plays h cs ahead asked bytes (g.O.Sink.written c.block.new.frames) c.block.new.self c.in-Block.block.items
    (c.in_err-block-in-Block.ensures.failed (play_of h cs) ahead asked bytes plays.driven))

pub returns-in_ok-line-in-Line-clause-plays : goal.returns-in_ok-line-in-Line-clause-plays
returns-in_ok-line-in-Line-clause-plays g c = λ h cs ahead asked bytes good plays.
    let frames = g.O.Sink.written c.args.frames.now in
    let fits = subst (λ (x : Given). IsGood (Some h) x) c.in-Line.is good in
    subst (λ (x : Given). Plays h (with_given cs x) ahead asked bytes frames c.line.new.self) (sym c.in-Line.is)
    (plays_line c.one_command_more.ensures.play h cs ahead asked bytes frames c.args.live.now c.line.new.self c.in-Line.line
    (c.in_ok-line-in-Line.ensures.driven (play_of h cs) ahead asked bytes frames fits.0 plays.driven) c.line.ensures.blocks plays.blocks)

pub returns-in_ok-block-in-Block-clause-plays : goal.returns-in_ok-block-in-Block-clause-plays
returns-in_ok-block-in-Block-clause-plays g c = λ h cs ahead asked bytes good plays.
    let frames = g.O.Sink.written c.block.new.frames in
    subst (λ (x : Given). Plays h (with_given cs x) ahead asked bytes frames c.block.new.self) (sym c.in-Block.is)
    (plays_block c.one_command_more.ensures.play h cs ahead asked bytes frames c.args.live.now c.block.new.self c.in-Block.block.items
    (c.in_ok-block-in-Block.ensures.driven (play_of h cs) ahead asked bytes plays.driven) c.in_ok-block-in-Block.ensures.blocks plays.blocks)
