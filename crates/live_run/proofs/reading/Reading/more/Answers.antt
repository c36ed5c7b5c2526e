use Rattle.std.proofs.Common.{◌≡◌, ◌≤◌, ℕ, List, ◌++◌, take, sym, subst, arith}
use Rattle.std.proofs.lemmas.Result.{err_from_is_err_and}
use Rattle.live_feed.specs.Feeds.{FeedState, Fed}
use Rattle.live_run.specs.LiveRuns.{Takes}
use Rattle.live_run.proofs.RunTexts.{takes_more, piece_front}
use Rattle.live_run.proofs.reading.Reading.more.Goals as goal

pub returns-in_err-add-clause-read : goal.returns-in_err-add-clause-read
returns-in_err-add-clause-read g c = λ left text gs taken fed.
    let p = err_from_is_err_and c.from_residual.result c.from_residual.ensures.1 in
    let piece = take c.in-Ok.count c.read.new.into in
    let feed = subst (λ (f : FeedState). Fed text gs f) (sym c.self.view_is) fed in
    rw (p.1, p.2)
    ((
      piece,
      takes_more left (g.S.LiveSource.left c.args.source.now) (g.S.LiveSource.left c.read.new.self) text piece taken c.in-Ok.ensures.bytes.0,
      subst (λ (f : FeedState). Fed text gs f) (sym c.in_err-add.ensures.kept) feed,
    ))

pub returns-clause-read : goal.returns-clause-read
returns-clause-read g c = λ left text gs taken fed.
    let feed = subst (λ (f : FeedState). Fed text gs f) (sym c.self.view_is) fed in
    let piece = take c.in-Ok.count c.deref.result.now in
    let few : c.in-Ok.count ≤ c.self.inside.piece.len = omega (arith, c.in-Ok.ensures.bound, c.read.auto.into, c.as_mut_slice.ensures.len) in
    let same : piece ≡ take c.in-Ok.count c.read.new.into =
    piece_front c.in-Ok.count c.self.inside.piece.len c.deref.result.now c.read.new.into _ c.deref.ensures.value c.in-Ok.ensures.bound few in (
      piece,
      subst (λ (bytes : List ℕ). Takes left (g.S.LiveSource.left c.read.new.self) (text ++ bytes)) (sym same)
          (takes_more left (g.S.LiveSource.left c.args.source.now) (g.S.LiveSource.left c.read.new.self) text (take c.in-Ok.count c.read.new.into) taken c.in-Ok.ensures.bytes.0),
      c.in_ok-add.ensures.fed text gs feed,
    )
