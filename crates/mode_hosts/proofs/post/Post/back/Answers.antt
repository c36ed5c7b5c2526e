use Rattle.std.proofs.Common.{subst}
use Rattle.mode_hosts.specs.Posts.{IsPost}
use Rattle.mode_hosts.proofs.post.Post.back.Goals as goal

pub returns-in-There : goal.returns-in-There
returns-in-There g c = λ crew at. c.back.ensures crew (subst (IsPost crew) c.in-There.is at)
