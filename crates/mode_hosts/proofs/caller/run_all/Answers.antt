use Rattle.std.proofs.Common.{subst}
use Rattle.mode_hosts.specs.Crews.{CrewsState, CrewsGo}
use Rattle.mode_hosts.specs.Posts.{crews_state}
use Rattle.mode_hosts.proofs.caller.run_all.Goals as goal

pub returns-clause-divided : goal.returns-clause-divided
returns-clause-divided g c =
    let crews = c.crews_of-crews.result in
    subst (λ (s : CrewsState). CrewsGo s (crews_state c.back-crews.result)) c.crews_of-crews.ensures.divided
    (c.back-crews.ensures crews (c.run_here-came.ensures.posts crews c.posts_of-posts.ensures))
