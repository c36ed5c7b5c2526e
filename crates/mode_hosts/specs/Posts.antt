-- Where the crews of a play are.
use Rattle.std.specs.Prelude.{Bool, not, ◌&&◌, is_some, ⊤}
use Rattle.std.specs.Option.{option_map}
use Rattle.mode_hosts.specs.declared.crew.Crew.{Crew}
use Rattle.mode_hosts.specs.declared.modes.Crews.{Crews}
use Rattle.mode_hosts.specs.declared.post.Post.{Post}
use Rattle.mode_hosts.specs.declared.post.Post.TheVariants as post
use Rattle.mode_hosts.specs.declared.posts.Posts.{Posts}
use Rattle.mode_hosts.specs.Sites.{CrewGoes}
use Rattle.mode_hosts.specs.Seats.{probe_site, crew_state}
use Rattle.mode_hosts.specs.Crews.{CrewsState, has_way}
use Rattle.mode_hosts.specs.Hosts.{WillCome}

module _ {R : Type 0} where
  abbrev pub crews_state : Crews R → CrewsState
  crews_state crews =
      record {
        caller = crew_state crews.caller;
        cull = crew_state crews.cull;
        draw = crew_state crews.draw;
        dbase = crew_state crews.dbase;
        probe = crew_state crews.probe;
      }

  -- whether a crew has no stage; a desk that rests is none
  abbrev pub has_none : Crew R → Bool
  has_none crew =
      not (is_some crew.cull) && (not (is_some crew.draw) && (not (is_some crew.dbase) && not (has_way (option_map probe_site crew.probe))))

  -- this crew is with a host's thread, or with the caller, after polls
  abbrev pub IsPost : Crew R → Post R → Type 0
  IsPost crew (post.There host) = WillCome crew host.send host.thread.promise.0.value
  IsPost crew (post.Here stay) = CrewGoes (crew_state crew) (crew_state stay.crew)

  -- with the caller
  abbrev pub IsHere : Post R → Type 0
  IsHere (post.There host) = ⊥
  IsHere (post.Here stay) = ⊤

  -- These crews are at these posts, the caller's after polls.
  pub record ArePosts (crews : Crews R) (posts : Posts R) : Type 0 where
    pub caller : CrewGoes (crew_state crews.caller) (crew_state posts.caller)
    pub cull : IsPost crews.cull posts.cull
    pub draw : IsPost crews.draw posts.draw
    pub dbase : IsPost crews.dbase posts.dbase
    pub probe : IsPost crews.probe posts.probe
