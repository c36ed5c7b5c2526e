-- A live pipe: a pipe on hosts whose play grows while it is played.
use Rattle.std.specs.Prelude.{◌≡◌, ⊤, ◌⊎◌, ℕ, ◌+◌, ◌≤◌, true, false, List, [], ◌++◌, take, drop, length, Option, None, Some, OnErr}
use Rattle.std.specs.Arc.{arc_value}
use Rattle.std.specs.Vec.{vec_capacity}
use mathlib.Core.List.{IsPrefix}
use Rattle.seat_lock.specs.Tokens.{lock_id}
use Rattle.draw_list.specs.declared.stats.Stats.{Stats}
use Rattle.nearest_hit.specs.declared.segment.Segment.{Segment}
use Rattle.pf_model.specs.declared.lines.AppLine.{AppLine}
use Rattle.pf_model.specs.declared.lines.BaseLine.{BaseLine}
use Rattle.pf_history.specs.Logs.{Log}
use Rattle.pf_history.specs.Asks.{asked_dbase}
use Rattle.pf_scene.specs.declared.outcomes.Told.{Told}
use Rattle.play_format.specs.Plays.{Script}
use Rattle.play_check.specs.Lines.{app_marks, total}
use Rattle.stage_parts.specs.declared.answers.Did.{Did}
use Rattle.stage_parts.specs.declared.answers.Did.TheVariants as did
use Rattle.stage_parts.specs.States.{Setup}
use Rattle.frame_stages.specs.AppWorks.{AppWork, is_done}
use Rattle.frame_stages.specs.DbaseWorks.{DbaseWork, has_ended}
use Rattle.frame_stages.specs.DbaseAnswers.{HasToWait}
use Rattle.pipe_plays.specs.declared.played.Played.{Played}
use Rattle.pipe_plays.specs.Plays.{setup_of}
use Rattle.pipe_plays.specs.Played.{Blames, StaysWhole, LeavesPipe}
use Rattle.pipe_plays.specs.Laws.{IsLeft}
use Rattle.mode_hosts.specs.declared.live.LivePipe.{LivePipe}
use Rattle.mode_hosts.specs.declared.modes.Crews.{Crews}
use Rattle.mode_hosts.specs.Works.{AnyCullWork, AnyDrawWork}
use Rattle.mode_hosts.specs.Sites.{Site, DbaseSite, ProbeSite, CrewState}
use Rattle.mode_hosts.specs.Seats.{app_site, dbase_site}
use Rattle.mode_hosts.specs.Crews.{all_of}
use Rattle.mode_hosts.specs.Posts.{crews_state, ArePosts}
use Rattle.mode_hosts.specs.Gathering.{own_seats}
use Rattle.mode_hosts.specs.Probes.{AllSites, AreAllTogether, AllKeep}
use Rattle.mode_hosts.specs.Plays.{IsProbed}

-- the play with more lines of its application
abbrev pub with_app : Script → List AppLine → Script
with_app play more = record play { app = play.app ++ more }

-- the play with more lines of its database process
abbrev pub with_dbase : Script → List BaseLine → Script
with_dbase play more = record play { dbase = play.dbase ++ more }

-- What a live pipe is given of a play so far: it waits for one merge more than the play has, and so does not close.
abbrev pub live_setup : Script → ℕ → Setup
live_setup play ahead = record (setup_of play ahead) { merges = length (asked_dbase play.dbase) + 1 }

-- how many frames the lines begin
abbrev pub frames_in : List AppLine → ℕ
frames_in lines = total (app_marks lines)

-- Nothing is left to do for the application: it has passed its lines and holds no packet, has not closed and met no fault, and
-- so many pictures came back.
pub record AppRests (frames : ℕ) (w : AppWork) : Type 0 where
  pub passed : w.rest ≡ []
  pub bare : w.state.held ≡ None
  pub going : w.state.closed ≡ false
  pub alive : is_done w.state ≡ false
  pub shown : length w.state.stats ≡ frames

-- Nothing is left to do for the database process: it has passed its lines, or its next one has to wait, by the log that its
-- desk has seen.
abbrev pub DbaseRests : DbaseSite → Type 0
DbaseRests s = (has_ended s.work ≡ true) ⊎ HasToWait s.work.rest s.work.hand s.place.seen

-- what the answer of a poll of the database process says of what is left
abbrev pub BaseSays : Did → DbaseSite → Type 0
BaseSays did.Did s = ⊤
BaseSays did.NotYet s = HasToWait s.work.rest s.work.hand s.place.seen
BaseSays did.Over s = has_ended s.work ≡ true

-- a crew of these stages, without the database process
abbrev pub crew_but_dbase : Site AnyCullWork → Site AnyDrawWork → ProbeSite → CrewState
crew_but_dbase cull draw probe = record { cull = Some cull; draw = Some draw; dbase = None; probe = Some probe }

module _ {R G : Type 0} where
  -- its application, and its database process
  abbrev pub app_of : LivePipe R G → AppWork
  app_of p = p.app.stage

  abbrev pub base_of : LivePipe R G → DbaseWork
  base_of p = p.dbase.stage

  -- the history, as far as the application's desk has seen it
  abbrev pub seen_of : LivePipe R G → Log
  seen_of p = (app_site p.app).place.seen

  -- the numbers of the frames that came back, and how many of them were told, the oldest ones
  abbrev pub stats_of : LivePipe R G → List Stats
  stats_of p = p.app.stage.state.stats

  abbrev pub numbers_told : LivePipe R G → ℕ
  numbers_told p = p.app.stage.told

  -- settling came to no error so far
  abbrev pub IsFine : LivePipe R G → Type 0
  IsFine p = OnErr p.came ⊥

  -- what it came to says this of the frame sink, whose count of faults was this before the play and is this now
  abbrev pub LiveBlames : LivePipe R G → (before now : ℕ) → (at_fault bytes : Option (List ℕ)) → Type 0
  LiveBlames p before now at_fault bytes = Blames p.came before now at_fault bytes

  -- the seats of a live pipe: the application and the database process as they are, CULL, DRAW and the probe as these
  abbrev pub live_sites : LivePipe R G → Site AnyCullWork → Site AnyDrawWork → ProbeSite → AllSites
  live_sites p cull draw probe =
      record {
        four = record { app = app_site p.app; cull = cull; draw = draw; dbase = dbase_site p.dbase };
        probe = probe;
      }

  -- The seats of a live pipe: CULL, DRAW and the probe were sent to their hosts as these, or stay with the caller, and are
  -- polled there; desks and links of all belong together. What was told of the history, the application's desk has seen.
  pub record IsLive (p : LivePipe R G) : Type 0 where
    pub crews : Crews R
    pub cull : Site AnyCullWork
    pub draw : Site AnyDrawWork
    pub probe : ProbeSite
    pub sent : all_of (crews_state crews) ≡ crew_but_dbase cull draw probe
    pub posts : ArePosts crews p.posts
    pub together : AreAllTogether (lock_id (arc_value p.lock)) (live_sites p cull draw probe)
    pub few : p.told ≤ length (seen_of p)

  -- What a live pipe keeps of the play of all lines given so far, with the bytes of the frame sink before the play and now:
  -- what its seats keep; the number of frames that the lines begin; and only a fault of the sink has cut a picture short.
  pub record LiveKeeps (play : Script) (ahead : ℕ) (asked : Option Segment) (bytes bytes' : Option (List ℕ)) (p : LivePipe R G) :
      Type 0 where
    pub live : IsLive p
    pub keeps : AllKeep (live_setup play ahead) play.dbase asked (live_sites p live.cull live.draw live.probe) bytes bytes'
    pub frames : p.frames ≡ frames_in play.app
    pub whole : StaysWhole p.came None p.app.stage.state.fault

  -- Nothing is left to do of the lines given so far, by what the caller's thread knows: the picture came back of each frame that
  -- they begin.
  pub record LiveRests (p : LivePipe R G) : Type 0 where
    pub app : AppRests p.frames p.app.stage
    pub dbase : DbaseRests (dbase_site p.dbase)

  -- What telling entries comes to: the block has these more, in their order, and its room. What was told is a front of the
  -- history, which goes on by them.
  pub record TellsEntries (block : Told) (old new : LivePipe R G) (reply : Told) : Type 0 where
    pub more : Log
    pub entries : reply.entries.items ≡ block.entries.items ++ more
    pub told : new.told ≡ old.told + length more
    pub first : take new.told (seen_of new) ≡ take old.told (seen_of old) ++ more
    pub front : IsPrefix (seen_of old) (seen_of new)
    pub room : vec_capacity reply.entries ≡ vec_capacity block.entries

  -- What a live pipe leaves that was closed, of the play of all lines given: what every play leaves, of some pipe that fits it,
  -- with the numbers of all frames that came back, of which those are handed out that were not told; and what the probe found.
  -- The entries that were told are the first of the history.
  pub record LiveLeaves (play : Script) (ahead : ℕ) (asked : Option Segment) (p : LivePipe R G) (bytes bytes' : Option (List ℕ))
      (played : Played) : Type 0 where
    pub numbers : List Stats
    pub pipe : LeavesPipe play ahead own_seats played.end played.history.entries numbers bytes bytes'
    pub left : IsLeft play ahead played.end played.history.entries numbers bytes bytes'
    pub rest : played.stats.items ≡ drop (numbers_told p) numbers
    pub probed : IsProbed play.channels asked played.end played.history.entries played.probes.items
    pub front : IsPrefix (seen_of p) played.history.entries
    pub told : take p.told played.history.entries ≡ take p.told (seen_of p)
