-- A pipe that told an entry, or the numbers of a frame, keeps what it kept.
use Rattle.std.proofs.Common.{◌≡◌, ℕ, ◌+◌, ◌∷◌, drop, Option, None, Some, sym, ◌∙◌, subst}
use Rattle.std.proofs.lemmas.Option.{same_Some}
use Rattle.pf_history.specs.declared.commands.Entry.{Entry}
use Rattle.play_format.specs.Plays.{Script}
use Rattle.seat_lock.specs.Desk.{Turned}
use Rattle.pf_scene.specs.Scenes.{SceneState, TellsOne}
use Rattle.pf_scene.specs.Acts.{DoesTell}
use Rattle.frame_stages.specs.AppWorks.{AppWork}
use Rattle.pipe_core.specs.Pipes.{PipeWork, PipeKeeps}

-- what an act tells where it names the number of entries that were told
pub told_one : (told : ℕ) (old new : SceneState) (reply : Option (ℕ × Entry)) → told ≡ old.told → DoesTell told old new reply →
    TellsOne old new reply
told_one told old new (Some e) is (same, left, next) = (
  left ∙ (λ i. record old { told = is i + 1 }),
  subst (λ (n : ℕ). drop n old.shared.log ≡ e ∷ drop (n + 1) old.shared.log) is next,
)
told_one told old new None is (left, none) = (left, sym is ∙ none (sym is))

-- what a turn of this act at a desk of one thread tells
pub turn_tells : (told : ℕ) (old new : SceneState) (reply : Option (ℕ × Entry)) → told ≡ old.told →
    Turned (λ (s : SceneState). s.shared.log) 0 (DoesTell told) old.shared.log (Some old) reply new.shared.log (Some new) →
    TellsOne old new reply
turn_tells told old new reply is (found, left, from, does, adds, seen, (at, after)) =
    subst (λ (s : SceneState). TellsOne old s reply) (sym (same_Some new left after))
    (told_one told old left reply is (subst (λ (s : SceneState). DoesTell told s left reply) (sym at) does))

-- with other numbers of what was told
abbrev pub telling : ℕ → ℕ → PipeWork → PipeWork
telling entries numbers p = record p { scene = record p.scene { told = entries }; app = record p.app { told = numbers } }

pub keeps_telling : (play : Script) (ahead : ℕ) (p : PipeWork) (entries numbers : ℕ) → PipeKeeps play ahead p →
    PipeKeeps play ahead (telling entries numbers p)
keeps_telling play ahead p entries numbers k =
    record {
      core = k.core;
      stages = record {
        app = record {
          within = k.stages.app.within;
          rest = k.stages.app.rest;
          merges = k.stages.app.merges;
          lens = k.stages.app.lens;
          back = k.stages.app.back;
          ahead = k.stages.app.ahead;
          channels = k.stages.app.channels;
          stands = k.stages.app.stands;
        };
        cull = k.stages.cull;
        draw_lens = k.stages.draw_lens;
        draw_back = k.stages.draw_back;
        in_flight = k.stages.in_flight;
        channels = k.stages.channels;
      };
      room = record { a = k.room.a; b = k.room.b; c = k.room.c };
      waited = k.waited;
      cull = k.cull;
      dbase = k.dbase;
      failed = k.failed;
      home = record { lists = k.home.lists; few = k.home.few };
      copies = k.copies;
    }

pub entry_keeps : (p : PipeWork) (left : SceneState) (reply : Option (ℕ × Entry)) → TellsOne p.scene left reply → (play : Script) (ahead : ℕ) →
    PipeKeeps play ahead p → PipeKeeps play ahead (record p { scene = left })
entry_keeps p left (Some e) (is, next) play ahead k =
    subst (λ (s : SceneState). PipeKeeps play ahead (record p { scene = s })) (sym is)
    (keeps_telling play ahead p (p.scene.told + 1) p.app.told k)
entry_keeps p left None (is, all) play ahead k =
    subst (λ (s : SceneState). PipeKeeps play ahead (record p { scene = s })) (sym is) k

pub stats_keeps : (p : PipeWork) (w : AppWork) → w ≡ record p.app { told = w.told } → (play : Script) (ahead : ℕ) →
    PipeKeeps play ahead p → PipeKeeps play ahead (record p { app = w })
stats_keeps p w is play ahead k =
    subst (λ (v : AppWork). PipeKeeps play ahead (record p { app = v })) (sym is)
    (keeps_telling play ahead p p.scene.told w.told k)
