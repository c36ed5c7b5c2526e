use Rattle.std.proofs.Common.{sym, subst}
use Rattle.live_run.specs.Driven.{Driven, IsDriven}
use Rattle.live_run.specs.Telling.{Tells, TellsFront}
use Rattle.live_run.proofs.DrivenLemmas.{driven_on}
use Rattle.live_run.proofs.TellLemmas.{ok_then, err_then, tells_more, tells_then}
use Rattle.live_run.proofs.live.Live.tell.Goals as goal

pub returns-in_err-tell_entries-clause-driven : goal.returns-in_err-tell_entries-clause-driven
returns-in_err-tell_entries-clause-driven g c = λ play ahead asked bytes now driven.
    let s = c.self.inside in
    let d : Driven g.row.R.Denot g.row.G.Denot = record { pipe = s.pipe; steps = s.steps; blocks = s.blocks; frames = s.frames } in
    driven_on play ahead asked bytes now now d c.tell_entries.new.pipe
    (subst (λ (v : Driven g.row.R.Denot g.row.G.Denot). IsDriven play ahead asked bytes now v) (sym c.self.view_is) driven)
    (c.tell_entries.ensures.stays.keeps play ahead asked bytes now) c.tell_entries.ensures.numbers

pub returns-clause-told : goal.returns-clause-told
returns-clause-told g c =
    let s = c.self.inside in
    let t = c.args.text.now.items in
    let u = c.tell_frames.new.text.items in
    let q = c.tell_frames.new.pipe in
    let n = c.tell_frames.new.frames in
    ok_then c.tell_frames.result _ _
    (λ told. subst (λ (v : Driven g.row.R.Denot g.row.G.Denot). Tells v.frames n v.pipe q t u) c.self.view_is
    (tells_more s.frames s.frames n s.pipe c.tell_entries.new.pipe q t c.tell_entries.new.text.items u (c.in_ok-tell_entries.ensures.told s.frames) told))
    c.tell_frames.ensures.told

pub returns-clause-front : goal.returns-clause-front
returns-clause-front g c =
    let s = c.self.inside in
    let t = c.args.text.now.items in
    let u = c.tell_frames.new.text.items in
    let q = c.tell_frames.new.pipe in
    err_then c.tell_frames.result _ _
    (λ front. subst (λ (v : Driven g.row.R.Denot g.row.G.Denot). TellsFront v.frames v.pipe q t u) c.self.view_is
    (tells_then s.frames s.frames s.pipe c.tell_entries.new.pipe q t c.tell_entries.new.text.items u (c.in_ok-tell_entries.ensures.told s.frames) front))
    c.tell_frames.ensures.front

pub returns-clause-driven : goal.returns-clause-driven
returns-clause-driven g c = λ play ahead asked bytes now driven.
    let s = c.self.inside in
    let d : Driven g.row.R.Denot g.row.G.Denot = record { pipe = s.pipe; steps = s.steps; blocks = s.blocks; frames = s.frames } in
    let was = subst (λ (v : Driven g.row.R.Denot g.row.G.Denot). IsDriven play ahead asked bytes now v) (sym c.self.view_is) driven in
    record {
      keeps = c.tell_frames.ensures.stays.keeps play ahead asked bytes now (c.tell_entries.ensures.stays.keeps play ahead asked bytes now was.keeps);
      can_run = was.can_run;
      steps = was.steps;
      told = c.tell_frames.ensures.count;
    }
