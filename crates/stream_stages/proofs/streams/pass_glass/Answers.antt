use Rattle.std.proofs.Common.{◌≡◌, ◌∙◌, ◌+◌, ◌<◌, true, false, length, Some, None, List, ap, sym, refl, arith}
use Rattle.std.specs.Prelude.{slice_get}
use Rattle.stream_stages.specs.declared.routes.Route.{Route}
use Rattle.stream_stages.specs.declared.sightings.Sighting.{Sighting}
use Rattle.stream_stages.proofs.FillTurns.{glass_left, glass_none, glass_many, of_route}
use Rattle.stream_stages.proofs.PassLaws.{got_below, glazing_next, glazing_full, glazing_passes, glazing_over}
use Rattle.stream_stages.proofs.streams.pass_glass.Goals as goal

pub returns-in_default-clause-passes : goal.returns-in_default-clause-passes
returns-in_default-clause-passes g c = λ s a t one can.
    glazing_passes (g.V.NodeView.look c.args.scene.now) c.args.most c.args.from c.args.route.now c.loop-route.route c.args.list.now c.loop-route.list c.loop-route.sent c.loop-route.invariant s a t one can

pub returns-clause-passes : goal.returns-clause-passes
returns-clause-passes g c = λ s a t one can.
    glazing_passes (g.V.NodeView.look c.args.scene.now) c.args.most c.args.from c.args.route.now c.loop-route.route c.args.list.now c.loop-route.list c.loop-route.sent c.loop-route.invariant s a t one can

pub returns-then-not-send-clause-passes : goal.returns-then-not-send-clause-passes
returns-then-not-send-clause-passes g c = λ s a t one can.
    let r : Route = c.args.route.now in
    let got : slice_get c.loop-route.route.glass.items c.loop-route.sent ≡ Some c.in-Some.waiting.now = ap (λ (xs : List Sighting). slice_get xs c.loop-route.sent) (sym c.as_slice.ensures.value) ∙ sym c.in-Some.ensures in
    let at : slice_get r.glass.items c.loop-route.sent ≡ Some c.in-Some.waiting.now = ap (λ (u : Route). slice_get u.glass.items c.loop-route.sent) (sym c.loop-route.invariant.same) ∙ got in
    (glazing_full (g.V.NodeView.look c.args.scene.now) c.args.most c.args.from r c.loop-route.route c.args.list.now c.loop-route.list c.send.new.out c.loop-route.sent c.in-Some.waiting.now
    c.loop-route.invariant at (omega (arith, c.loop-route-test.true, c.len.ensures.value)) c.send.ensures.list (sym c.if-not-send.ensures.done) s a t one can).0

pub returns-then-not-send-clause-full : goal.returns-then-not-send-clause-full
returns-then-not-send-clause-full g c = λ s a one can left.
    let r : Route = c.args.route.now in
    let got : slice_get c.loop-route.route.glass.items c.loop-route.sent ≡ Some c.in-Some.waiting.now = ap (λ (xs : List Sighting). slice_get xs c.loop-route.sent) (sym c.as_slice.ensures.value) ∙ sym c.in-Some.ensures in
    let at : slice_get r.glass.items c.loop-route.sent ≡ Some c.in-Some.waiting.now = ap (λ (u : Route). slice_get u.glass.items c.loop-route.sent) (sym c.loop-route.invariant.same) ∙ got in
    (glazing_full (g.V.NodeView.look c.args.scene.now) c.args.most c.args.from r c.loop-route.route c.args.list.now c.loop-route.list c.send.new.out c.loop-route.sent c.in-Some.waiting.now
    c.loop-route.invariant at (omega (arith, c.loop-route-test.true, c.len.ensures.value)) c.send.ensures.list (sym c.if-not-send.ensures.done) s a 0 one can).1

pub loop-route-preserved : goal.loop-route-preserved
loop-route-preserved g c =
    let r : Route = c.args.route.now in
    let got : slice_get c.loop-route.route.glass.items c.loop-route.sent ≡ Some c.in-Some.waiting.now = ap (λ (xs : List Sighting). slice_get xs c.loop-route.sent) (sym c.as_slice.ensures.value) ∙ sym c.in-Some.ensures in
    let at : slice_get r.glass.items c.loop-route.sent ≡ Some c.in-Some.waiting.now = ap (λ (u : Route). slice_get u.glass.items c.loop-route.sent) (sym c.loop-route.invariant.same) ∙ got in
    glazing_next (g.V.NodeView.look c.args.scene.now) c.args.most c.args.from r c.loop-route.route (record c.loop-route.route { sent = Some (c.loop-route.sent + 1) }) c.args.list.now c.loop-route.list c.send.new.out c.loop-route.sent c.in-Some.waiting.now
    c.requires.sound c.loop-route.invariant at (omega (arith, c.loop-route-test.true, c.len.ensures.value)) c.send.ensures.list (sym c.if-not-send.ensures.done) refl

pub returns-in_default-clause-over : goal.returns-in_default-clause-over
returns-in_default-clause-over g c = λ s a done.
    let r : Route = c.args.route.now in
    let at : slice_get r.glass.items c.loop-route.sent ≡ None =
    ap (λ (u : Route). slice_get u.glass.items c.loop-route.sent) (sym c.loop-route.invariant.same) ∙ ap (λ (xs : List Sighting). slice_get xs c.loop-route.sent) (sym c.as_slice.ensures.value) ∙ sym c.in_default.ensures in
    glazing_over (g.V.NodeView.look c.args.scene.now) c.args.most c.args.from r c.loop-route.route c.args.list.now c.loop-route.list c.loop-route.sent c.loop-route.invariant at s a

pub loop-route-smaller : goal.loop-route-smaller
loop-route-smaller g c =
    let got : slice_get c.loop-route.route.glass.items c.loop-route.sent ≡ Some c.in-Some.waiting.now = ap (λ (xs : List Sighting). slice_get xs c.loop-route.sent) (sym c.as_slice.ensures.value) ∙ sym c.in-Some.ensures in
    let below : c.loop-route.sent < length c.loop-route.route.glass.items = got_below c.loop-route.route.glass.items c.loop-route.sent c.in-Some.waiting.now got in
    omega (arith, below)

pub returns-in_default-clause-visited : goal.returns-in_default-clause-visited
returns-in_default-clause-visited g c = ap (λ (u : Route). u.visited) c.loop-route.invariant.same

pub returns-then-not-send-clause-visited : goal.returns-then-not-send-clause-visited
returns-then-not-send-clause-visited g c = ap (λ (u : Route). u.visited) c.loop-route.invariant.same

pub returns-clause-visited : goal.returns-clause-visited
returns-clause-visited g c = ap (λ (u : Route). u.visited) c.loop-route.invariant.same

pub returns-then-not-send-clause-turns : goal.returns-then-not-send-clause-turns
returns-then-not-send-clause-turns g c = λ a t.
    let r : Route = c.args.route.now in
    let got : slice_get c.loop-route.route.glass.items c.loop-route.sent ≡ Some c.in-Some.waiting.now = ap (λ (xs : List Sighting). slice_get xs c.loop-route.sent) (sym c.as_slice.ensures.value) ∙ sym c.in-Some.ensures in
    let at : slice_get r.glass.items c.loop-route.sent ≡ Some c.in-Some.waiting.now = ap (λ (u : Route). slice_get u.glass.items c.loop-route.sent) (sym c.loop-route.invariant.same) ∙ got in
    let look = g.V.NodeView.look c.args.scene.now in
    of_route look c.args.most a r c.loop-route.route c.loop-route.sent _ c.send.new.out t false c.loop-route.invariant.same
    (glass_left look c.args.most a r c.args.from c.loop-route.sent c.args.list.now c.loop-route.list c.send.new.out t c.in-Some.waiting.now (c.loop-route.invariant.turns a t) at
    (omega (arith, c.loop-route-test.true, c.len.ensures.value)) c.send.ensures.list (sym c.if-not-send.ensures.done))

pub returns-in_default-clause-turns : goal.returns-in_default-clause-turns
returns-in_default-clause-turns g c = λ a t.
    let r : Route = c.args.route.now in
    let at : slice_get r.glass.items c.loop-route.sent ≡ None =
    ap (λ (u : Route). slice_get u.glass.items c.loop-route.sent) (sym c.loop-route.invariant.same) ∙ ap (λ (xs : List Sighting). slice_get xs c.loop-route.sent) (sym c.as_slice.ensures.value) ∙ sym c.in_default.ensures in
    let look = g.V.NodeView.look c.args.scene.now in
    of_route look c.args.most a r c.loop-route.route c.loop-route.sent _ c.loop-route.list t true c.loop-route.invariant.same
    (glass_none look c.args.most a r c.args.from c.loop-route.sent c.args.list.now c.loop-route.list t (c.loop-route.invariant.turns a t) at
    (omega (arith, c.loop-route-test.true, c.len.ensures.value)))

pub returns-clause-turns : goal.returns-clause-turns
returns-clause-turns g c = λ a t.
    let r : Route = c.args.route.now in
    let look = g.V.NodeView.look c.args.scene.now in
    of_route look c.args.most a r c.loop-route.route c.loop-route.sent _ c.loop-route.list t false c.loop-route.invariant.same
    (glass_many look c.args.most a r c.args.from c.loop-route.sent c.args.list.now c.loop-route.list t (c.loop-route.invariant.turns a t)
    (omega (arith, c.loop-route-test.false, c.len.ensures.value)))
