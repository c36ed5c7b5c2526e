use Rattle.play_format.proofs.SectionLemmas.{no_triangles, triangle_more}
use Rattle.play_format.proofs.sections.triangles_in_turn.Goals as goal
use Rattle.play_format.specs.Rests.{stand}

pub loop-reader-init : goal.loop-reader-init
loop-reader-init c = rw (c.reserve_exact.ensures.items, c.new-tris.ensures.items) (no_triangles (stand c.args.reader.now.spot c.args.reader.now.line c.args.reader.now.rest.now))

pub loop-reader-preserved : goal.loop-reader-preserved
loop-reader-preserved c =
    let a = stand c.args.reader.now.spot c.args.reader.now.line c.args.reader.now.rest.now in
    let b = stand c.loop-reader.reader.spot c.loop-reader.reader.line c.loop-reader.reader.rest.now in
    let d = stand c.triangle.new.reader.spot c.triangle.new.reader.line c.triangle.new.reader.rest.now in
    rw c.in_ok-push.ensures.items (triangle_more a b d c.loop-reader.tris.items c.in_ok-triangle.field-0 c.loop-reader.invariant c.loop-reader-test.true c.in_ok-triangle.ensures)
