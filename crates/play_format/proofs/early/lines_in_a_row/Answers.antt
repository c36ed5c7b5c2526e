use Rattle.std.proofs.Common.{◌≡◌, ◌∙◌, ap}
use Rattle.play_format.specs.Making.{tri_of}
use Rattle.play_format.proofs.EarlyLemmas.{end_whole, end_of_end, no_lines, line_more}
use Rattle.play_format.proofs.early.lines_in_a_row.Goals as goal

pub loop-line-init : goal.loop-line-init
loop-line-init c =
    let rest = c.args.rest.now in
    record { end = end_whole rest; lines = rw c.clear.ensures.items (no_lines rest) }

pub loop-line-preserved : goal.loop-line-preserved
loop-line-preserved c =
    let rest = c.args.rest.now in
    let left = c.loop-line.left.now in
    let behind = c.in-Some.behind.now in
    let zs = c.is_triangle_line.new.numbers.items in
    let tri : c.tri_of.result ≡ tri_of zs = c.tri_of.ensures ∙ ap tri_of c.deref.ensures.value in
    record {
      end = end_of_end rest left behind c.loop-line.invariant.end c.in-Some.ensures.end;
      lines = rw (c.in-Ok.ensures.items, tri) (line_more rest left c.in-Some.line.now behind c.loop-line.tris.items zs c.loop-line.invariant.lines c.in-Some.ensures.parts c.in-Some.ensures.shorter (c.is_triangle_line.ensures c.if-not-is_triangle_line.false));
    }
