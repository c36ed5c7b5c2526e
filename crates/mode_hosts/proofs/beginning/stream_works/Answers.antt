use Rattle.std.proofs.Common.{List, [], Some, sym, ap, subst}
use Rattle.frame_link.specs.Ends.{ring_sent}
use Rattle.stream_stages.specs.Cuts.{Cut}
use Rattle.stream_stages.specs.CullParts.{StreamCullPart}
use Rattle.stream_stages.specs.DrawParts.{StreamDrawPart}
use Rattle.mode_hosts.proofs.beginning.stream_works.Goals as goal

pub returns : goal.returns
returns c =
    let cull = c.in_ok-cull.cull in
    let draw = c.in_ok-draw.draw in
    let there = c.in_ok-there.ensures in
    let again = c.in_ok-again.ensures in
    let first = ring_sent c.in_ok-again.again.send in
    record {
      links = λ i. Some (record { pieces_at = there.link i; back_at = (sym again.link) i });
      limited = ap Some c.in_ok-cull.ensures.limit;
      cull_given = c.in_ok-cull.ensures.lens;
      draw_given = c.in_ok-draw.ensures.lens;
      background = c.in_ok-draw.ensures.back;
      cull_keeps = subst (λ (gone : List Cut). StreamCullPart cull.lens cull.limit cull.state [] [] gone) (sym there.sent) c.in_ok-cull.ensures.part;
      draw_keeps = (
        first,
        subst (λ (came : List Cut). StreamDrawPart draw.lens draw.back first draw.state [] [] came first) (sym there.taken)
            (c.in_ok-draw.ensures.part first),
      );
    }
