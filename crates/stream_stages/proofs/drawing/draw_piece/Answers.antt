use Rattle.std.proofs.Common.{◌≡◌, ◌∙◌, Bool, true, false, refl, sym, subst}
use Rattle.draw_list.specs.Lists.{Drawables, instances_in}
use Rattle.stream_stages.specs.Drawing.{DrawsMore}
use Rattle.stream_stages.proofs.Exchanged.{ended_for}
use Rattle.stream_stages.proofs.drawing.draw_piece.Goals as goal

not_both : (t : Bool) → t ≡ true → t ≡ false → ⊥
not_both true e f = absurd (cc)
not_both false e f = absurd (cc)

pub returns-then-not-is_last-clause-draws : goal.returns-then-not-is_last-clause-draws
returns-then-not-is_last-clause-draws g c =
    record {
      added = c.add.new.self;
      renderer = record { lens = c.add.ensures.lens; back = c.add.ensures.back };
      draws = subst (λ (d : Drawables). DrawsMore c.args.raster.now c.add.new.self (instances_in d)) c.list.ensures.value c.add.ensures.drawn;
      more = λ mark. (refl, refl);
      ends = λ mark. absurd (not_both c.args.piece.now.last mark (sym c.is_last.ensures ∙ c.if-not-is_last.true));
    }

pub returns-clause-draws : goal.returns-clause-draws
returns-clause-draws g c =
    record {
      added = c.add.new.self;
      renderer = record { lens = c.end_channel.ensures.lens ∙ c.add.ensures.lens; back = c.end_channel.ensures.back ∙ c.add.ensures.back };
      draws = subst (λ (d : Drawables). DrawsMore c.args.raster.now c.add.new.self (instances_in d)) c.list.ensures.value c.add.ensures.drawn;
      more = λ mark. absurd (not_both c.args.piece.now.last (sym c.is_last.ensures ∙ c.if-not-is_last.false) mark);
      ends = λ mark.
          ended_for c.args.raster.now.lens c.args.raster.now.back c.stats.result c.args.piece.now.stats c.add.new.self c.end_channel.new.raster
          c.args.frame.now c.end_channel.new.frame c.add.ensures.lens c.add.ensures.back c.stats.ensures c.end_channel.ensures.ends;
    }
