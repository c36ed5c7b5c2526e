use Rattle.std.proofs.Common.{[], refl, arith}
use Rattle.depth_raster.specs.Blocks.{place_in}
use Rattle.depth_raster.proofs.Following.{place_within}
use Rattle.depth_raster.proofs.painting.fill.Goals as goal

pub returns-then-is_plain : goal.returns-then-is_plain
returns-then-is_plain c =
    let t = c.args.tile.now in
    record {
      block = refl;
      marks = refl;
      colours = λ q r column row. t.plained c.args.colour (c.is_plain.ensures c.if-is_plain.true) (place_in t.block q r) []
          (omega (arith, t.colours_whole, place_within t.block q r column row));
    }
