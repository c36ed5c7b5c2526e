use Rattle.std.proofs.Common.{◌≡◌, List, length, ap, sym, ◌∙◌, subst}
use Rattle.std.proofs.lemmas.List.{with_items_is}
use Rattle.std.specs.List.{All}
use Rattle.depth_raster.specs.Canvas.{colour_at}
use Rattle.depth_raster.specs.Shown.{ShowsItself}
use Rattle.depth_raster.specs.Strips.{StripsRelate, AreStrips}
use Rattle.depth_raster.specs.declared.strip.Strip.{Strip}
use Rattle.depth_raster.proofs.Handed.{IsSame}
use Rattle.depth_raster.proofs.shown.hand_over.Goals as goal

pub exchange_rows-requires : goal.exchange_rows-requires
exchange_rows-requires c =
    let lent = sym c.as_mut_slice.ensures.value in
    record {
      width = c.requires.width;
      height = c.requires.height;
      strips = subst (λ (ss : List Strip). AreStrips c.args.lens.now ss) lent c.requires.strips;
      shown = subst (λ (ss : List Strip). All ShowsItself ss) lent c.requires.shown;
    }

pub returns : goal.returns
returns c =
    let a = c.args in
    let ends = c.exchange_rows in
    let after = ends.new.strips in
    let long : length after ≡ a.strips.now.len = ends.auto.strips ∙ c.as_mut_slice.ensures.len in
    let written = sym (with_items_is a.strips.now after long) in
    let many : length after ≡ length a.strips.now.items = ends.auto.strips ∙ ap length c.as_mut_slice.ensures.value in
    let same = subst (λ (ss : List Strip). StripsRelate IsSame ss after) c.as_mut_slice.ensures.value ends.ensures.strips in
    record {
      many = subst (λ (ss : List Strip). length ss ≡ length a.strips.now.items) written many;
      strips = subst (λ (ss : List Strip). StripsRelate IsSame a.strips.now.items ss) written same;
      width = ends.ensures.width;
      height = ends.ensures.height;
      pixels = λ px py column row. ends.ensures.pixels px py column row ∙ ap (λ (ss : List Strip). colour_at ss px py) written;
    }
