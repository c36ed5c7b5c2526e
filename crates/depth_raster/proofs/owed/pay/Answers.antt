use Rattle.std.proofs.Common.{◌≤◌, List, length, Option, refl, ap, sym, ◌∙◌, subst}
use Rattle.std.specs.List.{All}
use Rattle.depth_raster.specs.Later.{ComesLast}
use Rattle.depth_raster.specs.Owed.{marks_with}
use Rattle.depth_raster.specs.declared.marks.Mark.{Mark}
use Rattle.depth_raster.specs.declared.owed.Owed.{Owed}
use Rattle.depth_raster.proofs.Once.{owed_in}
use Rattle.depth_raster.proofs.Owing.{owed_long, owed_items}
use Rattle.depth_raster.proofs.owed.pay.Goals as goal

pub write-requires-clause-owed : goal.write-requires-clause-owed
write-requires-clause-owed c = owed_in c.args.tile.now.block c.in-Some.owed (c.args.tile.now.owing c.in-Some.owed c.in-Some.is)

pub invariant_of-tile-clause-marks_whole : goal.invariant_of-tile-clause-marks_whole
invariant_of-tile-clause-marks_whole c = ap length (owed_items c.args.tile.now c.in-Some.owed c.deref_mut.result.now c.write.new.marks c.write.auto.marks c.deref_mut.ensures.value c.write.ensures) ∙ owed_long c.in-Some.owed c.args.tile.now.block

pub invariant_of-tile-clause-topped : goal.invariant_of-tile-clause-topped
invariant_of-tile-clause-topped c =
    let t = c.args.tile.now in
    let now = owed_items c.args.tile.now c.in-Some.owed c.deref_mut.result.now c.write.new.marks c.write.auto.marks c.deref_mut.ensures.value c.write.ensures in
    subst (λ (ms : List Mark). All (λ m. m.depth ≤ t.top) ms) (sym now)
    (subst (λ (o : Option Owed). All (λ m. m.depth ≤ t.top) (marks_with t.block t.marks.items o)) c.in-Some.is t.topped)

pub invariant_of-tile-clause-ended : goal.invariant_of-tile-clause-ended
invariant_of-tile-clause-ended c = λ last is.
    let t = c.args.tile.now in
    let now = owed_items c.args.tile.now c.in-Some.owed c.deref_mut.result.now c.write.new.marks c.write.auto.marks c.deref_mut.ensures.value c.write.ensures in
    subst (λ (ms : List Mark). ComesLast last ms) (sym now)
    (subst (λ (o : Option Owed). ComesLast last (marks_with t.block t.marks.items o)) c.in-Some.is (t.ended last is))

pub returns-in-Some-clause-kept : goal.returns-in-Some-clause-kept
returns-in-Some-clause-kept c =
    let t = c.args.tile.now in
    let now = owed_items c.args.tile.now c.in-Some.owed c.deref_mut.result.now c.write.new.marks c.write.auto.marks c.deref_mut.ensures.value c.write.ensures in
    record {
      block = refl;
      marks = now ∙ sym (ap (marks_with t.block t.marks.items) c.in-Some.is);
      colours = refl;
    }
