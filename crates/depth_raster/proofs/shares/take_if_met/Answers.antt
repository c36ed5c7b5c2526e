use Rattle.std.proofs.Common.{Bool, [], ◌∷◌, ◌++◌, cond, sym, ◌∙◌, subst}
use Rattle.depth_raster.specs.Shares.{HasSlots}
use Rattle.depth_raster.specs.StripSlots.{in_strip}
use Rattle.depth_raster.proofs.Shared.{gained_not}
use Rattle.depth_raster.proofs.shares.take_if_met.Goals as goal

pub returns-then-is_met : goal.returns-then-is_met
returns-then-is_met c =
    let s = c.args.strip.now in
    subst (λ (b : Bool). HasSlots (s.slots.items ++ cond b (in_strip c.args.slot ∷ []) []) s c.take.new.strip) (sym (sym c.is_met.ensures ∙ c.if-is_met.true)) c.take.ensures

pub returns-else-is_met : goal.returns-else-is_met
returns-else-is_met c = gained_not c.args.slot c.args.strip.now (sym c.is_met.ensures ∙ c.if-is_met.false)
