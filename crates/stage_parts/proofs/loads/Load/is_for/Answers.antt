use Rattle.std.proofs.Common.{◌≡◌, ◌∙◌, sym, rules}
use Rattle.stage_parts.specs.Loads.{is_for}
use Rattle.stage_parts.proofs.Sizes.{images_for}
use Rattle.stage_parts.proofs.loads.Load.is_for.Goals as goal

pub returns-then-len-channels-2-clause-images : goal.returns-then-len-channels-2-clause-images
returns-then-len-channels-2-clause-images c is =
    let value : c.are_of_size.result ≡ is_for c.args.lens.now c.args.channels c.args.self.now = search rules in
    images_for c.args.lens.now c.args.channels c.args.self.now (sym value ∙ is)
