use Rattle.std.proofs.Common.{◌≡◌, refl, ap, ◌∙◌, to_z, of_z, w32}
use Rattle.std.proofs.lemmas.Int.{to_z-of_z}
use Rattle.fx_math.specs.Steps.{sine, cosine}
use Rattle.draw_list.proofs.StepLaws.{rolls, pitches, turns, roll_none, pitch_none, heading_none}
use Rattle.draw_list.proofs.turns.Turn.of.Goals as goal

pub returns-then-is_still-clause-rolls : goal.returns-then-is_still-clause-rolls
returns-then-is_still-clause-rolls c =
    let at : to_z w32 (of_z w32 c.args.x) ≡ c.args.x = to_z-of_z w32 c.args.x c.ranges.x in
    roll_none c.args.x _ _ (c.new-turn.ensures.sine ∙ ap sine at) (c.new-turn.ensures.cosine ∙ ap cosine at)
    (c.if-is_still.ensures.sine refl) (c.if-is_still.ensures.cosine refl)

pub returns-then-is_still-clause-pitches : goal.returns-then-is_still-clause-pitches
returns-then-is_still-clause-pitches c =
    let at : to_z w32 (of_z w32 c.args.x) ≡ c.args.x = to_z-of_z w32 c.args.x c.ranges.x in
    pitch_none c.args.x _ _ (c.new-turn.ensures.sine ∙ ap sine at) (c.new-turn.ensures.cosine ∙ ap cosine at)
    (c.if-is_still.ensures.sine refl) (c.if-is_still.ensures.cosine refl)

pub returns-then-is_still-clause-turns : goal.returns-then-is_still-clause-turns
returns-then-is_still-clause-turns c =
    let at : to_z w32 (of_z w32 c.args.x) ≡ c.args.x = to_z-of_z w32 c.args.x c.ranges.x in
    heading_none c.args.x _ _ (c.new-turn.ensures.sine ∙ ap sine at) (c.new-turn.ensures.cosine ∙ ap cosine at)
    (c.if-is_still.ensures.sine refl) (c.if-is_still.ensures.cosine refl)

pub returns-else-is_still-clause-rolls : goal.returns-else-is_still-clause-rolls
returns-else-is_still-clause-rolls c =
    let at : to_z w32 (of_z w32 c.args.x) ≡ c.args.x = to_z-of_z w32 c.args.x c.ranges.x in
    rolls c.args.x _ _ (c.new-turn.ensures.sine ∙ ap sine at) (c.new-turn.ensures.cosine ∙ ap cosine at)

pub returns-else-is_still-clause-pitches : goal.returns-else-is_still-clause-pitches
returns-else-is_still-clause-pitches c =
    let at : to_z w32 (of_z w32 c.args.x) ≡ c.args.x = to_z-of_z w32 c.args.x c.ranges.x in
    pitches c.args.x _ _ (c.new-turn.ensures.sine ∙ ap sine at) (c.new-turn.ensures.cosine ∙ ap cosine at)

pub returns-else-is_still-clause-turns : goal.returns-else-is_still-clause-turns
returns-else-is_still-clause-turns c =
    let at : to_z w32 (of_z w32 c.args.x) ≡ c.args.x = to_z-of_z w32 c.args.x c.ranges.x in
    turns c.args.x _ _ (c.new-turn.ensures.sine ∙ ap sine at) (c.new-turn.ensures.cosine ∙ ap cosine at)
