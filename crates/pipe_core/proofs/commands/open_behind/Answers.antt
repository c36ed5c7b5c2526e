use Rattle.std.proofs.Common.{◌≡◌, ◌+◌, Bool, ◌∷◌, drop, sym, ap, ◌∙◌, arith}
use Rattle.std.proofs.lemmas.List.{drop_more, drop_all}
use Rattle.std.specs.Option.{option_and_then}
use Rattle.pf_model.specs.declared.lines.BaseLine.{BaseLine}
use Rattle.play_format.specs.Plays.{open_after}
use Rattle.pipe_core.proofs.commands.open_behind.Goals as goal

pub loop-line-preserved : goal.loop-line-preserved
loop-line-preserved c =
    let lines = c.args.lines.now in
    let left = drop (c.loop-line.line-index + 1) lines in
    let next : drop c.loop-line.line-index lines ≡ c.line-item.result ∷ left =
    drop_more lines c.loop-line.line-index c.line-item.result c.loop-line-test.true ∙ ap (λ (l : BaseLine). l ∷ left) (sym c.line-item.is) in
    c.loop-line.invariant ∙ ap (open_after c.loop-line.inside) next
    ∙ ap (option_and_then (λ (b : Bool). open_after b left)) (sym c.opened.ensures ∙ c.in-Some.is)

pub returns-in-None : goal.returns-in-None
returns-in-None c =
    let lines = c.args.lines.now in
    let left = drop (c.loop-line.line-index + 1) lines in
    let next : drop c.loop-line.line-index lines ≡ c.line-item.result ∷ left =
    drop_more lines c.loop-line.line-index c.line-item.result c.loop-line-test.true ∙ ap (λ (l : BaseLine). l ∷ left) (sym c.line-item.is) in
    sym (c.loop-line.invariant ∙ ap (open_after c.loop-line.inside) next
    ∙ ap (option_and_then (λ (b : Bool). open_after b left)) (sym c.opened.ensures ∙ c.in-None.is))

pub returns : goal.returns
returns c =
    let lines = c.args.lines.now in
    sym (c.loop-line.invariant ∙ ap (open_after c.loop-line.inside) (drop_all c.loop-line.line-index lines (omega arith)))
