use Rattle.std.proofs.Common.{◌≡◌, subst, List, ℕ, Some}
use Rattle.std.specs.Prelude.{IfOk}
use Rattle.play_format.specs.Reads.{Reads, HasReading, first_refusal}
use Rattle.perfly_top.proofs.Readings.{no_play_of}
use Rattle.perfly_top.proofs.Ends.{one_end_of, ends_of}
use Rattle.perfly_top.proofs.loading.read_play.Goals as goal

pub returns-clause-why : goal.returns-clause-why
returns-clause-why g c =
    no_play_of (g.I.Source.left c.args.input.now) (g.I.Source.left c.read_input.new.input) c.in_ok-bytes.bytes.items c.play_of.result c.in_ok-bytes.ensures.gave
    (λ r e. subst (λ (x : List ℕ). (first_refusal x ≡ Some r) × ¬ HasReading x) c.as_slice.ensures.value (c.play_of.ensures.refused r e))
    c.play_of.ensures.causes

pub returns-clause-one_end : goal.returns-clause-one_end
returns-clause-one_end g c =
    one_end_of c.play_of.result c.in_ok-bytes.bytes.items (g.I.Source.ends c.args.input.now) (g.I.Source.ends c.read_input.new.input)
    c.in_ok-bytes.ensures.one_end
    (subst (λ (x : List ℕ). IfOk c.play_of.result (λ p. Reads x p)) c.as_slice.ensures.value c.play_of.ensures.found)

pub returns-clause-ends : goal.returns-clause-ends
returns-clause-ends g c =
    ends_of (g.I.Source.left c.args.input.now) (g.I.Source.left c.read_input.new.input) c.in_ok-bytes.bytes.items
    (g.I.Source.ends c.args.input.now) (g.I.Source.ends c.read_input.new.input) c.play_of.result c.in_ok-bytes.ensures.gave
    c.in_ok-bytes.ensures.one_end c.in_ok-bytes.ensures.limit c.play_of.ensures.causes
