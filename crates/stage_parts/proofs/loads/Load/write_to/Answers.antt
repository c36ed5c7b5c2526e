use Rattle.std.proofs.Common.{◌≡◌, ◌<◌, Bool, cond, List, ℕ, length, take, ap, sym, ◌∙◌, subst}
use Rattle.std.specs.Prelude.{IfErr, OnErr}
use Rattle.std.specs.List.{flat_map}
use Rattle.std.specs.Io.KnownBytes.{append_known}
use Rattle.pf_io.specs.Streams.{AppendsFront}
use Rattle.ppm_out.specs.Ppm.{ppm_bytes}
use Rattle.stage_parts.specs.Loads.{LoadState}
use Rattle.stage_parts.proofs.Sizes.{only_image}
use Rattle.stage_parts.proofs.loads.Load.write_to.Goals as goal

pub returns-then-self-clause-cut : goal.returns-then-self-clause-cut
returns-then-self-clause-cut g c =
    let i = c.self.inside in
    let image = c.index.result.now in
    let bytes : ppm_bytes image ≡ c.args.self.now.bytes =
    only_image i.images.items image (c.self.invariant.1 c.if-self.true) c.index.ensures
    ∙ ap (λ (b : Bool). cond b (flat_map ppm_bytes i.images.items) i.bytes.items) (sym c.if-self.true)
    ∙ ap (λ (l : LoadState). l.bytes) c.self.view_is in
    subst
    (λ (bs : List ℕ). IfErr c.write_ppm.result (λ error. (error.written < length bs) × (g.S.Sink.written c.write_ppm.new.sink ≡ append_known (g.S.Sink.written c.args.sink.now) (take error.written bs))))
    bytes c.write_ppm.ensures.cut

pub returns-then-self-clause-front : goal.returns-then-self-clause-front
returns-then-self-clause-front g c =
    let i = c.self.inside in
    let image = c.index.result.now in
    let bytes : ppm_bytes image ≡ c.args.self.now.bytes =
    only_image i.images.items image (c.self.invariant.1 c.if-self.true) c.index.ensures
    ∙ ap (λ (b : Bool). cond b (flat_map ppm_bytes i.images.items) i.bytes.items) (sym c.if-self.true)
    ∙ ap (λ (l : LoadState). l.bytes) c.self.view_is in
    subst (λ (bs : List ℕ). OnErr c.write_ppm.result (AppendsFront (g.S.Sink.written c.args.sink.now) (g.S.Sink.written c.write_ppm.new.sink) bs)) bytes c.write_ppm.ensures.front

pub returns-else-self-clause-front : goal.returns-else-self-clause-front
returns-else-self-clause-front g c =
    let i = c.self.inside in
    let bytes : c.as_slice.result.now ≡ c.args.self.now.bytes =
    c.as_slice.ensures.value
    ∙ ap (λ (b : Bool). cond b (flat_map ppm_bytes i.images.items) i.bytes.items) (sym c.if-self.false)
    ∙ ap (λ (l : LoadState). l.bytes) c.self.view_is in
    subst (λ (bs : List ℕ). OnErr c.write_all.result (AppendsFront (g.S.Sink.written c.args.sink.now) (g.S.Sink.written c.write_all.new.sink) bs)) bytes c.write_all.ensures.front
