use Rattle.std.proofs.Common.{subst, sym, List}
use Rattle.std.proofs.lemmas.List.Elements.{All-push}
use Rattle.pf_model.specs.declared.geometry.Tri.{Tri}
use Rattle.play_format.specs.declared.early.Early.{Early}
use Rattle.play_format.specs.Early.{AreEarly, IsEarly}
use Rattle.play_format.proofs.early.keep.Goals as goal

pub returns : goal.returns
returns c = λ text early all.
    let e : Early = record { at = c.args.at; behind = c.args.behind; tris = c.in_ok-tris.tris } in
    rw c.in_ok-push.ensures.items (All-push (IsEarly text) c.args.all.now.items e all (subst (λ (ts : List Tri). AreEarly text c.args.at c.args.behind ts) (sym c.in_ok-tris.ensures.items) early))
