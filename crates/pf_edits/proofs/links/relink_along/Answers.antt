use Rattle.std.proofs.Common.{◌≡◌, ◌==◌, ℕ, cond, List, [], ◌∷◌, Option, is_some, refl, sym, ◌∙◌, ap}
use Rattle.std.specs.Option.{option_map_or}
use Rattle.std.proofs.lemmas.Bool.{eq-eqb}
use Rattle.pf_model.specs.declared.nodes.Node.{Node}
use Rattle.pf_model.specs.Graphs.{children_of}
use Rattle.pf_model.specs.NodeEdits.{with_children}
use Rattle.pf_edits.specs.Ways.{is_in}
use Rattle.pf_edits.specs.Extents.{look_of, extent_at, reckoned}
use Rattle.pf_edits.proofs.Ups.{ahead}
use Rattle.pf_edits.proofs.Listed.{found}
use Rattle.pf_edits.proofs.Relinks.{children_changed, leads_still, meets_off}
use Rattle.pf_edits.proofs.Trials.{all_meet}
use Rattle.pf_edits.proofs.Works.{there_after}
use Rattle.pf_edits.proofs.links.relink_along.Goals as goal

pub set_along-requires-clause-there : goal.set_along-requires-clause-there
set_along-requires-clause-there c =
    let m = c.swap_children-older.new.records.slots in
    ap (λ (o : Option Node). is_some o) (sym (found m c.args.id))
    ∙ there_after c.args.records.now.slots m c.args.id (with_children c.args.children) c.swap_children-older.ensures.nodes c.requires.there

pub set_along-requires-clause-leads : goal.set_along-requires-clause-leads
set_along-requires-clause-leads c =
    leads_still (look_of c.args.records.now.slots) (look_of c.swap_children-older.new.records.slots) c.args.id c.args.children c.requires.there c.swap_children-older.ensures.nodes
    c.args.way.now c.requires.apart c.requires.leads

pub set_along-requires-clause-meets : goal.set_along-requires-clause-meets
set_along-requires-clause-meets c =
    meets_off (look_of c.args.records.now.slots) (look_of c.swap_children-older.new.records.slots) c.args.id c.args.children c.requires.there c.swap_children-older.ensures.nodes
    (extent_at c.args.records.now.slots) (extent_at c.swap_children-older.new.records.slots) (c.args.id ∷ [])
    (ahead (c.args.id == c.args.id) (is_in c.args.id []) (eq-eqb c.args.id c.args.id refl)) c.swap_children-older.ensures.extents c.requires.meets

pub returns-clause-meets : goal.returns-clause-meets
returns-clause-meets c =
    let s = c.args.records.now.slots in
    let m = c.swap_children-older.new.records.slots in
    let u = c.set_along.new.records.slots in
    let kids : children_of (look_of u) c.args.id ≡ c.args.children =
    ap (λ (o : Option Node). option_map_or (λ (n : Node). n.children) o []) (c.set_along.ensures.nodes c.args.id)
    ∙ children_changed (look_of s) (look_of m) c.args.id c.args.children c.requires.there c.swap_children-older.ensures.nodes c.args.id
    ∙ ap (λ t. cond t c.args.children (children_of (look_of s) c.args.id)) (eq-eqb c.args.id c.args.id refl) in
    all_meet (look_of u) (extent_at s) (extent_at u) c.args.id c.args.way.now c.set_along.ensures.meets
    (c.set_along.ensures.extent ∙ c.requires.extent ∙ ap (λ (cs : List ℕ). reckoned (extent_at s) cs) (sym kids))
    (λ x on. ap (is_in x) kids ∙ c.requires.apart x on)
    (λ b off. c.set_along.ensures.others b off ∙ c.swap_children-older.ensures.extents b)
