use Rattle.std.proofs.Common.{rules, ◌≡◌, map, sym, subst}
use Rattle.pf_model.specs.Graphs.{Nodes, put}
use Rattle.pf_model.specs.Limits.{IsRising}
use Rattle.pf_model.proofs.Places.{put_is_insert, put_rising}
use Rattle.plain_graph.proofs.graph.put.Goals as goal

pub returns-clause-ok : goal.returns-clause-ok
returns-clause-ok c = rw (put_is_insert c.args.id c.args.node c.args.nodes.now.items c.requires.absent) (search rules)

pub returns-clause-rising : goal.returns-clause-rising
returns-clause-rising c =
    let same : c.insert.new.self.items ≡ put c.args.id c.args.node c.args.nodes.now.items = rw (put_is_insert c.args.id c.args.node c.args.nodes.now.items c.requires.absent) (search rules) in
    subst (λ (g : Nodes). IsRising (map (λ e. e.0) g)) (sym same) (put_rising c.args.id c.args.node c.args.nodes.now.items c.requires.rising)
