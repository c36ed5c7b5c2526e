-- What a geode draws.
use Rattle.std.proofs.Common.{◌≡◌, List, [], Option, Some, None, ap}
use Rattle.std.specs.Option.{option_map, option_map_or}
use Rattle.pf_model.specs.declared.geometry.Tri.{Tri}
use Rattle.pf_model.specs.declared.nodes.Kind.{Kind}
use Rattle.pf_model.specs.declared.nodes.Kind.TheVariants.{Group, Switch, Scs, Dcs, Lod, Seq, Layer, Geode, Glass}
use Rattle.pf_model.specs.declared.nodes.Node.{Node}
use Rattle.pf_model.specs.Kinds.{Surface, surface_of, geom_of}

pub drawn_geom : (k : Kind) (t : Surface) → surface_of k ≡ Some t → geom_of k ≡ Some t.tris
drawn_geom (Geode state ts) t e = let same : record { state = state; tint = None; tris = ts } ≡ t = cc in ap (λ (u : Surface). Some u.tris) same
drawn_geom (Glass state a ts) t e = ap (λ (o : Option Surface). option_map (λ (u : Surface). u.tris) o) e
drawn_geom Group t e = absurd (cc)
drawn_geom (Switch p) t e = absurd (cc)
drawn_geom (Scs m) t e = absurd (cc)
drawn_geom (Dcs p) t e = absurd (cc)
drawn_geom (Lod c rs) t e = absurd (cc)
drawn_geom (Seq ts r) t e = absurd (cc)
drawn_geom Layer t e = absurd (cc)

-- the triangles of a node, none where it draws none
abbrev pub geom_in : Option Node → List Tri
geom_in m = option_map_or (λ n. option_map_or (λ ts. ts) (geom_of n.kind) []) m []
