-- The places and the boxes of instances.
use Rattle.std.proofs.Common.{◌≡◌, ℕ, zero, suc, ◌+◌, ◌<◌, List, [], ◌∷◌, map, length, Option, Some, None, refl, sym, ◌∙◌, ap, subst, arith}
use Rattle.std.specs.List.{AllByRecursion, enumerate_from, filter_map, cons_option, range_with_len}
use Rattle.std.specs.Option.{option_map, option_map_or, option_and_then}
use Rattle.fx_math.specs.Plain.{Bounds}
use Rattle.fx_math.specs.Fixed.{carry_box}
use Rattle.pf_model.specs.declared.geometry.Tri.{Tri}
use Rattle.pf_model.specs.declared.nodes.Kind.{Kind}
use Rattle.pf_model.specs.declared.nodes.Kind.TheVariants.{Group, Switch, Scs, Dcs, Lod, Seq, Layer, Geode, Glass}
use Rattle.pf_model.specs.declared.nodes.Node.{Node}
use Rattle.pf_model.specs.Kinds.{Surface, surface_of, geom_of, own_steps}
use Rattle.pf_model.specs.Graphs.{Look}
use Rattle.pf_model.specs.Limits.{IsRising}
use Rattle.pf_model.specs.Walks.{Occurrence, instance_of, surface_in, instances_of}
use Rattle.pf_model.specs.Boxes.{AreBoxes, box_from, box_step, box_in, box_of, box_of_tris, hull_of_all}
use Rattle.pf_model.proofs.Levels.{box_next}
use Rattle.pf_model.specs.Laws.{HasNodeBox}

-- Places

counted : (n : ℕ) (es : List (Occurrence × Surface)) → map (λ x. x.place) (map (λ e. instance_of e.1.0 e.1.1 e.0) (enumerate_from n es)) ≡ range_with_len n (length (map (λ e. instance_of e.1.0 e.1.1 e.0) (enumerate_from n es)))
counted n [] = refl
counted n (e ∷ es) = ap (λ ns. n ∷ ns) (counted (n + 1) es)

pub places_counted : (look : Look) (os : List Occurrence) → map (λ x. x.place) (instances_of look os) ≡ range_with_len 0 (length (instances_of look os))
places_counted look os = counted 0 (filter_map (surface_in look) os)

range_above : (m a n : ℕ) → m < a → AllByRecursion (λ y. m < y) (range_with_len a n)
range_above m a zero l = tt
range_above m a (suc n) l = (l, range_above m (a + 1) n (omega arith))

range_rises : (a n : ℕ) → IsRising (range_with_len a n)
range_rises a zero = tt
range_rises a (suc n) = (range_above a (a + 1) n (omega arith), range_rises (a + 1) n)

pub places_rise : (look : Look) (os : List Occurrence) → IsRising (map (λ x. x.place) (instances_of look os))
places_rise look os = subst (λ (ns : List ℕ). IsRising ns) (sym (places_counted look os)) (range_rises 0 (length (instances_of look os)))

-- Boxes

-- a kind that draws triangles has them as its geometry
drawn_geom : (k : Kind) (s : Surface) → surface_of k ≡ Some s → geom_of k ≡ Some s.tris
drawn_geom (Geode state ts) s e = let same : record { state = state; tint = None; tris = ts } ≡ s = cc in ap (λ (t : Surface). Some t.tris) same
drawn_geom (Glass state a ts) s e = ap (λ (o : Option Surface). option_map (λ (t : Surface). t.tris) o) e
drawn_geom Group s e = absurd (cc)
drawn_geom (Switch p) s e = absurd (cc)
drawn_geom (Scs m) s e = absurd (cc)
drawn_geom (Dcs p) s e = absurd (cc)
drawn_geom (Lod c rs) s e = absurd (cc)
drawn_geom (Seq ts r) s e = absurd (cc)
drawn_geom Layer s e = absurd (cc)

-- the box of a geode is that of its triangles, whatever the boxes of other nodes
geode_box : (look : Look) (boxes : ℕ → Option Bounds) (id : ℕ) (s : Surface) → option_and_then (λ n. surface_of n.kind) (look id) ≡ Some s → box_step look boxes id ≡ box_of_tris s.tris
geode_box look boxes id s e = by (look id) e
  where
    by : (o : Option Node) → option_and_then (λ n. surface_of n.kind) o ≡ Some s → option_map_or (box_from boxes) o None ≡ box_of_tris s.tris
    by None e = absurd (cc)
    by (Some n) e = ap (λ (g : Option (List Tri)). option_map_or box_of_tris g (option_map (carry_box (own_steps n.kind)) (hull_of_all (map boxes n.children)))) (drawn_geom n.kind s e)

instances_boxed : (look : Look) (boxes : ℕ → Option Bounds) → ((id : ℕ) (s : Surface) → option_and_then (λ n. surface_of n.kind) (look id) ≡ Some s → boxes id ≡ box_of_tris s.tris)
    → (n : ℕ) (os : List Occurrence) → AllByRecursion (HasNodeBox boxes) (map (λ e. instance_of e.1.0 e.1.1 e.0) (enumerate_from n (filter_map (surface_in look) os)))
instances_boxed look boxes drawn n [] = tt
instances_boxed look boxes drawn n (o ∷ os) = by (λ k. instances_boxed look boxes drawn k os) (option_and_then (λ m. surface_of m.kind) (look o.id)) refl
  where
    by : ((k : ℕ) → AllByRecursion (HasNodeBox boxes) (map (λ e. instance_of e.1.0 e.1.1 e.0) (enumerate_from k (filter_map (surface_in look) os)))) → (s : Option Surface) → option_and_then (λ m. surface_of m.kind) (look o.id) ≡ s
        → AllByRecursion (HasNodeBox boxes) (map (λ e. instance_of e.1.0 e.1.1 e.0) (enumerate_from n (cons_option (option_map (λ t. (o, t)) s) (filter_map (surface_in look) os))))
    by rest None e = rest n
    by rest (Some s) e = (sym (ap (option_map (carry_box o.steps)) (drawn o.id s e)), rest (n + 1))

pub boxed : (look : Look) (boxes : ℕ → Option Bounds) (os : List Occurrence) → AreBoxes look boxes → AllByRecursion (HasNodeBox boxes) (instances_of look os)
boxed look boxes os meets = instances_boxed look boxes (λ id s e. meets.step id ∙ geode_box look boxes id s e) 0 os

pub boxed_from_scratch : (look : Look) (os : List Occurrence) → AllByRecursion (HasNodeBox (box_of look)) (instances_of look os)
boxed_from_scratch look os = instances_boxed look (box_of look) (λ id s e. box_next 31 look id ∙ geode_box look (box_in 31 look) id s e) 0 os
