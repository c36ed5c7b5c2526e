-- What a walk draws are the instances of pf_model's walk, without their places.
use Rattle.std.proofs.Common.{◌≡◌, ℕ, zero, suc, ◌+◌, ◌*◌, List, [], ◌∷◌, ◌++◌, Option, Some, None, option_map, refl, ap, sym, ◌∙◌}
use Rattle.std.specs.Prelude.{map, filter_map}
use Rattle.std.specs.List.{flat_map, cons_option}
use Rattle.std.specs.Option.{option_map_or, option_to_list, option_and_then}
use Rattle.std.proofs.lemmas.List.{map-append}
use Rattle.std.proofs.lemmas.List.Elements.{filter_map-append}
use Rattle.pf_model.specs.declared.nodes.Node.{Node}
use Rattle.pf_model.specs.Graphs.{Look}
use Rattle.pf_model.specs.Kinds.{Surface, surface_of, own_steps, decal}
use Rattle.pf_model.specs.Walks.{Instance, Occurrence, instance_of, surface_in, child_of, children_in, under, walk_in, shown_children, chosen_in}
use Rattle.pf_picture.specs.Walking.{own_drawn, drawn_at, drawn_in}

abbrev pub unplaced : Occurrence × Surface → Instance
unplaced e = instance_of e.0 e.1 0

-- what occurrences draw, without places
abbrev pub drawn : Look → List Occurrence → List Instance
drawn look os = map unplaced (filter_map (surface_in look) os)

drawn-append : (look : Look) (os ps : List Occurrence) → drawn look (os ++ ps) ≡ drawn look os ++ drawn look ps
drawn-append look os ps = ap (map unplaced) (filter_map-append (surface_in look) os ps) ∙ map-append unplaced (filter_map (surface_in look) os) (filter_map (surface_in look) ps)

drawn-flat : (look : Look) (f : Occurrence → List Occurrence) (g : ℕ × ℕ → Occurrence) (h : ℕ × ℕ → List Instance) (cs : List (ℕ × ℕ)) → ((c : ℕ × ℕ) → drawn look (f (g c)) ≡ h c) → drawn look (flat_map f (map g cs)) ≡ flat_map h cs
drawn-flat look f g h [] each = refl
drawn-flat look f g h (c ∷ cs) each =
    drawn-append look (f (g c)) (flat_map f (map g cs))
    ∙ ap (λ (xs : List Instance). xs ++ drawn look (flat_map f (map g cs))) (each c)
    ∙ ap (λ (xs : List Instance). h c ++ xs) (drawn-flat look f g h cs each)

-- one occurrence
drawn-one : (look : Look) (o : Occurrence) (os : List Occurrence) (n : Node) → look o.id ≡ Some n → drawn look (o ∷ os) ≡ own_drawn o.id o.steps o.shift n ++ drawn look os
drawn-one look o os n is = ap (λ (l : Option Node). map unplaced (cons_option (option_map (λ s. pair s) (option_and_then (λ m. surface_of m.kind) l)) (filter_map (surface_in look) os))) is ∙ by (surface_of n.kind)
  where
    pair : Surface → Occurrence × Surface
    pair s = (o, s)

    by : (s : Option Surface) → map unplaced (cons_option (option_map (λ t. pair t) s) (filter_map (surface_in look) os)) ≡ option_to_list (option_map (λ t. unplaced (pair t)) s) ++ drawn look os
    by None = refl
    by (Some s) = refl

drawn-absent : (look : Look) (o : Occurrence) (os : List Occurrence) → look o.id ≡ None → drawn look (o ∷ os) ≡ drawn look os
drawn-absent look o os is = ap (λ (l : Option Node). map unplaced (cons_option (option_map (λ s. pair s) (option_and_then (λ m. surface_of m.kind) l)) (filter_map (surface_in look) os))) is
  where
    pair : Surface → Occurrence × Surface
    pair s = (o, s)

pub drawn-walk : (n : ℕ) (look : Look) (time : ℕ) (o : Occurrence) → drawn look (walk_in n look time o) ≡ drawn_in n look time o.id o.steps o.shift
unfolding drawn_in walk_in
drawn-walk zero look time o = refl
drawn-walk (suc n) look time o = by (look o.id) refl (λ p. drawn-walk n look time p)
  where
    by : (l : Option Node) → look o.id ≡ l → ((p : Occurrence) → drawn look (walk_in n look time p) ≡ drawn_in n look time p.id p.steps p.shift) → drawn look (o ∷ flat_map (walk_in n look time) (under look time o)) ≡ option_map_or (drawn_at o.id time o.steps o.shift (drawn_in n look time)) (look o.id) []
    by None is each =
        ap (λ (l : Option Node). drawn look (o ∷ flat_map (walk_in n look time) (option_map_or (children_in time o) l []))) is
        ∙ drawn-absent look o [] is
        ∙ ap (λ (l : Option Node). option_map_or (drawn_at o.id time o.steps o.shift (drawn_in n look time)) l []) (sym is)
    by (Some m) is each =
        ap (λ (l : Option Node). drawn look (o ∷ flat_map (walk_in n look time) (option_map_or (children_in time o) l []))) is
        ∙ drawn-one look o (flat_map (walk_in n look time) (children_in time o m)) m is
        ∙ ap (λ (xs : List Instance). own_drawn o.id o.steps o.shift m ++ xs)
        (drawn-flat look (walk_in n look time) (child_of m o) (λ (c : ℕ × ℕ). drawn_in n look time c.1 (own_steps m.kind ++ o.steps) (o.shift + decal m.kind * c.0))
        (shown_children (chosen_in time m o.steps) m.children) (λ c. each (child_of m o c)))
        ∙ ap (λ (l : Option Node). option_map_or (drawn_at o.id time o.steps o.shift (drawn_in n look time)) l []) (sym is)
