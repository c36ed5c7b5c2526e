-- What a walk has appended.
use Rattle.std.proofs.Common.{◌≡◌, ℕ, zero, suc, ◌+◌, ◌-◌, ◌*◌, ◌<◌, ◌≤◌, List, [], ◌∷◌, ◌++◌, length, Option, Some, None, refl, ap, sym, ◌∙◌, arith, append_assoc}
use Rattle.std.specs.Prelude.{slice_index}
use Rattle.std.specs.List.{flat_map}
use Rattle.std.specs.Option.{option_map_or}
use Rattle.std.proofs.lemmas.List.{append-nil}
use Rattle.std.proofs.lemmas.List.FromFn.{map-range_with_len_more}
use Rattle.std.proofs.lemmas.List.Concat.{flat_map-append}
use Rattle.fx_math.specs.Plain.{Matrix}
use Rattle.pf_model.specs.declared.nodes.Chosen.{Chosen}
use Rattle.pf_model.specs.declared.nodes.Node.{Node}
use Rattle.pf_model.specs.Graphs.{Look}
use Rattle.pf_model.specs.Kinds.{own_steps, decal}
use Rattle.pf_model.specs.Walks.{Instance, shown_children, chosen_in}
use Rattle.pf_model.specs.ShownPlaces.{places, ArePlaces}
use Rattle.pf_picture.specs.Walking.{own_drawn, drawn_at, drawn_in}

pub no_levels : (xs : List Instance) (levels : ℕ) (look : Look) (time id : ℕ) (steps : List Matrix) (shift : ℕ) → levels ≡ 0 → xs ≡ xs ++ drawn_in levels look time id steps shift
unfolding drawn_in
no_levels xs zero look time id steps shift e = sym (append-nil xs)
no_levels xs (suc n) look time id steps shift e = absurd (omega (arith, e))

pub no_node : (xs : List Instance) (levels : ℕ) (look : Look) (time id : ℕ) (steps : List Matrix) (shift : ℕ) → None ≡ look id → xs ≡ xs ++ drawn_in levels look time id steps shift
unfolding drawn_in
no_node xs zero look time id steps shift e = sym (append-nil xs)
no_node xs (suc n) look time id steps shift e =
    sym (append-nil xs) ∙ ap (λ (o : Option Node). xs ++ option_map_or (drawn_at id time steps shift (drawn_in n look time)) o []) e

abbrev pair : ℕ → ℕ → ℕ × ℕ
pair a b = (a, b)

-- what a child adds
abbrev pub child_drawn : ℕ → Look → ℕ → Node → List Matrix → ℕ → ℕ × ℕ → List Instance
child_drawn n look time node below shift c = drawn_in n look time c.1 below (shift + decal node.kind * c.0)

pub one_more : (f : ℕ × ℕ → List Instance) (start current next : List Instance) (cs : List ℕ) (from place : ℕ) → from ≤ place → current ≡ start ++ flat_map f (places cs from (place - from)) → next ≡ current ++ f (pair place (slice_index cs place)) → next ≡ start ++ flat_map f (places cs from (place + 1 - from))
one_more f start current next cs from place le so_far adds = adds ∙ ap (λ (xs : List Instance). xs ++ f last) so_far ∙ append_assoc start (flat_map f (places cs from n)) (f last) ∙ ap (λ (xs : List Instance). start ++ xs) (sym all)
  where
    last : ℕ × ℕ
    last = pair place (slice_index cs place)

    n : ℕ
    n = place - from

    len : place + 1 - from ≡ n + 1
    len = omega (arith, le)

    one : flat_map f (last ∷ []) ≡ f last
    one = append-nil (f last)

    more : places cs from (n + 1) ≡ places cs from n ++ last ∷ []
    more = map-range_with_len_more (λ (k : ℕ). pair k (slice_index cs k)) from n place (omega (arith, le))

    all : flat_map f (places cs from (place + 1 - from)) ≡ flat_map f (places cs from n) ++ f last
    all = ap (λ (k : ℕ). flat_map f (places cs from k)) len ∙ ap (flat_map f) more ∙ flat_map-append f (places cs from n) (last ∷ []) ∙ ap (λ (xs : List Instance). flat_map f (places cs from n) ++ xs) one

pub drawn_node : (n : ℕ) (look : Look) (time id : ℕ) (steps : List Matrix) (shift : ℕ) (node : Node) → Some node ≡ look id → drawn_in (suc n) look time id steps shift ≡ own_drawn id steps shift node ++ flat_map (child_drawn n look time node (own_steps node.kind ++ steps) shift) (shown_children (chosen_in time node steps) node.children)
unfolding drawn_in
drawn_node n look time id steps shift node e = ap (λ (o : Option Node). option_map_or (drawn_at id time steps shift (drawn_in n look time)) o []) (sym e)

-- all of a node: itself, and its children one by one
pub all_drawn : (levels : ℕ) (look : Look) (time id : ℕ) (steps : List Matrix) (shift : ℕ) (node : Node) (chosen : Chosen) (below : List Matrix) (cs : List ℕ) (from to place : ℕ) (old pushed new : List Instance) →
    0 < levels → Some node ≡ look id → chosen ≡ chosen_in time node steps → below ≡ own_steps node.kind ++ steps → cs ≡ node.children →
    ArePlaces chosen (length cs) from to → place ≡ to → pushed ≡ old ++ own_drawn id steps shift node →
    new ≡ pushed ++ flat_map (child_drawn (levels - 1) look time node below shift) (places cs from (place - from)) →
    new ≡ old ++ drawn_in levels look time id steps shift
all_drawn levels look time id steps shift node chosen below cs from to place old pushed new some is picked steps_are children are last push loop =
    loop
    ∙ ap (λ (xs : List Instance). xs ++ flat_map (child_drawn (levels - 1) look time node below shift) (places cs from (place - from))) push
    ∙ append_assoc old (own_drawn id steps shift node) (flat_map (child_drawn (levels - 1) look time node below shift) (places cs from (place - from)))
    ∙ ap (λ (xs : List Instance). old ++ xs) whole
  where
    n : ℕ
    n = levels - 1

    above : suc n ≡ levels
    above = omega (arith, some)

    range : places cs from (place - from) ≡ shown_children (chosen_in time node steps) node.children
    range = ap (λ (k : ℕ). places cs from (k - from)) last ∙ sym (are.are cs refl) ∙ ap (λ (o : Chosen). shown_children o cs) picked ∙ ap (shown_children (chosen_in time node steps)) children

    whole : own_drawn id steps shift node ++ flat_map (child_drawn n look time node below shift) (places cs from (place - from)) ≡ drawn_in levels look time id steps shift
    whole =
        ap (λ (ps : List (ℕ × ℕ)). own_drawn id steps shift node ++ flat_map (child_drawn n look time node below shift) ps) range
        ∙ ap (λ (ms : List Matrix). own_drawn id steps shift node ++ flat_map (child_drawn n look time node ms shift) (shown_children (chosen_in time node steps) node.children)) steps_are
        ∙ sym (drawn_node n look time id steps shift node is)
        ∙ ap (λ (k : ℕ). drawn_in k look time id steps shift) above
