-- What the code has done at each exit is what the probe does.
use Rattle.std.proofs.Common.{◌≡◌, ◌∙◌, ℕ, zero, suc, ◌+◌, ◌-◌, ◌≤◌, ◌<◌, List, [], ◌∷◌, ◌++◌, length, Option, Some, None, ap, sym, refl, arith}
use Rattle.std.specs.Prelude.{slice_index}
use Rattle.std.specs.Option.{option_map_or}
use Rattle.std.proofs.lemmas.List.FromFn.{map-range_with_len_more}
use Rattle.fx_math.specs.Plain.{Matrix}
use Rattle.pf_model.specs.declared.nodes.Chosen.{Chosen}
use Rattle.pf_model.specs.declared.nodes.Node.{Node}
use Rattle.pf_model.specs.Boxes.{eye_box}
use Rattle.pf_model.specs.Kinds.{surface_of, own_steps}
use Rattle.pf_model.specs.Walks.{shown_children, chosen_in}
use Rattle.pf_model.specs.ShownPlaces.{places, ArePlaces}
use Rattle.nearest_hit.specs.Working.{Sight, Findings, with_own, over, entered, probed}

pub no_levels_left : (levels : ℕ) (s : Sight) (f : Findings) (id : ℕ) (steps : List Matrix) → levels ≡ 0 → f ≡ probed levels s f id steps
unfolding probed
no_levels_left zero s f id steps e = refl
no_levels_left (suc n) s f id steps e = absurd (omega (arith, e))

opened : (levels : ℕ) (s : Sight) (f : Findings) (id : ℕ) (steps : List Matrix) → 0 < levels → probed levels s f id steps ≡ option_map_or (entered (probed (levels - 1) s) s f id steps) (s.look id) f
unfolding probed
opened zero s f id steps h = absurd (omega (arith, h))
opened (suc n) s f id steps h = ap (λ (k : ℕ). option_map_or (entered (probed k s) s f id steps) (s.look id) f) (one_less n)
  where
    one_less : (n : ℕ) → n ≡ suc n - 1
    one_less n = omega arith

pub no_node : (levels : ℕ) (s : Sight) (f : Findings) (id : ℕ) (steps : List Matrix) → 0 < levels → None ≡ s.look id → f ≡ probed levels s f id steps
no_node levels s f id steps h absent =
    ap (λ (l : Option Node). option_map_or (entered (probed (levels - 1) s) s f id steps) l f) absent ∙ sym (opened levels s f id steps h)

node_then : (levels : ℕ) (s : Sight) (f : Findings) (id : ℕ) (steps : List Matrix) (n : Node) → 0 < levels → Some n ≡ s.look id → entered (probed (levels - 1) s) s f id steps n ≡ probed levels s f id steps
node_then levels s f id steps n h found =
    ap (λ (l : Option Node). option_map_or (entered (probed (levels - 1) s) s f id steps) l f) found ∙ sym (opened levels s f id steps h)

pub all_done : (levels : ℕ) (s : Sight) (f start g : Findings) (id : ℕ) (steps lower : List Matrix) (n : Node) (chosen : Chosen) (cs : List ℕ) (from to place : ℕ) → 0 < levels → Some n ≡ s.look id →
    start ≡ with_own s.segment (eye_box s.boxes id steps) id steps f (surface_of n.kind) → lower ≡ own_steps n.kind ++ steps → chosen ≡ chosen_in s.time n steps → cs ≡ n.children → ArePlaces chosen (length cs) from to → place ≡ to →
    g ≡ over (probed (levels - 1) s) lower start (places cs from (place - from)) → g ≡ probed levels s f id steps
all_done levels s f start g id steps lower n chosen cs from to place h found own below picked children are last loop =
    loop
    ∙ ap (over (probed (levels - 1) s) lower start) range
    ∙ ap (λ (ms : List Matrix). over (probed (levels - 1) s) ms start (shown_children (chosen_in s.time n steps) n.children)) below
    ∙ ap (λ (k : Findings). over (probed (levels - 1) s) (own_steps n.kind ++ steps) k (shown_children (chosen_in s.time n steps) n.children)) own
    ∙ node_then levels s f id steps n h found
  where
    range : places cs from (place - from) ≡ shown_children (chosen_in s.time n steps) n.children
    range =
        ap (λ (k : ℕ). places cs from (k - from)) last
        ∙ sym (are.are cs refl)
        ∙ ap (λ (o : Chosen). shown_children o cs) picked
        ∙ ap (shown_children (chosen_in s.time n steps)) children

abbrev pair : ℕ → ℕ → ℕ × ℕ
pair a b = (a, b)

over_more : (visit : Findings → ℕ → List Matrix → Findings) (steps : List Matrix) (f : Findings) (cs : List (ℕ × ℕ)) (c : ℕ × ℕ) → over visit steps f (cs ++ c ∷ []) ≡ visit (over visit steps f cs) c.1 steps
over_more visit steps f [] c = refl
over_more visit steps f (d ∷ cs) c = over_more visit steps (visit f d.1 steps) cs c

pub one_more : (visit : Findings → ℕ → List Matrix → Findings) (steps : List Matrix) (start current next : Findings) (cs : List ℕ) (from place : ℕ) → from ≤ place →
    current ≡ over visit steps start (places cs from (place - from)) → next ≡ visit current (slice_index cs place) steps →
    next ≡ over visit steps start (places cs from (place + 1 - from))
one_more visit steps start current next cs from place le so_far adds =
    adds
    ∙ ap (λ (f : Findings). visit f (slice_index cs place) steps) so_far
    ∙ sym (over_more visit steps start (places cs from (place - from)) last)
    ∙ ap (over visit steps start) (sym more)
  where
    last : ℕ × ℕ
    last = pair place (slice_index cs place)

    len : place + 1 - from ≡ (place - from) + 1
    len = omega (arith, le)

    more : places cs from (place + 1 - from) ≡ places cs from (place - from) ++ pair place (slice_index cs place) ∷ []
    more = ap (places cs from) len ∙ map-range_with_len_more (λ (k : ℕ). pair k (slice_index cs k)) from (place - from) place (omega (arith, le))
