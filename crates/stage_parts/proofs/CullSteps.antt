-- CULL's part goes on.
use Rattle.std.proofs.Common.{◌≡◌, ◌⊎◌, ℕ, suc, ◌+◌, ◌≤◌, Bool, true, false, ◌||◌, List, [], ◌∷◌, ◌++◌, map, length, slice_get, Some, None, sym, ap, ◌∙◌, subst, arith, inl, inr}
use Rattle.std.proofs.lemmas.List.{length-map, map-append}
use Rattle.fx_math.specs.declared.lenses.Lens.{Lens}
use Rattle.pf_model.specs.Graphs.{Nodes, node_at, size_of, empty_scene}
use Rattle.pf_model.specs.Limits.{KeepsLimits, IsWithinLimits}
use Rattle.pf_model.specs.Totals.{triangle_count}
use Rattle.pf_model.specs.Copies.{updated_by}
use Rattle.stage_parts.specs.declared.packets.Packet.{Packet}
use Rattle.stage_parts.specs.declared.packets.Packet.TheVariants.{Frame, End}
use Rattle.stage_parts.specs.Loads.{LoadState, Each, HasRoomFor}
use Rattle.stage_parts.specs.Packets.{is_end, loads_in, copy_at}
use Rattle.stage_parts.specs.States.{CullState}
use Rattle.stage_parts.specs.Parts.{sent_and_held, Carried, carried, passed_on, CanCull, IsCulled, AreCulled, CullPart}
use Rattle.stage_parts.specs.Steps.{CanCullNext, Culls, CullLaw}
use Rattle.stage_parts.proofs.Places.{get_length}
use Rattle.stage_parts.proofs.Pushes.{loads_push, loads_end, has_end_push, passed_same, passed_bare, get_push, whole_copy, copy_whole, whole_push, copy_push, copy_front, passed_on_push, passed_on_length}

-- the last load is received after those before it
next_of : (taken : List LoadState) (old : LoadState) → CanCull (taken ++ old ∷ []) (length taken) old →
    CanCullNext taken (updated_by (whole_copy taken) old.cut.updates) old
next_of taken old can =
    record {
      limits = λ k l. subst (λ (n : Nodes). KeepsLimits (node_at n)) (copy_front taken (old ∷ []) k l) (can.limits k (omega (arith, l)));
      within = subst (λ (n : Nodes). IsWithinLimits (node_at n) old.cut.frame) (copy_push taken old) can.within;
      few = can.few;
      many = can.many;
      room = subst (λ (n : Nodes). Each (HasRoomFor (size_of (node_at n) 0) (triangle_count (node_at n))) old.lists)
          (copy_push taken old) can.room;
    }

-- what can be culled exactly could be before one more load came
before_of : (taken : List LoadState) (old : LoadState) (i : ℕ) (l : LoadState) → suc i ≤ length taken → CanCull (taken ++ old ∷ []) i l →
    CanCull taken i l
before_of taken old i l below can =
    record {
      limits = λ k m. subst (λ (n : Nodes). KeepsLimits (node_at n)) (copy_front taken (old ∷ []) k (omega (arith, m, below)))
          (can.limits k m);
      within = subst (λ (n : Nodes). IsWithinLimits (node_at n) l.cut.frame)
          (copy_front taken (old ∷ []) (i + 1) (omega (arith, below))) can.within;
      few = can.few;
      many = can.many;
      room = subst (λ (n : Nodes). Each (HasRoomFor (size_of (node_at n) 0) (triangle_count (node_at n))) l.lists)
          (copy_front taken (old ∷ []) (i + 1) (omega (arith, below))) can.room;
    }

abbrev IsRight : Lens → List LoadState → ℕ → LoadState → LoadState → Type 0
IsRight lens taken i o n = IsCulled lens (node_at (copy_at taken (i + 1))) o.cut n

last_culled : (lens : Lens) (taken : List LoadState) (old new : LoadState) →
    (CanCullNext taken (updated_by (whole_copy taken) old.cut.updates) old →
    IsCulled lens (node_at (updated_by (whole_copy taken) old.cut.updates)) old.cut new) →
    (i : ℕ) (o n : LoadState) → i ≡ length taken → old ≡ o → new ≡ n → CanCull (taken ++ old ∷ []) i o →
    IsRight lens (taken ++ old ∷ []) i o n
last_culled lens taken old new right i o n at same_old same_new can =
    let all = taken ++ old ∷ [] in
    let can_old = subst (λ (x : LoadState). CanCull all (length taken) x) (sym same_old) (subst (λ (j : ℕ). CanCull all j o) at can) in
    let here : IsRight lens all (length taken) old new =
    subst (λ (m : Nodes). IsCulled lens (node_at m) old.cut new) (sym (copy_push taken old)) (right (next_of taken old can_old)) in
    subst (λ (j : ℕ). IsRight lens all j o n) (sym at)
    (subst (λ (x : LoadState). IsRight lens all (length taken) o x) same_new
    (subst (λ (x : LoadState). IsRight lens all (length taken) x new) same_old here))

culled_push : (lens : Lens) (taken sent : List LoadState) (old new : LoadState) → length sent ≡ length taken → AreCulled lens taken sent →
    (CanCullNext taken (updated_by (whole_copy taken) old.cut.updates) old →
    IsCulled lens (node_at (updated_by (whole_copy taken) old.cut.updates)) old.cut new) →
    AreCulled lens (taken ++ old ∷ []) (sent ++ new ∷ [])
culled_push lens taken sent old new many culled right i o n at_old at_new can =
    by (get_push taken old i o at_old) (get_push sent new i n at_new)
  where
    by : (slice_get taken i ≡ Some o) ⊎ ((i ≡ length taken) × (old ≡ o)) → (slice_get sent i ≡ Some n) ⊎ ((i ≡ length sent) × (new ≡ n)) →
        IsRight lens (taken ++ old ∷ []) i o n
    by (inl a) (inl b) =
        let below = get_length taken i o a in
        subst (λ (m : Nodes). IsCulled lens (node_at m) o.cut n) (sym (copy_front taken (old ∷ []) (i + 1) (omega (arith, below))))
        (culled i o n a b (before_of taken old i o below can))
    by (inl a) (inr b) = absurd (let below = get_length taken i o a in omega (arith, below, b.0, many))
    by (inr a) (inl b) = absurd (let below = get_length sent i n b in omega (arith, below, a.0, many))
    by (inr a) (inr b) = last_culled lens taken old new right i o n a.0 a.1 b.1 can

cull_takes : (lens : Lens) (c : CullState) (taken sent : List Packet) → CullPart lens c taken sent → (old new : LoadState) →
    c.held ≡ None → Culls lens (loads_in taken) c.nodes old new →
    CullPart lens (record c { nodes = updated_by c.nodes old.cut.updates; held = Some (Frame new) }) (taken ++ Frame old ∷ []) sent
cull_takes lens c taken sent part old new none made =
    let loads = loads_in taken in
    let bare = passed_bare sent c.held none in
    let copied : c.nodes ≡ whole_copy loads = part.copy ∙ copy_whole loads in
    let makes = subst (λ (n : Nodes). Culls lens loads n old new) copied made in
    let before : map carried (loads_in sent) ≡ passed_on empty_scene.nodes loads =
    ap (λ (ps : List Packet). map carried (loads_in ps)) (sym bare) ∙ part.loads in
    let many : length (loads_in sent) ≡ length loads =
    sym (length-map (loads_in sent) carried) ∙ ap length before ∙ passed_on_length empty_scene.nodes loads in
    record {
      loads =
          ap (map carried) (loads_push sent new) ∙ map-append carried (loads_in sent) (new ∷ [])
          ∙ ap (λ (xs : List Carried). xs ++ carried new ∷ []) before
          ∙ ap (λ (x : Carried). passed_on empty_scene.nodes loads ++ x ∷ []) makes.carries
          ∙ sym (ap (passed_on empty_scene.nodes) (loads_push taken old) ∙ passed_on_push empty_scene.nodes loads old);
      ends =
          map-append is_end sent (Frame new ∷ [])
          ∙ ap (λ (xs : List Bool). xs ++ false ∷ []) (ap (map is_end) (sym bare) ∙ part.ends)
          ∙ sym (map-append is_end taken (Frame old ∷ []));
      copy =
          ap (λ (n : Nodes). updated_by n old.cut.updates) copied ∙ sym (whole_push loads old) ∙ sym (copy_whole (loads ++ old ∷ []))
          ∙ ap (λ (ls : List LoadState). copy_at ls (length ls)) (sym (loads_push taken old));
      ended = part.ended;
      culled =
          subst (λ (ls : List LoadState). AreCulled lens ls (loads_in (sent ++ Frame new ∷ []))) (sym (loads_push taken old))
          (subst (λ (ls : List LoadState). AreCulled lens (loads ++ old ∷ []) ls) (sym (loads_push sent new))
          (culled_push lens loads (loads_in sent) old new many
          (subst (λ (ps : List Packet). AreCulled lens loads (loads_in ps)) bare part.culled) makes.right));
    }

cull_ends : (lens : Lens) (c : CullState) (taken sent : List Packet) → CullPart lens c taken sent → c.held ≡ None →
    CullPart lens (record c { held = Some End }) (taken ++ End ∷ []) sent
cull_ends lens c taken sent part none =
    let bare = passed_bare sent c.held none in
    let same_loads : loads_in (sent ++ End ∷ []) ≡ loads_in (sent_and_held sent c.held) = loads_end sent ∙ ap loads_in (sym bare) in
    record {
      loads = ap (map carried) same_loads ∙ part.loads ∙ ap (passed_on empty_scene.nodes) (sym (loads_end taken));
      ends =
          map-append is_end sent (End ∷ []) ∙ ap (λ (xs : List Bool). xs ++ true ∷ []) (ap (map is_end) (sym bare) ∙ part.ends)
          ∙ sym (map-append is_end taken (End ∷ []));
      copy = part.copy ∙ ap (λ (ls : List LoadState). copy_at ls (length ls)) (sym (loads_end taken));
      ended = part.ended;
      culled =
          subst (λ (ls : List LoadState). AreCulled lens ls (loads_in (sent ++ End ∷ []))) (sym (loads_end taken))
          (subst (λ (ls : List LoadState). AreCulled lens (loads_in taken) ls) (sym same_loads) part.culled);
    }

cull_sends : (lens : Lens) (c : CullState) (taken sent : List Packet) → CullPart lens c taken sent → (p : Packet) → c.held ≡ Some p →
    CullPart lens (record c { ended = c.ended || is_end p; held = None }) taken (sent ++ p ∷ [])
cull_sends lens c taken sent part p held =
    let same = passed_same sent p c.held held in
    record {
      loads = ap (λ (ps : List Packet). map carried (loads_in ps)) same ∙ part.loads;
      ends = ap (map is_end) same ∙ part.ends;
      copy = part.copy;
      ended = ap (λ (t : Bool). t || is_end p) part.ended ∙ sym (has_end_push sent p);
      culled = subst (λ (ps : List Packet). AreCulled lens (loads_in taken) (loads_in ps)) (sym same) part.culled;
    }

pub cull_law : CullLaw
cull_law lens c taken sent part =
    record { takes = cull_takes lens c taken sent part; ends = cull_ends lens c taken sent part; sends = cull_sends lens c taken sent part }
