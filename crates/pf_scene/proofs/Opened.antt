-- What accepted edits leave of the geodes and of the deleted nodes.
use Rattle.std.proofs.Common.{◌≡◌, ◌⊎◌, inl, inr, ℕ, ◌+◌, ◌<◌, ◌≤◌, Bool, true, false, cond, ◌&&◌, ◌==◌, ◌||◌, nat_eq, List, [], ◌∷◌, ◌++◌, map, length, Option, Some, None, is_some, refl, sym, ◌∙◌, ap, subst, arith}
use Rattle.std.specs.Prelude.{⊤}
use Rattle.std.proofs.lemmas.Bool.{cases_lt}
use Rattle.std.proofs.lemmas.Bool.Decides.{nat_tests}
use Rattle.std.specs.List.{AllByRecursion, list_all, fold}
use Rattle.std.specs.Option.{option_map, option_map_or}
use Rattle.pf_model.specs.declared.geometry.Tri.{Tri}
use Rattle.pf_model.specs.declared.nodes.Node.{Node}
use Rattle.pf_model.specs.declared.nodes.Gone.{Gone}
use Rattle.pf_model.specs.declared.edits.Fault.{Fault}
use Rattle.pf_model.specs.declared.edits.Edit.{Edit}
use Rattle.pf_model.specs.declared.edits.Edit.TheVariants as edit
use Rattle.pf_model.specs.Fits.{fits}
use Rattle.pf_model.specs.Graphs.{SceneGraph, node_at}
use Rattle.pf_model.specs.Limits.{IsGraphWithinLimits}
use Rattle.pf_model.specs.NodeEdits.{node_after}
use Rattle.pf_model.specs.Edits.{fault_of, effect, after, remains}
use Rattle.pf_model.specs.Merges.{fault_from, merge_fault, after_all}
use Rattle.pf_model.specs.Copies.{named_by}
use Rattle.pf_model.proofs.Finds.{node_at_change, node_at_without}
use Rattle.pf_model.proofs.Named.{node_at_put_any, only_named}
use Rattle.pf_model.proofs.Levels.{all_map}
use Rattle.pf_model.proofs.Keeping.{all_found_have}
use Rattle.pf_model.proofs.EditLimits.{limits_effect}
use Rattle.pf_history.proofs.Lists.{all_append}
use Rattle.update_lists.specs.Marks.{among}
use Rattle.update_lists.specs.Taking.{IsWritten}
use Rattle.pf_scene.specs.Stock.{Written, serial_behind, HaveCycles, HasNoGeode, IsSized, IsStocked, IsOpen}
use Rattle.pf_scene.proofs.Serials.{apart_serials}
use Rattle.pf_scene.proofs.Edited.{sized_effect, serial_effect, gone_effect}
use Rattle.pf_scene.proofs.Owned.{gone_serials, AreOwned, owned_effect, owned_all}

-- The serials of deleted nodes

-- No node has the serial of a deleted one, and those were given.
pub record IsGoneApart (g : SceneGraph) : Type 0 where
  pub apart : (id : ℕ) (n : Node) → node_at g.nodes id ≡ Some n → among n.serial (gone_serials g.gone) ≡ false
  pub given : AllByRecursion (λ x. x.serial < g.next_serial) g.gone

not_yet : (s : ℕ) (gone : List Gone) → AllByRecursion (λ x. x.serial < s) gone → among s (gone_serials gone) ≡ false
not_yet s [] h = refl
not_yet s (x ∷ xs) h = both (nat_eq s x.serial) (among s (gone_serials xs)) (differs s x.serial h.0) (not_yet s xs h.1)
  where
    differs : (a b : ℕ) → b < a → nat_eq a b ≡ false
    differs a b l = grind (arith, nat_tests)

    both : (p q : Bool) → p ≡ false → q ≡ false → (p || q) ≡ false
    both p q hp hq = ap (λ t. t || q) hp ∙ hq

among_both : (s : ℕ) (xs ys : List Gone) → among s (gone_serials xs) ≡ false → among s (gone_serials ys) ≡ false → among s (gone_serials (xs ++ ys)) ≡ false
among_both s [] ys hx hy = hy
among_both s (x ∷ xs) ys hx hy = by (nat_eq s x.serial) (λ h. among_both s xs ys h hy) hx
  where
    by : (t : Bool) → (among s (gone_serials xs) ≡ false → among s (gone_serials (xs ++ ys)) ≡ false) → (t || among s (gone_serials xs)) ≡ false → (t || among s (gone_serials (xs ++ ys))) ≡ false
    by true rest h = absurd (cc)
    by false rest h = rest h

serial_kept : (time : ℕ) (e : Edit) (n : Node) → (node_after time e n).serial ≡ n.serial
serial_kept time (edit.Make id kind) n = refl
serial_kept time e n = refl

given_below : (g : SceneGraph) → IsGraphWithinLimits g → (id : ℕ) (n : Node) → node_at g.nodes id ≡ Some n → n.serial < g.next_serial
given_below g within id n found = all_found_have (λ (e : ℕ × Node). e.1.serial < g.next_serial) g.nodes within.serials_given id n found

apart_effect : (g : SceneGraph) (e : Edit) → IsGraphWithinLimits g → IsGoneApart g → IsGoneApart (effect g e)
apart_effect g (edit.Make id kind) within h = record {
  apart = λ b n found. by b n (b == id) (sym (node_at_put_any (record { serial = g.next_serial; born = g.time; kind = kind; children = [] }) id g.nodes b) ∙ found);
  given = all_map (λ (x : Gone). x.serial < g.next_serial) (λ (x : Gone). x.serial < g.next_serial + 1) (λ x l. omega arith) g.gone h.given;
}
  where
    by : (b : ℕ) (n : Node) (t : Bool) → cond t (Some (record { serial = g.next_serial; born = g.time; kind = kind; children = [] })) (node_at g.nodes b) ≡ Some n → among n.serial (gone_serials g.gone) ≡ false
    by b n true is =
        let same : ◌≡◌ {A = Node} (record { serial = g.next_serial; born = g.time; kind = kind; children = [] }) n = cc in
        subst (λ (m : Node). among m.serial (gone_serials g.gone) ≡ false) same (not_yet g.next_serial g.gone h.given)
    by b n false is = h.apart b n is
apart_effect g (edit.Delete id) within h = record {
  apart = λ b n found. by b n (b == id) refl (sym (node_at_without id g.nodes b within.rising) ∙ found);
  given = all_append (λ (x : Gone). x.serial < g.next_serial) g.gone (remains id (node_at g.nodes id)) h.given (left (node_at g.nodes id) refl);
}
  where
    left : (o : Option Node) → node_at g.nodes id ≡ o → AllByRecursion (λ x. x.serial < g.next_serial) (remains id o)
    left None is = tt
    left (Some n) is = (given_below g within id n is, tt)

    other : (b : ℕ) (n : Node) → (b == id) ≡ false → node_at g.nodes b ≡ Some n → (o : Option Node) → node_at g.nodes id ≡ o → among n.serial (gone_serials (remains id o)) ≡ false
    other b n apart found None is = refl
    other b n apart found (Some m) is = ap (λ t. t || false) (apart_serials g.nodes within.serials_differ b id n m apart found is)

    by : (b : ℕ) (n : Node) (t : Bool) → (b == id) ≡ t → cond t None (node_at g.nodes b) ≡ Some n → among n.serial (gone_serials (g.gone ++ remains id (node_at g.nodes id))) ≡ false
    by b n true e is = absurd (cc)
    by b n false e is = among_both n.serial g.gone (remains id (node_at g.nodes id)) (h.apart b n is) (other b n e is (node_at g.nodes id) refl)
apart_effect g e within h = record {
  apart = λ b n found. by b n (b == named_by e) (node_at g.nodes b) refl (sym (node_at_change (node_after g.time e) (named_by e) g.nodes b) ∙ found);
  given = h.given;
}
  where
    by : (b : ℕ) (n : Node) (t : Bool) (o : Option Node) → node_at g.nodes b ≡ o → cond t (option_map (node_after g.time e) o) o ≡ Some n → among n.serial (gone_serials g.gone) ≡ false
    by b n false o is found = h.apart b n (is ∙ found)
    by b n true None is found = absurd (cc)
    by b n true (Some m) is found =
        let same : node_after g.time e m ≡ n = cc in
        let serial : m.serial ≡ n.serial = sym (serial_kept g.time e m) ∙ ap (λ (k : Node). k.serial) same in
        subst (λ (s : ℕ). among s (gone_serials g.gone) ≡ false) serial (h.apart b m is)

-- Edits one after the other

first_half : (p q : Bool) → (p && q) ≡ true → p ≡ true
first_half true q h = refl
first_half false q h = absurd (cc)

second_half : (p q : Bool) → (p && q) ≡ true → q ≡ true
second_half true q h = h
second_half false q h = absurd (cc)

no_fault_first : (k : ℕ) (o : Option Fault) (rest : Option (ℕ × Fault)) → None ≡ option_map_or (λ f. Some (k, f)) o rest → None ≡ o
no_fault_first k None rest h = refl
no_fault_first k (Some f) rest h = absurd (cc)

no_fault_rest : (k : ℕ) (o : Option Fault) (rest : Option (ℕ × Fault)) → None ≡ option_map_or (λ f. Some (k, f)) o rest → None ≡ rest
no_fault_rest k None rest h = h
no_fault_rest k (Some f) rest h = absurd (cc)

either_false : (p q : Bool) → (p || q) ≡ false → (p ≡ false) × (q ≡ false)
either_false true q h = absurd (cc)
either_false false q h = (refl, h)

-- What the edits leave of the nodes of ids that they do not name.
pub record IsOpened (w : Written) (N : ℕ → Type 0) (g : SceneGraph) (named : List ℕ) : Type 0 where
  pub sized : (id : ℕ) → IsSized w (node_at g.nodes id)
  pub others : (id : ℕ) → N id → among id named ≡ false → IsWritten w (node_at g.nodes id)
  pub gone : IsGoneApart g

opened : (w : Written) (N : ℕ → Type 0) (es : List Edit) (k : ℕ) (g : SceneGraph) → IsGraphWithinLimits g → list_all fits es ≡ true → None ≡ fault_from k g es
    → HaveCycles w g.next_serial es → IsGoneApart g → ((id : ℕ) → IsSized w (node_at g.nodes id)) → ((id : ℕ) → N id → IsWritten w (node_at g.nodes id))
    → IsOpened w N (fold effect g es) (map named_by es)
opened w N [] k g within fit ok cycles gone sized exact = record { sized = sized; others = λ id n out. exact id n; gone = gone }
opened w N (e ∷ es) k g within fit ok cycles gone sized exact =
    let good = no_fault_first k (fault_of g e) (fault_from (k + 1) (effect g e) es) ok in
    let rest = no_fault_rest k (fault_of g e) (fault_from (k + 1) (effect g e) es) ok in
    let fit_one = first_half (fits e) (list_all fits es) fit in
    let fit_rest = second_half (fits e) (list_all fits es) fit in
    let later : HaveCycles w (effect g e).next_serial es = subst (λ (s : ℕ). HaveCycles w s es) (sym (serial_effect g e)) cycles.1 in
    let M : ℕ → Type 0 = λ id. N id × (nat_eq id (named_by e) ≡ false) in
    let exact' : (id : ℕ) → M id → IsWritten w (node_at (effect g e).nodes id) =
    λ id m. subst (λ (o : Option Node). IsWritten w o) (sym (only_named g e id within.rising m.1)) (exact id m.0) in
    let all = opened w M es (k + 1) (effect g e) (limits_effect g e within fit_one good) fit_rest rest later (apart_effect g e within gone) (sized_effect w g e within good cycles.0 sized) exact' in
    record {
      sized = all.sized;
      others = λ id n out. let halves = either_false (nat_eq id (named_by e)) (among id (map named_by es)) out in all.others id (n, halves.0) halves.1;
      gone = all.gone;
    }

-- each cycle stays one of a geode or of a deleted node
still_owned : (w : Written) (es : List Edit) (k : ℕ) (g : SceneGraph) → IsGraphWithinLimits g → list_all fits es ≡ true → None ≡ fault_from k g es
    → HaveCycles w g.next_serial es → AreOwned w g → AreOwned w (fold effect g es)
still_owned w [] k g within fit ok cycles owned = owned
still_owned w (e ∷ es) k g within fit ok cycles owned =
    let good = no_fault_first k (fault_of g e) (fault_from (k + 1) (effect g e) es) ok in
    let rest = no_fault_rest k (fault_of g e) (fault_from (k + 1) (effect g e) es) ok in
    let later : HaveCycles w (effect g e).next_serial es = subst (λ (s : ℕ). HaveCycles w s es) (sym (serial_effect g e)) cycles.1 in
    still_owned w es (k + 1) (effect g e) (limits_effect g e within (first_half (fits e) (list_all fits es) fit) good) (second_half (fits e) (list_all fits es) fit) rest later
    (owned_effect w g e within good cycles.0 owned)

pub serials_behind : (g : SceneGraph) (es : List Edit) → (fold effect g es).next_serial ≡ serial_behind g.next_serial es
serials_behind g [] = refl
serials_behind g (e ∷ es) = serials_behind (effect g e) es ∙ ap (λ s. serial_behind s es) (serial_effect g e)

pub gone_behind : (g : SceneGraph) (es : List Edit) → length (fold effect g es).gone ≤ length g.gone + length es
gone_behind g [] = omega arith
gone_behind g (e ∷ es) = let one = gone_effect g e in let rest = gone_behind (effect g e) es in omega (arith, one, rest)

-- Before and after

sized_written : (w : Written) (o : Option Node) → IsWritten w o → IsSized w o
sized_written w None h = tt
sized_written w (Some n) h = λ geode. ap (option_map length) (h geode)

-- what was written under the serials of the nodes is still
still_written : (v w : Written) (g : SceneGraph) → IsGraphWithinLimits g → ((s : ℕ) → s < g.next_serial → w s ≡ v s) → (id : ℕ) → IsWritten v (node_at g.nodes id) → IsWritten w (node_at g.nodes id)
still_written v w g within same id h = by (node_at g.nodes id) refl h
  where
    by : (o : Option Node) → node_at g.nodes id ≡ o → IsWritten v o → IsWritten w o
    by None is k = tt
    by (Some n) is k = λ geode. same n.serial (given_below g within id n is) ∙ k geode

pub restocked : (v w : Written) (g : SceneGraph) → IsGraphWithinLimits g → IsStocked v g → ((s : ℕ) → s < g.next_serial → w s ≡ v s) → ((s : ℕ) → g.next_serial ≤ s → w s ≡ None) → IsStocked w g
restocked v w g within stocked same none = record {
  contents = λ id. still_written v w g within same id (stocked.contents id);
  owned = λ s lone. owned s lone (cases_lt s g.next_serial);
  fresh = none;
}
  where
    owned : (s : ℕ) → HasNoGeode s g → (s < g.next_serial) ⊎ (g.next_serial ≤ s) → w s ≡ None
    owned s lone (inl l) = same s l ∙ stocked.owned s lone
    owned s lone (inr l) = none s l

none_gone : (g : SceneGraph) → g.gone ≡ [] → IsGoneApart g
none_gone g empty = record {
  apart = λ id n found. subst (λ (xs : List Gone). among n.serial (gone_serials xs) ≡ false) (sym empty) refl;
  given = subst (λ (xs : List Gone). AllByRecursion (λ x. x.serial < g.next_serial) xs) (sym empty) tt;
}

pub opening : (v w : Written) (g : SceneGraph) (es : List Edit) → IsGraphWithinLimits g → IsStocked v g → g.gone ≡ [] → list_all fits es ≡ true → merge_fault g es ≡ None
    → ((s : ℕ) → s < g.next_serial → w s ≡ v s) → HaveCycles w g.next_serial es → ((s : ℕ) → serial_behind g.next_serial es ≤ s → w s ≡ None)
    → IsOpen w (fold effect g es) (map named_by es)
opening v w g es within stocked empty fit ok same cycles none =
    let exact : (id : ℕ) → IsWritten w (node_at g.nodes id) = λ id. still_written v w g within same id (stocked.contents id) in
    let all = opened w (λ _. ⊤) es 1 g within fit (sym ok) cycles (none_gone g empty) (λ id. sized_written w (node_at g.nodes id) (exact id)) (λ id _. exact id) in
    let fresh : (s : ℕ) → (fold effect g es).next_serial ≤ s → w s ≡ None = λ s l. none s (subst (λ (n : ℕ). n ≤ s) (serials_behind g es) l) in
    record {
      sized = all.sized;
      others = λ id out. all.others id tt out;
      fresh = fresh;
      owned = owned_all w (fold effect g es) (still_owned w es 1 g within fit (sym ok) cycles (λ s l lone out. same s l ∙ stocked.owned s lone)) fresh;
      apart = all.gone.apart;
    }

-- One edit, and all edits of a merge

after_accepted : (g : SceneGraph) (e : Edit) → fault_of g e ≡ None → after g e ≡ effect g e
after_accepted g e ok = ap (λ (o : Option Fault). cond (is_some o) g (effect g e)) ok

all_accepted : (g : SceneGraph) (es : List Edit) → merge_fault g es ≡ None → after_all g es ≡ fold effect g es
all_accepted g es ok = ap (λ (o : Option (ℕ × Fault)). cond (is_some o) g (fold effect g es)) ok

one_accepted : (g : SceneGraph) (e : Edit) → fault_of g e ≡ None → merge_fault g (e ∷ []) ≡ None
one_accepted g e ok = ap (λ (o : Option Fault). option_map_or (λ f. Some (1, f)) o None) ok

pub opening_one : (v w : Written) (g h : SceneGraph) (e : Edit) (n : ℕ) (es : List Edit) → es ≡ e ∷ [] → n ≡ g.next_serial → IsGraphWithinLimits g → IsStocked v g → g.gone ≡ [] → fits e ≡ true
    → fault_of g e ≡ None → h ≡ after g e → ((s : ℕ) → s < n → w s ≡ v s) → HaveCycles w n es → ((s : ℕ) → serial_behind n es ≤ s → w s ≡ None) → IsOpen w h (map named_by es)
opening_one v w g h e n es one first within stocked empty fit ok is same cycles none =
    subst (λ (k : SceneGraph). IsOpen w k (map named_by es)) (sym (is ∙ after_accepted g e ok))
    (subst (λ (xs : List Edit). IsOpen w (effect g e) (map named_by xs)) (sym one)
    (opening v w g (e ∷ []) within stocked empty (ap (λ t. t && true) fit) (one_accepted g e ok)
    (λ s l. same s (subst (λ (m : ℕ). s < m) (sym first) l))
    (subst (λ (m : ℕ). HaveCycles w m (e ∷ [])) first (subst (λ (xs : List Edit). HaveCycles w n xs) one cycles))
    (λ s l. none s (subst (λ (m : ℕ). serial_behind m es ≤ s) (sym first) (subst (λ (xs : List Edit). serial_behind g.next_serial xs ≤ s) (sym one) l)))))

pub opening_all : (v w : Written) (g h : SceneGraph) (all : List Edit) (n : ℕ) (es : List Edit) → es ≡ all → n ≡ g.next_serial → IsGraphWithinLimits g → IsStocked v g → g.gone ≡ [] → list_all fits all ≡ true
    → merge_fault g all ≡ None → h ≡ after_all g all → ((s : ℕ) → s < n → w s ≡ v s) → HaveCycles w n es → ((s : ℕ) → serial_behind n es ≤ s → w s ≡ None) → IsOpen w h (map named_by es)
opening_all v w g h all n es same_list first within stocked empty fit ok is same cycles none =
    subst (λ (k : SceneGraph). IsOpen w k (map named_by es)) (sym (is ∙ all_accepted g all ok))
    (subst (λ (xs : List Edit). IsOpen w (fold effect g all) (map named_by xs)) (sym same_list)
    (opening v w g all within stocked empty fit ok
    (λ s l. same s (subst (λ (m : ℕ). s < m) (sym first) l))
    (subst (λ (m : ℕ). HaveCycles w m all) first (subst (λ (xs : List Edit). HaveCycles w n xs) same_list cycles))
    (λ s l. none s (subst (λ (m : ℕ). serial_behind m es ≤ s) (sym first) (subst (λ (xs : List Edit). serial_behind g.next_serial xs ≤ s) (sym same_list) l)))))

pub gone_all : (g h : SceneGraph) (es : List Edit) → g.gone ≡ [] → merge_fault g es ≡ None → h ≡ after_all g es → length h.gone ≤ length es
gone_all g h es empty ok is =
    let most = gone_behind g es in
    let none = ap length empty in
    let same = ap (λ (k : SceneGraph). length k.gone) (is ∙ all_accepted g es ok) in
    omega (arith, most, none, same)

pub gone_one : (g h : SceneGraph) (e : Edit) → g.gone ≡ [] → fault_of g e ≡ None → h ≡ after g e → length h.gone ≤ 1
gone_one g h e empty ok is =
    let most = gone_effect g e in
    let none = ap length empty in
    let same = ap (λ (k : SceneGraph). length k.gone) (is ∙ after_accepted g e ok) in
    omega (arith, most, none, same)

-- What follows accepted edits

none_by_length : (o p : Option (List Tri)) → option_map length o ≡ option_map length p → p ≡ None → o ≡ None
none_by_length None p h e = refl
none_by_length (Some x) None h e = absurd (cc)
none_by_length (Some x) (Some y) h e = absurd (cc)

-- written geodes, whose serials none of the deleted nodes has
still_there : (w x : Written) (n : Node) (gone : List Gone) → among n.serial (gone_serials gone) ≡ false → ((s : ℕ) → among s (gone_serials gone) ≡ false → x s ≡ w s) → IsWritten w (Some n) → IsWritten x (Some n)
still_there w x n gone apart others h = λ geode. others n.serial apart ∙ h geode

pub followed : (v w x : Written) (g h : SceneGraph) (named : List ℕ) → IsOpen v g named
    → ((id : ℕ) → among id named ≡ true → IsWritten w (node_at g.nodes id)) → ((id : ℕ) → IsWritten v (node_at g.nodes id) → IsWritten w (node_at g.nodes id))
    → ((s : ℕ) → option_map length (w s) ≡ option_map length (v s))
    → ((s : ℕ) → among s (gone_serials g.gone) ≡ false → x s ≡ w s) → ((s : ℕ) → among s (gone_serials g.gone) ≡ true → x s ≡ None) → ((s : ℕ) → w s ≡ None → x s ≡ None)
    → h ≡ record g { gone = [] } → IsStocked x h
followed v w x g h named opens named_are kept lengths others dropped none is = subst (λ (k : SceneGraph). IsStocked x k) (sym is) (record {
  contents = λ id. here id (node_at g.nodes id) refl (written id (among id named) refl);
  owned = λ s lone. owned s lone (among s (gone_serials g.gone)) refl;
  fresh = λ s l. none s (none_by_length (w s) (v s) (lengths s) (opens.fresh s l));
})
  where
    owned : (s : ℕ) → HasNoGeode s g → (t : Bool) → among s (gone_serials g.gone) ≡ t → x s ≡ None
    owned s lone true e = dropped s e
    owned s lone false e = none s (none_by_length (w s) (v s) (lengths s) (opens.owned s lone e))

    written : (id : ℕ) (t : Bool) → among id named ≡ t → IsWritten w (node_at g.nodes id)
    written id true e = named_are id e
    written id false e = kept id (opens.others id e)

    here : (id : ℕ) (o : Option Node) → node_at g.nodes id ≡ o → IsWritten w (node_at g.nodes id) → IsWritten x (node_at g.nodes id)
    here id None e h = subst (λ (o : Option Node). IsWritten x o) (sym e) tt
    here id (Some n) e h = subst (λ (o : Option Node). IsWritten x o) (sym e) (still_there w x n g.gone (opens.apart id n e) others (subst (λ (o : Option Node). IsWritten w o) e h))

-- the time is nothing to the cycles
pub stocked_at : (w : Written) (g h : SceneGraph) (time : ℕ) → h ≡ record g { time = time } → IsStocked w g → IsStocked w h
stocked_at w g h time is stocked =
    subst (λ (k : SceneGraph). IsStocked w k) (sym is) (record { contents = stocked.contents; owned = stocked.owned; fresh = stocked.fresh })
