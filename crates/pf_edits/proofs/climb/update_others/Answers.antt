use Rattle.std.proofs.Common.{◌≡◌, ◌+◌, ◌-◌, ◌<◌, ◌≤◌, ◌∷◌, ℕ, List, true, false, length, get_or, take, reverse, refl, sym, ◌∙◌, ap, subst, arith}
use Rattle.pf_model.specs.Graphs.{children_of}
use Rattle.pf_model.proofs.Places.{funext}
use Rattle.pf_edits.specs.Tables.{Slots, Table}
use Rattle.pf_edits.specs.Ways.{is_in, LeadUp, IsEachOnce}
use Rattle.pf_edits.specs.Extents.{look_of, extent_at, counted_at, reckoned, MeetBut}
use Rattle.pf_edits.proofs.Growths.{IsAlong, along_start, was_counted, along_next}
use Rattle.pf_edits.proofs.climb.update_others.Goals as goal

one_less : (n : ℕ) → 0 < n → n ≡ n - 1 + 1
one_less n h = omega (arith, h)

less_one : (n m : ℕ) → 0 < n → n ≤ m → n - 1 < m
less_one n m h k = omega (arith, h, k)

still_within : (n m : ℕ) → n ≤ m → n - 1 ≤ m
still_within n m h = omega (arith, h)

no_more : (n : ℕ) → n ≤ 0 → n ≡ 0
no_more n h = omega (arith, h)

pub loop-left-init : goal.loop-left-init
loop-left-init c =
    let s : Slots = c.args.records.now.slots in
    let ids : List ℕ = c.as_slice-ids.result.now in
    let is : reverse ids ≡ c.args.way.now = c.as_slice-ids.ensures.nodes in
    record {
      within = omega arith;
      along = along_start s ids c.args.id (subst (LeadUp (look_of s)) (sym is) c.requires.leads) (subst IsEachOnce (sym is) c.as_slice-ids.ensures.once)
          (ap (is_in c.args.id) is ∙ c.requires.member) c.requires.meets;
      nodes = λ b. refl;
      parents = λ b. refl;
    }

pub update_other-requires : goal.update_other-requires
update_other-requires c =
    let v = c.loop-left.invariant in
    let init : Slots = c.args.records.now.slots in
    let s : Slots = c.loop-left.records.slots in
    let ids : List ℕ = c.as_slice-ids.result.now in
    let i : ℕ = c.loop-left.left - 1 in
    let is : reverse ids ≡ c.args.way.now = c.as_slice-ids.ensures.nodes in
    let some : 0 < c.loop-left.left = c.loop-left-test.true in
    let at : IsAlong init s ids c.args.id (i + 1) = subst (IsAlong init s ids c.args.id) (one_less c.loop-left.left some) v.along in
    λ away. subst (λ (w : List ℕ). extent_at s (get_or ids i 0) ≡ reckoned (counted_at s w) (children_of (look_of s) (get_or ids i 0))) is
    (was_counted init s ids c.args.id i (less_one c.loop-left.left (length ids) some v.within) (ap (is_in c.args.id) is ∙ c.requires.member) at c.requires.meets
    (funext (look_of s) (look_of init) v.nodes) away)

pub loop-left-preserved : goal.loop-left-preserved
loop-left-preserved c =
    let v = c.loop-left.invariant in
    let init : Slots = c.args.records.now.slots in
    let s : Slots = c.loop-left.records.slots in
    let ids : List ℕ = c.as_slice-ids.result.now in
    let i : ℕ = c.loop-left.left - 1 in
    let is : reverse ids ≡ c.args.way.now = c.as_slice-ids.ensures.nodes in
    let some : 0 < c.loop-left.left = c.loop-left-test.true in
    let at : IsAlong init s ids c.args.id (i + 1) = subst (IsAlong init s ids c.args.id) (one_less c.loop-left.left some) v.along in
    record {
      within = still_within c.loop-left.left (length ids) v.within;
      along = along_next init s ids c.args.id i (less_one c.loop-left.left (length ids) some v.within) (ap (is_in c.args.id) is ∙ c.requires.member) at
          c.update_other.new.records.slots c.update_other.ensures.nodes (λ e. ap (λ (x : Table). x.slots) (c.update_other.ensures.same e)) c.update_other.ensures.extents c.update_other.ensures.before;
      nodes = λ b. c.update_other.ensures.nodes b ∙ v.nodes b;
      parents = λ b. c.update_other.ensures.parents b ∙ v.parents b;
    }

pub returns-clause-meets : goal.returns-clause-meets
returns-clause-meets c =
    let s : Slots = c.loop-left.records.slots in
    let ids : List ℕ = c.as_slice-ids.result.now in
    let end : c.loop-left.left ≤ 0 = c.loop-left-test.false in
    subst (λ (n : ℕ). MeetBut (look_of s) (extent_at s) (c.args.id ∷ reverse (take n ids))) (no_more c.loop-left.left end) c.loop-left.invariant.along.meets

pub returns-clause-others : goal.returns-clause-others
returns-clause-others c = λ b out. c.loop-left.invariant.along.off b (ap (is_in b) c.as_slice-ids.ensures.nodes ∙ out)

pub returns-clause-kept : goal.returns-clause-kept
returns-clause-kept c = c.loop-left.invariant.along.kept
