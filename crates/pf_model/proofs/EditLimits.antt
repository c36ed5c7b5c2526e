-- Every edit that fits keeps a graph within the limits.
use Rattle.std.proofs.Common.{◌≡◌, Bool, true, false, cond, ◌&&◌, nat_lt, length, Option, Some, None, is_some, Result, Ok, Err, OnOk, OnErr, refl, sym, subst}
use Rattle.pf_model.specs.declared.edits.Edit.{Edit}
use Rattle.pf_model.specs.declared.edits.Edit.TheVariants as edit
use Rattle.pf_model.specs.declared.edits.Fault.{Fault}
use Rattle.pf_model.specs.declared.poses.Pose.TheVariants as pose
use Rattle.pf_model.specs.Fits.{fits, kind_fits}
use Rattle.pf_model.specs.Kinds.{with_pick, with_pose, moved_to, turned_to, scaled_to, with_range, with_centre, with_time, run_from, stopped, with_geom}
use Rattle.pf_model.specs.Graphs.{SceneGraph}
use Rattle.pf_model.specs.Limits.{IsGraphWithinLimits}
use Rattle.pf_model.specs.Edits.{fault_of, effect, after}
use Rattle.pf_model.proofs.Keeping.{limits_rekind}
use Rattle.pf_model.proofs.Goods.{good_pick, good_pose, good_range, good_centre, good_time, good_run, good_stopped, good_geom}
use Rattle.pf_model.proofs.LinkLimits.{limits_add, limits_insert, limits_replace, limits_remove}
use Rattle.pf_model.proofs.MakeLimits.{limits_make, limits_delete}

first_half : (p q : Bool) → (p && q) ≡ true → p ≡ true
first_half true q h = refl
first_half false q h = absurd (cc)

second_half : (p q : Bool) → (p && q) ≡ true → q ≡ true
second_half true q h = h
second_half false q h = absurd (cc)

pub limits_effect : (g : SceneGraph) (e : Edit) → IsGraphWithinLimits g → fits e ≡ true → None ≡ fault_of g e → IsGraphWithinLimits (effect g e)
limits_effect g (edit.Make id kind) w fit none = limits_make g id kind w (first_half (nat_lt id 65536) (kind_fits kind) fit) (second_half (nat_lt id 65536) (kind_fits kind) fit) none
limits_effect g (edit.Add parent child) w fit none = limits_add g parent child w none
limits_effect g (edit.Insert parent place child) w fit none = limits_insert g parent place child w none
limits_effect g (edit.Replace parent child by) w fit none = limits_replace g parent child by w none
limits_effect g (edit.Remove parent child) w fit none = limits_remove g parent child w none
limits_effect g (edit.Delete id) w fit none = limits_delete g id w none
limits_effect g (edit.Pick id pick) w fit none = limits_rekind g id (λ n. with_pick pick n.kind) w (λ n found. good_pick g.time pick n.kind)
limits_effect g (edit.Mat id mat) w fit none = limits_rekind g id (λ n. with_pose (λ _. pose.Matrix mat) n.kind) w (λ n found. good_pose g.time (λ _. pose.Matrix mat) n.kind)
limits_effect g (edit.Trans id t) w fit none = limits_rekind g id (λ n. with_pose (moved_to t) n.kind) w (λ n found. good_pose g.time (moved_to t) n.kind)
limits_effect g (edit.Rot id h p r) w fit none = limits_rekind g id (λ n. with_pose (turned_to h p r) n.kind) w (λ n found. good_pose g.time (turned_to h p r) n.kind)
limits_effect g (edit.Scale id s) w fit none = limits_rekind g id (λ n. with_pose (scaled_to s) n.kind) w (λ n found. good_pose g.time (scaled_to s) n.kind)
limits_effect g (edit.Range id place value) w fit none = limits_rekind g id (λ n. with_range place value n.kind) w (λ n found. good_range g.time place value n.kind)
limits_effect g (edit.Centre id at) w fit none = limits_rekind g id (λ n. with_centre at n.kind) w (λ n found. good_centre g.time at n.kind)
limits_effect g (edit.Times id place frames) w fit none = limits_rekind g id (λ n. with_time place frames n.kind) w (λ n found. good_time g.time place frames n.kind)
limits_effect g (edit.Run id) w fit none = limits_rekind g id (λ n. run_from g.time n.kind) w (λ n found. good_run g.time n.kind)
limits_effect g (edit.Stop id) w fit none = limits_rekind g id (λ n. stopped g.time (length n.children) n.kind) w (λ n found. good_stopped g.time (length n.children) n.kind)
limits_effect g (edit.Verts id geom) w fit none = limits_rekind g id (λ n. with_geom geom n.kind) w (λ n found. good_geom g.time geom n.kind fit)

limits_unless : (g : SceneGraph) (e : Edit) → IsGraphWithinLimits g → (None ≡ fault_of g e → IsGraphWithinLimits (effect g e)) → IsGraphWithinLimits (after g e)
limits_unless g e w keeps = by (fault_of g e) refl
  where
    by : (o : Option Fault) → fault_of g e ≡ o → IsGraphWithinLimits (cond (is_some (fault_of g e)) g (effect g e))
    by None none = subst (λ (o : Option Fault). IsGraphWithinLimits (cond (is_some o) g (effect g e))) (sym none) (keeps (sym none))
    by (Some f) met = subst (λ (o : Option Fault). IsGraphWithinLimits (cond (is_some o) g (effect g e))) (sym met) w

-- a graph after a call that made an edit, or left the graph
pub limits_kept : {A E : Type 0} (r : Result A E) (g h : SceneGraph) (e : Edit) → IsGraphWithinLimits g → (None ≡ fault_of g e → IsGraphWithinLimits (effect g e))
    → OnOk r (h ≡ after g e) → OnErr r (h ≡ g) → IsGraphWithinLimits h
limits_kept (Ok x) g h e w keeps ok err = subst IsGraphWithinLimits (sym ok) (limits_unless g e w keeps)
limits_kept (Err x) g h e w keeps ok err = subst IsGraphWithinLimits (sym err) w

pub limits_after : (g : SceneGraph) (e : Edit) → IsGraphWithinLimits g → fits e ≡ true → IsGraphWithinLimits (after g e)
limits_after g e w fit = limits_unless g e w (limits_effect g e w fit)
