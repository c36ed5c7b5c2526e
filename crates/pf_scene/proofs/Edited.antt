-- What one edit leaves of the geodes.
use Rattle.std.proofs.Common.{◌≡◌, ℕ, ◌+◌, ◌≤◌, Bool, true, false, cond, not, ◌==◌, List, [], ◌++◌, length, Option, Some, None, is_some, refl, sym, ◌∙◌, ap, subst, arith}
use Rattle.std.proofs.lemmas.Bool.{eqb-true}
use Rattle.std.proofs.lemmas.List.{length-append}
use Rattle.std.specs.Option.{option_map, option_map_or}
use Rattle.pf_model.specs.declared.geometry.Tri.{Tri}
use Rattle.pf_model.specs.declared.nodes.Kind.{Kind}
use Rattle.pf_model.specs.declared.nodes.Kind.TheVariants.{Switch, Dcs, Lod, Seq, Geode, Glass}
use Rattle.pf_model.specs.declared.nodes.Node.{Node}
use Rattle.pf_model.specs.declared.nodes.Pick.{Pick}
use Rattle.pf_model.specs.declared.poses.Pose.{Pose}
use Rattle.pf_model.specs.declared.edits.Fault.TheVariants as fault
use Rattle.pf_model.specs.declared.edits.Edit.{Edit}
use Rattle.pf_model.specs.declared.edits.Edit.TheVariants as edit
use Rattle.fx_math.specs.declared.vectors.Vec3.{Vec3}
use Rattle.pf_model.specs.Kinds.{geom_of, is_geode, with_pick, with_pose, with_range, with_centre, with_time, run_from, stopped, with_geom}
use Rattle.pf_model.specs.Graphs.{SceneGraph, node_at}
use Rattle.pf_model.specs.Limits.{IsGraphWithinLimits}
use Rattle.pf_model.specs.NodeEdits.{node_after}
use Rattle.pf_model.specs.Edits.{fault_of, effect, remains, has_kind, attribute_rules}
use Rattle.pf_model.specs.Copies.{named_by}
use Rattle.pf_model.proofs.Finds.{node_at_change, node_at_without}
use Rattle.pf_model.proofs.Named.{node_at_put_any}
use Rattle.pf_model.proofs.Rules.{all_passed, when_not}
use Rattle.pf_scene.specs.Stock.{Written, serial_after, HasCycle, IsSized}

-- The number of triangles of a node

abbrev size : Kind → Option ℕ
size k = option_map length (geom_of k)

size_pick : (p : Pick) (k : Kind) → size (with_pick p k) ≡ size k
size_pick p (Switch q) = refl
size_pick p k = refl

size_pose : (f : Pose → Pose) (k : Kind) → size (with_pose f k) ≡ size k
size_pose f (Dcs q) = refl
size_pose f k = refl

size_range : (i x : ℕ) (k : Kind) → size (with_range i x k) ≡ size k
size_range i x (Lod c rs) = refl
size_range i x k = refl

size_centre : (c : Vec3) (k : Kind) → size (with_centre c k) ≡ size k
size_centre c (Lod d rs) = refl
size_centre c k = refl

size_time : (i x : ℕ) (k : Kind) → size (with_time i x k) ≡ size k
size_time i x (Seq ts r) = refl
size_time i x k = refl

size_run : (time : ℕ) (k : Kind) → size (run_from time k) ≡ size k
size_run time (Seq ts r) = refl
size_run time k = refl

size_stopped : (time n : ℕ) (k : Kind) → size (stopped time n k) ≡ size k
size_stopped time n (Seq ts r) = refl
size_stopped time n k = refl

same_count : (us ts : List Tri) → (length us == length ts) ≡ true → Some (length ts) ≡ Some (length us)
same_count us ts h = let e : length us ≡ length ts = eqb-true (length us) (length ts) h in cc

size_geom : (ts : List Tri) (k : Kind) → option_map_or (λ (us : List Tri). length us == length ts) (geom_of k) false ≡ true → size (with_geom ts k) ≡ size k
size_geom ts (Geode s us) h = same_count us ts h
size_geom ts (Glass s a us) h = same_count us ts h
size_geom ts k h = refl

not_false : (t : Bool) → not t ≡ false → t ≡ true
not_false true h = refl
not_false false h = absurd (cc)

-- new triangles are as many as those of the geode
verts_count : (g : SceneGraph) (id : ℕ) (ts : List Tri) (n : Node) → node_at g.nodes id ≡ Some n → None ≡ fault_of g (edit.Verts id ts)
    → option_map_or (λ (us : List Tri). length us == length ts) (geom_of n.kind) false ≡ true
verts_count g id ts n found ok =
    let passed = (all_passed (attribute_rules (edit.Verts id ts) (node_at g.nodes id)) ok).1.1.0 in
    let right : has_kind (λ k. option_map_or (λ (us : List Tri). length us == length ts) (geom_of k) false) (node_at g.nodes id) ≡ true = not_false (has_kind (λ k. option_map_or (λ (us : List Tri). length us == length ts) (geom_of k) false) (node_at g.nodes id)) (when_not (not (has_kind (λ k. option_map_or (λ (us : List Tri). length us == length ts) (geom_of k) false) (node_at g.nodes id))) (fault.Many (length ts)) passed) in
    subst (λ (o : Option Node). has_kind (λ k. option_map_or (λ (us : List Tri). length us == length ts) (geom_of k) false) o ≡ true) found right

pub size_after : (g : SceneGraph) (e : Edit) (n : Node) → node_at g.nodes (named_by e) ≡ Some n → None ≡ fault_of g e → size (node_after g.time e n).kind ≡ size n.kind
size_after g (edit.Make id kind) n found ok = refl
size_after g (edit.Add parent child) n found ok = refl
size_after g (edit.Insert parent place child) n found ok = refl
size_after g (edit.Replace parent child by) n found ok = refl
size_after g (edit.Remove parent child) n found ok = refl
size_after g (edit.Delete id) n found ok = refl
size_after g (edit.Pick id p) n found ok = size_pick p n.kind
size_after g (edit.Mat id mat) n found ok = size_pose _ n.kind
size_after g (edit.Trans id t) n found ok = size_pose _ n.kind
size_after g (edit.Rot id h p r) n found ok = size_pose _ n.kind
size_after g (edit.Scale id s) n found ok = size_pose _ n.kind
size_after g (edit.Range id place value) n found ok = size_range place value n.kind
size_after g (edit.Centre id at) n found ok = size_centre at n.kind
size_after g (edit.Times id place frames) n found ok = size_time place frames n.kind
size_after g (edit.Run id) n found ok = size_run g.time n.kind
size_after g (edit.Stop id) n found ok = size_stopped g.time (length n.children) n.kind
size_after g (edit.Verts id ts) n found ok = size_geom ts n.kind (verts_count g id ts n found ok)

pub serial_kept : (time : ℕ) (e : Edit) (n : Node) → (node_after time e n).serial ≡ n.serial
serial_kept time (edit.Make id kind) n = refl
serial_kept time e n = refl

-- The cycles

-- kinds of the same number of triangles are both geodes or neither
pub geode_by_size : (k j : Kind) → size k ≡ size j → is_geode j ≡ true → is_geode k ≡ true
geode_by_size k j same h = by (geom_of k) (geom_of j) same h
  where
    by : (a b : Option (List Tri)) → option_map length a ≡ option_map length b → is_some b ≡ true → is_some a ≡ true
    by (Some a) b e t = refl
    by None None e t = t
    by None (Some b) e t = absurd (cc)

resized : (w : Written) (n m : Node) → m.serial ≡ n.serial → size m.kind ≡ size n.kind → IsSized w (Some n) → IsSized w (Some m)
resized w n m serial same sized geode = ap (λ s. option_map length (w s)) serial ∙ sized (geode_by_size n.kind m.kind (sym same) geode) ∙ sym same

pub sized_effect : (w : Written) (g : SceneGraph) (e : Edit) → IsGraphWithinLimits g → None ≡ fault_of g e → HasCycle w g.next_serial e
    → ((id : ℕ) → IsSized w (node_at g.nodes id)) → (id : ℕ) → IsSized w (node_at (effect g e).nodes id)
sized_effect w g (edit.Make id kind) within ok cycle sized b =
    subst (λ (o : Option Node). IsSized w o) (sym (node_at_put_any (record { serial = g.next_serial; born = g.time; kind = kind; children = [] }) id g.nodes b)) (by (b == id))
  where
    by : (t : Bool) → IsSized w (cond t (Some (record { serial = g.next_serial; born = g.time; kind = kind; children = [] })) (node_at g.nodes b))
    by true = λ geode. ap (option_map length) cycle
    by false = sized b
sized_effect w g (edit.Delete id) within ok cycle sized b =
    subst (λ (o : Option Node). IsSized w o) (sym (node_at_without id g.nodes b within.rising)) (by (b == id))
  where
    by : (t : Bool) → IsSized w (cond t None (node_at g.nodes b))
    by true = tt
    by false = sized b
sized_effect w g e within ok cycle sized b =
    subst (λ (o : Option Node). IsSized w o) (sym (node_at_change (node_after g.time e) (named_by e) g.nodes b)) (by (b == named_by e) refl (node_at g.nodes b) refl (sized b))
  where
    by : (t : Bool) → (b == named_by e) ≡ t → (o : Option Node) → node_at g.nodes b ≡ o → IsSized w o → IsSized w (cond t (option_map (node_after g.time e) o) o)
    by false is o found old = old
    by true is None found old = tt
    by true is (Some n) found old =
        let there : node_at g.nodes (named_by e) ≡ Some n = subst (λ (x : ℕ). node_at g.nodes x ≡ Some n) (eqb-true b (named_by e) is) found in
        resized w n (node_after g.time e n) (serial_kept g.time e n) (size_after g e n there ok) old

-- Serials to come, and those of deleted nodes

pub serial_effect : (g : SceneGraph) (e : Edit) → (effect g e).next_serial ≡ serial_after g.next_serial e
serial_effect g (edit.Make id kind) = refl
serial_effect g (edit.Delete id) = refl
serial_effect g e = refl

pub gone_effect : (g : SceneGraph) (e : Edit) → length (effect g e).gone ≤ length g.gone + 1
gone_effect g (edit.Delete id) = by (node_at g.nodes id)
  where
    by : (o : Option Node) → length (g.gone ++ remains id o) ≤ length g.gone + 1
    by None = simp length-append (omega arith)
    by (Some n) = simp length-append (omega arith)
gone_effect g (edit.Make id kind) = omega arith
gone_effect g e = omega arith
