-- What edits make of a kind is as good for the limits.
use Rattle.pf_model.specs.Fits.{kind_fits, run_fits, time_fits}
use Rattle.std.specs.List.{list_all}
use Rattle.std.proofs.lemmas.Bool.{eqb-true}
use Rattle.std.proofs.Common.{◌≡◌, ℕ, ◌≤◌, Bool, true, nat_le, List, length, Some, refl, subst, arith, false, ◌&&◌}
use Rattle.std.proofs.lemmas.Bool.Decides.{nat_tests}
use Rattle.fx_math.specs.declared.vectors.Vec3.{Vec3}
use Rattle.pf_model.specs.declared.geometry.Tri.{Tri}
use Rattle.pf_model.specs.declared.nodes.Kind.{Kind}
use Rattle.pf_model.specs.declared.nodes.Kind.TheVariants.{Switch, Dcs, Lod, Seq, Geode, Glass}
use Rattle.pf_model.specs.declared.nodes.Pick.{Pick}
use Rattle.pf_model.specs.declared.nodes.Run.{Run}
use Rattle.pf_model.specs.declared.nodes.Run.TheVariants.{Since, Held}
use Rattle.pf_model.specs.declared.poses.Pose.{Pose}
use Rattle.pf_model.specs.Kinds.{with_pick, with_pose, with_range, with_centre, with_time, run_from, stopped, held_at, with_geom, geom_of}
use Rattle.pf_model.specs.Limits.{HasBegunRun, HasBegun}
use Rattle.pf_model.proofs.Keeping.{IsAsGood}

pub same_good : (time : ℕ) (k : Kind) → IsAsGood time k k
same_good time k = record { geode = refl; light = λ h. h; begun = λ h. h }

pub good_pick : (time : ℕ) (p : Pick) (k : Kind) → IsAsGood time k (with_pick p k)
good_pick time p (Switch q) = record { geode = refl; light = λ h. h; begun = λ h. h }
good_pick time p k = same_good time k

pub good_pose : (time : ℕ) (f : Pose → Pose) (k : Kind) → IsAsGood time k (with_pose f k)
good_pose time f (Dcs q) = record { geode = refl; light = λ h. h; begun = λ h. h }
good_pose time f k = same_good time k

pub good_range : (time i x : ℕ) (k : Kind) → IsAsGood time k (with_range i x k)
good_range time i x (Lod c rs) = record { geode = refl; light = λ h. h; begun = λ h. h }
good_range time i x k = same_good time k

pub good_centre : (time : ℕ) (c : Vec3) (k : Kind) → IsAsGood time k (with_centre c k)
good_centre time c (Lod d rs) = record { geode = refl; light = λ h. h; begun = λ h. h }
good_centre time c k = same_good time k

pub good_time : (time i x : ℕ) (k : Kind) → IsAsGood time k (with_time i x k)
good_time time i x (Seq ts r) = record { geode = refl; light = λ h. h; begun = λ h. h }
good_time time i x k = same_good time k

pub good_run : (time : ℕ) (k : Kind) → IsAsGood time k (run_from time k)
good_run time (Seq ts r) = record { geode = refl; light = λ h. h; begun = λ h. omega arith }
good_run time k = same_good time k

held_begun : (ts : List ℕ) (n time : ℕ) (r : Run) → HasBegunRun time (held_at ts n time r)
held_begun ts n time (Held i) = tt
held_begun ts n time (Since s) = tt

pub good_stopped : (time n : ℕ) (k : Kind) → IsAsGood time k (stopped time n k)
good_stopped time n (Seq ts r) = record { geode = refl; light = λ h. h; begun = λ h. held_begun ts n time r }
good_stopped time n k = same_good time k

few_triangles : (ts us : List Tri) → nat_le (length ts) 4096 ≡ true → Some ts ≡ Some us → length us ≤ 4096
few_triangles ts us fits e = let same : ts ≡ us = cc in subst (λ (vs : List Tri). length vs ≤ 4096) same (bound (length ts) fits)
  where
    bound : (n : ℕ) → nat_le n 4096 ≡ true → n ≤ 4096
    bound n h = grind (arith, nat_tests)

pub good_geom : (time : ℕ) (ts : List Tri) (k : Kind) → nat_le (length ts) 4096 ≡ true → IsAsGood time k (with_geom ts k)
good_geom time ts (Geode s us) fits = record { geode = refl; light = λ h vs e. few_triangles ts vs fits e; begun = λ h. h }
good_geom time ts (Glass s a us) fits = record { geode = refl; light = λ h vs e. few_triangles ts vs fits e; begun = λ h. h }
good_geom time ts k fits = same_good time k

pub kind_light : (k : Kind) → kind_fits k ≡ true → (ts : List Tri) → geom_of k ≡ Some ts → length ts ≤ 4096
kind_light (Geode s us) fits ts e = few_triangles us ts fits e
kind_light (Glass s a us) fits ts e = few_triangles us ts fits e
kind_light k fits ts e = absurd (cc)

run_begun : (time : ℕ) (r : Run) → run_fits r ≡ true → HasBegunRun time r
run_begun time (Held i) fits = tt
run_begun time (Since s) fits = let zero_is : s ≡ 0 = eqb-true s 0 fits in omega arith

-- a kind that fits has begun at any time
pub kind_begun : (time : ℕ) (k : Kind) → kind_fits k ≡ true → HasBegun time k
kind_begun time (Seq ts r) fits = run_begun time r (last (nat_le (length ts) 256) (list_all time_fits ts) (run_fits r) fits)
  where
    last : (p q s : Bool) → (p && (q && s)) ≡ true → s ≡ true
    last true true s h = h
    last true false s h = absurd (cc)
    last false q s h = absurd (cc)
kind_begun time k fits = tt
