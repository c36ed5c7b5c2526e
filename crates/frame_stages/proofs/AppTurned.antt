-- What a turn at the scene came to.
use Rattle.std.proofs.Common.{◌≡◌, ℕ, List, map, length, Option, Some, None, sym, ap, ◌∙◌, subst}
use Rattle.std.specs.Prelude.{MatchOption}
use Rattle.seat_lock.specs.Log.{Found}
use Rattle.draw_list.specs.Lists.{Drawables}
use Rattle.pf_model.specs.Angles.{Viewpoint}
use Rattle.pf_model.specs.Copies.{UpdateList}
use Rattle.pf_history.specs.declared.commands.Merge.{Merge}
use Rattle.pf_history.specs.declared.commands.Reply.{Reply}
use Rattle.pf_history.specs.declared.commands.Command.{Command}
use Rattle.pf_history.specs.declared.commands.Command.TheVariants as command
use Rattle.pf_history.specs.Logs.{Log}
use Rattle.pf_scene.specs.Scenes.{Shared, SceneState, KeepsCopies, AreOfRetired, state_in, entered}
use Rattle.pf_scene.specs.declared.outcomes.Outcome.{Outcome}
use Rattle.pf_scene.specs.declared.outcomes.Outcome.TheVariants as outcome
use Rattle.pf_scene.specs.declared.outcomes.Channels.{Channels}
use Rattle.pf_scene.specs.declared.outcomes.Framed.{Framed}
use Rattle.pf_scene.specs.Frames.{IsCutOf, AllHaveRoom, drawn}
use Rattle.pf_scene.specs.Acts.{seated, MayFrame, Begins, DoesView, DoesMerge, DoesStop}
use Rattle.stage_parts.specs.Loads.{LoadState}
use Rattle.frame_stages.specs.Copies.{HoldsCopies, AreHomeward}
use Rattle.frame_stages.specs.AppTurns.{Tells, Bars, Made, Barred, Wanting, IsMarked, Marks, Begun}

-- what a desk tells of a turn that found this scene and left that one
abbrev pub Told : Option SceneState → Option SceneState → SceneState → SceneState → Type 0
Told told told' found left = MatchOption told (told' ≡ None) (λ value. (value ≡ found) × (told' ≡ Some left))

tells_of : (P : Shared → Shared → Type 0) (told told' : Option SceneState) (found left : SceneState) → Told told told' found left →
    P found.shared left.shared → Tells P told told'
tells_of P None told' found left tells holds = tells
tells_of P (Some scene) told' found left (is, is') holds =
    (left, is', subst (λ (s : SceneState). P s.shared left.shared) (sym is) holds)

-- a command was entered
pub turned_made : (k : ℕ) (c : Command) (May : Shared → Type 0) (seen seen' : Log) (told told' : Option SceneState) (found left : SceneState) →
    Found k seen found.shared.log → May found.shared → left.shared ≡ entered c (seated k found.shared) → seen' ≡ left.shared.log →
    Told told told' found left → Made k c May seen told seen' told'
turned_made k c May seen seen' told told' found left goes_on may is seen_is tells =
    record {
      found = found.shared;
      goes_on = goes_on;
      may = may;
      adds = seen_is ∙ ap (λ (s : Shared). s.log) is;
      tells = tells_of (λ old new. new ≡ entered c (seated k old)) told told' found left tells is;
    }

-- a command might not be made
pub turned_barred : (k : ℕ) (May : Shared → Type 0) (seen seen' : Log) (told told' : Option SceneState) (found left : SceneState) →
    Found k seen found.shared.log → left ≡ found → (May found.shared → ⊥) → seen' ≡ left.shared.log → Told told told' found left →
    Barred k May seen told seen' told'
turned_barred k May seen seen' told told' found left goes_on same not seen_is tells =
    record {
      goes_on = subst (λ (l : Log). Found k seen l) (sym (seen_is ∙ ap (λ (s : SceneState). s.shared.log) same)) goes_on;
      same = still told tells;
      bars = bars told tells;
    }
  where
    still : (t : Option SceneState) → Told t told' found left → told' ≡ t
    still None tells = tells
    still (Some scene) (is, is') = is' ∙ ap Some (same ∙ sym is)

    bars : (t : Option SceneState) → Told t told' found left → Bars May t seen'
    bars None tells = (found.shared, sym (seen_is ∙ ap (λ (s : SceneState). s.shared.log) same), not)
    bars (Some scene) (is, is') = λ may. not (subst (λ (s : SceneState). May s.shared) is may)

-- there was no memory
pub turned_wanting : (k : ℕ) (seen seen' : Log) (told told' : Option SceneState) (found left : SceneState) →
    Found k seen found.shared.log → left.shared ≡ seated k found.shared → seen' ≡ left.shared.log → Told told told' found left →
    Wanting k seen told seen' told'
turned_wanting k seen seen' told told' found left goes_on is seen_is tells =
    record {
      goes_on = subst (λ (l : Log). Found k seen l) (sym (seen_is ∙ ap (λ (s : Shared). s.log) is)) goes_on;
      tells = tells_of (λ old new. new ≡ seated k old) told told' found left tells is;
    }

-- the mark was set
pub turned_marks : (k : ℕ) (seen seen' : Log) (told told' : Option SceneState) (found left : SceneState) →
    Found k seen found.shared.log → DoesStop found left → seen' ≡ left.shared.log → Told told told' found left →
    Marks k seen told seen' told'
turned_marks k seen seen' told told' found left goes_on is seen_is tells =
    record {
      goes_on = subst (λ (l : Log). Found k seen l) (sym (seen_is ∙ ap (λ (s : SceneState). s.shared.log) is)) goes_on;
      tells = tells_of IsMarked told told' found left tells (record {
        stopped = ap (λ (s : SceneState). s.shared.stopped) is;
        log = ap (λ (s : SceneState). s.shared.log) is;
        ahead = ap (λ (s : SceneState). s.shared.ahead) is;
        channels = ap (λ (s : SceneState). s.shared.channels) is;
      });
    }

-- a frame was begun with the draw lists of a load, which go back into it with the cut
pub turned_begun : (k ahead : ℕ) (load load1 load2 load3 : LoadState) (before : List Drawables) (channels : Channels) (r : Framed)
    (seen seen' : Log) (told told' : Option SceneState) (found left : SceneState) →
    load1 ≡ record load { lists = before } → channels.lists.items ≡ load.lists → load2 ≡ record load1 { lists = r.channels.lists.items } →
    load3 ≡ record load2 { cut = r.cut } → Found k seen found.shared.log → Begins ahead channels k found left r → seen' ≡ left.shared.log →
    Told told told' found left → Begun k ahead load seen told load3 seen' told'
unfolding turned_made
turned_begun k ahead load load1 load2 load3 before channels r seen seen' told told' found left is1 given is2 is3 goes_on b seen_is tells =
    record {
      made = turned_made k command.Frame (λ s. MayFrame s ahead (length load.lists)) seen seen' told told' found left goes_on
          (subst (λ (xs : List Drawables). MayFrame found.shared ahead (length xs)) given b.may) b.shared seen_is tells;
      cut = subst (λ (l : LoadState). IsCutOf l.cut found.shared) (sym all) b.cut;
      room = subst (λ (l : LoadState). AllHaveRoom (state_in found.shared).graph l.lists) (sym all) b.room;
      lists = ap (λ (l : LoadState). map drawn l.lists) all ∙ b.lists ∙ ap (map drawn) given;
      same = all ∙ sym (ap (λ (l : LoadState). record load { cut = l.cut; lists = l.lists }) all);
    }
  where
    all : load3 ≡ record load { lists = r.channels.lists.items; cut = r.cut }
    all =
        is3 ∙ ap (λ (l : LoadState). record l { cut = r.cut }) is2
        ∙ ap (λ (l : LoadState). record l { lists = r.channels.lists.items; cut = r.cut }) is1

-- The copies that are out

-- they stay accounted for where the act keeps them so
pub counts_on : (told told' : Option SceneState) (found left : SceneState) → Told told told' found left → (KeepsCopies found → KeepsCopies left) →
    HoldsCopies told → HoldsCopies told'
counts_on None told' found left tells on holds = subst HoldsCopies (sym tells) tt
counts_on (Some scene) told' found left (is, is') on holds = subst HoldsCopies (sym is') (on (subst KeepsCopies is holds))

-- where nothing changed
pub counts_still : (told told' : Option SceneState) (found left : SceneState) → Told told told' found left → left ≡ found →
    HoldsCopies told → HoldsCopies told'
counts_still told told' found left tells same = counts_on told told' found left tells (λ holds. subst KeepsCopies (sym same) holds)

-- where the mark was set
pub counts_marked : (told told' : Option SceneState) (found left : SceneState) → Told told told' found left → DoesStop found left →
    HoldsCopies told → HoldsCopies told'
counts_marked told told' found left tells is = counts_on told told' found left tells (λ holds. subst KeepsCopies (sym is) holds)

-- after a Sync that brought the right lists home
pub counts_synced : (retired : ℕ) (lists : List UpdateList) (told told' : Option SceneState) (found left : SceneState) → Told told told' found left →
    (AreOfRetired retired found.shared lists → KeepsCopies found → KeepsCopies left) →
    AreHomeward retired told lists → HoldsCopies told → HoldsCopies told'
counts_synced retired lists None told' found left tells on right holds = subst HoldsCopies (sym tells) tt
counts_synced retired lists (Some scene) told' found left (is, is') on right holds =
    subst HoldsCopies (sym is') (on (subst (λ (s : SceneState). AreOfRetired retired s.shared lists) is right) (subst KeepsCopies is holds))

-- after a merge
pub counts_merged : (m : Merge) (seat : ℕ) (r : Outcome Reply Merge) (told told' : Option SceneState) (found left : SceneState) →
    Told told told' found left → DoesMerge m seat found left r → HoldsCopies told → HoldsCopies told'
counts_merged m seat r told told' found left tells does = counts_on told told' found left tells (by r does)
  where
    by : (o : Outcome Reply Merge) → DoesMerge m seat found left o → KeepsCopies found → KeepsCopies left
    by (outcome.Entered x) (may, enters, same) = enters.accounted
    by (outcome.NotNow back) (same, is, not) = λ holds. subst KeepsCopies (sym same) holds
    by (outcome.NoMemory back) (shared, is, on) = on

-- after a view
pub counts_viewed : (channel : ℕ) (v : Viewpoint) (seat : ℕ) (r : Outcome Reply (Unit {0})) (told told' : Option SceneState)
    (found left : SceneState) → Told told told' found left → DoesView channel v seat found left r → HoldsCopies told → HoldsCopies told'
counts_viewed channel v seat r told told' found left tells does = counts_on told told' found left tells (by r does)
  where
    by : (o : Outcome Reply (Unit {0})) → DoesView channel v seat found left o → KeepsCopies found → KeepsCopies left
    by (outcome.Entered x) (may, enters, same) = enters.accounted
    by (outcome.NotNow back) (same, not) = λ holds. subst KeepsCopies (sym same) holds
    by (outcome.NoMemory back) (shared, on) = on
