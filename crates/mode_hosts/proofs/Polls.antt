-- What one poll of APP or of DBASE comes to.
use Rattle.std.proofs.Common.{◌≡◌, ◌⊎◌, ℕ, false, List, [], ◌∷◌, ◌++◌, Option, Result, Ok, Err, inl, inr, refl, sym, ap, subst}
use Rattle.seat_lock.specs.Log.{of, Found}
use Rattle.frame_link.specs.Link.{Link}
use Rattle.pf_model.specs.declared.lines.BaseLine.{BaseLine}
use Rattle.pf_history.specs.declared.commands.Caller.TheVariants.{App, Dbase}
use Rattle.pf_history.specs.declared.commands.Command.TheVariants as command
use Rattle.pf_history.specs.declared.commands.Entry.{Entry}
use Rattle.pf_history.specs.declared.commands.Merge.{Merge}
use Rattle.pf_history.specs.Logs.{Log}
use Rattle.pf_scene.specs.Scenes.{SceneState}
use Rattle.stage_parts.specs.declared.packets.Packet.{Packet}
use Rattle.stage_parts.specs.declared.answers.Did.{Did}
use Rattle.stage_parts.specs.declared.answers.Did.TheVariants as did
use Rattle.stage_parts.specs.declared.answers.StageError.{StageError}
use Rattle.stage_parts.specs.declared.answers.StageError.TheVariants as error
use Rattle.stage_parts.specs.Frames.{AreOwnFrames, RetiresJust}
use Rattle.stage_parts.specs.Parts.{AppKeeps}
use Rattle.frame_stages.specs.Flights.{SinkSide}
use Rattle.frame_stages.specs.AppWorks.{AppWork}
use Rattle.frame_stages.specs.AppAnswers.{around, AppAdds, KeepsOn, is_fault, Polled}
use Rattle.frame_stages.specs.DbaseWorks.{DbaseWork, DbaseHolds}
use Rattle.frame_stages.specs.DbaseAnswers.{DbaseAdds, Known, IsDbaseAnswer, HasToWait}
use Rattle.frame_stages.specs.Stays.{DeskPlace, EndPlace, desk_place, end_place}
use Rattle.pipe_plays.specs.Played.{StaysWhole}
use Rattle.mode_hosts.specs.Sites.{Place, Site, DbaseSite, IsSameDesk, AreSameLinks, AreApp, AreBase, AppGoes, DbaseGoes}
use Rattle.mode_hosts.proofs.Logs.{GoesOn, by_others, by_own, still_front, still_own}

-- what a poll leaves of a desk
pub same_desk : (old new : Place) → desk_place new.number new.stand ≡ desk_place old.number old.stand → IsSameDesk old new
same_desk old new same = record { number = ap (λ (d : DeskPlace). d.number) same; stand = ap (λ (d : DeskPlace). d.stands) same }

-- what a poll leaves of an end
pub same_link : {l l' : Link} {r r' : ℕ} {o o' : Option (List Packet)} → end_place l' r' o' ≡ end_place l r o → l' ≡ l
same_link same = ap (λ (e : EndPlace). e.link) same

app_log : (k written : ℕ) (seen seen' : Log) → AppAdds k written seen seen' → GoesOn k (λ e. e.caller ≡ App) seen seen'
app_log k written seen seen' adds = by adds.adds
  where
    by : (seen' ≡ adds.found) ⊎ ((e : Entry) × (e.caller ≡ App) × RetiresJust written e.command × (seen' ≡ adds.found ++ (k, e) ∷ [])) →
        GoesOn k (λ e. e.caller ≡ App) seen seen'
    by (inl same) = by_others (subst (Found k seen) (sym same) adds.goes_on)
    by (inr (e, caller, retires, is)) = by_own adds.found e adds.goes_on caller is

dbase_log : (k : ℕ) (seen seen' : Log) → DbaseAdds k seen seen' → GoesOn k (λ e. e.caller ≡ Dbase) seen seen'
dbase_log k seen seen' adds = by adds.adds
  where
    by : (seen' ≡ adds.found) ⊎ ((e : Entry) × (m : Merge) × (e.caller ≡ Dbase) × (e.command ≡ command.Merge m) × (seen' ≡ adds.found ++ (k, e) ∷ [])) →
        GoesOn k (λ e. e.caller ≡ Dbase) seen seen'
    by (inl same) = by_others (subst (Found k seen) (sym same) adds.goes_on)
    by (inr (e, m, caller, merges, is)) = by_own adds.found e adds.goes_on caller is

-- a poll of APP
pub app_goes : (result : Result Did StageError) (old new : Site AppWork) (told told' : Option SceneState) (told_sent told_taken : Option (List Packet))
    (room : ℕ) (sink sink' : SinkSide) →
    Polled old.place.number result old.work new.work
    (around old.place.seen told (record { taken = old.taken; sent = old.sent; told_sent = told_sent; told_taken = told_taken; room = room; sink = sink }))
    (around new.place.seen told' (record { taken = new.taken; sent = new.sent; told_sent = told_sent; told_taken = told_taken; room = room; sink = sink' })) →
    IsSameDesk old.place new.place → AreSameLinks old new → AppGoes old new sink.bytes sink'.bytes
app_goes result old new told told' told_sent told_taken room sink sink' polled desk links =
    let goes = app_log old.place.number new.work.state.written old.place.seen new.place.seen polled.adds in
    record {
      desk = desk;
      front = still_front old.place.number (λ e. e.caller ≡ App) old.place.seen new.place.seen goes;
      links = links;
      own = λ own.
          subst (λ (k : ℕ). AreApp (of k new.place.seen)) (sym desk.number)
          (still_own old.place.number (λ e. e.caller ≡ App) old.place.seen new.place.seen goes own);
      given = polled.given;
      told = polled.told;
      keeps = λ g stream given own keeps.
          let on : KeepsOn g old.place.number new.work.state sink.bytes _ stream =
          polled.part g stream given (subst (λ (k : ℕ). AreOwnFrames k new.place.seen) desk.number own) keeps in
          record {
            more = on.more;
            wrote = on.wrote;
            keeps = subst (λ (k : ℕ). AppKeeps g k new.work.state new.place.seen new.taken new.sent (stream ++ on.more)) (sym desk.number) on.keeps;
          };
    }

-- only a fault of the sink cuts a picture short
pub app_uncut : (result : Result Did StageError) (before now : Option ℕ) → (is_fault result ≡ false → now ≡ before) → StaysWhole result before now
app_uncut (Ok did) before now same = same refl
app_uncut (Err error.NoMemory) before now same = same refl
app_uncut (Err error.FrameFault) before now same = tt

-- a poll of DBASE
pub dbase_goes : (old new : DbaseSite) → IsSameDesk old.place new.place → DbaseAdds old.place.number old.place.seen new.place.seen →
    ((lines : List BaseLine) (channels : ℕ) → DbaseHolds lines channels old.place.number old.work old.place.seen →
    DbaseHolds lines channels old.place.number new.work new.place.seen) → DbaseGoes old new
dbase_goes old new desk adds part =
    let goes = dbase_log old.place.number old.place.seen new.place.seen adds in
    record {
      desk = desk;
      front = still_front old.place.number (λ e. e.caller ≡ Dbase) old.place.seen new.place.seen goes;
      own = λ own.
          subst (λ (k : ℕ). AreBase (of k new.place.seen)) (sym desk.number)
          (still_own old.place.number (λ e. e.caller ≡ Dbase) old.place.seen new.place.seen goes own);
      holds = λ lines channels holds.
          subst (λ (k : ℕ). DbaseHolds lines channels k new.work new.place.seen) (sym desk.number) (part lines channels holds);
    }

-- one that answers NotYet has to wait, by the log that is then seen
pub base_waits : (k : ℕ) (result : Result Did StageError) (old new : DbaseWork) (known knows : Known) → result ≡ Ok did.NotYet →
    IsDbaseAnswer k result old new known knows → HasToWait new.rest new.hand knows.seen
base_waits k result old new known knows is answer =
    let stays = subst (λ (r : Result Did StageError). IsDbaseAnswer k r old new known knows) is answer in
    subst (λ (w : DbaseWork). HasToWait w.rest w.hand knows.seen) (sym stays.0) stays.2
