-- A system that has not begun is one of the play, a poll of a stage, alone, keeps what such a system keeps, and a stage that is
-- over stays over.
use Rattle.std.proofs.Common.{◌≡◌, ◌⊎◌, ℕ, ◌≤◌, true, false, List, [], ◌∷◌, ◌++◌, None, Some, Result, inl, inr, refl, sym, ap, ◌∙◌, subst, arith}
use Rattle.std.proofs.lemmas.List.{append-nil}
use Rattle.seat_lock.specs.Log.{of, Adds, Found}
use Rattle.seat_lock.proofs.Logs.{of_other, of_kept, found-self, found-trans}
use Rattle.pf_history.specs.Logs.{Log, IsLegal}
use Rattle.stage_parts.specs.declared.packets.Packet.{Packet}
use Rattle.stage_parts.specs.Packets.{LinkPart}
use Rattle.stage_parts.specs.declared.answers.Did.{Did}
use Rattle.stage_parts.specs.declared.answers.StageError.{StageError}
use Rattle.frame_stages.specs.AppWorks.{AppWork, is_done, merges_in}
use Rattle.frame_stages.specs.CullWorks.{CullWork}
use Rattle.frame_stages.specs.Works.{DrawWork}
use Rattle.frame_stages.specs.DbaseWorks.{is_ended}
use Rattle.pipe_plays.specs.Plays.{setup_of}
use Rattle.mode_hosts.specs.Sites.{Site, DbaseSite}
use Rattle.mode_hosts.specs.Gathering.{CameHome}
use Rattle.mode_hosts.specs.Waits.{Stage, App, Cull, Draw, Dbase, System, IsDone, IsOver}
use Rattle.mode_hosts.specs.Polls.{desk_number, seen_by, IsSameSeat, IsPoll, IsOfDoing, DidSomething}
use Rattle.mode_hosts.specs.Laws.{OpeningLaw, PollLaw}
use Rattle.mode_hosts.proofs.Keeping.{stay_together, seats_keep}
use Rattle.mode_hosts.proofs.Moving.{Grows, grows, faulted, failed, alive}

same_stage : (a b : Stage) → (a ≡ b) ⊎ (a ≡ b → ⊥)
same_stage App App = inl refl
same_stage Cull Cull = inl refl
same_stage Draw Draw = inl refl
same_stage Dbase Dbase = inl refl
same_stage _ _ = inr (λ clash. cc)

apart_desks : (a b : Stage) → (a ≡ b → ⊥) → desk_number a ≡ desk_number b → ⊥
apart_desks App App apart = λ same. apart refl
apart_desks Cull Cull apart = λ same. apart refl
apart_desks Draw Draw apart = λ same. apart refl
apart_desks Dbase Dbase apart = λ same. apart refl
apart_desks _ _ apart = λ same. omega (arith, same)

small_desk : (stage : Stage) → desk_number stage ≤ 3
small_desk App = omega arith
small_desk Cull = omega arith
small_desk Draw = omega arith
small_desk Dbase = omega arith

-- A stage that is over stays over

done_same : (other : Stage) (s t : System) → IsSameSeat other s t → IsDone other s → IsDone other t
done_same App s t same done = subst (λ (x : Site AppWork). is_done x.work.state ≡ true) (sym same) done
done_same Cull s t same done = subst (λ (x : Site CullWork). x.work.ended ≡ true) (sym same) done
done_same Draw s t same done = subst (λ (x : Site DrawWork). x.work.state.ended ≡ true) (sym same) done
done_same Dbase s t same done = subst (λ (x : DbaseSite). is_ended x.work.rest ≡ true) (sym same) done

pub over_lasts : (ahead : ℕ) (stage other : Stage) (s t : System) → DidSomething ahead stage s t → IsOver other s → IsOver other t
over_lasts ahead stage other s t (result, doing, poll) (inl done) = elim (same_stage other stage) [
  | inl same ↦ absurd (alive ahead stage result s t doing poll (subst (λ x. IsDone x s) same done))
  | inr apart ↦ inl (done_same other s t (poll.others other apart) done)
]
over_lasts ahead stage other s t (result, doing, poll) (inr set) = inr ((grows ahead stage result s t poll).stopped set)

-- The log

-- an entry of another number, or none
goes_on : (k n : ℕ) (before after : Log) → (n ≡ k → ⊥) → Adds n before after → Found k before after
goes_on k n before after apart (inl same) = ([], same ∙ sym (append-nil before), refl)
goes_on k n before after apart (inr (e, is)) = ((n, e) ∷ [], is, of_other k n e apart)

still_none : (k n : ℕ) (before after : Log) → (n ≡ k → ⊥) → Adds n before after → of k before ≡ [] → of k after ≡ []
still_none k n before after apart (inl same) none = ap (of k) same ∙ none
still_none k n before after apart (inr (e, is)) none = ap (of k) is ∙ (of_kept k n before e apart ∙ none)

-- the scene's log goes on from what the desk has seen
abbrev IsFound : Stage → System → Type 0
IsFound stage s = Found (desk_number stage) (seen_by stage s) s.scene.shared.log

seen_same : (other : Stage) (s t : System) → IsSameSeat other s t → seen_by other t ≡ seen_by other s
seen_same App s t same = ap (λ (x : Site AppWork). x.place.seen) same
seen_same Cull s t same = ap (λ (x : Site CullWork). x.place.seen) same
seen_same Draw s t same = ap (λ (x : Site DrawWork). x.place.seen) same
seen_same Dbase s t same = ap (λ (x : DbaseSite). x.place.seen) same

found_by : (s : System) → CameHome s.sites s.scene.shared.log → (stage : Stage) → IsFound stage s
found_by s home App = home.app
found_by s home Cull = home.cull
found_by s home Draw = home.draw
found_by s home Dbase = home.dbase

module _ (ahead : ℕ) (stage : Stage) (result : Result Did StageError) (s t : System) (doing : IsOfDoing result)
    (poll : IsPoll ahead stage result s t) where
  scene : Grows (desk_number stage) s.scene.shared t.scene.shared
  scene = grows ahead stage result s t poll

  still_found : (other : Stage) → IsFound other s → IsFound other t
  still_found other found = elim (same_stage other stage) [
    | inl same ↦ subst (λ x. IsFound x t) (sym same) (subst (λ (log : Log). Found (desk_number stage) log t.scene.shared.log)
        (sym (poll.seen (alive ahead stage result s t doing poll))) (found-self (desk_number stage) t.scene.shared.log))
    | inr apart ↦ subst (λ (log : Log). Found (desk_number other) log t.scene.shared.log) (sym (seen_same other s t (poll.others other apart)))
        (found-trans (desk_number other) (seen_by other s) s.scene.shared.log t.scene.shared.log found
        (goes_on (desk_number other) (desk_number stage) s.scene.shared.log t.scene.shared.log
        (λ same. apart_desks other stage apart (sym same)) scene.adds))
  ]

  home_still : CameHome s.sites s.scene.shared.log → CameHome t.sites t.scene.shared.log
  home_still home =
      record {
        legal = poll.legal;
        within = λ k more.
            still_none k (desk_number stage) s.scene.shared.log t.scene.shared.log
            (λ same. let small = small_desk stage in omega (arith, small, same, more)) scene.adds (home.within k more);
        app = still_found App home.app;
        cull = still_found Cull home.cull;
        draw = still_found Draw home.draw;
        dbase = still_found Dbase home.dbase;
        link_a = poll.link_a;
        link_b = poll.link_b;
        link_c = poll.link_c;
      }

-- the merges that APP waited for stand in the log that it has seen
still_waited : (ahead : ℕ) (stage : Stage) (result : Result Did StageError) (s t : System) → IsPoll ahead stage result s t →
    s.sites.app.work.state.need ≤ merges_in (seen_by App s) → t.sites.app.work.state.need ≤ merges_in (seen_by App t)
still_waited ahead App result s t poll enough = poll.says.waited enough
still_waited ahead Cull result s t poll enough =
    subst (λ (x : Site AppWork). x.work.state.need ≤ merges_in x.place.seen) (sym (poll.others App (λ clash. cc))) enough
still_waited ahead Draw result s t poll enough =
    subst (λ (x : Site AppWork). x.work.state.need ≤ merges_in x.place.seen) (sym (poll.others App (λ clash. cc))) enough
still_waited ahead Dbase result s t poll enough =
    subst (λ (x : Site AppWork). x.work.state.need ≤ merges_in x.place.seen) (sym (poll.others App (λ clash. cc))) enough

pub poll_law : PollLaw
poll_law play ahead bytes stage s t is_of (result, doing, poll) =
    let scene = grows ahead stage result s t poll in
    record {
      lock = is_of.lock;
      together = stay_together is_of.lock s.sites t.sites s.sink.bytes t.sink.bytes poll.seats is_of.together;
      seats = seats_keep (setup_of play ahead) play.dbase s.sites t.sites bytes s.sink.bytes t.sink.bytes poll.seats is_of.seats;
      scene = home_still ahead stage result s t doing poll is_of.scene;
      in_flight = scene.ahead ∙ is_of.in_flight;
      channels = scene.channels ∙ is_of.channels;
      waited = still_waited ahead stage result s t poll is_of.waited;
      faulted = λ n fault. elim (faulted ahead stage result s t poll) [
        | inl same ↦ scene.stopped (is_of.faulted n (sym same ∙ fault))
        | inr set ↦ set
      ];
      failed = λ fails. elim (failed ahead stage result s t poll) [
        | inl same ↦ scene.stopped (is_of.failed (sym same ∙ fails))
        | inr set ↦ set
      ];
    }

-- The opening

found_none : (k : ℕ) (seen log : Log) → seen ≡ [] → log ≡ [] → Found k seen log
found_none k seen log none_seen none = ([], none ∙ sym (ap (λ (xs : Log). xs ++ []) none_seen), refl)

none_taken : (sent taken : List Packet) → taken ≡ [] → LinkPart sent taken
none_taken sent taken none = subst (LinkPart sent) (sym none) (record { front = refl })

pub opening_law : OpeningLaw
opening_law play ahead bytes lock s together seats in_flight channels fresh =
    record {
      lock = lock;
      together = together;
      seats = seats;
      scene = record {
        legal = λ n. subst (IsLegal n) (sym fresh.log) tt;
        within = λ k more. ap (of k) fresh.log;
        app = found_none 0 (seen_by App s) s.scene.shared.log (fresh.seen App) fresh.log;
        cull = found_none 1 (seen_by Cull s) s.scene.shared.log (fresh.seen Cull) fresh.log;
        draw = found_none 2 (seen_by Draw s) s.scene.shared.log (fresh.seen Draw) fresh.log;
        dbase = found_none 3 (seen_by Dbase s) s.scene.shared.log (fresh.seen Dbase) fresh.log;
        link_a = none_taken s.sites.app.sent s.sites.cull.taken fresh.a;
        link_b = none_taken s.sites.cull.sent s.sites.draw.taken fresh.b;
        link_c = none_taken s.sites.draw.sent s.sites.app.taken fresh.c;
      };
      in_flight = in_flight;
      channels = channels;
      waited = let none = fresh.waited in omega (arith, none);
      faulted = λ n fault. absurd (let clash : None ≡ Some n = sym fresh.faulted ∙ fault in cc);
      failed = λ fails. absurd (let clash : true ≡ false = sym fails ∙ fresh.failed in cc);
    }
