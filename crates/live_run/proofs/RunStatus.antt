-- The statuses of a live run that was closed.
use Rattle.std.proofs.Common.{◌≡◌, ℕ, ◌≤◌, Option, Some, None, inl, inr, refl, sym, ap, ◌∙◌, subst, arith, rules}
use Rattle.std.specs.Prelude.{◌≢◌, ◌⊎◌, ◌↔◌, IsSome, Result, Ok, Err}
use Rattle.pf_io.specs.Causes.{Calm, Rose}
use Rattle.play_format.specs.declared.refusal.Refusal.{Refusal}
use Rattle.pipe_plays.specs.declared.played.PlayEnd.{PlayEnd}
use Rattle.pipe_plays.specs.declared.played.PlayEnd.TheVariants as end
use Rattle.mode_hosts.specs.Plays.{EndBlames}
use Rattle.program_ends.specs.declared.stop.Stop.{Stop}
use Rattle.program_ends.specs.Told.{Bytes}
use Rattle.live_run.specs.declared.halt.Halt.{Halt}
use Rattle.live_run.specs.declared.halt.Halt.TheVariants as halt
use Rattle.live_run.specs.Closing.{end_of_told, end_at, Says, StatusBlames}

none_is_some : IsSome {T = Refusal} None → ⊥
none_is_some is = absurd cc

-- What a status and a refusal say of how the run came there.
pub record EndFacts (e : PlayEnd) (came told : Result Unit Halt) (why : Option Stop) (status : ℕ) (refusal : Option Refusal) : Type 0 where
  pub one_of : (status ≡ 0) ⊎ (status ≡ 2) ⊎ ((4 ≤ status) × (status ≤ 7))
  pub is_refused : IsSome refusal ↔ status ≡ 2
  pub frame : status ≡ 5 → e ≡ end.FrameFault
  pub others : (status ≡ 5 → ⊥) → e ≡ end.FrameFault → ⊥
  pub unread : status ≡ 4 → came ≡ Err halt.ReadFault
  pub read : status ≤ 2 → came ≢ Err halt.ReadFault
  pub done : status ≡ 0 → (e ≡ end.Done) × (why ≡ None) × (u : Unit {0}) × (told ≡ Ok u)

module _ (e : PlayEnd) (came told : Result Unit Halt) (why : Option Stop) (status : ℕ) (refusal : Option Refusal) where
  abbrev Facts : Type 0
  Facts = EndFacts e came told why status refusal

  no_refusal : (n : ℕ) → status ≡ n → n ≢ 2 → refusal ≡ None → IsSome refusal ↔ status ≡ 2
  no_refusal n is nay none =
      ((λ some. absurd (none_is_some (subst (λ (o : Option Refusal). IsSome o) none some))), (λ q. absurd (nay (sym is ∙ q))))

  at_0 : status ≡ 0 → refusal ≡ None → why ≡ None → e ≡ end.Done → came ≢ Err halt.ReadFault →
      (u : Unit {0}) → told ≡ Ok u → Facts
  at_0 is none quiet done calm u all =
      record {
        one_of = inl is;
        is_refused = no_refusal 0 is (λ q. absurd (omega (arith, q))) none;
        frame = λ q. absurd (omega (arith, is, q));
        others = λ nay fault. absurd (let clash : end.Done ≡ end.FrameFault = sym done ∙ fault in cc);
        unread = λ q. absurd (omega (arith, is, q));
        read = λ q. calm;
        done = λ q. (done, quiet, u, all);
      }

  at_2 : (r : Refusal) → status ≡ 2 → refusal ≡ Some r → e ≡ end.Done → came ≢ Err halt.ReadFault → Facts
  at_2 r is some done calm =
      record {
        one_of = inr (inl is);
        is_refused = ((λ q. is), (λ q. subst (λ (o : Option Refusal). IsSome o) (sym some) (search rules)));
        frame = λ q. absurd (omega (arith, is, q));
        others = λ nay fault. absurd (let clash : end.Done ≡ end.FrameFault = sym done ∙ fault in cc);
        unread = λ q. absurd (omega (arith, is, q));
        read = λ q. calm;
        done = λ q. absurd (omega (arith, is, q));
      }

  at_4 : status ≡ 4 → refusal ≡ None → e ≡ end.Done → came ≡ Err halt.ReadFault → Facts
  at_4 is none done fault =
      record {
        one_of = inr (inr (omega (arith, is), omega (arith, is)));
        is_refused = no_refusal 4 is (λ q. absurd (omega (arith, q))) none;
        frame = λ q. absurd (omega (arith, is, q));
        others = λ nay f. absurd (let clash : end.Done ≡ end.FrameFault = sym done ∙ f in cc);
        unread = λ q. fault;
        read = λ q. absurd (omega (arith, is, q));
        done = λ q. absurd (omega (arith, is, q));
      }

  at_5 : status ≡ 5 → refusal ≡ None → e ≡ end.FrameFault → Facts
  at_5 is none fault =
      record {
        one_of = inr (inr (omega (arith, is), omega (arith, is)));
        is_refused = no_refusal 5 is (λ q. absurd (omega (arith, q))) none;
        frame = λ q. fault;
        others = λ nay f. absurd (nay is);
        unread = λ q. absurd (omega (arith, is, q));
        read = λ q. absurd (omega (arith, is, q));
        done = λ q. absurd (omega (arith, is, q));
      }

  at_67 : (n : ℕ) → status ≡ n → (n ≡ 6) ⊎ (n ≡ 7) → refusal ≡ None → (e ≡ end.FrameFault → ⊥) → Facts
  at_67 n is one none calm =
      record {
        one_of = inr (inr (omega (arith, is, from one), omega (arith, is, to one)));
        is_refused = no_refusal n is (λ q. absurd (omega (arith, q, from one))) none;
        frame = λ q. absurd (omega (arith, is, q, from one));
        others = λ nay. calm;
        unread = λ q. absurd (omega (arith, is, q, from one));
        read = λ q. absurd (omega (arith, is, q, from one));
        done = λ q. absurd (omega (arith, is, q, from one));
      }
    where
      from : (n ≡ 6) ⊎ (n ≡ 7) → 6 ≤ n
      from (inl q) = omega (arith, q)
      from (inr q) = omega (arith, q)

      to : (n ≡ 6) ⊎ (n ≡ 7) → n ≤ 7
      to (inl q) = omega (arith, q)
      to (inr q) = omega (arith, q)

module _ (status : ℕ) (refusal : Option Refusal) (report report' : Bytes) (before now : ℕ) where
  abbrev Spoken : ℕ × Option Stop → Type 0
  Spoken p = Says p.0 p.1 status refusal report report' before now

  facts_told : (came : Result Unit Halt) (u : Unit {0}) → Spoken (end_of_told came) → EndFacts end.Done came (Ok u) (end_of_told came).1 status refusal
  facts_told (Ok v) u says =
      at_0 end.Done (Ok v) (Ok u) None status refusal says.0 says.1 refl refl (λ e. absurd cc) u refl
  facts_told (Err (halt.Refused r)) u says =
      at_2 end.Done (Err (halt.Refused r)) (Ok u) (end_of_told (Err (halt.Refused r))).1 status refusal r says.0 says.1 refl (λ e. absurd cc)
  facts_told (Err halt.ReadFault) u says =
      at_4 end.Done (Err halt.ReadFault) (Ok u) (end_of_told (Err halt.ReadFault)).1 status refusal says.0 says.1 refl refl
  facts_told (Err halt.ReportFault) u says =
      at_67 end.Done (Err halt.ReportFault) (Ok u) None status refusal 6 says.0 (inl refl) says.1 (λ e. absurd cc)
  facts_told (Err halt.Untold) u says =
      at_67 end.Done (Err halt.Untold) (Ok u) (end_of_told (Err halt.Untold)).1 status refusal 7 says.0 (inr refl) says.1 (λ e. absurd cc)
  facts_told (Err halt.Broken) u says =
      at_67 end.Done (Err halt.Broken) (Ok u) (end_of_told (Err halt.Broken)).1 status refusal 7 says.0 (inr refl) says.1 (λ e. absurd cc)

  pub facts_of : (e : PlayEnd) (came told : Result Unit Halt) → Spoken (end_at e came told) → EndFacts e came told (end_at e came told).1 status refusal
  facts_of end.FrameFault came (Ok u) says = at_5 end.FrameFault came (Ok u) (end_at end.FrameFault came (Ok u)).1 status refusal says.0 says.1 refl
  facts_of end.FrameFault came (Err halt.ReportFault) says =
      at_5 end.FrameFault came (Err halt.ReportFault) None status refusal says.0 says.1 refl
  facts_of end.FrameFault came (Err (halt.Refused r)) says =
      at_5 end.FrameFault came (Err (halt.Refused r)) (end_at end.FrameFault came (Err (halt.Refused r))).1 status refusal says.0 says.1 refl
  facts_of end.FrameFault came (Err halt.ReadFault) says =
      at_5 end.FrameFault came (Err halt.ReadFault) (end_at end.FrameFault came (Err halt.ReadFault)).1 status refusal says.0 says.1 refl
  facts_of end.FrameFault came (Err halt.Untold) says =
      at_5 end.FrameFault came (Err halt.Untold) (end_at end.FrameFault came (Err halt.Untold)).1 status refusal says.0 says.1 refl
  facts_of end.FrameFault came (Err halt.Broken) says =
      at_5 end.FrameFault came (Err halt.Broken) (end_at end.FrameFault came (Err halt.Broken)).1 status refusal says.0 says.1 refl
  facts_of end.NoMemory came (Ok u) says =
      at_67 end.NoMemory came (Ok u) (end_at end.NoMemory came (Ok u)).1 status refusal 7 says.0 (inr refl) says.1 (λ e. absurd cc)
  facts_of end.NoMemory came (Err halt.ReportFault) says =
      at_67 end.NoMemory came (Err halt.ReportFault) None status refusal 6 says.0 (inl refl) says.1 (λ e. absurd cc)
  facts_of end.NoMemory came (Err (halt.Refused r)) says =
      at_67 end.NoMemory came (Err (halt.Refused r)) (end_at end.NoMemory came (Err (halt.Refused r))).1 status refusal 7 says.0 (inr refl) says.1 (λ e. absurd cc)
  facts_of end.NoMemory came (Err halt.ReadFault) says =
      at_67 end.NoMemory came (Err halt.ReadFault) (end_at end.NoMemory came (Err halt.ReadFault)).1 status refusal 7 says.0 (inr refl) says.1 (λ e. absurd cc)
  facts_of end.NoMemory came (Err halt.Untold) says =
      at_67 end.NoMemory came (Err halt.Untold) (end_at end.NoMemory came (Err halt.Untold)).1 status refusal 7 says.0 (inr refl) says.1 (λ e. absurd cc)
  facts_of end.NoMemory came (Err halt.Broken) says =
      at_67 end.NoMemory came (Err halt.Broken) (end_at end.NoMemory came (Err halt.Broken)).1 status refusal 7 says.0 (inr refl) says.1 (λ e. absurd cc)
  facts_of end.Done came (Ok u) says = facts_told came u says
  facts_of end.Done came (Err halt.ReportFault) says =
      at_67 end.Done came (Err halt.ReportFault) None status refusal 6 says.0 (inl refl) says.1 (λ e. absurd cc)
  facts_of end.Done came (Err (halt.Refused r)) says =
      at_67 end.Done came (Err (halt.Refused r)) (end_at end.Done came (Err (halt.Refused r))).1 status refusal 7 says.0 (inr refl) says.1 (λ e. absurd cc)
  facts_of end.Done came (Err halt.ReadFault) says =
      at_67 end.Done came (Err halt.ReadFault) (end_at end.Done came (Err halt.ReadFault)).1 status refusal 7 says.0 (inr refl) says.1 (λ e. absurd cc)
  facts_of end.Done came (Err halt.Untold) says =
      at_67 end.Done came (Err halt.Untold) (end_at end.Done came (Err halt.Untold)).1 status refusal 7 says.0 (inr refl) says.1 (λ e. absurd cc)
  facts_of end.Done came (Err halt.Broken) says =
      at_67 end.Done came (Err halt.Broken) (end_at end.Done came (Err halt.Broken)).1 status refusal 7 says.0 (inr refl) says.1 (λ e. absurd cc)

pub status_blames : (e : PlayEnd) (came told : Result Unit Halt) (why : Option Stop) (status : ℕ) (refusal : Option Refusal) (before now : ℕ)
    (at_fault bytes : Bytes) → EndFacts e came told why status refusal → EndBlames e before now at_fault bytes →
    StatusBlames status before now at_fault bytes
status_blames e came told why status refusal before now at_fault bytes facts blames =
    record {
      fault = λ q. blames.fault (facts.frame q);
      last = λ q. blames.last (facts.frame q);
      calm = λ nay. blames.calm (facts.others nay);
    }
