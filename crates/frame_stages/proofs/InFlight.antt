-- What the frames in flight keep as packets come back.
use Rattle.std.proofs.Common.{◌≡◌, ℕ, ◌+◌, ◌<◌, ◌≤◌, List, [], ◌∷◌, ◌++◌, length, take, Option, Some, None, refl, sym, ap, ◌∙◌, subst, arith}
use Rattle.std.proofs.lemmas.List.{append-nil, length_push}
use Rattle.std.specs.Io.KnownBytes.{append_known}
use Rattle.pf_io.specs.Causes.{Rose}
use Rattle.stage_parts.specs.declared.packets.Packet.TheVariants.{Frame, End}
use Rattle.stage_parts.specs.Loads.{LoadState, Each}
use Rattle.stage_parts.specs.Parts.{cut_short}
use Rattle.stage_parts.proofs.Sizes.{each_push}
use Rattle.frame_stages.specs.Flights.{FlightState, SinkSide, HaveFirst, IsInFlight, IsKeptOf, CameBack, CameShort}

module _ (frames written ahead : ℕ) (fault : Option ℕ) (spare : List LoadState) (hold lists stats room : ℕ) where
  -- one more picture was written
  pub more_back : IsInFlight frames written ahead fault spare hold lists stats room → fault ≡ None → written < frames →
      IsInFlight frames (written + 1) ahead fault spare hold lists stats room
  more_back inv whole away =
      let short : cut_short fault ≡ 0 = ap cut_short whole in
      let loads = inv.loads in
      let came = inv.came in
      record {
        back = omega (arith, short, away);
        loads = omega (arith, loads);
        places = inv.places;
        homeward = inv.homeward;
        came = omega (arith, came);
        numbers = inv.numbers;
        settled = inv.settled;
      }

  -- a picture was cut short
  pub cut_back : (n : ℕ) → IsInFlight frames written ahead fault spare hold lists stats room → fault ≡ None → written < frames →
      IsInFlight frames written ahead (Some n) spare hold lists stats room
  cut_back n inv whole away =
      let short : cut_short fault ≡ 0 = ap cut_short whole in
      let loads = inv.loads in
      let came = inv.came in
      let one : cut_short (Some n) ≡ 1 = refl in
      record {
        back = omega (arith, one, away);
        loads = omega (arith, loads, short, one);
        places = inv.places;
        homeward = inv.homeward;
        came = omega (arith, came, short, one);
        numbers = inv.numbers;
        settled = inv.settled;
      }

  -- a load that came back is put in hand, and its numbers are kept
  pub load_kept : (load : LoadState) (spare' : List LoadState) (hold' lists' stats' room' : ℕ) →
      IsInFlight frames written ahead fault spare hold lists stats room → length spare + 1 + frames ≤ ahead + (written + cut_short fault) →
      stats + 1 ≤ written + cut_short fault → HaveFirst load.lists → spare' ≡ spare ++ load ∷ [] → hold' ≡ hold → lists' ≡ lists → stats' ≡ stats + 1 →
      room' + 1 ≡ room → IsInFlight frames written ahead fault spare' hold' lists' stats' room'
  load_kept load spare' hold' lists' stats' room' inv place number first items capacity wide_home long wide =
      let many = ap length items ∙ length_push spare load in
      let places = inv.places in
      let homeward = inv.homeward in
      let numbers = inv.numbers in
      record {
        back = inv.back;
        loads = omega (arith, place, many);
        places = omega (arith, places, capacity);
        homeward = omega (arith, homeward, wide_home);
        came = omega (arith, number, long);
        numbers = omega (arith, numbers, wide, long);
        settled = subst (λ (xs : List LoadState). Each (λ (l : LoadState). HaveFirst l.lists) xs) (sym items)
            (each_push (λ (l : LoadState). HaveFirst l.lists) spare load inv.settled first);
      }

-- the End came back
pub came_end : (old new : FlightState) (sink : SinkSide) → new ≡ record old { written = old.written + 1 } → CameBack End old new sink sink
came_end old new sink is =
    subst (λ (f : FlightState). CameBack End old f sink sink) (sym is)
    (record {
      kept = record { spare = omega arith; home = λ few. sym (append-nil old.home); stats = sym (append-nil old.stats) };
      state = refl;
      wrote = ap (λ (b : Option (List ℕ)). record sink { bytes = b }) (sym (nothing sink.bytes));
    })
  where
    nothing : (b : Option (List ℕ)) → append_known b [] ≡ b
    nothing None = refl
    nothing (Some xs) = ap Some (append-nil xs)

kept_later : (load : LoadState) (old new : FlightState) (written : ℕ) (fault : Option ℕ) →
    IsKeptOf (Frame load) (record old { written = written; fault = fault }) new → IsKeptOf (Frame load) old new
kept_later load old new written fault kept = record { spare = kept.spare; home = kept.home; stats = kept.stats }

-- a load came back, and its picture was wholly written
pub came_whole : (load : LoadState) (old mid new : FlightState) (bytes : List ℕ) (sink sink' : SinkSide) →
    mid ≡ record old { written = old.written + 1 } → IsKeptOf (Frame load) mid new →
    new ≡ record mid { spare = new.spare; home = new.home; stats = new.stats; room = new.room } →
    bytes ≡ load.bytes → sink'.bytes ≡ append_known sink.bytes bytes → sink'.faults ≡ sink.faults → sink'.at_fault ≡ sink.at_fault →
    CameBack (Frame load) old new sink sink'
came_whole load old mid new bytes sink sink' is kept same all wrote calm last =
    record {
      kept = kept_later load old new (old.written + 1) old.fault (subst (λ (f : FlightState). IsKeptOf (Frame load) f new) is kept);
      state = same ∙ ap (λ (f : FlightState). record f { spare = new.spare; home = new.home; stats = new.stats; room = new.room }) is;
      wrote = λ i. record { bytes = (wrote ∙ ap (append_known sink.bytes) all) i; faults = calm i; at_fault = last i };
    }

-- a load came back, and a fault cut its picture short
pub came_cut : (load : LoadState) (old mid new : FlightState) (n : ℕ) (bytes : List ℕ) (sink sink' : SinkSide) →
    mid ≡ record old { fault = Some n } → IsKeptOf (Frame load) mid new →
    new ≡ record mid { spare = new.spare; home = new.home; stats = new.stats; room = new.room } →
    bytes ≡ load.bytes → sink'.bytes ≡ append_known sink.bytes (take n bytes) → Rose sink.faults sink'.faults → sink'.at_fault ≡ sink'.bytes →
    CameShort (Frame load) old new sink sink'
came_cut load old mid new n bytes sink sink' is kept same all wrote rose last =
    record {
      bytes = n;
      kept = kept_later load old new old.written (Some n) (subst (λ (f : FlightState). IsKeptOf (Frame load) f new) is kept);
      state = same ∙ ap (λ (f : FlightState). record f { spare = new.spare; home = new.home; stats = new.stats; room = new.room }) is;
      wrote = wrote ∙ ap (λ (xs : List ℕ). append_known sink.bytes (take n xs)) all;
      rose = rose;
      last = last;
    }
