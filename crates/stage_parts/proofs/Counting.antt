-- How the packets of a pipe are counted: the room of the links, the End, and what has come back.
use Rattle.std.proofs.Common.{◌≡◌, ℕ, ◌+◌, ◌≤◌, Bool, true, false, ◌||◌, List, [], ◌∷◌, ◌++◌, map, take, drop, length, min, Option, Some, refl, sym, ap, ◌∙◌, arith}
use Rattle.std.proofs.lemmas.List.{length-append, length-map, length-take, length_push, take-append-drop}
use Rattle.std.specs.List.{list_any}
use Rattle.std.specs.Option.{option_to_list}
use Rattle.pf_model.specs.declared.lines.BaseLine.{BaseLine}
use Rattle.pf_model.specs.Graphs.{empty_scene}
use Rattle.pf_history.specs.Cuts.{Cutting}
use Rattle.stage_parts.specs.declared.packets.Packet.{Packet}
use Rattle.stage_parts.specs.declared.packets.Packet.TheVariants.{Frame, End}
use Rattle.stage_parts.specs.Loads.{LoadState}
use Rattle.stage_parts.specs.Packets.{is_end, has_end, loads_in, LinkPart}
use Rattle.stage_parts.specs.Frames.{frames_of, cut_of_frame}
use Rattle.stage_parts.specs.States.{Setup, Seats, PipeState}
use Rattle.stage_parts.specs.Parts.{sent_and_held, end_once, cut_short, carried, kept}
use Rattle.stage_parts.specs.Pipes.{PipeFits}
use Rattle.stage_parts.specs.Gathering.{StateAgrees, LinksHaveRoom, EndsFollow, IsDrained, AllCameBack, CountingLaw}
use Rattle.stage_parts.proofs.Places.{front_of}
use Rattle.stage_parts.proofs.Sent.{sent_load, many_loads}
use Rattle.stage_parts.proofs.Streams.{frames_begun, last_is_retired}
use Rattle.stage_parts.proofs.Pushes.{passed_bare, passed_on_length}

-- Numbers of packets

front_length : {X : Type 0} (xs ys : List X) → xs ≡ take (length xs) ys → length xs ≤ length ys
front_length xs ys front =
    let short : length xs ≡ min (length xs) (length ys) = ap length front ∙ length-take (length xs) ys in
    grind (arith, short)

fewer_loads : (ps : List Packet) → length (loads_in ps) ≤ length ps
fewer_loads [] = omega arith
fewer_loads (Frame l ∷ ps) = let rest = fewer_loads ps in omega (arith, rest)
fewer_loads (End ∷ ps) = let rest = fewer_loads ps in omega (arith, rest)

one_end : (closed : Bool) → length (end_once closed) ≤ 1
one_end true = omega arith
one_end false = omega arith

held_one : (sent : List Packet) (held : Option Packet) (p : Packet) → held ≡ Some p → length (sent_and_held sent held) ≡ length sent + 1
held_one sent held p is = ap (λ (h : Option Packet). length (sent_and_held sent h)) is ∙ length_push sent p

pub held_some : (sent : List Packet) (held : Option Packet) → length sent ≤ length (sent_and_held sent held)
held_some sent held = let long = length-append sent (option_to_list held) in omega (arith, long)

-- How many packets and loads are where.
pub record AreMany (g : Setup) (s : PipeState) : Type 0 where
  pub a : length (sent_and_held s.a.sent s.app.held) ≤ s.app.frames + 1
  pub a_taken : length s.a.taken ≤ length s.a.sent
  pub b : length (sent_and_held s.b.sent s.cull.held) ≡ length s.a.taken
  pub b_taken : length s.b.taken ≤ length s.b.sent
  pub c : length (sent_and_held s.c.sent s.draw.held) ≡ length (loads_in s.b.taken)
  pub c_taken : length s.c.taken ≤ length s.c.sent
  pub all_loads : length (loads_in (sent_and_held s.a.sent s.app.held)) ≡ s.app.frames
  pub b_loads : length (loads_in (sent_and_held s.b.sent s.cull.held)) ≡ length (loads_in s.a.taken)
  pub loads : length (loads_in s.b.taken) ≤ s.app.frames

pub are_many : (g : Setup) (dbase : List BaseLine) (seats : Seats) (s : PipeState) → PipeFits g dbase seats s → AreMany g s
are_many g dbase seats s fits =
    let frames = frames_of g.channels seats.app s.log in
    let sent_a = sent_and_held s.a.sent s.app.held in
    let sent_b = sent_and_held s.b.sent s.cull.held in
    let sent_c = sent_and_held s.c.sent s.draw.held in
    let long : length sent_a ≡ length frames + length (end_once s.app.closed) =
    sym (length-map sent_a is_end) ∙ ap length fits.app.ends ∙ length-append (map (λ (_ : Cutting). false) frames) (end_once s.app.closed)
    ∙ ap (λ n. n + length (end_once s.app.closed)) (length-map frames (λ (_ : Cutting). false)) in
    let one = one_end s.app.closed in
    let all : length (loads_in sent_a) ≡ s.app.frames =
    sym (length-map (loads_in sent_a) (λ (l : LoadState). l.cut)) ∙ ap length fits.app.cuts ∙ length-map frames cut_of_frame
    ∙ sym fits.app.frames in
    let culled : length (loads_in sent_b) ≡ length (loads_in s.a.taken) =
    sym (length-map (loads_in sent_b) carried) ∙ ap length fits.cull.loads ∙ passed_on_length empty_scene.nodes (loads_in s.a.taken) in
    let below_a =
    front_length (loads_in s.a.taken) (loads_in sent_a)
    (front_of (loads_in s.a.taken) (loads_in sent_a) (sent_load s.a.sent s.a.taken s.app.held fits.link_a)) in
    let below_b =
    front_length (loads_in s.b.taken) (loads_in sent_b)
    (front_of (loads_in s.b.taken) (loads_in sent_b) (sent_load s.b.sent s.b.taken s.cull.held fits.link_b)) in
    record {
      a = omega (arith, long, one, fits.app.frames);
      a_taken = front_length s.a.taken s.a.sent fits.link_a.front;
      b = sym (length-map sent_b is_end) ∙ ap length fits.cull.ends ∙ length-map s.a.taken is_end;
      b_taken = front_length s.b.taken s.b.sent fits.link_b.front;
      c =
          sym (many_loads sent_c fits.draw.ends) ∙ sym (length-map (loads_in sent_c) kept) ∙ ap length fits.draw.loads
          ∙ length-map (loads_in s.b.taken) kept;
      c_taken = front_length s.c.taken s.c.sent fits.link_c.front;
      all_loads = all;
      b_loads = culled;
      loads = omega (arith, all, culled, below_a, below_b);
    }

rooms : (g : Setup) (dbase : List BaseLine) (seats : Seats) (s : PipeState) → PipeFits g dbase seats s → LinksHaveRoom g s
rooms g dbase seats s fits =
    let many = are_many g dbase seats s fits in
    let few = fewer_loads s.b.taken in
    let some_a = held_some s.a.sent s.app.held in
    let some_b = held_some s.b.sent s.cull.held in
    let some_c = held_some s.c.sent s.draw.held in
    record {
      a = λ p held.
          let one = held_one s.a.sent s.app.held p held in
          omega (
            arith,
            one,
            many.a,
            fits.stream.in_flight,
            fits.stream.all,
            many.c_taken,
            some_c,
            many.c,
            few,
            many.b_taken,
            some_b,
            many.b,
          );
      b = λ p held.
          let one = held_one s.b.sent s.cull.held p held in
          omega (
            arith,
            one,
            many.b,
            many.a_taken,
            some_a,
            many.a,
            fits.stream.in_flight,
            fits.stream.all,
            many.c_taken,
            some_c,
            many.c,
            few,
          );
      c = λ p held.
          let one = held_one s.c.sent s.draw.held p held in
          omega (arith, one, many.c, many.loads, fits.stream.in_flight, fits.stream.all);
    }

-- The End

-- whether a flag is set
abbrev any_set : List Bool → Bool
any_set flags = list_any (λ t. t) flags

ends_set : (ps : List Packet) → has_end ps ≡ any_set (map is_end ps)
ends_set [] = refl
ends_set (p ∷ ps) = ap (λ t. is_end p || t) (ends_set ps)

set_behind : (xs ys : List Bool) → any_set xs ≡ true → any_set (xs ++ ys) ≡ true
set_behind [] ys h = absurd (cc)
set_behind (true ∷ xs) ys h = refl
set_behind (false ∷ xs) ys h = set_behind xs ys h

none_before : (frames : List Cutting) (closed : Bool) → any_set (map (λ _. false) frames ++ end_once closed) ≡ closed
none_before [] true = refl
none_before [] false = refl
none_before (c ∷ frames) closed = none_before frames closed

end_later : (ps qs : List Packet) → has_end ps ≡ true → has_end (ps ++ qs) ≡ true
end_later [] qs h = absurd (cc)
end_later (p ∷ ps) qs h = by (is_end p) h (end_later ps qs)
  where
    by : (t : Bool) → (t || has_end ps) ≡ true → (has_end ps ≡ true → has_end (ps ++ qs) ≡ true) → (t || has_end (ps ++ qs)) ≡ true
    by true is rest = refl
    by false is rest = rest is

end_of_front : (n : ℕ) (ps : List Packet) → has_end (take n ps) ≡ true → has_end ps ≡ true
end_of_front n ps h = ap has_end (sym (take-append-drop n ps)) ∙ end_later (take n ps) (drop n ps) h

end_sent : (sent taken : List Packet) → LinkPart sent taken → has_end taken ≡ true → has_end sent ≡ true
end_sent sent taken link h = end_of_front (length taken) sent (ap has_end (sym link.front) ∙ h)

ends_follow : (g : Setup) (dbase : List BaseLine) (seats : Seats) (s : PipeState) → PipeFits g dbase seats s → EndsFollow s
ends_follow g dbase seats s fits =
    record {
      app = λ ended.
          sym (ends_set (sent_and_held s.a.sent s.app.held) ∙ ap any_set fits.app.ends
          ∙ none_before (frames_of g.channels seats.app s.log) s.app.closed)
          ∙ end_later s.a.sent (option_to_list s.app.held) (sym fits.app.ended ∙ ended);
      cull = λ ended.
          fits.app.ended
          ∙ end_sent s.a.sent s.a.taken fits.link_a
          (ends_set s.a.taken ∙ ap any_set (sym fits.cull.ends) ∙ sym (ends_set (sent_and_held s.b.sent s.cull.held))
          ∙ end_later s.b.sent (option_to_list s.cull.held) (sym fits.cull.ended ∙ ended));
      draw = λ ended. fits.cull.ended ∙ end_sent s.b.sent s.b.taken fits.link_b (sym fits.draw.ended ∙ ended);
      back = λ closed. let late = fits.app.late closed in omega (arith, late, fits.stream.all, fits.stream.begun);
    }

all_back : (g : Setup) (dbase : List BaseLine) (seats : Seats) (s : PipeState) → PipeFits g dbase seats s → IsDrained s → AllCameBack s
all_back g dbase seats s fits is =
    let many = are_many g dbase seats s fits in
    let sent_a = passed_bare s.a.sent s.app.held is.app_held in
    let sent_b = passed_bare s.b.sent s.cull.held is.cull_held in
    let sent_c = passed_bare s.c.sent s.draw.held is.draw_held in
    let app : has_end s.a.sent ≡ s.app.closed =
    ap has_end (sym sent_a) ∙ ends_set (sent_and_held s.a.sent s.app.held) ∙ ap any_set fits.app.ends
    ∙ none_before (frames_of g.channels seats.app s.log) s.app.closed in
    let cull : has_end s.b.sent ≡ s.app.closed =
    ap has_end (sym sent_b) ∙ ends_set (sent_and_held s.b.sent s.cull.held) ∙ ap any_set fits.cull.ends ∙ sym (ends_set s.a.taken)
    ∙ ap has_end is.a ∙ app in
    let back : length s.c.taken ≡ s.app.frames =
    ap length is.c ∙ ap length (sym sent_c) ∙ many.c ∙ ap (λ (ps : List Packet). length (loads_in ps)) (is.b ∙ sym sent_b)
    ∙ many.b_loads
    ∙ ap (λ (ps : List Packet). length (loads_in ps)) (is.a ∙ sym sent_a) ∙ many.all_loads in
    record {
      back = back;
      written = λ whole. let short : cut_short s.app.fault ≡ 0 = ap cut_short whole in omega (arith, back, fits.stream.all, short);
      app = fits.app.ended ∙ app;
      cull = fits.cull.ended ∙ cull;
      draw = fits.draw.ended ∙ ap has_end is.b ∙ cull;
    }

state_agrees : (g : Setup) (dbase : List BaseLine) (seats : Seats) (s : PipeState) → PipeFits g dbase seats s → StateAgrees g seats s
state_agrees g dbase seats s fits =
    let begun = frames_begun g dbase seats s fits in
    let retired = last_is_retired g dbase seats s fits in
    record {
      frames = sym begun;
      retired = sym retired;
      room = λ synced. let fresh = fits.app.fresh synced in omega (arith, fresh, begun, retired);
    }

pub counting_law : CountingLaw
counting_law g dbase seats s fits =
    record {
      state = state_agrees g dbase seats s fits;
      room = rooms g dbase seats s fits;
      ends = ends_follow g dbase seats s fits;
      drained = all_back g dbase seats s fits;
    }
