-- The probe: the way from the application to the cull is as one link, and each Frame went past the probe.
use Rattle.std.proofs.Common.{◌≡◌, ℕ, zero, suc, ◌≤◌, true, false, List, [], length, Option, None, Some, IfSome, IfNone, refl, sym, ap, ◌∙◌, subst, arith}
use Rattle.std.proofs.lemmas.List.{length-map, take_all}
use Rattle.atomic_table.specs.Seated.{TableId}
use Rattle.seat_lock.specs.Log.{of}
use Rattle.seat_lock.proofs.Logs.{of_found}
use Rattle.nearest_hit.specs.declared.found.Near.{Near}
use Rattle.nearest_hit.specs.declared.segment.Segment.{Segment}
use Rattle.pf_model.specs.declared.lines.BaseLine.{BaseLine}
use Rattle.pf_history.specs.declared.commands.Caller.TheVariants.{App}
use Rattle.pf_history.specs.declared.commands.Entry.{Entry}
use Rattle.pf_history.specs.Objects.{opening_state}
use Rattle.pf_history.specs.Logs.{Log, is_by}
use Rattle.pf_history.specs.Cuts.{Cutting, cuttings, found_by_frames}
use Rattle.play_format.specs.Plays.{Script}
use Rattle.stage_parts.specs.declared.packets.Packet.{Packet}
use Rattle.stage_parts.specs.Packets.{loads_in, LinkPart}
use Rattle.stage_parts.specs.States.{Setup, Seats, PipeState}
use Rattle.stage_parts.specs.Pipes.{PipeFits}
use Rattle.stage_parts.specs.Laws.{HasEditsInRange}
use Rattle.stage_parts.proofs.Places.{each_all}
use Rattle.stage_parts.proofs.Founds.{frames_are_all}
use Rattle.stage_parts.proofs.Numbers.{own_by_number}
use Rattle.stage_parts.proofs.Counting.{are_many, counting_law}
use Rattle.isect_stage.specs.Asking.{nearest_in_state, nearest_hits}
use Rattle.isect_stage.specs.Laws.{ApplicationLaw, LinksLaw}
use Rattle.stream_stages.specs.WholeFrames.{WholeFramesLaw}
use Rattle.pipe_plays.specs.declared.played.PlayEnd.{PlayEnd}
use Rattle.pipe_plays.specs.declared.played.PlayEnd.TheVariants as ends
use Rattle.pipe_plays.specs.Plays.{setup_of, CanRun}
use Rattle.pipe_plays.specs.Laws.{ShownLaw}
use Rattle.mode_hosts.specs.Sites.{WaySite, IfThere}
use Rattle.mode_hosts.specs.Gathering.{own_seats}
use Rattle.mode_hosts.specs.AnySeats.{pipe_around}
use Rattle.mode_hosts.specs.Probes.{AllSites, CameOver, AreAllTogether, WayKeeps, AllKeep, AllCameHome, answers_of, has_failed}
use Rattle.mode_hosts.specs.Plays.{IsProbed}
use Rattle.mode_hosts.proofs.Gathers.{AreHome, have_pipe}
use Rattle.mode_hosts.proofs.Passing.{loads_below, past_both}

-- The seats that came home

-- the log has no entries of the probe's number, nor of those beyond
within_four : (log : Log) → of 4 log ≡ [] → ((k : ℕ) → 5 ≤ k → of k log ≡ []) → (k : ℕ) → 4 ≤ k → of k log ≡ []
within_four log none within zero more = absurd (omega (arith, more))
within_four log none within (suc zero) more = absurd (omega (arith, more))
within_four log none within (suc (suc zero)) more = absurd (omega (arith, more))
within_four log none within (suc (suc (suc zero))) more = absurd (omega (arith, more))
within_four log none within (suc (suc (suc (suc zero)))) more = none
within_four log none within (suc (suc (suc (suc (suc k))))) more = within (suc (suc (suc (suc (suc k))))) (omega arith)

-- the way from the application to the cull is as one link
one_link : LinksLaw → (probe : Option Segment) (sent : List Packet) (way : Option WaySite) (taken : List Packet) → IfThere WayKeeps probe way →
    CameOver sent way taken → LinkPart sent taken
one_link law None sent None taken keeps over = over
one_link law None sent (Some way) taken keeps over = absurd keeps
one_link law (Some segment) sent None taken keeps over = absurd keeps
one_link law (Some segment) sent (Some way) taken keeps over = law way.work sent way.taken way.sent taken over.0 keeps.keeps over.1

pub four_home : LinksLaw → (g : Setup) (lines : List BaseLine) (probe : Option Segment) (lock : TableId) (s : AllSites) (log : Log)
    (bytes bytes' : Option (List ℕ)) → AreAllTogether lock s → AllKeep g lines probe s bytes bytes' → AllCameHome s log → AreHome lock s.four log
four_home law g lines probe lock s log bytes bytes' together keeps home =
    let none : of 4 s.probe.place.seen ≡ [] =
    subst (λ (k : ℕ). of k s.probe.place.seen ≡ []) together.probe.number keeps.probe.own in
    record {
      desks = together.desks;
      home = record {
        legal = home.legal;
        within = within_four log (of_found 4 s.probe.place.seen log home.probe ∙ none) home.within;
        app = home.app;
        cull = home.cull;
        draw = home.draw;
        dbase = home.dbase;
        link_a = one_link law probe s.four.app.sent s.probe.way s.four.cull.taken keeps.probe.way home.link_a;
        link_b = home.link_b;
        link_c = home.link_c;
      };
      linked = together.pieces;
      pieces = home.pieces;
    }

-- The answers of a probe

module _ (g : Setup) (dbase : List BaseLine) (seats : Seats) (p : PipeState) (fits : PipeFits g dbase seats p) (a_taken : List Packet)
    (past : length p.c.sent ≤ length (loads_in a_taken)) where
  -- once the application has closed, a load of each Frame came to the cull
  all_past : p.app.closed ≡ true → p.app.frames ≤ length (loads_in a_taken)
  all_past closed =
      let many = are_many g dbase seats p fits in
      let back = (counting_law g dbase seats p fits).ends.back closed in
      omega (arith, back, many.c_taken, past)

  -- there is a nearest hit, or none, for each Frame
  hits_many : (segment : Segment) → length (nearest_hits g.channels segment p.log) ≡ p.app.frames
  hits_many segment =
      let frames = cuttings [] (opening_state g.channels) p.log in
      let all = frames_are_all seats.app [] (opening_state g.channels) p.log fits.history.legal
      (each_all (λ (e : ℕ × Entry). is_by App e ≡ true → e.0 ≡ seats.app) p.log fits.history.app_entries) in
      length-map (found_by_frames g.channels p.log) (nearest_in_state segment) ∙ length-map frames (λ (c : Cutting). c.found)
      ∙ sym (fits.app.frames ∙ ap length all)

  -- so a probe between the application and the cull, to which memory did not run out, has answered for each Frame
  all_answered : ApplicationLaw → HasEditsInRange p.log → p.app.closed ≡ true → (segment : Segment) (way : WaySite) → WayKeeps segment way →
      CameOver p.a.sent (Some way) a_taken → way.work.failed ≡ false → way.work.isect.answers ≡ nearest_hits g.channels segment p.log
  all_answered law fit closed segment way keeps over whole =
      let own = own_by_number seats.app (opening_state g.channels) p.log fits.history.legal fits.history.app_entries in
      let asked = law g seats.app p.app p.log way.work p.a.sent way.taken way.sent fit own fits.app over.0 keeps.keeps whole in
      let all = all_past closed in
      let through = loads_below way.sent a_taken way.work.held over.1 in
      let passes = ap (λ (ps : List Packet). length (loads_in ps)) keeps.keeps.passes in
      let many = hits_many way.work.isect.segment in
      asked.front
      ∙ take_all (length (loads_in way.taken)) (nearest_hits g.channels way.work.isect.segment p.log) (omega (arith, all, through, passes, many))
      ∙ ap (λ (s : Segment). nearest_hits g.channels s p.log) keeps.segment

-- What a play leaves of its probe

pub none_of : {A : Type 0} (o : Option A) {P : Type 0} → P → IfNone o P
none_of None p = p
none_of (Some x) p = tt

-- where all was played, the answers of the probe are those of the segment, where there is one
hits_of : (channels : ℕ) (log : Log) (probes : List (Option Near)) (sent taken : List Packet) (probe : Option Segment) (way : Option WaySite) →
    IfThere WayKeeps probe way → CameOver sent way taken → has_failed way ≡ false → probes ≡ answers_of way →
    ((segment : Segment) (w : WaySite) → WayKeeps segment w → CameOver sent (Some w) taken → w.work.failed ≡ false →
    w.work.isect.answers ≡ nearest_hits channels segment log) →
    IfSome probe (λ segment. probes ≡ nearest_hits channels segment log)
hits_of channels log probes sent taken None way keeps over whole is all = tt
hits_of channels log probes sent taken (Some segment) None keeps over whole is all = absurd keeps
hits_of channels log probes sent taken (Some segment) (Some way) keeps over whole is all = is ∙ all segment way keeps over whole

-- without a segment there are no answers, whatever the end
no_hits : (probes : List (Option Near)) (end : PlayEnd) (probe : Option Segment) (way : Option WaySite) → IfThere WayKeeps probe way →
    (end ≡ ends.Done → probes ≡ answers_of way) → ((end ≡ ends.Done → ⊥) → probes ≡ []) → IfNone probe (probes ≡ [])
no_hits probes end (Some segment) way keeps done early = tt
no_hits probes end None (Some way) keeps done early = absurd keeps
no_hits probes ends.Done None None keeps done early = done refl
no_hits probes ends.FrameFault None None keeps done early = early (λ is. absurd (let clash : ends.FrameFault ≡ ends.Done = is in cc))
no_hits probes ends.NoMemory None None keeps done early = early (λ is. absurd (let clash : ends.NoMemory ≡ ends.Done = is in cc))

-- The application has ended, and memory did not run out for the probe.
pub record HaveAnswered (s : AllSites) (probes : List (Option Near)) : Type 0 where
  pub app : s.four.app.work.state.ended ≡ true
  pub whole : has_failed s.probe.way ≡ false
  pub answers : probes ≡ answers_of s.probe.way

pub probed : ShownLaw → WholeFramesLaw → ApplicationLaw → LinksLaw → (play : Script) (ahead : ℕ) (probe : Option Segment) (lock : TableId)
    (s : AllSites) (end : PlayEnd) (log : Log) (probes : List (Option Near)) (bytes bytes' : Option (List ℕ)) → CanRun play ahead →
    AreAllTogether lock s → AllKeep (setup_of play ahead) play.dbase probe s bytes bytes' → AllCameHome s log →
    (end ≡ ends.Done → HaveAnswered s probes) → ((end ≡ ends.Done → ⊥) → probes ≡ []) → IsProbed play.channels probe end log probes
probed shown whole law links play ahead probe lock s end log probes bytes bytes' can together keeps home done early =
    let g = setup_of play ahead in
    let four = four_home links g play.dbase probe lock s log bytes bytes' together keeps home in
    let pipe = have_pipe whole play ahead lock s.four log bytes bytes' can keeps.four four in
    let p = pipe_around play.dbase s.four pipe.between log pipe.stream in
    let fit = (shown play ahead own_seats p can pipe.fits).now.in_range in
    let past = past_both s.four.cull.work s.four.draw.work s.four.cull.taken s.four.cull.sent s.four.draw.taken s.four.draw.sent
    keeps.four.cull.keeps keeps.four.draw.keeps home.link_b in
    record {
      all = λ is.
          let have = done is in
          let closed = (counting_law g play.dbase own_seats p pipe.fits).ends.app have.app in
          hits_of play.channels log probes s.four.app.sent s.four.cull.taken probe s.probe.way keeps.probe.way home.link_a have.whole have.answers
          (all_answered g play.dbase own_seats p pipe.fits s.four.cull.taken past law fit closed);
      none = no_hits probes end probe s.probe.way keeps.probe.way (λ is. (done is).answers) early;
      early = early;
    }
