-- Lines are given to the application.
use Rattle.std.proofs.Common.{◌≡◌, ℕ, ◌+◌, ◌≤◌, Bool, false, List, [], ◌∷◌, ◌++◌, map, drop, length, refl, sym, ap, ◌∙◌, subst, arith, OnOk, Result, Ok, Err}
use Rattle.std.proofs.lemmas.List.{append-nil, length-append, map-append, drop-append-le, drop-map}
use Rattle.pf_model.specs.declared.lines.AppLine.{AppLine}
use Rattle.pf_model.specs.declared.lines.AppStep.{AppStep}
use Rattle.pf_history.specs.Logs.{Log}
use Rattle.stage_parts.specs.declared.packets.Packet.{Packet}
use Rattle.stage_parts.specs.States.{Setup, AppState}
use Rattle.stage_parts.specs.Parts.{AppKeeps}
use Rattle.stage_parts.specs.Grows.{synced_by, StandsInApp, with_lines}
use Rattle.stage_parts.proofs.AsksMore.{synced_more}
use Rattle.stage_parts.proofs.Growing.{app_grows_law}
use Rattle.frame_stages.specs.declared.application.Application.{Application}
use Rattle.frame_stages.specs.AppWorks.{AppWork, work_of, more_work, IsGiven}
use Rattle.frame_stages.proofs.AppAsks.{steps}

-- what holds where a call succeeds
pub on_ok : {X E : Type 0} (r : Result X E) (P Q : Type 0) → (P → Q) → OnOk r P → OnOk r Q
on_ok (Ok x) P Q goes p = goes p
on_ok (Err e) P Q goes p = tt

-- by what it was given it stands in its section
pub stands_given : (g : Setup) (w : AppWork) → IsGiven g w → StandsInApp g.lines w.state
stands_given g w given =
    record {
      within = given.within;
      synced = ap (synced_by w.state.synced)
          (drop-map (λ (l : AppLine). l.step) w.state.at g.lines ∙ ap steps (sym given.rest)) ∙ given.stands;
    }

-- it was given more lines
given_more : (g : Setup) (w : AppWork) (more : List AppLine) → IsGiven g w →
    IsGiven (with_lines g more g.merges) (more_work more w.merges w)
given_more g w more given =
    let long = length-append g.lines more in
    let within = given.within in
    record {
      within = omega (arith, within, long);
      rest = ap (λ (ls : List AppLine). ls ++ more) given.rest ∙ sym (drop-append-le w.state.at g.lines more within);
      merges = given.merges;
      lens = given.lens;
      back = given.back;
      ahead = given.ahead;
      channels = given.channels;
      stands =
          ap (synced_by w.state.synced) (map-append (λ (l : AppLine). l.step) w.rest more)
          ∙ synced_more w.state.synced (steps w.rest) (steps more)
          ∙ ap (λ (t : Bool). synced_by t (steps more)) given.stands
          ∙ sym (synced_more false (steps g.lines) (steps more))
          ∙ ap (synced_by false) (sym (map-append (λ (l : AppLine). l.step) g.lines more));
    }

-- a line was put behind those left
abbrev pub put : AppLine → Application → Application
put line a = record a { script = record a.script { rest = a.script.rest ++ line ∷ [] } }

pub line_given : {X E : Type 0} (r : Result X E) (a a' : Application) (w : AppWork) (line : AppLine) → work_of a ≡ w → OnOk r (a' ≡ put line a) →
    OnOk r ((g : Setup) → IsGiven g w → IsGiven (with_lines g (line ∷ []) g.merges) (work_of a'))
line_given r a a' w line view is =
    on_ok r (a' ≡ put line a) ((g : Setup) → IsGiven g w → IsGiven (with_lines g (line ∷ []) g.merges) (work_of a'))
    (λ same g given.
    subst (λ (x : Application). IsGiven (with_lines g (line ∷ []) g.merges) (work_of x)) (sym same)
    (given_more g (work_of a) (line ∷ []) (subst (IsGiven g) (sym view) given))) is

pub line_kept : {X E : Type 0} (r : Result X E) (a a' : Application) (w : AppWork) (line : AppLine) → work_of a ≡ w → w.state.closed ≡ false →
    OnOk r (a' ≡ put line a) →
    OnOk r ((g : Setup) (seat : ℕ) (log : Log) (taken sent : List Packet) (stream : List ℕ) → IsGiven g w →
    AppKeeps g seat w.state log taken sent stream →
    AppKeeps (with_lines g (line ∷ []) g.merges) seat (work_of a').state log taken sent stream)
line_kept r a a' w line view going is =
    on_ok r (a' ≡ put line a)
    ((g : Setup) (seat : ℕ) (log : Log) (taken sent : List Packet) (stream : List ℕ) → IsGiven g w →
    AppKeeps g seat w.state log taken sent stream →
    AppKeeps (with_lines g (line ∷ []) g.merges) seat (work_of a').state log taken sent stream)
    (λ same g seat log taken sent stream given keeps.
    subst (λ (s : AppState). AppKeeps (with_lines g (line ∷ []) g.merges) seat s log taken sent stream)
    (sym (ap (λ (x : Application). (work_of x).state) same ∙ ap (λ (v : AppWork). v.state) view))
    (app_grows_law g seat w.state log taken sent stream (line ∷ []) g.merges going (stands_given g w given) keeps).keeps) is

-- the number of the play's merges was noted
pub merges_given : (a : Application) (w : AppWork) (merges : ℕ) → work_of a ≡ w → (g : Setup) → IsGiven g w →
    IsGiven (record g { merges = merges }) (work_of (record a { merges = merges }))
merges_given a w merges view g given =
    let is = subst (IsGiven g) (sym view) given in
    record {
      within = is.within;
      rest = is.rest;
      merges = refl;
      lens = is.lens;
      back = is.back;
      ahead = is.ahead;
      channels = is.channels;
      stands = is.stands;
    }

pub merges_kept : (a : Application) (w : AppWork) (merges : ℕ) → work_of a ≡ w → w.state.closed ≡ false →
    (g : Setup) (seat : ℕ) (log : Log) (taken sent : List Packet) (stream : List ℕ) → IsGiven g w →
    AppKeeps g seat w.state log taken sent stream →
    AppKeeps (record g { merges = merges }) seat (work_of (record a { merges = merges })).state log taken sent stream
merges_kept a w merges view going g seat log taken sent stream given keeps =
    subst (λ (s : AppState). AppKeeps (record g { merges = merges }) seat s log taken sent stream) (sym (ap (λ (v : AppWork). v.state) view))
    (subst (λ (ls : List AppLine). AppKeeps (record g { lines = ls; merges = merges }) seat w.state log taken sent stream) (append-nil g.lines)
    (app_grows_law g seat w.state log taken sent stream [] merges going (stands_given g w given) keeps).keeps)
