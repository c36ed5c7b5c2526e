-- The stage between two links, and behind the application.
use Rattle.std.proofs.Common.{◌≡◌, ◌∙◌, ℕ, zero, suc, Bool, true, false, ◌&&◌, if◌then◌else◌, List, [], ◌∷◌, ◌++◌, map, take, drop, length, refl, sym, ap, subst, arith, append_assoc}
use Rattle.std.proofs.lemmas.List.{take-append-drop, take_all, length-map}
use Rattle.std.specs.Option.{option_to_list}
use Rattle.pf_history.specs.declared.commands.Caller.TheVariants.{App}
use Rattle.pf_history.specs.Objects.{FrameState, opening_state, next_state}
use Rattle.pf_history.specs.Commands.{is_frame}
use Rattle.pf_history.specs.Logs.{Log}
use Rattle.pf_history.specs.Asks.{is_at}
use Rattle.pf_history.specs.Cuts.{names, Cutting, cuttings, marks_after}
use Rattle.pf_model.specs.Copies.{put_all}
use Rattle.stage_parts.specs.declared.packets.Packet.{Packet}
use Rattle.stage_parts.specs.declared.packets.Packet.TheVariants.{Frame, End}
use Rattle.stage_parts.specs.Loads.{LoadState}
use Rattle.stage_parts.specs.Packets.{is_end, has_end, loads_in, LinkPart}
use Rattle.stage_parts.specs.Frames.{frames_from, frames_of, cut_of_frame, AreOwnFrames}
use Rattle.stage_parts.specs.States.{Setup, AppState}
use Rattle.stage_parts.specs.Parts.{sent_and_held, end_once, AppPart}
use Rattle.stage_parts.proofs.Sent.{sent_load}
use Rattle.isect_stage.specs.Asking.{HasEditsInRange, question_of, nearest_hits}
use Rattle.isect_stage.specs.Probing.{ProbeWork, question_in, questions_of, ProbeKeeps}
use Rattle.isect_stage.specs.Laws.{NearestHitsLaw, ApplicationLaw, LinksLaw}
use Rattle.isect_stage.proofs.Places.{front_of, map_take, map_map}
use Rattle.isect_stage.proofs.Histories.{answers_of_history}

-- Two links

front_again : (xs ys : List Packet) → take (length xs) (xs ++ ys) ≡ xs
front_again [] ys = refl
front_again (x ∷ xs) ys = ap (λ zs. x ∷ zs) (front_again xs ys)

-- what follows what was received
rest_of : (sent taken : List Packet) → LinkPart sent taken → sent ≡ taken ++ drop (length taken) sent
rest_of sent taken link =
    sym (take-append-drop (length taken) sent) ∙ ap (λ (ps : List Packet). ps ++ drop (length taken) sent) (sym link.front)

link_of : (sent taken rest : List Packet) → sent ≡ taken ++ rest → LinkPart sent taken
link_of sent taken rest is = record { front = sym (ap (take (length taken)) is ∙ front_again taken rest) }

pub links_law : LinksLaw
links_law w given taken sent received before keeps behind =
    let held = option_to_list w.held in
    let late = drop (length received) sent in
    let later = drop (length taken) given in
    link_of given received ((late ++ held) ++ later)
    (rest_of given taken before ∙ ap (λ (ps : List Packet). ps ++ later) (sym keeps.passes)
    ∙ ap (λ (ps : List Packet). (ps ++ held) ++ later) (rest_of sent received behind)
    ∙ ap (λ (ps : List Packet). ps ++ later) (append_assoc received late held)
    ∙ append_assoc received (late ++ held) later)

-- The Frames of one seat

-- where all Frames are a seat's, its Frames are all Frames
own_frames_are_all : (seat : ℕ) (ids : List ℕ) (s : FrameState) (log : Log) → AreOwnFrames seat log → frames_from seat ids s log ≡ cuttings ids s log
own_frames_are_all seat ids s [] own = refl
own_frames_are_all seat ids s (e ∷ es) own =
    by (is_frame e.1.command) (is_at seat App e) own.0
    (own_frames_are_all seat (marks_after ids s e.1.command) (next_state s e.1.command) es own.1)
  where
    here : Cutting
    here = record { ids = ids; found = s }

    rest : List Cutting
    rest = frames_from seat (marks_after ids s e.1.command) (next_state s e.1.command) es

    by : (t u : Bool) → (t ≡ true → u ≡ true) → rest ≡ cuttings (if t then [] else put_all (names s e.1.command) ids) (next_state s e.1.command) es →
        (if t && u then here ∷ rest else rest)
        ≡ (if t then here ∷ cuttings [] (next_state s e.1.command) es
        else cuttings (put_all (names s e.1.command) ids) (next_state s e.1.command) es)
    by true true is same = ap (λ cs. here ∷ cs) same
    by true false is same = absurd (let not = is refl in cc)
    by false u is same = same

-- the questions of loads with the first cuts of Frames are the first questions of these Frames
first_questions : (loads : List LoadState) (frames : List Cutting) → map (λ l. l.cut) loads ≡ take (length loads) (map cut_of_frame frames) →
    questions_of loads ≡ take (length (questions_of loads)) (map question_of frames)
first_questions loads frames cuts =
    let many : length (questions_of loads) ≡ length loads = length-map loads (λ (l : LoadState). question_in l.cut) in
    sym (map_map (λ (l : LoadState). l.cut) question_in loads) ∙ ap (map question_in) cuts
    ∙ map_take question_in (length loads) (map cut_of_frame frames)
    ∙ ap (take (length loads)) (map_map cut_of_frame question_in frames)
    ∙ ap (λ (n : ℕ). take n (map question_of frames)) (sym many)

-- the answers after the first cuts of a history's Frames
first_answers : (channels seat : ℕ) (log : Log) (w : ProbeWork) (taken sent : List Packet) → HasEditsInRange log → AreOwnFrames seat log →
    map (λ l. l.cut) (loads_in taken) ≡ take (length (loads_in taken)) (map cut_of_frame (frames_of channels seat log)) →
    ProbeKeeps w taken sent → w.failed ≡ false →
    w.isect.answers ≡ take (length (loads_in taken)) (nearest_hits channels w.isect.segment log)
first_answers channels seat log w taken sent fit own cuts keeps whole =
    let loads = loads_in taken in
    let all = own_frames_are_all seat [] (opening_state channels) log own in
    let frames = cuttings [] (opening_state channels) log in
    let front = first_questions loads frames (cuts ∙ ap (λ (cs : List Cutting). take (length loads) (map cut_of_frame cs)) all) in
    answers_of_history channels log w.isect (questions_of loads) fit front (keeps.asked whole)
    ∙ ap (λ (n : ℕ). take n (nearest_hits channels w.isect.segment log)) (length-map loads (λ (l : LoadState). question_in l.cut))

many_hits : (channels seat : ℕ) (log : Log) (w : ProbeWork) → AreOwnFrames seat log →
    length (nearest_hits channels w.isect.segment log) ≡ length (frames_of channels seat log)
many_hits channels seat log w own =
    let frames = cuttings [] (opening_state channels) log in
    length-map (map (λ (c : Cutting). c.found) frames) _ ∙ length-map frames (λ (c : Cutting). c.found)
    ∙ sym (ap length (own_frames_are_all seat [] (opening_state channels) log own))

pub nearest_hits_law : NearestHitsLaw
nearest_hits_law channels seat log w taken sent fit own cuts keeps whole =
    let loads = loads_in taken in
    let frames = frames_of channels seat log in
    let many : length loads ≡ length frames =
    sym (length-map loads (λ (l : LoadState). l.cut)) ∙ ap length cuts ∙ length-map frames cut_of_frame in
    let long = many_hits channels seat log w own in
    let made = length-map frames cut_of_frame in
    first_answers channels seat log w taken sent fit own
    (cuts ∙ sym (take_all (length loads) (map cut_of_frame frames) (omega (arith, many, made)))) keeps whole
    ∙ take_all (length loads) (nearest_hits channels w.isect.segment log) (omega (arith, many, long))

-- The application

-- the loads that were taken have the first cuts
first_cuts : (g : Setup) (seat : ℕ) (app : AppState) (log : Log) (given taken : List Packet) → AppPart g seat app log given → LinkPart given taken →
    map (λ l. l.cut) (loads_in taken) ≡ take (length (loads_in taken)) (map cut_of_frame (frames_of g.channels seat log))
first_cuts g seat app log given taken part link =
    let loads = loads_in taken in
    let all = loads_in (sent_and_held given app.held) in
    ap (map (λ (l : LoadState). l.cut)) (front_of loads all (sent_load given taken app.held link))
    ∙ map_take (λ (l : LoadState). l.cut) (length loads) all
    ∙ ap (take (length loads)) part.cuts

-- once the End was taken, all was taken
ended_whole : (closed : Bool) (frames : List Cutting) (ps : List Packet) (k : ℕ) → map is_end ps ≡ map (λ _. false) frames ++ end_once closed →
    has_end (take k ps) ≡ true → take k ps ≡ ps
ended_whole closed frames ps zero ends has = absurd (cc)
ended_whole closed frames [] (suc k) ends has = refl
ended_whole true [] (p ∷ []) (suc k) ends has = ap (λ qs. p ∷ qs) (take_all k [] (omega arith))
ended_whole true [] (p ∷ q ∷ ps) (suc k) ends has = absurd (cc)
ended_whole false [] (p ∷ ps) (suc k) ends has = absurd (cc)
ended_whole closed (c ∷ frames) (Frame l ∷ ps) (suc k) ends has = ap (λ qs. Frame l ∷ qs) (ended_whole closed frames ps k (cc) has)
ended_whole closed (c ∷ frames) (End ∷ ps) (suc k) ends has = absurd (cc)

all_taken : (g : Setup) (seat : ℕ) (app : AppState) (log : Log) (given taken : List Packet) → AppPart g seat app log given → LinkPart given taken →
    has_end taken ≡ true → taken ≡ sent_and_held given app.held
all_taken g seat app log given taken part link has =
    let all = sent_and_held given app.held in
    let held = option_to_list app.held in
    let rest = drop (length taken) given in
    let front : take (length taken) all ≡ taken =
    ap (take (length taken))
    (ap (λ (ps : List Packet). ps ++ held) (rest_of given taken link) ∙ append_assoc taken rest held)
    ∙ front_again taken (rest ++ held) in
    sym front
    ∙ ended_whole app.closed (frames_of g.channels seat log) all (length taken) part.ends
    (subst (λ (ps : List Packet). has_end ps ≡ true) (sym front) has)

pub application_law : ApplicationLaw
application_law g seat app log w given taken sent fit own part link keeps whole =
    record {
      front = first_answers g.channels seat log w taken sent fit own (first_cuts g seat app log given taken part link) keeps whole;
      whole = λ has.
          nearest_hits_law g.channels seat log w taken sent fit own
          (ap (λ (ps : List Packet). map (λ (l : LoadState). l.cut) (loads_in ps)) (all_taken g seat app log given taken part link has) ∙ part.cuts)
          keeps whole;
    }
