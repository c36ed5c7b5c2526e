-- The update lists of a log, entry by entry.
use Rattle.std.proofs.Common.{◌≡◌, ℕ, ◌+◌, ◌-◌, ◌<◌, Bool, true, false, cond, ◌==◌, nat_lt, List, [], ◌∷◌, ◌++◌, map, take, length, slice_get, Some, refl, sym, ◌∙◌, ap, subst, arith}
use Rattle.std.proofs.lemmas.List.{append-nil, map-append, take-append-le}
use Rattle.std.proofs.Math.ListN.{get_or-append}
use Rattle.std.proofs.lemmas.Bool.{ltb-true}
use Rattle.std.proofs.lemmas.Bool.Decides.{nat_tests}
use Rattle.std.specs.Prelude.{slice_index_or}
use Rattle.std.specs.List.{AllByRecursion}
use Rattle.pf_model.specs.Graphs.{Look, node_at}
use Rattle.pf_model.specs.Limits.{IsRising}
use Rattle.pf_model.specs.Copies.{copy_of, put_in, put_all, updates_of}
use Rattle.pf_model.proofs.Levels.{all_map}
use Rattle.pf_history.specs.declared.commands.Entry.{Entry}
use Rattle.pf_history.specs.Objects.{FrameState, opening_state, next_state}
use Rattle.pf_history.specs.Commands.{is_frame}
use Rattle.pf_history.specs.Logs.{Log, state_after, state_of, how_many}
use Rattle.pf_history.specs.Cuts.{names, Cutting, cuttings, found_by_frames, cut_at, cuts_of, marks_after, marks_from}
use Rattle.pf_history.specs.CutLaws.{with_last, CutsLaw, CutsStayLaw}
use Rattle.pf_history.proofs.Lists.{get_front}
use Rattle.pf_history.proofs.Counting.{frames_after, how_many_step}

-- Rising ids

above_put : (m x : ℕ) (ys : List ℕ) → m < x → AllByRecursion (λ y. m < y) ys → AllByRecursion (λ y. m < y) (put_in x ys)
above_put m x [] l h = (l, tt)
above_put m x (y ∷ ys) l h = by (nat_lt x y) (y == x) (above_put m x ys l h.1)
  where
    by : (t u : Bool) → AllByRecursion (λ y. m < y) (put_in x ys) → AllByRecursion (λ y. m < y) (cond t (x ∷ y ∷ ys) (cond u (y ∷ ys) (y ∷ put_in x ys)))
    by true u rest = (l, h)
    by false true rest = h
    by false false rest = (h.0, rest)

less : (a b : ℕ) → nat_lt a b ≡ false → (b == a) ≡ false → b < a
less a b h k = grind (arith, nat_tests)

pub put_in_rising : (x : ℕ) (ys : List ℕ) → IsRising ys → IsRising (put_in x ys)
put_in_rising x [] rising = (tt, tt)
put_in_rising x (y ∷ ys) rising = by (nat_lt x y) (y == x) refl refl (put_in_rising x ys rising.1)
  where
    by : (t u : Bool) → nat_lt x y ≡ t → (y == x) ≡ u → IsRising (put_in x ys) → IsRising (cond t (x ∷ y ∷ ys) (cond u (y ∷ ys) (y ∷ put_in x ys)))
    by true u et eu rest = let l : x < y = ltb-true x y et in ((l, all_map (λ z. y < z) (λ z. x < z) (λ z k. omega (arith, k, l)) ys rising.0), rising)
    by false true et eu rest = rising
    by false false et eu rest = (above_put y x ys (less x y et eu) rising.0, rest)

pub put_all_rising : (xs ys : List ℕ) → IsRising ys → IsRising (put_all xs ys)
put_all_rising [] ys rising = rising
put_all_rising (x ∷ xs) ys rising = put_all_rising xs (put_in x ys) (put_in_rising x ys rising)

updates_ids : (look : Look) (ids : List ℕ) → map (λ u. u.0) (updates_of look ids) ≡ ids
updates_ids look [] = refl
updates_ids look (x ∷ ids) = ap (λ xs. x ∷ xs) (updates_ids look ids)

-- Along a log

cuttings_rising : (ids : List ℕ) (s : FrameState) (log : Log) → IsRising ids → AllByRecursion (λ us. IsRising (map (λ u. u.0) us)) (map cut_at (cuttings ids s log))
cuttings_rising ids s [] rising = tt
cuttings_rising ids s (e ∷ es) rising =
    by (is_frame e.1.command) (cuttings_rising [] (next_state s e.1.command) es tt)
    (cuttings_rising (put_all (names s e.1.command) ids) (next_state s e.1.command) es (put_all_rising (names s e.1.command) ids rising))
  where
    by : (t : Bool) → AllByRecursion (λ us. IsRising (map (λ u. u.0) us)) (map cut_at (cuttings [] (next_state s e.1.command) es)) →
        AllByRecursion (λ us. IsRising (map (λ u. u.0) us)) (map cut_at (cuttings (put_all (names s e.1.command) ids) (next_state s e.1.command) es)) →
        AllByRecursion (λ us. IsRising (map (λ u. u.0) us)) (map cut_at (cond t (record { ids = ids; found = s } ∷ cuttings [] (next_state s e.1.command) es) (cuttings (put_all (names s e.1.command) ids) (next_state s e.1.command) es)))
    by true framed passed = (subst IsRising (sym (updates_ids (node_at s.graph.nodes) ids)) rising, framed)
    by false framed passed = passed

marks_rise : (ids : List ℕ) (s : FrameState) (log : Log) → IsRising ids → IsRising (marks_from ids s log)
marks_rise ids s [] rising = rising
marks_rise ids s (e ∷ es) rising = marks_rise (marks_after ids s e.1.command) (next_state s e.1.command) es (by (is_frame e.1.command))
  where
    by : (t : Bool) → IsRising (cond t [] (put_all (names s e.1.command) ids))
    by true = tt
    by false = put_all_rising (names s e.1.command) ids rising

cuttings_many : (ids : List ℕ) (s : FrameState) (log : Log) → length (map cut_at (cuttings ids s log)) ≡ how_many is_frame log
cuttings_many ids s [] = refl
cuttings_many ids s (e ∷ es) = by (is_frame e.1.command) (how_many_step is_frame e es) (cuttings_many [] (next_state s e.1.command) es) (cuttings_many (put_all (names s e.1.command) ids) (next_state s e.1.command) es)
  where
    by : (t : Bool) → how_many is_frame (e ∷ es) ≡ cond t 1 0 + how_many is_frame es →
        length (map cut_at (cuttings [] (next_state s e.1.command) es)) ≡ how_many is_frame es →
        length (map cut_at (cuttings (put_all (names s e.1.command) ids) (next_state s e.1.command) es)) ≡ how_many is_frame es →
        length (map cut_at (cond t (record { ids = ids; found = s } ∷ cuttings [] (next_state s e.1.command) es) (cuttings (put_all (names s e.1.command) ids) (next_state s e.1.command) es))) ≡ how_many is_frame (e ∷ es)
    by true step framed passed = omega (arith, step, framed)
    by false step framed passed = omega (arith, step, passed)

-- the Frames of a log that goes on
cuttings_append : (ids : List ℕ) (s : FrameState) (xs ys : Log) → cuttings ids s (xs ++ ys) ≡ cuttings ids s xs ++ cuttings (marks_from ids s xs) (state_after s xs) ys
cuttings_append ids s [] ys = refl
cuttings_append ids s (e ∷ es) ys =
    by (is_frame e.1.command) (cuttings_append [] (next_state s e.1.command) es ys) (cuttings_append (put_all (names s e.1.command) ids) (next_state s e.1.command) es ys)
  where
    after : List ℕ → Log → List Cutting
    after ids log = cuttings ids (next_state s e.1.command) log

    later : List ℕ → List Cutting
    later ids = cuttings (marks_from ids (next_state s e.1.command) es) (state_after (next_state s e.1.command) es) ys

    by : (t : Bool) → after [] (es ++ ys) ≡ after [] es ++ later [] →
        after (put_all (names s e.1.command) ids) (es ++ ys) ≡ after (put_all (names s e.1.command) ids) es ++ later (put_all (names s e.1.command) ids) →
        cond t (record { ids = ids; found = s } ∷ after [] (es ++ ys)) (after (put_all (names s e.1.command) ids) (es ++ ys))
        ≡ cond t (record { ids = ids; found = s } ∷ after [] es) (after (put_all (names s e.1.command) ids) es) ++ later (cond t [] (put_all (names s e.1.command) ids))
    by true framed passed = ap (λ cs. record { ids = ids; found = s } ∷ cs) framed
    by false framed passed = passed

marks_push : (ids : List ℕ) (s : FrameState) (log : Log) (d : ℕ × Entry) → marks_from ids s (log ++ d ∷ []) ≡ marks_after (marks_from ids s log) (state_after s log) d.1.command
marks_push ids s [] d = refl
marks_push ids s (e ∷ es) d = marks_push (marks_after ids s e.1.command) (next_state s e.1.command) es d

map_last : {Y : Type 0} (f : Cutting → Y) (t : Bool) (cs : List Cutting) (c : Cutting) → map f (cs ++ cond t (c ∷ []) []) ≡ with_last t (map f cs) (f c)
map_last f true cs c = map-append f cs (c ∷ [])
map_last f false cs c = map-append f cs [] ∙ append-nil (map f cs)

-- what one more entry adds, of each Frame what f tells
adds_one : {Y : Type 0} (f : Cutting → Y) (ids : List ℕ) (s : FrameState) (log : Log) (d : ℕ × Entry) →
    map f (cuttings ids s (log ++ d ∷ [])) ≡ with_last (is_frame d.1.command) (map f (cuttings ids s log)) (f (record { ids = marks_from ids s log; found = state_after s log }))
adds_one f ids s log d =
    ap (map f) (cuttings_append ids s log (d ∷ []))
    ∙ map_last f (is_frame d.1.command) (cuttings ids s log) (record { ids = marks_from ids s log; found = state_after s log })

-- what each Frame tells by f, in a log that goes on
goes_on : {Y : Type 0} (f : Cutting → Y) (ids : List ℕ) (s : FrameState) (xs ys : Log) →
    map f (cuttings ids s (xs ++ ys)) ≡ map f (cuttings ids s xs) ++ map f (cuttings (marks_from ids s xs) (state_after s xs) ys)
goes_on f ids s xs ys = ap (map f) (cuttings_append ids s xs ys) ∙ map-append f (cuttings ids s xs) (cuttings (marks_from ids s xs) (state_after s xs) ys)

cuts_many : (channels : ℕ) (log : Log) → length (cuts_of channels log) ≡ (state_of channels log).frames
cuts_many channels log =
    let c = cuttings_many [] (opening_state channels) log in
    let f = frames_after (opening_state channels) log in
    omega (arith, c, f)

pub cuts_law : CutsLaw
cuts_law channels log =
    record {
      many = cuts_many channels log;
      rising = cuttings_rising [] (opening_state channels) log tt;
      marks_rising = marks_rise [] (opening_state channels) log tt;
      adds = λ e.
          record {
            found = adds_one (λ c. c.found) [] (opening_state channels) log e;
            cuts = adds_one cut_at [] (opening_state channels) log e;
            marks = marks_push [] (opening_state channels) log e;
          };
    }

pub cuts_stay_law : CutsStayLaw
cuts_stay_law channels log more =
    let s = opening_state channels in
    let longer = goes_on cut_at [] s log more in
    let later = map cut_at (cuttings (marks_from [] s log) (state_after s log) more) in
    let many = cuts_many channels log in
    record {
      found = λ k x at.
          subst (λ (xs : List FrameState). slice_get xs k ≡ Some x) (sym (goes_on (λ c. c.found) [] s log more))
          (get_front (found_by_frames channels log) (map (λ (c : Cutting). c.found) (cuttings (marks_from [] s log) (state_after s log) more)) k x at);
      cut = λ k first last.
          ap (λ us. slice_index_or us (k - 1) []) longer
          ∙ get_or-append (cuts_of channels log) later [] (k - 1) (omega (arith, first, last, many));
      copy = λ k last. ap copy_of (ap (take k) longer ∙ take-append-le k (cuts_of channels log) later (omega (arith, last, many)));
    }
