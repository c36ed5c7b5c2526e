-- Each generated play can end.
use Rattle.std.proofs.Common.{◌≡◌, ℕ, zero, suc, ◌+◌, ◌*◌, ◌≤◌, arith, refl, sym, ap, ◌∙◌, subst, Bool, true, false, List, [], ◌∷◌, ◌++◌, map, append_assoc, append-nil, Option, Some, None, Result, Ok, ℤ, pos}
use Rattle.std.specs.List.{flat_map}
use Rattle.std.proofs.lemmas.Bool.{le-leb}
use Rattle.std.proofs.lemmas.List.Concat.{flat_map-append}
use Rattle.pf_model.specs.declared.geometry.Tri.{Tri}
use Rattle.pf_model.specs.declared.edits.Edit.{Edit}
use Rattle.pf_model.specs.declared.edits.Edit.TheVariants as edit
use Rattle.pf_model.specs.declared.lines.AppStep.{AppStep}
use Rattle.pf_model.specs.declared.lines.AppStep.TheVariants as app_step
use Rattle.pf_model.specs.declared.lines.AppLine.{AppLine}
use Rattle.pf_model.specs.declared.lines.BaseStep.{BaseStep}
use Rattle.pf_model.specs.declared.lines.BaseStep.TheVariants as base_step
use Rattle.pf_model.specs.declared.lines.BaseLine.{BaseLine}
use Rattle.pf_model.specs.Angles.{Viewpoint}
use Rattle.fx_math.specs.declared.lenses.Lens.{Lens}
use Rattle.play_format.specs.declared.refusal.Refusal.{Refusal}
use Rattle.play_format.specs.declared.commands.Command.{Command}
use Rattle.play_format.specs.declared.commands.Command.TheVariants as command
use Rattle.play_format.specs.declared.places.Version.{Version}
use Rattle.play_format.specs.Commands.{Entry}
use Rattle.play_format.specs.Spelling.{view_entry, app_entry, base_entry, ask_entry, tri_entry, app_entries, base_entries, header_entries}
use Rattle.play_format.specs.Plays.{Script}
use Rattle.play_format.specs.Reads.{Layout, IsLaidOut, dbase_entries, entries_of}
use Rattle.play_format.proofs.OneLemmas.{read_of_spelling}
use Rattle.play_check.specs.Lines.{Given, Gives, Waits, Mark, app_given, base_given, app_marks, base_marks, passed}
use Rattle.play_check.specs.Stuck.{IsStuck}
use Rattle.play_check.proofs.Dues.{givens}
use Rattle.play_check.proofs.Walks.{Walked, walked_opening, app_goes_on, base_goes_on}
use Rattle.play_check.proofs.Ends.{ended}
use Rattle.play_gen.specs.Draws.{state_after}
use Rattle.play_gen.specs.Lines.{opening, turn, turns, triangle, triangles, geode, place, heading, placed, buffer, buffers, generated_lines, generated_text}
use Rattle.play_gen.specs.Laws.{EndLaw}
use Rattle.play_gen.proofs.ReadingLemmas.{text_is_read}

-- What lines give or wait for

count_of : List ℤ → ℕ
count_of (pos n ∷ zs) = n
count_of _ = 0

-- what a line of a section gives or waits for; the line between the sections is None
given_by_line : Command → List ℤ → List (Option Given)
given_by_line command.Triangle zs = []
given_by_line command.Size zs = []
given_by_line command.Lens zs = []
given_by_line command.Back zs = []
given_by_line command.Channels zs = []
given_by_line command.App zs = []
given_by_line command.Dbase zs = None ∷ []
given_by_line command.Frame zs = Some (Gives 1) ∷ []
given_by_line command.Merge zs = Some (Gives 1) ∷ []
given_by_line command.Wait zs = Some (Waits (count_of zs)) ∷ []
given_by_line command.Await zs = Some (Waits (count_of zs)) ∷ []
given_by_line _ zs = Some (Gives 0) ∷ []

abbrev given_of : Entry → List (Option Given)
given_of e = given_by_line e.0 e.1

abbrev all_given : List Entry → List (Option Given)
all_given es = flat_map given_of es

abbrev some_given : Given → Option Given
some_given g = Some g

abbrev given : List Given → List (Option Given)
given gs = map some_given gs

given_append : (xs ys : List Entry) → all_given (xs ++ ys) ≡ all_given xs ++ all_given ys
given_append xs ys = flat_map-append given_of xs ys

no_triangle_gives : (ts : List Tri) → all_given (map tri_entry ts) ≡ []
unfolding given_by_line
no_triangle_gives [] = refl
no_triangle_gives (t ∷ ts) = no_triangle_gives ts

-- The lines of a play

view_gives : (c : ℕ) (v : Viewpoint) → given_of (view_entry c v) ≡ Some (Gives 0) ∷ []
unfolding given_by_line
view_gives zero v = refl
view_gives (suc c) v = refl

app_line_gives : (s : AppStep) → given_of (app_entry s) ≡ Some (app_given s) ∷ []
unfolding given_by_line count_of
app_line_gives (app_step.Edit e) = refl
app_line_gives (app_step.View c v) = view_gives c v
app_line_gives app_step.Sync = refl
app_line_gives app_step.Frame = refl
app_line_gives (app_step.Wait n) = refl

ask_gives : (e : Edit) → given_of (ask_entry e) ≡ Some (Gives 0) ∷ []
unfolding given_by_line
ask_gives (edit.Remove p c) = refl
ask_gives e = refl

base_line_gives : (s : BaseStep) → given_of (base_entry s) ≡ Some (base_given s) ∷ []
unfolding given_by_line count_of
base_line_gives base_step.Buffer = refl
base_line_gives (base_step.Edit e) = refl
base_line_gives (base_step.Ask e) = ask_gives e
base_line_gives base_step.Merge = refl
base_line_gives (base_step.Await n) = refl

-- a line with its triangles before other lines
lines_give : (e : Entry) (ts : List Tri) (es : List Entry) (g : Given) (gs : List Given) → given_of e ≡ Some g ∷ [] → all_given es ≡ given gs
    → all_given ((e ∷ map tri_entry ts) ++ es) ≡ given (g ∷ gs)
lines_give e ts es g gs first rest =
    given_append (e ∷ map tri_entry ts) es
    ∙ ap (λ (x : List (Option Given)). (x ++ all_given (map tri_entry ts)) ++ all_given es) first
    ∙ ap (λ (x : List (Option Given)). (Some g ∷ x) ++ all_given es) (no_triangle_gives ts)
    ∙ ap (λ (x : List (Option Given)). Some g ∷ x) rest

app_given_are : (ls : List AppLine) → all_given (app_entries ls) ≡ given (givens (app_marks ls))
app_given_are [] = refl
app_given_are (l ∷ ls) = lines_give (app_entry l.step) _ (app_entries ls) (app_given l.step) (givens (app_marks ls)) (app_line_gives l.step) (app_given_are ls)

base_given_are : (ls : List BaseLine) → all_given (base_entries ls) ≡ given (givens (base_marks ls))
base_given_are [] = refl
base_given_are (l ∷ ls) = lines_give (base_entry l.step) _ (base_entries ls) (base_given l.step) (givens (base_marks ls)) (base_line_gives l.step) (base_given_are ls)

header_gives : (says : Bool) (lens : Lens) (back : List ℕ) (channels : ℕ) → all_given (header_entries says lens back channels) ≡ []
unfolding given_by_line
header_gives true lens back channels = refl
header_gives false lens back channels = refl

-- The two sections

before_none : List (Option Given) → List Given
before_none (Some g ∷ xs) = g ∷ before_none xs
before_none _ = []

somes : List (Option Given) → List Given
somes (Some g ∷ xs) = g ∷ somes xs
somes (None ∷ xs) = somes xs
somes [] = []

behind_none : List (Option Given) → List Given
behind_none (Some g ∷ xs) = behind_none xs
behind_none (None ∷ xs) = somes xs
behind_none [] = []

somes_of : (gs : List Given) → somes (given gs) ≡ gs
unfolding somes
somes_of [] = refl
somes_of (g ∷ gs) = ap (λ (xs : List Given). g ∷ xs) (somes_of gs)

before_is : (gs : List Given) (xs : List (Option Given)) → before_none xs ≡ [] → before_none (given gs ++ xs) ≡ gs
unfolding before_none
before_is [] xs e = e
before_is (g ∷ gs) xs e = ap (λ (ys : List Given). g ∷ ys) (before_is gs xs e)

behind_is : (gs : List Given) (xs : List (Option Given)) → behind_none (given gs ++ xs) ≡ behind_none xs
unfolding behind_none
behind_is [] xs = refl
behind_is (g ∷ gs) xs = behind_is gs xs

-- two sections give this
record Give (es : List Entry) (gs hs : List Given) : Type 0 where
  app : before_none (all_given es) ≡ gs
  base : behind_none (all_given es) ≡ hs

play_gives : (l : Layout) (p : Script) → IsLaidOut l p → Give (entries_of l p) (givens (app_marks p.app)) (givens (base_marks p.dbase))
unfolding before_none given_by_line behind_none
play_gives l p laid =
    let header = header_entries l.says_channels p.lens p.back p.channels in
    let dbase = dbase_entries l.has_dbase p.dbase in
    let whole : all_given (entries_of l p) ≡ given (givens (app_marks p.app)) ++ all_given dbase =
    given_append header (app_entries p.app ++ dbase)
    ∙ ap (λ (xs : List (Option Given)). xs ++ all_given (app_entries p.app ++ dbase)) (header_gives l.says_channels p.lens p.back p.channels)
    ∙ given_append (app_entries p.app) dbase
    ∙ ap (λ (xs : List (Option Given)). xs ++ all_given dbase) (app_given_are p.app) in
    record {
      app = ap before_none whole ∙ before_is (givens (app_marks p.app)) (all_given dbase) (none_before l.has_dbase p.dbase);
      base = ap behind_none whole ∙ behind_is (givens (app_marks p.app)) (all_given dbase) ∙ behind l.has_dbase p.dbase laid.no_dbase;
    }
  where
    none_before : (has : Bool) (ls : List BaseLine) → before_none (all_given (dbase_entries has ls)) ≡ []
    none_before true ls = refl
    none_before false ls = refl

    behind : (has : Bool) (ls : List BaseLine) → (has ≡ false → ls ≡ []) → behind_none (all_given (dbase_entries has ls)) ≡ givens (base_marks ls)
    behind true ls none = ap somes (base_given_are ls) ∙ somes_of (givens (base_marks ls))
    behind false ls none = ap (λ (xs : List BaseLine). givens (base_marks xs)) (sym (none refl))

-- The lines of a generated play

turns_given : ℕ → List Given
turns_given zero = []
turns_given (suc k) = turns_given k ++ Gives 1 ∷ Waits (suc k) ∷ []

-- what is built in a buffer, and its merge
built : List Given
built = Gives 0 ∷ Gives 0 ∷ Gives 0 ∷ Gives 0 ∷ Gives 0 ∷ Gives 0 ∷ Gives 0 ∷ Gives 1 ∷ []

buffers_given : ℕ → List Given
buffers_given zero = []
buffers_given (suc k) = buffers_given k ++ Waits (suc k) ∷ built

app_given_in : ℕ → List Given
app_given_in n = Gives 0 ∷ Gives 0 ∷ (turns_given n ++ Gives 1 ∷ [])

given_then : (xs ys : List Given) → given xs ++ given ys ≡ given (xs ++ ys)
given_then [] ys = refl
given_then (x ∷ xs) ys = ap (λ (zs : List (Option Given)). Some x ∷ zs) (given_then xs ys)

-- lines behind lines
give_then : (xs ys : List Entry) (gs hs : List Given) → all_given xs ≡ given gs → all_given ys ≡ given hs → all_given (xs ++ ys) ≡ given (gs ++ hs)
give_then xs ys gs hs e f =
    given_append xs ys ∙ ap (λ (zs : List (Option Given)). zs ++ all_given ys) e ∙ ap (λ (zs : List (Option Given)). given gs ++ zs) f ∙ given_then gs hs

turns_give : (k : ℕ) → all_given (turns k) ≡ given (turns_given k)
unfolding turns turns_given turn given_by_line count_of
turns_give zero = refl
turns_give (suc k) = give_then (turns k) (turn (suc k)) (turns_given k) (Gives 1 ∷ Waits (suc k) ∷ []) (turns_give k) (one (suc k))
  where
    one : (i : ℕ) → all_given (turn i) ≡ given (Gives 1 ∷ Waits i ∷ [])
    one i = refl

triangles_give : (k s : ℕ) → all_given (triangles k s) ≡ []
unfolding triangles triangle given_by_line
triangles_give zero s = refl
triangles_give (suc k) s = give_then (triangles k s) (triangle (state_after (18 * k) s) ∷ []) [] [] (triangles_give k s) (one (state_after (18 * k) s))
  where
    one : (s : ℕ) → all_given (triangle s ∷ []) ≡ []
    one s = refl

buffer_gives : (i s : ℕ) → all_given (buffer i s) ≡ given (Waits i ∷ built)
unfolding buffer geode given_by_line count_of built placed place heading
buffer_gives i s =
    ap (λ (xs : List (Option Given)). Some (Waits i) ∷ Some (Gives 0) ∷ Some (Gives 0) ∷ Some (Gives 0) ∷ xs)
    (give_then (triangles 16 (state_after 1 s)) (placed i (state_after 289 s)) [] (Gives 0 ∷ Gives 0 ∷ Gives 0 ∷ Gives 0 ∷ Gives 1 ∷ [])
    (triangles_give 16 (state_after 1 s)) (rest i (state_after 289 s)))
  where
    rest : (i s : ℕ) → all_given (placed i s) ≡ given (Gives 0 ∷ Gives 0 ∷ Gives 0 ∷ Gives 0 ∷ Gives 1 ∷ [])
    rest i s = refl

buffers_give : (k s : ℕ) → all_given (buffers k s) ≡ given (buffers_given k)
unfolding buffers buffers_given
buffers_give zero s = refl
buffers_give (suc k) s =
    give_then (buffers k s) (buffer (suc k) (state_after (293 * k) s)) (buffers_given k) (Waits (suc k) ∷ built) (buffers_give k s)
    (buffer_gives (suc k) (state_after (293 * k) s))

opening_gives : all_given opening ≡ given (Gives 0 ∷ Gives 0 ∷ [])
unfolding opening given_by_line
opening_gives = refl

generated_give : (n : ℕ) → Give (generated_lines n) (app_given_in n) (buffers_given n)
unfolding generated_lines app_given_in given_by_line before_none behind_none
generated_give n =
    let base : List Entry = (command.Dbase, []) ∷ buffers n n in
    let app : all_given (opening ++ (turns n ++ (command.Frame, []) ∷ [])) ≡ given (app_given_in n) =
    give_then opening (turns n ++ (command.Frame, []) ∷ []) (Gives 0 ∷ Gives 0 ∷ []) (turns_given n ++ Gives 1 ∷ []) opening_gives
    (give_then (turns n) ((command.Frame, []) ∷ []) (turns_given n) (Gives 1 ∷ []) (turns_give n) frame_gives) in
    let parts : generated_lines n ≡ (opening ++ (turns n ++ (command.Frame, []) ∷ [])) ++ base =
    ap (λ (xs : List Entry). opening ++ xs) (sym (append_assoc (turns n) ((command.Frame, []) ∷ []) base))
    ∙ sym (append_assoc opening (turns n ++ (command.Frame, []) ∷ []) base) in
    let whole : all_given (generated_lines n) ≡ given (app_given_in n) ++ (None ∷ given (buffers_given n)) =
    ap all_given parts ∙ given_append (opening ++ (turns n ++ (command.Frame, []) ∷ [])) base
    ∙ ap (λ (xs : List (Option Given)). xs ++ all_given base) app
    ∙ ap (λ (xs : List (Option Given)). given (app_given_in n) ++ xs) (dbase_gives n) in
    record {
      app = ap before_none whole ∙ before_is (app_given_in n) (None ∷ given (buffers_given n)) (none_first (given (buffers_given n)));
      base = ap behind_none whole ∙ behind_is (app_given_in n) (None ∷ given (buffers_given n)) ∙ somes_first (buffers_given n);
    }
  where
    frame_gives : all_given ((command.Frame, []) ∷ []) ≡ given (Gives 1 ∷ [])
    frame_gives = refl

    dbase_gives : (n : ℕ) → all_given ((command.Dbase, []) ∷ buffers n n) ≡ None ∷ given (buffers_given n)
    dbase_gives n = ap (λ (xs : List (Option Given)). None ∷ xs) (buffers_give n n)

    none_first : (xs : List (Option Given)) → before_none (None ∷ xs) ≡ []
    none_first xs = refl

    somes_first : (gs : List Given) → behind_none (None ∷ given gs) ≡ gs
    somes_first gs = somes_of gs

-- The walk

-- A walk through the sections of a play, before lines that give or wait for so much.
record Walk (p : Script) (app base : List Given) (frames merges : ℕ) : Type 0 where
  app_left : List Mark
  base_left : List Mark
  app_is : givens app_left ≡ app
  base_is : givens base_left ≡ base
  walked : Walked p.app p.dbase app_left base_left frames merges

-- a line more of the application
app_on : (p : Script) (g : Given) (gs base : List Given) (frames merges n : ℕ) → passed merges g ≡ Some n → Walk p (g ∷ gs) base frames merges
    → Walk p gs base (frames + n) merges
app_on p g gs base frames merges n e w = by w.app_left w.app_is w.walked
  where
    by : (left : List Mark) → givens left ≡ g ∷ gs → Walked p.app p.dbase left w.base_left frames merges → Walk p gs base (frames + n) merges
    by [] is walked = absurd cc
    by (m ∷ ms) is walked =
        let first : m.given ≡ g = cc in
        let rest : givens ms ≡ gs = cc in
        record {
          app_left = ms;
          base_left = w.base_left;
          app_is = rest;
          base_is = w.base_is;
          walked = app_goes_on p.app p.dbase (m ∷ ms) w.base_left frames merges n ms walked (ap (passed merges) first ∙ e, refl);
        }

-- a line more of the database process
base_on : (p : Script) (g : Given) (app gs : List Given) (frames merges n : ℕ) → passed frames g ≡ Some n → Walk p app (g ∷ gs) frames merges
    → Walk p app gs frames (merges + n)
base_on p g app gs frames merges n e w = by w.base_left w.base_is w.walked
  where
    by : (left : List Mark) → givens left ≡ g ∷ gs → Walked p.app p.dbase w.app_left left frames merges → Walk p app gs frames (merges + n)
    by [] is walked = absurd cc
    by (m ∷ ms) is walked =
        let first : m.given ≡ g = cc in
        let rest : givens ms ≡ gs = cc in
        record {
          app_left = w.app_left;
          base_left = ms;
          app_is = w.app_is;
          base_is = rest;
          walked = base_goes_on p.app p.dbase w.app_left (m ∷ ms) frames merges n ms walked (ap (passed frames) first ∙ e, refl);
        }

-- what is waited for is there
enough : (n count : ℕ) → n ≤ count → passed count (Waits n) ≡ Some 0
enough n count h = rw (le-leb n count h) refl

standing : (p : Script) (app base : List Given) (f f' m m' : ℕ) → f ≡ f' → m ≡ m' → Walk p app base f m → Walk p app base f' m'
standing p app base f f' m m' e h w =
    subst (λ (k : ℕ). Walk p app base f' k) h (subst (λ (k : ℕ). Walk p app base k m) e w)

edits : ℕ → List Given → List Given
edits zero gs = gs
edits (suc j) gs = Gives 0 ∷ edits j gs

-- lines that give nothing
pass_edits : (p : Script) (j f m : ℕ) (app base : List Given) → Walk p app (edits j base) f m → Walk p app base f m
unfolding edits
pass_edits p zero f m app base w = w
pass_edits p (suc j) f m app base w =
    pass_edits p j f m app base
    (standing p app (edits j base) f f (m + 0) m refl (omega arith) (base_on p (Gives 0) app (edits j base) f m 0 refl w))

-- a frame, the merge behind it, and the wait for that merge
one_turn : (p : Script) (app base : List Given) (k : ℕ) → Walk p (Gives 1 ∷ Waits (suc k) ∷ app) (Waits (suc k) ∷ (built ++ base)) k k
    → Walk p app base (suc k) (suc k)
unfolding built edits
one_turn p app base k w =
    let frame = app_on p (Gives 1) (Waits (suc k) ∷ app) (Waits (suc k) ∷ (built ++ base)) k k 1 refl w in
    let first = base_on p (Waits (suc k)) (Waits (suc k) ∷ app) (built ++ base) (k + 1) k 0 (enough (suc k) (k + 1) (omega arith)) frame in
    let merge = pass_edits p 7 (k + 1) (k + 0) (Waits (suc k) ∷ app) (Gives 1 ∷ base) first in
    let merged = base_on p (Gives 1) (Waits (suc k) ∷ app) base (k + 1) (k + 0) 1 refl merge in
    let waited = app_on p (Waits (suc k)) app base (k + 1) (k + 0 + 1) 0 (enough (suc k) (k + 0 + 1) (omega arith)) merged in
    standing p app base (k + 1 + 0) (suc k) (k + 0 + 1) (suc k) (omega arith) (omega arith) waited

-- all turns
all_turns : (p : Script) (k : ℕ) (app base : List Given) → Walk p (turns_given k ++ app) (buffers_given k ++ base) 0 0 → Walk p app base k k
unfolding turns_given buffers_given
all_turns p zero app base w = w
all_turns p (suc k) app base w =
    let turns = append_assoc (turns_given k) (Gives 1 ∷ Waits (suc k) ∷ []) app in
    let merges = append_assoc (buffers_given k) (Waits (suc k) ∷ built) base in
    let parted : Walk p (turns_given k ++ Gives 1 ∷ Waits (suc k) ∷ app) (buffers_given k ++ Waits (suc k) ∷ (built ++ base)) 0 0 =
    subst (λ (gs : List Given). Walk p gs (buffers_given k ++ Waits (suc k) ∷ (built ++ base)) 0 0) turns
    (subst (λ (gs : List Given). Walk p (turns_given (suc k) ++ app) gs 0 0) merges w) in
    one_turn p app base k (all_turns p k (Gives 1 ∷ Waits (suc k) ∷ app) (Waits (suc k) ∷ (built ++ base)) parted)

none_left : (left : List Mark) → givens left ≡ [] → left ≡ []
none_left [] e = refl
none_left (m ∷ ms) e = absurd cc

-- a play whose sections were walked through can end
walked_through : (p : Script) (frames merges : ℕ) → Walk p [] [] frames merges → ¬ IsStuck p.app p.dbase
walked_through p frames merges w =
    let through : Walked p.app p.dbase [] [] frames merges =
    subst (λ (ms : List Mark). Walked p.app p.dbase ms [] frames merges) (none_left w.app_left w.app_is)
    (subst (λ (ms : List Mark). Walked p.app p.dbase w.app_left ms frames merges) (none_left w.base_left w.base_is) w.walked) in
    (ended p.app p.dbase [] [] frames merges through tt tt).passes refl refl

abbrev lines_of : Result (Version × List Entry) Refusal → List Entry
lines_of (Ok x) = x.1
lines_of _ = []

pub can_end : EndLaw
unfolding app_given_in
can_end n few p reads =
    let same : entries_of reads.layout p ≡ generated_lines n =
    ap lines_of (sym (read_of_spelling (generated_text n) p reads) ∙ text_is_read n few) in
    let told = play_gives reads.layout p reads.laid_out in
    let made = generated_give n in
    let app : givens (app_marks p.app) ≡ app_given_in n = sym told.app ∙ ap (λ (es : List Entry). before_none (all_given es)) same ∙ made.app in
    let base : givens (base_marks p.dbase) ≡ buffers_given n = sym told.base ∙ ap (λ (es : List Entry). behind_none (all_given es)) same ∙ made.base in
    let start : Walk p (app_given_in n) (buffers_given n) 0 0 = record {
      app_left = app_marks p.app;
      base_left = base_marks p.dbase;
      app_is = app;
      base_is = base;
      walked = walked_opening p.app p.dbase;
    } in
    let group = app_on p (Gives 0) (Gives 0 ∷ (turns_given n ++ Gives 1 ∷ [])) (buffers_given n) 0 0 0 refl start in
    let added = app_on p (Gives 0) (turns_given n ++ Gives 1 ∷ []) (buffers_given n) 0 0 0 refl group in
    let merged = all_turns p n (Gives 1 ∷ []) [] (subst (λ (gs : List Given). Walk p (turns_given n ++ Gives 1 ∷ []) gs 0 0) (sym (append-nil (buffers_given n))) added) in
    let last = app_on p (Gives 1) [] [] n n 1 refl merged in
    walked_through p (n + 1) n last
