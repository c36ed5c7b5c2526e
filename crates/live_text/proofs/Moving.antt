-- A command that was read with all its triangle lines, or with some of them.
use Rattle.std.proofs.Common.{◌≡◌, ℕ, ◌+◌, ◌-◌, ◌<◌, ◌≤◌, arith, refl, true, false, cond, ap, sym, ◌∙◌, Bool, List, [], ◌∷◌, ◌++◌, length, map, subst, Result, Ok, Err, Option, Some, None, ℤ, append_assoc, eqb}
use Rattle.std.specs.Prelude.{IsSome, IfSome}
use Rattle.std.specs.List.{flat_map, list_all, AllByRecursion}
use Rattle.std.specs.Option.{option_and_then}
use Rattle.std.proofs.lemmas.List.{append-nil, length-append}
use Rattle.std.proofs.lemmas.List.Folds.{list_all-append}
use Rattle.std.proofs.lemmas.Bool.{lt-ltb}
use Rattle.std.proofs.lemmas.Bool.Decides.{nat_tests}
use Rattle.pf_model.specs.declared.geometry.Tri.{Tri}
use Rattle.pf_model.specs.declared.lines.AppStep.{AppStep}
use Rattle.pf_model.specs.declared.lines.AppStep.TheVariants as app_step
use Rattle.pf_model.specs.declared.lines.AppLine.{AppLine}
use Rattle.pf_model.specs.declared.lines.BaseStep.{BaseStep}
use Rattle.pf_model.specs.declared.lines.BaseStep.TheVariants as base_step
use Rattle.pf_model.specs.declared.lines.BaseLine.{BaseLine}
use Rattle.play_format.specs.declared.commands.Form.{Form}
use Rattle.play_format.specs.declared.commands.Form.TheVariants as form
use Rattle.play_format.specs.declared.commands.Command.{Command}
use Rattle.play_format.specs.declared.commands.Command.TheVariants as command
use Rattle.play_format.specs.declared.places.Version.{Version}
use Rattle.play_format.specs.declared.places.Version.TheVariants as version
use Rattle.play_format.specs.declared.places.Place.{Place}
use Rattle.play_format.specs.declared.places.Place.TheVariants as place
use Rattle.play_format.specs.declared.places.Spot.{Spot}
use Rattle.play_format.specs.Commands.{Entry, limits_of}
use Rattle.play_format.specs.Places.{AreWithin, announced, may_end, is_closed, place_after, is_known}
use Rattle.play_format.specs.Making.{app_step_of, base_step_of}
use Rattle.play_format.specs.Spelling.{tri_entry, app_lines, base_lines, base_entries, AreBaseNumbered}
use Rattle.play_format.specs.Written.{AreTriangles, IsAppStep, IsBaseStep}
use Rattle.play_format.specs.Plays.{app_fits, base_fits, opened, open_after}
use Rattle.play_format.specs.Sections.{is_buffer}
use Rattle.play_format.proofs.MadeLemmas.{AppBack, app_back, BaseBack, base_back, few_announced, stands_in_base}
use Rattle.live_text.specs.declared.given.Given.{Given}
use Rattle.live_text.specs.declared.given.Given.TheVariants as given
use Rattle.live_text.specs.declared.head.Head.{Head}
use Rattle.live_text.specs.declared.head.Head.TheVariants as head
use Rattle.live_text.specs.declared.state.State.{State}
use Rattle.live_text.specs.LiveGrammar.{back_in_app}
use Rattle.live_text.specs.LiveCommands.{is_wait, is_merge, MergesOnce, BeginsWithBuffer, SpellsLine, SpellsBlock}
use Rattle.live_text.specs.Stands.{left_at, whole_at, SpellsGiven}
use Rattle.live_text.specs.States.{live_app, live_inside, live_outside, stands_in, opened_entries, due_entries, begun_of, full_of, place_in, BlockSoFar, IsBegun, IsDue, Holds, HasMoved, IsMoved, Finishes, MakesStep, AddsStep, IsHead, is_early, is_header}

-- Where triangle lines are due

abbrev pub is_edit : Command → Bool
is_edit (command.Edit f) = true
is_edit c = false

pub announces : (c : Command) (zs : List ℤ) → 0 < announced c zs → is_edit c ≡ true
announces (command.Edit f) zs h = refl
announces c zs h = absurd (omega (arith, h))

pub edit_place : (was : Bool) (c : Command) → is_edit c ≡ true → back_in_app (place_after c (place_in was)) ≡ place_in was
edit_place true (command.Edit f) e = refl
edit_place false (command.Edit f) e = refl
edit_place was c e = absurd cc

buffer_in : (was : Bool) → is_buffer (place_in was) ≡ was
buffer_in true = refl
buffer_in false = refl

head_in : (was : Bool) → IsHead (place_in was) head.Given
head_in true = tt
head_in false = tt

late_in : (was : Bool) → is_early (place_in was) ≡ false
late_in true = refl
late_in false = refl

behind_in : (was : Bool) → is_header (place_in was) ≡ false
behind_in true = refl
behind_in false = refl

pub some_due : (n : ℕ) → 0 < n → eqb n 0 ≡ false
some_due n h = grind (arith, nat_tests)

due_goes : (s : Spot) → 0 < s.due → may_end s ≡ false
due_goes s h = rw (some_due s.due h) refl

-- more triangle lines are due
pub waits : (n : ℕ) (was : Bool) (w : State) → HasMoved n was w → 0 < w.spot.due → Finishes w w None
waits n was w m h =
    let edit = announces w.opened.command w.opened.numbers.items (omega (arith, m.count, h)) in
    let place : w.spot.place ≡ place_in was = m.place ∙ edit_place was w.opened.command edit in
    let buffer : is_buffer w.spot.place ≡ was = ap is_buffer place ∙ buffer_in was in
    let no : may_end w.spot ≡ false = due_goes w.spot h in
    let begun : begun_of w ≡ full_of w = rw (m.head, some_due w.spot.due h) refl in
    record {
      held = (
        n,
        record {
          sound = m.sound;
          version = m.version;
          some = m.some;
          few = m.few;
          first = rw begun m.first;
          opening = λ e. absurd (omega (arith, e, m.later));
          head = rw (m.head, place) (head_in was);
          one = λ e. let k : false ≡ true = sym (late_in was) ∙ ap is_early (sym place) ∙ e in absurd cc;
          block = rw buffer m.block;
          settled = λ e. absurd (omega (arith, e, h));
          due = λ _. record { behind_header = ap is_header place ∙ behind_in was; stands = rw buffer m.stands; number = m.number; within = m.within; count = m.count; written = m.written };
        },
      );
      line = refl;
      spot = refl;
      begun = rw no begun;
      spelled = λ k e. rw no refl;
    }

-- A step of a block

-- whether a command belongs to a block
abbrev is_base : Bool → Command → Bool
is_base false command.Buffer = true
is_base false c = false
is_base true c = live_inside c

known_in_two : (f : Form) → is_known version.Two f ≡ true
known_in_two form.Glass = refl
known_in_two f = refl

base_stands : (was : Bool) (c : Command) → is_base was c ≡ true → stands_in_base version.Two was c ≡ true
base_stands false command.Buffer e = refl
base_stands false c e = absurd cc
base_stands true command.BufferAdd e = refl
base_stands true command.BufferRemove e = refl
base_stands true command.Merge e = refl
base_stands true (command.Edit f) e = known_in_two f
base_stands true c e = absurd cc

base_makes : (was : Bool) (c : Command) (zs : List ℤ) (ts : List Tri) → is_base was c ≡ true → IsSome (base_step_of c zs ts)
base_makes false command.Buffer zs ts e = refl
base_makes false c zs ts e = absurd cc
base_makes true command.BufferAdd zs ts e = refl
base_makes true command.BufferRemove zs ts e = refl
base_makes true command.Merge zs ts e = refl
base_makes true (command.Edit f) zs ts e = refl
base_makes true c zs ts e = absurd cc

-- what a step of a block is behind the command that makes it
abbrev is_merge_line : Command → Bool
is_merge_line command.Merge = true
is_merge_line c = false

merge_made : (was : Bool) (c : Command) (zs : List ℤ) (ts : List Tri) (s : BaseStep) → is_base was c ≡ true → base_step_of c zs ts ≡ Some s → is_merge s ≡ is_merge_line c
merge_made false command.Buffer zs ts s e h = let k : base_step.Buffer ≡ s = cc in rw (← k) refl
merge_made false c zs ts s e h = absurd cc
merge_made true command.BufferAdd zs ts (base_step.Ask d) e h = refl
merge_made true command.BufferRemove zs ts (base_step.Ask d) e h = refl
merge_made true command.Merge zs ts s e h = let k : base_step.Merge ≡ s = cc in rw (← k) refl
merge_made true (command.Edit f) zs ts (base_step.Edit d) e h = refl
merge_made true c zs ts s e h = absurd cc

place_base : (was : Bool) (c : Command) → stands_in was c ≡ true → is_buffer (back_in_app (place_after c (place_in was))) ≡ true → is_base was c ≡ true
place_base false command.Buffer s e = refl
place_base true c s e = s
place_base false c s e = absurd cc

few_tris : (n : ℕ) (was : Bool) (w : State) → HasMoved n was w → length w.opened.tris.items ≤ 4096
few_tris n was w m = omega (arith, m.count, few_announced w.spot.channels w.opened.command w.opened.numbers.items m.within)

pub makes_step : (n : ℕ) (was : Bool) (w : State) → HasMoved n was w → is_base was w.opened.command ≡ true → MakesStep w
makes_step n was w m b = record { few = few_tris n was w m; some = base_makes was w.opened.command w.opened.numbers.items w.opened.tris.items b }

-- lists that grow at their end

base_push : (ls : List BaseLine) (l : BaseLine) → base_entries (ls ++ l ∷ []) ≡ base_entries ls ++ base_lines l.step
base_push [] l = append-nil (base_lines l.step)
base_push (x ∷ ls) l = ap (λ (es : List Entry). base_lines x.step ++ es) (base_push ls l) ∙ sym (append_assoc (base_lines x.step) (base_entries ls) (base_lines l.step))

numbered_push : (n : ℕ) (ls : List BaseLine) (l : BaseLine) → AreBaseNumbered n ls → l.line ≡ n + length (base_entries ls) → AreBaseNumbered n (ls ++ l ∷ [])
numbered_push n [] l h e = (omega (arith, e), tt)
numbered_push n (x ∷ ls) l h e = (h.0, numbered_push (n + length (base_lines x.step)) ls l h.1 (omega (arith, e, length-append (base_lines x.step) (base_entries ls))))

all_push : (P : BaseLine → Type 0) (ls : List BaseLine) (l : BaseLine) → AllByRecursion P ls → P l → AllByRecursion P (ls ++ l ∷ [])
all_push P [] l h k = (k, tt)
all_push P (x ∷ ls) l h k = (h.0, all_push P ls l h.1 k)

fits_push : (ls : List BaseLine) (l : BaseLine) → list_all (λ l. base_fits l.step) ls ≡ true → base_fits l.step ≡ true → list_all (λ l. base_fits l.step) (ls ++ l ∷ []) ≡ true
fits_push ls l h k = list_all-append (λ l. base_fits l.step) ls (l ∷ []) ∙ rw (h, k) refl

abbrev then_open : Option Bool → List BaseLine → Option Bool
then_open o ls = option_and_then (λ b. open_after b ls) o

open_push : (ls : List BaseLine) (o : Option Bool) (l : BaseLine) (b c : Bool) → then_open o ls ≡ Some b → opened b l.step ≡ Some c → then_open o (ls ++ l ∷ []) ≡ Some c
open_push ls None l b c h k = absurd cc
open_push [] (Some a) l b c h k = let e : a ≡ b = cc in rw (e, k) refl
open_push (x ∷ ls) (Some a) l b c h k = open_push ls (opened a x.step) l b c h k

once_push : (ls : List BaseLine) (l : BaseLine) → AllByRecursion (λ l. is_merge l.step ≡ false) ls → is_merge l.step ≡ true → MergesOnce (ls ++ l ∷ [])
once_push [] l h k = k
once_push (x ∷ []) l h k = (h.0, k)
once_push (x ∷ y ∷ ls) l h k = (h.0, once_push (y ∷ ls) l h.1 k)

begun_open : (was : Bool) (n : ℕ) (ls : List BaseLine) → IsBegun was n ls → open_after false ls ≡ Some was
begun_open true n ls h = h.opened
begun_open false n ls h = rw h refl

buffer_made : (c : Command) (zs : List ℤ) (ts : List Tri) (s : BaseStep) → is_base false c ≡ true → base_step_of c zs ts ≡ Some s → s ≡ base_step.Buffer
buffer_made command.Buffer zs ts s e h = let k : base_step.Buffer ≡ s = cc in sym k
buffer_made c zs ts s e h = absurd cc

begins_push : (was : Bool) (n : ℕ) (ls : List BaseLine) (l : BaseLine) (c : Command) (zs : List ℤ) (ts : List Tri) → IsBegun was n ls → is_base was c ≡ true → base_step_of c zs ts ≡ Some l.step → BeginsWithBuffer (ls ++ l ∷ [])
begins_push true n [] l c zs ts h b e = absurd h.begins
begins_push true n (x ∷ ls) l c zs ts h b e = h.begins
begins_push false n [] l c zs ts h b e = buffer_made c zs ts l.step b e
begins_push false n (x ∷ ls) l c zs ts h b e = absurd cc

-- the steps of a block behind one more
record Grown (n : ℕ) (was : Bool) (w : State) (l : BaseLine) : Type 0 where
  numbered : AreBaseNumbered n (w.block.items ++ l ∷ [])
  written : AllByRecursion (λ l. IsBaseStep l.step) (w.block.items ++ l ∷ [])
  fitting : list_all (λ l. base_fits l.step) (w.block.items ++ l ∷ []) ≡ true
  begins : BeginsWithBuffer (w.block.items ++ l ∷ [])
  inside : Bool
  opens : open_after false (w.block.items ++ l ∷ []) ≡ Some inside
  place : back_in_app (place_after w.opened.command (place_in was)) ≡ place_in inside
  entries : base_entries (w.block.items ++ l ∷ []) ≡ full_of w

-- IsBegun as four facts
begun_numbered : (was : Bool) (n : ℕ) (ls : List BaseLine) → IsBegun was n ls → AreBaseNumbered n ls
begun_numbered true n ls h = h.numbered
begun_numbered false n ls h = rw h tt

begun_written : (was : Bool) (n : ℕ) (ls : List BaseLine) → IsBegun was n ls → AllByRecursion (λ l. IsBaseStep l.step) ls
begun_written true n ls h = h.written
begun_written false n ls h = rw h tt

begun_fits : (was : Bool) (n : ℕ) (ls : List BaseLine) → IsBegun was n ls → list_all (λ l. base_fits l.step) ls ≡ true
begun_fits true n ls h = h.fitting
begun_fits false n ls h = rw h refl

begun_merges : (was : Bool) (n : ℕ) (ls : List BaseLine) → IsBegun was n ls → AllByRecursion (λ l. is_merge l.step ≡ false) ls
begun_merges true n ls h = h.none_merges
begun_merges false n ls h = rw h tt

-- the place behind a step of a block
base_place : (was : Bool) (c : Command) (zs : List ℤ) (ts : List Tri) (s : BaseStep) (b : Bool) → is_base was c ≡ true → base_step_of c zs ts ≡ Some s → opened was s ≡ Some b → back_in_app (place_after c (place_in was)) ≡ place_in b
base_place false command.Buffer zs ts base_step.Buffer true e h k = refl
base_place true command.BufferAdd zs ts (base_step.Ask d) true e h k = refl
base_place true command.BufferRemove zs ts (base_step.Ask d) true e h k = refl
base_place true command.Merge zs ts base_step.Merge false e h k = refl
base_place true (command.Edit f) zs ts (base_step.Edit d) true e h k = refl
base_place was c zs ts s b e h k = absurd cc

grown : (n : ℕ) (was : Bool) (w : State) (s : BaseStep) → HasMoved n was w → w.spot.due ≡ 0 → is_base was w.opened.command ≡ true → base_step_of w.opened.command w.opened.numbers.items w.opened.tris.items ≡ Some s
    → Grown n was w (record { line = w.opened.line; step = s })
grown n was w s m z b e =
    let c = w.opened.command in
    let zs = w.opened.numbers.items in
    let ts = w.opened.tris.items in
    let l : BaseLine = record { line = w.opened.line; step = s } in
    let count : length ts ≡ announced c zs = omega (arith, m.count, z) in
    let back : BaseBack was c zs ts s = subst (λ (o : Option BaseStep). IfSome o (λ s. BaseBack was c zs ts s)) e (base_back w.spot.channels version.Two was c zs ts (base_stands was c b) m.within count m.written) in
    record {
      numbered = numbered_push n w.block.items l (begun_numbered was n w.block.items m.block) m.number;
      written = all_push (λ l. IsBaseStep l.step) w.block.items l (begun_written was n w.block.items m.block) back.written;
      fitting = fits_push w.block.items l (begun_fits was n w.block.items m.block) back.fitting;
      begins = begins_push was n w.block.items l c zs ts m.block b e;
      inside = back.now_inside;
      opens = open_push w.block.items (Some false) l was back.now_inside (begun_open was n w.block.items m.block) back.opens;
      place = base_place was c zs ts s back.now_inside b e back.opens;
      entries = base_push w.block.items l ∙ ap (λ (es : List Entry). base_entries w.block.items ++ es) back.lines;
    }

-- A step was added, and the block goes on.
pub step_added : (n : ℕ) (was : Bool) (w v : State) → HasMoved n was w → w.spot.due ≡ 0 → is_buffer w.spot.place ≡ true → AddsStep w v → Finishes w v None
step_added n was w v m z p a =
    let base : is_base was w.opened.command ≡ true = place_base was w.opened.command m.stands (ap is_buffer (sym m.place) ∙ p) in
    let g = grown n was w a.step m z base a.makes in
    let inside : g.inside ≡ true = sym (buffer_in g.inside) ∙ ap is_buffer (sym g.place ∙ sym m.place) ∙ p in
    let stays : w.spot.place ≡ place.Buffer = m.place ∙ g.place ∙ ap place_in inside in
    let no : may_end w.spot ≡ false = rw (z, stays) refl in
    let merges = merge_made was w.opened.command w.opened.numbers.items w.opened.tris.items a.step base a.makes in
    let not_last : is_merge a.step ≡ false = merges ∙ goes_on was w.opened.command base (ap is_buffer (sym m.place) ∙ p) in
    let entries : base_entries v.block.items ≡ full_of w = rw a.block g.entries in
    let begun : begun_of v ≡ full_of w = rw (a.head, m.head, a.spot, z) (append-nil (base_entries v.block.items) ∙ entries) in
    record {
      held = (
        n,
        record {
          sound = rw a.spot m.sound;
          version = rw a.spot m.version;
          some = m.some;
          few = rw a.line m.few;
          first = rw (begun, a.line) m.first;
          opening = λ e. absurd (omega (arith, e, a.line, m.later));
          head = rw (a.head, m.head, a.spot, stays) tt;
          one = λ e. let k : is_early place.Buffer ≡ true = ap is_early (sym stays ∙ sym (ap (λ (s : Spot). s.place) a.spot)) ∙ e in absurd cc;
          block = rw (a.spot, p, a.block) (record {
            numbered = g.numbered;
            written = g.written;
            fitting = g.fitting;
            begins = g.begins;
            opened = g.opens ∙ ap (λ (b : Bool). Some b) inside;
            none_merges = all_push (λ l. is_merge l.step ≡ false) w.block.items (record { line = w.opened.line; step = a.step }) (begun_merges was n w.block.items m.block) not_last;
          });
          settled = λ _. a.tris;
          due = λ h. absurd (omega (arith, h, ap (λ (s : Spot). s.due) a.spot, z));
        },
      );
      line = a.line;
      spot = a.spot;
      begun = rw no begun;
      spelled = λ k e. rw no refl;
    }
  where
    goes_on : (was : Bool) (c : Command) → is_base was c ≡ true → is_buffer (back_in_app (place_after c (place_in was))) ≡ true → is_merge_line c ≡ false
    goes_on false command.Buffer b e = refl
    goes_on false c b e = absurd cc
    goes_on true command.BufferAdd b e = refl
    goes_on true command.BufferRemove b e = refl
    goes_on true (command.Edit f) b e = refl
    goes_on true command.Merge b e = absurd cc
    goes_on true c b e = absurd cc

-- What is given

-- outside a block
outside_app : (c : Command) → is_buffer (back_in_app (place_after c place.App)) ≡ false → live_outside c ≡ true → back_in_app (place_after c place.App) ≡ place.App
outside_app command.View e s = refl
outside_app command.ChannelView e s = refl
outside_app command.Sync e s = refl
outside_app command.Frame e s = refl
outside_app (command.Edit f) e s = refl
outside_app command.Buffer e s = absurd cc
outside_app c e s = absurd cc

outside : (was : Bool) (c : Command) → is_buffer (back_in_app (place_after c (place_in was))) ≡ false → stands_in was c ≡ true → back_in_app (place_after c (place_in was)) ≡ place.App
outside true command.Merge e s = refl
outside true (command.Edit f) e s = absurd cc
outside true command.BufferAdd e s = absurd cc
outside true command.BufferRemove e s = absurd cc
outside true c e s = absurd cc
outside false c e s = outside_app c e s

pub placed_outside : (n : ℕ) (was : Bool) (w : State) → HasMoved n was w → is_buffer w.spot.place ≡ false → w.spot.place ≡ place.App
placed_outside n was w m e = m.place ∙ outside was w.opened.command (ap is_buffer (sym m.place) ∙ e) m.stands

-- what was whole was given, and nothing is begun
pub given_then : (n : ℕ) (was : Bool) (w u : State) (found : Option Given) → HasMoved n was w → w.spot.due ≡ 0 → w.spot.place ≡ place.App
    → u.line ≡ w.line → u.spot ≡ w.spot → u.head ≡ w.head → u.opened.tris.items ≡ [] → u.block.items ≡ []
    → SpellsGiven w.spot.channels n found (full_of w) → Finishes w u found
given_then n was w u found m z p line spot head tris block spelled =
    let yes : may_end w.spot ≡ true = rw (z, p) refl in
    let begun : begun_of u ≡ [] = rw (head, m.head, block, spot, z) refl in
    record {
      held = (
        w.line,
        record {
          sound = rw spot m.sound;
          version = rw spot m.version;
          some = omega (arith, m.later);
          few = rw line m.few;
          first = rw (begun, line) (omega arith);
          opening = λ e. absurd (omega (arith, e, line, m.later));
          head = rw (head, m.head, spot, p) tt;
          one = λ e. let k : is_early place.App ≡ true = ap is_early (sym p ∙ sym (ap (λ (s : Spot). s.place) spot)) ∙ e in absurd cc;
          block = rw (spot, p) block;
          settled = λ _. tris;
          due = λ h. absurd (omega (arith, h, ap (λ (s : Spot). s.due) spot, z));
        },
      );
      line = line;
      spot = spot;
      begun = rw yes begun;
      spelled = λ k e. rw yes (subst (λ (j : ℕ). SpellsGiven w.spot.channels j found (full_of w)) (omega (arith, e, m.first)) spelled);
    }

-- `merge` closes the block that is begun
merge_inside : (was : Bool) (c : Command) → c ≡ command.Merge → stands_in was c ≡ true → was ≡ true
merge_inside true c e s = refl
merge_inside false c e s = let k : stands_in false command.Merge ≡ true = subst (λ (d : Command). stands_in false d ≡ true) e s in absurd cc

merge_base : (was : Bool) (c : Command) → c ≡ command.Merge → stands_in was c ≡ true → is_base was c ≡ true
merge_base was c e s = let k = merge_inside was c e s in rw (k, e) refl

pub makes_merge : (n : ℕ) (was : Bool) (w : State) → HasMoved n was w → w.opened.command ≡ command.Merge → MakesStep w
makes_merge n was w m e = makes_step n was w m (merge_base was w.opened.command e m.stands)

pub makes_inside : (n : ℕ) (was : Bool) (w : State) → HasMoved n was w → is_buffer w.spot.place ≡ true → MakesStep w
makes_inside n was w m p = makes_step n was w m (place_base was w.opened.command m.stands (ap is_buffer (sym m.place) ∙ p))

pub block_spells : (n : ℕ) (was : Bool) (w v : State) → HasMoved n was w → w.spot.due ≡ 0 → w.opened.command ≡ command.Merge → AddsStep w v → SpellsBlock n v.block.items (full_of w)
block_spells n was w v m z e a =
    let base = merge_base was w.opened.command e m.stands in
    let g = grown n was w a.step m z base a.makes in
    let closed : g.inside ≡ false = sym (buffer_in g.inside) ∙ ap is_buffer (sym g.place) ∙ rw e (merged was) in
    let merges = merge_made was w.opened.command w.opened.numbers.items w.opened.tris.items a.step base a.makes ∙ rw e refl in
    rw a.block (record {
      lines = sym g.entries;
      numbered = g.numbered;
      written = g.written;
      fitting = g.fitting;
      begins = g.begins;
      closed = g.opens ∙ ap (λ (b : Bool). Some b) closed;
      once = once_push w.block.items (record { line = w.opened.line; step = a.step }) (begun_merges was n w.block.items m.block) merges;
    })
  where
    merged : (was : Bool) → is_buffer (back_in_app (place_after command.Merge (place_in was))) ≡ false
    merged true = refl
    merged false = refl

pub not_buffer : (p : Place) → (p ≡ place.Buffer → ⊥) → is_buffer p ≡ false
not_buffer place.Buffer n = absurd (n refl)
not_buffer p n = refl

-- Lines of the application

app_outside : (c : Command) → live_outside c ≡ true → is_buffer (back_in_app (place_after c place.App)) ≡ false → live_app c ≡ true
app_outside command.Buffer s e = absurd cc
app_outside command.View s e = refl
app_outside command.ChannelView s e = refl
app_outside command.Sync s e = refl
app_outside command.Frame s e = refl
app_outside (command.Edit f) s e = refl
app_outside c s e = absurd cc

app_command : (was : Bool) (c : Command) → stands_in was c ≡ true → is_buffer (back_in_app (place_after c (place_in was))) ≡ false → (c ≡ command.Merge → ⊥) → (was ≡ false) × (live_app c ≡ true)
app_command false c s e n = (refl, app_outside c s e)
app_command true command.Merge s e n = absurd (n refl)
app_command true (command.Edit f) s e n = absurd cc
app_command true command.BufferAdd s e n = absurd cc
app_command true command.BufferRemove s e n = absurd cc
app_command true c s e n = absurd cc

app_makes : (c : Command) (zs : List ℤ) (ts : List Tri) → live_app c ≡ true → IsSome (app_step_of c zs ts)
app_makes command.View zs ts e = refl
app_makes command.ChannelView zs ts e = refl
app_makes command.Sync zs ts e = refl
app_makes command.Frame zs ts e = refl
app_makes (command.Edit f) zs ts e = refl
app_makes c zs ts e = absurd cc

app_goes : (c : Command) (zs : List ℤ) (ts : List Tri) (s : AppStep) → live_app c ≡ true → app_step_of c zs ts ≡ Some s → is_wait s ≡ false
app_goes command.View zs ts (app_step.View i v) e h = refl
app_goes command.ChannelView zs ts (app_step.View i v) e h = refl
app_goes command.Sync zs ts app_step.Sync e h = refl
app_goes command.Frame zs ts app_step.Frame e h = refl
app_goes (command.Edit f) zs ts (app_step.Edit d) e h = refl
app_goes c zs ts s e h = absurd cc

-- what is asked of the command of a line of the application
pub app_asks : (n : ℕ) (was : Bool) (w : State) → HasMoved n was w → is_buffer w.spot.place ≡ false → (w.opened.command ≡ command.Merge → ⊥)
    → (length w.opened.tris.items ≤ 4096) × IsSome (app_step_of w.opened.command w.opened.numbers.items w.opened.tris.items)
app_asks n was w m p e =
    let a = app_command was w.opened.command m.stands (ap is_buffer (sym m.place) ∙ p) e in
    (few_tris n was w m, app_makes w.opened.command w.opened.numbers.items w.opened.tris.items a.1)

pub line_given : (n : ℕ) (was : Bool) (w u : State) (l : AppLine) → HasMoved n was w → w.spot.due ≡ 0 → is_buffer w.spot.place ≡ false → (w.opened.command ≡ command.Merge → ⊥)
    → l.line ≡ w.opened.line → app_step_of w.opened.command w.opened.numbers.items w.opened.tris.items ≡ Some l.step
    → u.line ≡ w.line → u.spot ≡ w.spot → u.head ≡ w.head → u.opened.tris.items ≡ [] → u.block.items ≡ w.block.items → Finishes w u (Some (given.Line l))
line_given n was w u l m z p e number makes line spot head tris block =
    let c = w.opened.command in
    let zs = w.opened.numbers.items in
    let ts = w.opened.tris.items in
    let a = app_command was c m.stands (ap is_buffer (sym m.place) ∙ p) e in
    let none : w.block.items ≡ [] = subst (λ (b : Bool). IsBegun b n w.block.items) a.0 m.block in
    let count : length ts ≡ announced c zs = omega (arith, m.count, z) in
    let back : AppBack w.spot.channels c zs ts l.step = subst (λ (o : Option AppStep). IfSome o (λ s. AppBack w.spot.channels c zs ts s)) makes (app_back w.spot.channels c zs ts m.sound.some_channel m.sound.channels m.within count m.written) in
    let full : full_of w ≡ opened_entries w.opened = rw none refl in
    let first : l.line ≡ n = number ∙ m.number ∙ rw none (omega arith) in
    given_then n was w u (Some (given.Line l)) m z (placed_outside n was w m p) line spot head tris (block ∙ none)
    (record { lines = full ∙ sym back.lines; number = first; written = back.written; fitting = back.fitting; goes = app_goes c zs ts l.step a.1 makes })
