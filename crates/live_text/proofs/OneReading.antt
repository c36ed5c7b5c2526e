-- A live text has at most one header and list of commands.
use Rattle.std.proofs.Common.{◌≡◌, ℕ, ◌+◌, ◌<◌, ◌≤◌, arith, refl, true, false, ap, sym, ◌∙◌, Bool, List, [], ◌∷◌, ◌++◌, length, subst, Result, Ok, append_assoc, zero, suc}
use Rattle.std.specs.List.{AllByRecursion}
use Rattle.std.proofs.lemmas.List.{append-nil, length-append}
use Rattle.fx_math.specs.declared.lenses.Lens.{Lens}
use Rattle.pf_model.specs.declared.lines.AppStep.{AppStep}
use Rattle.pf_model.specs.declared.lines.AppStep.TheVariants as app_step
use Rattle.pf_model.specs.declared.lines.AppLine.{AppLine}
use Rattle.pf_model.specs.declared.lines.BaseStep.{BaseStep}
use Rattle.pf_model.specs.declared.lines.BaseStep.TheVariants as base_step
use Rattle.pf_model.specs.declared.lines.BaseLine.{BaseLine}
use Rattle.play_format.specs.declared.refusal.Refusal.{Refusal}
use Rattle.play_format.specs.declared.commands.Command.TheVariants as command
use Rattle.play_format.specs.declared.places.Version.TheVariants as version
use Rattle.play_format.specs.Words.{pieces}
use Rattle.play_format.specs.Commands.{Entry}
use Rattle.play_format.specs.Places.{start}
use Rattle.play_format.specs.Spelling.{app_entry, app_lines, base_entry, base_lines, base_entries, header_entries, AreBaseNumbered}
use Rattle.play_format.specs.Written.{IsBaseStep}
use Rattle.play_format.proofs.OneLemmas.{AllWithin, rest_within, head_same, app_step_same, base_step_same, app_line_same, base_line_same, header_same, channels_same}
use Rattle.live_text.specs.LiveGrammar.{live_from, live_reading}
use Rattle.live_text.specs.LiveCommands.{LiveCommand, Line, Block, LiveHeader, is_merge, MergesOnce, BeginsWithBuffer, SpellsHeader, SpellsLine, SpellsBlock, SpellsCommand, SpellCommands, SpellsLive}
use Rattle.live_text.specs.Laws.{HasOneLiveReading, OnlyAddsCommands}
use Rattle.live_text.proofs.Reading.{text_entries, all_within, ends_empty, read_front, some_pieces, pieces_more}

-- One command

app_not_buffer : (s : AppStep) → (app_entry s).0 ≡ command.Buffer → ⊥
app_not_buffer (app_step.Edit e) h = cc
app_not_buffer (app_step.View zero v) h = cc
app_not_buffer (app_step.View (suc c) v) h = cc
app_not_buffer s h = cc

-- a line of the application is no block
line_no_block : (s : AppStep) (ls : List BaseLine) (xs ys : List Entry) → BeginsWithBuffer ls → app_lines s ++ xs ≡ base_entries ls ++ ys → ⊥
line_no_block s [] xs ys b e = absurd b
line_no_block s (l ∷ ls) xs ys b e =
    app_not_buffer s (ap (λ (e : Entry). e.0) (head_same (app_entry s) (base_entry l.step) _ _ e) ∙ ap (λ (t : BaseStep). (base_entry t).0) b)

-- blocks with the same lines in front are the same

abbrev AreWritten : List BaseLine → Type 0
AreWritten ls = AllByRecursion (λ l. IsBaseStep l.step) ls

merge_differs : (s t : BaseStep) → s ≡ t → is_merge s ≡ true → is_merge t ≡ false → ⊥
merge_differs s t e f g = let k : true ≡ false = sym f ∙ ap is_merge e ∙ g in absurd cc

record StepSame (l m : BaseLine) (xs ys : List Entry) : Type 0 where
  step : l.step ≡ m.step
  line : l ≡ m
  rest : xs ≡ ys
  within : AllWithin xs

step_same : (n : ℕ) (l m : BaseLine) (xs ys : List Entry) → base_lines l.step ++ xs ≡ base_lines m.step ++ ys → AllWithin (base_lines l.step ++ xs) → IsBaseStep l.step → IsBaseStep m.step → l.line ≡ n → m.line ≡ n → StepSame l m xs ys
step_same n l m xs ys e w h k p q =
    let s = base_step_same l.step m.step xs ys h k e w (subst AllWithin e w) in
    record { step = s.0; line = base_line_same l m n p q s.0; rest = s.1; within = rest_within (base_lines l.step) xs w }

front_same : (n : ℕ) (l m : BaseLine) (ls ms : List BaseLine) (xs ys : List Entry) → base_entries (l ∷ ls) ++ xs ≡ base_entries (m ∷ ms) ++ ys → AllWithin (base_entries (l ∷ ls) ++ xs) → IsBaseStep l.step → IsBaseStep m.step → l.line ≡ n → m.line ≡ n
    → StepSame l m (base_entries ls ++ xs) (base_entries ms ++ ys)
front_same n l m ls ms xs ys e w h k p q =
    let g : base_lines l.step ++ (base_entries ls ++ xs) ≡ base_lines m.step ++ (base_entries ms ++ ys) = sym (append_assoc (base_lines l.step) (base_entries ls) xs) ∙ e ∙ append_assoc (base_lines m.step) (base_entries ms) ys in
    let v : AllWithin (base_lines l.step ++ (base_entries ls ++ xs)) = subst AllWithin (append_assoc (base_lines l.step) (base_entries ls) xs) w in
    step_same n l m (base_entries ls ++ xs) (base_entries ms ++ ys) g v h k p q

block_same : (n : ℕ) (ls ms : List BaseLine) (xs ys : List Entry) → base_entries ls ++ xs ≡ base_entries ms ++ ys → AllWithin (base_entries ls ++ xs) → AreWritten ls → AreWritten ms → AreBaseNumbered n ls → AreBaseNumbered n ms
    → MergesOnce ls → MergesOnce ms → (ls ≡ ms) × (xs ≡ ys)
block_same n [] ms xs ys e w h k p q a b = absurd a
block_same n (l ∷ ls) [] xs ys e w h k p q a b = absurd b
block_same n (l ∷ []) (m ∷ []) xs ys e w h k p q a b =
    let s = front_same n l m [] [] xs ys e w h.0 k.0 p.0 q.0 in
    (ap (λ (x : BaseLine). x ∷ []) s.line, s.rest)
block_same n (l ∷ []) (m ∷ d ∷ ds) xs ys e w h k p q a b =
    absurd (merge_differs l.step m.step (front_same n l m [] (d ∷ ds) xs ys e w h.0 k.0 p.0 q.0).step a b.0)
block_same n (l ∷ c ∷ cs) (m ∷ []) xs ys e w h k p q a b =
    absurd (merge_differs m.step l.step (sym (front_same n l m (c ∷ cs) [] xs ys e w h.0 k.0 p.0 q.0).step) b a.0)
block_same n (l ∷ c ∷ cs) (m ∷ d ∷ ds) xs ys e w h k p q a b =
    let s = front_same n l m (c ∷ cs) (d ∷ ds) xs ys e w h.0 k.0 p.0 q.0 in
    let numbered = subst (λ (t : BaseStep). AreBaseNumbered (n + length (base_lines t)) (d ∷ ds)) (sym s.step) q.1 in
    let r = block_same (n + length (base_lines l.step)) (c ∷ cs) (d ∷ ds) xs ys s.rest s.within h.1 k.1 p.1 numbered a.1 b.1 in
    (ap (λ (x : BaseLine). x ∷ c ∷ cs) s.line ∙ ap (λ (ls : List BaseLine). m ∷ ls) r.0, r.1)

record CommandSame (c d : LiveCommand) (x y a b : List Entry) : Type 0 where
  same : c ≡ d
  lines : x ≡ y
  rest : a ≡ b

abbrev block : List BaseLine → LiveCommand
block ls = Block ls

abbrev line : AppLine → LiveCommand
line l = Line l

-- commands with the same lines in front are the same
command_same : (channels n : ℕ) (c d : LiveCommand) (x y a b : List Entry) → SpellsCommand channels n c x → SpellsCommand channels n d y → x ++ a ≡ y ++ b → AllWithin (x ++ a) → CommandSame c d x y a b
command_same channels n (Line l) (Line m) x y a b p q e w =
    let f : app_lines l.step ++ a ≡ app_lines m.step ++ b = ap (λ (v : List Entry). v ++ a) (sym p.lines) ∙ e ∙ ap (λ (v : List Entry). v ++ b) q.lines in
    let v : AllWithin (app_lines l.step ++ a) = subst (λ (v : List Entry). AllWithin (v ++ a)) p.lines w in
    let s = app_step_same l.step m.step a b p.written q.written f v (subst AllWithin f v) in
    record { same = ap line (app_line_same l m n p.number q.number s.0); lines = p.lines ∙ ap app_lines s.0 ∙ sym q.lines; rest = s.1 }
command_same channels n (Block ls) (Block ms) x y a b p q e w =
    let f : base_entries ls ++ a ≡ base_entries ms ++ b = ap (λ (v : List Entry). v ++ a) (sym p.lines) ∙ e ∙ ap (λ (v : List Entry). v ++ b) q.lines in
    let v : AllWithin (base_entries ls ++ a) = subst (λ (v : List Entry). AllWithin (v ++ a)) p.lines w in
    let s = block_same n ls ms a b f v p.written q.written p.numbered q.numbered p.once q.once in
    record { same = ap block s.0; lines = p.lines ∙ ap base_entries s.0 ∙ sym q.lines; rest = s.1 }
command_same channels n (Line l) (Block ms) x y a b p q e w =
    absurd (line_no_block l.step ms a b q.begins (ap (λ (v : List Entry). v ++ a) (sym p.lines) ∙ e ∙ ap (λ (v : List Entry). v ++ b) q.lines))
command_same channels n (Block ls) (Line m) x y a b p q e w =
    absurd (line_no_block m.step ls b a p.begins (ap (λ (v : List Entry). v ++ b) (sym q.lines) ∙ sym e ∙ ap (λ (v : List Entry). v ++ a) p.lines))

-- Commands

block_some : (ls : List BaseLine) → BeginsWithBuffer ls → 0 < length (base_entries ls)
block_some [] b = absurd b
block_some (l ∷ ls) b = omega arith

-- a command has lines
pub command_some : (channels n : ℕ) (c : LiveCommand) (x : List Entry) → SpellsCommand channels n c x → 0 < length x
command_some channels n (Line l) x p = rw p.lines (omega arith)
command_some channels n (Block ls) x p = rw p.lines (block_some ls p.begins)

record Later (channels : ℕ) (cs ds : List LiveCommand) (gs : List Entry) : Type 0 where
  later : List LiveCommand
  number : ℕ
  whole : ds ≡ cs ++ later
  spelled : SpellCommands channels number later gs

-- commands whose lines begin with those of others begin with these
commands_later : (channels n : ℕ) (cs ds : List LiveCommand) (es gs : List Entry) → SpellCommands channels n cs es → SpellCommands channels n ds (es ++ gs) → AllWithin (es ++ gs) → Later channels cs ds gs
commands_later channels n [] ds es gs h k w = record { later = ds; number = n; whole = refl; spelled = subst (λ (xs : List Entry). SpellCommands channels n ds (xs ++ gs)) h k }
commands_later channels n (c ∷ cs) [] es gs h k w =
    absurd (omega (arith, command_some channels n c h.0 h.3, ap (λ (xs : List Entry). length xs) h.2, ap (λ (xs : List Entry). length xs) k, length-append h.0 h.1, length-append es gs))
commands_later channels n (c ∷ cs) (d ∷ ds) es gs h k w =
    let f : es ++ gs ≡ h.0 ++ (h.1 ++ gs) = ap (λ (xs : List Entry). xs ++ gs) h.2 ∙ append_assoc h.0 h.1 gs in
    let v : AllWithin (h.0 ++ (h.1 ++ gs)) = subst AllWithin f w in
    let s = command_same channels n c d h.0 k.0 (h.1 ++ gs) k.1 h.3 k.3 (sym f ∙ k.2) v in
    let more : SpellCommands channels (n + length h.0) ds (h.1 ++ gs) = subst (λ (xs : List Entry). SpellCommands channels (n + length h.0) ds xs) (sym s.rest) (subst (λ (xs : List Entry). SpellCommands channels (n + length xs) ds k.1) (sym s.lines) k.4) in
    let r = commands_later channels (n + length h.0) cs ds h.1 gs h.4 more (rest_within h.0 (h.1 ++ gs) v) in
    record { later = r.later; number = r.number; whole = ap (λ (x : LiveCommand). x ∷ ds) (sym s.same) ∙ ap (λ (xs : List LiveCommand). c ∷ xs) r.whole; spelled = r.spelled }

none_later : (channels n : ℕ) (cs : List LiveCommand) → SpellCommands channels n cs [] → cs ≡ []
none_later channels n [] h = refl
none_later channels n (c ∷ cs) h =
    absurd (omega (arith, command_some channels n c h.0 h.3, ap (λ (xs : List Entry). length xs) h.2, length-append h.0 h.1))

-- Headers

abbrev header : Lens → List ℕ → ℕ → LiveHeader
header lens back channels = record { lens = lens; back = back; channels = channels }

record HeaderOne (h k : LiveHeader) (x y a b : List Entry) : Type 0 where
  same : h ≡ k
  lines : x ≡ y
  rest : a ≡ b

header_one : (h k : LiveHeader) (x y a b : List Entry) → SpellsHeader h x → SpellsHeader k y → x ++ a ≡ y ++ b → HeaderOne h k x y a b
header_one h k x y a b p q e =
    let f : header_entries p.says h.lens h.back h.channels ++ a ≡ header_entries q.says k.lens k.back k.channels ++ b = ap (λ (v : List Entry). v ++ a) (sym p.lines) ∙ e ∙ ap (λ (v : List Entry). v ++ b) q.lines in
    let head = header_same h.lens k.lens h.back k.back _ _ f in
    let start = channels_same p.says q.says h.channels k.channels a b p.one_channel q.one_channel head.rest in
    record {
      same = ap (λ (l : Lens). header l h.back h.channels) head.lens ∙ ap (λ (v : List ℕ). header k.lens v h.channels) head.back ∙ ap (λ (n : ℕ). header k.lens k.back n) start.channels;
      lines = p.lines ∙ ap (λ (v : Bool). header_entries v h.lens h.back h.channels) start.says ∙ ap (λ (l : Lens). header_entries q.says l h.back h.channels) head.lens
          ∙ ap (λ (v : List ℕ). header_entries q.says k.lens v h.channels) head.back ∙ ap (λ (n : ℕ). header_entries q.says k.lens k.back n) start.channels ∙ sym q.lines;
      rest = start.body;
    }

-- Texts

record LaterText (h k : LiveHeader) (cs ds : List LiveCommand) (gs : List Entry) : Type 0 where
  same : h ≡ k
  commands : Later h.channels cs ds gs

lines_later : (h k : LiveHeader) (cs ds : List LiveCommand) (x y a b gs : List Entry) → SpellsHeader h x → SpellsHeader k y → SpellCommands h.channels (2 + length x) cs a → SpellCommands k.channels (2 + length y) ds b
    → y ++ b ≡ (x ++ a) ++ gs → AllWithin (y ++ b) → LaterText h k cs ds gs
lines_later h k cs ds x y a b gs p q c d e w =
    let f : x ++ (a ++ gs) ≡ y ++ b = sym (append_assoc x a gs) ∙ sym e in
    let s = header_one h k x y (a ++ gs) b p q f in
    let more : SpellCommands h.channels (2 + length x) ds (a ++ gs) =
    subst (λ (v : LiveHeader). SpellCommands v.channels (2 + length x) ds (a ++ gs)) (sym s.same) (subst (λ (v : List Entry). SpellCommands k.channels (2 + length v) ds (a ++ gs)) (sym s.lines) (subst (λ (v : List Entry). SpellCommands k.channels (2 + length y) ds v) (sym s.rest) d)) in
    record { same = s.same; commands = commands_later h.channels (2 + length x) cs ds a gs c more (rest_within x (a ++ gs) (subst AllWithin (sym f) w)) }

pub text_within : (text : List ℕ) (es : List Entry) → live_reading text ≡ Ok es → AllWithin es
text_within text es e = all_within (start version.Two) 1 (pieces text) es (omega arith) (omega arith) e

same_entries : (es fs : List Entry) → text_entries es ≡ text_entries fs → es ≡ fs
same_entries es fs e = cc

pub one_reading : HasOneLiveReading
one_reading text h k cs ds p q =
    let e : p.header_lines ++ p.lines ≡ q.header_lines ++ q.lines = same_entries _ _ (sym p.read ∙ q.read) in
    let s = lines_later h k cs ds p.header_lines q.header_lines p.lines q.lines [] p.header q.header p.commands q.commands (sym e ∙ sym (append-nil (p.header_lines ++ p.lines))) (text_within text (q.header_lines ++ q.lines) q.read) in
    let none : s.commands.later ≡ [] = none_later h.channels s.commands.number s.commands.later s.commands.spelled in
    (s.same, sym (s.commands.whole ∙ ap (λ (xs : List LiveCommand). cs ++ xs) none ∙ append-nil cs))

-- the lines of a text are the first lines of a longer one
text_front : (text more : List ℕ) (es fs : List Entry) → live_reading text ≡ Ok es → live_reading (text ++ more) ≡ Ok fs → (gs : List Entry) × (fs ≡ es ++ gs)
text_front text more es fs e f =
    let s = start version.Two in
    let k = ends_empty s 1 (pieces text) es (some_pieces text) e in
    read_front s 1 k.0 (pieces more) es fs (some_pieces more) (subst (λ (ls : List (List ℕ)). live_from s 1 ls ≡ Ok es) k.1 e) (subst (λ (ls : List (List ℕ)). live_from s 1 ls ≡ Ok fs) (pieces_more text more k.0 k.1) f)

pub only_adds : OnlyAddsCommands
only_adds text more h k cs ds p q =
    let g = text_front text more (p.header_lines ++ p.lines) (q.header_lines ++ q.lines) p.read q.read in
    let s = lines_later h k cs ds p.header_lines q.header_lines p.lines q.lines g.0 p.header q.header p.commands q.commands g.1 (text_within (text ++ more) (q.header_lines ++ q.lines) q.read) in
    (s.same, s.commands.later, s.commands.whole)
