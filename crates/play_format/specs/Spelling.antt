-- The lines of a play's steps, and their spelling. Nothing here reads.
use Rattle.std.specs.Prelude.{◌≡◌, ℕ, ◌+◌, Bool, true, false, zero, suc, List, [], ◌∷◌, ◌++◌, map, codes, ℤ, pos, length}
use Rattle.std.specs.List.{flat_map, join_with_byte}
use Rattle.std.specs.Fmt.{signed_decimal}
use Rattle.fx_math.specs.declared.vectors.Vec3.{Vec3}
use Rattle.fx_math.specs.declared.matrices.Affine.{Affine}
use Rattle.fx_math.specs.declared.lenses.Lens.{Lens}
use Rattle.pf_model.specs.Angles.{Viewpoint}
use Rattle.pf_model.specs.declared.geometry.Tri.{Tri}
use Rattle.pf_model.specs.declared.nodes.Kind.{Kind}
use Rattle.pf_model.specs.declared.nodes.Kind.TheVariants as kind
use Rattle.pf_model.specs.declared.nodes.Pick.{Pick}
use Rattle.pf_model.specs.declared.nodes.Pick.TheVariants as pick
use Rattle.pf_model.specs.declared.edits.Edit.{Edit}
use Rattle.pf_model.specs.declared.edits.Edit.TheVariants as edit
use Rattle.pf_model.specs.declared.lines.AppStep.{AppStep}
use Rattle.pf_model.specs.declared.lines.AppStep.TheVariants as app_step
use Rattle.pf_model.specs.declared.lines.AppLine.{AppLine}
use Rattle.pf_model.specs.declared.lines.BaseStep.{BaseStep}
use Rattle.pf_model.specs.declared.lines.BaseStep.TheVariants as base_step
use Rattle.pf_model.specs.declared.lines.BaseLine.{BaseLine}
use Rattle.play_format.specs.declared.commands.Form.{Form}
use Rattle.play_format.specs.declared.commands.Form.TheVariants as form
use Rattle.play_format.specs.declared.commands.Command.TheVariants as command
use Rattle.play_format.specs.declared.places.Version.{Version}
use Rattle.play_format.specs.declared.places.Version.TheVariants as version
use Rattle.play_format.specs.Commands.{Entry, text_of, tail_of}

-- the words of a line: those of its command round its numbers
abbrev pub words_of : Entry → List (List ℕ)
words_of e = text_of e.0 ∷ (map signed_decimal e.1 ++ tail_of e.0)

-- its text, without the line feed
abbrev pub line_of : Entry → List ℕ
line_of e = join_with_byte 32 (words_of e)

-- each line ends with a line feed
abbrev pub text_of_lines : List (List ℕ) → List ℕ
text_of_lines lines = flat_map (λ line. line ++ 10 ∷ []) lines

abbrev pub version_line : Version → List ℕ
version_line version.One = codes "perfly 1"
version_line version.Two = codes "perfly 2"

-- The numbers of points, matrices, views and triangles

abbrev pub point_numbers : Vec3 → List ℤ
point_numbers v = v.x ∷ v.y ∷ v.z ∷ []

abbrev pub matrix_numbers : Affine → List ℤ
matrix_numbers m = flat_map (λ row. row) m.a ++ point_numbers m.t

abbrev pub view_numbers : Viewpoint → List ℤ
view_numbers v = v.eye.x ∷ v.eye.y ∷ v.eye.z ∷ v.h ∷ v.p ∷ v.r ∷ []

-- each vertex with its colour
abbrev pub corner_numbers : List Vec3 → List (List ℕ) → List ℤ
corner_numbers (v ∷ vs) (c ∷ cs) = point_numbers v ++ (map pos c ++ corner_numbers vs cs)
corner_numbers _ _ = []

abbrev pub tri_entry : Tri → Entry
tri_entry t = (command.Triangle, corner_numbers t.v t.c)

-- Edits

-- the form that makes a node of a kind
abbrev pub kind_form : Kind → Form
kind_form kind.Group = form.Group
kind_form (kind.Switch p) = form.Switch
kind_form (kind.Scs m) = form.Scs
kind_form (kind.Dcs p) = form.Dcs
kind_form (kind.Lod c rs) = form.Lod
kind_form (kind.Seq ts r) = form.Seq
kind_form kind.Layer = form.Layer
kind_form (kind.Geode s ts) = form.Geode
kind_form (kind.Glass s a ts) = form.Glass

-- its numbers behind the id
abbrev pub kind_numbers : Kind → List ℤ
kind_numbers (kind.Scs m) = matrix_numbers m
kind_numbers (kind.Geode s ts) = pos s ∷ pos (length ts) ∷ []
kind_numbers (kind.Glass s a ts) = pos s ∷ pos a ∷ pos (length ts) ∷ []
kind_numbers _ = []

abbrev pub kind_triangles : Kind → List Tri
kind_triangles (kind.Geode s ts) = ts
kind_triangles (kind.Glass s a ts) = ts
kind_triangles _ = []

abbrev pub pick_form : Pick → Form
pick_form pick.On = form.SwitchOn
pick_form pick.Off = form.SwitchOff
pick_form (pick.One i) = form.SwitchTo

abbrev pub pick_numbers : Pick → List ℤ
pick_numbers (pick.One i) = pos i ∷ []
pick_numbers _ = []

abbrev pub edit_form : Edit → Form
edit_form (edit.Make id k) = kind_form k
edit_form (edit.Add p c) = form.Add
edit_form (edit.Insert p i c) = form.Insert
edit_form (edit.Replace p c b) = form.Replace
edit_form (edit.Remove p c) = form.Remove
edit_form (edit.Delete id) = form.Delete
edit_form (edit.Pick id p) = pick_form p
edit_form (edit.Mat id m) = form.Mat
edit_form (edit.Trans id t) = form.Trans
edit_form (edit.Rot id h p r) = form.Rot
edit_form (edit.Scale id s) = form.Scale
edit_form (edit.Range id i v) = form.Range
edit_form (edit.Centre id c) = form.Centre
edit_form (edit.Times id i n) = form.Times
edit_form (edit.Run id) = form.Run
edit_form (edit.Stop id) = form.Stop
edit_form (edit.Verts id ts) = form.Verts

abbrev pub edit_numbers : Edit → List ℤ
edit_numbers (edit.Make id k) = pos id ∷ kind_numbers k
edit_numbers (edit.Add p c) = pos p ∷ pos c ∷ []
edit_numbers (edit.Insert p i c) = pos p ∷ pos i ∷ pos c ∷ []
edit_numbers (edit.Replace p c b) = pos p ∷ pos c ∷ pos b ∷ []
edit_numbers (edit.Remove p c) = pos p ∷ pos c ∷ []
edit_numbers (edit.Delete id) = pos id ∷ []
edit_numbers (edit.Pick id p) = pos id ∷ pick_numbers p
edit_numbers (edit.Mat id m) = pos id ∷ matrix_numbers m
edit_numbers (edit.Trans id t) = pos id ∷ point_numbers t
edit_numbers (edit.Rot id h p r) = pos id ∷ h ∷ p ∷ r ∷ []
edit_numbers (edit.Scale id s) = pos id ∷ s ∷ []
edit_numbers (edit.Range id i v) = pos id ∷ pos i ∷ pos v ∷ []
edit_numbers (edit.Centre id c) = pos id ∷ point_numbers c
edit_numbers (edit.Times id i n) = pos id ∷ pos i ∷ pos n ∷ []
edit_numbers (edit.Run id) = pos id ∷ []
edit_numbers (edit.Stop id) = pos id ∷ []
edit_numbers (edit.Verts id ts) = pos id ∷ pos (length ts) ∷ []

-- the line of an edit, and the triangles behind it
abbrev pub edit_entry : Edit → Entry
edit_entry e = (command.Edit (edit_form e), edit_numbers e)

abbrev pub edit_triangles : Edit → List Tri
edit_triangles (edit.Make id k) = kind_triangles k
edit_triangles (edit.Verts id ts) = ts
edit_triangles _ = []

-- the text of an edit, without its triangle lines
abbrev pub edit_text : Edit → List ℕ
edit_text e = line_of (edit_entry e)

-- Steps

abbrev pub view_entry : ℕ → Viewpoint → Entry
view_entry zero v = (command.View, view_numbers v)
view_entry (suc c) v = (command.ChannelView, pos (suc c) ∷ view_numbers v)

abbrev pub app_entry : AppStep → Entry
app_entry (app_step.Edit e) = edit_entry e
app_entry (app_step.View c v) = view_entry c v
app_entry app_step.Sync = (command.Sync, [])
app_entry app_step.Frame = (command.Frame, [])
app_entry (app_step.Wait n) = (command.Wait, pos n ∷ [])

abbrev pub app_triangles : AppStep → List Tri
app_triangles (app_step.Edit e) = edit_triangles e
app_triangles _ = []

-- a link that is asked for: an Add or a Remove
abbrev pub ask_entry : Edit → Entry
ask_entry (edit.Remove p c) = (command.BufferRemove, pos p ∷ pos c ∷ [])
ask_entry e = (command.BufferAdd, edit_numbers e)

abbrev pub base_entry : BaseStep → Entry
base_entry base_step.Buffer = (command.Buffer, [])
base_entry (base_step.Edit e) = edit_entry e
base_entry (base_step.Ask e) = ask_entry e
base_entry base_step.Merge = (command.Merge, [])
base_entry (base_step.Await n) = (command.Await, pos n ∷ [])

abbrev pub base_triangles : BaseStep → List Tri
base_triangles (base_step.Edit e) = edit_triangles e
base_triangles _ = []

-- the lines of a step: its own, and its triangle lines
abbrev pub app_lines : AppStep → List Entry
app_lines s = app_entry s ∷ map tri_entry (app_triangles s)

abbrev pub base_lines : BaseStep → List Entry
base_lines s = base_entry s ∷ map tri_entry (base_triangles s)

-- The lines of a section, and of the header

abbrev pub app_entries : List AppLine → List Entry
app_entries ls = flat_map (λ l. app_lines l.step) ls

-- the line of a step is that of its command
abbrev pub AreAppNumbered : ℕ → List AppLine → Type 0
AreAppNumbered n [] = Unit {0}
AreAppNumbered n (l ∷ ls) = (l.line ≡ n) × AreAppNumbered (n + length (app_lines l.step)) ls

abbrev pub base_entries : List BaseLine → List Entry
base_entries ls = flat_map (λ l. base_lines l.step) ls

abbrev pub AreBaseNumbered : ℕ → List BaseLine → Type 0
AreBaseNumbered n [] = Unit {0}
AreBaseNumbered n (l ∷ ls) = (l.line ≡ n) × AreBaseNumbered (n + length (base_lines l.step)) ls

abbrev pub channels_entries : Bool → ℕ → List Entry
channels_entries false n = []
channels_entries true n = (command.Channels, pos n ∷ []) ∷ []

-- the lines of the header behind the first
abbrev pub header_entries : Bool → Lens → List ℕ → ℕ → List Entry
header_entries says lens back channels =
    (command.Size, pos lens.w ∷ pos lens.h ∷ [])
    ∷ (command.Lens, pos lens.f ∷ lens.near ∷ lens.far ∷ [])
    ∷ (command.Back, map pos back)
    ∷ (channels_entries says channels ++ (command.App, []) ∷ [])
