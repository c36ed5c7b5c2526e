-- The lines of a play behind the first: the word that each begins with, the limits of its numbers, and its closing word.
use Rattle.std.specs.Prelude.{ℕ, ◌+◌, ◌-◌, List, [], ◌∷◌, ◌++◌, length, codes, ℤ, pos, negsuc}
use Rattle.play_format.specs.declared.numbers.Limits.{Limits}
use Rattle.play_format.specs.declared.commands.Form.{Form}
use Rattle.play_format.specs.declared.commands.Form.TheVariants as form
use Rattle.play_format.specs.declared.commands.Command.{Command}
use Rattle.play_format.specs.declared.commands.Command.TheVariants as command

-- the word that an edit begins with
abbrev pub form_text : Form → List ℕ
form_text form.Group = codes "group"
form_text form.Switch = codes "switch"
form_text form.Dcs = codes "dcs"
form_text form.Lod = codes "lod"
form_text form.Seq = codes "seq"
form_text form.Layer = codes "layer"
form_text form.Scs = codes "scs"
form_text form.Geode = codes "geode"
form_text form.Glass = codes "glass"
form_text form.Verts = codes "verts"
form_text form.Add = codes "add"
form_text form.Remove = codes "remove"
form_text form.Insert = codes "insert"
form_text form.Replace = codes "replace"
form_text form.Delete = codes "delete"
form_text form.Run = codes "run"
form_text form.Stop = codes "stop"
form_text form.SwitchTo = codes "sw"
form_text form.SwitchOn = codes "sw"
form_text form.SwitchOff = codes "sw"
form_text form.Mat = codes "mat"
form_text form.Trans = codes "trans"
form_text form.Centre = codes "centre"
form_text form.Rot = codes "rot"
form_text form.Scale = codes "scale"
form_text form.Range = codes "range"
form_text form.Times = codes "times"

-- the word that a line begins with
abbrev pub text_of : Command → List ℕ
text_of command.Triangle = codes "t"
text_of command.Size = codes "size"
text_of command.Lens = codes "lens"
text_of command.Back = codes "back"
text_of command.Channels = codes "channels"
text_of command.App = codes "app"
text_of command.Dbase = codes "dbase"
text_of command.View = codes "view"
text_of command.ChannelView = codes "cview"
text_of command.Sync = codes "sync"
text_of command.Frame = codes "frame"
text_of command.Wait = codes "wait"
text_of command.Await = codes "await"
text_of command.Buffer = codes "buffer"
text_of command.Merge = codes "merge"
text_of command.BufferAdd = codes "badd"
text_of command.BufferRemove = codes "bremove"
text_of (command.Edit f) = form_text f

-- the word that a line ends with, behind its numbers
abbrev pub form_tail : Form → List (List ℕ)
form_tail form.SwitchOn = codes "on" ∷ []
form_tail form.SwitchOff = codes "off" ∷ []
form_tail _ = []

abbrev pub tail_of : Command → List (List ℕ)
tail_of (command.Edit f) = form_tail f
tail_of _ = []

abbrev pub between : ℤ → ℤ → Limits
between low high = record { low = low; high = high }

-- a width or a height
abbrev pub size : Limits
size = between (pos 1) (pos 1024)

-- a focal length
abbrev pub focal_length : Limits
focal_length = between (pos 1) (pos 65535)

-- a depth
abbrev pub depth : Limits
depth = between (pos 1) (pos 1073741823)

-- a colour or an alpha
abbrev pub colour : Limits
colour = between (pos 0) (pos 255)

-- a number of channels
abbrev pub channel_count : Limits
channel_count = between (pos 1) (pos 4)

-- the id of a new node
abbrev pub new_id : Limits
new_id = between (pos 1) (pos 65535)

-- an id
abbrev pub id : Limits
id = between (pos 0) (pos 65535)

-- a state
abbrev pub state : Limits
state = between (pos 0) (pos 65535)

-- a number of triangles
abbrev pub triangles : Limits
triangles = between (pos 0) (pos 4096)

-- a place
abbrev pub place : Limits
place = between (pos 0) (pos 255)

-- a place of a range
abbrev pub range_place : Limits
range_place = between (pos 0) (pos 256)

-- a range
abbrev pub range_value : Limits
range_value = between (pos 0) (pos 2147483647)

-- a time in frames
abbrev pub frames : Limits
frames = between (pos 1) (pos 65535)

-- a coordinate
abbrev pub coordinate : Limits
coordinate = between (negsuc 1073741822) (pos 1073741823)

-- an entry of a matrix
abbrev pub entry : Limits
entry = between (negsuc 1048575) (pos 1048576)

-- an angle
abbrev pub angle : Limits
angle = between (negsuc 3599) (pos 3600)

-- a number of merges or frames
abbrev pub count : Limits
count = between (pos 0) (pos 262144)

-- a point, three angles, three colours, and what is made of them
abbrev pub point_limits : List Limits
point_limits = coordinate ∷ coordinate ∷ coordinate ∷ []

abbrev pub angle_limits : List Limits
angle_limits = angle ∷ angle ∷ angle ∷ []

abbrev pub colour_limits : List Limits
colour_limits = colour ∷ colour ∷ colour ∷ []

abbrev pub view_limits : List Limits
view_limits = point_limits ++ angle_limits

abbrev pub corner_limits : List Limits
corner_limits = point_limits ++ colour_limits

abbrev pub matrix_limits : List Limits
matrix_limits = entry ∷ entry ∷ entry ∷ entry ∷ entry ∷ entry ∷ entry ∷ entry ∷ entry ∷ point_limits

-- the limits of the numbers of an edit
abbrev pub form_limits : Form → List Limits
form_limits form.Group = new_id ∷ []
form_limits form.Switch = new_id ∷ []
form_limits form.Dcs = new_id ∷ []
form_limits form.Lod = new_id ∷ []
form_limits form.Seq = new_id ∷ []
form_limits form.Layer = new_id ∷ []
form_limits form.Scs = new_id ∷ matrix_limits
form_limits form.Geode = new_id ∷ state ∷ triangles ∷ []
form_limits form.Glass = new_id ∷ state ∷ colour ∷ triangles ∷ []
form_limits form.Verts = id ∷ triangles ∷ []
form_limits form.Add = id ∷ id ∷ []
form_limits form.Remove = id ∷ id ∷ []
form_limits form.Insert = id ∷ place ∷ id ∷ []
form_limits form.Replace = id ∷ id ∷ id ∷ []
form_limits form.Delete = id ∷ []
form_limits form.Run = id ∷ []
form_limits form.Stop = id ∷ []
form_limits form.SwitchTo = id ∷ place ∷ []
form_limits form.SwitchOn = id ∷ []
form_limits form.SwitchOff = id ∷ []
form_limits form.Mat = id ∷ matrix_limits
form_limits form.Trans = id ∷ point_limits
form_limits form.Centre = id ∷ point_limits
form_limits form.Rot = id ∷ angle_limits
form_limits form.Scale = id ∷ entry ∷ []
form_limits form.Range = id ∷ range_place ∷ range_value ∷ []
form_limits form.Times = id ∷ place ∷ frames ∷ []

-- `cview`: a channel above 0, of which there is none in a play of one channel, and the view
abbrev pub channel_view_limits : ℕ → List Limits
channel_view_limits channels = between (pos 1) (pos (channels - 1)) ∷ view_limits

-- the limits of the numbers of a line, in a play of so many channels
abbrev pub limits_of : ℕ → Command → List Limits
limits_of channels command.Triangle = corner_limits ++ (corner_limits ++ corner_limits)
limits_of channels command.Size = size ∷ size ∷ []
limits_of channels command.Lens = focal_length ∷ depth ∷ depth ∷ []
limits_of channels command.Back = colour_limits
limits_of channels command.Channels = channel_count ∷ []
limits_of channels command.App = []
limits_of channels command.Dbase = []
limits_of channels command.View = view_limits
limits_of channels command.ChannelView = channel_view_limits channels
limits_of channels command.Sync = []
limits_of channels command.Frame = []
limits_of channels command.Wait = count ∷ []
limits_of channels command.Await = count ∷ []
limits_of channels command.Buffer = []
limits_of channels command.Merge = []
limits_of channels command.BufferAdd = id ∷ id ∷ []
limits_of channels command.BufferRemove = id ∷ id ∷ []
limits_of channels (command.Edit f) = form_limits f

-- the number of words of a line
abbrev pub words_in : ℕ → Command → ℕ
words_in channels c = 1 + (length (limits_of channels c) + length (tail_of c))

-- the lines, but for the forms of `sw` that have a closing word
abbrev pub all_commands : List Command
all_commands =
    command.Triangle ∷ command.Edit form.Trans ∷ command.Edit form.Rot ∷ command.Frame ∷ command.View
    ∷ command.Edit form.Add ∷ command.Edit form.SwitchTo ∷ command.Edit form.Scale ∷ command.Edit form.Remove
    ∷ command.Edit form.Mat ∷ command.Sync ∷ command.Wait ∷ command.Edit form.Dcs ∷ command.Edit form.Geode
    ∷ command.Edit form.Range ∷ command.Edit form.Group ∷ command.Edit form.Verts ∷ command.Await
    ∷ command.Buffer ∷ command.Merge ∷ command.BufferAdd ∷ command.BufferRemove ∷ command.Edit form.Delete
    ∷ command.Edit form.Insert ∷ command.Edit form.Replace ∷ command.Edit form.Glass ∷ command.ChannelView
    ∷ command.Edit form.Centre ∷ command.Edit form.Times ∷ command.Edit form.Run ∷ command.Edit form.Stop
    ∷ command.Edit form.Lod ∷ command.Edit form.Seq ∷ command.Edit form.Switch ∷ command.Edit form.Layer
    ∷ command.Edit form.Scs ∷ command.Size ∷ command.Lens ∷ command.Back ∷ command.Channels ∷ command.App
    ∷ command.Dbase ∷ []

-- a line behind the first: its command and its numbers
abbrev pub Entry : Type 0
Entry = Command × List ℤ
