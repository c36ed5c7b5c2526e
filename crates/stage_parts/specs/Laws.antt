-- The laws of the pipe invariant.
use Rattle.std.specs.Prelude.{◌≡◌, ℕ, ◌<◌, ◌≤◌, true, List, take, length, slice_get, Some}
use Rattle.std.specs.List.{AllByRecursion, concat, flat_map}
use Rattle.fx_math.specs.declared.lenses.Lens.{Lens}
use Rattle.pf_model.specs.declared.lines.BaseLine.{BaseLine}
use Rattle.pf_model.specs.Angles.{Viewpoint}
use Rattle.pf_model.specs.Graphs.{Look}
use Rattle.pf_model.specs.Walks.{instances}
use Rattle.tri_cover.specs.Orders.{HaveOneColour}
use Rattle.tri_cover.specs.Picture.{picture}
use Rattle.ppm_out.specs.Pixmap.{Pixmap, Shows}
use Rattle.ppm_out.specs.Ppm.{ppm_bytes}
use Rattle.draw_list.specs.Lists.{Drawables, instances_in}
use Rattle.draw_list.specs.Shown.{draw_list}
use Rattle.pf_history.specs.Commands.{command_fits}
use Rattle.pf_history.specs.Logs.{Log, state_of}
use Rattle.stage_parts.specs.Loads.{IsOfSize}
use Rattle.stage_parts.specs.Pictures.{painted, pictures, streamed, frame_numbers}
use Rattle.stage_parts.specs.States.{Setup, Seats, PipeState}
use Rattle.stage_parts.specs.Parts.{AppKeeps, CullPart, DrawPart, DbaseKeeps}
use Rattle.stage_parts.specs.Pipes.{PipeFits}

-- through each lens the picture of a draw list is that of the whole walk
abbrev pub CullingKeepsPictures : Type 0
CullingKeepsPictures =
    (look : Look) (time : ℕ) (v : Viewpoint) (lens : Lens) (px py : ℕ) → px < lens.w → py < lens.h →
    HaveOneColour lens px py (instances look time v) (draw_list look time v lens)

-- The image has the lens's size and shows the picture of the draw list.
pub record IsShown (lens : Lens) (back : List ℕ) (image : Pixmap) (d : Drawables) : Type 0 where
  pub size : IsOfSize lens image
  pub pixels : Shows image (picture lens back (instances_in d))

-- the bytes of images that show the pictures of draw lists, place by place, are what is painted of the lists
abbrev pub PaintedLaw : Type 0
PaintedLaw =
    (lens : Lens) (back : List ℕ) (images : List Pixmap) (lists : List Drawables) → length images ≡ length lists →
    ((i : ℕ) (image : Pixmap) (d : Drawables) → slice_get images i ≡ Some image → slice_get lists i ≡ Some d → IsShown lens back image d) →
    flat_map ppm_bytes images ≡ painted lens back lists

-- the numbers of the edits of a log are in range
abbrev pub HasEditsInRange : Log → Type 0
HasEditsInRange log = AllByRecursion (λ e. command_fits e.1.command ≡ true) log

-- The stream of a pipe is whole pictures of its history, and a front of the next one. The frames retired are among those
-- whose pictures were wholly written, and once the application has closed the stream is all pictures. The numbers that are
-- kept are those of the first Frames.
pub record HasPictures (g : Setup) (s : PipeState) : Type 0 where
  pub front : s.stream ≡ streamed s.app.written s.app.fault (pictures g.channels g.lens g.back s.log)
  pub written : s.app.written ≤ (state_of g.channels s.log).frames
  pub retired : (state_of g.channels s.log).retired ≤ s.app.written
  pub whole : s.app.closed ≡ true → s.stream ≡ concat (pictures g.channels g.lens g.back s.log)
  pub numbers : s.app.stats ≡ take (length s.c.taken) (frame_numbers g.channels g.lens s.log)
  pub all_numbers : s.app.closed ≡ true → s.app.stats ≡ frame_numbers g.channels g.lens s.log

abbrev pub StreamLaw : Type 0
StreamLaw =
    CullingKeepsPictures → (g : Setup) (dbase : List BaseLine) (seats : Seats) (s : PipeState) →
    g.channels ≤ 4 → PipeFits g dbase seats s → HasEditsInRange s.log → HasPictures g s

-- any two proofs that a pipe fits, or that a stage keeps its part, are equal
pub record AreFacts (g : Setup) (dbase : List BaseLine) (seats : Seats) (s : PipeState) : Type 0 where
  pub fits : IsProp (PipeFits g dbase seats s)
  pub app : IsProp (AppKeeps g seats.app s.app s.log s.c.taken s.a.sent s.stream)
  pub cull : IsProp (CullPart g.lens s.cull s.a.taken s.b.sent)
  pub draw : IsProp (DrawPart g.lens g.back s.draw s.b.taken s.c.sent)
  pub base : IsProp (DbaseKeeps dbase g.channels seats.dbase s.dbase s.log)

abbrev pub FactsLaw : Type 0
FactsLaw = (g : Setup) (dbase : List BaseLine) (seats : Seats) (s : PipeState) → AreFacts g dbase seats s
