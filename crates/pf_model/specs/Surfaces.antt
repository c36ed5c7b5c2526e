-- What a node draws, as the definitions take it.
use Rattle.pf_model.specs.declared.surfaces.Surface.{Surface}
use Rattle.pf_model.specs.Kinds as kinds

abbrev pub surface_as_plain : Surface → kinds.Surface
surface_as_plain s = record { state = s.state; tint = s.tint; tris = s.geom.now }
