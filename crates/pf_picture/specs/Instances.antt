-- An instance as the definition of a picture takes it.
use Rattle.std.specs.Prelude.{map, Bool}
use Rattle.fx_math.specs.Views.{matrix_of}
use Rattle.pf_model.specs.Walks as walks
use Rattle.tri_cover.specs.Glass.{is_drawn_before}
use Rattle.pf_picture.specs.declared.instances.Instance.{Instance}

abbrev pub instance_of : Instance → walks.Instance
instance_of x =
    record {
      place = x.place;
      id = x.id;
      state = x.state;
      tint = x.tint;
      shift = x.shift;
      steps = map matrix_of x.steps.now;
      tris = x.tris.now;
      far = x.far;
    }

-- the order in which glass is drawn
abbrev pub is_before : Instance → Instance → Bool
is_before x y = is_drawn_before (instance_of x) (instance_of y)
