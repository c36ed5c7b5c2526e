-- The table of a cache as the definitions take it.
use Rattle.std.specs.Prelude.{None, slice_index_or}
use Rattle.std.specs.Option.{option_map}
use Rattle.fx_math.specs.Views.{bounds_of}
use Rattle.bound_cache.specs.declared.marks.Mark.TheVariants.{Clean}
use Rattle.bound_cache.specs.declared.table.BoxTable.{BoxTable}
use Rattle.bound_cache.specs.Tables.{TableState}

abbrev pub table_of : BoxTable → TableState
table_of t =
    record {
      boxes = λ id. option_map bounds_of (slice_index_or t.boxes.items id None);
      marks = λ id. slice_index_or t.marks.items id Clean;
    }
