-- Which link an end belongs to.
use denote.RawPtr.{Ptr}
use Rattle.std.specs.declared.alloc.Global.{Global}
use Rattle.rtrb.specs.Shared.{Names}
use Rattle.atomic_table.specs.Seated.{TableId}

-- a ring is known by its memory and its ghost names, and a `ListLink` by its table
pub data Link : Type 0 where
  ring_link : Ptr → Ptr → Names → Global → Link
  list_link : TableId → Link
