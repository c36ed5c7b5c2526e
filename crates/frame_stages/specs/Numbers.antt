-- The numbers of frames that memory holds.
use Rattle.std.specs.Prelude.{◌≡◌, ℕ, ◌+◌, ◌-◌, ◌≤◌, List, length, drop}
use Rattle.draw_list.specs.declared.stats.Stats.{Stats}
use Rattle.told_log.specs.Lists.{Entries}

-- Memory holds the last numbers of all, of which the first `gone` were told, at most half of them; there is room for so
-- many more. Of the list of all, which contracts see, it holds none.
pub record HoldsLast (past : Entries Stats) (held : List Stats) (gone room capacity : ℕ) : Type 0 where
  pub last : drop (length past.entries - length held) past.entries ≡ held
  pub within : length held ≤ length past.entries
  pub half : gone + gone ≤ length held
  pub places : length held + room ≤ capacity
  pub listed : room ≤ past.spare
  pub forgotten : past.told ≡ length past.entries
