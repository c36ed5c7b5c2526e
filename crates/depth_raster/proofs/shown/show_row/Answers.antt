use Rattle.std.proofs.Common.{◌≡◌, ◌+◌, ◌-◌, ◌*◌, ◌≤◌, ◌∙◌, ap, length, arith}
use Rattle.std.proofs.Math.Nat.{add-mul}
use Rattle.depth_raster.proofs.Copied.{row_copied}
use Rattle.depth_raster.proofs.shown.show_row.Goals as goal

pub returns : goal.returns
returns c =
    let a = c.args in
    let colours = a.colours.now in
    let flat = c.copy_from_slice.new.self in
    let start = 3 * (a.r * a.width + a.left) in
    let count = start + length c.as_flattened-row.result.now - start in
    let all : count ≡ length flat = omega (arith, ap length c.copy_from_slice.ensures.after) in
    let long : length flat ≡ length colours * 3 = ap length c.copy_from_slice.ensures.after ∙ c.as_flattened-row.ensures.len in
    let within : start + count ≤ length a.bytes.now = omega (arith, c.requires.rows, add-mul a.r 1 a.width, c.requires.columns, all, long) in
    row_copied a.width a.left a.r a.bytes.now flat colours count within c.requires.columns c.told-colours
    (c.copy_from_slice.ensures.after ∙ c.as_flattened-row.ensures.value) long all
