use Rattle.std.proofs.Common.{rules, ◌≡◌, ◌+◌, ◌-◌, ◌≤◌, length, subst}
use Rattle.std.specs.Vec.{vec_len}
use Rattle.play_format.specs.Early.{last}
use Rattle.play_format.specs.Rests.{Stand, stand}
use Rattle.play_format.specs.Sections.{TrianglesRead}
use Rattle.play_format.proofs.LineLemmas.{rest_is}
use Rattle.play_format.proofs.EarlyLemmas.{early_read}
use Rattle.play_format.proofs.reader.Reader.early_triangles.Goals as goal

pub returns : goal.returns
returns c =
    let b = c.next_early.new.self in
    let e = c.in_ok-early.early in
    let found = c.in_ok-early.ensures in
    let ts = e.tris.items in
    let due : length ts ≡ b.spot.due = search rules in
    let count : vec_len e.tris ≡ length ts = search rules in
    let few : b.line + length ts ≤ 262145 = search rules in
    let read = early_read b.text.now b.rest.now b.spot b.line e.at e.behind ts b.sound due few b.end found.early found.at in
    rw (rest_is b.text.now (length b.text.now - e.behind), c.len-count.ensures, count) (subst (λ (s : Stand). TrianglesRead s (stand (record b.spot { due = 0 }) (b.line + length ts) (last e.behind b.text.now)) ts) found.stays read)
