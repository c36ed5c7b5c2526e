use Rattle.std.proofs.Common.{◌≡◌, ◌≤◌, length, true, rules}
use Rattle.std.specs.Prelude.{codes}
use Rattle.std.specs.Str.{bytes_eq}
use Rattle.live_text.proofs.Entries.{first_read}
use Rattle.live_text.proofs.state.State.line.Goals as goal

pub returns : goal.returns
returns c =
    let one : c.args.self.now.line ≤ 1 = search rules in
    let short : length c.args.line.now ≤ 1024 = search rules in
    let first : bytes_eq c.args.line.now (codes "perfly live 1") ≡ true = search rules in
    first_read c.args.self.now c.args.line.now c.requires one short first
