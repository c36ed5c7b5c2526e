use Rattle.std.proofs.Common.{◌≡◌, Some, refl, rules}
use Rattle.perfly_top.proofs.Whys.{barred_by, unmade_where}
use Rattle.perfly_top.proofs.Ends.{unmade_end}
use Rattle.perfly_top.proofs.preparing.prepared.Goals as goal

pub returns-in-Some-clause-why : goal.returns-in-Some-clause-why
returns-in-Some-clause-why g c =
    let words = c.args.words in
    let play = c.in_ok-play.play in
    let found : c.stuck.result ≡ Some (c.in-Some.app, c.in-Some.dbase) = search rules in
    barred_by (Some c.args.words) (g.I.Source.left c.args.input.now) (g.I.Source.left c.given_play.new.input) words play c.stuck.result c.in-Some.app c.in-Some.dbase
    (record { meaning = refl; spelled = c.in_ok-play.ensures.spelled; read = c.in_ok-play.ensures.read })
    c.requires.high found c.stuck.ensures.stuck c.stuck.ensures.lines

pub returns-in-Some-clause-ends : goal.returns-in-Some-clause-ends
returns-in-Some-clause-ends g c =
    let make = c.args.words.make in
    let found : c.stuck.result ≡ Some (c.in-Some.app, c.in-Some.dbase) = search rules in
    unmade_end make (g.I.Source.ends c.args.input.now) (g.I.Source.ends c.given_play.new.input)
    (unmade_where make (g.I.Source.left c.args.input.now) c.in_ok-play.play c.stuck.result c.in-Some.app c.in-Some.dbase
    c.requires.high c.in_ok-play.ensures.spelled found c.stuck.ensures.stuck)
    c.in_ok-play.ensures.one_end
