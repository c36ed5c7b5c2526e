use Rattle.seat_lock.proofs.Logs.{found-trans}
use Rattle.mode_hosts.proofs.closing.all_home.Goals as goal

pub returns-clause-app : goal.returns-clause-app
returns-clause-app g c = λ k answers.
    let a = c.two-with_cull.ensures in
    let b = c.two-with_draw.ensures in
    let d = c.two-with_dbase.ensures in
    let e = c.two-with_probe.ensures in
    let with_cull = a.keeps k answers in
    let with_draw = b.keeps k with_cull in
    let with_dbase = d.keeps k with_draw in
    found-trans k _ _ _ (a.found k answers)
    (found-trans k _ _ _ (b.found k with_cull)
    (found-trans k _ _ _ (d.found k with_draw) (found-trans k _ _ _ (e.found k with_dbase) (c.last.ensures.found k (e.keeps k with_dbase)))))

pub returns-clause-cull : goal.returns-clause-cull
returns-clause-cull g c = λ k answers.
    let a = c.two-with_cull.ensures in
    let b = c.two-with_draw.ensures in
    let d = c.two-with_dbase.ensures in
    let e = c.two-with_probe.ensures in
    let with_cull = a.gains k answers in
    let with_draw = b.keeps k with_cull in
    let with_dbase = d.keeps k with_draw in
    found-trans k _ _ _ (a.other_found k answers)
    (found-trans k _ _ _ (b.found k with_cull)
    (found-trans k _ _ _ (d.found k with_draw) (found-trans k _ _ _ (e.found k with_dbase) (c.last.ensures.found k (e.keeps k with_dbase)))))

pub returns-clause-draw : goal.returns-clause-draw
returns-clause-draw g c = λ k answers.
    let b = c.two-with_draw.ensures in
    let d = c.two-with_dbase.ensures in
    let e = c.two-with_probe.ensures in
    let with_draw = b.gains k answers in
    let with_dbase = d.keeps k with_draw in
    found-trans k _ _ _ (b.other_found k answers)
    (found-trans k _ _ _ (d.found k with_draw) (found-trans k _ _ _ (e.found k with_dbase) (c.last.ensures.found k (e.keeps k with_dbase))))

pub returns-clause-dbase : goal.returns-clause-dbase
returns-clause-dbase g c = λ k answers.
    let d = c.two-with_dbase.ensures in
    let e = c.two-with_probe.ensures in
    let with_dbase = d.gains k answers in
    found-trans k _ _ _ (d.other_found k answers) (found-trans k _ _ _ (e.found k with_dbase) (c.last.ensures.found k (e.keeps k with_dbase)))

pub returns-clause-probe : goal.returns-clause-probe
returns-clause-probe g c = λ k answers.
    let e = c.two-with_probe.ensures in
    found-trans k _ _ _ (e.other_found k answers) (c.last.ensures.found k (e.gains k answers))
