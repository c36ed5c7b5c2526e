use Rattle.std.proofs.Common.{◌≡◌, ◌+◌, None, length, arith}
use Rattle.mode_hosts.proofs.Telling.{many_gained}
use Rattle.mode_hosts.proofs.Lives.{seen_at, tells_none, tells_some, few_told, turn_live, turn_keeps, turn_rests}
use Rattle.mode_hosts.proofs.live.LivePipe.tell_entries.Goals as goal

pub returns-then-not-can_count-clause-tells : goal.returns-then-not-can_count-clause-tells
returns-then-not-can_count-clause-tells g c = λ live. tells_none c.args.self.now c.args.block

pub returns-clause-tells : goal.returns-clause-tells
returns-clause-tells g c = λ live.
    let p = c.args.self.now in
    let a = c.tell-block.new.self in
    let n = c.saturating_add-self.result in
    let gains = c.tell-block.ensures.gains in
    let room = c.can_count.ensures c.if-not-can_count.false in
    let sum = many_gained p.told c.args.block c.tell-block.result (seen_at a) gains in
    let is : n ≡ p.told + length gains.more = omega (arith, sum, gains.few, room, c.saturating_add-self.ensures, c.saturating_sub-gained.ensures) in
    tells_some p c.args.block c.tell-block.result a n gains (c.tell-block.ensures.goes None).front is live

pub returns-clause-app : goal.returns-clause-app
returns-clause-app g c = c.tell-block.ensures.stage

pub returns-clause-keeps : goal.returns-clause-keeps
returns-clause-keeps g c = λ play ahead asked bytes now keeps.
    let p = c.args.self.now in
    let a = c.tell-block.new.self in
    let n = c.saturating_add-self.result in
    let gains = c.tell-block.ensures.gains in
    let room = c.can_count.ensures c.if-not-can_count.false in
    let sum = many_gained p.told c.args.block c.tell-block.result (seen_at a) gains in
    let is : n ≡ p.told + length gains.more = omega (arith, sum, gains.few, room, c.saturating_add-self.ensures, c.saturating_sub-gained.ensures) in
    let goes = c.tell-block.ensures.goes now in
    turn_keeps play ahead asked p a n bytes now c.tell-block.ensures.stage goes (few_told p c.args.block c.tell-block.result a n gains goes.front is) keeps

pub returns-clause-live : goal.returns-clause-live
returns-clause-live g c = λ live.
    let p = c.args.self.now in
    let a = c.tell-block.new.self in
    let n = c.saturating_add-self.result in
    let gains = c.tell-block.ensures.gains in
    let room = c.can_count.ensures c.if-not-can_count.false in
    let sum = many_gained p.told c.args.block c.tell-block.result (seen_at a) gains in
    let is : n ≡ p.told + length gains.more = omega (arith, sum, gains.few, room, c.saturating_add-self.ensures, c.saturating_sub-gained.ensures) in
    let goes = c.tell-block.ensures.goes None in
    turn_live p a n None goes (few_told p c.args.block c.tell-block.result a n gains goes.front is) live

pub returns-clause-rests : goal.returns-clause-rests
returns-clause-rests g c = λ rests.
    turn_rests c.args.self.now c.tell-block.new.self c.saturating_add-self.result c.tell-block.ensures.stage rests
