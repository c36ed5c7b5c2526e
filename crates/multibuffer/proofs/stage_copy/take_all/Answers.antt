use Rattle.std.proofs.Common.{◌≡◌, length, ◌∙◌, ap, arith}
use Rattle.pf_model.specs.Graphs.{node_at}
use Rattle.bound_cache.specs.Caches.{box_at, touched_at, noted_at}
use Rattle.multibuffer.proofs.Handing.{handed_length}
use Rattle.multibuffer.proofs.Taking.{taken_none, taken_more, taken_all}
use Rattle.multibuffer.proofs.stage_copy.take_all.Goals as goal

pub loop-i-init : goal.loop-i-init
loop-i-init c = taken_none c.args.updates.now c.args.nodes.now (box_at c.args.cache.now) (touched_at c.args.cache.now) (noted_at c.args.cache.now) c.requires

pub take_entry-id-requires : goal.take_entry-id-requires
take_entry-id-requires c =
    let same : length c.loop-i.updates ≡ length c.args.updates.now = ap length c.loop-i.invariant.handed_back ∙ handed_length (node_at c.args.nodes.now) c.loop-i.i c.args.updates.now in
    omega arith

pub loop-i-preserved : goal.loop-i-preserved
loop-i-preserved c =
    taken_more c.args.updates.now c.args.nodes.now (box_at c.args.cache.now) (noted_at c.args.cache.now) c.loop-i.i c.take_entry-id.result c.loop-i.updates c.take_entry-id.new.updates c.loop-i.nodes c.take_entry-id.new.self
    (box_at c.loop-i.cache) (box_at c.touch.new.self) (touched_at c.loop-i.cache) (touched_at c.touch.new.self) (noted_at c.loop-i.cache) (noted_at c.touch.new.self)
    c.len-i-end.ensures.rising (omega arith) c.loop-i.invariant c.take_entry-id.ensures.id c.take_entry-id.ensures.nodes c.take_entry-id.ensures.looks c.take_entry-id.ensures.updates c.touch.ensures.boxes c.touch.ensures.touched c.touch.ensures.noted

pub returns : goal.returns
returns c =
    let all = taken_all c.args.updates.now c.args.nodes.now (box_at c.args.cache.now) (noted_at c.args.cache.now) c.loop-i.i c.loop-i.updates c.loop-i.nodes (box_at c.loop-i.cache) (touched_at c.loop-i.cache) (noted_at c.loop-i.cache) (omega arith) c.loop-i.invariant in
    record { nodes = all.nodes_are; looks = all.looks; updates = all.back; boxes = all.boxes_are; touched = all.touched_are; noted = all.grows }
