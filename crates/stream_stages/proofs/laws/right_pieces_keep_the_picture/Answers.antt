use Rattle.draw_list.specs.Shown.{shown, draw_list}
use Rattle.pf_model.specs.Walks.{instances}
use Rattle.stream_stages.specs.Pieces.{in_sending_order}
use Rattle.stream_stages.proofs.Glass.{adds_up}
use Rattle.stream_stages.proofs.SendingOrder.{sending_permutation, picture_sent, picture_turned, as_many, drawn_sent}
use Rattle.stream_stages.proofs.laws.right_pieces_keep_the_picture.Goals as goal

pub returns-clause-walk : goal.returns-clause-walk
returns-clause-walk c = λ look time v lens n ps right.
    picture_sent lens (instances look time v) (shown look time v lens) ps right.items
    (c.culling_keeps_the_picture.ensures.any_order look time v lens (in_sending_order (shown look time v lens)) (sending_permutation (shown look time v lens)))

pub returns-clause-list : goal.returns-clause-list
returns-clause-list c = λ look time v lens n ps right.
    picture_turned lens (instances look time v) (draw_list look time v lens) _
    (c.culling_keeps_the_picture.ensures.list look time v lens)
    (picture_sent lens (instances look time v) (shown look time v lens) ps right.items
    (c.culling_keeps_the_picture.ensures.any_order look time v lens (in_sending_order (shown look time v lens)) (sending_permutation (shown look time v lens))))

pub returns-clause-count : goal.returns-clause-count
returns-clause-count c = λ n xs ps right. as_many xs ps right.items

pub returns-clause-glass : goal.returns-clause-glass
returns-clause-glass c = λ n xs ps right. adds_up xs ps right.items

pub returns-clause-order : goal.returns-clause-order
returns-clause-order c = λ look time v lens n ps right.
    drawn_sent (shown look time v lens) ps right.items (c.shown_instances_are_those_in_sight.ensures.rise look time v lens)
    (λ xs ys rise perm sorted. c.draw_order_is_one.ensures xs ys rise perm sorted)
