use Rattle.std.proofs.Common.{◌≡◌, ℕ, rules}
use Rattle.std.proofs.lemmas.List.Sorted.{answers_always}
use Rattle.std.specs.declared.cmp.Reverse.{Reverse}
use Rattle.tri_cover.proofs.Sorts.{sorted_alike}
use Rattle.pf_picture.specs.Instances.{is_before}
use Rattle.pf_picture.specs.declared.instances.Instance.{Instance}
use Rattle.pf_picture.proofs.Ordered.{glass_in_order, keys_alike}
use Rattle.pf_picture.proofs.panes.sort.Goals as goal

abbrev key_of : Instance → Reverse ℕ × ℕ
key_of x = (record { 0 = x.far }, x.place)

pub returns : goal.returns
returns c =
    let rises = c.in_ok-sort_by_key.ensures.sorted key_of (answers_always _ (λ a r. r ≡ key_of a.0.now) _ (λ f a r q k. search rules)) in
    let stable = c.in_ok-sort_by_key.ensures.stable key_of (answers_always _ (λ a r. r ≡ key_of a.0.now) _ (λ f a r q k. search rules)) in
    sorted_alike _ is_before keys_alike glass_in_order c.args.glass.now.items c.sort_by_key.new.self.items rises stable
