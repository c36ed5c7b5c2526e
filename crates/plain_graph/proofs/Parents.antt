-- An edit of links that passes its rules has its parent.
use Rattle.std.proofs.Common.{◌≡◌, ℕ, None, is_some, true}
use Rattle.pf_model.specs.Graphs.{Nodes, node_at}
use Rattle.pf_model.specs.Edits.{first, add_rules, insert_rules, replace_rules, remove_rules}
use Rattle.pf_model.proofs.Rules.{all_passed, there_from}

pub add_parent : (g : Nodes) (parent child : ℕ) → None ≡ first (add_rules g parent child) → is_some (node_at g parent) ≡ true
add_parent g parent child none = there_from g parent (all_passed (add_rules g parent child) none).0

pub insert_parent : (g : Nodes) (parent place child : ℕ) → None ≡ first (insert_rules g parent place child) → is_some (node_at g parent) ≡ true
insert_parent g parent place child none = there_from g parent (all_passed (insert_rules g parent place child) none).0

pub replace_parent : (g : Nodes) (parent child by : ℕ) → None ≡ first (replace_rules g parent child by) → is_some (node_at g parent) ≡ true
replace_parent g parent child by none = there_from g parent (all_passed (replace_rules g parent child by) none).0

pub remove_parent : (g : Nodes) (parent child : ℕ) → None ≡ first (remove_rules g parent child) → is_some (node_at g parent) ≡ true
remove_parent g parent child none = there_from g parent (all_passed (remove_rules g parent child) none).0
