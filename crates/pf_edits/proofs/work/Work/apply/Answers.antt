use Rattle.std.proofs.Common.{◌≡◌, None, subst}
use Rattle.pf_model.specs.declared.edits.Edit.{Edit}
use Rattle.pf_model.specs.Edits.{fault_of}
use Rattle.pf_edits.specs.Working.{told}
use Rattle.pf_edits.proofs.work.Work.apply.Goals as goal

pub add-requires-clause-none : goal.add-requires-clause-none
add-requires-clause-none c = subst (λ (x : Edit). None ≡ fault_of (told c.args.self.now) x) c.in-Add.is c.requires.none

pub insert-requires-clause-none : goal.insert-requires-clause-none
insert-requires-clause-none c = subst (λ (x : Edit). None ≡ fault_of (told c.args.self.now) x) c.in-Insert.is c.requires.none

pub replace-requires-clause-none : goal.replace-requires-clause-none
replace-requires-clause-none c = subst (λ (x : Edit). None ≡ fault_of (told c.args.self.now) x) c.in-Replace.is c.requires.none
