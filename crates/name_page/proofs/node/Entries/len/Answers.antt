use Rattle.std.proofs.Common.{◌≡◌, subst, true, List}
use Rattle.fsd_formats.specs.declared.entry.Entry.{Entry}
use Rattle.std.specs.List.{AllByRecursion}
use Rattle.fsd_formats.specs.NamePage.{are_ascending, FitsEntry}
use Rattle.fsd_table.specs.Pages.{entry_keys}
use Rattle.name_page.proofs.EndsLaws.{entries_ascend}
use Rattle.name_page.proofs.node.Entries.len.Goals as goal

pub returns-clause-order : goal.returns-clause-order
returns-clause-order c = subst (λ (xs : List Entry). are_ascending (entry_keys xs) ≡ true) c.self.view_is (entries_ascend c.self.inside.image)

pub returns-clause-fits : goal.returns-clause-fits
returns-clause-fits c = subst (AllByRecursion FitsEntry) c.self.view_is c.self.invariant.1
