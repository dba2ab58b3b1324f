use Rattle.std.proofs.Common.{◌≡◌, subst, true, List, ℕ}
use Rattle.fsd_formats.specs.declared.page.Separator.{Separator}
use Rattle.fsd_formats.specs.NamePage.{are_ascending}
use Rattle.fsd_table.specs.Pages.{separator_keys}
use Rattle.name_page.proofs.EndsLaws.{separators_ascend}
use Rattle.name_page.proofs.node.Ways.len.Goals as goal

pub returns-clause-order : goal.returns-clause-order
returns-clause-order c = subst (λ (ways : ℕ × List Separator). are_ascending (separator_keys ways.1) ≡ true) c.self.view_is (separators_ascend c.self.inside.image)
