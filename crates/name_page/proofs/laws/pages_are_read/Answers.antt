use Rattle.name_page.proofs.ContentLaws.{content_is, entries_are, first_is, separators_are}
use Rattle.name_page.proofs.laws.pages_are_read.Goals as goal

pub returns-clause-content : goal.returns-clause-content
returns-clause-content c = content_is

pub returns-clause-leaf : goal.returns-clause-leaf
returns-clause-leaf c = entries_are

pub returns-clause-first : goal.returns-clause-first
returns-clause-first c = first_is

pub returns-clause-separators : goal.returns-clause-separators
returns-clause-separators c = separators_are
