use Rattle.fsd_table.proofs.TreeLaws.{told_few}
use Rattle.fsd_table.proofs.laws.tables_have_few_pages.Goals as goal

pub returns-clause-some : goal.returns-clause-some
returns-clause-some c = λ pages t told. (told_few pages t told).0

pub returns-clause-most : goal.returns-clause-most
returns-clause-most c = λ pages t told. (told_few pages t told).1
