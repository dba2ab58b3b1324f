use Rattle.std.proofs.Common.{sym, ap, ◌∙◌, Some, arith}
use Rattle.std.proofs.lemmas.Result.{MatchResult-weaker}
use Rattle.name_page.proofs.PageLaws.{page_accepted}
use Rattle.name_page.proofs.RefusalLaws.{page_refused}
use Rattle.name_page.proofs.fault.read_page.Goals as goal

pub returns-clause-accepted : goal.returns-clause-accepted
returns-clause-accepted c =
    MatchResult-weaker c.check_page.result c.check_page.ensures (λ head h. page_accepted c.args.page c.args.p c.args.b.now c.fits-b c.told-b h.0 ∙ ap Some (sym h.1)) (λ fault h. tt)

pub returns-clause-refused : goal.returns-clause-refused
returns-clause-refused c =
    MatchResult-weaker c.check_page.result c.check_page.ensures (λ head h. tt) (λ fault h. page_refused c.args.page c.args.p fault.place c.args.b.now c.told-b (omega arith) h)
