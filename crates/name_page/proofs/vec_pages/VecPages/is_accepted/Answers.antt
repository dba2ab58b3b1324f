use Rattle.std.proofs.Common.{◌∙◌, refl}
use Rattle.std.proofs.lemmas.Option.{slice_get_read}
use Rattle.name_page.proofs.AcceptLaws.{read_tells}
use Rattle.name_page.proofs.vec_pages.VecPages.is_accepted.Goals as goal

pub returns-else-self-i : goal.returns-else-self-i
returns-else-self-i c =
    let pages = c.args.self.now.pages.items in
    let read = c.read_page.ensures in
    c.is_ok.ensures.value ∙ read_tells pages c.args.page c.count.result c.index.result.now c.read_page.result (slice_get_read pages _ c.args.page _ refl c.requires c.index.ensures) c.count.ensures read.accepted read.refused
