use Rattle.std.proofs.Common.{◌∙◌, sym, length}
use Rattle.page_cache.specs.Cache.{newest_bytes}
use Rattle.table_pages.specs.Bringing.{given_by}
use Rattle.table_pages.specs.ImageLaws.{image_count}
use Rattle.table_pages.proofs.table.TablePages.count.Goals as goal

pub returns : goal.returns
returns g c =
    let t = c.args.self.now in
    c.pages.ensures ∙ sym (image_count (newest_bytes t.cache.now (given_by g.M.Machine g.S.PageSource t.source.now t.m.now)) (length t.free.now))
