use Rattle.std.proofs.Common.{length}
use Rattle.page_cache.specs.Cache.{newest_bytes}
use Rattle.table_pages.specs.Bringing.{given_by}
use Rattle.table_pages.specs.ImageLaws.{image_at}
use Rattle.table_pages.proofs.StepLaws.{within_free, there, newest_at}
use Rattle.table_pages.proofs.table.TablePages.look.Goals as goal

pub bytes-requires : goal.bytes-requires
bytes-requires g c = there c.args.self.now c.args.page c.requires

pub returns : goal.returns
returns g c =
    let t = c.args.self.now in
    let source = given_by g.M.Machine g.S.PageSource t.source.now t.m.now in
    image_at (newest_bytes t.cache.now source) (length t.free.now) c.args.page c.bytes.result.now (within_free t c.args.page c.requires.0) (newest_at t.cache.now source c.args.page c.bytes.result.now c.bytes.ensures)
