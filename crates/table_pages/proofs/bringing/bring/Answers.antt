use Rattle.std.proofs.Common.{sym, ap, subst}
use Rattle.std.specs.Prelude.{IfSome}
use Rattle.std.proofs.lemmas.Result.{IfOk-weaker}
use Rattle.fsd_bytes.specs.declared.refusal.Refusal.{Refusal}
use Rattle.sector_disk.specs.Calls.{device_in}
use Rattle.sector_disk.proofs.CallLaws.{reads_told}
use Rattle.page_cache.specs.Cache.{cached_bytes}
use Rattle.page_cache.specs.Fetch.{fetch_failed_at}
use Rattle.page_cache.specs.Fetched.{FetchesNone}
use Rattle.page_cache.proofs.FetchLaws.{Fetched, fetched_of, fetched_there}
use Rattle.page_cache.proofs.KeepLaws.{fetched_pins}
use Rattle.name_page.specs.Pages.{outer_refusal}
use Rattle.table_pages.specs.Bringing.{FetchesOnly}
use Rattle.table_pages.proofs.BringLaws.{failed_missing, fetched_brings, fetched_fills, hit_all, refused_fetch, room_busy}
use Rattle.table_pages.proofs.bringing.bring.Given as given
use Rattle.table_pages.proofs.bringing.bring.Goals as goal

pub fetch-requires-clause-room : goal.fetch-requires-clause-room
fetch-requires-clause-room g c = room_busy c.args.cache.now c.attest.ensures c.requires.room

-- the page is used, or has entered
fetched : (g : given.Over) (c : goal.In-Ok g) → Fetched c.args.page c.args.cache.now c.fetch.new.self
fetched g c =
    fetched_of c.args.page c.args.cache.now c.fetch.new.self c.fetch.result c.in-Ok.field-0 _ c.in-Ok.is c.fetch.ensures.hit
    (λ none. IfOk-weaker c.fetch.result _ _ (λ frame taken. taken.enters) (c.fetch.ensures.enters none))

pub returns-in-Ok-clause-fetches : goal.returns-in-Ok-clause-fetches
returns-in-Ok-clause-fetches g c =
    let M = g.M.Machine in
    let S = g.S.PageSource in
    let kept = c.fetch.ensures in
    record {
      reads = reads_told (ap (device_in fetch_failed_at) (sym c.in-Ok.is)) kept.reads;
      loses = tt;
      fills = fetched_fills M S c.args.source.now c.args.m.now c.fetch.new.m c.args.page c.args.cache.now c.fetch.new.self c.attest.ensures kept.frames.frames (fetched g c)
          (λ none. rw c.in-Ok.is at (IfOk-weaker c.fetch.result _ (λ frame. M.honest c.fetch.new.m → IfSome (cached_bytes c.fetch.new.self c.args.page) (S.stands c.args.source.now c.args.page (M.now c.args.m.now).image)) (λ frame taken. taken.whole) (kept.enters none)));
      brings = fetched_brings c.args.page c.args.cache.now c.fetch.new.self c.attest.ensures (fetched g c);
      newest = rw c.in-Ok.is at kept.newest;
    }

pub returns-in-Err-clause-fetches : goal.returns-in-Err-clause-fetches
returns-in-Err-clause-fetches g c =
    let M = g.M.Machine in
    let S = g.S.PageSource in
    let kept = c.fetch.ensures in
    let fault = c.in-Err.fault in
    let failed : FetchesNone M S c.args.source.now c.args.page c.args.m.now c.fetch.new.m c.args.cache.now c.fetch.new.self fault = rw c.in-Err.is at kept.failed in
    subst (λ (refusal : Refusal). FetchesOnly M S c.args.source.now (outer_refusal refusal) c.args.m.now c.fetch.new.m c.args.cache.now c.fetch.new.self) (sym c.refusal_of.ensures)
    (refused_fetch M S c.args.source.now c.args.m.now c.fetch.new.m c.args.page c.args.cache.now c.fetch.new.self fault c.requires.page failed.kept
    (reads_told (ap (device_in fetch_failed_at) (sym c.in-Err.is)) kept.reads) failed.lost)

pub returns-in-Ok-clause-pins : goal.returns-in-Ok-clause-pins
returns-in-Ok-clause-pins g c = fetched_pins c.args.page c.args.cache.now c.fetch.new.self c.attest.ensures (fetched g c)

pub returns-in-Ok-clause-there : goal.returns-in-Ok-clause-there
returns-in-Ok-clause-there g c = fetched_there c.args.page c.args.cache.now c.fetch.new.self (fetched g c)

-- ---- the page is there

pub returns-in-Ok-clause-hit : goal.returns-in-Ok-clause-hit
returns-in-Ok-clause-hit g c = λ there. hit_all c.args.m.now c.fetch.new.m c.args.page c.args.cache.now c.fetch.new.self c.fetch.result c.fetch.ensures.hit there

pub returns-in-Err-clause-hit : goal.returns-in-Err-clause-hit
returns-in-Err-clause-hit g c = λ there. failed_missing c.args.page c.args.cache.now c.fetch.new.self c.fetch.result c.in-Err.fault _ c.in-Err.is c.fetch.ensures.hit there
