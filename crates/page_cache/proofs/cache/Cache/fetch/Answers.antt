use Rattle.std.proofs.Common.{◌≡◌, ◌<◌, ◌∙◌, None, refl, sym, ap, subst}
use Rattle.sector_disk.proofs.CallLaws.{reads_none}
use Rattle.page_cache.specs.Cache.{CacheValue, busy, held}
use Rattle.page_cache.proofs.FetchLaws.{hit_of, none_held, some_held}
use Rattle.page_cache.proofs.cache.Cache.fetch.Goals as goal

pub bring-requires : goal.bring-requires
bring-requires g c =
    let none : held c.args.self.now c.args.page ≡ None = none_held (held c.args.self.now c.args.page) c.in-None.ensures.frame in
    let same : c.hit.new.self ≡ c.args.self.now = c.hit.ensures.absent none in
    record {
      new = ap (λ (x : CacheValue). held x c.args.page) same ∙ none;
      page = c.requires.page;
      sectors = c.requires.sectors;
      room = subst (λ (x : CacheValue). busy x < x.frames) (sym same) c.requires.room;
    }

pub returns-in-Some : goal.returns-in-Some
returns-in-Some g c =
    let is = c.in-Some.ensures.frame in
    let there = some_held (held c.args.self.now c.args.page) c.in-Some.frame is in
    record {
      hit = hit_of (held c.args.self.now c.args.page) c.in-Some.frame _ _ is c.hit.ensures.used refl;
      enters = λ none. absurd (there none);
      newest = λ h knows. c.hit.ensures.newest (g.S.PageSource.newest c.args.source.now (g.M.Machine.now c.args.m.now).image);
      reads = reads_none c.args.m.now (λ l h left. g.met.M.Machine.only_now c.args.m.now l h left);
      failed = tt;
      frames = record { in_use = c.hit.ensures.busy; frames = ap (λ (x : CacheValue). x.frames) c.hit.ensures.used };
    }

pub returns-in-None : goal.returns-in-None
returns-in-None g c =
    let none : held c.args.self.now c.args.page ≡ None = none_held (held c.args.self.now c.args.page) c.in-None.ensures.frame in
    let same : c.hit.new.self ≡ c.args.self.now = c.hit.ensures.absent none in
    let here : held c.hit.new.self c.args.page ≡ None = ap (λ (x : CacheValue). held x c.args.page) same ∙ none in
    let brought = c.bring.ensures in
    rw (← same) (record {
      hit = rw here tt;
      enters = λ none. brought.enters;
      newest = brought.newest;
      reads = brought.reads;
      failed = brought.failed;
      frames = brought.frames;
    })
