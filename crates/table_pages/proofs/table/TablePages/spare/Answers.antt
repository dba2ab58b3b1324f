use Rattle.std.proofs.Common.{◌≡◌, ◌-◌, inl, length, refl, arith}
use Rattle.fsd_bytes.specs.declared.refusal.Refusal.TheVariants.{Unsound}
use Rattle.name_page.specs.Pages.{outer_in}
use Rattle.table_pages.proofs.LastLaws.{Lasts}
use Rattle.table_pages.proofs.KeptLaws.{kept_room, kept_spares, fetched_images}
use Rattle.table_pages.proofs.StepLaws.{fetched_keeps, never_unsound}
use Rattle.table_pages.proofs.table.TablePages.spare.Given as given
use Rattle.table_pages.proofs.table.TablePages.spare.Goals as goal

-- what the source knows lasts
lasts : (g : given.Over) → Lasts g.S.PageSource
lasts g = record { knows = g.met.S.PageSource.wears; newest = g.met.S.PageSource.stays }

pub spare_pages-requires-clause-room : goal.spare_pages-requires-clause-room
spare_pages-requires-clause-room g c =
    let t = c.args.self.now in
    let few = t.kept.few_spares in let most = t.kept.few_reached in
    kept_room g.M.Machine g.S.PageSource t.source.now t.made_over.value t.made_with.value t.m.now t.cache.now t.free.now t.reached.items t.spares.items t.promised t.kept (16 - length t.spares.items) (omega (arith, few, most))

pub invariant_of-self : goal.invariant_of-self
invariant_of-self g c =
    let t = c.args.self.now in
    record {
      kept = kept_spares g.M.Machine g.S.PageSource t.source.now t.made_over.value t.made_with.value t.m.now t.cache.now t.free.now t.reached.items t.spares.items t.promised t.kept (lasts g) (outer_in c.spare_pages.result) c.spare_pages.new.m c.spare_pages.new.cache c.spare_pages.new.spares.items c.args.n
          c.spare_pages.ensures.only c.spare_pages.ensures.few c.in-Ok.ensures.kept;
    }

pub invariant_of-self-in-Err : goal.invariant_of-self-in-Err
invariant_of-self-in-Err g c =
    let t = c.args.self.now in
    let was = t.kept.enough in let more = c.spare_pages.ensures.more in
    record {
      kept = kept_spares g.M.Machine g.S.PageSource t.source.now t.made_over.value t.made_with.value t.m.now t.cache.now t.free.now t.reached.items t.spares.items t.promised t.kept (lasts g) (outer_in c.spare_pages.result) c.spare_pages.new.m c.spare_pages.new.cache c.spare_pages.new.spares.items t.promised
          c.spare_pages.ensures.only c.spare_pages.ensures.few (omega (arith, was, more));
    }

pub returns-in-Ok-clause-images : goal.returns-in-Ok-clause-images
returns-in-Ok-clause-images g c =
    let t = c.args.self.now in
    let told = outer_in c.spare_pages.result in
    let all = c.spare_pages.ensures.only.fetches in
    record {
      kept = fetched_keeps t told c.spare_pages.new.m c.spare_pages.new.cache all;
      stays = fetched_images g.M.Machine g.S.PageSource t.source.now t.made_over.value t.made_with.value t.m.now t.cache.now t.free.now t.reached.items t.spares.items t.promised t.kept told c.spare_pages.new.m c.spare_pages.new.cache all (lasts g);
    }

pub returns-in-Err-clause-images : goal.returns-in-Err-clause-images
returns-in-Err-clause-images g c =
    let t = c.args.self.now in
    let told = outer_in c.spare_pages.result in
    let all = c.spare_pages.ensures.only.fetches in
    record {
      kept = fetched_keeps t told c.spare_pages.new.m c.spare_pages.new.cache all;
      stays = fetched_images g.M.Machine g.S.PageSource t.source.now t.made_over.value t.made_with.value t.m.now t.cache.now t.free.now t.reached.items t.spares.items t.promised t.kept told c.spare_pages.new.m c.spare_pages.new.cache all (lasts g);
    }

pub returns-in-Ok-clause-outside : goal.returns-in-Ok-clause-outside
returns-in-Ok-clause-outside g c =
    let all = c.in-Ok.ensures.only.fetches in
    record { reads = all.reads; loses = all.loses; fills = all.fills; source = refl; machine = refl; cache = refl; free = refl; made_over = refl; made_with = refl; count = refl; home_a = refl; taken = λ page is. inl is; barred = λ h place is. inl is }

pub returns-in-Err-clause-outside : goal.returns-in-Err-clause-outside
returns-in-Err-clause-outside g c =
    let all = c.in-Err.ensures.only.fetches in
    record {
      reads = all.reads;
      loses = all.loses;
      fills = all.fills;
      source = refl;
      machine = refl;
      cache = refl;
      free = refl;
      made_over = refl;
      made_with = refl;
      count = refl;
      home_a = refl;
      taken = λ page is. inl is;
      barred = λ h place is. absurd (never_unsound c.in-Err.refusal _ _ c.in-Err.ensures.cause place (let same : c.in-Err.refusal ≡ Unsound place = cc is in same));
    }
