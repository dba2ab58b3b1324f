use Rattle.std.proofs.Common.{◌≡◌, inl, inr, ◌∙◌, ℕ, ◌+◌, List, None, Some, length, true, refl, sym, ap, subst, arith, ◌++◌, ◌∷◌, []}
use Rattle.std.specs.Prelude.{IsSome, option_and_then}
use Rattle.fsd_bytes.specs.declared.refusal.Refusal.TheVariants.{Unsound}
use Rattle.fsd_formats.specs.NamePage.{read_page}
use Rattle.page_cache.specs.Cache.{IsResident, newest_bytes, pins_of}
use Rattle.name_page.specs.Pages.{is_one_of, outer_in}
use Rattle.name_page.proofs.StepLaws.{last_is_one}
use Rattle.page_cache.specs.Accepted.{cached_content}
use Rattle.table_pages.specs.Bringing.{HasRoomFor, FetchesOnly, given_by, IsHit}
use Rattle.table_pages.specs.Kept.{IsKeptSince, images_given}
use Rattle.table_pages.specs.Table.{step_of}
use Rattle.table_pages.specs.ImageLaws.{image_count}
use Rattle.table_pages.proofs.LastLaws.{Lasts}
use Rattle.table_pages.proofs.PinLaws.{set_only, only_there, same_there}
use Rattle.table_pages.proofs.SpareLaws.{room_pins, kept_pins, fetches_pins}
use Rattle.table_pages.proofs.KeptLaws.{kept_room, kept_brought, kept_reached, fetched_images}
use Rattle.table_pages.proofs.StepLaws.{at_hand, within_free, within_pages, page_in, barred, fetched_keeps, hit_images, refused_bars}
use Rattle.table_pages.proofs.table.TablePages.reach.Given as given
use Rattle.table_pages.proofs.table.TablePages.reach.Goals as goal
use Rattle.table_pages.proofs.table.TablePages.reach.Goals.{After-bring_used, After-keep}

-- what the source knows lasts
lasts : (g : given.Over) → Lasts g.S.PageSource
lasts g = record { knows = g.met.S.PageSource.wears; newest = g.met.S.PageSource.stays }

room : (g : given.Over) (c : After-bring_used g) → HasRoomFor 1 c.args.self.now.cache.now
room g c =
    let t = c.args.self.now in
    let more = c.requires.more in let few = t.kept.few_spares in
    kept_room g.M.Machine g.S.PageSource t.source.now t.made_over.value t.made_with.value t.m.now t.cache.now t.free.now t.reached.items t.spares.items t.promised t.kept 1 (omega (arith, more, few))

pub bring_used-requires-clause-page : goal.bring_used-requires-clause-page
bring_used-requires-clause-page g c = within_pages c.args.self.now c.args.page c.requires.within

pub bring_used-requires-clause-room : goal.bring_used-requires-clause-room
bring_used-requires-clause-room g c =
    let t = c.args.self.now in
    let more = c.requires.more in let few = t.kept.few_spares in
    kept_room g.M.Machine g.S.PageSource t.source.now t.made_over.value t.made_with.value t.m.now t.cache.now t.free.now t.reached.items t.spares.items t.promised t.kept 1 (omega (arith, more, few))

-- what is kept once the page is brought
brought : (g : given.Over) (c : After-bring_used g) → let t = c.args.self.now in
    IsKeptSince g.M.Machine g.S.PageSource t.made_over.value t.made_with.value c.bring_used.new.m c.bring_used.new.cache t.source.now t.free.now t.reached.items t.spares.items t.promised
brought g c =
    let t = c.args.self.now in
    kept_brought g.M.Machine g.S.PageSource t.source.now t.made_over.value t.made_with.value t.m.now t.cache.now t.free.now t.reached.items t.spares.items t.promised t.kept (outer_in c.bring_used.result) c.bring_used.new.m c.bring_used.new.cache
    c.bring_used.ensures.fetches (lasts g) c.bring_used.ensures.pins

pub keep-requires : goal.keep-requires
keep-requires g c =
    let same = c.bring_used.ensures.pins c.args.page in
    let few = room_pins 1 c.args.self.now.cache.now (room g (goal.at.keep-requires g c).After-bring_used) c.args.page in
    let more = c.requires.more in
    (omega arith, (c.in-Ok.ensures.done.there, (omega (arith, same, few), omega (arith, more))))

pub invariant_of-self : goal.invariant_of-self
invariant_of-self g c =
    let t = c.args.self.now in
    let mid = c.bring_used.new.cache in
    let more = c.requires.more in
    let kept = kept_reached g.M.Machine g.S.PageSource t.source.now t.made_over.value t.made_with.value c.bring_used.new.m mid t.free.now t.reached.items t.spares.items t.promised
    (brought g (goal.at.invariant_of-self g c).After-bring_used) c.keep.new.cache c.args.page c.keep.ensures.pinned c.in-Ok.ensures.done.there (omega (arith, more)) in
    record { kept = subst (λ (reached : List ℕ). IsKeptSince g.M.Machine g.S.PageSource t.made_over.value t.made_with.value c.bring_used.new.m c.keep.new.cache t.source.now t.free.now reached t.spares.items t.promised) (sym c.keep.ensures.noted) kept }

pub invariant_of-self-in-Err : goal.invariant_of-self-in-Err
invariant_of-self-in-Err g c = record { kept = brought g (goal.at.invariant_of-self-in-Err g c).After-bring_used }

-- the page was brought and is pinned
fetches : (g : given.Over) (c : After-keep g) → let t = c.args.self.now in FetchesOnly g.M.Machine g.S.PageSource t.source.now None t.m.now c.bring_used.new.m t.cache.now c.keep.new.cache
fetches g c =
    let t = c.args.self.now in
    let mid = c.bring_used.new.cache in
    let page = c.args.page in
    let set = c.keep.ensures.pinned in
    fetches_pins g.M.Machine g.S.PageSource t.source.now None t.m.now c.bring_used.new.m t.cache.now mid c.keep.new.cache c.in-Ok.ensures.fetches
    (set_only mid c.keep.new.cache page (pins_of mid page + 1) set)
    (λ q. let more = kept_pins mid c.keep.new.cache page set c.in-Ok.ensures.done.there q in omega (arith, more))

pub returns-in-Ok-clause-outside : goal.returns-in-Ok-clause-outside
returns-in-Ok-clause-outside g c =
    let all = fetches g (goal.at.returns-in-Ok-clause-outside g c).After-keep in
    record { reads = all.reads; loses = all.loses; fills = all.fills; source = refl; machine = refl; cache = refl; free = refl; made_over = refl; made_with = refl; count = refl; home_a = refl; taken = λ page is. inl is; barred = λ h place is. inl is }

pub returns-in-Ok-clause-images : goal.returns-in-Ok-clause-images
returns-in-Ok-clause-images g c =
    let t = c.args.self.now in
    let all = fetches g (goal.at.returns-in-Ok-clause-images g c).After-keep in
    record {
      kept = fetched_keeps t None c.bring_used.new.m c.keep.new.cache all;
      stays = fetched_images g.M.Machine g.S.PageSource t.source.now t.made_over.value t.made_with.value t.m.now t.cache.now t.free.now t.reached.items t.spares.items t.promised t.kept None c.bring_used.new.m c.keep.new.cache all (lasts g);
    }

pub returns-in-Ok-clause-done : goal.returns-in-Ok-clause-done
returns-in-Ok-clause-done g c =
    let t = c.args.self.now in
    let page = c.args.page in
    let lt = within_free t page c.requires.within in
    let count = image_count (newest_bytes c.keep.new.cache (given_by g.M.Machine g.S.PageSource t.source.now c.bring_used.new.m)) (length t.free.now) in
    let one : is_one_of c.keep.new.list.items page ≡ true = ap (λ (pages : List ℕ). is_one_of pages page) c.keep.ensures.noted ∙ last_is_one t.reached.items page in
    let mid = c.bring_used.new.cache in
    let new = c.keep.new.cache in
    let only = set_only mid new page (pins_of mid page + 1) c.keep.ensures.pinned in
    let there : IsResident new page = only_there mid new only page c.in-Ok.ensures.done.there in
    let is = page_in new (given_by g.M.Machine g.S.PageSource t.source.now c.bring_used.new.m) (length t.free.now) page there lt in
    let same : cached_content new (length t.free.now) page ≡ cached_content mid (length t.free.now) page = ap (λ o. option_and_then (read_page page (length t.free.now)) o) (only.bytes page) in
    let images = images_given (newest_bytes new (given_by g.M.Machine g.S.PageSource t.source.now c.bring_used.new.m)) (length t.free.now) in
    let same_dirty : new.dirty ≡ t.cache.now.dirty = (fetches g (goal.at.returns-in-Ok-clause-done g c).After-keep).brings.dirty in
    record {
      step =
          ap (λ (pages : List ℕ). record (step_of t) { images = images; reached = pages; changed = new.dirty }) c.keep.ensures.noted
          ∙ ap (λ (pages : List ℕ). record (step_of t) { images = images; reached = t.reached.items ++ page ∷ []; changed = pages }) same_dirty;
      reached = (omega (arith, lt, count), rw one refl);
      accepted = subst (λ o. IsSome o) (sym (is ∙ same)) c.in-Ok.ensures.done.accepted;
      used = c.in-Ok.ensures.done.used;
    }

pub returns-in-Err-clause-images : goal.returns-in-Err-clause-images
returns-in-Err-clause-images g c =
    let t = c.args.self.now in
    let told = outer_in c.bring_used.result in
    record {
      kept = fetched_keeps t told c.bring_used.new.m c.bring_used.new.cache c.bring_used.ensures.fetches;
      stays = fetched_images g.M.Machine g.S.PageSource t.source.now t.made_over.value t.made_with.value t.m.now t.cache.now t.free.now t.reached.items t.spares.items t.promised t.kept told c.bring_used.new.m c.bring_used.new.cache c.bring_used.ensures.fetches (lasts g);
    }

pub returns-in-Err-clause-refused : goal.returns-in-Err-clause-refused
returns-in-Err-clause-refused g c =
    let t = c.args.self.now in
    let images = images_given (newest_bytes c.bring_used.new.cache (given_by g.M.Machine g.S.PageSource t.source.now c.bring_used.new.m)) (length t.free.now) in
    record {
      step = ap (λ (pages : List ℕ). record (step_of t) { images = images; refusal = Some c.in-Err.refusal; changed = pages }) c.in-Err.ensures.fetches.brings.dirty;
      cause = elim (c.in-Err.ensures.cause) [
        | inl outer ↦ inl outer
        | inr bad ↦ inr (bad.0, barred t.free.now c.bring_used.new.cache (given_by g.M.Machine g.S.PageSource t.source.now c.bring_used.new.m) c.args.page (within_free t c.args.page c.requires.within) bad.1)
      ];
    }

pub returns-in-Err-clause-outside : goal.returns-in-Err-clause-outside
returns-in-Err-clause-outside g c =
    let t = c.args.self.now in
    let all = c.in-Err.ensures.fetches in
    record {
      reads = all.reads;
      loses = all.loses;
      fills = all.fills;
      source = refl;
      machine = refl;
      cache = refl;
      free = refl;
      made_over = refl;
      made_with = refl;
      count = refl;
      home_a = refl;
      taken = λ page is. inl is;
      barred = λ h place is. inr (refused_bars t _ c.args.page (within_free t c.args.page c.requires.within) all.fills h c.in-Err.refusal c.in-Err.ensures.cause place (let same : c.in-Err.refusal ≡ Unsound place = cc is in same));
    }

-- ---- memory is not wanting

pub returns-in-Ok-clause-memory : goal.returns-in-Ok-clause-memory
returns-in-Ok-clause-memory g c = λ hand.
    let t = c.args.self.now in
    let mid = c.bring_used.new.cache in
    let new = c.keep.new.cache in
    let only = set_only mid new c.args.page (pins_of mid c.args.page + 1) c.keep.ensures.pinned in
    let before = (c.in-Ok.ensures.at_hand (at_hand t c.args.page hand)).hit in
    let hit : IsHit t.m.now c.bring_used.new.m t.cache.now new = record { machine = before.machine; bytes = λ q. only.bytes q ∙ before.bytes q } in
    record { images = hit_images t c.bring_used.new.m new hit; spares = refl; stays = λ q is. (is.0, same_there t.cache.now new hit.bytes q is.1); enough = λ is. cc is }

pub returns-in-Err-clause-memory : goal.returns-in-Err-clause-memory
returns-in-Err-clause-memory g c = λ hand.
    let t = c.args.self.now in
    let new = c.bring_used.new.cache in
    let taken = c.in-Err.ensures.at_hand (at_hand t c.args.page hand) in
    let hit = taken.hit in
    record { images = hit_images t c.bring_used.new.m new hit; spares = refl; stays = λ q is. (is.0, same_there t.cache.now new hit.bytes q is.1); enough = taken.memory }
