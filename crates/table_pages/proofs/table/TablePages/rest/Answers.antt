use Rattle.std.proofs.Common.{inl, List, ℕ, [], length, refl, sym, subst, arith}
use Rattle.sector_disk.proofs.CallLaws.{reads_none}
use Rattle.table_pages.specs.Kept.{IsKeptSince}
use Rattle.table_pages.proofs.KeptLaws.{spare_pins, reached_pins, kept_unreached, kept_unspared}
use Rattle.table_pages.proofs.PinLaws.{only_then, only_there}
use Rattle.table_pages.proofs.SpareLaws.{pinned_fills}
use Rattle.table_pages.proofs.StepLaws.{rested_step, same_images}
use Rattle.table_pages.proofs.table.TablePages.rest.Given as given
use Rattle.table_pages.proofs.table.TablePages.rest.Goals as goal
use Rattle.table_pages.proofs.table.TablePages.rest.Goals.{After-release, After-release-2}

-- what is kept once the pages that were reached are unpinned
unreached : (g : given.Over) (c : After-release g) → let t = c.args.self.now in IsKeptSince g.M.Machine g.S.PageSource t.made_over.value t.made_with.value t.m.now c.release.new.cache t.source.now t.free.now [] t.spares.items t.promised
unreached g c =
    let t = c.args.self.now in
    kept_unreached g.M.Machine g.S.PageSource t.source.now t.made_over.value t.made_with.value t.m.now t.cache.now t.free.now t.reached.items t.spares.items t.promised t.kept c.release.new.cache c.release.ensures.only c.release.ensures.pins

pub release-requires : goal.release-requires
release-requires g c =
    let t = c.args.self.now in
    (omega arith, reached_pins g.M.Machine g.S.PageSource t.source.now t.made_over.value t.made_with.value t.m.now t.cache.now t.free.now t.reached.items t.spares.items t.promised t.kept)

pub release-requires-2 : goal.release-requires-2
release-requires-2 g c =
    let t = c.args.self.now in
    (omega arith, spare_pins g.M.Machine g.S.PageSource t.source.now t.made_over.value t.made_with.value t.m.now c.release.new.cache t.free.now [] t.spares.items t.promised (unreached g (goal.at.release-requires-2 g c).After-release))

-- no page is kept any more
unspared : (g : given.Over) (c : After-release-2 g) → let t = c.args.self.now in IsKeptSince g.M.Machine g.S.PageSource t.made_over.value t.made_with.value t.m.now c.release.new.cache t.source.now t.free.now [] t.spares.items t.promised
    → IsKeptSince g.M.Machine g.S.PageSource t.made_over.value t.made_with.value t.m.now c.release-2.new.cache t.source.now t.free.now [] [] 0
unspared g c kept =
    let t = c.args.self.now in
    kept_unspared g.M.Machine g.S.PageSource t.source.now t.made_over.value t.made_with.value t.m.now c.release.new.cache t.free.now [] t.spares.items t.promised kept c.release-2.new.cache c.release-2.ensures.only c.release-2.ensures.pins

pub invariant_of-self : goal.invariant_of-self
invariant_of-self g c =
    let M = g.M.Machine in
    let S = g.S.PageSource in
    let t = c.args.self.now in
    let last = c.release-2.new.cache in
    let reached = subst (λ (l : List ℕ). IsKeptSince M S t.made_over.value t.made_with.value t.m.now last t.source.now t.free.now l [] 0) (sym c.release.ensures.none) (unspared g (goal.at.invariant_of-self g c).After-release-2 (unreached g (goal.at.invariant_of-self g c).After-release)) in
    record { kept = subst (λ (l : List ℕ). IsKeptSince M S t.made_over.value t.made_with.value t.m.now last t.source.now t.free.now c.release.new.list.items l 0) (sym c.release-2.ensures.none) reached }

pub returns-clause-left : goal.returns-clause-left
returns-clause-left g c =
    let kept = unspared g (goal.at.returns-clause-left g c).After-release-2 (unreached g (goal.at.returns-clause-left g c).After-release) in
    record {
      machine = refl;
      pins = only_then c.args.self.now.cache.now c.release.new.cache c.release-2.new.cache c.release.ensures.only c.release-2.ensures.only;
      flags = refl;
      ready = record { pages = kept.pages; small = kept.small; sectors = kept.sectors; frames = kept.frames; unpinned = kept.pins };
      clean = kept.clean;
    }

pub returns-clause-outside : goal.returns-clause-outside
returns-clause-outside g c =
    let t = c.args.self.now in
    record {
      reads = reads_none t.m.now (λ left h was. g.met.M.Machine.only_now t.m.now left h was);
      loses = tt;
      fills = pinned_fills g.M.Machine g.S.PageSource t.source.now t.m.now t.cache.now c.release-2.new.cache (only_then t.cache.now c.release.new.cache c.release-2.new.cache c.release.ensures.only c.release-2.ensures.only);
      source = refl;
      machine = refl;
      cache = refl;
      free = refl;
      made_over = refl;
      made_with = refl;
      count = refl;
      home_a = refl;
      taken = λ page is. inl is;
      barred = λ h place is. absurd (cc is);
    }

pub returns-clause-step : goal.returns-clause-step
returns-clause-step g c = rested_step c.args.self.now c.release.new.cache c.release-2.new.cache c.release.new.list.items c.release.ensures.only c.release-2.ensures.only c.release.ensures.none

pub returns-clause-memory : goal.returns-clause-memory
returns-clause-memory g c =
    let old = c.args.self.now.cache.now in
    let last = c.release-2.new.cache in
    let only = only_then old c.release.new.cache last c.release.ensures.only c.release-2.ensures.only in
    record { images = same_images old last _ (length c.args.self.now.free.now) only.bytes; spares = refl; stays = λ q is. (is.0, only_there old last only q is.1); enough = λ is. cc is }
