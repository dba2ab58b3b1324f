use Rattle.std.proofs.Common.{inl, length, length-set, false, ◌≡◌, ◌∙◌, ℕ, ◌+◌, ◌-◌, ◌∷◌, Bool, true, ◌||◌, List, sym, ap, subst, arith, refl}
use Rattle.std.proofs.Math.Bool.{or-true}
use Rattle.sector_disk.proofs.CallLaws.{reads_none}
use Rattle.page_cache.specs.Cache.{is_among, pins_of}
use Rattle.page_cache.proofs.Entries.{same_key}
use Rattle.name_page.specs.Pages.{is_one_of as among}
use Rattle.table_pages.specs.Kept.{IsKeptSince}
use Rattle.table_pages.proofs.KeptLaws.{spare_pins, kept_taken}
use Rattle.table_pages.proofs.SpareLaws.{taken_fills}
use Rattle.table_pages.proofs.StepLaws.{still_free, taken_step, taken_reached}
use Rattle.table_pages.proofs.table.TablePages.take.Goals as goal

pub take_spare-requires-clause-pinned : goal.take_spare-requires-clause-pinned
take_spare-requires-clause-pinned g c =
    let t = c.args.self.now in
    spare_pins g.M.Machine g.S.PageSource t.source.now t.made_over.value t.made_with.value t.m.now t.cache.now t.free.now t.reached.items t.spares.items t.promised t.kept

pub invariant_of-self : goal.invariant_of-self
invariant_of-self g c =
    let M = g.M.Machine in
    let S = g.S.PageSource in
    let t = c.args.self.now in
    let page = c.take_spare.result in
    let rest = c.take_spare.new.spares.items in
    let some = c.requires.promised in
    let less : t.promised ≡ t.promised - 1 + 1 = omega (arith, some) in
    let first = subst (λ (spares : List ℕ). IsKeptSince M S t.made_over.value t.made_with.value t.m.now t.cache.now t.source.now t.free.now t.reached.items spares t.promised) c.take_spare.ensures.first t.kept in
    let second = subst (λ (n : ℕ). IsKeptSince M S t.made_over.value t.made_with.value t.m.now t.cache.now t.source.now t.free.now t.reached.items (page ∷ rest) n) less first in
    let third = kept_taken M S t.source.now t.made_over.value t.made_with.value t.m.now t.cache.now c.take_spare.new.cache t.free.now t.reached.items page rest (t.promised - 1) second c.take_spare.ensures.cache in
    record { kept = subst (λ (free : List Bool). IsKeptSince M S t.made_over.value t.made_with.value t.m.now c.take_spare.new.cache t.source.now free t.reached.items rest (t.promised - 1)) (sym c.take_spare.ensures.free) third }

pub returns-clause-outside : goal.returns-clause-outside
returns-clause-outside g c =
    let t = c.args.self.now in
    let page = c.take_spare.result in
    let one : is_among t.spares.items page ≡ true = ap (λ (spares : List ℕ). is_among spares page) c.take_spare.ensures.first ∙ rw (same_key page) refl in
    let at = taken_reached t page c.take_spare.new.cache c.take_spare.new.free c.take_spare.ensures.free c.take_spare.ensures.cache (t.kept.are_spare.are page one) in
    record {
      reads = reads_none t.m.now (λ left h was. g.met.M.Machine.only_now t.m.now left h was);
      loses = tt;
      fills = taken_fills g.M.Machine g.S.PageSource t.source.now t.m.now t.cache.now c.take_spare.new.cache page (pins_of t.cache.now page - 1) c.take_spare.ensures.cache;
      source = refl;
      machine = refl;
      cache = refl;
      free = refl;
      made_over = refl;
      made_with = refl;
      count = ap (λ (f : List Bool). length f) c.take_spare.ensures.free ∙ length-set t.free.now page false;
      home_a = refl;
      taken = still_free t.free.now c.take_spare.new.free page (is_among c.take_spare.new.cache.dirty) c.take_spare.ensures.free at.1;
      barred = λ h place is. inl is;
    }

pub returns-clause-step : goal.returns-clause-step
returns-clause-step g c = taken_step c.args.self.now c.take_spare.result c.take_spare.new.cache c.take_spare.new.free c.take_spare.ensures.free c.take_spare.ensures.cache

pub returns-clause-reached : goal.returns-clause-reached
returns-clause-reached g c =
    let t = c.args.self.now in
    let page = c.take_spare.result in
    let one : is_among t.spares.items page ≡ true = ap (λ (spares : List ℕ). is_among spares page) c.take_spare.ensures.first ∙ rw (same_key page) refl in
    let at = taken_reached t page c.take_spare.new.cache c.take_spare.new.free c.take_spare.ensures.free c.take_spare.ensures.cache (t.kept.are_spare.are page one) in
    (at.0, ap (λ (b : Bool). among t.reached.items page || b) at.1 ∙ or-true (among t.reached.items page))
