use Rattle.std.proofs.Common.{◌≡◌, ◌≤◌, ◌∙◌, ◌+◌, ◌-◌, ℕ, Bool, true, false, ◌&&◌, ◌||◌, get_or, ap, refl, sym, arith}
use Rattle.std.specs.Prelude.{nat_le}
use Rattle.std.proofs.lemmas.Bool.{and_from, and_parts, both_ways, le-leb, leb-true}
use Rattle.volume_layout.specs.Layout.{home_a}
use Rattle.sector_set.specs.Bits.{in_range}
use Rattle.volume_layout.proofs.RegionLaws.{regions_apart}
use Rattle.saved_map.proofs.LayoutLaws.{data_below}
use Rattle.saved_map.proofs.TakingLaws.{data_added, data_places, home_places, homes_added, new_in_set, no_places}
use Rattle.saved_map.proofs.taking.take_run.Goals as goal

lies : (from to start stop : ℕ) (b : Bool) → b ≡ (nat_le from start && nat_le stop to) → b ≡ true → (from ≤ start) × (stop ≤ to)
lies from to start stop b is so = let both = and_parts (nat_le from start) (nat_le stop to) (sym is ∙ so) in (leb-true from start both.0, leb-true stop to both.1)

not_both : (from to start stop : ℕ) (b : Bool) → b ≡ (nat_le from start && nat_le stop to) → b ≡ false → from ≤ start → stop ≤ to → ⊥
not_both from to start stop b is none low high = both_ways b none (is ∙ and_from (nat_le from start) (nat_le stop to) (le-leb from start low) (le-leb stop to high))

pub release_run-requires : goal.release_run-requires
release_run-requires c =
    let apart = regions_apart c.args.l.now c.requires.planned in
    let at = lies c.data_start.result c.sectors.result c.args.start c.args.stop c.is_within.result c.is_within.ensures c.if-is_within.true in
    let kept = c.requires.kept in
    record {
      own = kept.own;
      some = c.requires.some;
      from = omega (arith, at.0, kept.of.from, c.data_start.ensures);
      to = omega (arith, at.1, kept.of.to, c.sectors.ensures.value, data_below c.args.l.now c.requires.planned);
      new = new_in_set c.args.l.now c.args.map.now c.args.free_pages.now c.args.start c.args.stop kept apart (omega (arith, at.0, c.data_start.ensures)) c.requires.new;
    }

pub returns-then-is_within : goal.returns-then-is_within
returns-then-is_within c =
    let l = c.args.l.now in
    let apart = regions_apart l c.requires.planned in
    let at = lies c.data_start.result c.sectors.result c.args.start c.args.stop c.is_within.result c.is_within.ensures c.if-is_within.true in
    let done = c.release_run.ensures in
    record {
      taken = λ so. data_added l c.args.map.now c.args.free_pages.now c.args.start c.args.stop c.requires.kept c.release_run.new.map apart (omega (arith, at.0, c.data_start.ensures))
          (record { from = done.from; to = done.to; own = done.own; each = done.each });
      placed = (λ so. data_places l c.args.start c.args.stop (omega (arith, at.0, c.data_start.ensures)) (omega (arith, at.1, c.sectors.ensures.value)), λ places. refl);
    }

pub free_run-requires : goal.free_run-requires
free_run-requires c =
    let l = c.args.l.now in
    let at = lies c.first_home-home.result (c.first_home-home.result + c.pages.result) c.args.start c.args.stop c.is_within-2.result c.is_within-2.ensures c.if-is_within-2.true in
    record {
      order = omega (arith, c.requires.some);
      room = omega (arith, at.1, c.pages.ensures.value, c.requires.kept.of.pages_are);
    }

pub returns-then-is_within-2 : goal.returns-then-is_within-2
returns-then-is_within-2 c =
    let l = c.args.l.now in
    let at = lies c.first_home-home.result (c.first_home-home.result + c.pages.result) c.args.start c.args.stop c.is_within-2.result c.is_within-2.ensures c.if-is_within-2.true in
    let low : home_a l 0 ≤ c.args.start = omega (arith, at.0, c.first_home-home.ensures) in
    let high : c.args.stop ≤ home_a l l.pages = omega (arith, at.1, c.first_home-home.ensures, c.pages.ensures.value) in
    let done = c.free_run.ensures in
    record {
      taken = λ so. homes_added l c.args.map.now c.args.free_pages.now c.args.start c.args.stop c.requires.kept c.free_run.new.free_pages low high done.size
          (λ page. done.each page ∙ ap (λ (home : ℕ). get_or c.args.free_pages.now page false || in_range (c.args.start - home) (c.args.stop - home) page) c.first_home-home.ensures);
      placed = (λ so. home_places l c.args.start c.args.stop low high, λ places. refl);
    }

pub returns-clause-taken : goal.returns-clause-taken
returns-clause-taken c so = absurd (cc)

pub returns-clause-placed : goal.returns-clause-placed
returns-clause-placed c =
    let l = c.args.l.now in
    let apart = regions_apart l c.requires.planned in (
      λ so. absurd (cc),
      λ places. absurd (no_places l c.args.start c.args.stop apart c.requires.some
          (λ low high. not_both c.data_start.result c.sectors.result c.args.start c.args.stop c.is_within.result c.is_within.ensures c.if-is_within.false (omega (arith, low, c.data_start.ensures)) (omega (arith, high, c.sectors.ensures.value)))
          (λ low high. not_both c.first_home-home.result (c.first_home-home.result + c.pages.result) c.args.start c.args.stop c.is_within-2.result c.is_within-2.ensures c.if-is_within-2.false (omega (arith, low, c.first_home-home.ensures))
          (omega (arith, high, c.first_home-home.ensures, c.pages.ensures.value)))
          places),
    )
