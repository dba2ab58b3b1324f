use Rattle.std.proofs.Common.{◌≡◌, ℕ, Bool, List, Option, None, Result, Ok, refl, sym, ap, ◌∙◌}
use Rattle.sector_disk.specs.Calls.{as_sector}
use Rattle.sector_disk.specs.Image.{open_damage}
use Rattle.sector_disk.proofs.CallLaws.{reads_then}
use Rattle.sector_disk.proofs.Wear.{worn_damaged}
use Rattle.fsd_formats.specs.Record.{bears}
use Rattle.log_thirds.proofs.ImageLaws.{none_is_neither, slot_first}
use Rattle.log_thirds.proofs.ReadingLaws.{read_back, read_shown}
use Rattle.log_thirds.proofs.images.read_slot.Goals as goal

is_none : {E : Type 0} (o : Option (List ℕ)) → ◌≡◌ {A = Result (Option (List ℕ)) E} (Ok o) (Ok None) → o ≡ None
is_none o is = cc is

pub returns-clause-reads : goal.returns-clause-reads
returns-clause-reads g c = reads_then c.in_ok-first.ensures.reads c.in_ok-copy.ensures.reads

pub returns-in-Some-clause-sees : goal.returns-in-Some-clause-sees
returns-in-Some-clause-sees g c h =
    let M = g.M.Machine in
    slot_first (M.now c.args.m.now) c.args.slot c.args.page c.args.epoch c.in_ok-first.first c.in-Some.image
    (read_shown (M.now c.args.m.now) (M.now c.read_sector.new.m) c.args.slot.place c.in_ok-first.first (c.in_ok-first.ensures.reads.worn h) (c.in_ok-first.ensures.shown h))
    (sym c.in-Some.ensures)

pub returns-clause-sees : goal.returns-clause-sees
returns-clause-sees g c h =
    let M = g.M.Machine in
    let old = M.now c.args.m.now in
    let mid = M.now c.read_sector.new.m in
    let h1 = c.in_ok-copy.ensures.reads.trust.honest h in
    let worn = c.in_ok-first.ensures.reads.worn h1 in
    record {
      first = c.in_ok-first.first;
      copy = c.in_ok-copy.copy;
      read_first = read_shown old mid c.args.slot.place c.in_ok-first.first worn (c.in_ok-first.ensures.shown h1);
      read_copy = read_back old mid c.args.slot.copy c.in_ok-copy.copy worn (read_shown mid (M.now c.read_sector-2.new.m) c.args.slot.copy c.in_ok-copy.copy (c.in_ok-copy.ensures.reads.worn h) (c.in_ok-copy.ensures.shown h));
      serves = c.choose.ensures;
    }

pub returns-clause-lost : goal.returns-clause-lost
returns-clause-lost g c is h =
    let M = g.M.Machine in
    let slot = c.args.slot in
    let mid = M.now c.read_sector.new.m in
    let reads = c.in_ok-copy.ensures.reads in
    let test : List ℕ → Bool = bears c.args.page (record { epoch = c.args.epoch; number = slot.number }) in
    let neither = none_is_neither test c.in_ok-first.first c.in_ok-copy.copy (sym c.choose.ensures ∙ is_none c.choose.result is) in
    record {
      copies = record { number = slot.number; is = refl };
      first = worn_damaged (open_damage mid.windows) mid.image (M.now c.read_sector-2.new.m).image slot.place (reads.worn h).image (c.in_ok-first.ensures.shown (reads.trust.honest h) ∙ ap as_sector neither.0);
      second = c.in_ok-copy.ensures.shown h ∙ ap as_sector neither.1;
    }
