use Rattle.std.proofs.Common.{◌≡◌, ◌+◌, ◌*◌, length, Some, arith, subst, ap, ◌∙◌, sym, refl, Option}
use Rattle.std.specs.Prelude.{option_map, IfSome}
use Rattle.std.proofs.lemmas.Result.{IfOk-weaker}
use Rattle.volume_layout.specs.Kinds.{gap_of}
use Rattle.fsd_log.specs.Scan.{Head, tape, entered}
use Rattle.log_thirds.specs.Disk.{reads}
use Rattle.log_record.specs.declared.judging.Found.{Found}
use Rattle.log_thirds.specs.Copies.{AreCopies, entry_in}
use Rattle.log_thirds.specs.declared.find.ScanStep.{ScanStep}
use Rattle.fsd_formats.specs.Record.{Stamp}
use Rattle.log_thirds.specs.Reading.{FitsThere, StepsOn, stepped_in, stepped_of}
use Rattle.log_thirds.proofs.FindLaws.{goes_to, here_found, not_here}
use Rattle.sector_disk.proofs.CallLaws.{reads_then}
use Rattle.sector_disk.specs.Image.{Windows, IsWorn, open_damage}
use Rattle.log_thirds.specs.Seen.{SeesOn}
use Rattle.log_thirds.proofs.SeenLaws.{sees_more, sees_on, here_below}
use Rattle.log_thirds.proofs.find.next.Goals as goal

pub over-requires : goal.over-requires
over-requires g c = (subst (λ (o : Option Found). IfSome o (FitsThere c.args.layout.now (record { epoch = c.args.anchor.now.epoch; number = c.args.number }) c.args.at c.args.end c.find.new.scratch.copies.items)) c.in-Ok-Some.field-0-is c.in-Ok-Some.ensures.found).fits

pub returns-in-Ok-Some-clause-goes : goal.returns-in-Ok-Some-clause-goes
returns-in-Ok-Some-clause-goes g c =
    let n = c.in-Ok-Some.found.n in
    let found = subst (λ (o : Option Found). IfSome o (FitsThere c.args.layout.now (record { epoch = c.args.anchor.now.epoch; number = c.args.number }) c.args.at c.args.end c.find.new.scratch.copies.items)) c.in-Ok-Some.field-0-is c.in-Ok-Some.ensures.found in
    subst (StepsOn c.args.layout.now c.args.at) (sym c.over.ensures) (record {
      goes = goes_to c.args.layout.now c.args.at c.args.at n c.args.end (record { at = c.args.at + (2 * n + (5 + 2 * (gap_of c.args.layout.now))); end = c.args.end }) refl (omega arith) found.fits c.requires.from c.requires.ends;
      lies = omega (arith, found.counted);
      few = omega (arith, found.counted, found.few);
      in_third = c.requires.from;
    })

pub returns-in-Ok-None-clause-reads : goal.returns-in-Ok-None-clause-reads
returns-in-Ok-None-clause-reads g c = reads_then c.in-Ok-None.ensures.reads c.enter.ensures.reads

pub returns-in-Ok-Some-clause-copied : goal.returns-in-Ok-Some-clause-copied
returns-in-Ok-Some-clause-copied g c =
    let stamp : Stamp = record { epoch = c.args.anchor.now.epoch; number = c.args.number } in
    let found = subst (λ (o : Option Found). IfSome o (FitsThere c.args.layout.now (record { epoch = c.args.anchor.now.epoch; number = c.args.number }) c.args.at c.args.end c.find.new.scratch.copies.items)) c.in-Ok-Some.field-0-is c.in-Ok-Some.ensures.found in
    subst (λ (s : ScanStep). AreCopies stamp (length s.found.pages.items) c.find.new.scratch.copies.items) (sym c.over.ensures) found.copied

pub returns-in-Ok-Some-clause-seen : goal.returns-in-Ok-Some-clause-seen
returns-in-Ok-Some-clause-seen g c j h jw =
    let M = g.M.Machine in
    let l = c.args.layout.now in let third = c.args.anchor.now.third in let epoch = c.args.anchor.now.epoch in
    let head : Head = record { number = c.args.number; at = c.args.at; end = c.args.end } in
    let counted = (subst (λ (o : Option Found). IfSome o (FitsThere c.args.layout.now (record { epoch = c.args.anchor.now.epoch; number = c.args.number }) c.args.at c.args.end c.find.new.scratch.copies.items)) c.in-Ok-Some.field-0-is c.in-Ok-Some.ensures.found).counted in
    sees_more l third c.args.at (open_damage (M.now c.args.m.now).windows) j (M.now c.find.new.m).image _ _
    (λ i found.
    (λ k. Some (stepped_in c.args.number c.find.new.scratch.copies.items (c.over.ensures k)))
    ∙ (λ k. Some (record { from = c.args.at; entry = entry_in c.args.number c.in-Ok-Some.found c.find.new.scratch.copies.items; at = c.args.at + (2 * counted k + (5 + 2 * (gap_of c.args.layout.now))); end = c.args.end }))
    ∙ here_found l epoch (tape l third (reads i)) head (entry_in c.args.number c.in-Ok-Some.found c.find.new.scratch.copies.items) (ap (option_map (λ f. entry_in c.args.number f c.find.new.scratch.copies.items)) (sym c.in-Ok-Some.field-0-is) ∙ found))
    (c.in-Ok-Some.ensures.seen j h jw)

pub returns-in-Ok-None-clause-seen : goal.returns-in-Ok-None-clause-seen
returns-in-Ok-None-clause-seen g c =
    let M = g.M.Machine in
    let old = M.now c.args.m.now in
    let mid = M.now c.find.new.m in
    let l = c.args.layout.now in let third = c.args.anchor.now.third in let epoch = c.args.anchor.now.epoch in
    let head : Head = record { number = c.args.number; at = c.args.at; end = c.args.end } in
    IfOk-weaker c.enter.result _ _
    (λ o later j h jw.
    let h1 = c.enter.ensures.reads.trust.honest h in
    let same = (c.find.ensures.reads.worn h1).windows in
    let first = c.in-Ok-None.ensures.seen j h1 jw in
    let to_mid = subst (λ (w : Windows). IsWorn (open_damage w) first.image mid.image) (sym same) first.to in
    let second = subst (λ (w : Windows). SeesOn l third c.args.end (open_damage w) first.image (M.now c.enter.new.m).image (λ i. option_map (stepped_in c.args.number c.enter.new.scratch.copies.items) o ≡ option_map stepped_of (entered l epoch (tape l third (reads i)) (record { number = c.args.number; at = c.args.at; end = c.args.end })))) same (later first.image h to_mid) in
    sees_on l third c.args.at c.args.end (open_damage old.windows) j mid.image (M.now c.enter.new.m).image _ _ _ c.requires.before first second
    (λ i k worn below found step.
    not_here l epoch (tape l third (reads k)) (record { number = c.args.number; at = c.args.at; end = c.args.end }) (option_map (stepped_in c.args.number c.enter.new.scratch.copies.items) o)
    (ap (option_map (λ f. entry_in c.args.number f c.find.new.scratch.copies.items)) (sym c.in-Ok-None.field-0-is) ∙ found ∙ sym (here_below l epoch (tape l third (reads i)) (tape l third (reads k)) c.args.number c.args.at c.args.end c.requires.before below)) step))
    c.enter.ensures.seen
