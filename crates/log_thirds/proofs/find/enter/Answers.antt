use Rattle.std.proofs.Common.{◌+◌, ◌*◌, ◌<◌, ℕ, length, arith, subst, ap, ◌∙◌, sym, refl, Some, Option}
use Rattle.std.specs.Prelude.{option_map, IfSome}
use Rattle.volume_layout.specs.Kinds.{gap_of}
use Rattle.fsd_log.specs.Scan.{Head, IsEnd, tape, record_here}
use Rattle.log_thirds.specs.Disk.{reads}
use Rattle.fsd_log.proofs.WalkLaws.{next_end}
use Rattle.log_record.specs.declared.judging.Found.{Found}
use Rattle.log_thirds.specs.Copies.{AreCopies, entry_in}
use Rattle.log_thirds.specs.declared.find.ScanStep.{ScanStep}
use Rattle.fsd_formats.specs.Record.{Stamp}
use Rattle.log_thirds.specs.Reading.{FitsThere, StepsOn, stepped_in}
use Rattle.log_thirds.proofs.FindLaws.{goes_to, there_found, not_there}
use Rattle.sector_disk.specs.Image.{open_damage}
use Rattle.log_thirds.proofs.SeenLaws.{sees_more}
use Rattle.log_thirds.proofs.find.enter.Goals as goal

pub over-requires : goal.over-requires
over-requires g c = (subst (λ (o : Option Found). IfSome o (FitsThere c.args.layout.now (record { epoch = c.args.anchor.now.epoch; number = c.args.number }) c.args.end (c.args.end + c.third-third.result) c.find.new.scratch.copies.items)) c.in-Ok-Some.field-0-is c.in-Ok-Some.ensures.found).fits

pub returns-in-Ok-Some-clause-goes : goal.returns-in-Ok-Some-clause-goes
returns-in-Ok-Some-clause-goes g c =
    let n = c.in-Ok-Some.found.n in
    let value = c.third-third.ensures.value in
    let found = subst (λ (o : Option Found). IfSome o (FitsThere c.args.layout.now (record { epoch = c.args.anchor.now.epoch; number = c.args.number }) c.args.end (c.args.end + c.third-third.result) c.find.new.scratch.copies.items)) c.in-Ok-Some.field-0-is c.in-Ok-Some.ensures.found in
    subst (StepsOn c.args.layout.now c.args.at) (sym c.over.ensures) (record {
      goes = goes_to c.args.layout.now c.args.at c.args.end n (c.args.end + c.third-third.result) (record { at = c.args.end + (2 * n + (5 + 2 * (gap_of c.args.layout.now))); end = c.args.end + c.third-third.result }) refl c.requires.before found.fits (omega (arith, value))
          (subst (λ (t : ℕ). IsEnd c.args.layout.now (c.args.end + t)) (sym value) (next_end c.args.layout.now c.args.end c.requires.ends (omega (arith, value, c.if-end-third.false))));
      lies = omega (arith, found.counted);
      few = omega (arith, found.counted, found.few);
      in_third = omega (arith, value);
    })

pub returns-in-Ok-Some-clause-copied : goal.returns-in-Ok-Some-clause-copied
returns-in-Ok-Some-clause-copied g c =
    let stamp : Stamp = record { epoch = c.args.anchor.now.epoch; number = c.args.number } in
    let found = subst (λ (o : Option Found). IfSome o (FitsThere c.args.layout.now (record { epoch = c.args.anchor.now.epoch; number = c.args.number }) c.args.end (c.args.end + c.third-third.result) c.find.new.scratch.copies.items)) c.in-Ok-Some.field-0-is c.in-Ok-Some.ensures.found in
    subst (λ (s : ScanStep). AreCopies stamp (length s.found.pages.items) c.find.new.scratch.copies.items) (sym c.over.ensures) found.copied

pub returns-in-Ok-Some-clause-seen : goal.returns-in-Ok-Some-clause-seen
returns-in-Ok-Some-clause-seen g c j h jw =
    let M = g.M.Machine in
    let value = c.third-third.ensures.value in
    let l = c.args.layout.now in let third = c.args.anchor.now.third in let epoch = c.args.anchor.now.epoch in
    let head : Head = record { number = c.args.number; at = c.args.at; end = c.args.end } in
    let some : 0 < c.args.at = omega (arith, c.if-at-eq0.false) in
    let counted = (subst (λ (o : Option Found). IfSome o (FitsThere c.args.layout.now (record { epoch = c.args.anchor.now.epoch; number = c.args.number }) c.args.end (c.args.end + c.third-third.result) c.find.new.scratch.copies.items)) c.in-Ok-Some.field-0-is c.in-Ok-Some.ensures.found).counted in
    sees_more l third c.args.end (open_damage (M.now c.args.m.now).windows) j (M.now c.find.new.m).image _ _
    (λ i found.
    let there = ap (option_map (λ f. entry_in c.args.number f c.find.new.scratch.copies.items)) (sym c.in-Ok-Some.field-0-is) ∙ found ∙ ap (λ (t : ℕ). (record_here l epoch (tape l third (reads i)) c.args.number c.args.end (c.args.end + t))) value in
    (λ k. Some (stepped_in c.args.number c.find.new.scratch.copies.items (c.over.ensures k)))
    ∙ (λ k. Some (record { from = c.args.end; entry = entry_in c.args.number c.in-Ok-Some.found c.find.new.scratch.copies.items; at = c.args.end + (2 * counted k + (5 + 2 * (gap_of c.args.layout.now))); end = c.args.end + value k }))
    ∙ there_found l epoch (tape l third (reads i)) head (entry_in c.args.number c.in-Ok-Some.found c.find.new.scratch.copies.items) some (omega (arith, value, c.if-end-third.false)) there)
    (c.in-Ok-Some.ensures.seen j h jw)

pub returns-in-Ok-None-clause-seen : goal.returns-in-Ok-None-clause-seen
returns-in-Ok-None-clause-seen g c j h jw =
    let M = g.M.Machine in
    let value = c.third-third.ensures.value in
    let l = c.args.layout.now in let third = c.args.anchor.now.third in let epoch = c.args.anchor.now.epoch in
    let head : Head = record { number = c.args.number; at = c.args.at; end = c.args.end } in
    let some : 0 < c.args.at = omega (arith, c.if-at-eq0.false) in
    sees_more l third c.args.end (open_damage (M.now c.args.m.now).windows) j (M.now c.find.new.m).image _ _
    (λ i found.
    let there = ap (option_map (λ f. entry_in c.args.number f c.find.new.scratch.copies.items)) (sym c.in-Ok-None.field-0-is) ∙ found ∙ ap (λ (t : ℕ). (record_here l epoch (tape l third (reads i)) c.args.number c.args.end (c.args.end + t))) value in
    not_there l epoch (tape l third (reads i)) head some (omega (arith, value, c.if-end-third.false)) there)
    (c.in-Ok-None.ensures.seen j h jw)
