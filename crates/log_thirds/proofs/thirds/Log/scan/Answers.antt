use Rattle.std.proofs.Common.{Option, Some, subst, ap, rules, sym, ◌∙◌}
use Rattle.fsd_formats.specs.declared.anchor.Anchor.{Anchor}
use Rattle.sector_disk.proofs.CallLaws.{reads_then}
use Rattle.sector_disk.specs.Image.{Windows, IsWorn, open_damage}
use Rattle.log_thirds.specs.Reading.{SeesAnchor}
use Rattle.log_thirds.specs.Seen.{AnchorsOn, ScansOn}
use Rattle.log_thirds.proofs.SeeOneLaws.{log_seen}
use Rattle.log_thirds.proofs.thirds.Log.scan.Goals as goal

pub returns-in-Ok-clause-reads : goal.returns-in-Ok-clause-reads
returns-in-Ok-clause-reads g c = reads_then c.in-Ok-Some.ensures.reads c.in-Ok.ensures.reads

pub returns-in-Ok-clause-found : goal.returns-in-Ok-clause-found
returns-in-Ok-clause-found g c =
    let M = g.M.Machine in
    let old = M.now c.args.m.now in
    let mid = M.now c.find_anchor.new.m in
    record {
      layout = c.in-Ok.ensures.layout;
      epoch = search rules;
      anchor = λ h. subst (λ (o : Option Anchor). SeesAnchor old o) (c.in-Ok-Some.field-0-is ∙ ap (λ (a : Anchor). Some a) (sym c.in-Ok.ensures.anchor)) (c.in-Ok-Some.ensures.sees (c.scan_by.ensures.reads.trust.honest h));
      seen = λ j h jw.
          let h1 = c.scan_by.ensures.reads.trust.honest h in
          let same = (c.find_anchor.ensures.reads.worn h1).windows in
          let found = c.in-Ok-Some.ensures.seen j h1 jw in
          let first = subst (λ (o : Option Anchor). AnchorsOn (open_damage old.windows) j mid.image o) (c.in-Ok-Some.field-0-is ∙ ap (λ (a : Anchor). Some a) (sym c.in-Ok.ensures.anchor)) found in
          let to_mid = subst (λ (w : Windows). IsWorn (open_damage w) first.image mid.image) (sym same) first.to in
          let scans = subst (λ (w : Windows). ScansOn c.in-Ok.log (open_damage w) first.image (M.now c.scan_by.new.m).image) same (c.in-Ok.ensures.seen first.image h to_mid) in
          log_seen c.in-Ok.log (open_damage old.windows) j mid.image (M.now c.scan_by.new.m).image first scans;
    }

pub returns-in-Err-scan_by-clause-reads : goal.returns-in-Err-scan_by-clause-reads
returns-in-Err-scan_by-clause-reads g c = reads_then c.in-Ok-Some.ensures.reads c.in-Err-scan_by.ensures.reads
