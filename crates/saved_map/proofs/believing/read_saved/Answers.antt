use Rattle.std.proofs.Common.{Option, subst}
use Rattle.std.specs.Prelude.{IfSome}
use Rattle.sector_disk.proofs.CallLaws.{reads_then}
use Rattle.saved_map.specs.declared.believing.FirstPart.{FirstPart}
use Rattle.saved_map.specs.Reading.{BeginsMap}
use Rattle.saved_map.proofs.LayoutLaws.{some_sectors}
use Rattle.saved_map.proofs.ReadingLaws.{believed_map, each_read, lacks, same_first}
use Rattle.saved_map.proofs.believing.read_saved.Given as given
use Rattle.saved_map.proofs.believing.read_saved.Goals as goal
use Rattle.saved_map.proofs.believing.read_saved.Goals.{After-read_map}

begins : (g : given.Over) (c : After-read_map g) → BeginsMap g.M.Machine c.args.l.now c.args.epoch c.args.m.now c.find_first.new.m c.in-Ok-Some.first
begins g c = subst (λ (o : Option FirstPart). IfSome o (BeginsMap g.M.Machine c.args.l.now c.args.epoch c.args.m.now c.find_first.new.m)) c.in-Ok-Some.field-0-is c.in-Ok-Some.ensures.begins

pub returns-in-Ok-Some-clause-reads : goal.returns-in-Ok-Some-clause-reads
returns-in-Ok-Some-clause-reads g c = reads_then c.in-Ok-Some.ensures.reads c.read_map.ensures.reads

pub returns-in-Ok-Some-clause-believes : goal.returns-in-Ok-Some-clause-believes
returns-in-Ok-Some-clause-believes g c =
    let first = begins g c in
    each_read c.read_map.result c.read_map.ensures.takes
    (λ saved takes. believed_map g.M.Machine c.args.l.now c.args.epoch c.args.m.now c.find_first.new.m c.read_map.new.m c.in-Ok-Some.first saved c.in-Ok-Some.ensures.reads c.read_map.ensures.reads.trust.honest first takes)

pub returns-in-Ok-Some-clause-none : goal.returns-in-Ok-Some-clause-none
returns-in-Ok-Some-clause-none g c same h =
    let M = g.M.Machine in
    let first = begins g c in
    let reads = c.read_map.ensures.reads in
    lacks c.args.l.now c.args.epoch c.in-Ok-Some.first.bytes c.in-Ok-Some.first.head (M.now c.read_map.new.m).image (some_sectors c.args.l.now c.requires.planned) first.is
    (λ other at. same_first _ (M.now c.find_first.new.m).image (M.now c.read_map.new.m).image _ c.in-Ok-Some.first.bytes other (reads.worn h).image (first.whole (reads.trust.honest h)) at) (c.read_map.ensures.none same h)
