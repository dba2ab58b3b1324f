use Rattle.std.proofs.Common.{arith}
use Rattle.std.proofs.lemmas.Bool.{both_ways}
use Rattle.saved_map.proofs.LayoutLaws.{some_sectors}
use Rattle.saved_map.proofs.ReadingLaws.{first_lacks, marked_first}
use Rattle.saved_map.proofs.believing.take_parts.Goals as goal

pub take_part-requires : goal.take_part-requires
take_part-requires g c = record {
  planned = c.requires.planned;
  kept = c.requires.none.kept;
  index = omega (arith, c.requires.is.worth.index_is, some_sectors c.args.l.now c.requires.planned);
  new = λ s from. c.requires.none.each s;
}

pub read_rest-requires : goal.read_rest-requires
read_rest-requires g c =
    let is = c.requires.is in
    record {
      planned = c.requires.planned;
      sectors = c.requires.sectors;
      part = c.take_part.ensures.part.0 c.if-take_part.true;
      index = is.worth.index_is;
      marked = marked_first c.args.l.now c.args.first.now.bytes c.args.first.now.head.index c.args.map.now c.take_part.new.map c.args.free_pages.now c.take_part.new.free_pages is.worth.index_is c.requires.none (c.take_part.ensures.taken c.if-take_part.true);
      whole = c.requires.whole;
    }

pub returns-else-take_part-clause-not : goal.returns-else-take_part-clause-not
returns-else-take_part-clause-not g c same h =
    first_lacks g.M.Machine c.args.l.now c.args.first.now (g.M.Machine.now c.args.m.now).image (some_sectors c.args.l.now c.requires.planned) c.requires.is.worth.index_is (c.requires.whole h)
    (λ part. both_ways c.take_part.result c.if-take_part.false (c.take_part.ensures.part.1 part))
