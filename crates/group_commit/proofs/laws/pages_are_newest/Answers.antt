use Rattle.std.proofs.Common.{◌∙◌}
use Rattle.fsd_sound.proofs.WindowLaws.{borne_apart}
use Rattle.group_commit.proofs.NewestLaws.{in_layout}
use Rattle.group_commit.proofs.StandsLaws.{knows_images, page_newest, page_in_memory}
use Rattle.group_commit.proofs.laws.pages_are_newest.Goals as goal

pub returns-clause-knows : goal.returns-clause-knows
returns-clause-knows c = λ log records disk s windows i over. knows_images log log.head records disk s.pages s.dirty windows i over

pub returns-clause-pages : goal.returns-clause-pages
returns-clause-pages c = λ log records disk s windows at shape short ends over indexed. record {
  windows = windows;
  ends = ends;
  apart = borne_apart log.layout windows over.shows.readable.borne;
  shape = shape;
  records = records;
  disk = disk;
  over = record { shows = over.shows; own = over.own; indexed = indexed };
}

pub returns-clause-shown : goal.returns-clause-shown
returns-clause-shown c = λ log records disk s windows i page over within. in_layout log page within i ∙ page_newest log.layout log.anchor log.head records disk s.pages s.dirty windows i over page within

pub returns-clause-in_memory : goal.returns-clause-in_memory
returns-clause-in_memory c = λ log records disk s windows i page over within out. in_layout log page within i ∙ page_in_memory log.layout log.anchor log.head records disk s.pages s.dirty windows i over page within out
