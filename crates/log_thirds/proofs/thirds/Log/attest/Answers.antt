use Rattle.std.proofs.Common.{rules, ◌<◌, ◌^◌, subst}
use Rattle.log_thirds.specs.LogValue.{FitsLayout}
use Rattle.log_thirds.proofs.thirds.Log.attest.Goals as goal

pub returns : goal.returns
returns c =
    let was = c.self.invariant in
    let epoch : c.self.inside.anchor.epoch < 2 ^ 32 = search rules in
    let number : c.self.inside.number < 2 ^ 32 = search rules in
    let pages : c.self.inside.layout.pages < 2 ^ 32 = search rules in
    subst FitsLayout c.self.view_is (record {
      least = was.least;
      inside = was.inside;
      third = was.third;
      is_in = was.is_in;
      begun = was.begun;
      epoch = epoch;
      number = number;
      numbers = was.numbers;
      pages = pages;
      table = was.table;
    })
