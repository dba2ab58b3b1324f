use Rattle.std.proofs.Common.{◌+◌, ◌/◌, length, arith}
use Rattle.image_file.proofs.Runs.{run_begins, same_run, still_apart, still_in}
use Rattle.image_file.proofs.disk.Disk.go_on.Goals as goal

pub invariant_of-self-in-Break-1 : goal.invariant_of-self-in-Break-1
invariant_of-self-in-Break-1 c =
    let old = c.args.self.now in
    let count = length c.args.bytes.now / 512 in
    record {
      synced = λ e. cc;
      run = λ first next e. cc;
      waiting = λ s held. omega (arith, c.run_from-first.ensures, still_in old c.args.sector c.requires.open count c.extend.new.pending c.extend.ensures.only s held);
      apart = λ s held. still_apart old c.args.sector c.requires.open count c.extend.new.pending c.extend.ensures.only s held c.requires.apart;
    }

pub invariant_of-self-2 : goal.invariant_of-self-2
invariant_of-self-2 c =
    let old = c.args.self.now in
    let count = length c.args.bytes.now / 512 in
    record {
      synced = λ e. cc;
      run = λ first next e.
          let is = same_run c.run_from-first.result (c.from.result + count) first next e in (
            omega (arith, c.run_from-first.ensures, run_begins old c.args.sector c.requires.open, c.from.ensures, is.0, is.1),
            (λ some. omega (arith, c.in_ok-extend.ensures.behind some, c.from.ensures, is.1)),
          );
      waiting = λ s held. omega (arith, c.run_from-first.ensures, still_in old c.args.sector c.requires.open count c.extend.new.pending c.extend.ensures.only s held);
      apart = λ s held. still_apart old c.args.sector c.requires.open count c.extend.new.pending c.extend.ensures.only s held c.requires.apart;
    }
