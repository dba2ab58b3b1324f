use Rattle.std.proofs.Common.{◌≡◌, inl, inr, ap, refl, sym, ◌∙◌, arith}
use Rattle.std.proofs.lemmas.Result.{err_from_is_err_and}
use Rattle.sector_disk.specs.Machine.{Ledger, wrote}
use Rattle.sector_disk.proofs.CallLaws.{reads_as_writes, reads_then_writes}
use Rattle.twin_home.specs.Heal.{HealsOne}
use Rattle.twin_home.proofs.HealLaws.{device_loses, hurt_before, mended, mends, one_healed, reads_damaged, reads_whole, still_heals}
use Rattle.twin_home.proofs.heal.heal_copies.Goals as goal

pub returns-in_err-read_both : goal.returns-in_err-read_both
returns-in_err-read_both g c =
    let a = c.args.a in let b = c.args.b in
    let reads = c.in_err-read_both.ensures.reads in
    let p = err_from_is_err_and c.from_residual.result c.from_residual.ensures.1 in
    rw (p.1, p.2) (record {
      writes = reads_as_writes reads (λ h left worn. still_heals a b (g.M.Machine.now c.args.m.now) left worn);
      most = λ t. omega (arith, ap (λ (x : Ledger). x.written) (reads.ledger t));
      healed = tt;
      failed = record { copies = tt; lost = λ h. tt };
    })

pub returns-in-Some-None : goal.returns-in-Some-None
returns-in-Some-None g c =
    let M = g.M.Machine in
    let a = c.args.a in let b = c.args.b in let bytes = c.in-Some-None.bytes in
    let old = M.now c.args.m.now in let mid = M.now c.read_both.new.m in
    let both = c.in_ok-read_both.ensures in let set = c.set_copy.ensures in
    let trust = set.writes.trust in
    record {
      writes = reads_then_writes both.reads set.writes (λ h left worn. still_heals a b old left worn)
          (λ h left part.
          let whole = reads_whole old mid a c.in_ok-read_both.field-0.0 bytes c.in-Some-None.is-0 (both.read (trust.honest h)).first in
          inr (inr (mends old mid (both.reads.worn (trust.honest h)) b a bytes set.long whole left part)));
      most = λ t. omega (arith, set.counts.most t, ap (λ (x : Ledger). x.written) (both.reads.ledger (trust.tells t)));
      healed = one_healed (M.tells c.set_copy.new.m → M.ledger c.set_copy.new.m ≡ wrote (M.ledger c.read_both.new.m) 1) _ (HealsOne M a b c.args.m.now c.set_copy.new.m) c.set_copy.result set.one set.counts.counted set.done
          (λ count one counted done. record {
            few = omega (arith, one);
            counted = λ t. counted t ∙ λ i. wrote (both.reads.ledger (trust.tells t) i) (sym one i);
            done = λ h.
                let h1 = trust.honest h in
                let wears = both.reads.worn h1 in let read = both.read h1 in
                let whole = reads_whole old mid a c.in_ok-read_both.field-0.0 bytes c.in-Some-None.is-0 read.first in
                let hurt = hurt_before old mid b wears (reads_damaged old mid b c.in_ok-read_both.field-0.1 c.in-Some-None.is-1 read.second) in
                inr (one, inr (mended old mid wears b a bytes set.long whole (M.now c.set_copy.new.m) hurt (done h)));
          });
      failed = device_loses M a b c.set_copy.new.m c.set_copy.result set.device;
    }

pub returns-in-None-Some : goal.returns-in-None-Some
returns-in-None-Some g c =
    let M = g.M.Machine in
    let a = c.args.a in let b = c.args.b in let bytes = c.in-None-Some.bytes in
    let old = M.now c.args.m.now in let mid = M.now c.read_both.new.m in
    let both = c.in_ok-read_both.ensures in let set = c.set_copy-in-None-Some.ensures in
    let trust = set.writes.trust in
    record {
      writes = reads_then_writes both.reads set.writes (λ h left worn. still_heals a b old left worn)
          (λ h left part.
          let whole = reads_whole old mid b c.in_ok-read_both.field-0.1 bytes c.in-None-Some.is-1 (both.read (trust.honest h)).second in
          inr (inl (mends old mid (both.reads.worn (trust.honest h)) a b bytes set.long whole left part)));
      most = λ t. omega (arith, set.counts.most t, ap (λ (x : Ledger). x.written) (both.reads.ledger (trust.tells t)));
      healed = one_healed (M.tells c.set_copy-in-None-Some.new.m → M.ledger c.set_copy-in-None-Some.new.m ≡ wrote (M.ledger c.read_both.new.m) 1) _ (HealsOne M a b c.args.m.now c.set_copy-in-None-Some.new.m) c.set_copy-in-None-Some.result set.one set.counts.counted set.done
          (λ count one counted done. record {
            few = omega (arith, one);
            counted = λ t. counted t ∙ λ i. wrote (both.reads.ledger (trust.tells t) i) (sym one i);
            done = λ h.
                let h1 = trust.honest h in
                let wears = both.reads.worn h1 in let read = both.read h1 in
                let whole = reads_whole old mid b c.in_ok-read_both.field-0.1 bytes c.in-None-Some.is-1 read.second in
                let hurt = hurt_before old mid a wears (reads_damaged old mid a c.in_ok-read_both.field-0.0 c.in-None-Some.is-0 read.first) in
                inr (one, inl (mended old mid wears a b bytes set.long whole (M.now c.set_copy-in-None-Some.new.m) hurt (done h)));
          });
      failed = device_loses M a b c.set_copy-in-None-Some.new.m c.set_copy-in-None-Some.result set.device;
    }

pub returns-in-None-None : goal.returns-in-None-None
returns-in-None-None g c =
    let M = g.M.Machine in
    let a = c.args.a in let b = c.args.b in
    let old = M.now c.args.m.now in let mid = M.now c.read_both.new.m in
    let both = c.in_ok-read_both.ensures in
    record {
      writes = reads_as_writes both.reads (λ h left worn. still_heals a b old left worn);
      most = λ t. omega (arith, ap (λ (x : Ledger). x.written) (both.reads.ledger t));
      healed = tt;
      failed = record {
        copies = (refl, refl);
        lost = λ h. let read = both.read h in
            record {
              copies = (refl, refl);
              first = reads_damaged old mid a c.in_ok-read_both.field-0.0 c.in-None-None.is-0 read.first;
              second = reads_damaged old mid b c.in_ok-read_both.field-0.1 c.in-None-None.is-1 read.second;
            };
      };
    }
