use Rattle.std.proofs.Common.{ℕ, Ok, sym, subst, arith}
use Rattle.std.specs.Prelude.{IfSome}
use Rattle.std.proofs.lemmas.Result.{err_from_is_err_and}
use Rattle.sector_disk.proofs.CallLaws.{reads_then, reads_told}
use Rattle.fsd_sound.specs.Saved.{IsBelieved}
use Rattle.saved_map.specs.Reading.{Believes}
use Rattle.mount_recover.proofs.FoundMapLaws.{believed_before, map_refused, map_sound, map_told, none_seen, still_found}
use Rattle.mount_recover.proofs.finding.find_volume.Goals as goal

pub read_saved-requires-clause-sectors : goal.read_saved-requires-clause-sectors
read_saved-requires-clause-sectors g c = omega (arith, c.in_ok-layout.ensures.found.room, c.requires, c.find_log.ensures.reads.uses.sectors)

pub returns-in_err-layout : goal.returns-in_err-layout
returns-in_err-layout g c =
    let failed = c.in_err-layout.ensures in
    let p = err_from_is_err_and c.from_residual.result c.from_residual.ensures.1 in
    rw (p.1, p.2) (record { reads = failed.reads; sound = failed.sound; found = tt; root = tt; seen = tt; refused = failed.refused; believes = tt; none = tt })

pub returns-in-Ok : goal.returns-in-Ok
returns-in-Ok g c =
    let M = g.M.Machine in
    let start = c.args.m.now in let mid = c.find_log.new.m in let end = c.read_saved.new.m in
    let old = M.now start in let new = M.now end in
    let found = c.in_ok-layout.field-0 in let was = c.in_ok-layout.ensures in let read = c.in-Ok.ensures in
    let back = read.reads.trust.honest in
    let reads = reads_then was.reads read.reads in
    record {
      reads = reads;
      sound = tt;
      found = was.found;
      root = λ h. was.root (back h);
      seen = λ h. still_found c.args.sectors found.layout found.log found.longest old (M.now mid) new (was.reads.worn (back h)) (read.reads.worn h) (was.seen (back h));
      refused = tt;
      believes = subst (λ (e : ℕ). IfSome c.in-Ok.saved (Believes M found.layout e start end)) c.epoch.ensures (believed_before M found.layout c.epoch.result start mid end was.reads back c.in-Ok.saved read.believes);
      none = λ none h. none_seen found.layout found.log.anchor.epoch old new (reads.worn h)
          (λ believed. read.none (λ i. Ok (none i)) h (subst (λ (e : ℕ). IsBelieved found.layout e new.image) (sym c.epoch.ensures) believed));
    }

pub returns-in-Err : goal.returns-in-Err
returns-in-Err g c =
    let M = g.M.Machine in
    let old = M.now c.args.m.now in let new = M.now c.read_saved.new.m in
    let fault = c.in-Err.fault in
    let reads = reads_then c.in_ok-layout.ensures.reads c.in-Err.ensures.reads in
    record {
      reads = reads_told (map_told fault c.map_fault.result c.map_fault.ensures) reads;
      sound = map_sound fault c.map_fault.result c.map_fault.ensures;
      found = tt;
      root = tt;
      seen = tt;
      refused = λ h. map_refused c.args.sectors old new fault c.map_fault.result c.map_fault.ensures (reads.worn h);
      believes = tt;
      none = tt;
    }
