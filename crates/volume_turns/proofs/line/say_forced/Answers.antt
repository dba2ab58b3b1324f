use Rattle.std.proofs.Common.{inl}
use Rattle.std.proofs.lemmas.Result.{on_ok_weaker}
use Rattle.sector_disk.proofs.Holding.{trusts_on}
use Rattle.sector_disk.proofs.ResultLaws.{ok_as}
use Rattle.volume_turns.specs.Turns.{IsEndOfVolume, Unsaid, WantsNone}
use Rattle.volume_turns.proofs.CountLaws.{told_more}
use Rattle.volume_turns.proofs.LineLaws.{output_ends}
use Rattle.volume_turns.proofs.RunLaws.{since_on}
use Rattle.volume_turns.proofs.SayLaws.{forced_moments, forced_synced, says_on, synced_moments, timed_by, told_synced, told_unsynced}
use Rattle.volume_turns.proofs.SyncLaws.{synced_said}
use Rattle.volume_turns.proofs.line.say_forced.Goals as goal

pub returns-in-Ok : goal.returns-in-Ok
returns-in-Ok g c =
    let M = g.M.Machine in
    let a = c.args.m.now in
    let p = c.sync.new.self in
    let b = c.say_bytes.new.m in
    let text = c.args.text.now in
    let sync = c.in-Ok.ensures in
    let say = c.say_bytes.ensures in
    let result = c.say_bytes.result in
    let timed = timed_by M g.met.M.Machine.dated g.met.M.Machine.history g.met.M.Machine.counts_now g.met.M.Machine.only_now in
    record {
      says = record {
        told = told_more (M.report a) (M.report p) (M.report b) tt result (told_synced (M.report a) (M.report p) c.in-Ok.field-0 sync.sectors sync.cause) say.says.told;
        fault = output_ends IsEndOfVolume tt result say.output;
        ledger = λ t. synced_said (M.ledger a) (M.ledger p) (M.ledger b) (sync.counted (say.says.trust.tells t)) (say.says.ledger t);
        trust = trusts_on sync.trust say.says.trust;
        since = since_on M a p b say.says.trust.honest (λ h. (sync.time h).keeps) (λ h. (sync.time h).later) say.says.since;
      };
      wants = output_ends WantsNone tt result say.output;
      moments = λ h. let back = say.says.trust.honest h in
          forced_moments M a p b text (timed a (sync.trust.honest back)) (timed p back) (timed b h) (sync.time back) (sync.worn back) (sync.synced back) (say.says.since h) (say.moments h);
      synced = ok_as _ result (λ h. let back = say.says.trust.honest h in
          forced_synced M a p b text (timed a (sync.trust.honest back)) (timed p back) (timed b h) (sync.time back) (sync.worn back) (sync.synced back) (say.says.since h) (say.moments h));
      said = on_ok_weaker result (λ all h. says_on text (M.now a) (M.now p) (M.now b) (sync.worn (say.says.trust.honest h)) (all h)) say.said;
      unsaid = output_ends (λ end. M.honest b → Unsaid (M.now a) (M.now b) end) (λ h. tt) result say.output;
    }

pub returns-in-Err : goal.returns-in-Err
returns-in-Err g c =
    let M = g.M.Machine in
    let a = c.args.m.now in
    let b = c.sync.new.self in
    let sync = c.in-Err.ensures in
    let timed = timed_by M g.met.M.Machine.dated g.met.M.Machine.history g.met.M.Machine.counts_now g.met.M.Machine.only_now in
    record {
      says = record {
        told = told_unsynced (M.report a) (M.report b) c.in-Err.failed sync.sectors sync.cause;
        fault = tt;
        ledger = λ t. inl (sync.counted_err t);
        trust = sync.trust;
        since = λ h. (sync.time h).keeps;
      };
      wants = λ want. want;
      moments = λ h. synced_moments M a b (timed a (sync.trust.honest h)) (sync.time h) c.args.text.now;
      synced = tt;
      said = tt;
      unsaid = sync.worn;
    }
