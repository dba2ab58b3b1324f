use Rattle.std.proofs.Common.{◌≡◌, Bool, true, [], ◌∷◌, Err, cond, refl, sym, ap, subst, ◌∙◌, arith}
use Rattle.std.proofs.lemmas.Bool.{both_ways}
use Rattle.sector_disk.proofs.CallLaws.{writes_none}
use Rattle.fsd_files.specs.Answers.{force_outcome}
use Rattle.fsd_files.specs.declared.reply.Reply.TheVariants.{Forced as IsForced}
use Rattle.volume_contract.specs.declared.files.Forced.{Forced}
use Rattle.volume_contract.specs.Order.{Force, is_idle}
use Rattle.fsd_sound.specs.Writes.{force_writes}
use Rattle.volume_contract.specs.State.{Counted, Leaves, force_len, forces_first, volume_of}
use Rattle.volume_laws.specs.State.{IsMemoryOf, resident, state}
use Rattle.volume_laws.proofs.BehindLaws.{behind_itself}
use Rattle.volume_laws.proofs.FreeStays.{freed_has}
use Rattle.volume_laws.proofs.PrepareLaws.{ends_down_first, ends_forced, ends_not, few_forced, few_not, forces_done, forces_failed, forces_not}
use Rattle.volume_laws.proofs.WrittenLaws.{leaves_still}
use Rattle.volume_laws.proofs.ForceMomentLaws.{touches_none}
use Rattle.table_volume.proofs.volume.Volume.force_first.Goals as goal

-- ---- few pages wait

pub returns-then-not-many_wait : goal.returns-then-not-many_wait
returns-then-not-many_wait g c =
    let v = c.args.self.now in
    let s = state v in
    let at = c.args.m.now in
    let now = g.M.Machine.now at in
    let may = force_writes v.layout in
    let never = sym c.many_wait.ensures ∙ c.if-not-many_wait.true in
    record {
      keeps = record {
        forces = forces_not s never;
        still = λ few. refl;
        few = few_not s never;
        free = λ t there. there;
        resident = record { there = λ page is. is; accepted = λ pages page x is. is };
      };
      disk = writes_none at (λ left h is. g.met.M.Machine.only_now at left h is) (Leaves state IsMemoryOf v may) (λ h. leaves_still v now may);
      writes = record { rest = λ h. touches_none may now; counted = λ tells. let len = ap (λ (b : Bool). cond b (force_len s) 0) never in omega (arith, len) };
      tells = record { idle = λ idle. refl; causes = tt; behind = λ h. behind_itself s (resident v) now };
      done = λ h k stands. ends_not v k now never stands;
    }

-- ---- the force has failed

pub returns-in-Err : goal.returns-in-Err
returns-in-Err g c =
    let M = g.M.Machine in
    let s = state c.args.self.now in
    let new = c.force_all.new.self in
    let why = c.in-Err.refusal in
    let failed = c.in-Err.ensures in
    let kept = failed.keeps.by_steps in
    let many = sym c.many_wait.ensures ∙ c.if-not-many_wait.false in
    record {
      keeps = record {
        forces = forces_failed s (state new) many why c.requires.up kept.state failed.order.follows kept.kept;
        still = λ few. absurd (both_ways (forces_first s) few many);
        few = tt;
        free = tt;
        resident = tt;
      };
      disk = failed.disk;
      writes = record {
        rest = failed.writes.rest;
        counted = λ tells. subst (λ (x : Bool). Counted {T = Forced} (Err why) (cond x (force_len s) 0) (M.ledger c.args.m.now) (M.ledger c.force_all.new.m)) (sym many) (failed.writes.counted tells);
      };
      tells = record { idle = λ idle. absurd (cc (subst (λ (b : Bool). is_idle (Force b ∷ []) ≡ true) many idle)); causes = failed.tells.causes; behind = tt };
      done = λ h k stands. ends_down_first Forced (λ met. force_outcome (volume_of k)) IsForced why k new (M.now c.force_all.new.m) (failed.done h k stands);
    }

-- ---- it has ended

pub returns-in-Ok : goal.returns-in-Ok
returns-in-Ok g c =
    let M = g.M.Machine in
    let v = c.args.self.now in
    let s = state v in
    let new = c.force_all.new.self in
    let forced = c.in-Ok.ensures in
    let kept = forced.keeps.by_steps in
    let many = sym c.many_wait.ensures ∙ c.if-not-many_wait.false in
    record {
      keeps = record {
        forces = forces_done s (state new) many kept.state kept.kept;
        still = λ few. absurd (both_ways (forces_first s) few many);
        few = few_forced s (state new) kept.kept;
        free = freed_has v new c.attest.ensures kept.kept;
        resident = forced.keeps.resident;
      };
      disk = forced.disk;
      writes = record { rest = forced.writes.rest; counted = λ tells. let len = ap (λ (b : Bool). cond b (force_len s) 0) many in omega (arith, len, forced.writes.counted tells) };
      tells = record { idle = λ idle. absurd (cc (subst (λ (b : Bool). is_idle (Force b ∷ []) ≡ true) many idle)); causes = tt; behind = forced.tells.behind };
      done = λ h k stands. ends_forced v new k (M.now c.args.m.now) (M.now c.force_all.new.m) many stands (forced.done h k stands);
    }
