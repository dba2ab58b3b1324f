use Rattle.std.proofs.Common.{◌≡◌, inl, inr, true, false, ◌==◌, length, nat_le, Result, Ok, Err, sym, ap, subst, ◌∙◌, arith}
use Rattle.std.specs.Prelude.{IsTrue}
use Rattle.std.proofs.lemmas.Bool.{and_parts, both_ways, eqb-true}
use Rattle.std.proofs.lemmas.List.{nil_from_length}
use Rattle.std.proofs.lemmas.Result.{err_from_is_err_and}
use Rattle.volume_layout.specs.declared.layout.Layout.{Layout}
use Rattle.volume_layout.specs.Layout.{map_sectors}
use Rattle.sector_disk.specs.declared.machine.Failed.{Failed}
use Rattle.sector_disk.proofs.CallLaws.{writes_more, writes_then}
use Rattle.fsd_files.specs.Answers.{force_outcome}
use Rattle.fsd_files.specs.declared.reply.Reply.TheVariants.{Forced as IsForcedReply}
use Rattle.fsd_files.specs.Disk.{Touches}
use Rattle.fsd_sound.specs.Writes.{saving_writes}
use Rattle.volume_contract.specs.declared.files.Forced.{Forced}
use Rattle.volume_contract.specs.Closing.{pages_in_use, saves}
use Rattle.volume_contract.specs.State.{volume_of}
use Rattle.volume_laws.specs.State.{state}
use Rattle.volume_laws.proofs.CloseLaws.{closes, ends_device}
use Rattle.volume_laws.proofs.ClosingLaws.{closes_then, comes_first, comes_then, counted_failed, counted_saved, counted_unsaved, forced_epoch, forced_layout, idle_first, leaves_close, leaves_first, never_idle, saved_before, saves_same, through_close, touches_close, touches_first, touches_force}
use Rattle.table_volume.proofs.volume.Volume.close_all.Goals as goal

pub force_all-requires : goal.force_all-requires
force_all-requires g c = c.requires

pub save-requires-clause-idle : goal.save-requires-clause-idle
save-requires-clause-idle g c =
    let t = state c.force_all.new.self in
    let parts = and_parts (length t.waiting == 0) (nat_le (map_sectors t.layout) (pages_in_use t)) (sym c.saves.ensures ∙ c.if-not-saves.false) in
    nil_from_length t.waiting (eqb-true (length t.waiting) 0 parts.0)

pub save-requires-clause-room : goal.save-requires-clause-room
save-requires-clause-room g c =
    let forced = c.in_ok-force_all.ensures in
    let sectors = forced.opened.uses.sectors in
    let same = ap (λ (l : Layout). l.sectors) (forced_layout (state c.args.self.now) (state c.force_all.new.self) forced.keeps.by_steps.kept) in
    omega (arith, sectors, same, c.requires)

-- ---- the force fails

pub returns-in_err-force_all : goal.returns-in_err-force_all
returns-in_err-force_all g c =
    let M = g.M.Machine in
    let v = c.args.self.now in
    let s = state v in
    let w = c.force_all.new.self in
    let a = c.args.m.now in
    let b = c.force_all.new.m in
    let why = c.in_err-force_all.field-0.0 in
    let failed = c.in_err-force_all.ensures in
    let p = err_from_is_err_and c.from_residual.result c.from_residual.ensures.1 in
    rw (p.1, p.2) (record {
      order = record { follows = comes_first s why failed.order.follows; idle = λ idle. failed.order.idle (idle_first s idle) };
      disk = writes_more failed.opened (λ h left leaves. leaves_first v (M.now a) left leaves);
      writes = record {
        rest = λ h. touches_first s (M.now a) (M.now b) (touches_force M.now s a b failed.order.idle (failed.writes.rest h));
        counted = λ tells. counted_failed s Forced why (M.ledger a) (M.ledger b) (failed.writes.counted tells);
        unwritten = λ tells again. inl (failed.tells.unwritten tells again);
      };
      causes = failed.tells.lost;
      saves = λ saved. tt;
      done = λ h k stands. ends_device Forced (λ met. force_outcome (volume_of k)) IsForcedReply k w (M.now b) why (failed.done h k stands);
    })

-- ---- no map is saved

pub returns-then-not-saves : goal.returns-then-not-saves
returns-then-not-saves g c =
    let M = g.M.Machine in
    let v = c.args.self.now in
    let s = state v in
    let w = c.force_all.new.self in
    let a = c.args.m.now in
    let b = c.force_all.new.m in
    let forced = c.in_ok-force_all.ensures in
    let unsaved : saves s ≡ false = sym (saves_same s (state w) forced.keeps.by_steps.kept) ∙ sym c.saves.ensures ∙ c.if-not-saves.true in
    record {
      order = record { follows = through_close s forced.order.follows; idle = λ idle. forced.order.idle (idle_first s idle) };
      disk = writes_more forced.opened (λ h left leaves. leaves_first v (M.now a) left leaves);
      writes = record {
        rest = λ h. touches_first s (M.now a) (M.now b) (touches_force M.now s a b forced.order.idle (forced.writes.rest h));
        counted = λ tells. counted_unsaved s unsaved (M.ledger a) (M.ledger b) (forced.writes.counted tells);
        unwritten = tt;
      };
      causes = tt;
      saves = λ saved. absurd (both_ways (saves s) unsaved saved);
      done = λ h k stands. closes k w (M.now b) (forced.done h k stands);
    }

-- ---- one is

pub returns-in-Ok : goal.returns-in-Ok
returns-in-Ok g c =
    let M = g.M.Machine in
    let v = c.args.self.now in
    let s = state v in
    let w = c.force_all.new.self in
    let a = c.args.m.now in
    let b = c.force_all.new.m in
    let d = c.save.new.m in
    let whole = c.attest.ensures in
    let whole_then = c.attest-2.ensures in
    let forced = c.in_ok-force_all.ensures in
    let kept = forced.keeps.by_steps.kept in
    let saved : saves s ≡ true = sym (saves_same s (state w) kept) ∙ sym c.saves.ensures ∙ c.if-not-saves.false in
    let map = c.in-Ok.ensures in
    let r : Result (Unit {0}) Failed = Ok tt in
    let back = map.disk.trust.honest in
    record {
      order = record { follows = through_close s forced.order.follows; idle = λ idle. absurd (never_idle s saved forced.order.follows idle) };
      disk = writes_then forced.opened map.disk (λ h left leaves. leaves_first v (M.now a) left leaves)
          (λ h left leaves.
          let was = back h in
          leaves_close v w whole whole_then kept saved (M.now a) (M.now b) (λ k stands. forced.done was k stands) left (forced.opened.windows was) (forced.opened.quiet was) (forced.opened.exit was) leaves);
      writes = record {
        rest = λ h.
            let was = back h in
            touches_close s saved (M.now a) (M.now b) (M.now d) (forced.opened.windows was) (touches_force M.now s a b forced.order.idle (forced.writes.rest was))
            (subst (λ (l : Layout). Touches (saving_writes l) (M.now b) (M.now d)) (forced_layout s (state w) kept) (map.rest h));
        counted = λ tells. counted_saved s (state w) kept saved r (M.ledger a) (M.ledger b) (M.ledger d) (forced.writes.counted (map.disk.trust.tells tells)) (map.counted tells);
        unwritten = tt;
      };
      causes = tt;
      saves = λ is h. saved_before s (state w) kept (forced_epoch v w whole whole_then kept) (M.now d) (map.saved h);
      done = λ h k stands. closes_then v w whole whole_then kept saved (M.now a) (M.now b) (λ k stands. forced.done (back h) k stands) (M.now d) (map.closes h) k stands;
    }

-- ---- or it is not written whole

pub returns-in-Err : goal.returns-in-Err
returns-in-Err g c =
    let M = g.M.Machine in
    let v = c.args.self.now in
    let s = state v in
    let w = c.force_all.new.self in
    let a = c.args.m.now in
    let b = c.force_all.new.m in
    let d = c.save.new.m in
    let whole = c.attest.ensures in
    let whole_then = c.attest-2.ensures in
    let forced = c.in_ok-force_all.ensures in
    let kept = forced.keeps.by_steps.kept in
    let saved : saves s ≡ true = sym (saves_same s (state w) kept) ∙ sym c.saves.ensures ∙ c.if-not-saves.false in
    let failed = c.in-Err.ensures in
    let r : Result (Unit {0}) Failed = Err c.in-Err.failed in
    let place = c.in-Err.failed.place in
    let back = failed.disk.trust.honest in
    record {
      order = record {
        follows = comes_then s saved forced.order.follows place (subst (λ (l : Layout). IsTrue (saving_writes l place)) (forced_layout s (state w) kept) failed.place);
        idle = λ idle. absurd (never_idle s saved forced.order.follows idle);
      };
      disk = writes_then forced.opened failed.disk (λ h left leaves. leaves_first v (M.now a) left leaves)
          (λ h left leaves.
          let was = back h in
          leaves_close v w whole whole_then kept saved (M.now a) (M.now b) (λ k stands. forced.done was k stands) left (forced.opened.windows was) (forced.opened.quiet was) (forced.opened.exit was) leaves);
      writes = record {
        rest = λ h.
            let was = back h in
            touches_close s saved (M.now a) (M.now b) (M.now d) (forced.opened.windows was) (touches_force M.now s a b forced.order.idle (forced.writes.rest was))
            (subst (λ (l : Layout). Touches (saving_writes l) (M.now b) (M.now d)) (forced_layout s (state w) kept) (failed.rest h));
        counted = λ tells. counted_saved s (state w) kept saved r (M.ledger a) (M.ledger b) (M.ledger d) (forced.writes.counted (failed.disk.trust.tells tells)) (failed.counted tells);
        unwritten = λ tells again.
            let first = forced.writes.counted (failed.disk.trust.tells tells) in
            let then = failed.counted tells in
            inr (omega (arith, first, then.0));
      };
      causes = λ h. tt;
      saves = λ is. tt;
      done = λ h k stands. tt;
    }
