use Rattle.std.proofs.Common.{ℕ, List, sym, ap, ◌∙◌, subst}
use Rattle.fsd_bytes.specs.declared.key.Key.{Key}
use Rattle.volume_layout.specs.declared.layout.Layout.{Layout}
use Rattle.fsd_files.specs.declared.reply.Reply.TheVariants.{Forced}
use Rattle.sector_disk.proofs.CallLaws.{writes_more, writes_then}
use Rattle.scrub.specs.Looking.{AreDamaged}
use Rattle.scrub.specs.Scrub.{LeavesScrubbed, TellsScrub}
use Rattle.volume_contract.specs.State.{State, force_len}
use Rattle.scrub.proofs.KeptLaws.{clean_idle, idle_first, kept_all, kept_down, up_all, up_behind, up_busy, written_all}
use Rattle.scrub.proofs.ToldLaws.{told_by}
use Rattle.scrub.proofs.WholeLaws.{behind_leaves, force_fails, force_leaves, force_rest, force_within, forced_from, scrub_ends}
use Rattle.scrub.proofs.whole.scrub.Goals as goal

pub returns-in-Ok-clause-disk : goal.returns-in-Ok-clause-disk
returns-in-Ok-clause-disk g c =
    let V = g.V.Files in
    let M = g.M.Machine in
    let l = (V.state c.args.v.now).layout in
    let a = M.now c.args.m.now in
    let b = M.now c.force.new.m in
    let force = c.in-Ok.ensures in
    let call = c.heal_and_look.ensures in
    writes_then {R = LeavesScrubbed V.state V.holds c.args.v.now} force.disk call.disk
    (λ h left leaves k stands. force_leaves k l stands.fits.layout a left (leaves k stands))
    (λ h left leaves k stands.
    let back = call.disk.trust.honest h in
    let is = force.done back k stands in
    behind_leaves k is.0 (forced_from k is.0 Forced is.1) l stands.fits.layout a b (force.disk.windows back) (force.writes.rest back) (force.disk.quiet back) left (leaves is.0 is.2))

pub returns-in-Ok-clause-done : goal.returns-in-Ok-clause-done
returns-in-Ok-clause-done g c = λ h k stands.
    let V = g.V.Files in
    let M = g.M.Machine in
    let force = c.in-Ok.ensures in
    let call = c.heal_and_look.ensures in
    let back = call.disk.trust.honest h in
    let is = force.done back k stands in
    scrub_ends k is.0 (forced_from k is.0 Forced is.1) (V.state c.args.v.now).layout stands.fits.layout (M.now c.args.m.now) (M.now c.force.new.m) (force.disk.windows back) (force.writes.rest back)
    V.state V.holds c.heal_and_look.new.v (M.now c.heal_and_look.new.m) c.heal_and_look.new.found.items stands.disk.described.apart c.force.new.self is.2 (λ clean. ap M.now (force.order.idle (clean_idle (V.state c.args.v.now) stands.fits.up (sym stands.fits.dirty ∙ clean)))) c.heal_and_look.result (call.done h is.0 is.2)

pub returns-in-Err-clause-disk : goal.returns-in-Err-clause-disk
returns-in-Err-clause-disk g c =
    let V = g.V.Files in
    writes_more {R = LeavesScrubbed V.state V.holds c.args.v.now} c.in-Err.ensures.disk
    (λ h left leaves k stands. force_leaves k (V.state c.args.v.now).layout stands.fits.layout (g.M.Machine.now c.args.m.now) left (leaves k stands))

pub returns-in-Err-clause-done : goal.returns-in-Err-clause-done
returns-in-Err-clause-done g c = λ h k stands.
    let V = g.V.Files in
    let M = g.M.Machine in
    force_fails V.state V.holds k c.force.new.self (M.now c.args.m.now) (M.now c.force.new.m) c.clear.new.self.items c.clear.ensures.items c.in-Err.why (c.in-Err.ensures.done h k stands)

-- ---- what is written, kept and told

pub returns-in-Ok-clause-writes : goal.returns-in-Ok-clause-writes
returns-in-Ok-clause-writes g c =
    let M = g.M.Machine in
    let s = g.V.Files.state c.args.v.now in
    let force = c.in-Ok.ensures in
    let call = c.heal_and_look.ensures in
    record {
      rest = λ h.
          let back = call.disk.trust.honest h in
          force_rest s.layout (g.V.Files.state c.force.new.self).layout force.keeps.state.layout (M.now c.args.m.now) (M.now c.force.new.m) (M.now c.heal_and_look.new.m) (force.disk.windows back) (force.writes.rest back) (call.writes.rest h);
      counted = written_all (M.tells c.force.new.m) (M.tells c.heal_and_look.new.m) call.disk.trust.tells (M.ledger c.args.m.now) (M.ledger c.force.new.m) (M.ledger c.heal_and_look.new.m) (force_len s) force.writes.counted c.heal_and_look.result call.writes.counted;
      idle = λ is. absurd (up_busy s force.order.follows.0 is);
    }

pub returns-in-Ok-clause-state : goal.returns-in-Ok-clause-state
returns-in-Ok-clause-state g c =
    let V = g.V.Files in
    let force = c.in-Ok.ensures in
    let call = c.heal_and_look.ensures in
    let same = call.state in
    let goes = force.keeps.state in
    record {
      layout = ap (λ (s : State). s.layout) same ∙ goes.layout;
      opened = record { unfinished = ap (λ (s : State). s.unfinished) same ∙ goes.unfinished; readers = ap (λ (s : State). s.readers) same ∙ goes.readers };
      kept = kept_all (V.state c.args.v.now) (V.state c.force.new.self) (V.state c.heal_and_look.new.v) force.order.follows.0 force.keeps.kept same c.heal_and_look.result call.refusal;
      up = up_all c.heal_and_look.result (V.state c.heal_and_look.new.v) (ap (λ (s : State). s.down) same ∙ up_behind (V.state c.args.v.now) (V.state c.force.new.self) force.order.follows.0 force.keeps.kept);
    }

pub returns-in-Ok-clause-tells : goal.returns-in-Ok-clause-tells
returns-in-Ok-clause-tells g c h =
    let end = c.heal_and_look.new in
    subst (λ (l : Layout). TellsScrub l (g.M.Machine.now end.m) end.found.items c.heal_and_look.result) c.in-Ok.ensures.keeps.state.layout (c.heal_and_look.ensures.tells h)

pub returns-in-Err-clause-writes : goal.returns-in-Err-clause-writes
returns-in-Err-clause-writes g c = record {
  rest = λ h. force_within (g.V.Files.state c.args.v.now).layout (g.M.Machine.now c.args.m.now) (g.M.Machine.now c.force.new.m) (c.in-Err.ensures.writes.rest h);
  counted = tt;
  idle = λ is. c.in-Err.ensures.order.idle (idle_first (g.V.Files.state c.args.v.now) is);
}

pub returns-in-Err-clause-state : goal.returns-in-Err-clause-state
returns-in-Err-clause-state g c =
    let V = g.V.Files in
    let goes = c.in-Err.ensures.keeps.state in
    record {
      layout = goes.layout;
      opened = record { unfinished = goes.unfinished; readers = goes.readers };
      kept = kept_down c.in-Err.why (V.state c.args.v.now) (V.state c.force.new.self) c.in-Err.ensures.keeps.kept;
      up = tt;
    }

pub returns-in-Err-clause-tells : goal.returns-in-Err-clause-tells
returns-in-Err-clause-tells g c h =
    let V = g.V.Files in
    let M = g.M.Machine in
    let force = c.in-Err.ensures in
    record {
      told = told_by (V.state c.args.v.now) (V.state c.force.new.self) (V.resident c.args.v.now) (M.now c.args.m.now) (M.now c.force.new.m) force.keeps.state.layout c.in-Err.why (force.tells.causes h);
      mended = tt;
      damaged = subst (λ (found : List (Key × ℕ)). AreDamaged (V.state c.args.v.now).layout (M.now c.force.new.m).image found) (sym c.clear.ensures.items) tt;
    }
