use Rattle.std.proofs.Common.{None, ap, subst}
use Rattle.sector_disk.proofs.CallLaws.{writes_more, writes_then}
use Rattle.scrub.specs.Scrub.{LeavesScrubbed}
use Rattle.volume_contract.specs.State.{State}
use Rattle.volume_layout.specs.Layout.{is_data}
use Rattle.fsd_files.specs.Disk.{Touches}
use Rattle.scrub.specs.Telling.{TellsOn}
use Rattle.scrub.proofs.KeptLaws.{healed_both}
use Rattle.scrub.proofs.ToldLaws.{heal_told}
use Rattle.scrub.proofs.WholeLaws.{heal_rest, heal_within, healed_all, leaders_leave, led_ends, twins_end, twins_leave, twins_then}
use Rattle.scrub.proofs.whole.heal_all.Goals as goal

pub returns-in-Ok-heal_leaders-clause-disk : goal.returns-in-Ok-heal_leaders-clause-disk
returns-in-Ok-heal_leaders-clause-disk g c =
    let V = g.V.Files in
    let M = g.M.Machine in
    let l = (V.state c.args.v.now).layout in
    let a = M.now c.args.m.now in
    let b = M.now c.heal.new.m in
    let heal = c.in-Ok.ensures in
    let call = c.in-Ok-heal_leaders.ensures in
    writes_then {fault = None} {R = LeavesScrubbed V.state V.holds c.args.v.now} heal.disk call.disk
    (λ h left leaves k stands. twins_leave k l stands.fits.layout a left (leaves k stands))
    (λ h left leaves k stands.
    let back = call.disk.trust.honest h in
    leaders_leave k l stands.fits.layout a b (heal.disk.windows back) (heal.disk.quiet back) left (heal.writes.rest back) (leaves k (heal.done back k stands)))

pub returns-in-Ok-heal_leaders-clause-done : goal.returns-in-Ok-heal_leaders-clause-done
returns-in-Ok-heal_leaders-clause-done g c = λ h k stands.
    let V = g.V.Files in
    let M = g.M.Machine in
    let heal = c.in-Ok.ensures in
    let call = c.in-Ok-heal_leaders.ensures in
    let back = call.disk.trust.honest h in
    healed_all V.state V.holds k (V.state c.args.v.now).layout stands.fits.layout c.heal_leaders.new.v (M.now c.args.m.now) (M.now c.heal.new.m) (M.now c.heal_leaders.new.m) (heal.disk.windows back)
    c.in-Ok.twins c.in-Ok-heal_leaders.leaders c.saturating_add.result c.saturating_add.ensures (heal.tells back).healed (heal.writes.rest back) (call.done h k (heal.done back k stands))

pub returns-in-Err-heal_leaders-clause-disk : goal.returns-in-Err-heal_leaders-clause-disk
returns-in-Err-heal_leaders-clause-disk g c =
    let V = g.V.Files in
    let M = g.M.Machine in
    let l = (V.state c.args.v.now).layout in
    let a = M.now c.args.m.now in
    let b = M.now c.heal.new.m in
    let heal = c.in-Ok.ensures in
    let call = c.in-Err-heal_leaders.ensures in
    writes_then {R = LeavesScrubbed V.state V.holds c.args.v.now} heal.disk call.disk
    (λ h left leaves k stands. twins_leave k l stands.fits.layout a left (leaves k stands))
    (λ h left leaves k stands.
    let back = call.disk.trust.honest h in
    leaders_leave k l stands.fits.layout a b (heal.disk.windows back) (heal.disk.quiet back) left (heal.writes.rest back) (leaves k (heal.done back k stands)))

pub returns-in-Err-clause-disk : goal.returns-in-Err-clause-disk
returns-in-Err-clause-disk g c =
    let V = g.V.Files in
    writes_more {R = LeavesScrubbed V.state V.holds c.args.v.now} c.in-Err.ensures.disk
    (λ h left leaves k stands. twins_leave k (V.state c.args.v.now).layout stands.fits.layout (g.M.Machine.now c.args.m.now) left (leaves k stands))

pub returns-in-Err-heal_leaders-clause-done : goal.returns-in-Err-heal_leaders-clause-done
returns-in-Err-heal_leaders-clause-done g c h k stands =
    let V = g.V.Files in
    let M = g.M.Machine in
    let call = c.in-Err-heal_leaders.ensures in
    led_ends V.state V.holds k c.heal_leaders.new.v (M.now c.args.m.now) (M.now c.heal.new.m) (M.now c.heal_leaders.new.m) c.in-Err-heal_leaders.why (call.done h k (c.in-Ok.ensures.done (call.disk.trust.honest h) k stands))

pub returns-in-Err-clause-done : goal.returns-in-Err-clause-done
returns-in-Err-clause-done g c h k stands =
    let V = g.V.Files in
    let M = g.M.Machine in
    twins_end V.state V.holds k c.heal.new.self (M.now c.args.m.now) (M.now c.heal.new.m) c.in-Err.why (c.in-Err.ensures.done h k stands)

-- ---- what is written and told

pub returns-in-Ok-heal_leaders-clause-writes : goal.returns-in-Ok-heal_leaders-clause-writes
returns-in-Ok-heal_leaders-clause-writes g c =
    let V = g.V.Files in
    let M = g.M.Machine in
    let heal = c.in-Ok.ensures in
    let call = c.in-Ok-heal_leaders.ensures in
    record {
      rest = λ h.
          let back = call.disk.trust.honest h in
          heal_rest (V.state c.args.v.now).layout (V.state c.heal.new.self).layout (ap (λ (s : State). s.layout) heal.state) (M.now c.args.m.now) (M.now c.heal.new.m) (M.now c.heal_leaders.new.m) (heal.disk.windows back) (heal.writes.rest back) (call.writes.rest h);
      counted = λ t.
          healed_both (M.ledger c.args.m.now) (M.ledger c.heal.new.m) (M.ledger c.heal_leaders.new.m) c.in-Ok.twins c.in-Ok-heal_leaders.leaders c.saturating_add.result c.saturating_add.ensures
          (heal.writes.counted (call.disk.trust.tells t)) (call.writes.counted t);
    }

pub returns-in-Err-heal_leaders-clause-writes : goal.returns-in-Err-heal_leaders-clause-writes
returns-in-Err-heal_leaders-clause-writes g c =
    let V = g.V.Files in
    let M = g.M.Machine in
    let heal = c.in-Ok.ensures in
    let call = c.in-Err-heal_leaders.ensures in
    record {
      rest = λ h.
          let back = call.disk.trust.honest h in
          heal_rest (V.state c.args.v.now).layout (V.state c.heal.new.self).layout (ap (λ (s : State). s.layout) heal.state) (M.now c.args.m.now) (M.now c.heal.new.m) (M.now c.heal_leaders.new.m) (heal.disk.windows back) (heal.writes.rest back) (call.writes.rest h);
      counted = tt;
    }

pub returns-in-Err-clause-writes : goal.returns-in-Err-clause-writes
returns-in-Err-clause-writes g c = record {
  rest = λ h. heal_within (g.V.Files.state c.args.v.now).layout (g.M.Machine.now c.args.m.now) (g.M.Machine.now c.heal.new.m) (c.in-Err.ensures.writes.rest h);
  counted = tt;
}

pub returns-in-Ok-heal_leaders-clause-tells : goal.returns-in-Ok-heal_leaders-clause-tells
returns-in-Ok-heal_leaders-clause-tells g c h =
    let V = g.V.Files in
    let M = g.M.Machine in
    let a = M.now c.heal.new.m in
    let b = M.now c.heal_leaders.new.m in
    let heal = c.in-Ok.ensures in
    let call = c.in-Ok-heal_leaders.ensures in
    record {
      told = tt;
      mended = twins_then (V.state c.args.v.now).layout a b (call.disk.windows h) (subst (λ (s : State). Touches (is_data s.layout) a b) heal.state (call.writes.rest h)) (heal.tells (call.disk.trust.honest h)).mended;
    }

pub returns-in-Err-heal_leaders-clause-tells : goal.returns-in-Err-heal_leaders-clause-tells
returns-in-Err-heal_leaders-clause-tells g c h = record {
  told = subst (λ (s : State). TellsOn s.layout (g.M.Machine.now c.heal_leaders.new.m).image c.in-Err-heal_leaders.why) c.in-Ok.ensures.state (c.in-Err-heal_leaders.ensures.told h);
  mended = tt;
}

pub returns-in-Err-clause-tells : goal.returns-in-Err-clause-tells
returns-in-Err-clause-tells g c h =
    let s = g.V.Files.state c.args.v.now in
    record {
      told = heal_told s.layout (g.M.Machine.now c.heal.new.m).image s c.requires.up c.in-Err.why c.in-Err.ensures.order.follows (c.in-Err.ensures.tells h).lost;
      mended = tt;
    }
