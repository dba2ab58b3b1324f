use Rattle.std.proofs.Common.{ℕ, List, None, ap, sym, subst, ◌∙◌}
use Rattle.fsd_bytes.specs.declared.key.Key.{Key}
use Rattle.volume_layout.specs.declared.layout.Layout.{Layout}
use Rattle.sector_disk.specs.Machine.{Wears}
use Rattle.sector_disk.proofs.CallLaws.{reads_as_writes, writes_then}
use Rattle.volume_contract.specs.State.{State}
use Rattle.scrub.specs.Looking.{AreDamaged}
use Rattle.scrub.specs.Telling.{TellsOn}
use Rattle.scrub.specs.Scrub.{LeavesScrubbed}
use Rattle.scrub.proofs.KeptLaws.{healed_read}
use Rattle.scrub.proofs.WholeLaws.{found_since, healed_worn, looking_ends, reads_leave, scrub_read, some_since, twins_then, unlooked_ends}
use Rattle.scrub.proofs.LeadLaws.{worn_touches}
use Rattle.volume_layout.specs.Layout.{is_data}
use Rattle.scrub.proofs.whole.heal_and_look.Goals as goal

pub returns-in-Ok-look-clause-disk : goal.returns-in-Ok-look-clause-disk
returns-in-Ok-look-clause-disk g c =
    let V = g.V.Files in
    let M = g.M.Machine in
    let a = M.now c.args.m.now in
    let b = M.now c.heal_all.new.m in
    let heal = c.in-Ok.ensures in
    let call = c.in-Ok-look.ensures in
    writes_then {fault = None} {R = LeavesScrubbed V.state V.holds c.args.v.now} heal.disk (reads_as_writes {R = Wears} call.reads.disk (λ h left worn. worn)) (λ h left x. x)
    (λ h left worn k stands.
    let back = call.reads.disk.trust.honest h in
    let is = heal.done back k stands in
    reads_leave k (V.state c.args.v.now).layout stands.fits.layout a b (heal.disk.windows back) (heal.disk.quiet back) left V.state V.holds c.heal_all.new.v is.touches worn
    (g.met.V.Files.wears c.heal_all.new.v k b left (g.met.M.Machine.short c.heal_all.new.m back) (record { image = worn.image; windows = worn.windows }) is.stands))

pub returns-in-Ok-look-clause-done : goal.returns-in-Ok-look-clause-done
returns-in-Ok-look-clause-done g c = λ h k stands.
    let V = g.V.Files in
    let M = g.M.Machine in
    let a = M.now c.args.m.now in
    let b = M.now c.heal_all.new.m in
    let end = M.now c.look.new.m in
    let heal = c.in-Ok.ensures in
    let call = c.in-Ok-look.ensures in
    let back = call.reads.disk.trust.honest h in
    let is = heal.done back k stands in
    record {
      healed_so = healed_worn V.state V.holds k c.heal_all.new.v c.look.new.v a b end c.in-Ok.healed.sectors (heal.disk.windows back) is (call.reads.disk.worn h) (call.reads.stands h k is.stands);
      finds = found_since V.state V.holds k a b is.touches end.image stands.disk.described.apart c.look.new.found.items (call.done h k is.stands);
    }

pub returns-in-Err-look-clause-disk : goal.returns-in-Err-look-clause-disk
returns-in-Err-look-clause-disk g c =
    let V = g.V.Files in
    let M = g.M.Machine in
    let a = M.now c.args.m.now in
    let b = M.now c.heal_all.new.m in
    let heal = c.in-Ok.ensures in
    let call = c.in-Err-look.ensures in
    writes_then {R = LeavesScrubbed V.state V.holds c.args.v.now} heal.disk (reads_as_writes {R = Wears} call.reads.disk (λ h left worn. worn)) (λ h left x. x)
    (λ h left worn k stands.
    let back = call.reads.disk.trust.honest h in
    let is = heal.done back k stands in
    reads_leave k (V.state c.args.v.now).layout stands.fits.layout a b (heal.disk.windows back) (heal.disk.quiet back) left V.state V.holds c.heal_all.new.v is.touches worn
    (g.met.V.Files.wears c.heal_all.new.v k b left (g.met.M.Machine.short c.heal_all.new.m back) (record { image = worn.image; windows = worn.windows }) is.stands))

pub returns-in-Err-look-clause-done : goal.returns-in-Err-look-clause-done
returns-in-Err-look-clause-done g c = λ h k stands.
    let V = g.V.Files in
    let M = g.M.Machine in
    let a = M.now c.args.m.now in
    let b = M.now c.heal_all.new.m in
    let end = M.now c.look.new.m in
    let heal = c.in-Ok.ensures in
    let call = c.in-Err-look.ensures in
    let back = call.reads.disk.trust.honest h in
    let is = heal.done back k stands in
    looking_ends V.state V.holds k c.look.new.v a end c.look.new.found.items c.in-Err-look.why (call.outside h k is.stands)
    (record { stands = call.reads.stands h k is.stands; finds = some_since V.state V.holds k a b is.touches end.image stands.disk.described.apart c.look.new.found.items (call.done h k is.stands) })

pub returns-in-Err-clause-done : goal.returns-in-Err-clause-done
returns-in-Err-clause-done g c = λ h k stands.
    let V = g.V.Files in
    let M = g.M.Machine in
    unlooked_ends V.state V.holds k c.heal_all.new.v (M.now c.args.m.now) (M.now c.heal_all.new.m) c.args.found.now.items c.requires.none c.in-Err.why (c.in-Err.ensures.done h k stands)

-- ---- what is written and told

pub returns-in-Ok-look-clause-state : goal.returns-in-Ok-look-clause-state
returns-in-Ok-look-clause-state g c = c.in-Ok-look.ensures.reads.same ∙ c.in-Ok.ensures.state

pub returns-in-Err-look-clause-state : goal.returns-in-Err-look-clause-state
returns-in-Err-look-clause-state g c = c.in-Err-look.ensures.reads.same ∙ c.in-Ok.ensures.state

pub returns-in-Ok-look-clause-writes : goal.returns-in-Ok-look-clause-writes
returns-in-Ok-look-clause-writes g c =
    let M = g.M.Machine in
    let heal = c.in-Ok.ensures in
    let disk = c.in-Ok-look.ensures.reads.disk in
    record {
      rest = λ h.
          let back = disk.trust.honest h in
          scrub_read (g.V.Files.state c.args.v.now).layout (M.now c.args.m.now) (M.now c.heal_all.new.m) (M.now c.look.new.m) (heal.disk.windows back) (heal.writes.rest back) (disk.worn h);
      counted = λ t. healed_read (M.ledger c.args.m.now) (M.ledger c.heal_all.new.m) (M.ledger c.look.new.m) 0 c.in-Ok.healed.sectors (disk.ledger t) (heal.writes.counted (disk.trust.tells t));
    }

pub returns-in-Err-look-clause-writes : goal.returns-in-Err-look-clause-writes
returns-in-Err-look-clause-writes g c =
    let M = g.M.Machine in
    let heal = c.in-Ok.ensures in
    let disk = c.in-Err-look.ensures.reads.disk in
    record {
      rest = λ h.
          let back = disk.trust.honest h in
          scrub_read (g.V.Files.state c.args.v.now).layout (M.now c.args.m.now) (M.now c.heal_all.new.m) (M.now c.look.new.m) (heal.disk.windows back) (heal.writes.rest back) (disk.worn h);
      counted = tt;
    }

pub returns-in-Err-clause-writes : goal.returns-in-Err-clause-writes
returns-in-Err-clause-writes g c = c.in-Err.ensures.writes

pub returns-in-Ok-look-clause-tells : goal.returns-in-Ok-look-clause-tells
returns-in-Ok-look-clause-tells g c h =
    let M = g.M.Machine in
    let l = (g.V.Files.state c.args.v.now).layout in
    let a = M.now c.heal_all.new.m in
    let b = M.now c.look.new.m in
    let call = c.in-Ok-look.ensures in
    let worn = call.reads.disk.worn h in
    let same = ap (λ (s : State). s.layout) c.in-Ok.ensures.state in
    record {
      told = tt;
      mended = twins_then l a b worn.windows (worn_touches (is_data l) a b worn.image) (c.in-Ok.ensures.tells (call.reads.disk.trust.honest h)).mended;
      damaged = subst (λ (x : Layout). AreDamaged x b.image c.look.new.found.items) same (call.damaged h);
    }

pub returns-in-Err-look-clause-tells : goal.returns-in-Err-look-clause-tells
returns-in-Err-look-clause-tells g c h =
    let image = (g.M.Machine.now c.look.new.m).image in
    let call = c.in-Err-look.ensures in
    let same = ap (λ (s : State). s.layout) c.in-Ok.ensures.state in
    record {
      told = subst (λ (x : Layout). TellsOn x image c.in-Err-look.why) same (call.told h);
      mended = tt;
      damaged = subst (λ (x : Layout). AreDamaged x image c.look.new.found.items) same (call.damaged h);
    }

pub returns-in-Err-clause-tells : goal.returns-in-Err-clause-tells
returns-in-Err-clause-tells g c h =
    let l = (g.V.Files.state c.args.v.now).layout in
    let image = (g.M.Machine.now c.heal_all.new.m).image in
    record {
      told = (c.in-Err.ensures.tells h).told;
      mended = tt;
      damaged = subst (λ (found : List (Key × ℕ)). AreDamaged l image found) (sym c.requires.none) tt;
    }
