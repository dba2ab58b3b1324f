use Rattle.std.proofs.Common.{◌≡◌, ℕ, ◌+◌, Option, None, refl, sym, ap, ◌∙◌, subst, arith}
use Rattle.std.specs.Prelude.{IfSome, IsTrue}
use Rattle.volume_layout.specs.declared.layout.Layout.{Layout}
use Rattle.volume_layout.specs.Layout.{is_data}
use Rattle.fsd_formats.specs.declared.entry.Entry.{Entry}
use Rattle.fsd_files.specs.Answers.{entry_after}
use Rattle.fsd_files.specs.declared.reply.Reply.TheVariants.{Found}
use Rattle.fsd_files.specs.Scrub.{leader_place}
use Rattle.sector_disk.specs.Machine.{Wears, wrote}
use Rattle.sector_disk.proofs.CallLaws.{reads_as_writes, writes_none, writes_then}
use Rattle.sector_disk.proofs.Wear.{worn_refl}
use Rattle.volume_contract.specs.Healing.{IsMet}
use Rattle.volume_contract.specs.State.{State, volume_of}
use Rattle.scrub.specs.Leading.{LeavesLed}
use Rattle.scrub.specs.Telling.{TellsOn}
use Rattle.scrub.proofs.KeptLaws.{wrote_nothing, wrote_then}
use Rattle.scrub.proofs.ToldLaws.{next_refuses, single_told, told_by}
use Rattle.scrub.proofs.LeadLaws.{few_more, led_all, led_counted, led_here, led_in, led_leaves, led_more, led_none, led_wears, outside_ends, rest_more, rest_read, still_ends, worn_touches}
use Rattle.scrub.proofs.LookedLaws.{outside_only}
use Rattle.scrub.proofs.PlaceLaws.{leader_there}
use Rattle.scrub.proofs.leaders.heal_leaders.Goals as goal

pub loop-init : goal.loop-init
loop-init g c =
    let V = g.V.Files in
    let v = c.args.v.now in
    let at = c.args.m.now in
    let now = g.M.Machine.now at in
    record {
      state = refl;
      disk = writes_none at (λ left h is. g.met.M.Machine.only_now at left h is) (LeavesLed V.state V.holds v) (λ h. led_here V.state V.holds v now);
      rest = λ h. worn_touches (is_data (V.state v).layout) now now (worn_refl _ now.image);
      counted = λ t. wrote_nothing (g.M.Machine.ledger at);
      few = omega arith;
      led = λ h k stands. led_none V.state V.holds k v now stands;
    }

pub returns-in-Ok-None-clause-disk : goal.returns-in-Ok-None-clause-disk
returns-in-Ok-None-clause-disk g c =
    let V = g.V.Files in
    let M = g.M.Machine in
    let was = c.loop.invariant in
    let next = c.in-Ok-None.ensures in
    let a = M.now c.args.m.now in
    let b = M.now c.loop.m in
    writes_then {fault = None} {R = LeavesLed V.state V.holds c.args.v.now} was.disk (reads_as_writes {R = Wears} next.reads.disk (λ h left worn. worn)) (λ h left x. x)
    (λ h left worn k stands.
    let back = next.reads.disk.trust.honest h in
    let led = was.led back k stands in
    led_wears V.state V.holds k c.loop.v c.loop.counter c.loop.last c.loop.count a b led (was.disk.quiet back) left worn
    (g.met.V.Files.wears c.loop.v k b left (g.met.M.Machine.short c.loop.m back) (record { image = worn.image; windows = worn.windows }) led.stands))

pub returns-in-Err-clause-disk : goal.returns-in-Err-clause-disk
returns-in-Err-clause-disk g c =
    let V = g.V.Files in
    let M = g.M.Machine in
    let was = c.loop.invariant in
    let next = c.in-Err.ensures in
    let a = M.now c.args.m.now in
    let b = M.now c.loop.m in
    writes_then {R = LeavesLed V.state V.holds c.args.v.now} was.disk (reads_as_writes {R = Wears} next.reads.disk (λ h left worn. worn)) (λ h left x. x)
    (λ h left worn k stands.
    let back = next.reads.disk.trust.honest h in
    let led = was.led back k stands in
    led_wears V.state V.holds k c.loop.v c.loop.counter c.loop.last c.loop.count a b led (was.disk.quiet back) left worn
    (g.met.V.Files.wears c.loop.v k b left (g.met.M.Machine.short c.loop.m back) (record { image = worn.image; windows = worn.windows }) led.stands))

pub returns-in-Ok-None-clause-done : goal.returns-in-Ok-None-clause-done
returns-in-Ok-None-clause-done g c = λ h k stands.
    let V = g.V.Files in
    let M = g.M.Machine in
    let was = c.loop.invariant in
    let next = c.in-Ok-None.ensures in
    let back = next.reads.disk.trust.honest h in
    let led = was.led back k stands in
    let looks = subst (λ (o : Option Entry). Found (entry_after c.loop.last (volume_of k).entries) ≡ Found o) c.in-Ok-None.field-0-is (next.done h k led.stands) in
    led_all V.state V.holds k c.loop.v c.loop.counter c.loop.last c.loop.count (M.now c.args.m.now) (M.now c.loop.m) led looks c.next_one.new.v (M.now c.next_one.new.m) (next.reads.disk.worn h) (next.reads.stands h k led.stands)

pub returns-in-Err-clause-done : goal.returns-in-Err-clause-done
returns-in-Err-clause-done g c = λ h k stands.
    let V = g.V.Files in
    let M = g.M.Machine in
    let next = c.in-Err.ensures in
    let led = c.loop.invariant.led (next.reads.disk.trust.honest h) k stands in
    outside_ends V.state V.holds k c.next_one.new.v (M.now c.args.m.now) (M.now c.next_one.new.m) c.in-Err.why (outside_only (entry_after c.loop.last (volume_of k).entries) c.in-Err.why (next.done h k led.stands)) (next.reads.stands h k led.stands)

pub returns-in-Err-heal_leader-clause-disk : goal.returns-in-Err-heal_leader-clause-disk
returns-in-Err-heal_leader-clause-disk g c =
    let V = g.V.Files in
    let M = g.M.Machine in
    let was = c.loop.invariant in
    let next = c.in-Ok-Some.ensures in
    let call = c.in-Err-heal_leader.ensures in
    let a = M.now c.args.m.now in
    let b = M.now c.loop.m in
    let mid = M.now c.next_one.new.m in
    let met : IsMet (V.state c.next_one.new.v) c.in-Ok-Some.e = subst (λ (o : Option Entry). IfSome o (IsMet (V.state c.next_one.new.v))) c.in-Ok-Some.field-0-is next.tells.met in
    let front = writes_then {fault = None} {R = LeavesLed V.state V.holds c.args.v.now} was.disk (reads_as_writes {R = Wears} next.reads.disk (λ h left worn. worn)) (λ h left x. x)
    (λ h left worn k stands.
    let back = next.reads.disk.trust.honest h in
    let led = was.led back k stands in
    led_wears V.state V.holds k c.loop.v c.loop.counter c.loop.last c.loop.count a b led (was.disk.quiet back) left worn
    (g.met.V.Files.wears c.loop.v k b left (g.met.M.Machine.short c.loop.m back) (record { image = worn.image; windows = worn.windows }) led.stands)) in
    writes_then {R = LeavesLed V.state V.holds c.args.v.now} front call.disk (λ h left x. x)
    (λ h left leaves k stands.
    let back = call.disk.trust.honest h in
    let there = next.reads.disk.trust.honest back in
    let led = was.led there k stands in
    let looks = subst (λ (o : Option Entry). Found (entry_after c.loop.last (volume_of k).entries) ≡ Found o) c.in-Ok-Some.field-0-is (next.done back k led.stands) in
    led_leaves V.state V.holds k c.loop.v c.loop.counter c.loop.last c.loop.count a b led c.in-Ok-Some.e looks met.entry mid (next.reads.disk.worn back) (was.disk.quiet there) left
    (leaves k (next.reads.stands back k led.stands) (led_in V.state V.holds k c.loop.v c.loop.counter c.loop.last c.loop.count a b led c.in-Ok-Some.e looks met.entry mid (next.reads.disk.worn back))))

pub returns-in-Err-heal_leader-clause-writes : goal.returns-in-Err-heal_leader-clause-writes
returns-in-Err-heal_leader-clause-writes g c =
    let V = g.V.Files in
    let M = g.M.Machine in
    let was = c.loop.invariant in
    let next = c.in-Ok-Some.ensures in
    let call = c.in-Err-heal_leader.ensures in
    let met : IsMet (V.state c.next_one.new.v) c.in-Ok-Some.e = subst (λ (o : Option Entry). IfSome o (IsMet (V.state c.next_one.new.v))) c.in-Ok-Some.field-0-is next.tells.met in
    record {
      rest = λ h.
          let back = call.disk.trust.honest h in
          let there = next.reads.disk.trust.honest back in
          rest_more (V.state c.args.v.now).layout (leader_place c.in-Ok-Some.e)
          (subst (λ (s : State). IsTrue (is_data s.layout (leader_place c.in-Ok-Some.e))) (next.reads.same ∙ was.state) (met.within (leader_place c.in-Ok-Some.e) (leader_there c.in-Ok-Some.e met.entry)))
          (M.now c.args.m.now) (M.now c.loop.m) (M.now c.next_one.new.m) (M.now c.heal_leader.new.m) (was.disk.windows there) (was.rest there) (next.reads.disk.worn back) (call.writes.rest h);
      counted = tt;
    }

pub returns-in-Err-heal_leader-clause-done : goal.returns-in-Err-heal_leader-clause-done
returns-in-Err-heal_leader-clause-done g c = λ h k stands.
    let V = g.V.Files in
    let M = g.M.Machine in
    let was = c.loop.invariant in
    let next = c.in-Ok-Some.ensures in
    let call = c.in-Err-heal_leader.ensures in
    let back = call.disk.trust.honest h in
    let there = next.reads.disk.trust.honest back in
    let led = was.led there k stands in
    let met : IsMet (V.state c.next_one.new.v) c.in-Ok-Some.e = subst (λ (o : Option Entry). IfSome o (IsMet (V.state c.next_one.new.v))) c.in-Ok-Some.field-0-is next.tells.met in
    let looks = subst (λ (o : Option Entry). Found (entry_after c.loop.last (volume_of k).entries) ≡ Found o) c.in-Ok-Some.field-0-is (next.done back k led.stands) in
    still_ends V.state V.holds k c.heal_leader.new.self (M.now c.args.m.now) (M.now c.heal_leader.new.m) c.in-Err-heal_leader.why
    (call.done h k (next.reads.stands back k led.stands) (led_in V.state V.holds k c.loop.v c.loop.counter c.loop.last c.loop.count (M.now c.args.m.now) (M.now c.loop.m) led c.in-Ok-Some.e looks met.entry (M.now c.next_one.new.m) (next.reads.disk.worn back)))

pub loop-preserved : goal.loop-preserved
loop-preserved g c =
    let V = g.V.Files in
    let M = g.M.Machine in
    let was = c.loop.invariant in
    let next = c.in-Ok-Some.ensures in
    let call = c.in-Ok.ensures in
    let a = M.now c.args.m.now in
    let b = M.now c.loop.m in
    let mid = M.now c.next_one.new.m in
    let end = M.now c.heal_leader.new.m in
    let e = c.in-Ok-Some.e in
    let state = next.reads.same ∙ was.state in
    let met : IsMet (V.state c.next_one.new.v) c.in-Ok-Some.e = subst (λ (o : Option Entry). IfSome o (IsMet (V.state c.next_one.new.v))) c.in-Ok-Some.field-0-is next.tells.met in
    let inside = met.within (leader_place c.in-Ok-Some.e) (leader_there c.in-Ok-Some.e met.entry) in
    let front = writes_then {fault = None} {R = LeavesLed V.state V.holds c.args.v.now} was.disk (reads_as_writes {R = Wears} next.reads.disk (λ h left worn. worn)) (λ h left x. x)
    (λ h left worn k stands.
    let back = next.reads.disk.trust.honest h in
    let led = was.led back k stands in
    led_wears V.state V.holds k c.loop.v c.loop.counter c.loop.last c.loop.count a b led (was.disk.quiet back) left worn
    (g.met.V.Files.wears c.loop.v k b left (g.met.M.Machine.short c.loop.m back) (record { image = worn.image; windows = worn.windows }) led.stands)) in
    record {
      state = call.state ∙ state;
      disk = writes_then {fault = None} {R = LeavesLed V.state V.holds c.args.v.now} front call.disk (λ h left x. x)
          (λ h left leaves k stands.
          let back = call.disk.trust.honest h in
          let there = next.reads.disk.trust.honest back in
          let led = was.led there k stands in
          let looks = subst (λ (o : Option Entry). Found (entry_after c.loop.last (volume_of k).entries) ≡ Found o) c.in-Ok-Some.field-0-is (next.done back k led.stands) in
          led_leaves V.state V.holds k c.loop.v c.loop.counter c.loop.last c.loop.count a b led c.in-Ok-Some.e looks met.entry mid (next.reads.disk.worn back) (was.disk.quiet there) left
          (leaves k (next.reads.stands back k led.stands) (led_in V.state V.holds k c.loop.v c.loop.counter c.loop.last c.loop.count a b led c.in-Ok-Some.e looks met.entry mid (next.reads.disk.worn back))));
      rest = λ h.
          let back = call.disk.trust.honest h in
          let there = next.reads.disk.trust.honest back in
          rest_more (V.state c.args.v.now).layout (leader_place c.in-Ok-Some.e) (subst (λ (s : State). IsTrue (is_data s.layout (leader_place c.in-Ok-Some.e))) state inside)
          a b mid end (was.disk.windows there) (was.rest there) (next.reads.disk.worn back) (call.writes.rest h);
      counted = λ t.
          let told = call.disk.trust.tells t in
          wrote_then (M.ledger c.args.m.now) (M.ledger c.next_one.new.m) (M.ledger c.heal_leader.new.m) c.loop.count c.count_of-count.result
          (next.reads.disk.ledger told ∙ was.counted (next.reads.disk.trust.tells told)) (call.writes.counted t ∙ ap (λ (n : ℕ). wrote (M.ledger c.next_one.new.m) n) (sym c.count_of-count.ensures));
      few = few_more c.loop.count c.loop.counter c.count_of-count.result c.in-Ok.written c.count_of-count.ensures was.few;
      led = λ h k stands.
          let back = call.disk.trust.honest h in
          let there = next.reads.disk.trust.honest back in
          let led = was.led there k stands in
          let looks = subst (λ (o : Option Entry). Found (entry_after c.loop.last (volume_of k).entries) ≡ Found o) c.in-Ok-Some.field-0-is (next.done back k led.stands) in
          led_more V.state V.holds k c.loop.v c.loop.counter c.loop.last c.loop.count a b led c.in-Ok-Some.e looks met.entry mid (next.reads.disk.worn back)
          (subst (λ (l : Layout). IsTrue (is_data l (leader_place c.in-Ok-Some.e))) (ap (λ (s : State). s.layout) next.reads.same ∙ sym led.stands.fits.layout) inside)
          c.heal_leader.new.self end (call.disk.windows h) (call.writes.rest h)
          (call.done h k (next.reads.stands back k led.stands) (led_in V.state V.holds k c.loop.v c.loop.counter c.loop.last c.loop.count a b led c.in-Ok-Some.e looks met.entry mid (next.reads.disk.worn back)))
          (call.tells h).led c.in-Ok.written (call.tells h).healed (c.loop.count + c.count_of-count.result) (ap (λ (n : ℕ). c.loop.count + n) c.count_of-count.ensures);
    }

pub returns-clause-done : goal.returns-clause-done
returns-clause-done g c = λ h k stands.
    let V = g.V.Files in
    let M = g.M.Machine in
    let was = c.loop.invariant in
    let asked = c.stat-end.ensures.versions in
    let same = ap (λ (s : State). s.versions) was.state in
    let most = c.loop.auto.counter-end in
    let ended = c.loop-test.false in
    led_counted V.state V.holds k c.loop.v c.loop.counter c.loop.last c.loop.count (M.now c.args.m.now) (M.now c.loop.m) (was.led h k stands) c.stat-end.result.versions (omega (arith, asked, same)) (omega (arith, most, ended))

-- ---- what is written and told

pub returns-in-Ok-None-clause-writes : goal.returns-in-Ok-None-clause-writes
returns-in-Ok-None-clause-writes g c =
    let M = g.M.Machine in
    let was = c.loop.invariant in
    let next = c.in-Ok-None.ensures in
    record {
      rest = λ h.
          let back = next.reads.disk.trust.honest h in
          rest_read (g.V.Files.state c.args.v.now).layout (M.now c.args.m.now) (M.now c.loop.m) (M.now c.next_one.new.m) (was.disk.windows back) (was.rest back) (next.reads.disk.worn h);
      counted = λ t. next.reads.disk.ledger t ∙ was.counted (next.reads.disk.trust.tells t);
    }

pub returns-in-Err-clause-writes : goal.returns-in-Err-clause-writes
returns-in-Err-clause-writes g c =
    let M = g.M.Machine in
    let was = c.loop.invariant in
    let next = c.in-Err.ensures in
    record {
      rest = λ h.
          let back = next.reads.disk.trust.honest h in
          rest_read (g.V.Files.state c.args.v.now).layout (M.now c.args.m.now) (M.now c.loop.m) (M.now c.next_one.new.m) (was.disk.windows back) (was.rest back) (next.reads.disk.worn h);
      counted = tt;
    }

pub returns-clause-writes : goal.returns-clause-writes
returns-clause-writes g c = record { rest = c.loop.invariant.rest; counted = c.loop.invariant.counted }

pub returns-in-Err-clause-refusal : goal.returns-in-Err-clause-refusal
returns-in-Err-clause-refusal g c = next_refuses (g.V.Files.state c.loop.v) (ap (λ (s : State). s.down) c.loop.invariant.state ∙ c.requires.up) c.in-Err.why c.in-Err.ensures.order

pub returns-in-Err-clause-told : goal.returns-in-Err-clause-told
returns-in-Err-clause-told g c = λ h.
    let V = g.V.Files in
    let now = g.M.Machine.now in
    let e = c.in-Err.ensures in
    subst (λ (s : State). TellsOn s.layout (now c.next_one.new.m).image c.in-Err.why) c.loop.invariant.state
    (told_by (V.state c.loop.v) (V.state c.next_one.new.v) (V.resident c.loop.v) (now c.loop.m) (now c.next_one.new.m) (ap (λ (s : State). s.layout) e.reads.same) c.in-Err.why (e.tells.causes h))

pub returns-in-Err-heal_leader-clause-told : goal.returns-in-Err-heal_leader-clause-told
returns-in-Err-heal_leader-clause-told g c = λ h.
    let V = g.V.Files in
    let same = c.in-Ok-Some.ensures.reads.same ∙ c.loop.invariant.state in
    single_told (V.state c.args.v.now).layout (g.M.Machine.now c.heal_leader.new.m).image (V.state c.next_one.new.v) (ap (λ (s : State). s.down) same ∙ c.requires.up) c.in-Err-heal_leader.why c.in-Err-heal_leader.ensures.order.follows
