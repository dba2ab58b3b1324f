use Rattle.std.proofs.Common.{◌≡◌, List, ℕ, ◌+◌, refl, sym, ◌∙◌, ap, subst, arith}
use Rattle.sector_disk.specs.Machine.{Ledger}
use Rattle.sector_disk.proofs.Holding.{trusts_on}
use Rattle.fsd_files.specs.declared.reply.Reply.{Reply}
use Rattle.fsd_texts.specs.declared.end.End.TheVariants.{Bad, Done}
use Rattle.fsd_texts.specs.Script.{max_input, script_in}
use Rattle.fsd_runs.specs.Commands.{reply_text}
use Rattle.volume_turns.specs.Each.{SaysForced}
use Rattle.volume_turns.specs.Numbers.{MayWear}
use Rattle.volume_turns.specs.Turns.{BreaksWhole}
use Rattle.volume_turns.proofs.EachLaws.{forced_more, says_bad}
use Rattle.volume_turns.proofs.RunLaws.{since_on}
use Rattle.volume_turns.proofs.SayLaws.{timed_by}
use Rattle.volume_turns.proofs.ScriptLastLaws.{bad_so, done_so, input_fails, input_says, script_call, script_counts_so, script_last, script_runs, script_spent, script_status, status_as}
use Rattle.volume_turns.proofs.SyncLaws.{syncs_asked}
use Rattle.volume_turns.proofs.script.script_on.Goals as goal

pub returns-clause-runs : goal.returns-clause-runs
returns-clause-runs g c h k idle stands disk =
    let M = g.M.Machine in
    let p = c.group_read-ended.new.m in
    let back = c.say_last.ensures.trust.honest h in
    let timed = timed_by M g.met.M.Machine.dated g.met.M.Machine.history g.met.M.Machine.counts_now g.met.M.Machine.only_now in
    script_runs M c.args.m.now p c.say_last.new.m c.say_last.result g.T.Says.errand c.requires.says c.requires.forces k back h (c.say_last.ensures.since h) (g.met.M.Machine.short p back) stands.ends (timed p back) (timed c.say_last.new.m h) (c.say_last.ensures.ledger (g.met.M.Machine.honest_tells c.say_last.new.m h))
    c.group_read-ended.result (c.group_read-ended.ensures.group back k idle stands disk) c.group_read-ended.ensures.speaks.heard c.say_last.ensures.last

-- ---- how it ends

pub returns-clause-ends : goal.returns-clause-ends
returns-clause-ends g c =
    let M = g.M.Machine in
    let a = c.args.m.now in
    let x = c.group_read-ended in
    let b = c.say_last.new.m in
    let last = c.say_last.ensures in
    record {
      run = record {
        status = script_status M a x.new.m b c.say_last.result x.result x.ensures.speaks.fault last.last;
        trust = trusts_on x.ensures.speaks.trust last.trust;
        last = λ of h. script_last M a x.new.m b c.say_last.result x.result x.ensures.speaks.heard last.last h of;
      };
      since = since_on M a x.new.m b last.trust.honest x.ensures.speaks.since x.ensures.speaks.later last.since;
    }

-- ---- the input

pub returns-clause-takes : goal.returns-clause-takes
returns-clause-takes g c =
    let M = g.M.Machine in
    let a = c.args.m.now in
    let x = c.group_read-ended in
    let b = c.say_last.new.m in
    let status = c.say_last.result in
    let last = c.say_last.ensures in
    let is = λ (five : status ≡ 5). status_as M a x.new.m b status 5 refl x.result last.last five in
    record {
      attaches = λ t. ap (λ (l : Ledger). l.attaches) (last.ledger t) ∙ x.ensures.speaks.attaches (last.trust.tells t);
      syncs = λ h. let back = last.trust.honest h in
          let few = syncs_asked g.T.Says.errand.forces (script_in (M.ledger a).input).0 (M.ledger a) (M.ledger x.new.m) c.requires.forces (x.ensures.script.syncs back) in
          let same = ap (λ (l : Ledger). l.syncs) (last.ledger (g.met.M.Machine.honest_tells b h)) in
          omega (arith, few, same);
      counts = script_counts_so M a x.new.m b status x.result x.ensures.speaks.heard x.ensures.input.rose x.ensures.input.memory last.last;
      input = λ five t. input_fails M a x.new.m b status (M.ledger a).input x.result x.ensures.speaks.fault x.ensures.input.rose (λ end ended. x.ensures.script.ends end ended (last.trust.tells t)) last.last (is five);
      fails = λ five h.
          let tells = g.met.M.Machine.honest_tells x.new.m (last.trust.honest h) in
          input_says M a x.new.m b status (M.ledger a).input x.result x.ensures.speaks.fault x.ensures.input.rose (λ end ended. x.ensures.script.ends end ended tells) last.last (is five) five h;
    }

pub returns-clause-whole : goal.returns-clause-whole
returns-clause-whole g c zero t =
    let M = g.M.Machine in
    let x = c.group_read-ended in
    let b = c.say_last.new.m in
    let last = c.say_last.ensures in
    let done = done_so M c.args.m.now x.new.m b c.say_last.result x.result last.last (status_as M c.args.m.now x.new.m b c.say_last.result 0 refl x.result last.last zero) in
    record {
      whole = ap (λ (l : Ledger). l.input) (last.ledger t) ∙ x.ensures.script.whole done.0 (last.trust.tells t);
      spelled = x.ensures.script.ends Done done.0 (last.trust.tells t);
    }

-- ---- what is said

pub returns-clause-says : goal.returns-clause-says
returns-clause-says g c h =
    let M = g.M.Machine in
    let a = c.args.m.now in
    let x = c.group_read-ended in
    let p = x.new.m in
    let b = c.say_last.new.m in
    let status = c.say_last.result in
    let last = c.say_last.ensures.last in
    let input = (M.ledger a).input in
    let commands = (script_in input).0 in
    let back = c.say_last.ensures.trust.honest h in
    record {
      bad = λ two t le.
          let reached = x.ensures.speaks.later back in
          let bad = bad_so M a p b status x.result last (status_as M a p b status 2 refl x.result last two) in
          let forced = subst (λ (how : Reply → List ℕ). SaysForced how (M.left_since p t) commands (M.now a).said (M.now p).said) c.requires.says (x.ensures.script.says (Bad bad.0) bad.1 back t le) in
          says_bad (M.left_since b t) input (M.now a).said bad.0 (M.now p) (M.now b) status (x.ensures.script.ends (Bad bad.0) bad.1 (g.met.M.Machine.honest_tells p back))
          (forced_more reply_text (M.left_since p t) (M.left_since b t) (λ at was. c.say_last.ensures.since h t at (omega (arith, le, reached)) was) commands (M.now a).said (M.now p).said forced) (bad.2 h) two;
      all = λ zero t le.
          let done = done_so M a p b status x.result last (status_as M a p b status 0 refl x.result last zero) in
          subst (λ (y : g.row.M.Denot). SaysForced reply_text (M.left_since y t) commands (M.now a).said (M.now y).said) (sym done.1)
          (subst (λ (says : Reply → List ℕ). SaysForced says (M.left_since p t) commands (M.now a).said (M.now p).said) c.requires.says (x.ensures.script.says Done done.0 back t le));
    }

-- ---- what a call has told

pub returns-clause-tells : goal.returns-clause-tells
returns-clause-tells g c h =
    let M = g.M.Machine in
    let a = c.args.m.now in
    let x = c.group_read-ended in
    let p = x.new.m in
    let b = c.say_last.new.m in
    let status = c.say_last.result in
    let last = c.say_last.ensures.last in
    let back = c.say_last.ensures.trust.honest h in
    record {
      says = λ three.
          let whole = subst (λ (says : Reply → List ℕ). BreaksWhole says (M.now a) (M.now p) x.result) c.requires.says (x.ensures.breaks.broken back) in
          script_call M a p b status (g.V.Files.state c.args.v).layout x.result x.ensures.speaks.fault whole x.ensures.breaks.image back last (status_as M a p b status 3 refl x.result last three) three h;
      spent = λ nine. script_spent (MayWear (max_input + 1) (g.V.Files.state c.args.v)) x.result (λ is. x.ensures.used is back) x.ensures.breaks.unworn (status_as M a p b status 9 refl x.result last nine);
    }
