use Rattle.std.proofs.Common.{◌≡◌, ◌≤◌, ◌+◌, ℕ, List, None, subst, arith}
use Rattle.fsd_texts.specs.declared.end.End.TheVariants.{Done}
use Rattle.fsd_texts.specs.Script.{max_input, script_in}
use Rattle.fsd_runs.specs.Commands.{reply_text}
use Rattle.fsd_runs.specs.declared.request.Request.TheVariants.{Script}
use Rattle.scrub.specs.Telling.{AreOfPage}
use Rattle.volume_turns.specs.Causes.{Replies}
use Rattle.volume_turns.specs.Each.{SaysBadLine, SaysForced}
use Rattle.volume_turns.specs.Whole.{RunsOut}
use Rattle.volume_turns.proofs.BehindLaws.{RefusedBy, RunsOver, over_attaches, over_fails, over_image, over_input, over_leaves, over_said, over_says_input, over_taking, over_trust, refused_image, refused_last, refused_leaves, refused_of, refused_taking, refused_trust, refused_syncs}
use Rattle.volume_turns.proofs.NumberLaws.{new_may}
use Rattle.volume_turns.proofs.ScriptRunLaws.{some_forced}
use Rattle.volume_turns.proofs.SayLaws.{timed_by}
use Rattle.volume_turns.proofs.StatusLaws.{fault_is_script, fault_not_bad, fault_not_five, fault_not_zero}
use Rattle.client_desk.proofs.DeskLaws.{desk_fresh}
use Rattle.volume_turns.specs.Syncs.{most_in_script}
use Rattle.volume_turns.proofs.script.run_script.Goals as goal

pub script_on-requires-clause-idle : goal.script_on-requires-clause-idle
script_on-requires-clause-idle g c = let fresh = c.in-Ok.ensures.opens.fresh in desk_fresh (g.V.Files.state c.in-Ok.v) fresh.unfinished fresh.readers

pub returns-in-Ok : goal.returns-in-Ok
returns-in-Ok g c =
    let M = g.M.Machine in
    let m = c.mount.new.m in
    let b = c.script_on.new.m in
    let e = c.in-Ok.ensures in
    let does = c.script_on.ensures in
    let x : RunsOver g.V.Files.state M c.args.sectors c.in-Ok.v c.args.m.now c.mount.new.m c.script_on.new.m = record { disk = e.disk; fresh = e.opens.fresh; found = λ h. (e.tells h).found; rest = λ h. (e.heals h).rest; trust = does.ends.run.trust } in
    record {
      ends = record {
        status = does.ends.run.status;
        trust = over_trust x;
        last = does.ends.run.last;
      };
      takes = record {
        attaches = λ t. over_attaches x t (does.takes.attaches t);
        syncs = λ h. let tells = g.met.M.Machine.honest_tells b h in
            let few = subst (λ (input : List ℕ). (M.ledger b).syncs ≤ (M.ledger m).syncs + most_in_script input) (over_input x tells) (does.takes.syncs h) in
            let none = (e.disk.ledger (does.ends.run.trust.tells tells)).syncs in
            omega (arith, few, none);
        counts = over_taking x does.takes.counts;
        input = λ five t. over_fails x t (does.takes.input five t);
        fails = λ five h. over_says_input x (g.met.M.Machine.honest_tells b h) (does.takes.fails five h);
      };
      says = λ h. record {
        bad = λ two t le. let reached = e.disk.later (does.ends.run.trust.honest h) in
            subst (λ (before : List ℕ). SaysBadLine (M.left_since b t) (M.ledger c.args.m.now).input before (M.now b)) (over_said x h)
            (subst (λ (input : List ℕ). SaysBadLine (M.left_since b t) input (M.now m).said (M.now b)) (over_input x (g.met.M.Machine.honest_tells b h)) ((does.says h).bad two t (omega (arith, le, reached))));
        all = λ zero t le. let reached = e.disk.later (does.ends.run.trust.honest h) in
            subst (λ (before : List ℕ). SaysForced reply_text (M.left_since b t) (script_in (M.ledger c.args.m.now).input).0 before (M.now b).said) (over_said x h)
            (subst (λ (input : List ℕ). SaysForced reply_text (M.left_since b t) (script_in input).0 (M.now m).said (M.now b).said) (over_input x (g.met.M.Machine.honest_tells b h)) ((does.says h).all zero t (omega (arith, le, reached))));
      };
      whole = λ zero t. record { whole = (does.whole zero t).whole; spelled = subst (λ (input : List ℕ). (script_in input).1 ≡ Done) (over_input x t) (does.whole zero t).spelled };
      image = λ h. over_image x Replies AreOfPage None c.script_on.result h (does.tells h).says (λ nine. let many = new_may (max_input + 1) (g.V.Files.state c.in-Ok.v) e.opens.fresh ((does.tells h).spent nine) in omega (arith, many));
      leaves = λ h was at held.
          over_leaves x g.V.Files.holds Script (M.ledger c.args.m.now).input (M.ledger b).input was c.script_on.result h does.ends.since (λ y t. g.met.M.Machine.counts_now y t) (timed_by M g.met.M.Machine.dated g.met.M.Machine.history g.met.M.Machine.counts_now g.met.M.Machine.only_now) held (e.sound (does.ends.run.trust.honest h) was.layout was.windows was.changes was.forced at)
          (λ k none idle stands disk. subst (λ (input : List ℕ). RunsOut M Script input (M.ledger b).input (M.report m) k m b c.script_on.result) (over_input x (g.met.M.Machine.honest_tells b h)) (does.runs h k idle stands disk));
    }

pub returns-in-Err : goal.returns-in-Err
returns-in-Err g c =
    let M = g.M.Machine in
    let e = c.in-Err.ensures in
    let why = c.fault_of.result in
    let line = c.end_with.ensures in
    let status = c.end_with.result in
    let x : RefusedBy M c.args.sectors c.in-Err.fault why c.args.m.now c.mount.new.m c.end_with.new.m status =
    record { disk = e.disk; refused = λ h. (e.tells h).refused; kept = λ h. (e.tells h).unchanged; rest = λ h. (e.heals h).rest; lost = λ h. (e.tells h).lost; unsound = λ h. (e.tells h).unsound; is = c.fault_of.ensures; says = line.says; ends = line.ends; for = line.status } in
    record {
      ends = record {
        status = fault_is_script why status (refused_of x) line.status;
        trust = refused_trust x;
        last = refused_last x;
      };
      takes = record {
        attaches = λ t. (refused_syncs x {most = 0} t (line.ledger t)).attaches;
        syncs = λ h. (refused_syncs x {most = most_in_script (M.ledger c.args.m.now).input} (g.met.M.Machine.honest_tells c.end_with.new.m h) (line.ledger (g.met.M.Machine.honest_tells c.end_with.new.m h))).syncs;
        counts = refused_taking x;
        input = λ five t. absurd (fault_not_five why status (refused_of x) line.status five);
        fails = λ five h. absurd (fault_not_five why status (refused_of x) line.status five);
      };
      says = λ h. record {
        bad = λ two t le. absurd (fault_not_bad why status line.status two);
        all = λ zero t le. absurd (fault_not_zero why status line.status zero);
      };
      whole = λ zero t. absurd (fault_not_zero why status line.status zero);
      image = refused_image x Replies AreOfPage None;
      leaves = λ h was at held.
          refused_leaves x g.V.Files.state g.V.Files.holds Script (M.ledger c.args.m.now).input (M.ledger c.end_with.new.m).input was h (g.met.M.Machine.short c.mount.new.m) (λ y t. g.met.M.Machine.counts_now y t)
          (timed_by M g.met.M.Machine.dated g.met.M.Machine.history g.met.M.Machine.counts_now g.met.M.Machine.only_now) at held (e.sound (line.says.trust.honest h) was.layout was.windows was.changes was.forced at) (some_forced (M.ledger c.args.m.now).input) (λ Passed base v i none. tt);
    }
