use Rattle.std.proofs.Common.{ℕ, Option, refl, sym, ap, subst}
use Rattle.sector_disk.proofs.CallLaws.{reads_none}
use Rattle.fsd_runs.specs.Dumps.{span_of}
use Rattle.volume_contract.specs.State.{volume_of}
use Rattle.volume_turns.specs.Dumping.{EndsFinding}
use Rattle.volume_turns.proofs.DumpFoundLaws.{finding_of, of_span}
use Rattle.volume_turns.proofs.dumping.span_for.Goals as goal

pub returns-in-None : goal.returns-in-None
returns-in-None g c = record {
  refusal = tt;
  reads = record { disk = reads_none c.args.m.now (g.met.M.Machine.only_now c.args.m.now); same = refl; stands = λ h k stands. stands };
  tells = tt;
  done = λ h k stands. ap (λ (o : Option ℕ). span_of c.args.since o (volume_of k).entries) c.in-None.is;
}

pub returns-in-Some : goal.returns-in-Some
returns-in-Some g c =
    let V = g.V.Files in
    let e = c.span_in.ensures in
    record {
      refusal = of_span (V.state c.args.v.now) c.requires.up c.in-Some.most c.span_in.result e.order;
      reads = e.reads;
      tells = e.tells;
      done = λ h k stands. subst (λ (o : Option ℕ). EndsFinding c.args.since o (volume_of k).entries c.span_in.result) (sym c.in-Some.is) (finding_of c.args.since c.in-Some.most (volume_of k).entries c.span_in.result (e.done h k stands));
    }
