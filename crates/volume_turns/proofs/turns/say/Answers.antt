use Rattle.std.proofs.Common.{◌≡◌, inl, ◌∙◌, Bool, false, true, List, ℕ, refl, sym, subst, arith}
use Rattle.std.proofs.lemmas.Result.{on_ok_weaker}
use Rattle.sector_disk.specs.Machine.{LeavesOnly, Utters}
use Rattle.sector_disk.proofs.Holding.{utters_none}
use Rattle.sector_disk.proofs.Holding.{wears_none}
use Rattle.sector_disk.proofs.Moments.{leaves_more, started}
use Rattle.sector_disk.proofs.ResultLaws.{ok_as}
use Rattle.volume_turns.specs.Syncs.{SyncsOnce}
use Rattle.volume_turns.specs.Turns.{IsEndOfVolume, SaysAll, SaysText, Unsaid, UttersBehind}
use Rattle.volume_turns.proofs.LineLaws.{output_ends}
use Rattle.volume_turns.proofs.turns.say.Goals as goal

pub returns-in_default : goal.returns-in_default
returns-in_default g c =
    let M = g.M.Machine in
    let a = c.args.m.now in
    let reply = c.args.answer.now in
    let text = g.T.Says.errand.says reply in
    let forces = g.T.Says.errand.forces reply in
    record {
      says = record {
        told = record { sectors = refl; disk = (refl, refl); input = refl; later = omega arith; output = refl };
        fault = tt;
        ledger = λ t. inl refl;
        trust = record { tells = λ t. t; honest = λ h. h };
        since = λ h t left le was. was;
      };
      moments = λ h. started M.moment M.left_since a (M.now a) (UttersBehind forces text (M.now a)) (λ left was. g.met.M.Machine.only_now a left h was) (record { utters = utters_none text (M.now a); synced = λ is. inl refl });
      synced = tt;
      said = tt;
      unsaid = λ h. wears_none (M.now a);
    }

-- behind a sync
pub returns-then-forces : goal.returns-then-forces
returns-then-forces g c =
    let M = g.M.Machine in
    let a = c.args.m.now in
    let b = c.say_forced.new.m in
    let reply = c.args.answer.now in
    let text = g.T.Says.errand.says reply in
    let is = c.as_slice.ensures.value ∙ c.in-Ok.ensures in
    let so : g.T.Says.errand.forces reply ≡ true = sym c.forces.ensures ∙ c.if-forces.true in
    let said = c.say_forced.ensures in
    let result = c.say_forced.result in
    record {
      says = subst (λ (f : Bool). SaysText M f a b result) (sym so) said.says;
      moments = λ h. subst (λ (f : Bool). LeavesOnly M.moment M.left_since a b (UttersBehind f text (M.now a))) (sym so) (subst (λ (x : List ℕ). LeavesOnly M.moment M.left_since a b (UttersBehind true x (M.now a))) is (said.moments h));
      synced = on_ok_weaker result (λ late all h. late h) said.synced;
      said = on_ok_weaker result (λ all h. subst (λ (x : List ℕ). SaysAll x (M.now a) (M.now b)) is (all h)) said.said;
      unsaid = said.unsaid;
    }

pub returns : goal.returns
returns g c =
    let M = g.M.Machine in
    let a = c.args.m.now in
    let b = c.say_bytes.new.m in
    let reply = c.args.answer.now in
    let text = g.T.Says.errand.says reply in
    let forces = g.T.Says.errand.forces reply in
    let is = c.as_slice-else-forces.ensures.value ∙ c.in-Ok.ensures in
    let none : forces ≡ false = sym c.forces.ensures ∙ c.if-forces.false in
    let said = c.say_bytes.ensures in
    let result = c.say_bytes.result in
    record {
      says = record {
        told = said.says.told;
        fault = output_ends IsEndOfVolume tt result said.output;
        ledger = subst (λ (f : Bool). M.tells b → SyncsOnce f (M.ledger a) (M.ledger b)) (sym none) said.says.ledger;
        trust = said.says.trust;
        since = said.says.since;
      };
      moments = λ h. leaves_more M.moment M.left_since a b (Utters text (M.now a)) (UttersBehind forces text (M.now a)) (λ left u. record { utters = u; synced = λ all. absurd (cc (all, none)) })
          (subst (λ (x : List ℕ). LeavesOnly M.moment M.left_since a b (Utters x (M.now a))) is (said.moments h));
      synced = ok_as _ result (λ all h. absurd (cc (all, none)));
      said = on_ok_weaker result (λ all h. subst (λ (x : List ℕ). SaysAll x (M.now a) (M.now b)) is (all h)) said.said;
      unsaid = output_ends (λ end. M.honest b → Unsaid (M.now a) (M.now b) end) (λ h. tt) result said.output;
    }
