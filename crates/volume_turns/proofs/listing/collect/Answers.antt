use Rattle.std.proofs.Common.{◌≡◌, inl, inr, List, [], ◌∷◌, ◌++◌, Option, Some, None, refl, sym, ◌∙◌, ap, subst, arith}
use Rattle.fsd_formats.specs.declared.entry.Entry.{Entry}
use Rattle.fsd_files.specs.Answers.{entry_after}
use Rattle.fsd_files.specs.declared.reply.Reply.TheVariants.{Found}
use Rattle.fsd_files.proofs.ListingLaws.{lists_length}
use Rattle.sector_disk.proofs.CallLaws.{reads_none}
use Rattle.volume_contract.specs.State.{State, volume_of}
use Rattle.scrub.specs.Telling.{AreOfPage}
use Rattle.volume_turns.specs.Listing.{AreListed}
use Rattle.volume_turns.specs.Steps.{IsRefusedOn}
use Rattle.scrub.proofs.WalkLaws.{files_in_order}
use Rattle.scrub.proofs.LookedLaws.{outside_only}
use Rattle.volume_turns.proofs.ListLaws.{listed_all, listed_counted, listed_more, listed_none}
use Rattle.scrub.proofs.ReadingLaws.{volume_read_then}
use Rattle.scrub.proofs.ToldLaws.{next_refuses}
use Rattle.volume_turns.proofs.ToldLaws.{told_of}
use Rattle.std.specs.Prelude.{IfNone, IfSome}
use Rattle.fsd_bytes.specs.declared.key.Key.{Key}
use Rattle.fsd_sound.specs.Lookups.{LacksLater}
use Rattle.fsd_table.specs.Reached.{ReachesPage}
use Rattle.volume_contract.specs.Found.{ShowsReached}
use Rattle.volume_contract.specs.Causes.{ShowsOfPages}
use Rattle.volume_contract.specs.Ends.{IsLater}
use Rattle.volume_contract.specs.Found.{ShowsReachedNext}
use Rattle.volume_turns.specs.Reasons.{ComeBehind, ShowedNext}
use Rattle.volume_turns.proofs.ReasonLaws.{HasMet, come_later, come_more, met_more, met_none}
use Rattle.volume_turns.proofs.listing.collect.Given as given
use Rattle.volume_turns.proofs.listing.collect.Goals as goal
use Rattle.volume_turns.proofs.listing.collect.Goals.{In-Ok}

-- what of those that were met is shown at this moment
abbrev Came : (g : given.Over) → (v : g.row.V.Denot) → (old now : g.row.M.Denot) → List Entry → Type 0
Came g v old now met = g.M.Machine.honest now → ComeBehind g.V.Files.state g.V.Files.resident (g.V.Files.state v) (g.V.Files.state v) (g.M.Machine.now old) (g.M.Machine.now now) None met

pub loop-init : goal.loop-init
loop-init g c = record {
  reads = record { disk = reads_none c.args.m.now (λ left h was. g.met.M.Machine.only_now c.args.m.now left h was); same = refl; stands = λ h k stands. stands };
  met = subst (λ (x : List Entry). HasMet (Came g c.args.v.now c.args.m.now c.args.m.now) c.args.pattern.now 0 None x) (sym c.new-entries.ensures.items) (met_none (Came g c.args.v.now c.args.m.now c.args.m.now) c.args.pattern.now (λ h. tt));
  listed = λ h k stands. subst (λ (x : List Entry). AreListed c.args.pattern.now (volume_of k).entries 0 None x) (sym c.new-entries.ensures.items) (listed_none c.args.pattern.now (volume_of k).entries);
}

pub next_one-requires : goal.next_one-requires
next_one-requires g c =
    let was = c.loop.invariant in
    let same = ap (λ (s : State). s.layout.sectors) was.reads.same in
    let sectors = was.reads.disk.uses.sectors in
    let room = c.requires.room in
    record { room = omega (arith, same, sectors, room) }

-- the entry that was found is one more
comes : (g : given.Over) (c : In-Ok g) → Came g c.args.v.now c.args.m.now c.next_one.new.m (c.loop.invariant.met.met ++ c.in-Ok-Some.e ∷ [])
comes g c h =
    let V = g.V.Files in
    let M = g.M.Machine in
    let s = V.state c.args.v.now in
    let was = c.loop.invariant in
    let e = c.in-Ok-Some.ensures in
    let back = e.reads.disk.trust.honest h in
    let earlier = was.reads.disk.worn back in
    let worn = e.reads.disk.worn h in
    let a = M.now c.args.m.now in
    let m = M.now c.loop.m in
    let b = M.now c.next_one.new.m in
    let met = was.met.met in
    let later = subst (λ (o : Option Entry). IsLater c.loop.last o) c.in-Ok-Some.field-0-is e.tells.later in
    let found = subst (λ (o : Option Entry). IfSome o (ShowsReachedNext M (V.resident c.loop.v) (V.state c.loop.v) (V.state c.next_one.new.v) c.loop.m c.next_one.new.m c.loop.last)) c.in-Ok-Some.field-0-is e.tells.found in
    let shown = subst (λ (t : State). ShowedNext V.state V.resident s t a b c.loop.last c.in-Ok-Some.e) (e.reads.same ∙ was.reads.same)
    (record { by = c.loop.v; same = was.reads.same; from = m; aged = record { image = earlier.image; windows = earlier.windows }; shows = found h }) in
    let come = come_later V.state V.resident s s a m b (record { image = worn.image; windows = worn.windows }) None met (was.met.come back) in
    come_more V.state V.resident s s a b None met c.in-Ok-Some.e come (subst (λ (o : Option Key). IsLater o (Some c.in-Ok-Some.e)) was.met.ends later)
    (subst (λ (o : Option Key). ShowedNext V.state V.resident s s a b o c.in-Ok-Some.e) was.met.ends shown)

pub loop-preserved : goal.loop-preserved
loop-preserved g c =
    let was = c.loop.invariant in
    let reads = c.in-Ok-Some.ensures.reads in
    record {
      reads = volume_read_then {fault = None} was.reads reads;
      met = met_more (Came g c.args.v.now c.args.m.now c.loop.m) (Came g c.args.v.now c.args.m.now c.next_one.new.m) c.args.pattern.now c.loop.counter c.loop.last c.loop.entries.items was.met c.in-Ok-Some.e (comes g c) c.in-Ok.key c.in-Ok.ensures.key c.take_fitting.new.entries.items c.in-Ok.ensures.ok;
      listed = λ h k stands.
          let back = reads.disk.trust.honest h in
          let looks = subst (λ (o : Option Entry). Found (entry_after c.loop.last (volume_of k).entries) ≡ Found o) c.in-Ok-Some.field-0-is (c.in-Ok-Some.ensures.done h k (was.reads.stands back k stands)) in
          listed_more c.args.pattern.now (volume_of k).files (volume_of k).entries stands.disk.described.lists (files_in_order g.V.Files.state g.V.Files.holds c.args.v.now k (g.M.Machine.now c.args.m.now) stands)
          c.loop.counter c.loop.last c.loop.entries.items (was.listed back k stands) c.in-Ok-Some.e looks c.in-Ok.key c.in-Ok.ensures.key c.take_fitting.new.entries.items c.in-Ok.ensures.ok;
    }

pub returns-in-Err-take_fitting-clause-reads : goal.returns-in-Err-take_fitting-clause-reads
returns-in-Err-take_fitting-clause-reads g c = volume_read_then {fault = None} c.loop.invariant.reads c.in-Ok-Some.ensures.reads

pub returns-in-Ok-None-clause-reads : goal.returns-in-Ok-None-clause-reads
returns-in-Ok-None-clause-reads g c = volume_read_then {fault = None} c.loop.invariant.reads c.in-Ok-None.ensures.reads

pub returns-in-Ok-None-clause-done : goal.returns-in-Ok-None-clause-done
returns-in-Ok-None-clause-done g c h k stands =
    let was = c.loop.invariant in
    let back = c.in-Ok-None.ensures.reads.disk.trust.honest h in
    listed_all c.args.pattern.now (volume_of k).files (volume_of k).entries stands.disk.described.lists (files_in_order g.V.Files.state g.V.Files.holds c.args.v.now k (g.M.Machine.now c.args.m.now) stands)
    c.loop.counter c.loop.last c.loop.entries.items (was.listed back k stands)
    (subst (λ (o : Option Entry). Found (entry_after c.loop.last (volume_of k).entries) ≡ Found o) c.in-Ok-None.field-0-is (c.in-Ok-None.ensures.done h k (was.reads.stands back k stands)))

pub returns-in-Err-clause-reads : goal.returns-in-Err-clause-reads
returns-in-Err-clause-reads g c = volume_read_then c.loop.invariant.reads c.in-Err.ensures.reads

pub returns-in-Err-clause-refusal : goal.returns-in-Err-clause-refusal
returns-in-Err-clause-refusal g c = next_refuses (g.V.Files.state c.loop.v) (ap (λ (s : State). s.down) c.loop.invariant.reads.same ∙ c.requires.up) c.in-Err.why c.in-Err.ensures.order

pub returns-in-Err-clause-told : goal.returns-in-Err-clause-told
returns-in-Err-clause-told g c h =
    let V = g.V.Files in
    let now = g.M.Machine.now in
    let e = c.in-Err.ensures in
    subst (λ (s : State). IsRefusedOn AreOfPage s.layout (now c.next_one.new.m).image c.in-Err.why) c.loop.invariant.reads.same
    (told_of (V.state c.loop.v) (V.state c.next_one.new.v) (V.resident c.loop.v) (now c.loop.m) (now c.next_one.new.m) (ap (λ (s : State). s.layout) e.reads.same) c.in-Err.why (e.tells.causes h))

pub returns-in-Err-clause-done : goal.returns-in-Err-clause-done
returns-in-Err-clause-done g c h k stands =
    outside_only (entry_after c.loop.last (volume_of k).entries) c.in-Err.why (c.in-Err.ensures.done h k (c.loop.invariant.reads.stands (c.in-Err.ensures.reads.disk.trust.honest h) k stands))

pub returns-clause-reads : goal.returns-clause-reads
returns-clause-reads g c = c.loop.invariant.reads

pub returns-clause-done : goal.returns-clause-done
returns-clause-done g c h k stands =
    let lists = stands.disk.described.lists in
    let met = lists_length (volume_of k).files (volume_of k).entries lists in
    let there = stands.fits.versions in
    let asked = c.stat-end.ensures.versions in
    let most = c.loop.auto.counter-end in
    let ended = c.loop-test.false in
    listed_counted c.args.pattern.now (volume_of k).files (volume_of k).entries lists (files_in_order g.V.Files.state g.V.Files.holds c.args.v.now k (g.M.Machine.now c.args.m.now) stands)
    c.loop.counter c.loop.last c.loop.entries.items (c.loop.invariant.listed h k stands) (omega (arith, met, there, asked, most, ended))

-- ---- why they are all

pub returns-in-Ok-None-clause-because : goal.returns-in-Ok-None-clause-because
returns-in-Ok-None-clause-because g c h =
    let V = g.V.Files in
    let now = g.M.Machine.now in
    let was = c.loop.invariant in
    let worn = was.reads.disk.worn (c.in-Ok-None.ensures.reads.disk.trust.honest h) in
    let x = was.met in
    let absent = subst (λ (o : Option Entry). IfNone o (ShowsReached g.M.Machine (V.resident c.loop.v) (V.state c.loop.v) (V.state c.next_one.new.v) c.loop.m c.next_one.new.m (LacksLater c.loop.last))) c.in-Ok-None.field-0-is c.in-Ok-None.ensures.tells.absent in
    let aged = c.in-Ok-None.ensures.reads.disk.worn h in
    let s = V.state c.args.v.now in
    let come = come_later V.state V.resident s s (now c.args.m.now) (now c.loop.m) (now c.next_one.new.m) (record { image = aged.image; windows = aged.windows }) None x.met (x.come (c.in-Ok-None.ensures.reads.disk.trust.honest h)) in
    record {
      met = x.met;
      come = subst (λ (t : State). ComeBehind V.state V.resident s t (now c.args.m.now) (now c.next_one.new.m) None x.met) (sym (c.in-Ok-None.ensures.reads.same ∙ was.reads.same)) come;
      fit = x.fit;
      ends = inr (record {
        by = c.loop.v;
        same = was.reads.same;
        from = now c.loop.m;
        aged = record { image = worn.image; windows = worn.windows };
        shows = subst (λ (o : Option Key). ShowsOfPages (V.state c.loop.v) (V.state c.next_one.new.v) (V.resident c.loop.v) (now c.loop.m) (now c.next_one.new.m) (ReachesPage (LacksLater o))) x.ends (absent h);
      });
    }

pub returns-clause-because : goal.returns-clause-because
returns-clause-because g c h =
    let x = c.loop.invariant.met in
    let asked = c.stat-end.ensures.versions in
    let most = c.loop.auto.counter-end in
    let ended = c.loop-test.false in
    let many = x.many in
    let V = g.V.Files in
    let now = g.M.Machine.now in
    let s = V.state c.args.v.now in
    let come = subst (λ (t : State). ComeBehind V.state V.resident s t (now c.args.m.now) (now c.loop.m) None x.met) (sym c.loop.invariant.reads.same) (x.come h) in
    record { met = x.met; come = come; fit = x.fit; ends = inl (omega (arith, asked, most, ended, many)) }
