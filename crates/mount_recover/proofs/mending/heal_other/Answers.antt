use Rattle.std.proofs.Common.{◌≡◌, ◌+◌, None, arith}
use Rattle.std.specs.Prelude.{slice_index_or}
use Rattle.std.proofs.lemmas.Result.{MatchResult-weaker, on_ok_weaker}
use Rattle.volume_layout.specs.Layout.{home_b}
use Rattle.sector_disk.proofs.CallLaws.{reads_as_heals, reads_none}
use Rattle.sector_disk.proofs.Holding.{wears_none}
use Rattle.sector_disk.proofs.Moments.{started}
use Rattle.fsd_log.specs.Images.{last_image}
use Rattle.fsd_sound.specs.Homes.{HasBothHomes}
use Rattle.fsd_sound.specs.Shown.{records_by}
use Rattle.mount_recover.specs.Mending.{AreHomed, IsMending, StaysShown}
use Rattle.mount_recover.proofs.HomesLaws.{count_has, count_lacks, homed_has, homed_heal}
use Rattle.mount_recover.proofs.KeepsLaws.{keeps_none, keeps_page}
use Rattle.mount_recover.proofs.MendingLaws.{heal_skips, stays}
use Rattle.mount_recover.proofs.ShowingLaws.{loses_so, showing_heal}
use Rattle.mount_recover.proofs.SlotLaws.{slot_has, slot_none}
use Rattle.mount_recover.proofs.mending.heal_other.Goals as goal
use Rattle.log_thirds.specs.Images.{IsUnlogged}

-- ---- a page that the log has

pub returns-then-has-clause-mends : goal.returns-then-has-clause-mends
returns-then-has-clause-mends g c = record { disk = reads_as_heals (reads_none c.args.m.now (λ at h left. g.met.M.Machine.only_now c.args.m.now at h left)); load = tt; lost = tt; grows = λ t. omega arith }

pub returns-then-has-clause-keeps : goal.returns-then-has-clause-keeps
returns-then-has-clause-keeps g c h = keeps_none c.args.l.now (g.M.Machine.now c.args.m.now)

pub returns-then-has-clause-most : goal.returns-then-has-clause-most
returns-then-has-clause-most g c t =
    let has : IsUnlogged c.args.log.now c.args.page → ⊥ = λ lacks. absurd (cc (c.has.ensures.slot.1 lacks, c.if-has.true)) in
    omega (arith, count_has (slice_index_or c.args.log.now.slots c.args.page None) has)

pub returns-then-has-clause-homes : goal.returns-then-has-clause-homes
returns-then-has-clause-homes g c h at =
    let has : IsUnlogged c.args.log.now c.args.page → ⊥ = λ lacks. absurd (cc (c.has.ensures.slot.1 lacks, c.if-has.true)) in
    homed_has c.args.l.now c.args.log.now (home_b c.args.l.now c.args.l.now.pages) c.args.page has (g.M.Machine.now c.args.m.now) at

pub returns-then-has-clause-goes_on : goal.returns-then-has-clause-goes_on
returns-then-has-clause-goes_on g c windows choices first is h at =
    let M = g.M.Machine in
    let l = c.args.l.now in let log = c.args.log.now in let old = M.now c.args.m.now in
    let has : IsUnlogged c.args.log.now c.args.page → ⊥ = λ lacks. absurd (cc (c.has.ensures.slot.1 lacks, c.if-has.true)) in
    record {
      any_moment = started M.moment M.left_since c.args.m.now old (StaysShown l windows choices first) (λ left now. g.met.M.Machine.only_now c.args.m.now left h now)
          (stays l windows choices log first is (home_b l l.pages) c.args.page old at old (wears_none old));
      done = heal_skips l windows choices log first is (home_b l l.pages) c.args.page old at (slot_has l windows choices log first is c.requires.layout c.args.page c.requires.page (home_b l l.pages) c.args.page old at has);
      never_lost = tt;
    }

pub returns-then-has-clause-shown : goal.returns-then-has-clause-shown
returns-then-has-clause-shown g c records first h still given at = at

-- ---- a page that it does not have

pub returns-else-has-clause-mends : goal.returns-else-has-clause-mends
returns-else-has-clause-mends g c = c.heal_home.ensures.mends

pub returns-else-has-clause-keeps : goal.returns-else-has-clause-keeps
returns-else-has-clause-keeps g c h =
    let M = g.M.Machine in
    keeps_page c.args.l.now c.args.page c.requires.page (M.now c.args.m.now) (M.now c.heal_home.new.m) (c.heal_home.ensures.keeps h)

pub returns-else-has-clause-most : goal.returns-else-has-clause-most
returns-else-has-clause-most g c t =
    omega (arith, c.heal_home.ensures.most t, count_lacks (slice_index_or c.args.log.now.slots c.args.page None) (c.has.ensures.slot.0 c.if-has.false))

pub returns-else-has-clause-homes : goal.returns-else-has-clause-homes
returns-else-has-clause-homes g c =
    let M = g.M.Machine in
    let l = c.args.l.now in let log = c.args.log.now in let old = M.now c.args.m.now in let new = M.now c.heal_home.new.m in
    on_ok_weaker {P = M.honest c.heal_home.new.m → HasBothHomes l new c.args.page} {Q = M.honest c.heal_home.new.m → AreHomed l log (home_b l l.pages) c.args.page old → AreHomed l log (home_b l l.pages) (c.args.page + 1) new} c.heal_home.result
    (λ both h at. homed_heal l log (home_b l l.pages) c.args.page c.requires.page (c.has.ensures.slot.0 c.if-has.false) old new (c.heal_home.ensures.keeps h) (both h) at)
    c.heal_home.ensures.homes

pub returns-else-has-clause-goes_on : goal.returns-else-has-clause-goes_on
returns-else-has-clause-goes_on g c windows choices first is h at =
    let M = g.M.Machine in
    let l = c.args.l.now in let log = c.args.log.now in let old = M.now c.args.m.now in let new = M.now c.heal_home.new.m in
    let healed = c.heal_home.ensures.goes_on windows choices log first is h at in
    record {
      any_moment = healed.any_moment;
      done = on_ok_weaker {P = last_image c.args.page (records_by l is.clean log.anchor) ≡ None → IsMending l windows choices log first is (home_b l l.pages) (c.args.page + 1) new} {Q = IsMending l windows choices log first is (home_b l l.pages) (c.args.page + 1) new} c.heal_home.result
          (λ done. done (slot_none l windows choices log first is c.requires.layout c.args.page c.requires.page (home_b l l.pages) c.args.page old at (c.has.ensures.nowhere c.if-has.false))) healed.done;
      never_lost = healed.never_lost;
    }

pub returns-else-has-clause-shown : goal.returns-else-has-clause-shown
returns-else-has-clause-shown g c records first h still given at =
    let M = g.M.Machine in
    let l = c.args.l.now in let old = M.now c.args.m.now in let new = M.now c.heal_home.new.m in
    let nowhere = c.has.ensures.nowhere c.if-has.false records given.indexed in
    MatchResult-weaker c.heal_home.result (c.heal_home.ensures.shown h still)
    (λ x done. showing_heal l records first c.args.page c.requires.page (home_b l l.pages) old.image at nowhere new.image done)
    (λ fault loses. loses_so l records first c.args.page c.requires.page (home_b l l.pages) old.image at nowhere fault loses)
