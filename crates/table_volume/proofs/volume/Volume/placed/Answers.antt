use Rattle.std.proofs.Common.{◌≡◌, ◌⊎◌, ℕ, true, false, inl, inr, Err, refl, sym, subst, ◌∙◌}
use Rattle.std.specs.Prelude.{is_ok}
use Rattle.std.proofs.lemmas.Bool.{both_ways}
use Rattle.std.proofs.lemmas.Result.{err_from_is_err_and}
use Rattle.sector_disk.proofs.CallLaws.{writes_none, writes_told}
use Rattle.sector_disk.proofs.ResultLaws.{ok_as}
use Rattle.fsd_files.specs.Answers.{force_outcome}
use Rattle.fsd_files.specs.declared.reply.Reply.TheVariants.{Forced as IsForced}
use Rattle.volume_contract.specs.declared.files.Forced.{Forced}
use Rattle.fsd_sound.specs.Writes.{force_writes}
use Rattle.volume_contract.specs.State.{Counted, Leaves, forces_for_place, volume_of}
use Rattle.volume_laws.specs.State.{IsMemoryOf, resident, state}
use Rattle.volume_laws.proofs.BehindLaws.{behind_itself}
use Rattle.volume_laws.proofs.CountedLaws.{counted_as, place_counted, place_forced_len}
use Rattle.volume_laws.proofs.PlaceSteps.{busy_place, ends_down, ends_now, ends_then, forces_as_waits, none_now, place_tells, places_down, places_now, places_then}
use Rattle.volume_laws.proofs.PutCauses.{place_causes}
use Rattle.volume_laws.proofs.WrittenLaws.{leaves_still}
use Rattle.table_volume.proofs.volume.Volume.placed.Goals.{then-is_ok-via-then-is_ok, then-is_ok-via-else-is_ok+then-not-waits}
use Rattle.volume_laws.proofs.ForceMomentLaws.{touches_none}
use Rattle.table_volume.proofs.volume.Volume.placed.Goals as goal

-- ---- without a force

pub returns-then-is_ok : goal.returns-then-is_ok
returns-then-is_ok g c =
    let v = c.args.self.now in
    let s = state v in
    let at = c.args.m.now in
    let now = g.M.Machine.now at in
    let need = c.args.need in
    let r = c.chosen-place.result in
    let is = c.chosen-place.ensures.place in
    let may = force_writes v.layout in
    let how : (is_ok r ≡ true) ⊎ (s.waits ≡ false) = elim c.then-is_ok.branch [
      | then-is_ok-via-then-is_ok w ↦ inl (sym c.is_ok.ensures.value ∙ w.if-is_ok.true)
      | then-is_ok-via-else-is_ok+then-not-waits w ↦ inr (sym w.waits.ensures ∙ w.if-not-waits.true)
    ] in
    record {
      keeps = record { places = places_now s need r is how; free = c.chosen-place.ensures.free; still = λ never. refl };
      disk = writes_told (place_tells s need r is) (writes_none at (λ left h is. g.met.M.Machine.only_now at left h is) (Leaves state IsMemoryOf v may) (λ h. leaves_still v now may));
      writes = record { rest = λ h. touches_none may now; counted = λ tells. place_counted s need r is (g.M.Machine.ledger at) };
      tells = record { idle = λ idle. refl; causes = place_causes g.M.Machine (resident v) s s s at at need r is; behind = ok_as _ r (λ h. behind_itself s (resident v) now) };
      done = λ h k stands. ends_now v need k now r is how stands;
    }

-- ---- the force has failed

pub returns-in_err-force_all : goal.returns-in_err-force_all
returns-in_err-force_all g c =
    let M = g.M.Machine in
    let s = state c.args.self.now in
    let new = c.force_all.new.self in
    let need = c.args.need in
    let why = c.in_err-force_all.field-0.0 in
    let failed = c.in_err-force_all.ensures in
    let kept = failed.keeps.by_steps in
    let none = none_now s need c.chosen-place.result c.chosen-place.ensures.place (sym c.is_ok.ensures.value ∙ c.if-is_ok.false) in
    let waits = sym c.waits.ensures ∙ c.if-not-waits.false in
    let p = err_from_is_err_and c.from_residual.result c.from_residual.ensures.1 in
    rw (p.1, p.2) (record {
      keeps = record {
        places = places_down s (state new) need none waits why c.requires.up kept.state failed.order.follows kept.kept;
        free = tt;
        still = λ never. absurd (both_ways (forces_for_place s need) never (forces_as_waits s need none ∙ waits));
      };
      disk = failed.disk;
      writes = record {
        rest = failed.writes.rest;
        counted = λ tells. subst (λ (n : ℕ). Counted {T = Forced} (Err why) n (M.ledger c.args.m.now) (M.ledger c.force_all.new.m)) (sym (place_forced_len s need none waits)) (failed.writes.counted tells);
      };
      tells = record { idle = λ idle. absurd (busy_place s need none waits idle); causes = failed.tells.causes; behind = tt };
      done = λ h k stands. ends_down Forced need (λ met. force_outcome (volume_of k)) IsForced why k new (M.now c.force_all.new.m) (failed.done h k stands);
    })

-- ---- behind the force

pub returns : goal.returns
returns g c =
    let M = g.M.Machine in
    let v = c.args.self.now in
    let s = state v in
    let w = c.force_all.new.self in
    let need = c.args.need in
    let r = c.chosen.result in
    let is = c.chosen.ensures.place in
    let forced = c.in_ok-force_all.ensures in
    let kept = forced.keeps.by_steps in
    let none = none_now s need c.chosen-place.result c.chosen-place.ensures.place (sym c.is_ok.ensures.value ∙ c.if-is_ok.false) in
    let waits = sym c.waits.ensures ∙ c.if-not-waits.false in
    let a = M.ledger c.args.m.now in
    let b = M.ledger c.force_all.new.m in
    record {
      keeps = record {
        places = places_then v w need none waits r is kept.state kept.kept;
        free = c.chosen.ensures.free;
        still = λ never. absurd (both_ways (forces_for_place s need) never (forces_as_waits s need none ∙ waits));
      };
      disk = writes_told (place_tells (state w) need r is) forced.disk;
      writes = record {
        rest = forced.writes.rest;
        counted = λ tells. subst (λ (n : ℕ). Counted r n a b) (sym (place_forced_len s need none waits)) (counted_as r _ a b (forced.writes.counted tells));
      };
      tells = record { idle = λ idle. absurd (busy_place s need none waits idle); causes = place_causes M (resident v) s (state w) (state w) c.args.m.now c.force_all.new.m need r is; behind = ok_as _ r forced.tells.behind };
      done = λ h k stands. ends_then v w need none waits r is k (M.now c.args.m.now) (M.now c.force_all.new.m) stands (forced.done h k stands);
    }
