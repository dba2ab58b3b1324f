use Rattle.std.proofs.Common.{◌≡◌, ◌∙◌, ℕ, ◌+◌, inl, None, Ok, Err, refl, sym, ap, subst, true, arith}
use Rattle.std.proofs.lemmas.Result.{err_from_is_err_and}
use Rattle.fsd_formats.specs.NamePage.{sectors_for}
use Rattle.fsd_sound.specs.Writes.{force_writes}
use Rattle.sector_disk.proofs.CallLaws.{writes_none, writes_told}
use Rattle.volume_contract.specs.declared.token.Draft.{Draft}
use Rattle.volume_contract.specs.Order.{is_idle}
use Rattle.volume_contract.specs.Pieces.{draft_begun, reserve_len, with_opened}
use Rattle.volume_contract.specs.State.{Counted, Leaves, Stands}
use Rattle.volume_laws.specs.Placing.{EndsPlace, IsPlace, Places, drawn_known, place_steps}
use Rattle.volume_laws.specs.State.{IsMemoryOf, resident, state}
use Rattle.volume_laws.proofs.ForceMomentLaws.{touches_none}
use Rattle.volume_laws.proofs.StoreLaws.{same_serial}
use Rattle.volume_laws.proofs.WrittenLaws.{leaves_still}
use Rattle.volume_laws.proofs.BehindForce.{is_up}
use Rattle.volume_laws.proofs.PutEnds.{length_small, serials_left}
use Rattle.volume_laws.proofs.ReserveLaws.{begin_ends, begin_kept, begin_order, begun_ends, placed_busy, placed_order, placing_idle, reserves, unplaced_ends, unplaced_kept, unplaced_order}
use Rattle.volume_laws.proofs.TestedLaws.{put_places, put_test_cause}
use Rattle.table_volume.proofs.files.VolumeFiles.reserve.Goals as goal

-- ---- a test refuses

pub returns-in_err-may_put : goal.returns-in_err-may_put
returns-in_err-may_put g c =
    let v = c.args.self.now in
    let at = c.args.m.now in
    let now = g.M.Machine.now c.args.m.now in
    let len = c.args.length in
    let why = c.in_err-may_put.field-0.0 in
    let comes = c.in_err-may_put.ensures in
    let may = force_writes v.layout in
    let p = err_from_is_err_and c.from_residual.result c.from_residual.ensures.1 in
    rw (p.1, p.2) (record {
      order = record { follows = begin_order (state v) len why comes; idle = λ idle. refl };
      disk = writes_told (put_places (state v) None len why comes) (writes_none at (λ left h is. g.met.M.Machine.only_now at left h is) (Leaves state IsMemoryOf v may) (λ h. leaves_still v now may));
      writes = record { rest = λ h. touches_none may now; counted = λ tells. (omega arith, omega arith) };
      keeps = record {
        draft = tt;
        state = record { layout = refl; epoch = refl; unfinished = refl; readers = refl; down = inl refl };
        kept = begin_kept (state v) len why comes;
      };
      causes = λ honest. put_test_cause (state v) None len (resident v) now now why comes;
      done = λ h k stands. begin_ends v len k now why comes stands;
    })

-- ---- there is no place

pub small-size-requires : goal.small-size-requires
small-size-requires g c = length_small 0 c.args.length c.in_ok-may_put.ensures.1.0

pub placed-requires-clause-up : goal.placed-requires-clause-up
placed-requires-clause-up g c = is_up c.args.self.now.down c.in_ok-may_put.ensures.0

pub returns-in_err-runs : goal.returns-in_err-runs
returns-in_err-runs g c =
    let M = g.M.Machine in
    let v = c.args.self.now in
    let new = c.placed.new.self in
    let now = M.now c.placed.new.m in
    let len = c.args.length in
    let same : c.sectors_of.result ≡ sectors_for c.args.length = c.sectors_of.ensures ∙ ap sectors_for c.small-size.ensures in
    let tests = c.in_ok-may_put.ensures in
    let why = c.in_err-runs.field-0.0 in
    let failed = c.in_err-runs.ensures in
    let places = subst (λ (n : ℕ). Places n (state v) (state new) (Err why)) same failed.keeps.places in
    let p = err_from_is_err_and c.from_residual-in_err-runs.result c.from_residual-in_err-runs.ensures.1 in
    rw (p.1, p.2) (record {
      order = record {
        follows = unplaced_order (state v) len tests why places.order;
        idle = λ idle. failed.tells.idle (subst (λ (n : ℕ). is_idle (place_steps (state v) n) ≡ true) (sym same) (placing_idle (state v) len tests idle));
      };
      disk = failed.disk;
      writes = record {
        rest = failed.writes.rest;
        counted = λ tells. subst (λ (n : ℕ). Counted {T = Draft} (Err why) (reserve_len (state v) n) (M.ledger c.args.m.now) (M.ledger c.placed.new.m)) same (failed.writes.counted tells);
      };
      keeps = record { draft = tt; state = places.state; kept = unplaced_kept (state v) len tests (state new) why places.kept };
      causes = failed.tells.causes;
      done = λ h k stands. unplaced_ends v len k tests.1.0 stands.fits new now why places.order (subst (λ (n : ℕ). EndsPlace n k new now (Err why)) same (failed.done h k stands));
    })

-- ---- it is begun

pub begun-requires-clause-most : goal.begun-requires-clause-most
begun-requires-clause-most g c = let most = length_small 0 c.args.length c.in_ok-may_put.ensures.1.0 in omega (arith, most, c.small-size.ensures)

pub begun-requires-clause-place : goal.begun-requires-clause-place
begun-requires-clause-place g c = subst (λ (n : ℕ). IsPlace c.placed.new.self.map n c.in_ok-runs.runs) c.sectors_of.ensures c.in_ok-runs.ensures.keeps.free

pub begun-requires-clause-serials : goal.begun-requires-clause-serials
begun-requires-clause-serials g c =
    let s = state c.args.self.now in
    let left = serials_left s c.in_ok-may_put.ensures.1.1.0 in
    let same = same_serial c.sectors_of.result s (state c.placed.new.self) c.in_ok-runs.runs c.in_ok-runs.ensures.keeps.places.kept in
    omega (arith, left, ap (λ x. x.count) same)

pub returns : goal.returns
returns g c =
    let M = g.M.Machine in
    let v = c.args.self.now in
    let mid = c.placed.new.self in
    let new = c.begun.new.self in
    let now = M.now c.placed.new.m in
    let len = c.args.length in
    let runs = c.in_ok-runs.runs in
    let same : c.sectors_of.result ≡ sectors_for c.args.length = c.sectors_of.ensures ∙ ap sectors_for c.small-size.ensures in
    let tests = c.in_ok-may_put.ensures in
    let placed = c.in_ok-runs.ensures in
    let e = c.begun.ensures in
    let places = subst (λ (n : ℕ). Places n (state v) (state mid) (Ok runs)) same placed.keeps.places in
    record {
      order = record { follows = placed_order (state v) len tests places.order; idle = λ idle. absurd (placed_busy (state v) len tests (places.order.1).0 idle) };
      disk = placed.disk;
      writes = record {
        rest = placed.writes.rest;
        counted = λ tells. subst (λ (n : ℕ). (M.ledger c.placed.new.m).written ≡ (M.ledger c.args.m.now).written + reserve_len (state v) n) same (placed.writes.counted tells);
      };
      keeps = record {
        draft = (e.length ∙ c.small-size.ensures, e.draft);
        state = tt;
        kept = reserves (sectors_for len) (state v) (state mid) (state new) runs c.begun.result places.kept e.runs e.serial e.takes;
      };
      causes = tt;
      done = λ h k stands.
          let p = subst (λ (n : ℕ). EndsPlace n k mid now (Ok runs)) same (placed.done h k stands) in
          begun_ends v len k tests.1.0 stands.fits mid new runs c.begun.result now places.kept p e.runs e.serial
          (subst (λ (n : ℕ). Stands state IsMemoryOf new (with_opened (drawn_known p.after) (draft_begun p.after.opened runs n)) now) c.small-size.ensures (e.stands p.after now p.stands));
    }
