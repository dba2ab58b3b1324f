use Rattle.std.proofs.Common.{◌≡◌, ◌∙◌, Err, None, Some, ap, set, subst, sym, true}
use Rattle.std.specs.Prelude.{is_none, slice_index_or}
use Rattle.std.proofs.lemmas.Result.{err_from_is_err_and}
use Rattle.std.specs.List.{list_any}
use Rattle.fsd_bytes.specs.declared.refusal.Refusal.{Refusal}
use Rattle.fsd_table.specs.Reached.{ReachesPage, HasEntry}
use Rattle.volume_contract.specs.Pieces.{EndsHold}
use Rattle.volume_contract.specs.State.{State}
use Rattle.volume_laws.specs.State.{IsMemoryOf, resident, state}
use Rattle.volume_laws.proofs.RangeLaws.{handed}
use Rattle.volume_laws.proofs.AbsentLaws.{not_handed}
use Rattle.volume_laws.proofs.CauseLaws.{handed_cause}
use Rattle.volume_laws.proofs.HoldLaws.{hold_done, hold_refused, hold_token, shows_held}
use Rattle.table_volume.proofs.files.VolumeFiles.hold.Goals as goal

pub held_at-place-requires-clause-taken : goal.held_at-place-requires-clause-taken
held_at-place-requires-clause-taken g c = c.in_ok-entry.ensures.gives.here

pub held_at-place-requires-clause-place : goal.held_at-place-requires-clause-place
held_at-place-requires-clause-place g c = subst (λ (s : State). list_any is_none s.readers ≡ true) (sym c.in_ok-entry.ensures.state) c.requires.place

pub returns-clause-order : goal.returns-clause-order
returns-clause-order g c = record { follows = c.in_ok-entry.ensures.order.follows; idle = c.in_ok-entry.ensures.order.idle }

pub returns-clause-state : goal.returns-clause-state
returns-clause-state g c =
    let e = c.held_at-place.ensures in
    record {
      is = e.state ∙ ap (λ (s : State). record s { readers = set s.readers c.held_at-place.result (Some c.in_ok-entry.entry.runs) }) c.in_ok-entry.ensures.state;
      empty = ap (λ (s : State). slice_index_or s.readers c.held_at-place.result None) (sym c.in_ok-entry.ensures.state) ∙ e.empty;
    }

pub returns-clause-held : goal.returns-clause-held
returns-clause-held g c =
    let same : (state c.held_at-place.new.self).layout ≡ (state c.args.self.now).layout = ap (λ (s : State). s.layout) c.held_at-place.ensures.state ∙ ap (λ (s : State). s.layout) c.in_ok-entry.ensures.state in
    let met = c.in_ok-entry.ensures.gives.met in
    hold_token _ _ (state c.args.self.now).layout same met.entry met.within c.held_at-place.ensures.inside c.held_at-place.ensures.there

pub returns-clause-tells : goal.returns-clause-tells
returns-clause-tells g c =
    let M = g.M.Machine in
    let s = state c.args.self.now in
    let tells = c.in_ok-entry.ensures.gives.tells in
    record {
      key = tells.key;
      taken = tells.taken;
      causes = tt;
      absent = λ is. absurd (cc is);
      found = λ honest.
          shows_held s (state c.version.new.self) (state c.held_at-place.new.self) (resident c.args.self.now) (M.now c.args.m.now) (M.now c.version.new.m) (ReachesPage (HasEntry c.in_ok-entry.entry)) _ c.held_at-place.ensures.state (tells.found honest);
    }

pub returns-clause-done : goal.returns-clause-done
returns-clause-done g c = λ h k stands.
    let there = c.in_ok-entry.ensures.stands h k stands in
    hold_done c.args.key.now k c.version.new.self c.held_at-place.new.self (g.M.Machine.now c.version.new.m) _ (c.in_ok-entry.ensures.done h k stands) there (λ bytes has kept. c.held_at-place.ensures.stands k (g.M.Machine.now c.version.new.m) bytes has kept there)

-- ---- the look-up is refused

pub returns-in_err-entry-clause-order : goal.returns-in_err-entry-clause-order
returns-in_err-entry-clause-order g c =
    let p = err_from_is_err_and c.from_residual.result c.from_residual.ensures.1 in
    rw (p.1, p.2) (record { follows = c.in_err-entry.ensures.order.follows; idle = c.in_err-entry.ensures.order.idle })

pub returns-in_err-entry-clause-done : goal.returns-in_err-entry-clause-done
returns-in_err-entry-clause-done g c = λ h k stands.
    let now = g.M.Machine.now c.version.new.m in
    let why = c.in_err-entry.field-0.0 in
    handed (EndsHold state IsMemoryOf c.args.key.now k c.version.new.self now) c.from_residual.result why c.from_residual.ensures.1
    (hold_refused c.args.key.now k c.version.new.self now why (c.in_err-entry.ensures.done h k stands) (c.in_err-entry.ensures.stands h k stands))

pub returns-in_err-entry-clause-tells : goal.returns-in_err-entry-clause-tells
returns-in_err-entry-clause-tells g c =
    let v = c.args.self.now in
    let failed = c.in_err-entry.ensures.gives.tells in
    let why = c.in_err-entry.field-0.0 in
    let back = c.from_residual in
    let p = err_from_is_err_and back.result back.ensures.1 in
    record {
      key = rw p.1 tt;
      taken = rw p.1 tt;
      causes = handed_cause g.M.Machine (resident v) (state v) (state c.version.new.self) c.args.m.now c.version.new.m why back.result back.ensures.1 failed.causes;
      absent = not_handed why back.result back.ensures.1 (λ same. failed.absent (ap (λ (x : Refusal). Err x) same));
      found = rw p.1 tt;
    }
