use Rattle.std.proofs.Common.{inr, [], ◌∷◌, refl, sym, ◌∙◌, subst}
use Rattle.sector_disk.specs.declared.machine.Seen.{Seen}
use Rattle.fsd_files.specs.Scrub.{Sees, slice_place}
use Rattle.std.proofs.lemmas.List.{append-nil}
use Rattle.scrub.proofs.data.look_at.Goals as goal

pub returns-in-Ok-clause-adds : goal.returns-in-Ok-clause-adds
returns-in-Ok-clause-adds g c = λ h.
    let sees = subst (λ (seen : Seen). Sees (slice_place c.args.e.now c.args.slice) (g.M.Machine.now c.args.m.now).image (g.M.Machine.now c.probe.new.m).image seen) c.in-Ok-Damaged.field-0-is (c.in-Ok-Damaged.ensures.sees h) in
    record { more = _ ∷ []; is = c.in-Ok.ensures.ok; finds = inr ([], refl, sees, refl) }

pub returns-in-Err-put_found-clause-adds : goal.returns-in-Err-put_found-clause-adds
returns-in-Err-put_found-clause-adds g c = λ h. record {
  more = [];
  is = c.in-Err-put_found.ensures.err ∙ sym (append-nil c.args.found.now.items);
  finds = record { done = []; rest = _ ∷ []; are = refl; picks = refl };
}
