use Rattle.std.proofs.Common.{◌≡◌, ◌+◌, ◌*◌, ◌∙◌, List, ℕ, length, take, ap, arith, subst}
use Rattle.std.specs.Prelude.{OnOk}
use Rattle.std.proofs.lemmas.List.{length-take-le}
use Rattle.sector_disk.specs.Calls.{WritesDisk, device_in, failed_at}
use Rattle.sector_disk.specs.Image.{stand}
use Rattle.sector_disk.specs.Machine.{Holds, wrote}
use Rattle.sector_disk.proofs.CallLaws.{writes_more}
use Rattle.volume_layout.specs.declared.kind.Kind.{Kind}
use Rattle.volume_layout.specs.Kinds.{gap_of, more}
use Rattle.fsd_log.specs.Laid.{laid_bytes}
use Rattle.log_thirds.specs.Append.{StandsInPart}
use Rattle.log_thirds.proofs.WriteLaws.{torn_part, whole_sectors}
use Rattle.log_thirds.proofs.write.write_record.Given as given
use Rattle.log_thirds.proofs.write.write_record.Goals.{After-write_sectors}
use Rattle.log_thirds.proofs.write.write_record.Goals as goal

-- the sectors of the record, by the gap that was asked for
abbrev count : (g : given.Over) (c : After-write_sectors g) → ℕ
count g c = 2 * length c.args.pages.now + (5 + 2 * c.more-gap.result)

gap_is : (g : given.Over) (c : After-write_sectors g) → c.more-gap.result ≡ gap_of c.args.layout.now
gap_is g c = c.more-gap.ensures.value ∙ ap more c.kind-kind.ensures

abbrev laid : (g : given.Over) (c : After-write_sectors g) → List ℕ
laid g c = laid_bytes (gap_of c.args.layout.now) (record { epoch = c.args.epoch; number = c.args.number }) c.args.pages.now c.args.images.now

laid_is : (g : given.Over) (c : After-write_sectors g) → take (512 * count g c) c.lay.new.out ≡ laid g c
laid_is g c =
    ap (λ (gap : ℕ). take (512 * (2 * length c.args.pages.now + (5 + 2 * gap))) c.lay.new.out) c.more-gap.ensures.value
    ∙ c.lay.ensures.laid
    ∙ ap (λ (kind : Kind). laid_bytes (more kind) (record { epoch = c.args.epoch; number = c.args.number }) c.args.pages.now c.args.images.now) c.kind-kind.ensures

long : (g : given.Over) (c : After-write_sectors g) → length (take (512 * count g c) c.lay.new.out) ≡ 512 * count g c
long g c = length-take-le (512 * count g c) c.lay.new.out (omega (arith, c.lay.auto.out, c.requires, c.more-gap.ensures.most))

pub returns-clause-writes : goal.returns-clause-writes
returns-clause-writes g c =
    let M = g.M.Machine in
    subst (λ (gap : ℕ). WritesDisk M (device_in failed_at c.write_sectors.result) (StandsInPart c.args.place (laid g c) (2 * length c.args.pages.now + (5 + 2 * gap))) c.args.m.now c.write_sectors.new.m) (gap_is g c)
    (writes_more c.write_sectors.ensures.writes (λ h left torn. torn_part c.args.place (take (512 * count g c) c.lay.new.out) (laid g c) (count g c) (laid_is g c) (long g c) (M.now c.args.m.now) left torn))

pub returns-clause-counted : goal.returns-clause-counted
returns-clause-counted g c =
    let M = g.M.Machine in
    let old = c.args.m.now in
    subst (λ (gap : ℕ). OnOk c.write_sectors.result (M.tells c.write_sectors.new.m → M.ledger c.write_sectors.new.m ≡ wrote (M.ledger old) (2 * length c.args.pages.now + (5 + 2 * gap)))) (gap_is g c)
    (subst (λ (k : ℕ). OnOk c.write_sectors.result (M.tells c.write_sectors.new.m → M.ledger c.write_sectors.new.m ≡ wrote (M.ledger old) k)) (whole_sectors (take (512 * count g c) c.lay.new.out) (count g c) (long g c)) c.write_sectors.ensures.counted)

pub returns-clause-done : goal.returns-clause-done
returns-clause-done g c =
    let M = g.M.Machine in
    let old = M.now c.args.m.now in
    subst (λ (gap : ℕ). OnOk c.write_sectors.result (M.honest c.write_sectors.new.m → Holds old (stand old.image c.args.place (laid g c) (2 * length c.args.pages.now + (5 + 2 * gap))) (M.now c.write_sectors.new.m))) (gap_is g c)
    (subst (λ (b : List ℕ). OnOk c.write_sectors.result (M.honest c.write_sectors.new.m → Holds old (stand old.image c.args.place b (count g c)) (M.now c.write_sectors.new.m))) (laid_is g c)
    (subst (λ (k : ℕ). OnOk c.write_sectors.result (M.honest c.write_sectors.new.m → Holds old (stand old.image c.args.place (take (512 * count g c) c.lay.new.out) k) (M.now c.write_sectors.new.m))) (whole_sectors (take (512 * count g c) c.lay.new.out) (count g c) (long g c)) c.write_sectors.ensures.done))
