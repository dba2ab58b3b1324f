use Rattle.std.proofs.Common.{rules, ◌≡◌, length, take, drop, ◌∙◌, refl, ◌+◌, ◌*◌, ◌++◌, subst, ℕ}
use Rattle.log_record.proofs.laying.lay.Goals as goal
use Rattle.volume_layout.specs.Kinds.{more}
use Rattle.fsd_formats.specs.Record.{record_len}
use Rattle.fsd_log.specs.Laid.{blanks, laid_bytes}
use Rattle.log_record.proofs.Loops.{laid_rows, lay_front, lay_rest}

pub returns-clause-laid : goal.returns-clause-laid
unfolding laid_bytes
returns-clause-laid c =
    let h = c.header_bytes-header.result in
    let e = c.end_bytes-end.result in
    let lh : length h ≡ 512 = search rules in
    let le : length e ≡ 512 = search rules in
    subst (λ (gap : ℕ). take (512 * record_len gap (length c.args.pages.now)) c.write_at-6.new.out ≡ laid_rows gap h c.args.images.now e) c.more-gap.ensures.value
    (lay_front c.more-gap.result h c.args.images.now e (length c.args.pages.now) lh le c.requires.images c.args.out.now c.write_at.new.out c.write_blanks.new.out c.write_at-2.new.out c.write_at-3.new.out c.write_at-4.new.out c.write_blanks-2.new.out c.write_at-5.new.out c.write_at-6.new.out
    (1536 + 512 * c.more-gap.result) refl c.write_at.ensures c.write_blanks.ensures c.write_at-2.ensures c.write_at-3.ensures c.write_at-4.ensures c.write_blanks-2.ensures c.write_at-5.ensures c.write_at-6.ensures)
    ∙ (λ i. laid_rows (more c.args.kind) (c.header_bytes-header.ensures i) c.args.images.now (c.end_bytes-end.ensures i))

pub returns-clause-rest : goal.returns-clause-rest
returns-clause-rest c =
    let h = c.header_bytes-header.result in
    let e = c.end_bytes-end.result in
    let lh : length h ≡ 512 = search rules in
    let le : length e ≡ 512 = search rules in
    subst (λ (gap : ℕ). drop (512 * record_len gap (length c.args.pages.now)) c.write_at-6.new.out ≡ drop (512 * record_len gap (length c.args.pages.now)) c.args.out.now) c.more-gap.ensures.value
    (lay_rest c.more-gap.result h c.args.images.now e (length c.args.pages.now) lh le c.requires.images c.args.out.now c.write_at.new.out c.write_blanks.new.out c.write_at-2.new.out c.write_at-3.new.out c.write_at-4.new.out c.write_blanks-2.new.out c.write_at-5.new.out c.write_at-6.new.out
    (1536 + 512 * c.more-gap.result) refl c.write_at.ensures c.write_blanks.ensures c.write_at-2.ensures c.write_at-3.ensures c.write_at-4.ensures c.write_blanks-2.ensures c.write_at-5.ensures c.write_at-6.ensures)
