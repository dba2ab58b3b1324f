use Rattle.std.proofs.Common.{◌≡◌, ◌∙◌, ap, length}
use Rattle.volume_layout.specs.declared.kind.Kind.{Kind}
use Rattle.volume_layout.specs.Kinds.{more}
use Rattle.fsd_log.specs.Judged.{judged}
use Rattle.log_record.specs.Found.{read_of}
use Rattle.log_thirds.proofs.form.judge.Goals as goal

pub returns-clause-judged : goal.returns-clause-judged
returns-clause-judged c =
    c.judge.ensures.judged
    ∙ ap (λ (kind : Kind). judged (more kind) c.args.p (record { epoch = c.args.epoch; number = c.args.number }) (length c.args.whole.now) (read_of c.args.whole.now c.args.bytes.now)) c.kind.ensures
