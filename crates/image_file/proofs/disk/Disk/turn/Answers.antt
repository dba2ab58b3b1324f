use Rattle.std.proofs.Common.{sym, subst}
use Rattle.image_file.specs.declared.ahead.Ahead.{Ahead}
use Rattle.image_file.specs.Ahead.{HasNone}
use Rattle.image_file.proofs.disk.Disk.turn.Goals as goal

pub returns : goal.returns
returns c = record {
  ahead = subst (λ (a : Ahead). HasNone a) (sym c.sync.ensures.ahead) c.drop_all.ensures;
  synced = c.sync.ensures.synced;
  told = c.sync.ensures.told;
  broken = c.sync.ensures.broken;
}
