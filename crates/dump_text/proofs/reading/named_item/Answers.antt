use Rattle.std.proofs.Common.{refl, sym, subst, ◌∙◌}
use Rattle.std.specs.Result.{IsOk}
use Rattle.dump_text.proofs.Fields.{name_again}
use Rattle.dump_text.proofs.reading.named_item.Goals as goal

pub unwrap-requires : goal.unwrap-requires
unwrap-requires c = subst IsOk (sym (c.parse.ensures ∙ name_again c.args.name.now c.requires)) refl
