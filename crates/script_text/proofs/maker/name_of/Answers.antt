use Rattle.std.proofs.Common.{◌∙◌, sym, ap, subst}
use Rattle.std.specs.Prelude.{IsOk}
use Rattle.fsd_bytes.specs.Names.{name_of}
use Rattle.script_text.proofs.MakerLaws.{made_named}
use Rattle.script_text.proofs.maker.name_of.Goals as goal

pub unwrap-requires : goal.unwrap-requires
unwrap-requires c = subst (λ r. IsOk r) (sym (c.parse.ensures ∙ ap name_of (c.as_bytes.ensures.value ∙ c.in_ok-text.ensures.ok))) (made_named c.args.number c.requires)
