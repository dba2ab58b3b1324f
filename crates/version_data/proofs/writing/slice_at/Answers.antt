use Rattle.std.proofs.Common.{◌∙◌, refl}
use Rattle.version_data.proofs.LayLaws.{slice_is}
use Rattle.version_data.proofs.writing.slice_at.Goals as goal

pub returns : goal.returns
returns c =
    slice_is c.args.bytes.now c.split_at.result.1.now c.copy_from_slice.new.self _ c.min.result c.args.k c.min-n.result
    c.min.ensures c.split_at.ensures.back c.min-n.ensures (c.copy_from_slice.ensures.after ∙ c.split_at-2.ensures.front) refl
