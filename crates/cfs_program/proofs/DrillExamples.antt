-- The lists of a drill, spelled out.
use Rattle.std.proofs.Common.{◌≡◌, ◌++◌, take, refl, codes}
use Rattle.std.specs.Fmt.{digits}
use Rattle.fsd_files.specs.Files.{after}
use Rattle.fsd_texts.specs.Text.{newline}
use Rattle.cfs_program.specs.Drill.{list_text, puts}

of_both : list_text (after puts) ≡ codes "a!1 1 2 2" ++ newline ++ codes "b!1 1 2 2" ++ newline ++ codes "listed 2" ++ newline
unfolding digits
of_both = refl

of_one : list_text (after (take 1 puts)) ≡ codes "a!1 1 2 2" ++ newline ++ codes "listed 1" ++ newline
unfolding digits
of_one = refl
