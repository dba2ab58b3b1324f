-- Worked examples of what a list says.
use Rattle.std.proofs.Common.{◌≡◌, [], ◌++◌, None, refl, codes}
use Rattle.std.specs.Fmt.{digits}
use Rattle.fsd_texts.specs.Text.{newline}
use Rattle.fsd_files.specs.Files.{Change, step}
use Rattle.cfs_program.specs.Drill.{list_text}

of_none : list_text [] ≡ codes "listed 0" ++ newline
unfolding digits
of_none = refl

of_one : list_text (step [] (Change.Put (codes "a") None (codes "hi"))) ≡ codes "a!1 2 2 2" ++ newline ++ codes "listed 1" ++ newline
unfolding digits
of_one = refl
