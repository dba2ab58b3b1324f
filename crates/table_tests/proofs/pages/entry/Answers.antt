use Rattle.std.proofs.Common.{◌≡◌, true, List, [], ◌∷◌, ◌++◌, ap, sym, refl, ◌∙◌}
use Rattle.std.proofs.lemmas.Bool.{and_from, le-leb}
use Rattle.fsd_bytes.specs.Names.{is_name}
use Rattle.fsd_bytes.proofs.NameLaws.{a_name}
use Rattle.run_table.specs.declared.run.Run.{Run}
use Rattle.run_table.specs.RunTable.{run_of}
use Rattle.fsd_formats.specs.NamePage.{is_entry}
use Rattle.table_tests.proofs.pages.entry.Goals as goal

pub returns-in-Ok : goal.returns-in-Ok
returns-in-Ok c =
    let named = a_name c.args.name.now c.in-Ok.name (sym c.parse.ensures ∙ c.in-Ok.is) in
    let is : is_name c.in-Ok.name ≡ true = ap is_name named.1 ∙ named.0 in
    let runs : c.push.new.self ≡ run_of c.args.start 1 ∷ [] = c.push.ensures ∙ ap (λ (x : List Run). x ++ run_of c.args.start 1 ∷ []) c.new-runs.ensures in
    ap (λ (x : List Run). is_entry (record { key = record { name = c.in-Ok.name; version = c.args.version }; keep = 2; serial = record { epoch = 2; count = 1 }; length = 0; runs = x })) runs
    ∙ and_from _ _ (and_from _ _ (and_from _ _ (and_from _ _ (and_from _ _ is (le-leb 1 c.args.version c.requires)) refl) refl) refl) refl
