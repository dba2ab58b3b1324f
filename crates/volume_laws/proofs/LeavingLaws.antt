-- The versions of a name that go once there is one more: those of the files are those of their entries.
use Rattle.std.proofs.Common.{◌≡◌, ℕ, List, [], ◌∷◌, ◌++◌, map, Option, refl, ap, ◌∙◌}
use Rattle.std.specs.Prelude.{T}
use Rattle.std.specs.FinMap.{is_sorted}
use Rattle.std.proofs.lemmas.List.{map-append}
use Rattle.fsd_bytes.specs.Bytes.{same_bytes}
use Rattle.fsd_bytes.specs.declared.key.Key.{Key}
use Rattle.fsd_bytes.specs.Keys.{key_cmp}
use Rattle.fsd_formats.specs.declared.entry.Entry.{Entry}
use Rattle.fsd_files.specs.Files.{File, Files, gone, gone_keys, new_keep, new_key, of_name, with_new}
use Rattle.fsd_files.specs.Kept.{Lists}
use Rattle.fsd_files.proofs.FreshLaws.{new_is_highest, stands_last}
use Rattle.fsd_files.proofs.ListingLaws.{lists_kept}
use Rattle.fsd_files.proofs.MoveLaws.{gone_mapped, keys_alike}
use Rattle.version_table.specs.Versions.{leaving_keys, next_key, versions_of}
use Rattle.version_table.proofs.PlanLaws.{keeps_agree, keys_agree}

-- the files' words and the entries' words are the same
pub gone_leave : (name : List ℕ) (given : Option ℕ) (bytes : List ℕ) (s : Files) (table : List Entry) → T (is_sorted key_cmp s) → Lists s table → gone_keys name given bytes s ≡ leaving_keys name given table
gone_leave name given bytes s table sorted lists =
    gone_mapped (λ y. y.0) (new_keep name given s) (of_name name (with_new name given bytes s)) ∙ (λ i. gone (keeps_agree name given s table lists i) (same i))
  where
    comer : File
    comer = record { bytes = bytes; keep = new_keep name given s }

    same : map (λ y. y.0) (of_name name (with_new name given bytes s)) ≡ map (λ e. e.key) (versions_of name table) ++ next_key name table ∷ []
    same =
        ap (map (λ (y : Key × File). y.0)) (stands_last name (new_key name s) comer refl s sorted (new_is_highest name s sorted))
        ∙ map-append (λ (y : Key × File). y.0) (of_name name s) ((new_key name s, comer) ∷ [])
        ∙ (λ i. keys_alike (of_name name s) (versions_of name table) (lists_kept (λ k. same_bytes name k.name) s table lists) i ++ keys_agree name s table lists i ∷ [])
