-- Where no entry is there, no file is.
use Rattle.std.proofs.Common.{◌≡◌, List, Option, Some, None, refl}
use Rattle.std.specs.FinMap.{find}
use Rattle.fsd_bytes.specs.declared.key.Key.{Key}
use Rattle.fsd_bytes.specs.Keys.{key_cmp}
use Rattle.fsd_formats.specs.declared.entry.Entry.{Entry}
use Rattle.fsd_files.specs.Answers.{entry_of}
use Rattle.fsd_files.specs.Files.{File, Files}
use Rattle.fsd_files.specs.Kept.{Lists}
use Rattle.fsd_files.proofs.ListingLaws.{AreFound, found_both}

neither : (key : Key) (o : Option File) (p : Option Entry) → AreFound key o p → p ≡ None → o ≡ None
neither key None p both none = refl
neither key (Some file) None both none = absurd both
neither key (Some file) (Some e) both none = cc none

pub no_file : (key : Key) (s : Files) (entries : List Entry) → Lists s entries → entry_of key entries ≡ None → find key_cmp key s ≡ None
no_file key s entries lists none = neither key (find key_cmp key s) (entry_of key entries) (found_both key s entries lists) none
