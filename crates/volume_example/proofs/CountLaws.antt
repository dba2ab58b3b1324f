-- A walk that has met all entries has met as many as there are files.
use Rattle.std.proofs.Common.{◌≡◌, ℕ, List, length, sym, ◌∙◌, ap}
use Rattle.fsd_formats.specs.declared.entry.Entry.{Entry}
use Rattle.fsd_files.specs.Kept.{Lists}
use Rattle.fsd_files.specs.Volume.{Volume}
use Rattle.fsd_files.proofs.ListingLaws.{lists_length}

pub all_counted : (w : Volume) (front : List Entry) (count : ℕ) → length front ≡ count → Lists w.files w.entries → w.entries ≡ front → count ≡ length w.files
all_counted w front count met lists all = sym met ∙ ap (λ (x : List Entry). length x) (sym all) ∙ sym (lists_length w.files w.entries lists)
