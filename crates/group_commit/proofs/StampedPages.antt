-- A page that is stamped again has what it had.
use Rattle.std.proofs.Common.{◌≡◌, ℕ, refl}
use Rattle.fsd_bytes.specs.Bytes.{with_bytes}
use Rattle.fsd_formats.specs.Record.{Stamp, stamp_bytes}
use Rattle.fsd_formats.specs.NamePage.{Content, page_bytes}

pub stamped_page : (page : ℕ) (old new : Stamp) (x : Content) → with_bytes 16 (stamp_bytes new) (page_bytes page old x) ≡ page_bytes page new x
stamped_page page old new x = refl
