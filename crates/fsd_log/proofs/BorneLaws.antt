-- Sectors that bear nothing of a record.
use Rattle.std.proofs.Common.{◌≡◌, ℕ, true, false, ◌&&◌, ◌||◌, List, take, Option, Some, None, refl, sym, ap, ◌∙◌}
use Rattle.std.specs.Prelude.{codes, if◌then◌else◌, ◌==◌}
use Rattle.std.proofs.lemmas.Bool.{and_parts, eqb-true, false_from_ne_true}
use Rattle.std.proofs.lemmas.Nat.{from_be_bytes-to_be_bytes_4}
use Rattle.fsd_bytes.specs.Bytes.{u32_at, same_bytes}
use Rattle.fsd_formats.specs.Record.{Stamp, same_stamp, header_bytes, end_bytes, read_header, is_end, bears}
use Rattle.fsd_bytes.proofs.SameLaws.{same_is}
use Rattle.fsd_formats.proofs.SpellingLaws.{header_is_spelled}
use Rattle.fsd_log.specs.Judged.{passes}
use Rattle.fsd_log.specs.Borne.{borne_by, Foreign, FitsStamp}
use Rattle.fsd_formats.specs.NamePage.{stamp_at}

pub none_of : {A : Type 0} (o : Option A) → ((x : A) → o ≡ Some x → ⊥) → o ≡ None
none_of None no_such = refl
none_of (Some x) no_such = absurd (no_such x refl)

module _ (stamp : Stamp) (fits : FitsStamp stamp) where
  pub header_bears : (pages : List ℕ) → borne_by (header_bytes stamp pages) ≡ Some stamp
  header_bears pages =
      let e : u32_at 4 (header_bytes stamp pages) ≡ stamp.epoch = from_be_bytes-to_be_bytes_4 stamp.epoch fits.epoch in
      let n : u32_at 8 (header_bytes stamp pages) ≡ stamp.number = from_be_bytes-to_be_bytes_4 stamp.number fits.number in
      λ i. Some (record { epoch = e i; number = n i })

  pub end_bears : (n : ℕ) → borne_by (end_bytes stamp n) ≡ Some stamp
  end_bears n =
      let e : u32_at 4 (end_bytes stamp n) ≡ stamp.epoch = from_be_bytes-to_be_bytes_4 stamp.epoch fits.epoch in
      let m : u32_at 8 (end_bytes stamp n) ≡ stamp.number = from_be_bytes-to_be_bytes_4 stamp.number fits.number in
      λ i. Some (record { epoch = e i; number = m i })

by_front : List ℕ → List ℕ → Option Stamp
by_front front bytes =
    if same_bytes front (codes "CLHD") || same_bytes front (codes "CLEN") then Some (stamp_at 4 bytes)
    else (if same_bytes front (codes "CNPG") then Some (stamp_at 16 bytes) else None)

pub page_bears : (page : ℕ) (stamp : Stamp) (bytes : List ℕ) → bears page stamp bytes ≡ true → borne_by bytes ≡ Some stamp
unfolding by_front
page_bears page stamp bytes h =
    let outer = and_parts (same_bytes (take 4 bytes) (codes "CNPG") && u32_at 12 bytes == page) (same_stamp (stamp_at 16 bytes) stamp) h in
    let front : take 4 bytes ≡ codes "CNPG" = same_is (take 4 bytes) (codes "CNPG") (and_parts (same_bytes (take 4 bytes) (codes "CNPG")) (u32_at 12 bytes == page) outer.0).0 in
    let inner = and_parts (u32_at 16 bytes == stamp.epoch) (u32_at 20 bytes == stamp.number) outer.1 in
    let e : u32_at 16 bytes ≡ stamp.epoch = eqb-true (u32_at 16 bytes) stamp.epoch inner.0 in
    let n : u32_at 20 bytes ≡ stamp.number = eqb-true (u32_at 20 bytes) stamp.number inner.1 in
    ap (λ (f : List ℕ). by_front f bytes) front ∙ λ i. Some (record { epoch = e i; number = n i })

-- a sector that bears nothing of a record is no part of it
module _ (stamp : Stamp) (fits : FitsStamp stamp) where
  pub foreign_header : (p : ℕ) (bytes : List ℕ) → Foreign stamp (Some bytes) → read_header p stamp bytes ≡ None
  foreign_header p bytes foreign = none_of (read_header p stamp bytes) (λ pages is. foreign (ap borne_by (header_is_spelled p stamp bytes pages is) ∙ header_bears stamp fits pages))

  pub foreign_end : (n : ℕ) (o : Option (List ℕ)) → Foreign stamp o → passes (is_end stamp n) o ≡ false
  foreign_end n None foreign = refl
  foreign_end n (Some bytes) foreign = false_from_ne_true (is_end stamp n bytes) (λ is. foreign (ap borne_by (sym (same_is (end_bytes stamp n) bytes is)) ∙ end_bears stamp fits n))

pub foreign_page : (page : ℕ) (stamp : Stamp) (o : Option (List ℕ)) → Foreign stamp o → passes (bears page stamp) o ≡ false
foreign_page page stamp None foreign = refl
foreign_page page stamp (Some bytes) foreign = false_from_ne_true (bears page stamp bytes) (λ is. foreign (page_bears page stamp bytes is))
