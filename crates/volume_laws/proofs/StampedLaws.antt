-- A page that is stamped reads as it did.
use Rattle.std.proofs.Common.{◌≡◌, ℕ, ◌<◌, Bool, true, false, cond, ◌&&◌, List, length, drop, Some, None, refl, sym, ap, ◌∙◌, arith}
use Rattle.std.proofs.lemmas.Bool.{and_parts, and_from, cond-true}
use Rattle.std.proofs.lemmas.Nat.{from_be_bytes-to_be_bytes_4}
use Rattle.run_table.specs.Space.{contains}
use Rattle.fsd_bytes.specs.Bytes.{same_bytes, u8_at, u16_at, u32_at}
use Rattle.fsd_bytes.proofs.SameLaws.{given_if, is_same, same_is}
use Rattle.fsd_formats.specs.NamePage.{Content, content_from, is_page, page_bytes, read_page, stamp_at}
use Rattle.fsd_formats.specs.Record.{Stamp, ascending}
use Rattle.fsd_log.specs.Borne.{FitsStamp}
use Rattle.fsd_sound.specs.Mounted.{image_at}
use Rattle.group_commit.specs.Resident.{stamped, with_stamp}
use Rattle.group_commit.proofs.ImageLaws.{length-stamped, stamped_at, stamped_other}
use Rattle.group_commit.proofs.StampedPages.{stamped_page}
use Rattle.volume_laws.proofs.SameTableLaws.{ReadSame, at_read, read_at}

-- ---- one page

module _ (stamp : Stamp) (small : FitsStamp stamp) (page p : ℕ) where
  -- pages that differ in their stamps alone read the same
  spelled_same : (old : Stamp) (y x : Content) → read_page page p (page_bytes page old y) ≡ Some x → y ≡ x → read_page page p (page_bytes page stamp y) ≡ Some x
  spelled_same old y x is same =
      let z : Content = content_from (u8_at 4 (page_bytes page old y)) (u16_at 6 (page_bytes page old y)) (drop 24 (page_bytes page old y)) in
      let made = given_if (is_page page p z && same_bytes (page_bytes page (stamp_at 16 (page_bytes page old y)) z) (page_bytes page old y)) z x is in
      let accepted : is_page page p z ≡ true = (and_parts (is_page page p z) (same_bytes (page_bytes page (stamp_at 16 (page_bytes page old y)) z) (page_bytes page old y)) made.0).0 in
      let bytes = page_bytes page stamp y in
      let z_is : z ≡ y = made.1 ∙ sym same in
      let e : u32_at 16 (page_bytes page stamp y) ≡ stamp.epoch = from_be_bytes-to_be_bytes_4 stamp.epoch small.epoch in
      let n : u32_at 20 (page_bytes page stamp y) ≡ stamp.number = from_be_bytes-to_be_bytes_4 stamp.number small.number in
      let stamp_is : stamp_at 16 (page_bytes page stamp y) ≡ stamp = λ i. record { epoch = e i; number = n i } in
      ap (λ (w : Content). cond (is_page page p w && same_bytes (page_bytes page (stamp_at 16 bytes) w) bytes) (Some w) None) z_is
      ∙ ap (λ (s : Stamp). cond (is_page page p y && same_bytes (page_bytes page s y) bytes) (Some y) None) stamp_is
      ∙ cond-true (is_page page p y && same_bytes bytes bytes) (Some y) None (and_from (is_page page p y) (same_bytes bytes bytes) (ap (is_page page p) (sym z_is) ∙ accepted) (is_same bytes))
      ∙ ap (λ (w : Content). Some w) same

  pub stamped_reads : (bytes : List ℕ) (x : Content) → read_page page p bytes ≡ Some x → read_page page p (with_stamp stamp bytes) ≡ Some x
  stamped_reads bytes x is =
      let y : Content = content_from (u8_at 4 bytes) (u16_at 6 bytes) (drop 24 bytes) in
      let made = given_if (is_page page p y && same_bytes (page_bytes page (stamp_at 16 bytes) y) bytes) y x is in
      let spelled : page_bytes page (stamp_at 16 bytes) y ≡ bytes =
      same_is (page_bytes page (stamp_at 16 bytes) y) bytes (and_parts (is_page page p y) (same_bytes (page_bytes page (stamp_at 16 bytes) y) bytes) made.0).1 in
      let now : with_stamp stamp bytes ≡ page_bytes page stamp y = ap (with_stamp stamp) (sym spelled) ∙ stamped_page page (stamp_at 16 bytes) stamp y in
      ap (read_page page p) now ∙ spelled_same (stamp_at 16 bytes) y x (ap (read_page page p) spelled ∙ is) made.1

-- ---- the pages of a list

pub reads_stamped : (stamp : Stamp) (dirty : List ℕ) (pages : List (List ℕ)) → FitsStamp stamp → ((page : ℕ) → contains dirty page ≡ true → ascending dirty ≡ true) → ReadSame pages (stamped stamp dirty pages)
reads_stamped stamp dirty pages small ascends page x is =
    let here = at_read pages page x is in
    let size = length-stamped stamp dirty pages in
    read_at (stamped stamp dirty pages) page x (omega (arith, here.0, size))
    (ap (λ (n : ℕ). read_page page n (image_at (stamped stamp dirty pages) page)) size ∙ by (contains dirty page) refl here.0 here.1)
  where
    by : (b : Bool) → contains dirty page ≡ b → page < length pages → read_page page (length pages) (image_at pages page) ≡ Some x → read_page page (length pages) (image_at (stamped stamp dirty pages) page) ≡ Some x
    by true waits lt reads =
        ap (read_page page (length pages)) (stamped_at stamp dirty pages page (ascends page waits) waits lt) ∙ stamped_reads stamp small page (length pages) (image_at pages page) x reads
    by false rests lt reads = ap (read_page page (length pages)) (stamped_other stamp dirty pages page rests) ∙ reads
